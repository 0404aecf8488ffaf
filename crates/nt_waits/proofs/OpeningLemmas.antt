-- A table with no wait, whose places are empty.
use Rattle.std.proofs.Common.{◌≡◌, ◌≤◌, ℕ, List, [], length, replicate, Option, None, refl, inl, inr, arith}
use Rattle.std.proofs.lemmas.Bool.{cases_lt}
use Rattle.std.proofs.lemmas.List.{get_or-replicate, get_or_past, length-replicate}
use Rattle.std.specs.FinMap as finmap
use Rattle.nt_alarms.specs.Alarms.{alarm_at}
use Rattle.nt_waits.specs.declared.pending.Pending.{Pending}
use Rattle.nt_waits.specs.declared.room.Room.{Room}
use Rattle.nt_waits.specs.Queues.{Lists, HasRoomFor}
use Rattle.nt_waits.specs.Table.{slot_at, waits_of, IsTable, IsWhole}
use Rattle.nt_waits.proofs.AgreeLemmas.{table_none}
use Rattle.nt_waits.proofs.BeginLemmas.{table_same}
use Rattle.nt_waits.proofs.BegunLemmas.{waits_same}
use Rattle.nt_waits.proofs.CountLemmas.{len-none}
use Rattle.nt_waits.proofs.RoomLemmas.{room_left}

no_alarm : (n t : ℕ) → alarm_at (replicate n None) t ≡ None
no_alarm n t = elim (cases_lt t n) [
  | inl below ↦ get_or-replicate n t None None below
  | inr past ↦ get_or_past (replicate n None) t None (let nothing : Option ℕ = None in let long = length-replicate n nothing in omega (arith, long, past))
]

-- what empty places show
pub waits_empty : (slots : List (Option Pending)) → ((u : ℕ) → slot_at slots u ≡ None) → waits_of slots ≡ finmap.empty
waits_empty slots empty = waits_same [] slots empty

module _ (queues : Lists) (slots : List (Option Pending))
    (lists : queues.lists ≡ [])
    (empty : (u : ℕ) → slot_at slots u ≡ None)
    (few : length slots ≤ 65536) where
  pub table_empty : IsTable queues slots
  table_empty = table_same queues queues [] slots (λ h. refl) empty few (table_none queues [] lists refl)

  pub whole_empty : (deadlines : List (Option ℕ)) (room : Room) → deadlines ≡ replicate room.threads None
      → HasRoomFor queues room.threads → room.objects ≤ queues.object_room → room.threads ≤ length slots
      → IsWhole queues slots deadlines 0 room
  whole_empty deadlines room none left objects places = record {
    table = table_empty;
    counted = rw (waits_empty slots empty) (len-none [] refl);
    alarmed = λ t. rw (none, empty t) (no_alarm room.threads t);
    roomy = room_left queues slots (length deadlines) room left objects places (rw none (let nothing : Option ℕ = None in let long = length-replicate room.threads nothing in omega (arith, long)));
  }
