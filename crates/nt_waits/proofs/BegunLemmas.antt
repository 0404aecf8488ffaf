-- What a table shows once a wait has begun.
use Rattle.std.proofs.Common.{◌≡◌, ◌≢◌, ◌<◌, ◌≤◌, inl, inr, get_or, set, subst, ◌+◌, ◌∷◌, ◌++◌, [], ℕ, List, length, map, Option, None, refl, ap, sym, ◌∙◌, arith, length-set}
use Rattle.nt_status.specs.declared.limits.TheConstants.{MAX_WAIT_OBJECTS}
use Rattle.nt_waits.specs.declared.wait.Wait.{Wait}
use Rattle.nt_waits.specs.declared.pending.Pending.{Pending}
use Rattle.nt_waits.specs.declared.room.Room.{Room}
use Rattle.nt_waits.specs.Queues.{Lists, OnlyGrows, list_at}
use Rattle.nt_waits.specs.Room.{HasRoom}
use Rattle.nt_waits.specs.Link.{Link}
use Rattle.nt_waits.specs.Begun.{IsBegun}
use Rattle.nt_waits.specs.Slot.{IsFilled}
use Rattle.std.proofs.lemmas.Bool.{cases_eq}
use Rattle.std.proofs.lemmas.List.{get_or-set_same, get_or-set_other, map-append}
use Rattle.std.specs.Prelude.{nat_eq, Result, Ok, Err, OnErr}
use Rattle.std.specs.List.{IsDistinct}
use Rattle.nt_waits.proofs.BeginLemmas.{table_same, table_begun}
use Rattle.nt_waits.specs.Table.{slot_at, threads, waits_of, IsTable, IsWhole}
use Rattle.nt_waits.specs.Waits.{Waits, wait_of, Names, Begins}
use Rattle.nt_waits.proofs.ViewLemmas.{get-waits, waits-inserted, get_or-threads, None-mapped}
use Rattle.nt_waits.proofs.DeadlineLemmas.{alarmed_begun}
use Rattle.nt_waits.proofs.CountLemmas.{len-begun}
use Rattle.nt_waits.proofs.RoomLemmas.{room_kept}
use Rattle.nt_alarms.specs.Alarms.{alarm_at}
use Rattle.std.specs.Cmp.{nat_cmp_total}
use Rattle.std.specs.FinMap as finmap
use Rattle.std.specs.Option.{option_map}

-- what these queues and places show
abbrev pub view_of : Lists → List (Option Pending) → ℕ → Room → Waits
view_of queues slots looked room = record { pending = waits_of slots; queues = map threads queues.lists; looked = looked; touched = queues.touched; room = room }

-- the place of a thread that does not wait is empty
pub slot_free : (queues : Lists) (slots : List (Option Pending)) (looked : ℕ) (room : Room) (shown : Waits) (t : ℕ) → view_of queues slots looked room ≡ shown → wait_of shown t ≡ None → slot_at slots t ≡ None
slot_free queues slots looked room shown t is free = None-mapped (slot_at slots t) (sym (get-waits slots t) ∙ ap (λ v. wait_of v t) is ∙ free)

module _ (queues queues' : Lists) (slots slots' : List (Option Pending)) (t : ℕ) (wait : Wait) (begun : IsBegun queues slots queues' slots' t wait) where
  pending_begun : waits_of slots' ≡ finmap.insert (waits_of slots) t wait
  pending_begun = let placed = begun.placed in waits-inserted slots slots' t wait placed.0 placed.1 placed.2 begun.others

  pub begins : (looked : ℕ) (room : Room) → Begins (view_of queues slots looked room) (view_of queues' slots' looked room) t wait
  begins looked room = record {
    pending = pending_begun;
    joined = λ h named. get_or-threads queues'.lists h ∙ begun.joined h named ∙ ap (λ (q : List ℕ). q ++ t ∷ []) (sym (get_or-threads queues.lists h));
    queues_kept = λ h outside. get_or-threads queues'.lists h ∙ ap threads (begun.kept h outside) ∙ sym (get_or-threads queues.lists h);
    looked = refl;
    touched = begun.touched;
    room = refl;
  }

  pub whole_begun : (count : ℕ) (before mid after : List (Option ℕ)) (room : Room)
      → IsWhole queues slots before count room
      → finmap.get (waits_of slots) t ≡ None
      → ((u : ℕ) → alarm_at mid u ≡ alarm_at before u)
      → alarm_at after t ≡ wait.deadline
      → ((u : ℕ) → u ≢ t → alarm_at after u ≡ alarm_at mid u)
      → HasRoom queues' slots' (length after) room
      → IsWhole queues' slots' after (count + 1) room
  whole_begun count before mid after room whole free reserved here elsewhere roomy = record {
    table = begun.table;
    counted = rw (pending_begun, len-begun (waits_of slots) t wait free) (ap (λ (n : ℕ). n + 1) whole.counted);
    alarmed = let placed = begun.placed in alarmed_begun mid after slots slots' t wait placed.0 (λ u. reserved u ∙ whole.alarmed u) placed.1 placed.2 begun.others here elsewhere;
    roomy = roomy;
  }

-- a wait stands last in the queue of each object that it names, and the other queues are as they were
module _ (old new : Lists) (t : ℕ) (wait : Wait) (slot : Option Pending) (filled : IsFilled old new t wait slot) where
  filled_joined : (h : ℕ) → Names wait h → threads (list_at new h) ≡ threads (list_at old h) ++ t ∷ []
  filled_joined h named = subst (λ (x : ℕ). threads (list_at new x) ≡ threads (list_at old x) ++ t ∷ []) named.2 (rw (filled.3.linked.done named.0 named.1, map-append (λ (l : Link). l.thread) (list_at old (get_or wait.objects named.0 0)) _) refl)

  filled_kept : (h : ℕ) → (Names wait h → ⊥) → list_at new h ≡ list_at old h
  filled_kept h outside = filled.3.linked.others h (λ j below same. outside (j, below, same))

  pub filled_begun : (slots : List (Option Pending)) → IsTable old slots → slot_at slots t ≡ None → t < length slots → length wait.objects ≤ MAX_WAIT_OBJECTS → IsDistinct nat_eq wait.objects → IsBegun old slots new (set slots t slot) t wait
  filled_begun slots table free within few apart =
      let is = filled.2 in
      let joined = filled.3 in
      let room = joined.takes.object_room in
      record {
        table = rw filled.1 (table_begun old new slots t filled.0 table free within (rw is joined.numbered) (rw is few) (rw is apart) (rw is joined.linked) joined.distinct);
        placed = (filled.0, get_or-set_same slots t slot None within ∙ filled.1, is);
        others = λ u differs. get_or-set_other slots t u slot None differs;
        joined = filled_joined;
        kept = filled_kept;
        used = joined.takes.used;
        touched = joined.takes.touched;
        object_room = omega (arith, room);
        places = let same = length-set slots t slot in omega (arith, same);
      }

-- room that is made before a wait begins is no change
pub begun_before : (old mid new : Lists) (slots slots' after : List (Option Pending)) (t : ℕ) (wait : Wait) → OnlyGrows old mid → ((u : ℕ) → slot_at slots' u ≡ slot_at slots u) → length slots ≤ length slots' → IsBegun mid slots' new after t wait → IsBegun old slots new after t wait
begun_before old mid new slots slots' after t wait grows same more begun = record {
  table = begun.table;
  placed = begun.placed;
  others = λ u differs. begun.others u differs ∙ same u;
  joined = rw grows.lists at begun.joined;
  kept = rw grows.lists at begun.kept;
  used = rw grows.used at begun.used;
  touched = begun.touched ∙ grows.touched;
  object_room = let first = grows.object_room in let then = begun.object_room in omega (arith, first, then);
  places = let then = begun.places in omega (arith, more, then);
}

-- an empty place that is written anew
pub set_empty : (slots : List (Option Pending)) (t : ℕ) (slot : Option Pending) → t < length slots → slot_at slots t ≡ None → slot ≡ None → (u : ℕ) → slot_at (set slots t slot) u ≡ slot_at slots u
set_empty slots t slot within free none u = elim (cases_eq u t) [
  | inl same ↦ rw same (get_or-set_same slots t slot None within ∙ none ∙ sym free)
  | inr differs ↦ get_or-set_other slots t u slot None differs
]

-- places that show the same show the same waits
pub waits_same : (slots slots' : List (Option Pending)) → ((u : ℕ) → slot_at slots' u ≡ slot_at slots u) → waits_of slots' ≡ waits_of slots
waits_same slots slots' same = finmap.same_map nat_cmp_total finmap.nat_cmp-IsAntisymmetric _ _ (λ q. get-waits slots' q ∙ ap (option_map (λ (p : Pending). p.wait)) (same q) ∙ sym (get-waits slots q))

-- only room was made: the table shows what it showed
pub view_same : (queues queues' : Lists) (slots slots' : List (Option Pending)) (looked : ℕ) (room : Room) → OnlyGrows queues queues' → ((u : ℕ) → slot_at slots' u ≡ slot_at slots u) → view_of queues' slots' looked room ≡ view_of queues slots looked room
view_same queues queues' slots slots' looked room grows same = rw (waits_same slots slots' same, grows.lists, grows.touched) refl

-- only room was made: the table is whole
pub whole_reserved : (queues queues' : Lists) (slots slots' : List (Option Pending)) (alarms alarms' : List (Option ℕ)) (count : ℕ) (room : Room)
    → OnlyGrows queues queues' → ((u : ℕ) → slot_at slots' u ≡ slot_at slots u) → length slots ≤ length slots' → (length slots ≤ 65536 → length slots' ≤ 65536)
    → ((u : ℕ) → alarm_at alarms' u ≡ alarm_at alarms u) → length alarms ≤ length alarms'
    → IsWhole queues slots alarms count room
    → IsWhole queues' slots' alarms' count room
whole_reserved queues queues' slots slots' alarms alarms' count room grows same more small kept longer whole = record {
  table = table_same queues queues' slots slots' (λ h. rw grows.lists refl) same (small whole.table.small) whole.table;
  counted = rw (waits_same slots slots' same) whole.counted;
  alarmed = λ u. rw (same u) (kept u ∙ whole.alarmed u);
  roomy = room_kept queues queues' slots slots' (length alarms) (length alarms') room grows same more longer whole.roomy;
}

-- what holds, holds where a result is an error
pub on_err : {T E : Type 0} {P : Type 0} (r : Result T E) → P → OnErr r P
on_err (Ok x) p = tt
on_err (Err e) p = p
