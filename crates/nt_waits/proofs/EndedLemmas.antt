-- The table once a thread's wait has ended.
use Rattle.std.proofs.Common.{◌≡◌, ◌≢◌, ◌-◌, ℕ, Bool, true, false, List, length, set, Option, Some, None, refl, sym, ap, subst, ◌∙◌}
use Rattle.std.proofs.lemmas.Bool.{false≢true}
use Rattle.std.specs.Prelude.{IsSome}
use Rattle.std.specs.FinMap as finmap
use Rattle.std.specs.Option.{ForSome}
use Rattle.nt_alarms.specs.Alarms.{alarm_at}
use Rattle.nt_waits.specs.declared.pending.Pending.{Pending}
use Rattle.nt_waits.specs.declared.room.Room.{Room}
use Rattle.nt_waits.specs.Ended.{IsEnded}
use Rattle.nt_waits.specs.Slot.{HasLeft, kept_where}
use Rattle.nt_waits.specs.Queues.{Lists}
use Rattle.nt_waits.specs.Table.{slot_at, waits_of, IsLinked, IsTable, IsWhole}
use Rattle.nt_waits.specs.Waits.{Waits, EndsWait, IsTouched, others}
use Rattle.nt_waits.proofs.TableLemmas.{slot_within, unlinked_from, table_ended, threads_ended}
use Rattle.nt_waits.proofs.ViewLemmas.{get-waits, get_or-threads, waits-removed}
use Rattle.nt_waits.proofs.AgreeLemmas.{shown_in}
use Rattle.nt_waits.proofs.BegunLemmas.{view_of}
use Rattle.nt_waits.proofs.DeadlineLemmas.{alarmed_ended}
use Rattle.nt_waits.proofs.CountLemmas.{len-ended}
use Rattle.nt_waits.proofs.RoomLemmas.{room_ended}

-- where a place shows a wait, it is the one that lies there
pub pending_kept : (pends : Bool) (p : Pending) → IsSome (kept_where pends p) → kept_where pends p ≡ Some p
pending_kept true p there = refl
pending_kept false p there = absurd (false≢true there)

-- a place that is not empty holds a wait
pub held : (slot : Option Pending) → IsSome slot → (p : Pending) × (slot ≡ Some p)
held None there = absurd (false≢true there)
held (Some p) there = (p, refl)

-- a wait is linked also where the count is set to 0
pub linked_anew : (old mid : Lists) (t : ℕ) (p : Pending) → mid ≡ record old { touched = 0 } → IsLinked old t p → IsLinked mid t p
linked_anew old mid t p anew was = record {
  same_length = was.same_length;
  few = was.few;
  apart = was.apart;
  linked = λ j below. rw anew (was.linked j below);
}

-- its blocks left their queues, after the count was set to 0
module _ (old mid new : Lists) (slots : List (Option Pending)) (t : ℕ) (p : Pending)
    (table : IsTable old slots)
    (place : slot_at slots t ≡ Some p)
    (anew : mid ≡ record old { touched = 0 })
    (unlinked : HasLeft mid new p) where
  pub ended : IsEnded old slots new (set slots t None) t
  ended =
      let left = unlinked_from old mid new p.wait.objects p.numbers.items _ (ap (λ (q : Lists). q.lists) anew) unlinked.unlinked in
      record {
        table = table_ended old new slots t p table place left unlinked.distinct;
        emptied = refl;
        queues = threads_ended old new slots t p table place left unlinked.distinct;
        gives = record {
          used = let used = unlinked.gives.used in rw place (rw anew at used);
          capacity = let capacity = unlinked.gives.capacity in rw anew at capacity;
          object_room = let object_room = unlinked.gives.object_room in rw anew at object_room;
        };
      }

  pub touched : IsTouched p.wait new.touched
  touched = record { at_least = unlinked.at_least; at_most = unlinked.at_most }

module _ (queues queues' : Lists) (slots slots' : List (Option Pending)) (t : ℕ)
    (over : IsEnded queues slots queues' slots' t)
    (there : IsSome (slot_at slots t)) where
  pub pending_ended : waits_of slots' ≡ finmap.remove (waits_of slots) t
  pending_ended = rw over.emptied (waits-removed slots t (slot_within slots t there))

  pub whole_ended : (count : ℕ) (before after : List (Option ℕ)) (room : Room)
      → IsWhole queues slots before count room
      → IsSome (finmap.get (waits_of slots) t)
      → alarm_at after t ≡ None
      → ((u : ℕ) → u ≢ t → alarm_at after u ≡ alarm_at before u)
      → length after ≡ length before
      → IsWhole queues' slots' after (count - 1) room
  whole_ended count before after room whole pends here elsewhere long =
      let within = slot_within slots t there in
      record {
        table = over.table;
        counted = rw (pending_ended, len-ended (waits_of slots) t pends) (ap (λ (n : ℕ). n - 1) whole.counted);
        alarmed = rw over.emptied (alarmed_ended before after slots t whole.alarmed within here elsewhere);
        roomy = room_ended queues queues' slots slots' (length before) (length after) room t over there long whole.roomy;
      }

  -- what the table shows then
  pub ends_wait : (looked : ℕ) (room : Room) (shown : Waits) → view_of queues slots looked room ≡ shown → ForSome (slot_at slots t) (λ p. IsTouched p.wait queues'.touched) → EndsWait shown (view_of queues' slots' looked room) t
  ends_wait looked room shown is reached = subst (λ (v : Waits). EndsWait v (view_of queues' slots' looked room) t) is (record {
    pending = pending_ended;
    queues = λ h. get_or-threads queues'.lists h ∙ over.queues h ∙ ap (others t) (sym (get_or-threads queues.lists h));
    looked = refl;
    touched = λ wait e. let p = shown_in (slot_at slots t) wait (sym (get-waits slots t) ∙ e) in rw (← p.2) (reached p.0 p.1);
    room = refl;
  })
