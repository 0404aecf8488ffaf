-- What C reads of objects, and of why threads wait.
use Rattle.std.specs.Prelude.{◌≡◌, ◌⊎◌, ◌↔◌, ℕ, pos, Bool, true, false, List, Option, None, Some, MatchOption, MatchBool, nat_le, slice_get, length, ◌==◌}
use Rattle.nt_c.specs.declared.numbers.TheConstants.{INVALID_HANDLE, INVALID_PARAMETER, NO_MORE, OUT_OF_MEMORY}
use Rattle.nt_status.specs.declared.limits.TheConstants.{MAX_MOMENT}
use Rattle.nt_objects.specs.declared.object.Object.{Object}
use Rattle.nt_objects.specs.declared.object.Object.TheVariants.{Event, Semaphore, Mutex, Timer, Thread, Gone}
use Rattle.nt_objects.specs.declared.object.Armed.{Armed}
use Rattle.nt_tables.specs.Handles.{opened_at}
use Rattle.nt_calls.specs.Steps.{IsNextMoment, NothingDue}
use Rattle.nt_machine.specs.Dispatcher.{Dispatcher, state}
use Rattle.nt_look.specs.Hangs.{unmarked, IsStuck, IsGreatestKnot}
use Rattle.nt_c.specs.declared.handle.Nt.{Nt}
use Rattle.nt_c.specs.declared.looks.NtObject.{NtObject}
use Rattle.nt_c.specs.declared.looks.NtOpened.{NtOpened}
use Rattle.nt_c.specs.declared.looks.NtWhy.{NtWhy}
use Rattle.nt_c.specs.Asks.{Told, Untold}

-- ---- objects

-- an object of this kind, of which nothing else is said
abbrev pub plain_object : ℕ → NtObject
plain_object kind =
    record {
      kind = kind;
      manual = false;
      set = false;
      owned = false;
      abandoned = false;
      armed = false;
      count = pos 0;
      maximum = pos 0;
      owner = 0;
      depth = 0;
      due = 0;
      period = 0;
    }

-- a mutex with its owner, or with none
abbrev pub owned_in : NtObject → Option ℕ → NtObject
owned_in object None = object
owned_in object (Some owner) = record object { owned = true; owner = owner }

-- a timer with its setting, or with none
abbrev pub armed_in : NtObject → Option Armed → NtObject
armed_in object None = object
armed_in object (Some armed) = record object { armed = true; due = armed.due; period = armed.period }

-- an object as C sees it
abbrev pub object_for_c : Object → NtObject
object_for_c Gone = plain_object 0
object_for_c (Event manual set) = record (plain_object 1) { manual = manual; set = set }
object_for_c (Semaphore count maximum) = record (plain_object 2) { count = count; maximum = maximum }
object_for_c (Mutex owner depth abandoned) = owned_in (record (plain_object 3) { depth = depth; abandoned = abandoned }) owner
object_for_c (Timer manual set armed) = armed_in (record (plain_object 4) { manual = manual; set = set }) armed
object_for_c (Thread ended) = record (plain_object 5) { set = ended }

-- the object with this number is told, or 259 is answered where there is none
abbrev pub ReadsNumbered : ℕ → Nt → ℕ → NtObject → NtObject → Type 0
ReadsNumbered object nt number before after =
    MatchOption nt.cell.held
    (Untold NtObject INVALID_HANDLE number before after)
    (λ s. MatchOption (slice_get (state s.core).objects object) (Untold NtObject NO_MORE number before after) (λ found. Told NtObject (object_for_c found) number after))

-- what the handle names is told, or 6 is answered where it names nothing
abbrev pub ReadsOpened : ℕ → Nt → ℕ → NtOpened → NtOpened → Type 0
ReadsOpened handle nt number before after =
    MatchOption nt.cell.held
    (Untold NtOpened INVALID_HANDLE number before after)
    (λ s. MatchOption (opened_at (state s.core).handles handle) (Untold NtOpened INVALID_HANDLE number before after)
    (λ opened. Told NtOpened (record { object = opened.object; access = opened.access }) number after))

-- ---- why threads wait

-- whether all is stuck, the greatest knot, and what is due next up to moment m
pub record IsWhy (core : Dispatcher) (over : List Bool) (m : ℕ) (why : NtWhy) (marks : List Bool) : Type 0 where
  pub stuck : (why.stuck ≡ true) ↔ IsStuck (unmarked over) (state core)
  pub knot : IsGreatestKnot (unmarked over) (state core) marks
  pub next : MatchBool why.due (IsNextMoment (state core) m why.next) (NothingDue (state core) m × (why.next ≡ 0))

-- it is told why threads wait, or memory is refused, and then nothing is
abbrev pub WhyOrMemory : Dispatcher → List Bool → ℕ → ℕ → NtWhy → NtWhy → List Bool → List Bool → Type 0
WhyOrMemory core over m number before after knot_before knot_after =
    ((number ≡ 0) × IsWhy core over m after knot_after) ⊎ ((number ≡ OUT_OF_MEMORY) × (after ≡ before) × (knot_after ≡ knot_before))

-- the same through a handle; 87 is answered where the moment is above the greatest, or the knot has not a place for each thread
abbrev pub ReadsWhy : List Bool → ℕ → Nt → ℕ → NtWhy → NtWhy → List Bool → List Bool → Type 0
ReadsWhy over m nt number before after knot_before knot_after =
    MatchBool (nat_le m MAX_MOMENT)
    (MatchOption nt.cell.held
    (Untold NtWhy INVALID_HANDLE number before after × (knot_after ≡ knot_before))
    (λ s. MatchBool (length knot_before == (state s.core).threads)
    (WhyOrMemory s.core over m number before after knot_before knot_after)
    (Untold NtWhy INVALID_PARAMETER number before after × (knot_after ≡ knot_before))))
    (Untold NtWhy INVALID_PARAMETER number before after × (knot_after ≡ knot_before))
