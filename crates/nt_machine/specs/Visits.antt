-- What visits to waits do.
use Rattle.std.specs.Prelude.{◌≡◌, ℕ, ◌+◌, ◌-◌, ◌≤◌, ◌⊎◌, true, false, List, [], ◌∷◌, ◌++◌, length, None}
use Rattle.std.specs.List.{find, filter}
use Rattle.nt_objects.specs.declared.object.Object.{Object}
use Rattle.nt_objects.specs.declared.object.Object.TheVariants.{Mutex, Gone}
use Rattle.std.specs.declared.option.Option.TheVariants.{Some}
use Rattle.nt_waits.specs.declared.wait.Wait.{Wait}
use Rattle.std.specs.List.{Contains}
use Rattle.nt_calls.specs.declared.call.Grant.{Grant}
use Rattle.nt_calls.specs.State.{State, pends, with_object}
use Rattle.nt_machine.specs.Dispatcher.{Dispatcher, state}
use Rattle.nt_machine.specs.Lawful.{IsMachineSound}
use Rattle.nt_calls.specs.Serving.{is_due, IsDue, grant_of, wait_granted, Grants, IsServed}

-- the visited wait fitted, and ended
pub record VisitGrants (old new : Dispatcher) (t : ℕ) : Type 0 where
  pub wait : Wait
  pub due : IsDue (state old) (grant_of (state old) t wait) wait
  pub becomes : state new ≡ wait_granted (state old) t wait
  pub grants : new.grants ≡ old.grants ++ grant_of (state old) t wait ∷ []
  pub looked : new.table.looked ≡ old.table.looked + 1
  pub marked : new.marked ≡ old.marked

-- the visited wait did not fit, and stays
pub record VisitPassesOver (old new : Dispatcher) (t : ℕ) : Type 0 where
  pub unfit : is_due (state old) t ≡ false
  pub stays : state new ≡ state old
  pub grants : new.grants ≡ old.grants
  pub looked : new.table.looked ≡ old.table.looked + 1
  pub marked : new.marked ≡ old.marked

abbrev pub IsVisited : Dispatcher → Dispatcher → ℕ → Type 0
IsVisited old new t = VisitGrants old new t ⊎ VisitPassesOver old new t

-- the waits of these threads were visited in turn: those that fitted have ended, and none that is left of them fits
pub record Visits (threads : List ℕ) (old new : Dispatcher) : Type 0 where
  pub ended : List Grant
  pub grants : new.grants ≡ old.grants ++ ended
  pub granted : Grants threads (state old) ended (state new)
  pub over : find (is_due (state new)) threads ≡ None
  -- queues lose the granted threads, and keep the order of the others
  pub queues : (h : ℕ) → (state new).queues h ≡ filter (pends (state new)) ((state old).queues h)
  -- each thread is looked at once at most, and each granted one was looked at
  pub most : new.table.looked ≤ old.table.looked + length threads
  pub least : old.table.looked + length ended ≤ new.table.looked
  pub marked : new.marked ≡ old.marked

-- the thread's wait was visited, and the dispatcher is sound still
pub record HasVisited (old new : Dispatcher) (t : ℕ) : Type 0 where
  pub visited : IsVisited old new t
  pub sound : IsMachineSound new

-- the dispatcher before its last look was counted
abbrev pub uncounted : Dispatcher → Dispatcher
uncounted d = record d { table = record d.table { looked = d.table.looked - 1 } }

-- the same for the waits of these threads, in turn
pub record HasServed (threads : List ℕ) (old new : Dispatcher) : Type 0 where
  pub visits : Visits threads old new
  pub sound : IsMachineSound new

-- only waits in this sequence can fit
abbrev pub FitOnlyIn : List ℕ → State → Type 0
FitOnlyIn threads s = (t : ℕ) → is_due s t ≡ true → Contains threads t

-- the object as if nobody could take it, but the owner of a mutex
abbrev pub closed : Object → Object
closed (Mutex (Some owner) depth abandoned) = Mutex (Some owner) depth abandoned
closed other = Gone

-- if nobody could take the object at h, no pending wait would fit
abbrev pub FitOnlyBy : ℕ → State → Type 0
FitOnlyBy h s = IsServed (record s { objects = with_object s.objects h closed })
