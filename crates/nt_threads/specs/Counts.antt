-- What the program tells of a history.
use Rattle.std.specs.Prelude.{ℕ, ◌+◌, ◌==◌, ◌&&◌, Bool, true, false, nat_lt, nat_le, nat_abs, List, [], ◌∷◌, set, get_or, replicate, Ok}
use Rattle.nt_calls.specs.declared.call.Act.{Act}
use Rattle.nt_calls.specs.declared.call.Call.{Call}
use Rattle.nt_calls.specs.declared.call.WaitCall.{WaitCall}
use Rattle.nt_calls.specs.declared.call.Reply.{Reply}
use Rattle.nt_calls.specs.Moves.{one_if}
use Rattle.nt_mail.specs.declared.entry.Entry.{Entry}
use Rattle.nt_mail.specs.declared.entry.Entry.TheVariants.{Called, Granted}

-- ---- releases

-- the entry tells of a release of a mutex that was not refused
abbrev pub is_release : Entry → Bool
is_release (Called who (Call.Act (Act.ReleaseMutex mutex)) (Ok reply)) = true
is_release other = false

-- how many mutex releases were not refused
abbrev pub mutex_releases : List Entry → ℕ
mutex_releases [] = 0
mutex_releases (e ∷ es) = one_if (is_release e) + mutex_releases es

-- by how much the entry tells that a semaphore was released, 0 where it was refused
abbrev pub posts_in : Entry → ℕ
posts_in (Called who (Call.Act (Act.ReleaseSemaphore semaphore count)) (Ok reply)) = nat_abs count
posts_in other = 0

-- by how much semaphores were released in all
abbrev pub posted : List Entry → ℕ
posted [] = 0
posted (e ∷ es) = posts_in e + posted es

-- ---- waits that ended

-- the status is one of an object: a timeout and an alert are none
abbrev pub is_taken : ℕ → Bool
is_taken status = nat_lt status 192

-- the status tells that the thread which owned the mutex ended
abbrev pub tells_abandoned : ℕ → Bool
tells_abandoned status = nat_le 128 status && nat_lt status 192

-- the entry tells of a wait that ended with such a status, at once or later
abbrev pub ends_abandoned : Entry → Bool
ends_abandoned (Called who call (Ok (Reply.Status status))) = tells_abandoned status
ends_abandoned (Granted who status) = tells_abandoned status
ends_abandoned other = false

-- how many waits ended with an abandoned mutex
abbrev pub abandoned : List Entry → ℕ
abandoned [] = 0
abandoned (e ∷ es) = one_if (ends_abandoned e) + abandoned es

-- ---- acquisitions

abbrev pub is_alone : ℕ → List ℕ → Bool
is_alone m [] = false
is_alone m (h ∷ []) = h == m
is_alone m (h ∷ g ∷ hs) = false

-- the call waits for this object alone
abbrev pub is_wait_for : ℕ → Call → Bool
is_wait_for m (Call.Wait (WaitCall.Objects all mode handles)) = is_alone m handles
is_wait_for m (Call.Wait (WaitCall.Swap signal object mode)) = object == m
is_wait_for m other = false

-- which threads have a pending wait for mutex m, after the entry
abbrev pub waiting_after : ℕ → List Bool → Entry → List Bool
waiting_after m waiting (Called who call (Ok Reply.Pended)) = set waiting who (is_wait_for m call)
waiting_after m waiting (Granted who status) = set waiting who false
waiting_after m waiting other = waiting

-- the entry tells that a worker acquired mutex m: its wait was satisfied at once, or is granted now
abbrev pub acquires : ℕ → List Bool → Entry → Bool
acquires m waiting (Called who call (Ok (Reply.Status status))) = nat_lt 0 who && (is_wait_for m call && is_taken status)
acquires m waiting (Granted who status) = nat_lt 0 who && (get_or waiting who false && is_taken status)
acquires m waiting other = false

abbrev pub acquired_from : ℕ → List Bool → List Entry → ℕ
acquired_from m waiting [] = 0
acquired_from m waiting (e ∷ es) = one_if (acquires m waiting e) + acquired_from m (waiting_after m waiting e) es

-- how often the workers, of so many threads, acquired mutex m
abbrev pub acquired : ℕ → ℕ → List Entry → ℕ
acquired threads m es = acquired_from m (replicate threads false) es
