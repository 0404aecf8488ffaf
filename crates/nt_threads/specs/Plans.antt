-- What the threads of the plan ask.
use Rattle.std.specs.Prelude.{ℕ, ◌*◌, zero, suc, pos, length, map, List, [], ◌∷◌, ◌++◌, true, false}
use Rattle.nt_status.specs.declared.limits.TheConstants.{INFINITE}
use Rattle.nt_calls.specs.declared.call.Act.{Act}
use Rattle.nt_calls.specs.declared.call.Call.{Call}
use Rattle.nt_calls.specs.declared.call.WaitCall.{WaitCall}
use Rattle.nt_threads.specs.declared.plan.Objects.{Objects}

-- a wait for this object, without a deadline
abbrev pub endless_wait_for : ℕ → Call
endless_wait_for object = Call.Wait (WaitCall.Objects false (record { ms = INFINITE; alertable = false }) (object ∷ []))

-- a wait for all of these objects, without a deadline
abbrev pub endless_wait_for_all : List ℕ → Call
endless_wait_for_all objects = Call.Wait (WaitCall.Objects true (record { ms = INFINITE; alertable = false }) objects)

-- a round: the mutex is acquired, the semaphore is released by one, the mutex is released
abbrev pub round_of : Objects → List Call
round_of o = endless_wait_for o.mutex ∷ Call.Act (Act.ReleaseSemaphore o.semaphore (pos 1)) ∷ Call.Act (Act.ReleaseMutex o.mutex) ∷ []

abbrev pub rounds_of : Objects → ℕ → List Call
rounds_of o zero = []
rounds_of o (suc rounds) = rounds_of o rounds ++ round_of o

-- a worker: it waits for the start, makes its rounds, and ends
abbrev pub work_of : Objects → ℕ → List Call
work_of o rounds = (endless_wait_for o.start ∷ rounds_of o rounds) ++ Call.Exit ∷ []

-- the first thread, before the workers start: it creates the objects
abbrev pub creations : ℕ → List Call
creations most = Call.Act (Act.CreateMutex 0) ∷ Call.Act (Act.CreateSemaphore (pos 0) (pos most)) ∷ Call.Act (Act.CreateEvent 1) ∷ []

-- the handles of threads 1 to n
abbrev pub workers : ℕ → List ℕ
workers zero = []
workers (suc n) = workers n ++ suc n ∷ []

-- the first thread, once the workers are started: it lets them begin, waits for the end of each, and ends
abbrev pub lead_of : Objects → ℕ → List Call
lead_of o n = Call.Act (Act.SetEvent o.start) ∷ endless_wait_for_all (workers n) ∷ Call.Exit ∷ []

-- what has been made through each door once the workers are started and all is done, from what was made through it before
abbrev pub led : {X : Type 0} → (X → List Call) → Objects → ℕ → ℕ → X → List X → List (List Call)
led made o workers rounds first others = (made first ++ lead_of o workers) ∷ map (λ d. made d ++ work_of o rounds) others

-- what has been made through each door once the plan is carried out, from what was made through it before
abbrev pub carried_out : {X : Type 0} → (X → List Call) → Objects → ℕ → List X → List (List Call)
carried_out made o rounds [] = []
carried_out made o rounds (first ∷ others) = ((made first ++ creations (length others * rounds)) ++ lead_of o (length others)) ∷ map (λ d. made d ++ work_of o rounds) others
