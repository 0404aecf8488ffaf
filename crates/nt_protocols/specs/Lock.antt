-- The lock that favours a thread (c/ntwin/lock.c): a biased lock, for any number of threads and their handlers of signals. While it favours nobody it
-- is the plain lock of one word with three values, on which threads sleep by futex.
--
-- The favoured thread takes it by a plain store to its `inside` and a load of the lock. Who wants it instead revokes the favour: it changes the lock,
-- has the favoured thread pass a barrier (the asymmetric barrier, membarrier(2)), and then waits until that one's `inside` is clear.
--
-- A step is one atomic operation, one system call, the arrival of one plain store, or one call or return of a handler. Loads whose answer changes
-- nothing, and failed compare-exchanges of `take_as_seen`, are none; Asks and StopsLooking touch no word. Memory is x86's. The plain stores to
-- `inside` wait in a store buffer of one place, which their thread alone sees, and arrive at any later moment. A locked instruction (C's exchange or
-- compare-exchange) waits until that place is empty, so `IsDrained` is in its guard. It is in a plain store's, too: x86 has room for more than one,
-- but in C a locked instruction stands between any two. All else is one order over all words: an x86 load is an acquire and a locked instruction is
-- sequentially consistent, whatever weaker order C11 is asked for. That the compiler keeps the order of the lines is trusted.
--
-- A thread that has no seat, or takes the lock by `take_lock` or `try_lock`, is one more thread here, which the lock never favours; without a seat
-- PaysNobody is no call. Not in here, but tested (docs/PROVED.md): a process of one thread, which takes and gives back the lock by plain loads and
-- stores (`is_alone`); a seat that another thread gets; a forked child; exit in a handler of signals.
--
-- futex_wait compares the word and sleeps in one step of the kernel, futex_wake wakes one sleeper if there is one. A sleeper may also return for no
-- reason, or begin its call again once a handler has interrupted it. Of membarrier only the part of the favoured thread is a step: its buffer is
-- empty at one moment between call and return. (`pass_barriers` waits a tenth of a second where the system refuses the call: the store has arrived by
-- then.)
use Rattle.std.specs.Prelude.{◌≡◌, ◌≢◌, ◌⊎◌, ℕ, Bool, true, false, List, [], ◌∷◌, ◌==◌}
use Rattle.nt_protocols.specs.Threads.{put, Step, when, Keeps}

-- what `waiting.lock` says: nobody has it; some thread takes it or has it; the same, and others may sleep on it; it favours thread n
pub data Lock : Type 0 where
  Free : Lock
  Taken : Lock
  Wanted : Lock
  Favours : (n : ℕ) → Lock

-- the plain store of a thread to its `inside` that has not arrived in memory
pub data Buffer : Type 0 where
  Empty : Buffer
  Holds : (inside : Bool) → Buffer

-- where a thread is: `To..` says what it is to do next. `once`: it only tries, in `try_lock`
pub data Place : Type 0 where
  Out : Place  -- does not ask for the lock
  ToStore : Place  -- `step_in`: the lock favours it, and it is to set `inside`
  ToCheck : Place  -- `step_in`: has set `inside`, and is to load the lock again
  Inside : Place  -- has the lock as the favoured thread
  ToStepBack : Place  -- `step_back`: the lock no longer favours it, and it is to clear `inside`
  ToReload : Place  -- `step_out`: has cleared `inside`, and is to load the lock
  ToWakeRevoker : Place  -- `step_out`: the lock no longer favours it, and it is to wake who sleeps on its `inside`
  ToTake : Place  -- `take_in_a_step` and the looks of `wait_for_lock`: is to take the lock from free, or from whom it favours
  ToMark : Place  -- `wait_for_lock`: is to exchange the lock for wanted
  ToPay : Place  -- `sleep_on_lock`: is to wake who sleeps on its own `inside`: this may be a handler, whose thread has yet to do so
  ToSleep : Place  -- `sleep_on_lock`: is to call futex_wait on the lock
  Asleep : Place  -- in futex_wait on the lock
  ToBar : (n : ℕ) → (once : Bool) → Place  -- `take_from`, `try_lock`: has revoked n's favour, and is to have n pass a barrier
  ToLook : (n : ℕ) → (once : Bool) → Place  -- `wait_until_outside`, `try_lock`: is to load n's `inside`
  ToSleepOn : (n : ℕ) → Place  -- `wait_until_outside`: found n inside, and is to call futex_wait on n's `inside`
  AsleepOn : (n : ℕ) → Place  -- in futex_wait on n's `inside`
  ToPutBack : (n : ℕ) → Place  -- `try_lock`: found n inside, and is to make the lock favour n again
  Owner : Place  -- has the lock as all have it
  ToFavour : Place  -- `favour`: has it, has set its `inside`, and is to exchange the lock from taken
  ToUnset : Place  -- `favour`: has it, found it wanted, and is to clear its `inside`
  ToWake : Place  -- `wake_who_wants_lock`: found the lock wanted as it gave it back, and is to wake one

-- where a thread was that a handler of signals has interrupted, which may call: its `inside` is clear, and `takes_lock` says no. (A handler that
-- comes while its thread is `Out` calls as the thread itself does. At all other places its call is refused, and is no step.)
pub data Frame : Type 0 where
  AtStore : Frame
  AtReload : Frame
  AtWakeRevoker : Frame
  AtMark : Frame
  AtPay : Frame
  AtSleep : Frame
  AtWake : Frame

abbrev pub frame_place : Frame → Place
frame_place AtStore = ToStore
frame_place AtReload = ToReload
frame_place AtWakeRevoker = ToWakeRevoker
frame_place AtMark = ToMark
frame_place AtPay = ToPay
frame_place AtSleep = ToSleep
frame_place AtWake = ToWake

-- what there is of one thread: its place, its `inside`, its store buffer, and what its handlers have interrupted, the innermost first
pub record Seat : Type 0 where
  pub place : Place
  pub inside : Bool  -- in memory
  pub buffer : Buffer
  pub under : List Frame

-- the lock, and what there is of each thread
pub record State : Type 0 where
  pub lock : Lock
  pub seats : ℕ → Seat

-- what can happen, each with the thread t that does it: `step` says what each is. The system begins and ends handlers, and the processor lets a store
-- arrive: these three have no line in C. The marks in C have these names, but StepsBack is marked StepsOut, whose exchange it shares, and `once` is
-- a part of the name (PassesBarrierOnce, FindsOutsideOnce).
pub data Event : Type 0 where
  SeesFavour StoresInside Enters MissesFavour StepsBack StepsOut KeepsFavour FindsRevoked WakesNoRevoker : (t : ℕ) → Event
  Asks TakesFree TriesFree : (t : ℕ) → Event
  StopsLooking MarksFree MarksHeld PaysNobody FallsAsleep FindsUnwanted Stirs Restarts StoresFirst GainsFavour MissesTaken : (t : ℕ) → Event
  UnstoresInside GivesBack WakesNobody : (t : ℕ) → Event
  WakesRevoker PaysOne WakesOne : (t : ℕ) → (u : ℕ) → Event
  Revokes TriesFavoured MarksFavoured FindsInside Declines FallsAsleepOn FindsLeft StirsOn RestartsOn PutsBack : (t : ℕ) → (n : ℕ) → Event
  PassesBarrier FindsOutside : (t : ℕ) → (n : ℕ) → (once : Bool) → Event
  Interrupts : (t : ℕ) → (f : Frame) → Event
  Resumes : (t : ℕ) → (f : Frame) → (fs : List Frame) → Event
  StoreArrives : (t : ℕ) → (inside : Bool) → Event

-- some thread takes it or has it, or waits for the favoured one
abbrev pub is_held : Lock → Bool
is_held Taken = true
is_held Wanted = true
is_held _ = false

-- where a thread is that has revoked n's favour: of its own favour it needs no barrier
abbrev pub revoking : Bool → ℕ → Bool → Place
revoking true n once = ToLook n once
revoking false n once = ToBar n once

-- where a thread is that gave the lock back, which was so
abbrev pub given : Lock → Place
given Wanted = ToWake
given _ = Out

-- thread t goes to another place, and keeps the rest
abbrev pub moves : (ℕ → Seat) → ℕ → Place → ℕ → Seat
moves seats t p = put seats t (record (seats t) { place = p })

-- where thread t is
abbrev pub place_of : State → ℕ → Place
place_of s t = (s.seats t).place

-- the plain stores of thread t have arrived
abbrev pub IsDrained : State → ℕ → Type 0
IsDrained s t = (s.seats t).buffer ≡ Empty

-- thread t is at this place
abbrev pub IsAt : State → ℕ → Place → Type 0
IsAt s t p = place_of s t ≡ p

-- thread t goes to this place
abbrev pub goes : State → ℕ → Place → State
goes s t p = record s { seats = moves s.seats t p }

-- thread t makes the lock so, and goes to this place
abbrev pub makes : State → ℕ → Lock → Place → State
makes s t l p = record { lock = l; seats = moves s.seats t p }

-- thread t wakes u, which goes to the place q, and goes itself to this place
abbrev pub wakes : State → ℕ → ℕ → Place → Place → State
wakes s t u q p = record s { seats = moves (moves s.seats u q) t p }

-- thread t stores this to its `inside`, by a plain store, and goes to this place
abbrev pub stores : State → ℕ → Bool → Place → State
stores s t inside p = record s { seats = put s.seats t (record (s.seats t) { place = p; buffer = Holds inside }) }

-- thread t goes to this place, and its handlers have interrupted this from now on
abbrev pub frames : State → ℕ → Place → List Frame → State
frames s t p fs = record s { seats = put s.seats t (record (s.seats t) { place = p; under = fs }) }

-- thread t clears its `inside` by an exchange, and is to load the lock
abbrev pub clears : State → ℕ → State
clears s t = record s { seats = put s.seats t (record (s.seats t) { place = ToReload; inside = false }) }

-- each step: when it can come, and the state after it
abbrev pub step : State → Event → Step State
-- the favoured thread: `step_in`, `step_out`
step s (SeesFavour t) = when (IsAt s t Out × (s.lock ≡ Favours t)) (goes s t ToStore)  -- loads the lock, which favours it
step s (StoresInside t) = when (IsAt s t ToStore × IsDrained s t) (stores s t true ToCheck)  -- the plain store to `inside`
step s (Enters t) = when (IsAt s t ToCheck × (s.lock ≡ Favours t)) (goes s t Inside)  -- loads the lock again, which favours it still: it has it
step s (MissesFavour t) = when (IsAt s t ToCheck × (s.lock ≢ Favours t)) (goes s t ToStepBack)  -- loads the lock again, which no longer favours it
step s (StepsBack t) = when (IsAt s t ToStepBack × IsDrained s t) (clears s t)  -- clears `inside`, by an exchange, since it has not the lock
step s (StepsOut t) = when (IsAt s t Inside × IsDrained s t) (clears s t)  -- the same exchange, to give the lock back
step s (KeepsFavour t) = when (IsAt s t ToReload × (s.lock ≡ Favours t)) (goes s t Out)  -- loads the lock, which favours it still
step s (FindsRevoked t) = when (IsAt s t ToReload × (s.lock ≢ Favours t)) (goes s t ToWakeRevoker)  -- loads the lock, which no longer favours it
step s (WakesRevoker t u) =  -- `wake_who_revoked`: futex_wake on its `inside` wakes u
    when (IsAt s t ToWakeRevoker × IsAt s u (AsleepOn t)) (wakes s t u (ToLook t false) Out)
step s (WakesNoRevoker t) =  -- `wake_who_revoked`: futex_wake on its `inside` finds nobody
    when (IsAt s t ToWakeRevoker × ((u : ℕ) → place_of s u ≢ AsleepOn t)) (goes s t Out)
-- all threads: `take_in_a_step`, `wait_for_lock`, `try_lock`, `give_lock`
step s (Asks t) = when (IsAt s t Out) (goes s t ToTake)  -- begins to take the lock
step s (TakesFree t) =  -- `take_as_seen`: the compare-exchange from free is done
    when (IsAt s t ToTake × IsDrained s t × (s.lock ≡ Free)) (makes s t Taken Owner)
step s (TriesFree t) = when (IsAt s t Out × IsDrained s t × (s.lock ≡ Free)) (makes s t Taken Owner)  -- the same in `try_lock`
step s (Revokes t n) =  -- `take_as_seen`: the compare-exchange from the favour of n is done
    when (IsAt s t ToTake × IsDrained s t × (s.lock ≡ Favours n)) (makes s t Taken (revoking (n == t) n false))
step s (TriesFavoured t n) =  -- the same in `try_lock`
    when (IsAt s t Out × IsDrained s t × (s.lock ≡ Favours n)) (makes s t Taken (revoking (n == t) n true))
step s (StopsLooking t) = when (IsAt s t ToTake) (goes s t ToMark)  -- `wait_for_lock`: looks no longer, if it looked at all
step s (MarksFree t) =  -- `wait_for_lock`: the exchange for wanted found the lock free
    when (IsAt s t ToMark × IsDrained s t × (s.lock ≡ Free)) (makes s t Wanted Owner)
step s (MarksFavoured t n) =  -- the exchange for wanted found that it favours n
    when (IsAt s t ToMark × IsDrained s t × (s.lock ≡ Favours n)) (makes s t Wanted (revoking (n == t) n false))
step s (MarksHeld t) =  -- the exchange for wanted found it taken or wanted
    when (IsAt s t ToMark × IsDrained s t × (is_held s.lock ≡ true)) (makes s t Wanted ToPay)
step s (PaysOne t u) =  -- `sleep_on_lock`: futex_wake on its own `inside` wakes u
    when (IsAt s t ToPay × IsAt s u (AsleepOn t)) (wakes s t u (ToLook t false) ToSleep)
step s (PaysNobody t) =  -- `sleep_on_lock`: futex_wake on its own `inside` finds nobody
    when (IsAt s t ToPay × ((u : ℕ) → place_of s u ≢ AsleepOn t)) (goes s t ToSleep)
step s (FallsAsleep t) =  -- `sleep_on_lock`: futex_wait finds the lock wanted, and sleeps
    when (IsAt s t ToSleep × (s.lock ≡ Wanted)) (goes s t Asleep)
step s (FindsUnwanted t) = when (IsAt s t ToSleep × (s.lock ≢ Wanted)) (goes s t ToMark)  -- futex_wait finds it not wanted
step s (Stirs t) = when (IsAt s t Asleep) (goes s t ToMark)  -- futex_wait returns though nobody woke it
step s (Restarts t) = when (IsAt s t Asleep) (goes s t ToSleep)  -- a signal ends its sleep, and the system begins the call again
step s (PassesBarrier t n once) =  -- `pass_barriers`: n passes a barrier now
    when (IsAt s t (ToBar n once) × IsDrained s n) (goes s t (ToLook n once))
step s (FindsOutside t n once) =  -- loads n's `inside`, which is clear: t has the lock
    when (IsAt s t (ToLook n once) × ((s.seats n).inside ≡ false)) (goes s t Owner)
step s (FindsInside t n) =  -- loads n's `inside`, which is set: t is to wait
    when (IsAt s t (ToLook n false) × ((s.seats n).inside ≡ true)) (goes s t (ToSleepOn n))
step s (Declines t n) = when (IsAt s t (ToLook n true) × ((s.seats n).inside ≡ true)) (goes s t (ToPutBack n))  -- the same load in `try_lock`
step s (FallsAsleepOn t n) =  -- `wait_until_outside`: futex_wait finds n inside, and sleeps
    when (IsAt s t (ToSleepOn n) × ((s.seats n).inside ≡ true)) (goes s t (AsleepOn n))
step s (FindsLeft t n) = when (IsAt s t (ToSleepOn n) × ((s.seats n).inside ≡ false)) (goes s t (ToLook n false))  -- futex_wait finds n outside
step s (StirsOn t n) = when (IsAt s t (AsleepOn n)) (goes s t (ToLook n false))  -- futex_wait returns though nobody woke it
step s (RestartsOn t n) = when (IsAt s t (AsleepOn n)) (goes s t (ToSleepOn n))  -- a signal ends its sleep, and the system begins the call again
step s (PutsBack t n) =  -- `try_lock`: the exchange that makes the lock favour n again
    when (IsAt s t (ToPutBack n) × IsDrained s t) (makes s t (Favours n) (given s.lock))
step s (StoresFirst t) = when (IsAt s t Owner × IsDrained s t) (stores s t true ToFavour)  -- `favour`: the plain store to `inside`
step s (GainsFavour t) =  -- `favour`: the compare-exchange from taken is done
    when (IsAt s t ToFavour × IsDrained s t × (s.lock ≡ Taken)) (makes s t (Favours t) Inside)
step s (MissesTaken t) =  -- `favour`: the lock is wanted, and the compare-exchange is not done
    when (IsAt s t ToFavour × IsDrained s t × (s.lock ≢ Taken)) (goes s t ToUnset)
step s (UnstoresInside t) = when (IsAt s t ToUnset × IsDrained s t) (stores s t false Owner)  -- `favour`: the plain store that clears `inside`
step s (GivesBack t) = when (IsAt s t Owner × IsDrained s t) (makes s t Free (given s.lock))  -- `let_go`: the exchange for free
step s (WakesOne t u) = when (IsAt s t ToWake × IsAt s u Asleep) (wakes s t u ToMark Out)  -- `wake_who_wants_lock`: futex_wake on the lock wakes u
step s (WakesNobody t) =  -- `wake_who_wants_lock`: futex_wake on the lock finds nobody
    when (IsAt s t ToWake × ((u : ℕ) → place_of s u ≢ Asleep)) (goes s t Out)
-- handlers of signals
step s (Interrupts t f) = when (IsAt s t (frame_place f)) (frames s t Out (f ∷ (s.seats t).under))  -- a handler begins
step s (Resumes t f fs) = when (IsAt s t Out × ((s.seats t).under ≡ f ∷ fs)) (frames s t (frame_place f) fs)  -- it ends
-- memory
step s (StoreArrives t inside) =  -- the plain store arrives
    when ((s.seats t).buffer ≡ Holds inside) (record s { seats = put s.seats t (record (s.seats t) { inside = inside; buffer = Empty }) })

-- nobody has asked yet
abbrev pub opening : State
opening = record { lock = Free; seats = λ t. record { place = Out; inside = false; buffer = Empty; under = [] } }

-- ---- the laws

-- a thread that has the lock, whichever way
abbrev pub has : Place → Bool
has Inside = true
has Owner = true
has ToFavour = true
has ToUnset = true
has _ = false

-- what a thread itself sees of its `inside`
abbrev pub view : Buffer → Bool → Bool
view Empty inside = inside
view (Holds stored) inside = stored

-- what a thread sees of its `inside` tells how it has the lock, and so how it is to give it back: `give_lock_for`
abbrev pub InsideTells : Type 0
InsideTells =
    Keeps step opening (λ s. (t : ℕ) →
    (place_of s t ≡ Inside → view (s.seats t).buffer (s.seats t).inside ≡ true)
    × (place_of s t ≡ Owner → view (s.seats t).buffer (s.seats t).inside ≡ false))

-- no two threads have the lock
abbrev pub OneOwner : Type 0
OneOwner = Keeps step opening (λ s. (t u : ℕ) → has (place_of s t) ≡ true → has (place_of s u) ≡ true → t ≡ u)

-- a thread that has made the lock taken or wanted, from free or from a favour, and not given it back since: it has the lock, or still revokes
abbrev pub claims : Place → Bool
claims (ToBar n once) = true
claims (ToLook n once) = true
claims (ToSleepOn n) = true
claims (AsleepOn n) = true
claims (ToPutBack n) = true
claims Owner = true
claims ToFavour = true
claims ToUnset = true
claims _ = false

-- what carries the other laws: one thread at most claims the lock, and the lock is then taken or wanted
abbrev pub OneClaimer : Type 0
OneClaimer =
    Keeps step opening (λ s.
    (t u : ℕ) → claims (place_of s t) ≡ true → (is_held s.lock ≡ true) × (claims (place_of s u) ≡ true → t ≡ u))

-- who is about to make the lock favour n: n, which has it, or a thread that has revoked n's favour and puts it back
abbrev pub IsFavouring : State → ℕ → Type 0
IsFavouring s n = (place_of s n ≡ ToFavour) ⊎ ((t : ℕ) × (place_of s t ≡ ToPutBack n))

-- the lock comes to favour n only while n, which has it, is about to make it so, or a thread that has revoked n's favour is about to put it back
abbrev pub FavoursAreMadeByClaimers : Type 0
FavoursAreMadeByClaimers =
    Keeps step opening (λ s.
    (e : Event) → (step s e).may → (n : ℕ) → (step s e).after.lock ≡ Favours n → (s.lock ≡ Favours n) ⊎ IsFavouring s n)

-- a handler has interrupted its thread where that, as it goes on, looks at the lock or wakes who sleeps on its `inside` before it sleeps
abbrev pub wakes_under : List Frame → Bool
wakes_under [] = false
wakes_under (AtReload ∷ fs) = true
wakes_under (AtWakeRevoker ∷ fs) = true
wakes_under (AtPay ∷ fs) = true
wakes_under (AtMark ∷ fs) = wakes_under fs
wakes_under (f ∷ fs) = false

-- a thread that is awake, and before it sleeps looks at the lock or wakes who sleeps on its `inside`: by itself, or once its handler has ended
abbrev pub will_wake : Place → List Frame → Bool
will_wake ToCheck fs = true
will_wake Inside fs = true
will_wake ToStepBack fs = true
will_wake ToReload fs = true
will_wake ToWakeRevoker fs = true
will_wake ToPay fs = true
will_wake Out fs = wakes_under fs
will_wake ToTake fs = wakes_under fs
will_wake ToMark fs = wakes_under fs
will_wake p fs = false

-- nobody sleeps on `inside` in vain: while one sleeps on n's, n is awake and is to wake it, and finds that the lock does not favour it
abbrev pub NobodyWaitsForTheFavouredInVain : Type 0
NobodyWaitsForTheFavouredInVain =
    Keeps step opening (λ s.
    (u n : ℕ) → place_of s u ≡ AsleepOn n → (will_wake (place_of s n) (s.seats n).under ≡ true) × (s.lock ≢ Favours n))

-- a handler has interrupted its thread where that, as it goes on, wakes one that sleeps on the lock or makes the lock wanted
abbrev pub leads_under : List Frame → Bool
leads_under [] = false
leads_under (AtMark ∷ fs) = true
leads_under (AtWake ∷ fs) = true
leads_under (f ∷ fs) = leads_under fs

-- a thread that does not sleep on the lock, and is to wake one that does or to make the lock wanted: by itself, or once its handler has ended
abbrev pub leads : Place → List Frame → Bool
leads ToWake fs = true
leads ToMark fs = true
leads Asleep fs = false
leads p fs = leads_under fs

-- a thread sleeps in neither way
abbrev pub is_awake : Place → Bool
is_awake Asleep = false
is_awake (AsleepOn n) = false
is_awake p = true

-- thread v comes to a step that wakes one that sleeps on the lock: it leads, or it claims the lock, which is wanted
abbrev pub ComesToWake : State → ℕ → Type 0
ComesToWake s v = (leads (place_of s v) (s.seats v).under ≡ true) ⊎ ((s.lock ≡ Wanted) × (claims (place_of s v) ≡ true))

-- nobody sleeps on the lock in vain: some thread comes to a step that wakes one, and is awake, or the thread whose `inside` it sleeps on is
-- to wake it
abbrev pub NobodySleepsInVain : Type 0
NobodySleepsInVain =
    Keeps step opening (λ s.
    (u : ℕ) → place_of s u ≡ Asleep → (v : ℕ) × ComesToWake s v
    × ((is_awake (place_of s v) ≡ true) ⊎ ((n : ℕ) × (place_of s v ≡ AsleepOn n) × (will_wake (place_of s n) (s.seats n).under ≡ true))))
