-- A trace's list of threads as the protocol's function of threads.
use Rattle.std.proofs.Common.{◌≡◌, ℕ, ◌<◌, refl, ap, sym, ◌∙◌, length, get_or}
use Rattle.std.proofs.lemmas.List.{get_or_read}
use Rattle.nt_protocols.specs.Lock as Lock
use Rattle.nt_protocols.specs.Threads.{put}
use Rattle.nt_lock_traces.specs.declared.lock.LockWord.{LockWord}
use Rattle.nt_lock_traces.specs.declared.lock.Buffer.{Buffer}
use Rattle.nt_lock_traces.specs.declared.lock.LockPlace.{LockPlace}
use Rattle.nt_lock_traces.specs.declared.lock.Seat.{Seat}
use Rattle.nt_lock_traces.specs.declared.lock_run.LockRun.{LockRun}
use Rattle.nt_lock_traces.specs.LockTrace.{state_of, seat_of, outside, place_of, lock_of, buffer_of}

-- the words back from the protocol's, so that two that stand for the same are the same
abbrev place_back : Lock.Place → LockPlace
place_back Lock.Place.Out = LockPlace.Out
place_back Lock.Place.ToStore = LockPlace.ToStore
place_back Lock.Place.ToCheck = LockPlace.ToCheck
place_back Lock.Place.Inside = LockPlace.Inside
place_back Lock.Place.ToStepBack = LockPlace.ToStepBack
place_back Lock.Place.ToReload = LockPlace.ToReload
place_back Lock.Place.ToWakeRevoker = LockPlace.ToWakeRevoker
place_back Lock.Place.ToTake = LockPlace.ToTake
place_back Lock.Place.ToMark = LockPlace.ToMark
place_back Lock.Place.ToPay = LockPlace.ToPay
place_back Lock.Place.ToSleep = LockPlace.ToSleep
place_back Lock.Place.Asleep = LockPlace.Asleep
place_back (Lock.Place.ToBar n once) = LockPlace.ToBar n once
place_back (Lock.Place.ToLook n once) = LockPlace.ToLook n once
place_back (Lock.Place.ToSleepOn n) = LockPlace.ToSleepOn n
place_back (Lock.Place.AsleepOn n) = LockPlace.AsleepOn n
place_back (Lock.Place.ToPutBack n) = LockPlace.ToPutBack n
place_back Lock.Place.Owner = LockPlace.Owner
place_back Lock.Place.ToFavour = LockPlace.ToFavour
place_back Lock.Place.ToUnset = LockPlace.ToUnset
place_back Lock.Place.ToWake = LockPlace.ToWake

place_is : (p : LockPlace) → place_back (place_of p) ≡ p
place_is LockPlace.Out = refl
place_is LockPlace.ToStore = refl
place_is LockPlace.ToCheck = refl
place_is LockPlace.Inside = refl
place_is LockPlace.ToStepBack = refl
place_is LockPlace.ToReload = refl
place_is LockPlace.ToWakeRevoker = refl
place_is LockPlace.ToTake = refl
place_is LockPlace.ToMark = refl
place_is LockPlace.ToPay = refl
place_is LockPlace.ToSleep = refl
place_is LockPlace.Asleep = refl
place_is (LockPlace.ToBar n once) = refl
place_is (LockPlace.ToLook n once) = refl
place_is (LockPlace.ToSleepOn n) = refl
place_is (LockPlace.AsleepOn n) = refl
place_is (LockPlace.ToPutBack n) = refl
place_is LockPlace.Owner = refl
place_is LockPlace.ToFavour = refl
place_is LockPlace.ToUnset = refl
place_is LockPlace.ToWake = refl

pub same_place : (p q : LockPlace) → place_of p ≡ place_of q → p ≡ q
same_place p q e = sym (place_is p) ∙ (ap place_back e ∙ place_is q)

abbrev lock_back : Lock.Lock → LockWord
lock_back Lock.Lock.Free = LockWord.Free
lock_back Lock.Lock.Taken = LockWord.Taken
lock_back Lock.Lock.Wanted = LockWord.Wanted
lock_back (Lock.Lock.Favours n) = LockWord.Favours n

lock_is : (l : LockWord) → lock_back (lock_of l) ≡ l
lock_is LockWord.Free = refl
lock_is LockWord.Taken = refl
lock_is LockWord.Wanted = refl
lock_is (LockWord.Favours n) = refl

pub same_lock : (k l : LockWord) → lock_of k ≡ lock_of l → k ≡ l
same_lock k l e = sym (lock_is k) ∙ (ap lock_back e ∙ lock_is l)

abbrev buffer_back : Lock.Buffer → Buffer
buffer_back Lock.Buffer.Empty = Buffer.Empty
buffer_back (Lock.Buffer.Holds inside) = Buffer.Holds inside

buffer_is : (b : Buffer) → buffer_back (buffer_of b) ≡ b
buffer_is Buffer.Empty = refl
buffer_is (Buffer.Holds inside) = refl

pub same_buffer : (a b : Buffer) → buffer_of a ≡ buffer_of b → a ≡ b
same_buffer a b e = sym (buffer_is a) ∙ (ap buffer_back e ∙ buffer_is b)

abbrev pub state : Lock.Lock → (ℕ → Lock.Seat) → Lock.State
state l f = record { lock = l; seats = f }

-- one thread changes, by what it was, and the lock stays
pub one_changed : (old new : LockRun) (t : ℕ) (x : Seat) (f : Lock.Seat → Lock.Seat)
    → t < length old.seats.items → x ≡ get_or old.seats.items t x
    → new.lock ≡ old.lock → (state_of new).seats ≡ put (state_of old).seats t (f (seat_of x))
    → state_of new ≡ state (lock_of old.lock) (put (state_of old).seats t (f ((state_of old).seats t)))
one_changed old new t x f h e k g =
    ap (λ (l : LockWord). state (lock_of l) (state_of new).seats) k
    ∙ (ap (λ (h : ℕ → Lock.Seat). state (lock_of old.lock) h) g
    ∙ ap (λ (a : Seat). state (lock_of old.lock) (put (state_of old).seats t (f (seat_of a)))) (get_or_read old.seats.items t x h e outside))
