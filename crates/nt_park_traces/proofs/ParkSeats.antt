-- A trace's list of threads that wait at an address as the protocol's functions of threads.
use Rattle.std.proofs.Common.{◌≡◌, ℕ, zero, suc, Bool, true, false, ◌<◌, List, refl, ap, sym, ◌∙◌, length, get_or}
use Rattle.std.specs.Prelude.{if◌then◌else◌, ◌==◌}
use Rattle.std.proofs.Math.Path.{fun_ext}
use Rattle.std.proofs.Math.ListN.{replicate, set}
use Rattle.nt_protocols.specs.Parking as Protocol
use Rattle.nt_protocols.specs.Threads.{put}
use Rattle.nt_protocols.proofs.Putting.{put_kept, set_is}
use Rattle.nt_park_traces.specs.declared.park.ParkPlace.{ParkPlace}
use Rattle.nt_park_traces.specs.declared.park.ParkSeat.{ParkSeat}
use Rattle.nt_park_traces.specs.declared.park.ParkStanding.{ParkStanding}
use Rattle.nt_park_traces.specs.declared.park_run.ParkRun.{ParkRun}
use Rattle.nt_park_traces.specs.ParkTrace.{owes_of, outside, place_of, seat_of, seats_of, standing_of, state_of, uncounted, uncounted_seat}

-- the words back from the protocol's, so that two that stand for the same are the same
abbrev place_back : Protocol.Place → ParkPlace
place_back Protocol.Place.Out = ParkPlace.Out
place_back (Protocol.Place.ToTake Protocol.Place.ToLook) = ParkPlace.TakesToLook
place_back (Protocol.Place.ToTake Protocol.Place.ToLeave) = ParkPlace.TakesToLeave
place_back (Protocol.Place.ToTake (Protocol.Place.Unparking all)) = ParkPlace.TakesToUnpark all
place_back (Protocol.Place.ToGive Protocol.Place.Out) = ParkPlace.GivesToGo
place_back (Protocol.Place.ToGive Protocol.Place.ToSleep) = ParkPlace.GivesToSleep
place_back (Protocol.Place.ToGive Protocol.Place.Waking) = ParkPlace.GivesToWake
place_back Protocol.Place.ToLook = ParkPlace.ToLook
place_back Protocol.Place.ToPark = ParkPlace.ToPark
place_back Protocol.Place.ToSleep = ParkPlace.ToSleep
place_back Protocol.Place.Asleep = ParkPlace.Asleep
place_back Protocol.Place.ToLoad = ParkPlace.ToLoad
place_back Protocol.Place.ToLeave = ParkPlace.ToLeave
place_back (Protocol.Place.ToCheck all) = ParkPlace.ToCheck all
place_back (Protocol.Place.Unparking all) = ParkPlace.Unparking all
place_back Protocol.Place.Waking = ParkPlace.Waking
place_back _ = ParkPlace.Out

place_is : (p : ParkPlace) → place_back (place_of p) ≡ p
place_is ParkPlace.Out = refl
place_is ParkPlace.TakesToLook = refl
place_is ParkPlace.TakesToLeave = refl
place_is (ParkPlace.TakesToUnpark all) = refl
place_is ParkPlace.GivesToGo = refl
place_is ParkPlace.GivesToSleep = refl
place_is ParkPlace.GivesToWake = refl
place_is ParkPlace.ToLook = refl
place_is ParkPlace.ToPark = refl
place_is ParkPlace.ToSleep = refl
place_is ParkPlace.Asleep = refl
place_is ParkPlace.ToLoad = refl
place_is ParkPlace.ToLeave = refl
place_is (ParkPlace.ToCheck all) = refl
place_is (ParkPlace.Unparking all) = refl
place_is ParkPlace.Waking = refl

pub same_place : (p q : ParkPlace) → place_of p ≡ place_of q → p ≡ q
same_place p q e = sym (place_is p) ∙ (ap place_back e ∙ place_is q)

abbrev standing_back : Protocol.Standing → ParkStanding
standing_back Protocol.Standing.Absent = ParkStanding.Absent
standing_back Protocol.Standing.Listed = ParkStanding.Listed
standing_back (Protocol.Standing.Taken t) = ParkStanding.Taken t

standing_is : (d : ParkStanding) → standing_back (standing_of d) ≡ d
standing_is ParkStanding.Absent = refl
standing_is ParkStanding.Listed = refl
standing_is (ParkStanding.Taken t) = refl

pub same_standing : (d e : ParkStanding) → standing_of d ≡ standing_of e → d ≡ e
same_standing d e h = sym (standing_is d) ∙ (ap standing_back h ∙ standing_is e)

-- ---- one thread changes

uncounted_if : (b : Bool) (x y : Protocol.Seat) → uncounted_seat (if b then x else y) ≡ (if b then uncounted_seat x else uncounted_seat y)
uncounted_if true x y = refl
uncounted_if false x y = refl

-- a thread that changes, and is not counted, among threads that are not
put_uncounted : (seats : List ParkSeat) (t : ℕ) (a b : Protocol.Seat) → b ≡ uncounted_seat a
    → put (seats_of seats) t b ≡ (λ u. uncounted_seat (put (seats_of seats) t a u))
put_uncounted seats t a b e = fun_ext (λ u.
    ap (λ (x : Protocol.Seat). put (seats_of seats) t x u) e ∙ sym (uncounted_if (u == t) a (seats_of seats u)))

abbrev pub state : ℕ → Bool → (ℕ → Protocol.Seat) → (ℕ → ℕ → Bool) → Protocol.State
state value latch seats owes = record { value = value; latch = latch; seats = seats; owes = owes }

-- it is the same whether a thread that changes is counted before or after
pub becomes_uncounted : (r : ParkRun) (t : ℕ) (a b : Protocol.Seat) → b ≡ uncounted_seat a
    → Protocol.becomes (state_of r) t b ≡ uncounted (Protocol.becomes (state_of r) t a)
becomes_uncounted r t a b e =
    ap (λ (f : ℕ → Protocol.Seat). state r.value r.latch f (owes_of r.seats.items)) (put_uncounted r.seats.items t a b e)

pub state_is : (r : ParkRun) (value : ℕ) (latch : Bool) (seats : ℕ → Protocol.Seat) (owes : ℕ → ℕ → Bool) → r.value ≡ value → r.latch ≡ latch
    → (state_of r).seats ≡ seats → (state_of r).owes ≡ owes → state_of r ≡ state value latch seats owes
state_is r value latch seats owes e g h k =
    ap (λ (v : ℕ). state v r.latch (state_of r).seats (state_of r).owes) e
    ∙ ap (λ (b : Bool). state value b (state_of r).seats (state_of r).owes) g
    ∙ ap (λ (f : ℕ → Protocol.Seat). state value latch f (state_of r).owes) h ∙ ap (λ (f : ℕ → ℕ → Bool). state value latch seats f) k

-- a thread is put back that owes whom it owed
pub owes_kept : (seats : List ParkSeat) (t : ℕ) (owes : List Bool) → owes ≡ (get_or seats t outside).owes
    → put (owes_of seats) t (λ u. get_or owes u false) ≡ owes_of seats
owes_kept seats t owes e =
    put_kept {A = ℕ → Bool} (owes_of seats) t (λ u. get_or owes u false) (ap (λ (xs : List Bool). λ (u : ℕ). get_or xs u false) e)

-- the same of what else there is of it
pub seats_kept : (seats : List ParkSeat) (t : ℕ) (x : ParkSeat) → x ≡ get_or seats t outside → put (seats_of seats) t (seat_of x) ≡ seats_of seats
seats_kept seats t x e = put_kept {A = Protocol.Seat} (seats_of seats) t (seat_of x) (ap seat_of e)

-- it owes u a wake-up, or does not, from now on
pub owes_changed : (seats : List ParkSeat) (t u : ℕ) (owed : Bool) (x : ParkSeat) → x ≡ get_or seats t outside → u < length x.owes
    → put (owes_of seats) t (λ v. get_or (set x.owes u owed) v false) ≡ put (owes_of seats) t (put (owes_of seats t) u owed)
owes_changed seats t u owed x e h =
    let one : (λ v. get_or (set x.owes u owed) v false) ≡ put (λ v. get_or x.owes v false) u owed = set_is (λ (b : Bool). b) x.owes u owed false h in
    ap (λ (f : ℕ → Bool). put (owes_of seats) t f) (one ∙ ap (λ (y : ParkSeat). put (λ v. get_or y.owes v false) u owed) e)

at_replicate : {B : Type 0} (f : ParkSeat → B) (n t : ℕ) (x : ParkSeat) (b : B) → f x ≡ b → f outside ≡ b → f (get_or (replicate n x) t outside) ≡ b
at_replicate f zero t x b e h = h
at_replicate f (suc n) zero x b e h = e
at_replicate f (suc n) (suc t) x b e h = at_replicate f n t x b e h

none_set : (n u : ℕ) → get_or (replicate n false) u false ≡ false
none_set zero u = refl
none_set (suc n) zero = refl
none_set (suc n) (suc u) = none_set n u

-- threads none of which has called
pub opening_is : (n m : ℕ) (x : ParkSeat) → seat_of x ≡ seat_of outside → x.owes ≡ replicate m false
    → state 0 false (seats_of (replicate n x)) (owes_of (replicate n x)) ≡ Protocol.opening
opening_is n m x e h =
    let owed : ParkSeat → ℕ → Bool = λ a u. get_or a.owes u false in
    ap (λ (f : ℕ → Protocol.Seat). state 0 false f (owes_of (replicate n x))) (fun_ext (λ t. at_replicate seat_of n t x (seat_of outside) e refl))
    ∙ ap (λ (f : ℕ → ℕ → Bool). state 0 false (λ t. seat_of outside) f)
    (fun_ext (λ t. fun_ext (λ u. at_replicate (λ (a : ParkSeat). owed a u) n t x false (ap (λ (xs : List Bool). get_or xs u false) h ∙ none_set m u) refl)))
