-- A trace's list of threads that sleep on words as the protocol's functions of threads.
use Rattle.std.proofs.Common.{◌≡◌, ℕ, zero, suc, Bool, true, false, ◌<◌, List, refl, ap, sym, ◌∙◌, length, get_or}
use Rattle.std.specs.Prelude.{if◌then◌else◌, ◌==◌}
use Rattle.std.proofs.Math.Path.{fun_ext}
use Rattle.std.proofs.Math.ListN.{replicate, set}
use Rattle.nt_protocols.specs.Word as Protocol
use Rattle.nt_protocols.specs.Threads.{put}
use Rattle.nt_protocols.proofs.Putting.{put_kept, set_is}
use Rattle.nt_traces.specs.declared.word.WordSeat.{WordSeat}
use Rattle.nt_traces.specs.declared.word_run.WordRun.{WordRun}
use Rattle.nt_traces.specs.WordTrace.{seat_of, outside, owes_of, owing, seats_of, state_of, uncounted, uncounted_seat}

uncounted_if : (b : Bool) (x y : Protocol.Seat) → uncounted_seat (if b then x else y) ≡ (if b then uncounted_seat x else uncounted_seat y)
uncounted_if true x y = refl
uncounted_if false x y = refl

-- a thread that changes, and is not counted, among threads that are not
put_uncounted : (seats : List WordSeat) (t : ℕ) (a b : Protocol.Seat) → b ≡ uncounted_seat a
    → put (seats_of seats) t b ≡ (λ u. uncounted_seat (put (seats_of seats) t a u))
put_uncounted seats t a b e = fun_ext (λ u.
    ap (λ (x : Protocol.Seat). put (seats_of seats) t x u) e ∙ sym (uncounted_if (u == t) a (seats_of seats u)))

abbrev pub state : (ℕ → Protocol.Seat) → (ℕ → ℕ → Bool) → Protocol.State
state seats owes = record { seats = seats; owes = owes }

-- it is the same whether a thread that changes is counted before or after
pub becomes_uncounted : (r : WordRun) (t : ℕ) (a b : Protocol.Seat) → b ≡ uncounted_seat a
    → Protocol.becomes (state_of r) t b ≡ uncounted (Protocol.becomes (state_of r) t a)
becomes_uncounted r t a b e =
    ap (λ (f : ℕ → Protocol.Seat). state f (owes_of r.seats.items)) (put_uncounted r.seats.items t a b e)

-- the same where t owes u a wake-up, or does not
pub told_uncounted : (r : WordRun) (mid : Protocol.State) (t u : ℕ) (owed : Bool) (a b : Protocol.Seat) → mid ≡ owing (state_of r) t u owed
    → b ≡ uncounted_seat a
    → Protocol.becomes mid u b ≡ uncounted (Protocol.becomes (owing (state_of r) t u owed) u a)
told_uncounted r mid t u owed a b m e =
    ap (λ (s : Protocol.State). Protocol.becomes s u b) m
    ∙ ap (λ (f : ℕ → Protocol.Seat). state f (put (owes_of r.seats.items) t (put (owes_of r.seats.items t) u owed))) (put_uncounted r.seats.items u a b e)

pub state_is : (r : WordRun) (seats : ℕ → Protocol.Seat) (owes : ℕ → ℕ → Bool) → (state_of r).seats ≡ seats → (state_of r).owes ≡ owes
    → state_of r ≡ state seats owes
state_is r seats owes e h =
    ap (λ (f : ℕ → Protocol.Seat). state f (state_of r).owes) e ∙ ap (λ (f : ℕ → ℕ → Bool). state seats f) h

-- a thread is put back that owes whom it owed
pub owes_kept : (seats : List WordSeat) (t : ℕ) (owes : List Bool) → owes ≡ (get_or seats t outside).owes
    → put (owes_of seats) t (λ u. get_or owes u false) ≡ owes_of seats
owes_kept seats t owes e =
    put_kept {A = ℕ → Bool} (owes_of seats) t (λ u. get_or owes u false) (ap (λ (xs : List Bool). λ (u : ℕ). get_or xs u false) e)

-- the same of what else there is of it
pub seats_kept : (seats : List WordSeat) (t : ℕ) (x : WordSeat) → x ≡ get_or seats t outside → put (seats_of seats) t (seat_of x) ≡ seats_of seats
seats_kept seats t x e = put_kept {A = Protocol.Seat} (seats_of seats) t (seat_of x) (ap seat_of e)

-- it owes u a wake-up, or does not, from now on
pub owes_changed : (seats : List WordSeat) (t u : ℕ) (owed : Bool) (x : WordSeat) → x ≡ get_or seats t outside → u < length x.owes
    → put (owes_of seats) t (λ v. get_or (set x.owes u owed) v false) ≡ put (owes_of seats) t (put (owes_of seats t) u owed)
owes_changed seats t u owed x e h =
    let one : (λ v. get_or (set x.owes u owed) v false) ≡ put (λ v. get_or x.owes v false) u owed = set_is (λ (b : Bool). b) x.owes u owed false h in
    ap (λ (f : ℕ → Bool). put (owes_of seats) t f) (one ∙ ap (λ (y : WordSeat). put (λ v. get_or y.owes v false) u owed) e)

at_replicate : {B : Type 0} (f : WordSeat → B) (n t : ℕ) (x : WordSeat) (b : B) → f x ≡ b → f outside ≡ b → f (get_or (replicate n x) t outside) ≡ b
at_replicate f zero t x b e h = h
at_replicate f (suc n) zero x b e h = e
at_replicate f (suc n) (suc t) x b e h = at_replicate f n t x b e h

none_set : (n u : ℕ) → get_or (replicate n false) u false ≡ false
none_set zero u = refl
none_set (suc n) zero = refl
none_set (suc n) (suc u) = none_set n u

-- threads none of which has called
pub opening_is : (n m : ℕ) (x : WordSeat) → seat_of x ≡ seat_of outside → x.owes ≡ replicate m false
    → state (seats_of (replicate n x)) (owes_of (replicate n x)) ≡ Protocol.opening
opening_is n m x e h =
    let owed : WordSeat → ℕ → Bool = λ a u. get_or a.owes u false in
    ap (λ (f : ℕ → Protocol.Seat). state f (owes_of (replicate n x))) (fun_ext (λ t. at_replicate seat_of n t x (seat_of outside) e refl))
    ∙ ap (λ (f : ℕ → ℕ → Bool). state (λ t. seat_of outside) f)
    (fun_ext (λ t. fun_ext (λ u. at_replicate (λ (a : WordSeat). owed a u) n t x false (ap (λ (xs : List Bool). get_or xs u false) h ∙ none_set m u) refl)))
