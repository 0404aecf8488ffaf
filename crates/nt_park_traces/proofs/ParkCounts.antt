-- A run is one of the protocol whether unparks and answers are counted or not.
use Rattle.std.proofs.Common.{◌≡◌, ℕ, Bool, true, false, List, [], ◌∷◌, refl, ap, sym, ◌∙◌, subst}
use Rattle.std.specs.Prelude.{if◌then◌else◌, ◌==◌}
use Rattle.std.proofs.Math.Path.{fun_ext}
use Rattle.nt_protocols.specs.Parking as Protocol
use Rattle.nt_protocols.specs.Threads.{put, Can}
use Rattle.nt_park_traces.specs.ParkTrace.{step, uncounted, uncounted_seat}

uncounted_if : (b : Bool) (x y : Protocol.Seat) → uncounted_seat (if b then x else y) ≡ (if b then uncounted_seat x else uncounted_seat y)
uncounted_if true x y = refl
uncounted_if false x y = refl

abbrev state : ℕ → Bool → (ℕ → Protocol.Seat) → (ℕ → ℕ → Bool) → Protocol.State
state value latch seats owes = record { value = value; latch = latch; seats = seats; owes = owes }

abbrev bare_seats : (ℕ → Protocol.Seat) → ℕ → Protocol.Seat
bare_seats f u = uncounted_seat (f u)

-- one thread changes, which is not counted: the others are counted before or are not
put_bare : (f : ℕ → Protocol.Seat) (t : ℕ) (a b : Protocol.Seat) → uncounted_seat a ≡ uncounted_seat b
    → ◌≡◌ {A = ℕ → Protocol.Seat} (λ u. uncounted_seat (put (bare_seats f) t a u)) (λ u. uncounted_seat (put f t b u))
put_bare f t a b e = fun_ext (λ u.
    uncounted_if (u == t) a (bare_seats f u) ∙ ap (λ (x : Protocol.Seat). if u == t then x else bare_seats f u) e ∙ sym (uncounted_if (u == t) b (f u)))

after_one : (value : ℕ) (latch : Bool) (f : ℕ → Protocol.Seat) (owes : ℕ → ℕ → Bool) (t : ℕ) (a b : Protocol.Seat) → uncounted_seat a ≡ uncounted_seat b
    → uncounted (state value latch (put (bare_seats f) t a) owes) ≡ uncounted (state value latch (put f t b) owes)
after_one value latch f owes t a b e = ap (λ (g : ℕ → Protocol.Seat). state value latch g owes) (put_bare f t a b e)

read_bare : (a : Protocol.Seat) (b : Bool) → uncounted_seat (Protocol.read (uncounted_seat a) b) ≡ uncounted_seat (Protocol.read a b)
read_bare a true = refl
read_bare a false = refl

read_again_bare : (a : Protocol.Seat) (b : Bool) → uncounted_seat (Protocol.read_again (uncounted_seat a) b) ≡ uncounted_seat (Protocol.read_again a b)
read_again_bare a true = refl
read_again_bare a false = refl

-- a step from a state, and from the same with nothing counted
record Alike (s : Protocol.State) (e : Protocol.Event) : Type 0 where
  pub there : (Protocol.step (uncounted s) e).may → (Protocol.step s e).may
  pub back : (Protocol.step s e).may → (Protocol.step (uncounted s) e).may
  pub after : uncounted (Protocol.step (uncounted s) e).after ≡ uncounted (Protocol.step s e).after

alike : (s : Protocol.State) (e : Protocol.Event) → Alike s e
alike s (Protocol.Event.Counts t x) = record { there = λ m. m; back = λ m. m; after = after_one s.value s.latch s.seats s.owes t _ _ refl }
alike s (Protocol.Event.TakesLatch t p) = record { there = λ m. m; back = λ m. m; after = after_one s.value true s.seats s.owes t _ _ refl }
alike s (Protocol.Event.GivesLatch t p) = record { there = λ m. m; back = λ m. m; after = after_one s.value false s.seats s.owes t _ _ refl }
alike s (Protocol.Event.LooksSame t) = record { there = λ m. m; back = λ m. m; after = after_one s.value s.latch s.seats s.owes t _ _ refl }
alike s (Protocol.Event.LooksOther t) = record { there = λ m. m; back = λ m. m; after = after_one s.value s.latch s.seats s.owes t _ _ refl }
alike s (Protocol.Event.Parks t) = record { there = λ m. m; back = λ m. m; after = after_one s.value s.latch s.seats s.owes t _ _ refl }
alike s (Protocol.Event.FallsAsleep t) = record { there = λ m. m; back = λ m. m; after = after_one s.value s.latch s.seats s.owes t _ _ refl }
alike s (Protocol.Event.Stirs t) = record { there = λ m. m; back = λ m. m; after = after_one s.value s.latch s.seats s.owes t _ _ refl }
alike s (Protocol.Event.Restarts t) = record { there = λ m. m; back = λ m. m; after = after_one s.value s.latch s.seats s.owes t _ _ refl }
alike s (Protocol.Event.Reads t) = record { there = λ m. m; back = λ m. m; after = after_one s.value s.latch s.seats s.owes t _ _ (read_bare (s.seats t) (s.seats t).parked) }
alike s (Protocol.Event.TimesOut t) = record { there = λ m. m; back = λ m. m; after = after_one s.value s.latch s.seats s.owes t _ _ refl }
alike s (Protocol.Event.Leaves t) = record { there = λ m. m; back = λ m. m; after = after_one s.value s.latch s.seats s.owes t _ _ (read_again_bare (s.seats t) (s.seats t).parked) }
alike s (Protocol.Event.Changes t v) = record { there = λ m. m; back = λ m. m; after = after_one v s.latch s.seats s.owes t _ _ refl }
alike s (Protocol.Event.Calls t) = record { there = λ m. m; back = λ m. m; after = after_one s.value s.latch s.seats s.owes t _ _ refl }
alike s (Protocol.Event.SeesNobody t all) = record { there = λ m. m; back = λ m. m; after = after_one s.value s.latch s.seats s.owes t _ _ refl }
alike s (Protocol.Event.SeesSome t all) = record { there = λ m. m; back = λ m. m; after = after_one s.value s.latch s.seats s.owes t _ _ refl }
alike s (Protocol.Event.TakesOff t u all) = record { there = λ m. m; back = λ m. m; after = after_one s.value s.latch s.seats s.owes u _ _ refl }
alike s (Protocol.Event.Unparks t u) = record { there = λ m. m; back = λ m. m; after = after_one s.value s.latch s.seats (put s.owes t (put (s.owes t) u true)) u _ _ refl }
alike s (Protocol.Event.Finishes t all) = record { there = λ m. m; back = λ m. m; after = after_one s.value s.latch s.seats s.owes t _ _ refl }
alike s (Protocol.Event.Wakes t u) = record { there = λ m. m; back = λ m. m; after = after_one s.value s.latch s.seats (put s.owes t (put (s.owes t) u false)) u _ _ refl }
alike s (Protocol.Event.Returns t) = record { there = λ m. m; back = λ m. m; after = after_one s.value s.latch s.seats s.owes t _ _ refl }

pub can_uncounted : (es : List Protocol.Event) (s : Protocol.State)
    → (Can step (uncounted s) es → Can Protocol.step s es) × (Can Protocol.step s es → Can step (uncounted s) es)
can_uncounted [] s = (λ c. c, λ c. c)
can_uncounted (e ∷ es) s =
    let one = alike s e in
    let more = can_uncounted es (Protocol.step s e).after in (
      λ c. (one.there c.0, more.0 (subst (λ (x : Protocol.State). Can step x es) one.after c.1)),
      λ c. (one.back c.0, subst (λ (x : Protocol.State). Can step x es) (sym one.after) (more.1 c.1)),
    )

pub opening_uncounted : (es : List Protocol.Event)
    → (Can step Protocol.opening es → Can Protocol.step Protocol.opening es) × (Can Protocol.step Protocol.opening es → Can step Protocol.opening es)
opening_uncounted es = can_uncounted es Protocol.opening
