-- A run is one of the protocol whether grants and answers are counted or not.
use Rattle.std.proofs.Common.{◌≡◌, ℕ, Bool, true, false, List, [], ◌∷◌, refl, ap, sym, ◌∙◌, subst}
use Rattle.std.specs.Prelude.{if◌then◌else◌, ◌==◌}
use Rattle.std.proofs.Math.Path.{fun_ext}
use Rattle.nt_protocols.specs.Word as Protocol
use Rattle.nt_protocols.specs.Threads.{put, Can}
use Rattle.nt_traces.specs.WordTrace.{step, uncounted, uncounted_seat}

uncounted_if : (b : Bool) (x y : Protocol.Seat) → uncounted_seat (if b then x else y) ≡ (if b then uncounted_seat x else uncounted_seat y)
uncounted_if true x y = refl
uncounted_if false x y = refl

abbrev state : (ℕ → Protocol.Seat) → (ℕ → ℕ → Bool) → Protocol.State
state seats owes = record { seats = seats; owes = owes }

abbrev bare : (ℕ → Protocol.Seat) → ℕ → Protocol.Seat
bare f u = uncounted_seat (f u)

-- one thread changes, which is not counted: the others are counted before or are not
put_bare : (f : ℕ → Protocol.Seat) (t : ℕ) (a b : Protocol.Seat) → uncounted_seat a ≡ uncounted_seat b
    → ◌≡◌ {A = ℕ → Protocol.Seat} (λ u. uncounted_seat (put (bare f) t a u)) (λ u. uncounted_seat (put f t b u))
put_bare f t a b e = fun_ext (λ u.
    uncounted_if (u == t) a (bare f u) ∙ ap (λ (x : Protocol.Seat). if u == t then x else bare f u) e ∙ sym (uncounted_if (u == t) b (f u)))

after_one : (f : ℕ → Protocol.Seat) (owes : ℕ → ℕ → Bool) (t : ℕ) (a b : Protocol.Seat) → uncounted_seat a ≡ uncounted_seat b
    → uncounted (state (put (bare f) t a) owes) ≡ uncounted (state (put f t b) owes)
after_one f owes t a b e = ap (λ (g : ℕ → Protocol.Seat). state g owes) (put_bare f t a b e)

told_bare : (a : Protocol.Seat) (w : Protocol.Word) → uncounted_seat (Protocol.told (uncounted_seat a) w) ≡ uncounted_seat (Protocol.told a w)
told_bare a Protocol.Word.Awake = refl
told_bare a Protocol.Word.Asleep = refl
told_bare a Protocol.Word.Called = refl
told_bare a Protocol.Word.Granted = refl

marked_bare : (a : Protocol.Seat) (w : Protocol.Word) → uncounted_seat (Protocol.marked (uncounted_seat a) w) ≡ uncounted_seat (Protocol.marked a w)
marked_bare a Protocol.Word.Awake = refl
marked_bare a Protocol.Word.Asleep = refl
marked_bare a Protocol.Word.Called = refl
marked_bare a Protocol.Word.Granted = refl

-- a step from a state, and from the same with nothing counted
record Alike (s : Protocol.State) (e : Protocol.Event) : Type 0 where
  pub there : (Protocol.step (uncounted s) e).may → (Protocol.step s e).may
  pub back : (Protocol.step s e).may → (Protocol.step (uncounted s) e).may
  pub after : uncounted (Protocol.step (uncounted s) e).after ≡ uncounted (Protocol.step s e).after

alike : (s : Protocol.State) (e : Protocol.Event) → Alike s e
alike s (Protocol.Event.Enters t) = record { there = λ m. m; back = λ m. m; after = after_one s.seats s.owes t _ _ (refl) }
alike s (Protocol.Event.Returns t) = record { there = λ m. m; back = λ m. m; after = after_one s.seats s.owes t _ _ (refl) }
alike s (Protocol.Event.Begins t) = record { there = λ m. m; back = λ m. m; after = after_one s.seats s.owes t _ _ (refl) }
alike s (Protocol.Event.TurnsToSleep t) = record { there = λ m. m; back = λ m. m; after = after_one s.seats s.owes t _ _ (refl) }
alike s (Protocol.Event.Marks t) = record { there = λ m. m; back = λ m. m; after = after_one s.seats s.owes t _ _ (marked_bare (s.seats t) (s.seats t).word) }
alike s (Protocol.Event.FallsAsleep t) = record { there = λ m. m; back = λ m. m; after = after_one s.seats s.owes t _ _ (refl) }
alike s (Protocol.Event.Stirs t) = record { there = λ m. m; back = λ m. m; after = after_one s.seats s.owes t _ _ (refl) }
alike s (Protocol.Event.Restarts t) = record { there = λ m. m; back = λ m. m; after = after_one s.seats s.owes t _ _ (refl) }
alike s (Protocol.Event.FindsItLate t) = record { there = λ m. m; back = λ m. m; after = after_one s.seats s.owes t _ _ (refl) }
alike s (Protocol.Event.Reads t) = record { there = λ m. m; back = λ m. m; after = after_one s.seats s.owes t _ _ (told_bare (s.seats t) (s.seats t).word) }
alike s (Protocol.Event.LooksAtTime t) = record { there = λ m. m; back = λ m. m; after = after_one s.seats s.owes t _ _ (refl) }
alike s (Protocol.Event.Rearms t) = record { there = λ m. m; back = λ m. m; after = after_one s.seats s.owes t _ _ (refl) }
alike s (Protocol.Event.Grants t u) = record { there = λ m. m; back = λ m. m; after = after_one s.seats (Protocol.tells s.owes t u (s.seats u).word) u _ _ (refl) }
alike s (Protocol.Event.Calls t u) = record { there = λ m. m; back = λ m. m; after = after_one s.seats (Protocol.tells s.owes t u (s.seats u).word) u _ _ (refl) }
alike s (Protocol.Event.Wakes t u) = record { there = λ m. m; back = λ m. m; after = after_one s.seats (put s.owes t (put (s.owes t) u false)) u _ _ (refl) }

pub can_uncounted : (es : List Protocol.Event) (s : Protocol.State)
    → (Can step (uncounted s) es → Can Protocol.step s es) × (Can Protocol.step s es → Can step (uncounted s) es)
can_uncounted [] s = (λ c. c, λ c. c)
can_uncounted (e ∷ es) s =
    let one = alike s e in
    let more = can_uncounted es (Protocol.step s e).after in (
      λ c. (one.there c.0, more.0 (subst (λ (x : Protocol.State). Can step x es) one.after c.1)),
      λ c. (one.back c.0, subst (λ (x : Protocol.State). Can step x es) (sym one.after) (more.1 c.1)),
    )

pub opening_uncounted : (es : List Protocol.Event)
    → (Can step Protocol.opening es → Can Protocol.step Protocol.opening es) × (Can Protocol.step Protocol.opening es → Can step Protocol.opening es)
opening_uncounted es = can_uncounted es Protocol.opening
