-- Grants taken as a part of those sent, and moments that rise.
use Rattle.std.proofs.Common.{◌≡◌, ◌⊎◌, ℕ, ◌≤◌, List, [], ◌∷◌, ◌++◌, length, refl, sym, ap, ◌∙◌, subst, ⊎_elim, arith, inl, inr}
use Rattle.nt_mail.specs.declared.knowledge.Got.{Got}
use Rattle.nt_mail.specs.Entries.{Each, AreBelow}
use Rattle.nt_mail.specs.Knowledge.{latest}
use Rattle.nt_mail.specs.Rule.{IsTaken, NeverFall, IsOneOf, WasPublished, AreReadFrom}

-- one more grant is sent
pub taken-sent : (got sent : List Got) (g : Got) → IsTaken got sent → IsTaken got (sent ++ g ∷ [])
taken-sent got [] g h = inl h
taken-sent got (x ∷ xs) g h = ⊎_elim
    (λ a. inl (taken-sent got xs g a))
    (λ (b : (rest : List Got) × (got ≡ x ∷ rest) × IsTaken rest xs). inr (b.0, b.1, taken-sent b.0 xs g b.2))
    h

-- one more grant is sent and taken
pub taken-both : (got sent : List Got) (g : Got) → IsTaken got sent → IsTaken (got ++ g ∷ []) (sent ++ g ∷ [])
taken-both got [] g h = inr ([], ap (λ l. l ++ g ∷ []) h, refl)
taken-both got (x ∷ xs) g h = ⊎_elim
    (λ a. inl (taken-both got xs g a))
    (λ (b : (rest : List Got) × (got ≡ x ∷ rest) × IsTaken rest xs). inr (b.0 ++ g ∷ [], ap (λ l. l ++ g ∷ []) b.1, taken-both b.0 xs g b.2))
    h

pub taken-length : (got sent : List Got) → IsTaken got sent → length got ≤ length sent
taken-length got [] h = let a = ap length h in omega arith
taken-length got (x ∷ xs) h = ⊎_elim
    (λ a. let b = taken-length got xs a in omega arith)
    (λ (b : (rest : List Got) × (got ≡ x ∷ rest) × IsTaken rest xs). let c = ap length b.1 in let d = taken-length b.0 xs b.2 in omega arith)
    h

-- as many taken as sent
pub taken-all : (got sent : List Got) → IsTaken got sent → length sent ≤ length got → got ≡ sent
taken-all got [] h le = h
taken-all got (x ∷ xs) h le = ⊎_elim
    (λ a. let b = taken-length got xs a in absurd (omega arith))
    (λ (b : (rest : List Got) × (got ≡ x ∷ rest) × IsTaken rest xs). let c = ap length b.1 in b.1 ∙ ap (λ l. x ∷ l) (taken-all b.0 xs b.2 (omega arith)))
    h

pub taken-below : (n : ℕ) (got sent : List Got) → IsTaken got sent → AreBelow n sent → AreBelow n got
taken-below n got [] h low = subst (AreBelow n) (sym h) tt
taken-below n got (x ∷ xs) h low = ⊎_elim
    (λ a. taken-below n got xs a low.1)
    (λ (b : (rest : List Got) × (got ≡ x ∷ rest) × IsTaken rest xs). subst (AreBelow n) (sym b.1) (low.0, taken-below n b.0 xs b.2 low.1))
    h

-- the last is not taken where its number is above all that were
pub taken-but_last : (got sent : List Got) (g : Got) → IsTaken got (sent ++ g ∷ []) → AreBelow g.number got → IsTaken got sent
taken-but_last got [] g h low = ⊎_elim
    (λ a. a)
    (λ (b : (rest : List Got) × (got ≡ g ∷ rest) × IsTaken rest []). let c = (subst (AreBelow g.number) b.1 low).0 in absurd (omega arith))
    h
taken-but_last got (x ∷ xs) g h low = ⊎_elim
    (λ a. inl (taken-but_last got xs g a low))
    (λ (b : (rest : List Got) × (got ≡ x ∷ rest) × IsTaken rest (xs ++ g ∷ [])). inr (b.0, b.1, taken-but_last b.0 xs g b.2 (subst (AreBelow g.number) b.1 low).1))
    h

-- a list is empty or has a last
pub ends : (gs : List Got) → (gs ≡ []) ⊎ ((before : List Got) × (g : Got) × (gs ≡ before ++ g ∷ []))
ends [] = inl refl
ends (x ∷ xs) = inr (⊎_elim
    (λ (e : xs ≡ []). ([], x, ap (λ l. x ∷ l) e))
    (λ (b : (before : List Got) × (g : Got) × (xs ≡ before ++ g ∷ [])). (x ∷ b.0, b.1, ap (λ l. x ∷ l) b.2))
    (ends xs))

pub latest-push : (before : ℕ) (ms : List ℕ) (m : ℕ) → latest before (ms ++ m ∷ []) ≡ m
latest-push before [] m = refl
latest-push before (x ∷ xs) m = latest-push x xs m

pub rising-push : (before : ℕ) (ms : List ℕ) (m : ℕ) → NeverFall before ms → latest before ms ≤ m → NeverFall before (ms ++ m ∷ [])
rising-push before [] m h le = (le, tt)
rising-push before (x ∷ xs) m h le = (h.0, rising-push x xs m h.1 le)

one_of-push : (m : ℕ) (ms : List ℕ) (x : ℕ) → IsOneOf m ms → IsOneOf m (ms ++ x ∷ [])
one_of-push m [] x h = absurd h
one_of-push m (y ∷ ys) x h = ⊎_elim (λ e. inl e) (λ r. inr (one_of-push m ys x r)) h

each-published : (published ms : List ℕ) (x : ℕ) → Each (WasPublished published) ms → Each (WasPublished (published ++ x ∷ [])) ms
each-published published [] x h = tt
each-published published (m ∷ ms) x h = (⊎_elim (λ e. inl e) (λ r. inr (one_of-push m published x r)) h.0, each-published published ms x h.1)

each-push : (published ms : List ℕ) (x : ℕ) → Each (WasPublished published) ms → (x ≡ 0) ⊎ IsOneOf x published → Each (WasPublished published) (ms ++ x ∷ [])
each-push published [] x h one = (one, tt)
each-push published (m ∷ ms) x h one = (h.0, each-push published ms x h.1 one)

latest_one : (before : ℕ) (ms : List ℕ) → (latest before ms ≡ before) ⊎ IsOneOf (latest before ms) ms
latest_one before [] = inl refl
latest_one before (m ∷ ms) = inr (⊎_elim (λ e. inl (sym e)) (λ r. inr r) (latest_one m ms))

-- a moment is published
pub read-published : (published ms : List ℕ) (x : ℕ) → latest 0 published ≤ x → AreReadFrom published ms → AreReadFrom (published ++ x ∷ []) ms
read-published published ms x le r = record {
  rising = r.rising;
  reached = (let a = latest-push 0 published x in let b = r.reached in omega arith);
  each = each-published published ms x r.each;
}

-- the moment is read
pub read-push : (published ms : List ℕ) (x : ℕ) → x ≡ latest 0 published → AreReadFrom published ms → AreReadFrom published (ms ++ x ∷ [])
read-push published ms x is r = record {
  rising = rising-push 0 ms x r.rising (let a = r.reached in omega arith);
  reached = (let a = latest-push 0 ms x in omega arith);
  each = each-push published ms x r.each (⊎_elim (λ e. inl (is ∙ e)) (λ o. inr (subst (λ n. IsOneOf n published) (sym is) o)) (latest_one 0 published));
}
