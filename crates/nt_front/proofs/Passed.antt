-- The moments that a thread knows at the end.
use Rattle.std.proofs.Common.{◌≡◌, ◌≤◌, ◌<◌, ⊎_elim, inl, inr, ℕ, suc, List, [], ◌∷◌, ◌++◌, Bool, true, false, cond, ◌==◌, Result, Ok, Err, refl, sym, subst, arith}
use Rattle.std.specs.Prelude.{max, nat_le}
use Rattle.std.proofs.lemmas.Bool.Decides.{leb_tells}
use Rattle.nt_mail.specs.declared.entry.Entry.{Entry}
use Rattle.nt_mail.specs.declared.entry.Entry.TheVariants.{Called, Ticked, Granted, Renewed}
use Rattle.nt_life.specs.declared.renewal.Renewal.{Renewal}
use Rattle.nt_life.specs.declared.renewal.Renewal.TheVariants.{Create, CreateAdded, Unadded, Duplicate, Begin}
use Rattle.nt_mail.specs.declared.knowledge.Asked.{Asked}
use Rattle.nt_mail.specs.declared.knowledge.Made.{Made}
use Rattle.nt_mail.specs.declared.knowledge.Knowledge.{Knowledge}
use Rattle.nt_mail.specs.Entries.{Each, item, asked_of, handle_reply, call_at, calls_from, calls_of, accepted_at, accepted}
use Rattle.nt_mail.specs.Knowledge.{latest}
use Rattle.nt_mail.specs.Rule.{IsOneOf, WasPublished}
use Rattle.nt_front.specs.Holds.{moment_if, ticked_to, floor_of}
use Rattle.nt_calls.specs.declared.call.Reply.{Reply}
use Rattle.nt_status.specs.declared.refusal.Refusal.{Refusal}

later_of : (ms : List ℕ) (a b : ℕ) → WasPublished ms a → WasPublished ms b → WasPublished ms (max a b)
later_of ms a b of_a of_b = ⊎_elim
    (λ (le : (nat_le a b ≡ true) × (a ≤ b)). let less = le.1 in subst (WasPublished ms) (omega (arith, less)) of_b)
    (λ (gt : (nat_le a b ≡ false) × (b < a)). let more = gt.1 in subst (WasPublished ms) (omega (arith, more)) of_a)
    (leb_tells a b)

-- ---- moments that were read

latest_of : (ms read : List ℕ) (before : ℕ) → WasPublished ms before → Each (WasPublished ms) read → WasPublished ms (latest before read)
latest_of ms [] before of are = of
latest_of ms (m ∷ read) before of are = latest_of ms read m are.0 are.1

-- ---- moments that were ticked to

one_of-left : (m : ℕ) (xs ys : List ℕ) → IsOneOf m xs → IsOneOf m (xs ++ ys)
one_of-left m [] ys one = absurd one
one_of-left m (x ∷ xs) ys (inl is) = inl is
one_of-left m (x ∷ xs) ys (inr one) = inr (one_of-left m xs ys one)

one_of-right : (m : ℕ) (xs ys : List ℕ) → IsOneOf m ys → IsOneOf m (xs ++ ys)
one_of-right m [] ys one = one
one_of-right m (x ∷ xs) ys one = inr (one_of-right m xs ys one)

of-left : (m : ℕ) (xs ys : List ℕ) → WasPublished xs m → WasPublished (xs ++ ys) m
of-left m xs ys (inl zero) = inl zero
of-left m xs ys (inr one) = inr (one_of-left m xs ys one)

of-right : (m : ℕ) (xs ys : List ℕ) → WasPublished ys m → WasPublished (xs ++ ys) m
of-right m xs ys (inl zero) = inl zero
of-right m xs ys (inr one) = inr (one_of-right m xs ys one)

ticked_to-append : (xs ys : List Made) → ticked_to (xs ++ ys) ≡ max (ticked_to xs) (ticked_to ys)
ticked_to-append [] ys = omega arith
ticked_to-append (x ∷ xs) ys = omega (arith, ticked_to-append xs ys)

-- a renewal ticks to no moment
no_moment : (renewal : Renewal) (result : Result Reply Refusal) → moment_if (asked_of renewal) result ≡ 0
no_moment (Create act object handle) result = refl
no_moment (CreateAdded act object handle) result = refl
no_moment (Unadded act) result = refl
no_moment (Duplicate source access handle) result = refl
no_moment (Begin handle) result = refl

one_entry : (t n : ℕ) (e : Entry) → WasPublished (accepted_at e) (ticked_to (call_at t n e))
one_entry t n (Called who call result) = by (who == t)
  where
    by : (own : Bool) → WasPublished [] (ticked_to (cond own (item n (Asked.Call call) result ∷ []) []))
    by true = inl refl
    by false = inl refl
one_entry t n (Ticked who moment (Ok reply)) = by (who == t)
  where
    by : (own : Bool) → WasPublished (moment ∷ []) (ticked_to (cond own (item n (Asked.Tick moment) (Ok reply) ∷ []) []))
    by true = inr (inl (omega arith))
    by false = inl refl
one_entry t n (Ticked who moment (Err cause)) = by (who == t)
  where
    by : (own : Bool) → WasPublished [] (ticked_to (cond own (item n (Asked.Tick moment) (Err cause) ∷ []) []))
    by true = inl refl
    by false = inl refl
one_entry t n (Granted who status) = inl refl
one_entry t n (Renewed who renewal result) = by (who == t)
  where
    by : (own : Bool) → WasPublished [] (ticked_to (cond own (item n (asked_of renewal) (handle_reply result) ∷ []) []))
    by true = let none = no_moment renewal (handle_reply result) in inl (omega (arith, none))
    by false = inl refl

ticks_of : (t n : ℕ) (es : List Entry) → WasPublished (accepted es) (ticked_to (calls_from t n es))
ticks_of t n [] = inl refl
ticks_of t n (e ∷ es) =
    let here = ticked_to (call_at t n e) in
    let rest = ticked_to (calls_from t (suc n) es) in
    subst (WasPublished (accepted_at e ++ accepted es)) (sym (ticked_to-append (call_at t n e) (calls_from t (suc n) es)))
    (later_of (accepted_at e ++ accepted es) here rest (of-left here (accepted_at e) (accepted es) (one_entry t n e)) (of-right rest (accepted_at e) (accepted es) (ticks_of t (suc n) es)))

-- the greatest moment that a thread knows
pub floor_passed : (es : List Entry) (k : Knowledge) → k.made ≡ calls_of k.thread es → Each (WasPublished (accepted es)) k.moments → WasPublished (accepted es) (floor_of k)
floor_passed es k made read =
    later_of (accepted es) (latest 0 k.moments) (ticked_to k.made) (latest_of (accepted es) k.moments 0 (inl refl) read)
    (subst (λ (ms : List Made). WasPublished (accepted es) (ticked_to ms)) (sym made) (ticks_of k.thread 1 es))
