-- Who owns a mutex is one of the threads.
use Rattle.std.proofs.Common.{◌≡◌, ◌<◌, ◌≤◌, ℕ, Bool, true, false, List, [], length, refl, arith, subst, Contains, ltb}
use Rattle.std.proofs.lemmas.Bool.Decides.{nat_tests}
use Rattle.std.proofs.lemmas.List.{get_or_past}
use Rattle.nt_objects.specs.declared.object.Object.{Object}
use Rattle.nt_objects.specs.Object.{owned_by}
use Rattle.nt_tables.specs.Owned.{list_of}
use Rattle.nt_tables.specs.Objects.{object_at, OwnersAgree}

none_inside : (m : ℕ) → Contains {X = ℕ} [] m → {P : Type 0} → P
none_inside m has = let below = has.1 in absurd (omega (arith, below))

pub owner_known : (objects : List Object) (owned : List (List ℕ)) (threads : ℕ) → OwnersAgree objects owned → length owned ≡ threads → (t m : ℕ) → owned_by (object_at objects m) t ≡ true → t < threads
owner_known objects owned threads agree count t m owns = go (ltb t threads) refl
  where
    go : (b : Bool) → ltb t threads ≡ b → t < threads
    go true e = grind (arith, nat_tests, e)
    go false e =
        let past : length owned ≤ t = grind (arith, nat_tests, e, count) in
        let listed : Contains (list_of owned t) m = (agree.named t m).1 owns in
        none_inside m (subst (λ (ms : List ℕ). Contains ms m) (get_or_past owned t [] past) listed)
