-- Handles name objects that there are.
use Rattle.std.proofs.Common.{◌≡◌, ℕ, zero, suc, ◌+◌, ◌<◌, ◌≤◌, List, [], ◌∷◌, ◌++◌, length, length-append, refl, sym, ap, ◌∙◌, subst, arith, Option, Some, None, inl, inr, ◌⊎◌}
use Rattle.nt_status.specs.declared.limits.TheConstants.{MAX_HANDLES, MAX_MANY_THREADS}
use Rattle.nt_tables.specs.declared.handles.Opened.{Opened}
use Rattle.nt_tables.specs.Handles.{opened_at, own_handles}
use Rattle.nt_calls.specs.Naming.{object_in}
use Rattle.nt_machine.specs.Lawful.{HandlesAgree}

-- as many objects as before
pub handles_along : {n m : ℕ} (handles : List (Option Opened)) → m ≡ n → HandlesAgree n handles → HandlesAgree m handles
handles_along handles same agree = subst (λ (k : ℕ). HandlesAgree k handles) (sym same) agree

-- a handle of the longer table is one of the shorter, or the last
pub opened_longer : (hs : List (Option Opened)) (new opened : Opened) (h : ℕ) → opened_at (hs ++ Some new ∷ []) h ≡ Some opened → (opened_at hs h ≡ Some opened) ⊎ (new.object ≡ opened.object)
opened_longer [] new opened zero is = inr (ap object_in is)
opened_longer [] new opened (suc h) is = inl is
opened_longer (x ∷ hs) new opened zero is = inl is
opened_longer (x ∷ hs) new opened (suc h) is = opened_longer hs new opened h is

-- one handle more, for an object that there is
pub handles_opened : (n : ℕ) (handles : List (Option Opened)) (object access : ℕ) → length handles < MAX_HANDLES → object < n → HandlesAgree n handles → HandlesAgree n (handles ++ Some (record { object = object; access = access }) ∷ [])
handles_opened n handles object access room known agree =
    let new : Opened = record { object = object; access = access } in
    let len : length (handles ++ Some new ∷ []) ≡ length handles + 1 = length-append handles (Some new ∷ []) in
    let enough = agree.enough in
    record {
      few = omega (arith, room, len);
      enough = omega (arith, enough, len);
      named = λ h opened is. elim (opened_longer handles new opened h is) [
        | inl before ↦ agree.named h opened before
        | inr same ↦ subst (λ (k : ℕ). k < n) same known
      ];
    }

-- one object more, with a handle
pub handles_created : (m : ℕ) (handles : List (Option Opened)) (n access : ℕ) → length handles < MAX_HANDLES → HandlesAgree n handles → m ≡ n + 1 → HandlesAgree m (handles ++ Some (record { object = n; access = access }) ∷ [])
handles_created m handles n access room agree longer =
    let new : Opened = record { object = n; access = access } in
    let len : length (handles ++ Some new ∷ []) ≡ length handles + 1 = length-append handles (Some new ∷ []) in
    let enough = agree.enough in
    record {
      few = omega (arith, room, len);
      enough = omega (arith, enough, len, longer);
      named = λ h opened is. elim (opened_longer handles new opened h is) [
        | inl before ↦ let below = agree.named h opened before in omega (arith, below, longer)
        | inr same ↦ subst (λ (k : ℕ). k < m) same (omega (arith, longer))
      ];
    }

pub own_count : (n access : ℕ) → length (own_handles n access) ≡ n
own_count zero access = refl
own_count (suc n) access = length-append (own_handles n access) (Some (record { object = n; access = access }) ∷ []) ∙ (let same = own_count n access in omega (arith, same))

none_opened : {P : Type 0} (h : ℕ) (opened : Opened) → opened_at [] h ≡ Some opened → P
none_opened zero opened is = let e : None ≡ Some opened = is in (cc)
none_opened (suc h) opened is = let e : None ≡ Some opened = is in (cc)

-- at first each object is a thread's, and has a handle
pub own_agree : (n access : ℕ) → n ≤ MAX_MANY_THREADS → HandlesAgree n (own_handles n access)
own_agree zero access few = record { few = omega arith; enough = omega arith; named = λ h opened is. none_opened h opened is }
own_agree (suc n) access few = handles_created (suc n) (own_handles n access) n access (let count = own_count n access in omega (arith, few, count)) (own_agree n access (omega (arith, few))) (omega arith)
