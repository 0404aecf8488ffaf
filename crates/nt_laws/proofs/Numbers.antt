-- What becomes of the handles in a turn: one more at most, one fewer at most, and all others stay.
use Rattle.std.proofs.Common.{◌≡◌, ◌≤◌, ◌<◌, ℕ, zero, suc, ◌+◌, Bool, true, false, cond, ◌==◌, List, [], ◌∷◌, ◌++◌, length, length-append, refl, sym, ap, ◌∙◌, subst, arith, Option, Some, None, inl, inr, ◌⊎◌}
use Rattle.std.specs.Prelude.{slice_set}
use Rattle.std.specs.declared.result.Result.{Result}
use Rattle.std.specs.declared.result.Result.TheVariants.{Ok, Err}
use Rattle.std.specs.Int.RustNames.{bit_and}
use Rattle.std.proofs.lemmas.Bool.{cases_eq, eqb-true}
use Rattle.std.proofs.lemmas.Nat.{and_assoc}
use Rattle.std.proofs.lemmas.List.{length-replicate, length-set, get_or-set_other}
use Rattle.std.proofs.lemmas.Bool.Decides.{nat_tests}
use Rattle.nt_status.specs.Flags.{has_flag}
use Rattle.nt_tables.specs.declared.handles.Opened.{Opened}
use Rattle.nt_objects.specs.Object.{full_access}
use Rattle.nt_tables.specs.Handles.{opened_at}
use Rattle.nt_objects.specs.declared.object.Object.TheVariants.{Thread}
use Rattle.nt_machine.proofs.Handling.{own_count}
use Rattle.nt_calls.specs.declared.call.Call.{Call}
use Rattle.nt_calls.specs.declared.call.Reply.{Reply}
use Rattle.nt_calls.specs.declared.call.Grant.{Grant}
use Rattle.nt_calls.specs.State.{State, opening}
use Rattle.nt_calls.specs.Naming.{call_named}
use Rattle.nt_calls.specs.Change.{change}
use Rattle.nt_calls.specs.Steps.{Step, Called, Ticked}
use Rattle.nt_calls.specs.Living.{Ends}
use Rattle.nt_machine.proofs.Remaining.{same_handles, same_count}
use Rattle.nt_machine.proofs.Listing.{same_yes, same_no}
use Rattle.nt_calls.specs.Runs.{Turn, Calls, Ticks, IsTurn}
use Rattle.nt_laws.specs.Laws.{call_closes, turn_closes, HasRights}
use Rattle.nt_laws.proofs.CallKinds.{IsCreated, IsDuplicated, IsSame, Kind, change_kind}
use Rattle.nt_laws.proofs.Lasting.{Lasts, step_lasts, moments_last}

-- ---- what serving, alerts and deadlines leave alone

-- the handles, and how many objects there are
Numbered : List (Option Opened) → ℕ → State → Type 0
Numbered handles count s = (s.handles ≡ handles) × (length s.objects ≡ count)

numbers_last : (handles : List (Option Opened)) (count : ℕ) → Lasts (Numbered handles count)
unfolding Numbered
numbers_last handles count = record {
  objects = λ s os life here. (here.0, life.count ∙ here.1);
  apcs = λ s queues here. here;
  handing = λ s t may here. here;
  over = λ s t here. here;
  now = λ s m here. here;
}

-- nor does the end of objects
pub ends_numbers : (left new : State) → Ends left new → (new.handles ≡ left.handles) × (length new.objects ≡ length left.objects)
ends_numbers left new ends = (
  ap (λ (s : State). s.handles) ends.leaves ∙ same_handles left ends.objects,
  ap (λ (s : State). length s.objects) ends.leaves ∙ same_count left ends.objects,
)

-- no handle and no object comes after the change of a call
pub step_numbers : (old : State) (t : ℕ) (call : Call) (reply : Reply) (grants : List Grant) (new : State) → Step old t call reply grants new → (new.handles ≡ (change old t call).handles) × (length new.objects ≡ length (change old t call).objects)
unfolding Numbered
step_numbers old t call reply grants new step =
    let first : State = change old t call in
    step_lasts (Numbered first.handles (length first.objects)) (Numbered first.handles (length first.objects)) (numbers_last first.handles (length first.objects)) (λ s here. here) old t call reply grants new step
    (λ s wait same here. here) (refl, refl)

-- nor after the change of a call that is accepted
pub called_numbers : (old : State) (who : ℕ) (call : Call) (reply : Reply) (grants : List Grant) (new : State) → Called old who call (Ok reply) grants new → (new.handles ≡ (change old who (call_named old.handles call)).handles) × (length new.objects ≡ length (change old who (call_named old.handles call)).objects)
called_numbers old who call reply grants new is =
    let step = step_numbers old who (call_named old.handles call) reply grants is.0 is.1.1 in
    let ends = ends_numbers is.0 new is.2 in
    (ends.0 ∙ step.0, ends.1 ∙ step.1)

pub tick_numbers : (old : State) (m : ℕ) (r : Result _ _) (grants : List Grant) (new : State) → Ticked old m r grants new → (new.handles ≡ old.handles) × (length new.objects ≡ length old.objects)
unfolding Numbered
tick_numbers old m (Ok reply) grants new ticked =
    let left : State = ticked.2.1 in
    let moments = moments_last (Numbered old.handles (length old.objects)) (numbers_last old.handles (length old.objects)) ticked.2.0 old m grants left ticked.2.2 (refl, refl) in
    let ends = ends_numbers left new ticked.2.3 in
    (ends.0 ∙ moments.0, ends.1 ∙ moments.1)
tick_numbers old m (Err r) grants new ticked = (ap (λ (s : State). s.handles) ticked.3, ap (λ (s : State). length s.objects) ticked.3)

-- ---- one handle more

opened_before : (handles more : List (Option Opened)) (h : ℕ) → h < length handles → opened_at (handles ++ more) h ≡ opened_at handles h
opened_before [] more h below = absurd (omega (arith, below))
opened_before (x ∷ handles) more zero below = refl
opened_before (x ∷ handles) more (suc h) below = opened_before handles more h (omega (arith, below))

pub some_same : (a b : Opened) → Some a ≡ Some b → a ≡ b
some_same a b is = (cc)

pub opened_more : (handles : List (Option Opened)) (last opened : Opened) (h : ℕ) → opened_at (handles ++ Some last ∷ []) h ≡ Some opened → (opened_at handles h ≡ Some opened) ⊎ (last ≡ opened)
opened_more [] last opened zero is = inr (some_same last opened is)
opened_more [] last opened (suc h) is = inl is
opened_more (x ∷ handles) last opened zero is = inl is
opened_more (x ∷ handles) last opened (suc h) is = opened_more handles last opened h is

-- a handle of the new table is one of the old, or the one whose number was given again
pub opened_given : (handles : List (Option Opened)) (g : ℕ) (new opened : Opened) (k : ℕ) → opened_at (slice_set handles g (Some new)) k ≡ Some opened → (opened_at handles k ≡ Some opened) ⊎ (new ≡ opened)
opened_given [] g new opened k is = inl is
opened_given (x ∷ handles) zero new opened zero is = inr (some_same new opened is)
opened_given (x ∷ handles) zero new opened (suc k) is = inl is
opened_given (x ∷ handles) (suc g) new opened zero is = inl is
opened_given (x ∷ handles) (suc g) new opened (suc k) is = opened_given handles g new opened k is

-- ---- one handle fewer

opened_closed : (handles : List (Option Opened)) (g h : ℕ) → opened_at (slice_set handles g None) h ≡ cond (g == h) None (opened_at handles h)
opened_closed handles g h = elim (cases_eq g h) [
  | inl same ↦ ap (λ k. opened_at (slice_set handles g None) k) (sym same) ∙ (closed_here handles g ∙ ap (λ b. cond b None (opened_at handles h)) (sym (same_yes g h same)))
  | inr differs ↦ get_or-set_other handles g h None None (λ e. differs (sym e)) ∙ ap (λ b. cond b None (opened_at handles h)) (sym (same_no g h differs))
]
  where
    closed_here : (handles : List (Option Opened)) (g : ℕ) → opened_at (slice_set handles g None) g ≡ None
    closed_here [] g = refl
    closed_here (x ∷ handles) zero = refl
    closed_here (x ∷ handles) (suc g) = closed_here handles g

waits_not : {P : Type 0} (opened : Opened) → None ≡ Some opened → P
waits_not opened e = (cc)

-- what is named after a handle is closed was named before
pub opened_still : (handles : List (Option Opened)) (g h : ℕ) (opened : Opened) → opened_at (slice_set handles g None) h ≡ Some opened → opened_at handles h ≡ Some opened
opened_still handles g h opened is = go (g == h) (sym (opened_closed handles g h) ∙ is)
  where
    go : (b : Bool) → cond b None (opened_at handles h) ≡ Some opened → opened_at handles h ≡ Some opened
    go true e = waits_not opened e
    go false e = e

-- ---- a number stays for what it was handed out for

-- what a call leaves of a handle that there was
call_stays : (s new : State) (call : Call) → Kind call s new → (h : ℕ) → h < length s.handles → opened_at new.handles h ≡ cond (call_closes h call) None (opened_at s.handles h)
call_stays s new call (inl other) h below = stays other.1 ∙ ap (λ b. cond b None (opened_at s.handles h)) (sym (other.0.none h))
  where
    stays : IsCreated s new ⊎ (IsDuplicated s new ⊎ IsSame s new) → opened_at new.handles h ≡ opened_at s.handles h
    stays (inl created) = ap (λ (x : State). opened_at x.handles h) created.is ∙ opened_before s.handles _ h below
    stays (inr (inl duplicated)) = ap (λ (x : State). opened_at x.handles h) duplicated.is ∙ opened_before s.handles _ h below
    stays (inr (inr same)) = ap (λ handles. opened_at handles h) same.handles
call_stays s new call (inr closed) h below =
    ap (λ (x : State). opened_at x.handles h) closed.is
    ∙ (opened_closed s.handles closed.handle h ∙ ap (λ b. cond b None (opened_at s.handles h)) (sym (closed.closes h)))

-- each object was created with a handle
abbrev pub AreEnough : State → Type 0
AreEnough s = length s.objects ≤ length s.handles

call_longer : (s new : State) (call : Call) → Kind call s new → (length s.handles ≤ length new.handles) × (length s.objects ≤ length new.objects) × (AreEnough s → AreEnough new)
call_longer s new call (inl other) = longer other.1
  where
    longer : IsCreated s new ⊎ (IsDuplicated s new ⊎ IsSame s new) → (length s.handles ≤ length new.handles) × (length s.objects ≤ length new.objects) × (AreEnough s → AreEnough new)
    longer (inl created) =
        let handles : length new.handles ≡ length s.handles + 1 = ap (λ (x : State). length x.handles) created.is ∙ length-append s.handles _ in
        let objects : length new.objects ≡ length s.objects + 1 = ap (λ (x : State). length x.objects) created.is ∙ length-append s.objects _ in
        (omega (arith, handles), omega (arith, objects), λ enough. omega (arith, handles, objects, enough))
    longer (inr (inl duplicated)) =
        let handles : length new.handles ≡ length s.handles + 1 = ap (λ (x : State). length x.handles) duplicated.is ∙ length-append s.handles _ in
        let objects : length new.objects ≡ length s.objects = ap (λ (x : State). length x.objects) duplicated.is in
        (omega (arith, handles), omega (arith, objects), λ enough. omega (arith, handles, objects, enough))
    longer (inr (inr same)) =
        let handles : length new.handles ≡ length s.handles = ap (λ hs. length hs) same.handles in
        let objects = same.life.count in
        (omega (arith, handles), omega (arith, objects), λ enough. omega (arith, handles, objects, enough))
call_longer s new call (inr closed) =
    let handles : length new.handles ≡ length s.handles = ap (λ (x : State). length x.handles) closed.is ∙ length-set s.handles closed.handle None in
    let objects : length new.objects ≡ length s.objects = ap (λ (x : State). length x.objects) closed.is in
    (omega (arith, handles), omega (arith, objects), λ enough. omega (arith, handles, objects, enough))

pub turn_longer : (old : State) (turn : Turn) (new : State) → AreEnough old → IsTurn old turn new → (length old.handles ≤ length new.handles) × (length old.objects ≤ length new.objects) × AreEnough new
turn_longer old (Calls who call (Ok reply) grants) new enough is =
    let kind = change_kind old who call enough is.1.0 in
    let more = call_longer old (change old who (call_named old.handles call)) call kind in
    let rest = called_numbers old who call reply grants new is in
    let handles : length new.handles ≡ _ = ap (λ hs. length hs) rest.0 in
    let objects = rest.1 in
    let a = more.0 in
    let b = more.1 in
    let c = more.2 enough in
    (omega (arith, handles, a), omega (arith, objects, b), omega (arith, handles, objects, c))
turn_longer old (Calls who call (Err r) grants) new enough is = subst (λ (s : State). (length old.handles ≤ length s.handles) × (length old.objects ≤ length s.objects) × AreEnough s) (sym is.2) (omega arith, omega arith, enough)
turn_longer old (Ticks by m r grants) new enough is =
    let rest = tick_numbers old m r grants new is in
    let handles : length new.handles ≡ length old.handles = ap (λ hs. length hs) rest.0 in
    let objects = rest.1 in
    (omega (arith, handles), omega (arith, objects), omega (arith, handles, objects, enough))

pub turn_stays : (old : State) (turn : Turn) (new : State) → AreEnough old → IsTurn old turn new → (h : ℕ) → h < length old.handles → opened_at new.handles h ≡ cond (turn_closes h turn) None (opened_at old.handles h)
turn_stays old (Calls who call (Ok reply) grants) new enough is h below =
    ap (λ handles. opened_at handles h) (called_numbers old who call reply grants new is).0 ∙ call_stays old (change old who (call_named old.handles call)) call (change_kind old who call enough is.1.0) h below
turn_stays old (Calls who call (Err r) grants) new enough is h below = ap (λ (s : State). opened_at s.handles h) is.2
turn_stays old (Ticks by m r grants) new enough is h below = ap (λ handles. opened_at handles h) (tick_numbers old m r grants new is).0

-- the threads' own objects have their handles
pub opening_enough : (n : ℕ) → AreEnough (opening n)
opening_enough n =
    let handles = own_count n (full_access (Thread false)) in
    let objects : length (opening n).objects ≡ n = length-replicate n (Thread false) in
    omega (arith, handles, objects)

-- ---- rights never grow

-- who has all of some rights has each of them
pub flag_along : (a b c : ℕ) → has_flag a b ≡ true → has_flag b c ≡ true → has_flag a c ≡ true
flag_along a b c has some =
    let first : bit_and a b ≡ b = eqb-true (bit_and a b) b has in
    let second : bit_and b c ≡ c = eqb-true (bit_and b c) c some in
    let all : bit_and a c ≡ c = ap (λ x. bit_and a x) (sym second) ∙ (sym (and_assoc c a b) ∙ (ap (λ x. bit_and x c) first ∙ second)) in
    grind (arith, nat_tests, all)

rights_longer : (handles : List (Option Opened)) (last : Opened) (o access : ℕ) → (last.object ≡ o → has_flag last.access access ≡ true → HasRights handles o access) → HasRights (handles ++ Some last ∷ []) o access → HasRights handles o access
rights_longer handles last o access source has = elim (opened_more handles last has.1 has.0 has.2) [
  | inl before ↦ (has.0, has.1, before, has.3, has.4)
  | inr is ↦ source (ap (λ (x : Opened). x.object) is ∙ has.3) (ap (λ (x : Opened). has_flag x.access access) is ∙ has.4)
]

call_rights : (s new : State) (call : Call) → Kind call s new → (o access : ℕ) → o < length s.objects → HasRights new.handles o access → HasRights s.handles o access
call_rights s new call (inl other) o access below has = before other.1
  where
    before : IsCreated s new ⊎ (IsDuplicated s new ⊎ IsSame s new) → HasRights s.handles o access
    before (inl created) =
        rights_longer s.handles (record { object = length s.objects; access = full_access created.object }) o access (λ here all. absurd (omega (arith, below, here)))
        (subst (λ (x : State). HasRights x.handles o access) created.is has)
    before (inr (inl duplicated)) =
        rights_longer s.handles (record { object = duplicated.opened.object; access = duplicated.access }) o access
        (λ here all. (duplicated.source, duplicated.opened, duplicated.named, here, flag_along duplicated.opened.access duplicated.access access duplicated.has all))
        (subst (λ (x : State). HasRights x.handles o access) duplicated.is has)
    before (inr (inr same)) = subst (λ handles. HasRights handles o access) same.handles has
call_rights s new call (inr closed) o access below has =
    let still : opened_at (slice_set s.handles closed.handle None) has.0 ≡ Some has.1 = ap (λ (x : State). opened_at x.handles has.0) (sym closed.is) ∙ has.2 in
    (has.0, has.1, opened_still s.handles closed.handle has.0 has.1 still, has.3, has.4)

pub turn_rights : (old : State) (turn : Turn) (new : State) → AreEnough old → IsTurn old turn new → (o access : ℕ) → o < length old.objects → HasRights new.handles o access → HasRights old.handles o access
turn_rights old (Calls who call (Ok reply) grants) new enough is o access below has =
    call_rights old (change old who (call_named old.handles call)) call (change_kind old who call enough is.1.0) o access below
    (subst (λ handles. HasRights handles o access) (called_numbers old who call reply grants new is).0 has)
turn_rights old (Calls who call (Err r) grants) new enough is o access below has = subst (λ (s : State). HasRights s.handles o access) is.2 has
turn_rights old (Ticks by m r grants) new enough is o access below has = subst (λ handles. HasRights handles o access) (tick_numbers old m r grants new is).0 has
