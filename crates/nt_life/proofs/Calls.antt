-- What becomes of the spare numbers in a call of the machine.
use Rattle.std.proofs.Common.{◌≡◌, ◌≤◌, ◌<◌, ℕ, zero, suc, ◌-◌, ◌==◌, Bool, true, false, not, ◌&&◌, ◌||◌, List, [], ◌∷◌, ◌++◌, length, length-append, get_or, set, refl, sym, ap, ◌∙◌, subst, arith, Option, Some, None, inl, inr}
use Rattle.std.specs.Prelude.{nat_lt, nat_le, if◌then◌else◌}
use Rattle.std.specs.Option.{option_map}
use Rattle.std.specs.declared.result.Result.{Result}
use Rattle.std.specs.declared.result.Result.TheVariants.{Ok, Err}
use Rattle.std.proofs.lemmas.Bool.{cases_eq, false≢true}
use Rattle.std.proofs.lemmas.Bool.Decides.{nat_tests}
use Rattle.std.proofs.lemmas.List.{length-set}
use Rattle.nt_status.specs.declared.limits.TheConstants.{MAX_HANDLES}
use Rattle.nt_status.specs.declared.refusal.Refusal.{Refusal}
use Rattle.nt_tables.specs.declared.handles.Opened.{Opened}
use Rattle.nt_tables.specs.Handles.{opened_at}
use Rattle.nt_objects.specs.Object.{is_gone, full_access}
use Rattle.nt_calls.specs.declared.call.Act.{Act}
use Rattle.nt_calls.specs.declared.call.Call.{Call}
use Rattle.nt_calls.specs.declared.call.Reply.{Reply}
use Rattle.nt_calls.specs.declared.call.Grant.{Grant}
use Rattle.nt_calls.specs.State.{State, object_at}
use Rattle.nt_calls.specs.Naming.{call_named}
use Rattle.nt_calls.specs.Change.{change}
use Rattle.nt_calls.specs.Living.{is_opened, is_awaited, runs, is_kept, lives, LivesWhileKept}
use Rattle.nt_calls.specs.Steps.{Called}
use Rattle.nt_core.specs.Renewals.{is_closed, is_vacant}
use Rattle.nt_apc.specs.Queues.{is_queued}
use Rattle.nt_machine.proofs.Lives.{counted_opened}
use Rattle.nt_machine.proofs.Remaining.{both, and_not}
use Rattle.nt_laws.specs.Laws.{call_closes}
use Rattle.nt_laws.proofs.CallKinds.{Kind, change_kind}
use Rattle.nt_laws.proofs.Numbers.{called_numbers}
use Rattle.nt_life.specs.Lasting.{Spares, IsSpare, times, is_unnamed, is_creation, last_closed}
use Rattle.nt_life.proofs.Times.{place_of, stands, bounded, times_end, other_weight}
use Rattle.nt_tables.proofs.Counting.{weight}
use Rattle.nt_life.proofs.Spares.{spare_created, spare_duplicated, spare_same, named_not, weight_most, handles_closed, objects_closed, objects_kept, few_closed}

-- ---- a call that closes nothing leaves the spare numbers

pub call_spare : (old : State) (who : ℕ) (call : Call) (result : Result Reply Refusal) (grants : List Grant) (new : State) (spare : Spares) → length old.objects ≤ length old.handles → ((h : ℕ) → call_closes h call ≡ false) → new.threads ≡ old.threads → Called old who call result grants new → IsSpare old spare → IsSpare new spare
call_spare old who call (Err cause) grants new spare enough none threads called is = subst (λ (s : State). IsSpare s spare) (sym called.2) is
call_spare old who call (Ok reply) grants new spare enough none threads called is = go (change_kind old who call enough called.1.0)
  where
    changed : State
    changed = change old who (call_named old.handles call)

    numbers : (new.handles ≡ changed.handles) × (length new.objects ≡ length changed.objects)
    numbers = called_numbers old who call reply grants new called

    go : Kind call old changed → IsSpare new spare
    go (inl (closes, inl made)) =
        spare_created old new spare (record { object = length old.objects; access = full_access made.object }) is refl
        (numbers.0 ∙ ap (λ (s : State). s.handles) made.is) threads
        (numbers.1 ∙ (ap (λ (s : State). length s.objects) made.is ∙ length-append old.objects (made.object ∷ [])))
    go (inl (closes, inr (inl more))) =
        spare_duplicated old new spare (record { object = more.opened.object; access = more.access }) is
        (counted_opened old.handles more.source more.opened more.named)
        (numbers.0 ∙ ap (λ (s : State). s.handles) more.is) threads
        (numbers.1 ∙ ap (λ (s : State). length s.objects) more.is)
    go (inl (closes, inr (inr same))) = spare_same old new spare is (numbers.0 ∙ same.handles) threads (numbers.1 ∙ same.life.count)
    go (inr closed) =
        let own : (closed.handle == closed.handle) ≡ true = grind (arith, nat_tests) in
        absurd (false≢true (sym (none closed.handle) ∙ (closed.closes closed.handle ∙ own)))

-- a creation closes nothing
pub creation_closes : (act : Act) → is_creation act ≡ true → (h : ℕ) → call_closes h (Call.Act act) ≡ false
creation_closes (Act.CreateEvent flags) creates h = refl
creation_closes (Act.CreateSemaphore initial maximum) creates h = refl
creation_closes (Act.CreateMutex flags) creates h = refl
creation_closes (Act.CreateTimer flags) creates h = refl
creation_closes act creates h = absurd (false≢true creates)

-- nor does any act but Close
pub act_closes : (act : Act) → ((h : ℕ) → act ≡ Act.Close h → ⊥) → (h : ℕ) → call_closes h (Call.Act act) ≡ false
act_closes (Act.Close g) none h = absurd (none g refl)
act_closes act none h = refl

-- nor any call that is no act
pub no_act_closes : (call : Call) → ((act : Act) → call ≡ Call.Act act → ⊥) → (h : ℕ) → call_closes h call ≡ false
no_act_closes (Call.Act act) none h = absurd (none act refl)
no_act_closes call none h = refl

-- ---- a call that closes a handle

pub close_numbers : (old : State) (who h : ℕ) (reply : Reply) (grants : List Grant) (new : State) → length old.objects ≤ length old.handles → Called old who (Call.Act (Act.Close h)) (Ok reply) grants new → (new.handles ≡ set old.handles h None) × (length new.objects ≡ length old.objects)
close_numbers old who h reply grants new enough called = go (change_kind old who (Call.Act (Act.Close h)) enough called.1.0)
  where
    changed : State
    changed = change old who (call_named old.handles (Call.Act (Act.Close h)))

    numbers : (new.handles ≡ changed.handles) × (length new.objects ≡ length changed.objects)
    numbers = called_numbers old who (Call.Act (Act.Close h)) reply grants new called

    own : (h == h) ≡ true
    own = grind (arith, nat_tests)

    go : Kind (Call.Act (Act.Close h)) old changed → (new.handles ≡ set old.handles h None) × (length new.objects ≡ length old.objects)
    go (inl (closes, rest)) = absurd (false≢true (sym (closes.none h) ∙ own))
    go (inr closed) =
        let test : (closed.handle == h) ≡ true = sym (closed.closes h) ∙ own in
        let same : closed.handle ≡ h = grind (arith, nat_tests, test) in (
          numbers.0 ∙ (ap (λ (s : State). s.handles) closed.is ∙ ap (λ (g : ℕ). set old.handles g None) same),
          numbers.1 ∙ ap (λ (s : State). length s.objects) closed.is,
        )

closed_before : (hs : List (Option Opened)) (h : ℕ) → opened_at hs h ≡ None → set hs h None ≡ hs
closed_before [] h none = refl
closed_before (x ∷ hs) zero none = ap (λ y. y ∷ hs) (sym none)
closed_before (x ∷ hs) (suc h) none = ap (λ ys. x ∷ ys) (closed_before hs h none)

-- what names nothing is closed by nothing
pub unopened_spare : (old : State) (who h : ℕ) (result : Result Reply Refusal) (grants : List Grant) (new : State) (spare : Spares) → length old.objects ≤ length old.handles → opened_at old.handles h ≡ None → new.threads ≡ old.threads → Called old who (Call.Act (Act.Close h)) result grants new → IsSpare old spare → IsSpare new spare
unopened_spare old who h (Err cause) grants new spare enough none threads called is = subst (λ (s : State). IsSpare s spare) (sym called.2) is
unopened_spare old who h (Ok reply) grants new spare enough none threads called is =
    let numbers = close_numbers old who h reply grants new enough called in
    spare_same old new spare is (numbers.0 ∙ closed_before old.handles h none) threads numbers.1

-- ---- what is free is spare

pub vacant_unnamed : (s : State) (o : ℕ) → LivesWhileKept s → is_vacant s o ≡ true → is_unnamed s o ≡ true
vacant_unnamed s o living vacant =
    let first = both (nat_le s.threads o) (nat_lt o (length s.objects) && (is_gone (object_at s.objects o) && not (is_queued s.apcs o))) vacant in
    let second = both (nat_lt o (length s.objects)) (is_gone (object_at s.objects o) && not (is_queued s.apcs o)) first.1 in
    let third = both (is_gone (object_at s.objects o)) (not (is_queued s.apcs o)) second.1 in
    let gone : lives s o ≡ false = ap (λ b. nat_lt o (length s.objects) && not b) third.0 ∙ and_not (nat_lt o (length s.objects)) in
    let unkept : is_kept s o ≡ false = sym (living o) ∙ gone in
    ap (λ b. b && (nat_lt o (length s.objects) && not (is_opened s o))) first.0
    ∙ (ap (λ b. b && not (is_opened s o)) second.0
    ∙ ap (λ b. not b) (unopened (is_opened s o) (is_awaited s o || runs s o) unkept))
  where
    unopened : (a b : Bool) → (a || b) ≡ false → a ≡ false
    unopened true b e = absurd (false≢true (sym e))
    unopened false b e = refl

pub none_vacant : (s : State) (spare : Spares) → IsSpare s spare → LivesWhileKept s → ((place : ℕ) → place < length spare.unnamed → is_vacant s (get_or spare.unnamed place 0) ≡ false) → (o : ℕ) → is_vacant s o ≡ false
none_vacant s spare is living none o = go (is_vacant s o) refl
  where
    go : (b : Bool) → is_vacant s o ≡ b → is_vacant s o ≡ false
    go false e = e
    go true e =
        let once : times o spare.unnamed ≡ 1 = is.objects o ∙ ap (λ b. if b then 1 else 0) (vacant_unnamed s o living e) in
        let place = place_of o spare.unnamed (omega (arith, once)) in
        ap (λ (k : ℕ). is_vacant s k) (sym place.2) ∙ none place.0 place.1

-- the number of the handle that was closed last is that of a closed one
pub last_is_closed : (s : State) (spare : Spares) → IsSpare s spare → 0 < length spare.closed → is_closed s (last_closed spare) ≡ true
last_is_closed s spare is some = go (is_closed s (last_closed spare)) refl
  where
    go : (b : Bool) → is_closed s (last_closed spare) ≡ b → is_closed s (last_closed spare) ≡ true
    go true e = e
    go false e =
        let once = stands spare.closed (length spare.closed - 1) (omega (arith, some)) in
        let never : times (last_closed spare) spare.closed ≡ 0 = is.handles (last_closed spare) ∙ ap (λ b. if b then 1 else 0) e in
        absurd (omega (arith, once, never))

-- no handle is closed where none is spare
pub none_closed : (s : State) (spare : Spares) → IsSpare s spare → length spare.closed ≡ 0 → (h : ℕ) → is_closed s h ≡ false
none_closed s spare is none h = go (is_closed s h) refl
  where
    empty : (ns : List ℕ) → length ns ≡ 0 → times h ns ≡ 0
    empty [] e = refl
    empty (n ∷ ns) e = absurd (omega (arith, e))

    go : (b : Bool) → is_closed s h ≡ b → is_closed s h ≡ false
    go false e = e
    go true e =
        let once : times h spare.closed ≡ 1 = is.handles h ∙ ap (λ b. if b then 1 else 0) e in
        let never = empty spare.closed none in
        absurd (omega (arith, once, never))

-- ---- a close that is accepted

-- what the handle named, and the two lists then
pub closed_spare : (old new : State) (spare after : Spares) (h : ℕ) (opened : Opened) → IsSpare old spare → h < length old.handles → opened_at old.handles h ≡ Some opened → new.handles ≡ set old.handles h None → new.threads ≡ old.threads → length new.objects ≡ length old.objects → after.closed ≡ spare.closed ++ h ∷ [] → after.unnamed ≡ (if is_unnamed new opened.object then spare.unnamed ++ opened.object ∷ [] else spare.unnamed) → IsSpare new after
closed_spare old new spare after h opened is there was handles threads count closed unnamed = record {
  handles = λ n. ap (λ ns. times n ns) closed ∙ handles_closed old new spare h opened is there was handles n;
  objects = λ n. ap (λ ns. times n ns) unnamed ∙ go (is_unnamed new opened.object) refl n;
}
  where
    go : (b : Bool) → is_unnamed new opened.object ≡ b → (n : ℕ) → times n (if b then spare.unnamed ++ opened.object ∷ [] else spare.unnamed) ≡ weight (is_unnamed new n)
    go true e n = objects_closed old new spare h opened is was handles threads count e n
    go false e n = objects_kept old new spare h opened is was handles threads count e n

-- there is room for both
pub closed_room : (old new : State) (spare : Spares) (h : ℕ) (opened : Opened) → IsSpare old spare → h < length old.handles → opened_at old.handles h ≡ Some opened → new.handles ≡ set old.handles h None → length old.handles ≤ MAX_HANDLES → length spare.closed < MAX_HANDLES
closed_room old new spare h opened is there was handles few =
    let most = few_closed new (spare.closed ++ h ∷ []) (handles_closed old new spare h opened is there was handles) in
    let more = length-append spare.closed (h ∷ []) in
    let same : length new.handles ≡ length old.handles = ap (λ hs. length hs) handles ∙ length-set old.handles h None in
    omega (arith, most, more, same, few)

-- the object that the handle named is no unnamed one yet, so there are fewer than there are objects
pub unnamed_room : (old : State) (spare : Spares) (h : ℕ) (opened : Opened) → IsSpare old spare → opened_at old.handles h ≡ Some opened → opened.object < length old.objects → length old.objects ≤ MAX_HANDLES → length spare.unnamed < MAX_HANDLES
unnamed_room old spare h opened is was known few =
    let named : is_unnamed old opened.object ≡ false = named_not old opened.object (counted_opened old.handles h opened was) in
    let most = bounded (spare.unnamed ++ opened.object ∷ []) (length old.objects) once below in
    let more = length-append spare.unnamed (opened.object ∷ []) in
    omega (arith, most, more, few)
  where
    none : times opened.object spare.unnamed ≡ 0
    none = is.objects opened.object ∙ ap weight (named_not old opened.object (counted_opened old.handles h opened was))

    once : (n : ℕ) → times n (spare.unnamed ++ opened.object ∷ []) ≤ 1
    once n = elim (cases_eq n opened.object) [
      | inl same ↦
          let end = times_end n opened.object spare.unnamed in
          let here : times n spare.unnamed ≡ 0 = ap (λ (k : ℕ). times k spare.unnamed) same ∙ none in
          let most = weight_most (opened.object == n) in
          omega (arith, end, here, most)
      | inr differs ↦
          let end = times_end n opened.object spare.unnamed in
          let other = other_weight opened.object n (λ e. differs (sym e)) in
          let all = is.objects n in
          let most = weight_most (is_unnamed old n) in
          omega (arith, end, other, all, most)
    ]

    below : (n : ℕ) → 0 < times n (spare.unnamed ++ opened.object ∷ []) → n < length old.objects
    below n some = elim (cases_eq n opened.object) [
      | inl same ↦ omega (arith, known, same)
      | inr differs ↦
          let end = times_end n opened.object spare.unnamed in
          let other = other_weight opened.object n (λ e. differs (sym e)) in
          there n (omega (arith, end, other, some))
    ]
      where
        there : (k : ℕ) → 0 < times k spare.unnamed → k < length old.objects
        there k stands = go (nat_lt k (length old.objects)) refl
          where
            go : (b : Bool) → nat_lt k (length old.objects) ≡ b → k < length old.objects
            go true e = grind (arith, nat_tests, e)
            go false e = let gone : times k spare.unnamed ≡ 0 = is.objects k ∙ ap weight (ap (λ b. nat_le old.threads k && (b && not (is_opened old k))) e ∙ and_not (nat_le old.threads k)) in absurd (omega (arith, gone, stands))

-- ---- what a handle names

pub found : (o : Option Opened) (n : ℕ) → option_map (λ (x : Opened). x.object) o ≡ Some n → (opened : Opened) × (o ≡ Some opened) × (opened.object ≡ n)
found None n is = let h : None ≡ Some n = is in (cc)
found (Some opened) n is = let h : Some opened.object ≡ Some n = is in (opened, refl, (cc))

pub missing : (o : Option Opened) → option_map (λ (x : Opened). x.object) o ≡ None → o ≡ None
missing None is = refl
missing (Some opened) is = let h : Some opened.object ≡ None = is in (cc)

pub opened_there : (hs : List (Option Opened)) (h : ℕ) (opened : Opened) → opened_at hs h ≡ Some opened → h < length hs
opened_there [] zero opened is = let e : None ≡ Some opened = is in (cc)
opened_there [] (suc h) opened is = let e : None ≡ Some opened = is in (cc)
opened_there (x ∷ hs) zero opened is = omega arith
opened_there (x ∷ hs) (suc h) opened is = let rest = opened_there hs h opened is in omega (arith, rest)
