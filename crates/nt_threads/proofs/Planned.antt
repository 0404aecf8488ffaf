-- What the threads of a plan called: through their doors, by their holds, and in the history.
use Rattle.std.proofs.Common.{◌≡◌, ◌∙◌, ℕ, zero, suc, ◌+◌, ◌-◌, ◌*◌, ◌<◌, List, [], ◌∷◌, ◌++◌, length, length-append, map, drop, get_or, inl, inr, refl, sym, ap, subst, arith}
use Rattle.std.proofs.lemmas.Bool.{cases_eq, cases_lt}
use Rattle.std.proofs.Math.ListN.{get_or-map}
use Rattle.std.proofs.lemmas.List.{length-map, map-append, get_or_past, get_or_append_left}
use Rattle.std.proofs.Math.Seq.{get_or-append_seam}
use Rattle.nt_calls.specs.declared.call.Call.{Call}
use Rattle.nt_mail.specs.declared.entry.Entry.{Entry}
use Rattle.nt_mail.specs.declared.knowledge.Knowledge.{Knowledge}
use Rattle.nt_mail.specs.Entries.{Each}
use Rattle.nt_mail.specs.Knowledge.{knows}
use Rattle.nt_front.specs.declared.hold.Held.{Held}
use Rattle.nt_front.specs.declared.hold.Held.TheVariants.{Pass, Sleeping, Ended}
use Rattle.nt_front.specs.Held.{knowledge_of, IsAccounted}
use Rattle.nt_front.specs.Holds.{new_threads}
use Rattle.nt_threads.specs.declared.plan.Objects.{Objects}
use Rattle.nt_threads.specs.Doors.{accepted_calls, calls_of_hold}
use Rattle.nt_threads.specs.Plans.{carried_out, creations, lead_of, work_of}
use Rattle.nt_threads.specs.Reports.{calls_by, PlanIsCarriedOut}

cons_both : {X : Type 0} (x y : X) (xs ys : List X) → x ≡ y → xs ≡ ys → x ∷ xs ≡ y ∷ ys
cons_both x y xs ys p q = λ i. p i ∷ q i

-- ---- doors

each_more : {X Y : Type 0} (made : X → List Call) (made' : Y → List Call) (more : List Call) (xs : List X) (ys : List Y) → map made xs ≡ map made' ys
    → map (λ d. made d ++ more) xs ≡ map (λ d. made' d ++ more) ys
each_more made made' more xs ys same = sym (more_of made xs) ∙ (ap (map (λ calls. calls ++ more)) same ∙ more_of made' ys)
  where
    more_of : {Z : Type 0} (f : Z → List Call) (zs : List Z) → map (λ calls. calls ++ more) (map f zs) ≡ map (λ d. f d ++ more) zs
    more_of f [] = refl
    more_of f (z ∷ zs) = ap (λ l. (f z ++ more) ∷ l) (more_of f zs)

-- what is made through doors hangs on what was made before, and on nothing else of the doors
pub carried_out-same : {X Y : Type 0} (made : X → List Call) (made' : Y → List Call) (o : Objects) (rounds : ℕ) (xs : List X) (ys : List Y) → map made xs ≡ map made' ys
    → carried_out made o rounds xs ≡ carried_out made' o rounds ys
carried_out-same made made' o rounds [] [] same = refl
carried_out-same made made' o rounds [] (y ∷ ys) same = let e : 0 ≡ suc (length (map made' ys)) = ap length same in absurd (omega (arith, e))
carried_out-same made made' o rounds (x ∷ xs) [] same = let e : suc (length (map made xs)) ≡ 0 = ap length same in absurd (omega (arith, e))
carried_out-same made made' o rounds (x ∷ xs) (y ∷ ys) same =
    let first : made x ≡ made' y = ap (λ l. get_or l 0 []) same in
    let rest : map made xs ≡ map made' ys = ap (drop 1) same in
    let count : length xs ≡ length ys = sym (length-map xs made) ∙ (ap length rest ∙ length-map ys made') in
    cons_both _ _ _ _ (λ i. (first i ++ creations (count i * rounds)) ++ lead_of o (count i)) (each_more made made' (work_of o rounds) xs ys rest)

-- ---- holds

-- the calls of each hold's thread are those that the history has of it
calls_told : {X : Type 0} (es : List Entry) (hs : List (Held X)) → Each (IsAccounted es) hs → map calls_of_hold hs ≡ map (λ t. calls_by t es) (map (λ h. (knowledge_of h).thread) hs)
calls_told es [] told = refl
calls_told es (Pass k ∷ hs) told = cons_both _ _ _ _ (ap accepted_calls (told.0.0.made)) (calls_told es hs told.1)
calls_told es (Sleeping k ∷ hs) told = cons_both _ _ _ _ (ap accepted_calls (told.0.0.made)) (calls_told es hs told.1)
calls_told es (Ended k ∷ hs) told = cons_both _ _ _ _ (ap accepted_calls (told.0.0.made)) (calls_told es hs told.1)

-- ---- new threads

length-new : (n : ℕ) → length (new_threads n) ≡ n
length-new zero = refl
length-new (suc n) = length-append (new_threads n) (knows n [] [] [] [] ∷ []) ∙ (ap (λ m. m + 1) (length-new n) ∙ omega arith)

-- a list in which each place has its own number
at_snoc : (xs : List ℕ) (n t : ℕ) → length xs ≡ n → get_or xs t t ≡ t → get_or (xs ++ n ∷ []) t t ≡ t
at_snoc xs n t count before =
    elim (cases_eq t n) [
      | inl same ↦ rw (same, sym count) (get_or-append_seam xs (length xs) [] (length xs))
      | inr other ↦
          elim (cases_lt t n) [
            | inl below ↦ get_or_append_left xs (n ∷ []) t t (omega (arith, count)) ∙ before
            | inr above ↦ get_or_past (xs ++ n ∷ []) t t (let longer = length-append xs (n ∷ []) in omega (arith, count, other))
          ]
    ]

thread_at : (n t : ℕ) → get_or (map (λ (k : Knowledge). k.thread) (new_threads n)) t t ≡ t
thread_at zero t = refl
thread_at (suc n) t =
    ap (λ l. get_or l t t) (map-append (λ (k : Knowledge). k.thread) (new_threads n) (knows n [] [] [] [] ∷ []))
    ∙ at_snoc (map (λ (k : Knowledge). k.thread) (new_threads n)) n t (length-map (new_threads n) (λ (k : Knowledge). k.thread) ∙ length-new n) (thread_at n t)

each_snoc : {X : Type 0} (P : X → Type 0) (xs : List X) (x : X) → Each P xs → P x → Each P (xs ++ x ∷ [])
each_snoc P [] x are is = (is, tt)
each_snoc P (y ∷ ys) x are is = (are.0, each_snoc P ys x are.1 is)

none_made : (n : ℕ) → Each (λ (k : Knowledge). k.made ≡ []) (new_threads n)
none_made zero = tt
none_made (suc n) = each_snoc (λ (k : Knowledge). k.made ≡ []) (new_threads n) (knows n [] [] [] []) (none_made n) refl

-- ---- the plan

first_planned : (ks : List Knowledge) (o : Objects) (rounds : ℕ) (other : List Call) → 0 < length ks → Each (λ (k : Knowledge). k.made ≡ []) ks
    → get_or (carried_out (λ (k : Knowledge). accepted_calls k.made) o rounds ks) 0 other ≡ creations ((length ks - 1) * rounds) ++ lead_of o (length ks - 1)
first_planned [] o rounds other some none = absurd (omega arith)
first_planned (k ∷ ks) o rounds other some none =
    let less : length ks ≡ suc (length ks) - 1 = omega arith in
    ap (λ ms. (accepted_calls ms ++ creations (length ks * rounds)) ++ lead_of o (length ks)) none.0 ∙ ap (λ (n : ℕ). creations (n * rounds) ++ lead_of o n) less

work_planned : (ks : List Knowledge) (work other : List Call) (i : ℕ) → i < length ks → Each (λ (k : Knowledge). k.made ≡ []) ks
    → get_or (map (λ (k : Knowledge). accepted_calls k.made ++ work) ks) i other ≡ work
work_planned [] work other i below none = absurd (omega arith)
work_planned (k ∷ ks) work other zero below none = ap (λ ms. accepted_calls ms ++ work) none.0
work_planned (k ∷ ks) work other (suc i) below none = work_planned ks work other i (omega arith) none.1

others_planned : (ks : List Knowledge) (o : Objects) (rounds t : ℕ) (other : List Call) → 0 < t → t < length ks → Each (λ (k : Knowledge). k.made ≡ []) ks
    → get_or (carried_out (λ (k : Knowledge). accepted_calls k.made) o rounds ks) t other ≡ work_of o rounds
others_planned [] o rounds t other above below none = absurd (omega arith)
others_planned (k ∷ ks) o rounds zero other above below none = absurd (omega arith)
others_planned (k ∷ ks) o rounds (suc i) other above below none = work_planned ks (work_of o rounds) other i (omega arith) none.1

-- where holds of new threads made what the plan asks and the history accounts for them, the history has the plan
pub plan_told : {X : Type 0} (es : List Entry) (hs : List (Held X)) (ks : List Knowledge) (n rounds : ℕ) (o : Objects) → ks ≡ new_threads n → 0 < n → Each (IsAccounted es) hs
    → map (λ h. (knowledge_of h).thread) hs ≡ map (λ (k : Knowledge). k.thread) ks
    → map calls_of_hold hs ≡ carried_out (λ (k : Knowledge). accepted_calls k.made) o rounds ks → PlanIsCarriedOut (n - 1) rounds es
plan_told es hs ks n rounds o are some told threads made =
    let numbers = map (λ (k : Knowledge). k.thread) (new_threads n) in
    let planned = carried_out (λ (k : Knowledge). accepted_calls k.made) o rounds (new_threads n) in
    let by = λ (t : ℕ). calls_by t es in
    let all : map by numbers ≡ planned =
    ap (map by) (sym (threads ∙ ap (map (λ (k : Knowledge). k.thread)) are))
    ∙ (sym (calls_told es hs told) ∙ (made ∙ ap (carried_out (λ (k : Knowledge). accepted_calls k.made) o rounds) are)) in
    let at : (t : ℕ) → by t ≡ get_or planned t (by t) = λ t. ap by (sym (thread_at n t)) ∙ (sym (get_or-map by numbers t t) ∙ ap (λ l. get_or l t (by t)) all) in
    let count = length-new n in
    record {
      objects = o;
      first = at 0 ∙ (first_planned (new_threads n) o rounds (by 0) (omega (arith, count)) (none_made n) ∙ ap (λ (m : ℕ). creations ((m - 1) * rounds) ++ lead_of o (m - 1)) count);
      others = λ t above below. at t ∙ others_planned (new_threads n) o rounds t (by t) above (omega (arith, count)) (none_made n);
    }

pub told_of_workers : (threads workers rounds : ℕ) (es : List Entry) → threads ≡ workers + 1 → PlanIsCarriedOut (threads - 1) rounds es → PlanIsCarriedOut workers rounds es
told_of_workers threads workers rounds es are told = let less : threads - 1 ≡ workers = omega (arith, are) in subst (λ (n : ℕ). PlanIsCarriedOut n rounds es) less told
