-- Steps and ticks leave no choice.
use Rattle.std.proofs.Common.{Bool, ◌≡◌, ℕ, true, false, List, [], ◌∷◌, ◌++◌, refl, sym, ap, ◌∙◌, subst, arith, Option, Some, None, inl, inr, Contains}
use Rattle.std.specs.Prelude.{map, IsTrue}
use Rattle.std.specs.declared.result.Result.{Result}
use Rattle.std.specs.declared.result.Result.TheVariants.{Ok, Err}
use Rattle.std.specs.FinMap.{get}
use Rattle.nt_status.proofs.Lists.{contains_none, contains_first, contains_later, contains_cases}
use Rattle.nt_status.specs.Status.{io_completion_code}
use Rattle.nt_status.specs.declared.refusal.Refusal.{Refusal}
use Rattle.nt_status.specs.declared.refusal.Refusal.TheVariants.{Memory}
use Rattle.nt_calls.specs.declared.call.Call.{Call}
use Rattle.nt_calls.specs.declared.call.Reply.{Reply}
use Rattle.nt_calls.specs.declared.call.Grant.{Grant}
use Rattle.nt_calls.specs.Rising.{IsRising, AreRising}
use Rattle.nt_calls.specs.Naming.{call_named}
use Rattle.nt_calls.specs.State.{State, waits_over}
use Rattle.nt_calls.specs.Serving.{Serve, Alert, TimeOut, sequence, IsLate, ending, late_status, sleeps}
use Rattle.nt_calls.specs.Change.{change, all_expired}
use Rattle.nt_calls.specs.Rights.{is_denied}
use Rattle.nt_calls.specs.Refusals.{refusal, grows, IsRefusal}
use Rattle.nt_calls.specs.Living.{all_gone, Ends}
use Rattle.nt_calls.specs.Steps.{Step, Called, after_serving, answered, MomentPasses, MomentsPass, IsNextMoment, NothingDue, Ticked}
use Rattle.nt_calls.specs.Runs.{Turn, Calls, Ticks, IsTurn}
use Rattle.nt_laws.specs.Laws.{AsksCall, AsksTick, wants_memory, question}
use Rattle.nt_laws.proofs.Unique.{serve_unique}

-- ---- rising lists

first_same : (x y : ℕ) (xs ys : List ℕ) → IsRising (x ∷ xs) → IsRising (y ∷ ys) → Contains (y ∷ ys) x → Contains (x ∷ xs) y → x ≡ y
first_same x y xs ys rx ry mine yours = elim (contains_cases y ys x mine) [
  | inl e ↦ sym e
  | inr m ↦ elim (contains_cases x xs y yours) [
    | inl e ↦ e
    | inr k ↦ let p = rx.0 y k in let q = ry.0 x m in absurd (omega (arith, p, q))
  ]
]

rest_within : (x y z : ℕ) (xs ys : List ℕ) → IsRising (x ∷ xs) → x ≡ y → Contains xs z → Contains (y ∷ ys) z → Contains ys z
rest_within x y z xs ys rx e m has = elim (contains_cases y ys z has) [
  | inl h ↦ let p = rx.0 z m in absurd (omega (arith, p, e, h))
  | inr h ↦ h
]

rising_same : (xs ys : List ℕ) → IsRising xs → IsRising ys → ((x : ℕ) → Contains xs x → Contains ys x) → ((x : ℕ) → Contains ys x → Contains xs x) → xs ≡ ys
rising_same [] [] rx ry to from = refl
rising_same [] (y ∷ ys) rx ry to from = absurd (contains_none y (from y (contains_first y ys y refl)))
rising_same (x ∷ xs) [] rx ry to from = absurd (contains_none x (to x (contains_first x xs x refl)))
rising_same (x ∷ xs) (y ∷ ys) rx ry to from =
    let same = first_same x y xs ys rx ry (to x (contains_first x xs x refl)) (from y (contains_first y ys y refl)) in
    let rest = rising_same xs ys rx.1 ry.1
    (λ z m. rest_within x y z xs ys rx same m (to z (contains_later x xs z m)))
    (λ z m. rest_within y x z ys xs ry (sym same) m (from z (contains_later y ys z m))) in
    ap (λ z. z ∷ xs) same ∙ ap (λ zs. y ∷ zs) rest

-- exactly the numbers with a property, rising: there is one such list
pub are_rising_same : (p : ℕ → Type 0) (xs ys : List ℕ) → AreRising p xs → AreRising p ys → xs ≡ ys
are_rising_same p xs ys a b =
    rising_same xs ys a.rising b.rising (λ x m. (b.exactly x).1 ((a.exactly x).0 m)) (λ x m. (a.exactly x).1 ((b.exactly x).0 m))

-- ---- alerts and deadlines

alert_same : (old a b : State) (gs hs : List Grant) → Alert old gs a → Alert old hs b → (gs ≡ hs) × (a ≡ b)
alert_same old a b gs hs x y =
    let threads = are_rising_same _ x.threads y.threads x.alerted y.alerted in
    (x.ends ∙ (ap (λ ts. map (ending io_completion_code) ts) threads ∙ sym y.ends), x.leaves ∙ (ap (λ ts. waits_over old ts true) threads ∙ sym y.leaves))

time_out_same : (old a b : State) (u : ℕ) (gs hs : List Grant) → TimeOut old u gs a → TimeOut old u hs b → (gs ≡ hs) × (a ≡ b)
time_out_same old a b u gs hs x y =
    let threads = are_rising_same (IsLate old u) x.threads y.threads x.late y.late in
    (x.ends ∙ (ap (λ ts. map (λ t. ending (late_status (sleeps (get old.waits t))) t) ts) threads ∙ sym y.ends), x.leaves ∙ (ap (λ ts. waits_over old ts false) threads ∙ sym y.leaves))

-- ---- a call

serve_same : (xs ys : List ℕ) (old a b : State) (gs hs : List Grant) → xs ≡ ys → Serve xs old gs a → Serve ys old hs b → (gs ≡ hs) × (a ≡ b)
serve_same xs ys old a b gs hs e x y =
    let x' = subst (λ zs. Serve zs old gs a) e x in
    serve_unique ys old a b gs hs x'.0 x'.1 y.0 y.1

step_same : (old a b : State) (t : ℕ) (call : Call) (r q : Reply) (gs hs : List Grant) → Step old t call r gs a → Step old t call q hs b → (r ≡ q) × (gs ≡ hs) × (a ≡ b)
step_same old a b t call r q gs hs x y =
    let numbers = are_rising_same _ x.numbers y.numbers x.changed y.changed in
    let served = serve_same (sequence old x.numbers) (sequence old y.numbers) (change old t call) x.calm y.calm x.served y.served (ap (λ zs. sequence old zs) numbers) x.serves y.serves in
    let alerts : Alert (after_serving call y.calm) x.alerted x.woken = subst (λ (s : State). Alert (after_serving call s) x.alerted x.woken) served.1 x.alerts in
    let alerted = alert_same (after_serving call y.calm) x.woken y.woken x.alerted y.alerted alerts y.alerts in
    let grants : gs ≡ hs = x.in_order ∙ (ap (λ zs. zs ++ x.alerted) served.0 ∙ (ap (λ zs. y.served ++ zs) alerted.0 ∙ sym y.in_order)) in
    let answers = x.answers ∙ (ap (λ (s : State). answered old s t call) alerted.1 ∙ sym y.answers) in
    (ap (λ p. p.0) answers, grants, ap (λ p. p.1) answers)

-- where no first cause holds, only a refused growth does
only_memory : (old : State) (who : ℕ) (denied : Bool) (call : Call) (r : Refusal) → refusal old who denied call ≡ None → IsRefusal old who denied call r → r ≡ Memory
only_memory old who denied call r none is = let h : IsTrue (grows old who call) × (r ≡ Memory) = rw none at is in h.1

first_cause : (old : State) (who : ℕ) (denied : Bool) (call : Call) (r f : Refusal) → refusal old who denied call ≡ Some f → IsRefusal old who denied call r → r ≡ f
first_cause old who denied call r f some is = rw some at is

refusal_same : (old : State) (who : ℕ) (denied : Bool) (call : Call) (r q : Refusal) → IsRefusal old who denied call r → IsRefusal old who denied call q → r ≡ q
refusal_same old who denied call r q x y = go (refusal old who denied call) refl
  where
    go : (o : Option Refusal) → refusal old who denied call ≡ o → r ≡ q
    go None e = only_memory old who denied call r e x ∙ sym (only_memory old who denied call q e y)
    go (Some f) e = first_cause old who denied call r f e x ∙ sym (first_cause old who denied call q f e y)

-- a call is not both carried out and refused, unless memory was refused
not_both : (old : State) (who : ℕ) (denied : Bool) (call : Call) (reply : Reply) (r : Refusal) {P : Type 0} → refusal old who denied call ≡ None → IsRefusal old who denied call r → wants_memory (Ok reply) ≡ wants_memory (Err r) → P
not_both old who denied call reply r none is alike =
    let h : false ≡ true = alike ∙ ap (λ f. wants_memory (Err f)) (only_memory old who denied call r none is) in (cc)

-- the same objects end
ends_same : (old a b : State) → Ends old a → Ends old b → a ≡ b
ends_same old a b x y = x.leaves ∙ (ap (λ os. all_gone old os) (are_rising_same _ x.objects y.objects x.forgotten y.forgotten) ∙ sym y.leaves)

accepted_same : (old a b : State) (who : ℕ) (call : Call) (r q : Reply) (gs hs : List Grant) → Called old who call (Ok r) gs a → Called old who call (Ok q) hs b → (r ≡ q) × (gs ≡ hs) × (a ≡ b)
accepted_same old a b who call r q gs hs x y =
    let same = step_same old x.0 y.0 who (call_named old.handles call) r q gs hs x.1.1 y.1.1 in
    (same.0, same.1, ends_same y.0 a b (subst (λ (s : State). Ends s a) same.2 x.2) y.2)

called_same : (old a b : State) (who : ℕ) (call : Call) (r q : Result Reply Refusal) (gs hs : List Grant) → wants_memory r ≡ wants_memory q → Called old who call r gs a → Called old who call q hs b → (r ≡ q) × (gs ≡ hs) × (a ≡ b)
called_same old a b who call (Ok r) (Ok q) gs hs alike x y = let same = accepted_same old a b who call r q gs hs x y in (ap Ok same.0, same.1, same.2)
called_same old a b who call (Ok r) (Err q) gs hs alike x y = not_both old who (is_denied old call) (call_named old.handles call) r q x.1.0 y.0 alike
called_same old a b who call (Err r) (Ok q) gs hs alike x y = not_both old who (is_denied old call) (call_named old.handles call) q r y.1.0 x.0 (sym alike)
called_same old a b who call (Err r) (Err q) gs hs alike x y = (ap Err (refusal_same old who (is_denied old call) (call_named old.handles call) r q x.0 y.0), x.1 ∙ sym y.1, x.2 ∙ sym y.2)

-- ---- a tick

next_same : (old : State) (m u v : ℕ) → IsNextMoment old m u → IsNextMoment old m v → u ≡ v
next_same old m u v x y = let p = x.2 v y.0 in let q = y.2 u x.0 in omega (arith, p, q)

none_and_next : (old : State) (m u : ℕ) {P : Type 0} → NothingDue old m → IsNextMoment old m u → P
none_and_next old m u none next = let p = none u next.0 in let q = next.1 in absurd (omega (arith, p, q))

moment_same : (old a b : State) (m u : ℕ) (gs hs : List Grant) → MomentPasses old m u gs a → MomentPasses old m u hs b → (gs ≡ hs) × (a ≡ b)
moment_same old a b m u gs hs x y =
    let timers = are_rising_same _ x.timers y.timers x.due y.due in
    let serves : Serve (sequence old y.timers) (all_expired m old y.timers) x.served x.calm = subst (λ zs. Serve (sequence old zs) (all_expired m old zs) x.served x.calm) timers x.serves in
    let served = serve_same (sequence old y.timers) (sequence old y.timers) (all_expired m old y.timers) x.calm y.calm x.served y.served refl serves y.serves in
    let alerted = alert_same y.calm x.woken y.woken x.alerted y.alerted (subst (λ (s : State). Alert s x.alerted x.woken) served.1 x.alerts) y.alerts in
    let timed = time_out_same y.woken a b u x.timed y.timed (subst (λ (s : State). TimeOut s u x.timed a) alerted.1 x.times_out) y.times_out in
    let grants : gs ≡ hs = x.in_order ∙ (ap (λ zs. zs ++ x.alerted ++ x.timed) served.0 ∙ (ap (λ zs. y.served ++ zs ++ x.timed) alerted.0 ∙ (ap (λ zs. y.served ++ y.alerted ++ zs) timed.0 ∙ sym y.in_order))) in
    (grants, timed.1)

moments_same : (us vs : List ℕ) (old a b : State) (m : ℕ) (gs hs : List Grant) → MomentsPass old m us gs a → MomentsPass old m vs hs b → (gs ≡ hs) × (a ≡ b)
moments_same [] [] old a b m gs hs x y = (x.1 ∙ sym y.1, x.2 ∙ sym y.2)
moments_same [] (v ∷ vs) old a b m gs hs x y = none_and_next old m v x.0 y.3
moments_same (u ∷ us) [] old a b m gs hs x y = none_and_next old m u y.0 x.3
moments_same (u ∷ us) (v ∷ vs) old a b m gs hs x y =
    let passes = subst (λ w. MomentPasses old m w x.0 x.2) (next_same old m u v x.3 y.3) x.4 in
    let here = moment_same old x.2 y.2 m v x.0 y.0 passes y.4 in
    let later = moments_same us vs y.2 a b m x.1 y.1 (subst (λ (s : State). MomentsPass s m us x.1 a) here.1 x.5) y.5 in
    (x.6 ∙ (ap (λ zs. zs ++ x.1) here.0 ∙ (ap (λ zs. y.0 ++ zs) later.0 ∙ sym y.6)), later.1)

ticked_same : (old a b : State) (m : ℕ) (r q : Result Reply Refusal) (gs hs : List Grant) → Ticked old m r gs a → Ticked old m q hs b → (r ≡ q) × (gs ≡ hs) × (a ≡ b)
ticked_same old a b m (Ok r) (Ok q) gs hs x y =
    let same = moments_same x.2.0 y.2.0 old x.2.1 y.2.1 m gs hs x.2.2 y.2.2 in
    (ap Ok (x.1 ∙ sym y.1), same.0, ends_same y.2.1 a b (subst (λ (s : State). Ends s a) same.1 x.2.3) y.2.3)
ticked_same old a b m (Ok r) (Err q) gs hs x y = let p = x.0 in let q = y.0 in absurd (omega (arith, p, q))
ticked_same old a b m (Err r) (Ok q) gs hs x y = let p = x.0 in let q = y.0 in absurd (omega (arith, p, q))
ticked_same old a b m (Err r) (Err q) gs hs x y = (ap Err (x.1 ∙ sym y.1), x.2 ∙ sym y.2, x.3 ∙ sym y.3)

-- ---- a turn

pub turn_same : (old a b : State) (t u : Turn) → question t ≡ question u → IsTurn old t a → IsTurn old u b → (t ≡ u) × (a ≡ b)
turn_same old a b (Calls who call r gs) (Calls who' call' r' hs) alike x y =
    let h : AsksCall who call (wants_memory r) ≡ AsksCall who' call' (wants_memory r') = alike in
    let w : who ≡ who' = (cc) in
    let c : call ≡ call' = (cc) in
    let k : wants_memory r ≡ wants_memory r' = (cc) in
    let x' : Called old who' call' r gs a = subst (λ z. Called old z call' r gs a) w (subst (λ z. Called old who z r gs a) c x) in
    let same = called_same old a b who' call' r r' gs hs k x' y in
    (ap (λ z. Calls z call r gs) w ∙ (ap (λ z. Calls who' z r gs) c ∙ (ap (λ z. Calls who' call' z gs) same.0 ∙ ap (λ z. Calls who' call' r' z) same.1)), same.2)
turn_same old a b (Calls who call r gs) (Ticks by m r' hs) alike x y =
    let h : AsksCall who call (wants_memory r) ≡ AsksTick by m = alike in (cc)
turn_same old a b (Ticks by m r gs) (Calls who call r' hs) alike x y =
    let h : AsksTick by m ≡ AsksCall who call (wants_memory r') = alike in (cc)
turn_same old a b (Ticks by m r gs) (Ticks by' m' r' hs) alike x y =
    let h : AsksTick by m ≡ AsksTick by' m' = alike in
    let w : by ≡ by' = (cc) in
    let c : m ≡ m' = (cc) in
    let same = ticked_same old a b m' r r' gs hs (subst (λ z. Ticked old z r gs a) c x) y in
    (ap (λ z. Ticks z m r gs) w ∙ (ap (λ z. Ticks by' z r gs) c ∙ (ap (λ z. Ticks by' m' z gs) same.0 ∙ ap (λ z. Ticks by' m' r' z) same.1)), same.2)
