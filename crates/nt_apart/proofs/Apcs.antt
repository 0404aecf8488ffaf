-- APCs that are queued to two threads, in either order.
use Rattle.std.proofs.Common.{◌≡◌, ◌≢◌, inl, inr, ℕ, Bool, true, false, ◌&&◌, List, [], ◌∷◌, ◌++◌, refl, sym, ap, ◌∙◌, subst, Option, Some, None, Contains}
use Rattle.std.specs.Prelude.{map, slice_set}
use Rattle.std.specs.List.{list_any}
use Rattle.std.specs.FinMap.{get, remove}
use Rattle.std.proofs.lemmas.Bool.{cases_eq}
use Rattle.std.proofs.lemmas.List.{get_or-set_other, set_comm}
use Rattle.nt_status.specs.Status.{io_completion_code}
use Rattle.nt_status.proofs.Lists.{contains_first, contains_later, contains_none, contains_cases}
use Rattle.nt_machine.proofs.Walks.{get_removed, get_other}
use Rattle.nt_machine.proofs.Accepting.{IsCalm}
use Rattle.nt_waits.specs.declared.wait.Wait.{Wait}
use Rattle.nt_apc.specs.declared.apc.Queued.{Queued}
use Rattle.nt_apc.specs.Queues.{apc_queue_of, has_apc, pushed}
use Rattle.nt_calls.specs.declared.call.Call.{Call}
use Rattle.nt_calls.specs.declared.call.Act.{Act}
use Rattle.nt_calls.specs.declared.call.Reply.{Reply}
use Rattle.nt_calls.specs.declared.call.Grant.{Grant}
use Rattle.nt_calls.specs.Rising.{AreRising}
use Rattle.nt_calls.specs.State.{State, Pending, wait_over, waits_over}
use Rattle.nt_calls.specs.Serving.{satisfied, IsServed, Alert, IsAlerted, ending, sequence}
use Rattle.nt_calls.specs.Steps.{Step}
use Rattle.nt_apart.specs.Apart.{StepsGoOtherwise, queues_one, AreApcsToTwoThreads}
use Rattle.nt_apart.proofs.Quiet.{serve_none, rising_along}
use Rattle.nt_apart.proofs.Unawaited.{none_changed}
use Rattle.nt_apart.proofs.Pieces.{remove_comm, others_comm}
use Rattle.std.proofs.Math.Path.{fun_ext}
use Rattle.nt_waits.specs.Waits.{others}

-- the APC stands last in t's queue
abbrev pub with_apc : State → ℕ → Queued → State
with_apc s t q = record s { apcs = pushed s.apcs t q }

-- what QueueApc queues
abbrev pub asked_apc : ℕ → ℕ → Queued
asked_apc routine arg = record { apc = record { routine = routine; arg = arg; at = None }; timer = None }

-- ---- waits that are over

pub over_apcs : (s : State) (ts : List ℕ) (may : Bool) → (waits_over s ts may).apcs ≡ s.apcs
over_apcs s [] may = refl
over_apcs s (t ∷ ts) may = over_apcs (wait_over s t may) ts may

-- a wait that pends after them pended before, and is none of them
pub over_pended : (s : State) (ts : List ℕ) (may : Bool) (v : ℕ) (w : Wait) → get (waits_over s ts may).waits v ≡ Some w → (Contains ts v → ⊥) × (get s.waits v ≡ Some w)
over_pended s [] may v w e = (λ m. contains_none v m, e)
over_pended s (t ∷ ts) may v w e =
    let rest = over_pended (wait_over s t may) ts may v w e in
    let first = get_removed s.waits t v w rest.1 in
    (λ m. elim (contains_cases t ts v m) [ inl same ↦ first.0 (sym same) | inr later ↦ rest.0 later ], first.1)

pub over_other : (s : State) (ts : List ℕ) (may : Bool) (v : ℕ) → (Contains ts v → ⊥) → get (waits_over s ts may).waits v ≡ get s.waits v
over_other s [] may v none = refl
over_other s (t ∷ ts) may v none =
    over_other (wait_over s t may) ts may v (λ m. none (contains_later t ts v m)) ∙ get_other s.waits t v (λ e. none (contains_first t ts v (sym e)))

pub same_objects : (s : State) (ts : List ℕ) (may : Bool) → (waits_over s ts may).objects ≡ s.objects
same_objects s [] may = refl
same_objects s (t ∷ ts) may = same_objects (wait_over s t may) ts may

pub over_served : (s : State) (ts : List ℕ) (may : Bool) → IsServed s → IsServed (waits_over s ts may)
over_served s ts may served v = ap (λ os. satisfied os v (get (waits_over s ts may).waits v)) (same_objects s ts may) ∙ go (get (waits_over s ts may).waits v) refl
  where
    go : (o : Option Wait) → get (waits_over s ts may).waits v ≡ o → satisfied s.objects v o ≡ false
    go None e = refl
    go (Some w) e = sym (ap (satisfied s.objects v) (over_pended s ts may v w e).1) ∙ served v

-- nobody is to be alerted once all are who were
pub over_calm : (s : State) (ts : List ℕ) (may : Bool) → AreRising (IsAlerted s) ts → IsCalm (waits_over s ts may)
over_calm s ts may rising v alerted =
    let was = over_pended s ts may v alerted.0 alerted.1 in
    let has : (alerted.0.alertable && has_apc s.apcs v) ≡ true = subst (λ qs. (alerted.0.alertable && has_apc qs v) ≡ true) (over_apcs s ts may) alerted.2 in
    was.0 ((rising.exactly v).1 (alerted.0, was.1, has))

pub over_queued : (s : State) (ts : List ℕ) (may : Bool) (k : ℕ) (q : Queued) → with_apc (waits_over s ts may) k q ≡ waits_over (with_apc s k q) ts may
over_queued s [] may k q = refl
over_queued s (t ∷ ts) may k q = over_queued (wait_over s t may) ts may k q

handed_comm : (hs : List Bool) (t u : ℕ) (may : Bool) → slice_set (slice_set hs t may) u may ≡ slice_set (slice_set hs u may) t may
handed_comm hs t u may = elim (cases_eq t u) [
  | inl same ↦ subst (λ (n : ℕ). slice_set (slice_set hs t may) n may ≡ slice_set (slice_set hs n may) t may) same refl
  | inr differs ↦ set_comm hs t u may may differs
]

one_comm : (s : State) (t u : ℕ) (may : Bool) → wait_over (wait_over s t may) u may ≡ wait_over (wait_over s u may) t may
one_comm s t u may =
    ap (λ (x : List Bool). record s { handing = x; waits = remove (remove s.waits t) u; queues = λ h. others u (others t (s.queues h)) }) (handed_comm s.handing t u may)
    ∙ (ap (λ (x : Pending). record s { handing = slice_set (slice_set s.handing u may) t may; waits = x; queues = λ h. others u (others t (s.queues h)) }) (remove_comm s.waits t u)
    ∙ ap (λ (x : ℕ → List ℕ). record s { handing = slice_set (slice_set s.handing u may) t may; waits = remove (remove s.waits u) t; queues = x }) (fun_ext (λ h. others_comm t u (s.queues h))))

past : (s : State) (t : ℕ) (us : List ℕ) (may : Bool) → waits_over (wait_over s t may) us may ≡ wait_over (waits_over s us may) t may
past s t [] may = refl
past s t (u ∷ us) may = ap (λ (x : State). waits_over x us may) (one_comm s t u may) ∙ past (wait_over s u may) t us may

overs_comm : (s : State) (ts us : List ℕ) (may : Bool) → waits_over (waits_over s ts may) us may ≡ waits_over (waits_over s us may) ts may
overs_comm s [] us may = refl
overs_comm s (t ∷ ts) us may = overs_comm (wait_over s t may) ts us may ∙ ap (λ (x : State). waits_over x ts may) (past s t us may)

-- ---- who is alerted by an APC

pub has_other : (qs : List (List Queued)) (k v : ℕ) (q : Queued) → v ≢ k → has_apc (pushed qs k q) v ≡ has_apc qs v
has_other qs k v q differs = ap (λ (l : List Queued). list_any (λ _. true) l) (get_or-set_other qs k v (apc_queue_of qs k ++ q ∷ []) [] differs)

-- the thread to which it is queued, or nobody
pub only_target : (s : State) (k : ℕ) (q : Queued) → IsCalm s → (v : ℕ) → IsAlerted (with_apc s k q) v → v ≡ k
only_target s k q calm v alerted = elim (cases_eq v k) [
  | inl same ↦ same
  | inr differs ↦ absurd (calm v (alerted.0, alerted.1, subst (λ (b : Bool). (alerted.0.alertable && b) ≡ true) (has_other s.apcs k v q differs) alerted.2))
]

there : (x y : State) (k : ℕ) (q : Queued) → IsCalm x → get y.waits k ≡ get x.waits k → has_apc (pushed y.apcs k q) k ≡ has_apc (pushed x.apcs k q) k → (v : ℕ) → IsAlerted (with_apc x k q) v → IsAlerted (with_apc y k q) v
there x y k q calm waits has v alerted =
    let same : v ≡ k = only_target x k q calm v alerted in
    let here : IsAlerted (with_apc x k q) k = subst (λ (i : ℕ). IsAlerted (with_apc x k q) i) same alerted in
    subst (λ (i : ℕ). IsAlerted (with_apc y k q) i) (sym same) (here.0, waits ∙ here.1, subst (λ (b : Bool). (here.0.alertable && b) ≡ true) (sym has) here.2)

-- the same ones where the thread's wait and its APCs are the same
pub alerted_alike : (x y : State) (k : ℕ) (q : Queued) (ts : List ℕ) → IsCalm x → IsCalm y → get y.waits k ≡ get x.waits k → has_apc (pushed y.apcs k q) k ≡ has_apc (pushed x.apcs k q) k → AreRising (IsAlerted (with_apc x k q)) ts → AreRising (IsAlerted (with_apc y k q)) ts
alerted_alike x y k q ts calm calm' waits has rising =
    rising_along (IsAlerted (with_apc x k q)) (IsAlerted (with_apc y k q)) ts (there x y k q calm waits has) (there y x k q calm' (sym waits) (sym has)) rising

-- ---- the step of QueueApc

pub record IsApcStep (s new : State) (k : ℕ) (q : Queued) (r : Reply) (gs : List Grant) : Type 0 where
  pub threads : List ℕ
  pub alerted : AreRising (IsAlerted (with_apc s k q)) threads
  pub grants : gs ≡ map (ending io_completion_code) threads
  pub state : new ≡ waits_over (with_apc s k q) threads true
  pub reply : r ≡ Reply.Done

pub apc_step : (s new : State) (t k routine arg : ℕ) (r : Reply) (gs : List Grant) → IsServed s → Step s t (Call.Act (Act.QueueApc k routine arg)) r gs new → IsApcStep s new k (asked_apc routine arg) r gs
apc_step s new t k routine arg r gs served step =
    let first : State = with_apc s k (asked_apc routine arg) in
    let one = serve_none (sequence s step.numbers) first step.calm step.served served step.serves in
    let alerts : Alert first step.alerted step.woken = subst (λ (x : State). Alert x step.alerted step.woken) one.1 step.alerts in
    record {
      threads = alerts.threads;
      alerted = alerts.alerted;
      grants = step.in_order ∙ (ap (λ (x : List Grant). x ++ step.alerted) one.0 ∙ alerts.ends);
      state = ap (λ (x : Reply × State). x.1) step.answers ∙ alerts.leaves;
      reply = ap (λ (x : Reply × State). x.0) step.answers;
    }

pub make_apc : (s new : State) (t k routine arg : ℕ) (r : Reply) (gs : List Grant) → IsServed s → IsApcStep s new k (asked_apc routine arg) r gs → Step s t (Call.Act (Act.QueueApc k routine arg)) r gs new
make_apc s new t k routine arg r gs served apc =
    let first : State = with_apc s k (asked_apc routine arg) in
    record {
      numbers = [];
      served = [];
      calm = first;
      alerted = gs;
      woken = new;
      changed = none_changed s.objects;
      serves = (refl, served);
      alerts = record { threads = apc.threads; alerted = apc.alerted; ends = apc.grants; leaves = apc.state };
      in_order = refl;
      answers = ap {B = Reply × State} (λ (x : Reply). (x, new)) apc.reply;
    }

-- ---- both, in either order

pub pushed_comm : (qs : List (List Queued)) (h k : ℕ) (p q : Queued) → h ≢ k → pushed (pushed qs h p) k q ≡ pushed (pushed qs k q) h p
pushed_comm qs h k p q differ =
    let x : List Queued = apc_queue_of qs h ++ p ∷ [] in
    let y : List Queued = apc_queue_of qs k ++ q ∷ [] in
    ap (λ (l : List Queued). slice_set (slice_set qs h x) k (l ++ q ∷ [])) (get_or-set_other qs h k x [] (λ e. differ (sym e)))
    ∙ (set_comm qs h k x y differ
    ∙ sym (ap (λ (l : List Queued). slice_set (slice_set qs k y) h (l ++ p ∷ [])) (get_or-set_other qs k h y [] differ)))

-- h's thread is alerted, or nobody, and then k's wait and APCs are as they were
left_as_was : (s mid : State) (h k : ℕ) (p q : Queued) (r : Reply) (gs : List Grant) → IsCalm s → h ≢ k → (apc : IsApcStep s mid h p r gs) → (get mid.waits k ≡ get s.waits k) × (has_apc (pushed mid.apcs k q) k ≡ has_apc (pushed s.apcs k q) k)
left_as_was s mid h k p q r gs calm differ apc =
    let none : Contains apc.threads k → ⊥ = λ m. differ (sym (only_target s h p calm k ((apc.alerted.exactly k).0 m))) in
    let left : State = waits_over (with_apc s h p) apc.threads true in
    let apcs : mid.apcs ≡ pushed s.apcs h p = ap (λ (x : State). x.apcs) apc.state ∙ over_apcs (with_apc s h p) apc.threads true in (
      ap (λ (x : State). get x.waits k) apc.state ∙ over_other (with_apc s h p) apc.threads true k none,
      ap (λ (qs : List (List Queued)). has_apc (pushed qs k q) k) apcs
          ∙ (ap (λ (qs : List (List Queued)). has_apc qs k) (pushed_comm s.apcs h k p q differ)
          ∙ has_other (pushed s.apcs k q) h k p (λ e. differ (sym e))),
    )

two_to : (s mid new : State) (t u h x y k x' y' : ℕ) (ra rb : Reply) (ga gb : List Grant) → AreApcsToTwoThreads s mid new t u (Act.QueueApc h x y) (Act.QueueApc k x' y') ra rb ga gb → StepsGoOtherwise s new t u (Act.QueueApc h x y) (Act.QueueApc k x' y') ra rb ga gb
two_to s mid new t u h x y k x' y' ra rb ga gb two =
    let p : Queued = asked_apc x y in
    let q : Queued = asked_apc x' y' in
    let served = two.quiet.served in
    let calm : IsCalm s = two.quiet.calm in
    let differ = two.differ in
    let one = apc_step s mid t h x y ra ga served two.first in
    let left = left_as_was s mid h k p q ra ga calm differ one in
    let served_mid : IsServed mid = subst IsServed (sym one.state) (over_served (with_apc s h p) one.threads true served) in
    let calm_mid : IsCalm mid = subst IsCalm (sym one.state) (over_calm (with_apc s h p) one.threads true one.alerted) in
    let next = apc_step mid new u k x' y' rb gb served_mid two.second in
    -- the second one first
    let ts = one.threads in
    let us = next.threads in
    let n : State = waits_over (with_apc s k q) us true in
    let second : IsApcStep s n k q rb gb = record {
      threads = us;
      alerted = alerted_alike mid s k q us calm_mid calm (sym left.0) (sym left.1) next.alerted;
      grants = next.grants;
      state = refl;
      reply = next.reply;
    } in
    let served_n : IsServed n = over_served (with_apc s k q) us true served in
    let calm_n : IsCalm n = over_calm (with_apc s k q) us true second.alerted in
    -- and then the first
    let kept = left_as_was s n k h q p rb gb calm (λ e. differ (sym e)) second in
    let last : new ≡ waits_over (with_apc n h p) ts true =
    next.state
    ∙ (ap (λ (z : State). waits_over (with_apc z k q) us true) one.state
    ∙ (ap (λ (z : State). waits_over z us true) (over_queued (with_apc s h p) ts true k q)
    ∙ (overs_comm (with_apc (with_apc s h p) k q) ts us true
    ∙ (ap (λ (qs : List (List Queued)). waits_over (waits_over (record s { apcs = qs }) us true) ts true) (pushed_comm s.apcs h k p q differ)
    ∙ sym (ap (λ (z : State). waits_over z ts true) (over_queued (with_apc s k q) us true h p)))))) in
    let first : IsApcStep n new h p ra ga = record {
      threads = ts;
      alerted = alerted_alike s n h p ts calm calm_n kept.0 kept.1 one.alerted;
      grants = one.grants;
      state = last;
      reply = one.reply;
    } in
    record {
      mid = n;
      first = make_apc s n u k x' y' rb gb served second;
      second = make_apc n new t h x y ra ga served_n first;
    }

pub apc_of : (a : Act) → queues_one a ≡ true → (k : ℕ) × (routine : ℕ) × (arg : ℕ) × (a ≡ Act.QueueApc k routine arg)
apc_of (Act.QueueApc k routine arg) kind = (k, routine, arg, refl)
apc_of _ kind = (cc)

pub two_apcs : (s mid new : State) (t u : ℕ) (a b : Act) (ra rb : Reply) (ga gb : List Grant) → AreApcsToTwoThreads s mid new t u a b ra rb ga gb → StepsGoOtherwise s new t u a b ra rb ga gb
two_apcs s mid new t u a b ra rb ga gb two =
    let x = apc_of a two.first_kind in
    let y = apc_of b two.second_kind in
    subst (λ (c : Act). AreApcsToTwoThreads s mid new t u c b ra rb ga gb → StepsGoOtherwise s new t u c b ra rb ga gb) (sym x.3)
    (subst (λ (c : Act). AreApcsToTwoThreads s mid new t u (Act.QueueApc x.0 x.1 x.2) c ra rb ga gb → StepsGoOtherwise s new t u (Act.QueueApc x.0 x.1 x.2) c ra rb ga gb) (sym y.3)
    (λ here. two_to s mid new t u x.0 x.1 x.2 y.0 y.1 y.2 ra rb ga gb here))
    two
