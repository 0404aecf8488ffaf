-- Timers that are set for later or cancelled: two of them, and one beside an act that may end waits.
use Rattle.std.proofs.Common.{◌≡◌, ◌≢◌, ℕ, zero, suc, Bool, true, false, not, ◌&&◌, List, [], ◌∷◌, ◌++◌, refl, sym, ap, ◌∙◌, subst, Option, Some, None, inl, inr, length}
use Rattle.std.specs.Prelude.{unsigned_abs, nat_le, if◌then◌else◌}
use Rattle.std.specs.List.{filter}
use Rattle.nt_machine.proofs.Changing.{served_fewer}
use Rattle.nt_objects.specs.declared.object.Object.{Object}
use Rattle.nt_objects.specs.declared.object.Object.TheVariants.{Event, Semaphore, Mutex, Timer, Thread, Gone}
use Rattle.nt_objects.specs.declared.object.Armed.{Armed}
use Rattle.nt_objects.specs.Object.{signaled, with_set, armed_with}
use Rattle.nt_apc.specs.declared.apc.Queued.{Queued}
use Rattle.nt_apc.specs.Queues.{has_apc, is_from, without_from, withdrawn}
use Rattle.nt_calls.specs.declared.call.Call.{Call}
use Rattle.nt_calls.specs.declared.call.Act.{Act}
use Rattle.nt_calls.specs.declared.call.Reply.{Reply}
use Rattle.nt_calls.specs.declared.call.Grant.{Grant}
use Rattle.nt_calls.specs.Rising.{AreRising}
use Rattle.nt_calls.specs.State.{State, object_at, with_object}
use Rattle.nt_calls.specs.Serving.{is_ready, IsServed, Serve, Alert, IsAlerted, IsChanged, sequence}
use Rattle.nt_calls.specs.Change.{change, act_reply, due_moment, routine_for, armed_anew, expired, at}
use Rattle.nt_calls.specs.Steps.{Step, after_serving}
use Rattle.nt_apart.specs.Apart.{StepsGoOtherwise, times_one, timed_one, AreStepsOnTwoTimers, AreSignalAndTimer, AreTimerAndSignal, signaled_one, IsInReach}
use Rattle.nt_apart.proofs.Quiet.{serve_none, alert_none, none_to_alert, objects_commute, numbers_before, numbers_without, changed_along, rising_along}
use Rattle.std.proofs.lemmas.List.{length-set, get_or-set_other}
use Rattle.nt_machine.proofs.Accepting.{IsCalm}
use Rattle.nt_apart.proofs.Pieces.{Piece, Alters, Ends, made, all_made, SomeTouches, past, long_along, untouched, alerted_before}
use Rattle.nt_apart.proofs.Reach.{AreOf, reached, is_named, change_agree, IsBeside, beside_back, only_one}
use Rattle.nt_apart.proofs.Signals.{signaling, signal_step, make_signal, settled_served, pieces_in, whole, whole_of, whole_is, own_pieces, moved}
use Rattle.nt_apart.proofs.ApcsBeside.{all_apcs}

-- ---- a step that ends no wait

-- the state after what such an act changes
pub record IsQuietTo (s z : State) (t : ℕ) (a : Act) : Type 0 where
  pub changes : change s t (Call.Act a) ≡ z
  pub settles : (x : State) → after_serving (Call.Act a) x ≡ x
  pub served : IsServed z
  pub calm : (u : ℕ) → IsAlerted z u → ⊥

pub record IsQuietStep (s new z : State) (t : ℕ) (a : Act) (r : Reply) (gs : List Grant) : Type 0 where
  pub numbers : List ℕ
  pub changed : AreRising (IsChanged s.objects z.objects) numbers
  pub grants : gs ≡ []
  pub state : new ≡ z
  pub reply : r ≡ act_reply s t a

pub quiet_step : (s new z : State) (t : ℕ) (a : Act) (r : Reply) (gs : List Grant) → IsQuietTo s z t a → Step s t (Call.Act a) r gs new → IsQuietStep s new z t a r gs
quiet_step s new z t a r gs to step =
    let serves : Serve (sequence s step.numbers) z step.served step.calm = subst (λ (x : State). Serve (sequence s step.numbers) x step.served step.calm) to.changes step.serves in
    let one = serve_none (sequence s step.numbers) z step.calm step.served to.served serves in
    let alerts : Alert z step.alerted step.woken = subst (λ (x : State). Alert x step.alerted step.woken) (to.settles step.calm ∙ one.1) step.alerts in
    let two = alert_none z step.woken step.alerted to.calm alerts in
    record {
      numbers = step.numbers;
      changed = subst (λ (x : State). AreRising (IsChanged s.objects x.objects) step.numbers) to.changes step.changed;
      grants = step.in_order ∙ (ap (λ (x : List Grant). x ++ step.alerted) one.0 ∙ two.0);
      state = ap (λ (x : Reply × State). x.1) step.answers ∙ two.1;
      reply = ap (λ (x : Reply × State). x.0) step.answers;
    }

pub make_quiet : (s new z : State) (t : ℕ) (a : Act) (r : Reply) (gs : List Grant) → IsQuietTo s z t a → IsQuietStep s new z t a r gs → Step s t (Call.Act a) r gs new
make_quiet s new z t a r gs to step = record {
  numbers = step.numbers;
  served = [];
  calm = z;
  alerted = [];
  woken = z;
  changed = subst (λ (x : State). AreRising (IsChanged s.objects x.objects) step.numbers) (sym to.changes) step.changed;
  serves = subst (λ (x : State). Serve (sequence s step.numbers) x [] z) (sym to.changes) (refl, to.served);
  alerts = subst (λ (x : State). Alert x [] z) (sym (to.settles z)) (none_to_alert z to.calm);
  in_order = step.grants;
  answers = ap {B = Reply × State} (λ (x : Reply). (x, new)) step.reply ∙ ap {B = Reply × State} (λ (x : State). (act_reply s t a, x)) step.state;
}

-- ---- what such an act changes

-- a timer is changed, and its APC withdrawn
abbrev pub timed : State → ℕ → (Object → Object) → State
timed s h f = record s { objects = with_object s.objects h f; apcs = withdrawn s.apcs h }

abbrev pub setting : ℕ → ℕ → Act → Object → Object
setting now t (Act.SetTimer h due period routine) o = armed_with (Some (record { due = due_moment now due; period = unsigned_abs period; routine = routine_for t routine })) (with_set false o)
setting now t (Act.CancelTimer h) o = armed_with None o
setting now t _ o = o

not_true : (b : Bool) → not b ≡ true → b ≡ false
not_true true e = sym e
not_true false e = refl

timed_is : (s : State) (t : ℕ) (a : Act) → times_one s.now a ≡ true → change s t (Call.Act a) ≡ timed s (timed_one a) (setting s.now t a)
timed_is s t (Act.SetTimer h due period routine) kind =
    let armed : Armed = record { due = due_moment s.now due; period = unsigned_abs period; routine = routine_for t routine } in
    ap (λ (b : Bool). if b then expired s.now (armed_anew s h armed) h else armed_anew s h armed) (not_true (nat_le (due_moment s.now due) s.now) kind)
timed_is s t (Act.CancelTimer h) kind = refl
timed_is s t _ kind = (cc)

settles_so : (now : ℕ) (a : Act) → times_one now a ≡ true → (x : State) → after_serving (Call.Act a) x ≡ x
settles_so now (Act.SetTimer h due period routine) kind x = refl
settles_so now (Act.CancelTimer h) kind x = refl
settles_so now _ kind x = (cc)

pub done_is : (x y : State) (t now : ℕ) (a : Act) → times_one now a ≡ true → act_reply x t a ≡ act_reply y t a
done_is x y t now (Act.SetTimer h due period routine) kind = refl
done_is x y t now (Act.CancelTimer h) kind = refl
done_is x y t now _ kind = (cc)

-- ---- then no wait fits, and nobody is to be alerted

unset_so : (armed : Option Armed) (o : Object) (u : ℕ) → signaled o u ≡ false → signaled (armed_with armed (with_set false o)) u ≡ false
unset_so armed (Event manual set) u e = refl
unset_so armed (Timer manual set was) u e = refl
unset_so armed (Semaphore count maximum) u e = e
unset_so armed (Mutex owner depth abandoned) u e = e
unset_so armed (Thread ended) u e = e
unset_so armed Gone u e = e

rearmed_so : (armed : Option Armed) (o : Object) (u : ℕ) → signaled o u ≡ false → signaled (armed_with armed o) u ≡ false
rearmed_so armed (Event manual set) u e = e
rearmed_so armed (Timer manual set was) u e = e
rearmed_so armed (Semaphore count maximum) u e = e
rearmed_so armed (Mutex owner depth abandoned) u e = e
rearmed_so armed (Thread ended) u e = e
rearmed_so armed Gone u e = e

pub set_so : (now t : ℕ) (a : Act) (o : Object) (u : ℕ) → signaled o u ≡ false → signaled (setting now t a o) u ≡ false
set_so now t (Act.SetTimer h due period routine) o u e = unset_so (Some (record { due = due_moment now due; period = unsigned_abs period; routine = routine_for t routine })) o u e
set_so now t (Act.CancelTimer h) o u e = rearmed_so None o u e
set_so now t _ o u e = e

pub unready : (f : Object → Object) → ((o : Object) (u : ℕ) → signaled o u ≡ false → signaled (f o) u ≡ false) → (os : List Object) (h u k : ℕ) → is_ready os u k ≡ false → is_ready (with_object os h f) u k ≡ false
unready f kept [] h u k e = e
unready f kept (o ∷ os) zero u zero e = kept o u e
unready f kept (o ∷ os) zero u (suc k) e = e
unready f kept (o ∷ os) (suc h) u zero e = e
unready f kept (o ∷ os) (suc h) u (suc k) e = unready f kept os h u k e

had_some : (p : Queued → Bool) (l : List Queued) → has_apc (filter p l ∷ []) 0 ≡ true → has_apc (l ∷ []) 0 ≡ true
had_some p [] e = e
had_some p (q ∷ l) e = refl

pub had_apc : (qs : List (List Queued)) (h v : ℕ) → has_apc (withdrawn qs h) v ≡ true → has_apc qs v ≡ true
had_apc [] h v e = e
had_apc (l ∷ qs) h zero e = had_some (λ q. not (is_from h q.timer)) l e
had_apc (l ∷ qs) h (suc v) e = had_apc qs h v e

pub both_true : (a b c : Bool) → (b ≡ true → c ≡ true) → (a && b) ≡ true → (a && c) ≡ true
both_true true b c on e = on e
both_true false b c on e = e

pub calm_so : (s : State) (h : ℕ) (f : Object → Object) → ((u : ℕ) → IsAlerted s u → ⊥) → (u : ℕ) → IsAlerted (timed s h f) u → ⊥
calm_so s h f calm u alerted =
    calm u (alerted.0, alerted.1, both_true alerted.0.alertable (has_apc (withdrawn s.apcs h) u) (has_apc s.apcs u) (had_apc s.apcs h u) alerted.2)

pub quiet_to : (s : State) (t : ℕ) (a : Act) → IsServed s → ((u : ℕ) → IsAlerted s u → ⊥) → times_one s.now a ≡ true → IsQuietTo s (timed s (timed_one a) (setting s.now t a)) t a
quiet_to s t a served calm kind = record {
  changes = timed_is s t a kind;
  settles = settles_so s.now a kind;
  served = served_fewer s (with_object s.objects (timed_one a) (setting s.now t a)) served (λ u k e. unready (setting s.now t a) (set_so s.now t a) s.objects (timed_one a) u k e);
  calm = calm_so s (timed_one a) (setting s.now t a) calm;
}

-- ---- both, in either order

filter_comm : (p q : Queued → Bool) (l : List Queued) → filter p (filter q l) ≡ filter q (filter p l)
filter_comm p q [] = refl
filter_comm p q (x ∷ l) = go (p x) (q x) refl refl (filter_comm p q l)
  where
    go : (a b : Bool) → p x ≡ a → q x ≡ b → filter p (filter q l) ≡ filter q (filter p l) → filter p (if b then x ∷ filter q l else filter q l) ≡ filter q (if a then x ∷ filter p l else filter p l)
    go true true is is' rest =
        ap (λ c. if c then x ∷ filter p (filter q l) else filter p (filter q l)) is
        ∙ (ap (λ (ys : List Queued). x ∷ ys) rest ∙ sym (ap (λ c. if c then x ∷ filter q (filter p l) else filter q (filter p l)) is'))
    go true false is is' rest = rest ∙ sym (ap (λ c. if c then x ∷ filter q (filter p l) else filter q (filter p l)) is')
    go false true is is' rest = ap (λ c. if c then x ∷ filter p (filter q l) else filter p (filter q l)) is ∙ rest
    go false false is is' rest = rest

pub withdrawn_comm : (qs : List (List Queued)) (h k : ℕ) → withdrawn (withdrawn qs k) h ≡ withdrawn (withdrawn qs h) k
withdrawn_comm [] h k = refl
withdrawn_comm (l ∷ qs) h k =
    ap (λ (x : List Queued). x ∷ withdrawn (withdrawn qs k) h) (filter_comm (λ q. not (is_from h q.timer)) (λ q. not (is_from k q.timer)) l)
    ∙ ap (λ (ys : List (List Queued)). without_from k (without_from h l) ∷ ys) (withdrawn_comm qs h k)

timed_comm : (s : State) (h k : ℕ) (f g : Object → Object) → h ≢ k → timed (timed s k g) h f ≡ timed (timed s h f) k g
timed_comm s h k f g differ =
    ap (λ (os : List Object). record s { objects = os; apcs = withdrawn (withdrawn s.apcs k) h }) (objects_commute s.objects h k f g differ)
    ∙ ap (λ (qs : List (List Queued)). record s { objects = with_object (with_object s.objects h f) k g; apcs = qs }) (withdrawn_comm s.apcs h k)

pub two_timers : (s mid new : State) (t u : ℕ) (a b : Act) (ra rb : Reply) (ga gb : List Grant) → AreStepsOnTwoTimers s mid new t u a b ra rb ga gb → StepsGoOtherwise s new t u a b ra rb ga gb
two_timers s mid new t u a b ra rb ga gb two =
    let h = timed_one a in
    let k = timed_one b in
    let f = setting s.now t a in
    let g = setting s.now u b in
    let x : State = timed s h f in
    let y : State = timed s k g in
    let to_a = quiet_to s t a two.quiet.served two.quiet.calm two.first_kind in
    let to_b = quiet_to s u b two.quiet.served two.quiet.calm two.second_kind in
    let one = quiet_step s mid x t a ra ga to_a two.first in
    let to_ab = quiet_to x u b to_a.served to_a.calm two.second_kind in
    let next = quiet_step x new (timed x k g) u b rb gb to_ab (subst (λ (z : State). Step z u (Call.Act b) rb gb new) one.state two.second) in
    let to_ba = quiet_to y t a to_b.served to_b.calm two.first_kind in
    let second : IsQuietStep s y y u b rb gb = record {
      numbers = next.numbers;
      changed = numbers_without s.objects k h g (f (object_at s.objects h)) next.numbers (λ e. two.differ (sym e)) next.changed;
      grants = next.grants;
      state = refl;
      reply = next.reply ∙ done_is x s u s.now b two.second_kind;
    } in
    let first : IsQuietStep y new (timed y h f) t a ra ga = record {
      numbers = one.numbers;
      changed = numbers_before s.objects h k f (g (object_at s.objects k)) one.numbers two.differ one.changed;
      grants = one.grants;
      state = next.state ∙ sym (timed_comm s h k f g two.differ);
      reply = one.reply ∙ done_is s y t s.now a two.first_kind;
    } in
    record {
      mid = y;
      first = make_quiet s y y u b rb gb to_b second;
      second = make_quiet y new (timed y h f) t a ra ga to_ba first;
    }

-- ---- pieces that leave the timer

all_now : (ps : List Piece) (x : State) → (all_made ps x).now ≡ x.now
all_now [] x = refl
all_now (Alters h f ∷ ps) x = all_now ps (at x h f)
all_now (Ends t hs ∷ ps) x = all_now ps (made (Ends t hs) x)

made_apcs : (ps : List Piece) (x : State) (qs : List (List Queued)) → all_made ps (record x { apcs = qs }) ≡ record (all_made ps x) { apcs = qs }
made_apcs [] x qs = refl
made_apcs (Alters h f ∷ ps) x qs = made_apcs ps (at x h f) qs
made_apcs (Ends t hs ∷ ps) x qs = made_apcs ps (made (Ends t hs) x) qs

made_timed : (ps : List Piece) (s : State) (k : ℕ) (g : Object → Object) → (SomeTouches ps k → ⊥) → all_made ps (timed s k g) ≡ timed (all_made ps s) k g
made_timed ps s k g apart =
    let m : State = all_made ps s in
    made_apcs ps (at s k g) (withdrawn s.apcs k)
    ∙ (ap (λ (z : State). record z { apcs = withdrawn s.apcs k }) (past (Alters k g) ps s (λ o here touch. apart (subst (λ (i : ℕ). SomeTouches ps i) (sym here) touch)))
    ∙ ap (λ (qs : List (List Queued)). record (at m k g) { apcs = withdrawn qs k }) (sym (all_apcs ps s)))

-- the act finds the same before and after the timer changes
beside_timed : (s : State) (h k : ℕ) (f g : Object → Object) → (IsInReach s h k → ⊥) → IsServed s → IsServed (timed s k g) → IsBeside h (at s h f) (at (timed s k g) h f)
beside_timed s h k f g apart served done = record {
  long = length-set (with_object s.objects k g) h (f (object_at (with_object s.objects k g) h)) ∙ (length-set s.objects k (g (object_at s.objects k)) ∙ sym (length-set s.objects h (f (object_at s.objects h))));
  there = λ t w e n. e;
  back = λ t w e n. e;
  agree = λ t w e n o m.
      change_agree (with_object s.objects k g) s.objects h o f (length-set s.objects k (g (object_at s.objects k))) (kept h (inl refl)) (kept o (inr (t, w, e, n, is_named o w.objects m)));
  only = only_one s h f served;
  only_too = only_one (timed s k g) h f done;
}
  where
    kept : (o : ℕ) → IsInReach s h o → object_at (with_object s.objects k g) o ≡ object_at s.objects o
    kept o reach = get_or-set_other s.objects k o (g (object_at s.objects k)) (Thread false) (λ same. apart (subst (λ (i : ℕ). IsInReach s h i) same reach))

pub numbers_for : (x y : State) (k : ℕ) (g : Object → Object) (numbers : List ℕ) → length y.objects ≡ length x.objects → object_at y.objects k ≡ object_at x.objects k → AreRising (IsChanged x.objects (with_object x.objects k g)) numbers → AreRising (IsChanged y.objects (with_object y.objects k g)) numbers
numbers_for x y k g numbers long same rising =
    rising_along (IsChanged x.objects (with_object x.objects k g)) (IsChanged y.objects (with_object y.objects k g)) numbers
    (changed_along x.objects y.objects k g long (sym same))
    (changed_along y.objects x.objects k g (sym long) same)
    rising

-- ---- the act first

pub signal_and_timer : (s mid new : State) (t u : ℕ) (a b : Act) (ra rb : Reply) (ga gb : List Grant) → AreSignalAndTimer s mid new t u a b ra rb ga gb → StepsGoOtherwise s new t u a b ra rb ga gb
signal_and_timer s mid new t u a b ra rb ga gb two =
    let h = signaled_one a in
    let k = timed_one b in
    let g = setting s.now u b in
    let served = two.quiet.served in
    let calm : IsCalm s = two.quiet.calm in
    let one = signal_step s mid t a ra ga two.first_kind calm two.first in
    let ps : List Piece = whole a (pieces_in s mid t a ra ga one) in
    let of_a : AreOf s h ps = whole_of s a (pieces_in s mid t a ra ga one) (own_pieces s mid t a ra ga served one) in
    let m : State = all_made ps s in
    let mid_is : mid ≡ m = whole_is s mid t a ra ga one in
    let served_m : IsServed m = subst IsServed (sym one.state ∙ mid_is) (settled_served one.calm a one.done) in
    let calm_m : IsCalm m = λ v alerted. calm v (alerted_before ps s v alerted) in
    let kind_m : times_one m.now b ≡ true = ap (λ (i : ℕ). times_one i b) (all_now ps s) ∙ two.second_kind in
    let to_m : IsQuietTo m (timed m k g) u b = subst (λ (i : ℕ). IsQuietTo m (timed m k (setting i u b)) u b) (all_now ps s) (quiet_to m u b served_m calm_m kind_m) in
    let next = quiet_step m new (timed m k g) u b rb gb to_m (subst (λ (x : State). Step x u (Call.Act b) rb gb new) mid_is two.second) in
    let free : SomeTouches ps k → ⊥ = λ touch. two.apart (reached s h ps k of_a touch) in
    -- the timer first
    let n : State = timed s k g in
    let to_s : IsQuietTo s n u b = quiet_to s u b served calm two.second_kind in
    let second : IsQuietStep s n n u b rb gb = record {
      numbers = next.numbers;
      changed = numbers_for m s k g next.numbers (sym (long_along ps s)) (sym (untouched ps s k free)) next.changed;
      grants = next.grants;
      state = refl;
      reply = next.reply ∙ done_is m s u s.now b two.second_kind;
    } in
    -- and then the act
    let first = moved s s mid n t a ra ga one two.first_kind
    (λ v w e. e)
    (λ ns p ix iy. refl)
    (beside_timed s h k (signaling a) g two.apart served to_s.served)
    (length-set s.objects k (g (object_at s.objects k)))
    (get_or-set_other s.objects k h (g (object_at s.objects k)) (Thread false) (λ e. two.apart (inl (sym e))))
    to_s.calm in
    let last : all_made ps n ≡ new = made_timed ps s k g free ∙ sym next.state in
    record {
      mid = n;
      first = make_quiet s n n u b rb gb to_s second;
      second = subst (λ (x : State). Step n t (Call.Act a) ra ga x) last (make_signal n (all_made ps n) t a ra ga two.first_kind first.1);
    }

-- ---- the timer first

pub timer_and_signal : (s mid new : State) (t u : ℕ) (b a : Act) (rb ra : Reply) (gb ga : List Grant) → AreTimerAndSignal s mid new t u b a rb ra gb ga → StepsGoOtherwise s new t u b a rb ra gb ga
timer_and_signal s mid new t u b a rb ra gb ga two =
    let h = signaled_one a in
    let k = timed_one b in
    let g = setting s.now t b in
    let served = two.quiet.served in
    let calm : IsCalm s = two.quiet.calm in
    let n : State = timed s k g in
    let to_s : IsQuietTo s n t b = quiet_to s t b served calm two.first_kind in
    let one = quiet_step s mid n t b rb gb to_s two.first in
    let next = signal_step n new u a ra ga two.second_kind to_s.calm (subst (λ (x : State). Step x u (Call.Act a) ra ga new) one.state two.second) in
    let ps : List Piece = whole a (pieces_in n new u a ra ga next) in
    -- the act first
    let second = moved s n new s u a ra ga next two.second_kind
    (λ v w e. e)
    (λ ns p ix iy. refl)
    (beside_back h (at s h (signaling a)) (at n h (signaling a)) (beside_timed s h k (signaling a) g two.apart served to_s.served))
    (sym (length-set s.objects k (g (object_at s.objects k))))
    (sym (get_or-set_other s.objects k h (g (object_at s.objects k)) (Thread false) (λ e. two.apart (inl (sym e)))))
    calm in
    let m : State = all_made ps s in
    let of_a : AreOf s h ps = whole_of s a (pieces_in n new u a ra ga next) second.0 in
    let free : SomeTouches ps k → ⊥ = λ touch. two.apart (reached s h ps k of_a touch) in
    -- and then the timer
    let calm_m : IsCalm m = λ v alerted. calm v (alerted_before ps s v alerted) in
    let kind_m : times_one m.now b ≡ true = ap (λ (i : ℕ). times_one i b) (all_now ps s) ∙ two.first_kind in
    let to_m : IsQuietTo m (timed m k g) t b = subst (λ (i : ℕ). IsQuietTo m (timed m k (setting i t b)) t b) (all_now ps s) (quiet_to m t b second.2 calm_m kind_m) in
    let first : IsQuietStep m new (timed m k g) t b rb gb = record {
      numbers = one.numbers;
      changed = numbers_for s m k g one.numbers (long_along ps s) (untouched ps s k free) one.changed;
      grants = one.grants;
      state = whole_is n new u a ra ga next ∙ made_timed ps s k g free;
      reply = one.reply ∙ done_is s m t s.now b two.first_kind;
    } in
    record {
      mid = m;
      first = make_signal s m u a ra ga two.second_kind second.1;
      second = make_quiet m new (timed m k g) t b rb gb to_m first;
    }
