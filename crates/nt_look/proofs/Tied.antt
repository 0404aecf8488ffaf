-- What stays of a knot while waits are granted, alerted, timed out and begun.
use Rattle.std.proofs.Common.{◌≡◌, ◌≢◌, ◌≤◌, ◌<◌, ℕ, ◌+◌, Bool, true, false, cond, not, ◌&&◌, ◌||◌, ◌==◌, List, [], ◌∷◌, length, refl, sym, ap, ◌∙◌, subst, arith, Some, Contains}
use Rattle.std.specs.Prelude.{map, slice_index}
use Rattle.std.specs.List.{list_any, list_all}
use Rattle.std.specs.FinMap.{get, insert, get-insert}
use Rattle.std.specs.Cmp.{unsigned_tied, nat_cmp_total}
use Rattle.std.specs.Ordering.{nat_cmp, eq_by_cmp}
use Rattle.std.proofs.lemmas.Bool.{false≢true}
use Rattle.std.proofs.lemmas.Bool.Decides.{nat_tests}
use Rattle.nt_status.proofs.Lists.{contains_first, contains_later}
use Rattle.nt_status.specs.declared.limits.TheConstants.{MAX_MOMENT}
use Rattle.nt_status.specs.Access.{modify_state, set_context}
use Rattle.nt_status.specs.Status.{io_completion_code}
use Rattle.nt_waits.specs.declared.wait.Wait.{Wait}
use Rattle.nt_waits.specs.Waits.{Names}
use Rattle.nt_apc.specs.Queues.{has_apc}
use Rattle.nt_calls.specs.declared.call.Grant.{Grant}
use Rattle.nt_calls.specs.declared.call.Reply.{Reply}
use Rattle.nt_calls.specs.State.{State, object_at, with_handing, pending_too, wait_over, waits_over}
use Rattle.nt_calls.specs.Serving.{fits, is_ready, is_sleep, status, satisfied, is_due, taken_by, wait_granted, Grants, IsAlerted, Alert, IsLate, TimeOut, ending, late_status, sleeps}
use Rattle.nt_calls.specs.Steps.{begun}
use Rattle.nt_calls.specs.Moves.{one_if, granted_to}
use Rattle.nt_core.proofs.Lengths.{length_taken}
use Rattle.nt_machine.proofs.Walks.{get_other}
use Rattle.nt_calls.specs.Naming.{no_object}
use Rattle.nt_look.specs.Hangs.{will_come, is_called_in_time, is_given, can_be_called, IsKnot, IsTied, held_at}
use Rattle.nt_look.proofs.Parts.{neither, none_of, not_second, second_false, not_true, not_with, both_of, any_kept, all_kept, all_against, any_against}
use Rattle.nt_look.proofs.Waiting.{is_called}
use Rattle.nt_look.proofs.Passing.{moment_comes}
use Rattle.nt_look.proofs.Holding.{firm, firm_holds, firm_unready, holds_freer, Kept, taken_kept}
use Rattle.nt_look.proofs.Calling.{StaysUncalled, taken_uncalled}

-- where a knot begins: its threads and what their waits name are there, and its mutexes are no thread's own object
pub record Begins (callers knot : ℕ → Bool) (a : State) : Type 0 where
  pub tied : IsKnot callers knot a
  pub known : (t : ℕ) → knot t ≡ true → callers t ≡ true → t < length a.objects
  pub there : (t : ℕ) (w : Wait) (o : ℕ) → knot t ≡ true → callers t ≡ true → get a.waits t ≡ Some w → Names w o → o < length a.objects
  pub few : length a.objects ≤ no_object
  pub firm : (t o : ℕ) → held_at a knot t o ≡ true → firm a.threads knot (not (is_given a modify_state o)) t o (object_at a.objects o) ≡ true

-- what was tied at the beginning still is
pub record Stays (callers knot : ℕ → Bool) (a s : State) : Type 0 where
  pub threads : s.threads ≡ a.threads
  pub longer : length a.objects ≤ length s.objects
  pub waits : (t : ℕ) (w : Wait) → knot t ≡ true → callers t ≡ true → get a.waits t ≡ Some w → get s.waits t ≡ Some w
  pub ungiven : (right o : ℕ) → o < length a.objects → is_given a right o ≡ false → is_given s right o ≡ false
  pub uncalled : (t : ℕ) → knot t ≡ true → callers t ≡ true → can_be_called a t ≡ false → is_called s.apcs s.objects t ≡ false
  pub held : (t : ℕ) (w : Wait) (o : ℕ) → knot t ≡ true → callers t ≡ true → get a.waits t ≡ Some w → Names w o
      → firm a.threads knot (not (is_given a modify_state o)) t o (object_at a.objects o) ≡ true → firm a.threads knot (not (is_given a modify_state o)) t o (object_at s.objects o) ≡ true

-- ---- whoever is tied is not due

pub undue : (callers knot : ℕ → Bool) (a s : State) → Begins callers knot a → Stays callers knot a s → (t : ℕ) → knot t ≡ true → callers t ≡ true → is_due s t ≡ false
undue callers knot a s begins stays t inside may =
    ap (satisfied s.objects t) (stays.waits t w inside may tied.pends) ∙ go w.all tied.held
  where
    tied : IsTied knot a t
    tied = begins.tied t inside may

    w : Wait
    w = tied.wait

    now : ℕ → Bool
    now o = firm a.threads knot (not (is_given a modify_state o)) t o (object_at s.objects o)

    still : (j : ℕ) → j < length w.objects → held_at a knot t (slice_index w.objects j) ≡ true → now (slice_index w.objects j) ≡ true
    still j below is = stays.held t w (slice_index w.objects j) inside may tied.pends (j, below, refl) (begins.firm t (slice_index w.objects j) is)

    unready : (o : ℕ) → now o ≡ true → is_ready s.objects t o ≡ false
    unready o is = firm_unready a.threads knot (not (is_given a modify_state o)) t o (object_at s.objects o) is

    go : (all : Bool) → cond all (list_any (held_at a knot t) w.objects) (list_all (held_at a knot t) w.objects) ≡ true
        → cond all (not (is_sleep w) && list_all (is_ready s.objects t) w.objects) (list_any (is_ready s.objects t) w.objects) ≡ false
    go true held = not_second (not (is_sleep w)) (list_all (is_ready s.objects t) w.objects) (any_against now (is_ready s.objects t) unready w.objects (any_kept (held_at a knot t) now w.objects still held))
    go false held = all_against now (is_ready s.objects t) unready w.objects (all_kept (held_at a knot t) now w.objects still held)

-- ---- small changes

pub stays_kept : (callers knot : ℕ → Bool) (a s new : State) → Begins callers knot a → Stays callers knot a s → Kept (λ x. firm a.threads knot false 0 0 x ≡ true) 0 s new
    → ((t o : ℕ) → o < length a.objects → Kept (λ x. firm a.threads knot (not (is_given a modify_state o)) t o x ≡ true) o s new)
    → ((t : ℕ) → knot t ≡ true → callers t ≡ true → can_be_called a t ≡ false → StaysUncalled t s new) → Stays callers knot a new
stays_kept callers knot a s new begins stays same kept quiet =
    let first = stays.longer in
    let second = same.longer in
    record {
      threads = same.threads ∙ stays.threads;
      longer = omega (arith, first, second);
      waits = λ t w inside may is. ap (λ m. get m t) same.waits ∙ stays.waits t w inside may is;
      ungiven = λ right o below none. (kept 0 o below).ungiven right (omega (arith, below, first)) (stays.ungiven right o below none);
      uncalled = λ t inside may none. quiet t inside may none (stays.uncalled t inside may none);
      held = λ t w o inside may is named was.
          let below = begins.there t w o inside may is named in
          (kept t o below).object (omega (arith, below, first)) (stays.held t w o inside may is named was);
    }

-- what no handle may signal at the beginning, none may
pub still_free : (callers knot : ℕ → Bool) (a s : State) (o : ℕ) → Stays callers knot a s → o < length a.objects → not (is_given a modify_state o) ≡ true → is_given s modify_state o ≡ false
still_free callers knot a s o stays below none = stays.ungiven modify_state o below (not_true (is_given a modify_state o) none)

-- whom no handle gives the right to call at the beginning
pub reach_none : (a : State) (t : ℕ) → can_be_called a t ≡ false → is_given a set_context t ≡ false
reach_none a t none = (neither (is_called_in_time a.objects t) (is_given a set_context t) (neither (has_apc a.apcs t) (is_called_in_time a.objects t || is_given a set_context t) none).1).1

-- to whom no APC could come, none can
still_uncalled : (callers knot : ℕ → Bool) (a s : State) (t : ℕ) → Begins callers knot a → Stays callers knot a s → knot t ≡ true → callers t ≡ true → can_be_called a t ≡ false → can_be_called s t ≡ false
still_uncalled callers knot a s t begins stays inside may none =
    let two = neither (has_apc s.apcs t) (is_called_in_time s.objects t) (stays.uncalled t inside may none) in
    none_of (has_apc s.apcs t) (is_called_in_time s.objects t || is_given s set_context t) two.0
    (none_of (is_called_in_time s.objects t) (is_given s set_context t) two.1 (stays.ungiven set_context t (begins.known t inside may) (reach_none a t none)))

stays_handing : (callers knot : ℕ → Bool) (a s : State) (u : ℕ) (may' : Bool) → Stays callers knot a s → Stays callers knot a (with_handing s u may')
stays_handing callers knot a s u may' stays = record { threads = stays.threads; longer = stays.longer; waits = stays.waits; ungiven = stays.ungiven; uncalled = stays.uncalled; held = stays.held }

stays_taken : (callers knot : ℕ → Bool) (a s : State) (u : ℕ) (w : Wait) → Stays callers knot a s → Stays callers knot a (taken_by s u w)
stays_taken callers knot a s u v stays =
    let count = length_taken s.objects u v in
    let first = stays.longer in
    record {
      threads = stays.threads;
      longer = omega (arith, first, count);
      waits = stays.waits;
      ungiven = stays.ungiven;
      uncalled = λ t inside may none.
          let two = neither (has_apc s.apcs t) (is_called_in_time s.objects t) (stays.uncalled t inside may none) in
          none_of (has_apc s.apcs t) (is_called_in_time (taken_by s u v).objects t) two.0 (taken_uncalled t s.objects u v two.1);
      held = λ t w o inside may is named was. taken_kept a.threads knot (not (is_given a modify_state o)) t o s.objects u v (stays.held t w o inside may is named was);
    }

-- the wait of a thread that is not tied is over
stays_over : (callers knot : ℕ → Bool) (a s : State) (u : ℕ) (may' : Bool) → ((t : ℕ) → knot t ≡ true → callers t ≡ true → t ≢ u) → Stays callers knot a s → Stays callers knot a (wait_over s u may')
stays_over callers knot a s u may' other stays = record {
  threads = stays.threads;
  longer = stays.longer;
  waits = λ t w inside may is. get_other s.waits u t (other t inside may) ∙ stays.waits t w inside may is;
  ungiven = stays.ungiven;
  uncalled = stays.uncalled;
  held = stays.held;
}

-- ---- grants

-- two threads, one of which is due
apart : (s : State) (t : ℕ) (g : Grant) (w : Wait) → is_due s t ≡ false → get s.waits g.thread ≡ Some w → fits s.objects g.thread w ≡ true → t ≢ g.thread
apart s t g w undue pends fit same =
    let due : is_due s g.thread ≡ true = ap (satisfied s.objects g.thread) pends ∙ fit in
    false≢true (sym undue ∙ (ap (is_due s) same ∙ due))

none_for : (g : Grant) (gs : List Grant) (t : ℕ) → t ≢ g.thread → granted_to t gs ≡ 0 → granted_to t (g ∷ gs) ≡ 0
none_for g gs t differs none =
    let test : (g.thread == t) ≡ false = grind (arith, nat_tests, differs) in
    let rest : 0 + granted_to t gs ≡ 0 = omega (arith, none) in
    ap (λ b. one_if b + granted_to t gs) test ∙ rest

pub grants_stay : (callers knot : ℕ → Bool) (threads : List ℕ) (a s : State) (gs : List Grant) (new : State) → Begins callers knot a → Stays callers knot a s → Grants threads s gs new
    → Stays callers knot a new × ((t : ℕ) → knot t ≡ true → callers t ≡ true → granted_to t gs ≡ 0)
grants_stay callers knot threads a s [] new begins stays is = (subst (Stays callers knot a) (sym is) stays, λ t inside may. refl)
grants_stay callers knot threads a s (g ∷ gs) new begins stays is =
    let other : (t : ℕ) → knot t ≡ true → callers t ≡ true → t ≢ g.thread = λ t inside may. apart s t g is.1 (undue callers knot a s begins stays t inside may) is.2.pends is.2.fits in
    let taken = stays_taken callers knot a s g.thread is.1 stays in
    let over : Stays callers knot a (wait_granted s g.thread is.1) = record {
      threads = taken.threads;
      longer = taken.longer;
      waits = λ t w inside may has. get_other s.waits g.thread t (other t inside may) ∙ stays.waits t w inside may has;
      ungiven = taken.ungiven;
      uncalled = taken.uncalled;
      held = taken.held;
    } in
    let rest = grants_stay callers knot threads a (wait_granted s g.thread is.1) gs new begins over is.3 in
    (rest.0, λ t inside may. none_for g gs t (other t inside may) (rest.1 t inside may))

pub over_stays : (callers knot : ℕ → Bool) (a s : State) (ts : List ℕ) (may' : Bool) → ((t : ℕ) → knot t ≡ true → callers t ≡ true → Contains ts t → ⊥) → Stays callers knot a s → Stays callers knot a (waits_over s ts may')
over_stays callers knot a s [] may' none stays = stays
over_stays callers knot a s (u ∷ ts) may' none stays =
    over_stays callers knot a (wait_over s u may') ts may' (λ t inside may has. none t inside may (contains_later u ts t has))
    (stays_over callers knot a s u may' (λ t inside may same. none t inside may (contains_first u ts t (sym same))) stays)

none_among : (f : ℕ → Grant) → ((x : ℕ) → (f x).thread ≡ x) → (ts : List ℕ) (t : ℕ) → (Contains ts t → ⊥) → granted_to t (map f ts) ≡ 0
none_among f own [] t none = refl
none_among f own (u ∷ ts) t none =
    none_for (f u) (map f ts) t (λ same. none (contains_first u ts t (sym (same ∙ own u)))) (none_among f own ts t (λ has. none (contains_later u ts t has)))

same_wait : (v w : Wait) → Some v ≡ Some w → v ≡ w
same_wait v w e = (cc)

pub alert_stays : (callers knot : ℕ → Bool) (a s : State) (gs : List Grant) (new : State) → Begins callers knot a → Stays callers knot a s → Alert s gs new
    → Stays callers knot a new × ((t : ℕ) → knot t ≡ true → callers t ≡ true → granted_to t gs ≡ 0)
alert_stays callers knot a s gs new begins stays alert = (
  subst (Stays callers knot a) (sym alert.leaves) (over_stays callers knot a s alert.threads true none stays),
  λ t inside may. ap (granted_to t) alert.ends ∙ none_among (ending io_completion_code) (λ x. refl) alert.threads t (none t inside may),
)
  where
    never : (t : ℕ) → knot t ≡ true → callers t ≡ true → IsAlerted s t → ⊥
    never t inside may alerted =
        let tied = begins.tied t inside may in
        let same : tied.wait ≡ alerted.0 = same_wait tied.wait alerted.0 (sym (stays.waits t tied.wait inside may tied.pends) ∙ alerted.1) in
        let both = both_of alerted.0.alertable (has_apc s.apcs t) alerted.2 in
        let alertable : tied.wait.alertable ≡ true = ap (λ (w : Wait). w.alertable) same ∙ both.0 in
        let never_called = second_false tied.wait.alertable (can_be_called a t) alertable tied.plain in
        let none = (neither (has_apc s.apcs t) (is_called_in_time s.objects t) (stays.uncalled t inside may never_called)).0 in
        false≢true (sym none ∙ both.1)

    none : (t : ℕ) → knot t ≡ true → callers t ≡ true → Contains alert.threads t → ⊥
    none t inside may has = never t inside may ((alert.alerted.exactly t).0 has)

pub time_out_stays : (callers knot : ℕ → Bool) (a s : State) (u : ℕ) (gs : List Grant) (new : State) → u ≤ MAX_MOMENT → Begins callers knot a → Stays callers knot a s → TimeOut s u gs new
    → Stays callers knot a new × ((t : ℕ) → knot t ≡ true → callers t ≡ true → granted_to t gs ≡ 0)
time_out_stays callers knot a s u gs new most begins stays out = (
  subst (Stays callers knot a) (sym out.leaves) (over_stays callers knot a s out.threads false none stays),
  λ t inside may. ap (granted_to t) out.ends ∙ none_among (λ t. ending (late_status (sleeps (get s.waits t))) t) (λ x. refl) out.threads t (none t inside may),
)
  where
    never : (t : ℕ) → knot t ≡ true → callers t ≡ true → IsLate s u t → ⊥
    never t inside may late =
        let tied = begins.tied t inside may in
        let same : tied.wait ≡ late.0 = same_wait tied.wait late.0 (sym (stays.waits t tied.wait inside may tied.pends) ∙ late.1) in
        false≢true (sym tied.endless ∙ (ap (λ (w : Wait). will_come w.deadline) same ∙ (ap will_come late.2 ∙ moment_comes u most)))

    none : (t : ℕ) → knot t ≡ true → callers t ≡ true → Contains out.threads t → ⊥
    none t inside may has = never t inside may ((out.late.exactly t).0 has)

-- ---- a wait begins

inserted_other : (m : Rattle.nt_calls.specs.State.Pending) (t u : ℕ) (w : Wait) → u ≢ t → get (insert m t w) u ≡ get m u
inserted_other m t u w differs = get-insert nat_cmp_total m t w u ∙ rw apart' refl
  where
    apart' : eq_by_cmp nat_cmp u t ≡ false
    apart' = unsigned_tied u t ∙ (grind (arith, nat_tests, differs))

pub begun_stays : (callers knot : ℕ → Bool) (a s : State) (who : ℕ) (w : Wait) (ms : ℕ) (reply : Reply) (new : State) → ((t : ℕ) → knot t ≡ true → callers t ≡ true → t ≢ who) → Stays callers knot a s → (reply, new) ≡ begun s who w ms → Stays callers knot a new
begun_stays callers knot a s who w ms reply new other stays is = go (fits s.objects who w) (w.alertable && has_apc s.apcs who) (ms == 0) is
  where
    pending : Stays callers knot a (pending_too s who w)
    pending = record {
      threads = stays.threads;
      longer = stays.longer;
      waits = λ t v inside may has. inserted_other s.waits who t w (other t inside may) ∙ stays.waits t v inside may has;
      ungiven = stays.ungiven;
      uncalled = stays.uncalled;
      held = stays.held;
    }

    go : (fit alert over : Bool) → ◌≡◌ {A = Reply × State} (reply, new) (cond fit (Reply.Status (status s.objects who w), taken_by s who w) (cond alert (Reply.Status io_completion_code, with_handing s who true) (cond over (Reply.Status (late_status (is_sleep w)), with_handing s who false) (Reply.Pended, pending_too s who w)))) → Stays callers knot a new
    go true alert over e = subst (Stays callers knot a) (sym (ap (λ p. p.1) e)) (stays_taken callers knot a s who w stays)
    go false true over e = subst (Stays callers knot a) (sym (ap (λ p. p.1) e)) (stays_handing callers knot a s who true stays)
    go false false true e = subst (Stays callers knot a) (sym (ap (λ p. p.1) e)) (stays_handing callers knot a s who false stays)
    go false false false e = subst (Stays callers knot a) (sym (ap (λ p. p.1) e)) pending

-- ---- what stays tied is a knot

pub knot_stays : (callers knot : ℕ → Bool) (a s : State) → Begins callers knot a → Stays callers knot a s → IsKnot callers knot s
knot_stays callers knot a s begins stays t inside may = record {
  wait = w;
  pends = stays.waits t w inside may tied.pends;
  endless = tied.endless;
  plain = not_with w.alertable (can_be_called a t) (can_be_called s t) (still_uncalled callers knot a s t begins stays inside may) tied.plain;
  held = go w.all tied.held;
}
  where
    tied : IsTied knot a t
    tied = begins.tied t inside may

    w : Wait
    w = tied.wait

    still : (j : ℕ) → j < length w.objects → held_at a knot t (slice_index w.objects j) ≡ true → held_at s knot t (slice_index w.objects j) ≡ true
    still j below is =
        let o = slice_index w.objects j in
        let there = begins.there t w o inside may tied.pends (j, below, refl) in
        holds_freer knot (not (is_given a modify_state o)) (not (is_given s modify_state o)) t o (object_at s.objects o) (λ none. ap (λ b. not b) (still_free callers knot a s o stays there none))
        (firm_holds a.threads knot (not (is_given a modify_state o)) t o (object_at s.objects o) (stays.held t w o inside may tied.pends (j, below, refl) (begins.firm t o is)))

    go : (all : Bool) → cond all (list_any (held_at a knot t) w.objects) (list_all (held_at a knot t) w.objects) ≡ true
        → cond all (list_any (held_at s knot t) w.objects) (list_all (held_at s knot t) w.objects) ≡ true
    go true held = any_kept (held_at a knot t) (held_at s knot t) w.objects still held
    go false held = all_kept (held_at a knot t) (held_at s knot t) w.objects still held
