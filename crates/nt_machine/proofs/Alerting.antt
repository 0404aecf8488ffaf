-- Waits that end for an APC.
use Rattle.std.proofs.Common.{◌≡◌, ◌≢◌, ◌<◌, ◌≤◌, ℕ, ◌+◌, Bool, true, false, ◌&&◌, List, [], ◌∷◌, ◌++◌, length, length-append, set, refl, sym, ap, ◌∙◌, subst, arith, Option, Some, None, is_some, inl, inr, ◌⊎◌, map, Contains}
use Rattle.std.specs.List.{filter, list_any}
use Rattle.std.specs.Option.{option_map}
use Rattle.nt_waits.specs.declared.wait.About.{About}
use Rattle.nt_waits.specs.Waits.{about_of}
use Rattle.std.specs.FinMap as fin
use Rattle.std.proofs.lemmas.Bool.{cases_eq, false≢true}
use Rattle.std.proofs.lemmas.List.{get_or-set_other, length-set, append-nil}
use Rattle.nt_status.specs.Status.{io_completion_code}
use Rattle.nt_waits.specs.declared.wait.Wait.{Wait}
use Rattle.nt_waits.specs.Waits.{Waits, queue_of, others, Agrees}
use Rattle.nt_apc.specs.declared.apc.Queued.{Queued}
use Rattle.nt_apc.specs.Queues.{apc_queue_of as inbox_of, has_apc, pushed, oldest_taken, oldest, apc_of, without_oldest}
use Rattle.nt_objects.specs.Object.{due_of}
use Rattle.nt_calls.specs.declared.call.Call.{Call}
use Rattle.nt_calls.specs.declared.call.Act.{Act}
use Rattle.nt_calls.specs.declared.call.Reply.{Reply}
use Rattle.nt_calls.specs.declared.call.Grant.{Grant}
use Rattle.nt_calls.specs.State.{State, pends, wait_over, waits_over, object_at}
use Rattle.nt_machine.specs.Dispatcher.{Dispatcher, state}
use Rattle.nt_calls.specs.Serving.{satisfied, IsServed, IsAlerted, Alert, ending}
use Rattle.nt_calls.specs.Steps.{NothingDue, IsAwaited}
use Rattle.nt_machine.specs.Lawful.{IsMachineSound, IsSettled, IsSteady, MarksAgreeBut, IsUnmarked}
use Rattle.nt_machine.specs.Accepts.{is_by_objects, IsRoused, IsAlertedAfter, IsFresh, Accepts}
use Rattle.nt_machine.proofs.Marking.{marks_along, marks_ended}
use Rattle.nt_machine.proofs.Walks.{get_removed, get_same, get_other}
use Rattle.nt_machine.proofs.Visiting.{state_same, len_removed}
use Rattle.nt_machine.proofs.Changing.{none_changed, same_changed}
use Rattle.nt_machine.proofs.Accepting.{IsCalm, accepted}
use Rattle.nt_machine.proofs.Replacing.{idle_served}
use Rattle.nt_calls.specs.Change.{change, may_take}
use Rattle.nt_calls.specs.Steps.{after_serving, answered}
use Rattle.std.specs.Prelude.{if◌then◌else◌}
use Rattle.nt_status.proofs.Lists.{contains_none, contains_first, contains_cases}
use Rattle.nt_machine.proofs.Standings.{standings_set, standing_free}
use Rattle.nt_machine.specs.declared.standing.Standing.TheVariants.{Free}

-- ---- one wait ends

pub ended_sound : (old : Dispatcher) (table : Waits) (t code : ℕ) (may : Bool) (w : Wait) (grants : List Grant) (leaving : List Bool) → IsMachineSound old → Some w ≡ fin.get old.table.pending t → table.pending ≡ fin.remove old.table.pending t → Agrees table.pending table.queues → grants ≡ old.grants ++ ending code t ∷ [] → MarksAgreeBut [] (record old { table = table; handing = set old.handing t may; standings = set old.standings t Free; grants = grants; leaving = leaving }) → IsMachineSound (record old { table = table; handing = set old.handing t may; standings = set old.standings t Free; grants = grants; leaving = leaving })
ended_sound old table t code may w grants leaving sound has waits agrees pushed marks =
    let longer : length grants ≡ length old.grants + 1 = ap (λ gs. length gs) pushed ∙ length-append old.grants (ending code t ∷ []) in
    let fewer = len_removed old.table.pending t w (sym has) in
    let same : fin.len table.pending ≡ fin.len (fin.remove old.table.pending t) = ap (λ m. fin.len m) waits in
    record {
      few = sound.few;
      waits = λ u v pends. sound.waits u v (get_removed old.table.pending t u v (ap (λ m. fin.get m u) (sym waits) ∙ pends)).1;
      blocks = agrees;
      hands = length-set old.handing t may ∙ sound.hands;
      standings = standings_set old.threads old.objects old.objects old.table.pending table.pending old.standings t Free (standing_free old.objects table.pending t (sound.waits t w (sym has)).runs (ap (λ m. fin.get m t) waits ∙ get_same old.table.pending t)) (λ u differs. refl) (λ u differs. ap (λ m. fin.get m u) waits ∙ get_other old.table.pending t u differs) sound.standings;
      inboxes = sound.inboxes;
      objects = sound.objects;
      own = sound.own;
      none_else = sound.none_else;
      timers = sound.timers;
      handles = sound.handles;
      marks = marks;
      places = sound.places;
      room = omega (arith, sound.room, longer, fewer, same);
    }

-- what it named may lack its mark
pub ended_unmarked : (old : Dispatcher) (table : Waits) (t : ℕ) (may : Bool) (w : Wait) (grants : List Grant) → IsMachineSound old → Some w ≡ fin.get old.table.pending t → ((h : ℕ) → queue_of table h ≡ others t (queue_of old.table h)) → MarksAgreeBut w.objects (record old { table = table; handing = set old.handing t may; standings = set old.standings t Free; grants = grants })
ended_unmarked old table t may w grants sound has queues =
    marks_ended old (record old { table = table; handing = set old.handing t may; standings = set old.standings t Free; grants = grants }) t w sound (sym has) refl refl refl queues refl (λ o. refl) (λ o. refl)

pub ended_over : (old : Dispatcher) (table : Waits) (t : ℕ) (may : Bool) (grants : List Grant) → table.pending ≡ fin.remove old.table.pending t → ((h : ℕ) → queue_of table h ≡ others t (queue_of old.table h)) → state (record old { table = table; handing = set old.handing t may; standings = set old.standings t Free; grants = grants }) ≡ wait_over (state old) t may
ended_over old table t may grants waits queues =
    state_same (state (record old { table = table; handing = set old.handing t may; standings = set old.standings t Free; grants = grants })) (wait_over (state old) t may) refl refl refl waits queues refl refl refl

-- some wait pends of whoever pends
pub pending_wait : (s : State) (t : ℕ) → pends s t ≡ true → (w : Wait) × (Some w ≡ fin.get s.waits t)
pending_wait s t has = go (fin.get s.waits t) refl has
  where
    go : (o : Option Wait) → fin.get s.waits t ≡ o → is_some o ≡ true → (w : Wait) × (Some w ≡ fin.get s.waits t)
    go None e h = absurd (false≢true h)
    go (Some w) e h = (w, sym e)

-- ---- alerts of one thread, or of none

pub one_alerted : (old new : Dispatcher) (t : ℕ) → IsAlerted (state old) t → ((u : ℕ) → IsAlerted (state old) u → u ≡ t) → state new ≡ wait_over (state old) t true → new.grants ≡ old.grants ++ ending io_completion_code t ∷ [] → new.table.looked ≡ old.table.looked → IsUnmarked new.marked → IsAlertedAfter old new
one_alerted old new t here alone over grants looked unmarked = record {
  ended = ending io_completion_code t ∷ [];
  alerts = record {
    threads = t ∷ [];
    alerted = record {
      rising = (λ y m. absurd (contains_none y m), tt);
      exactly = λ u. (λ m. member u m, λ alerted. contains_first t [] u (sym (alone u alerted)));
    };
    ends = refl;
    leaves = over;
  };
  grants = grants;
  looked = looked;
  unmarked = unmarked;
}
  where
    member : (u : ℕ) → Contains (t ∷ []) u → IsAlerted (state old) u
    member u m = elim (contains_cases t [] u m) [
      | inl same ↦ subst (λ (k : ℕ). IsAlerted (state old) k) same here
      | inr none ↦ absurd (contains_none u none)
    ]

pub none_alerted : (old : Dispatcher) → IsCalm (state old) → IsUnmarked old.marked → IsAlertedAfter old old
none_alerted old calm unmarked = record {
  ended = [];
  alerts = record {
    threads = [];
    alerted = record { rising = tt; exactly = λ t. (λ m. absurd (contains_none t m), λ a. absurd (calm t a)) };
    ends = refl;
    leaves = refl;
  };
  grants = sym (append-nil old.grants);
  looked = refl;
  unmarked = unmarked;
}

-- one thread was roused, or was not to be alerted, and no other was
pub roused_alone : (old new : Dispatcher) (t : ℕ) → IsRoused old new t → ((u : ℕ) → IsAlerted (state old) u → u ≡ t) → IsUnmarked old.marked → IsAlertedAfter old new
roused_alone old new t (inl ended) alone unmarked = one_alerted old new t ended.0 alone ended.1 ended.2 ended.3 (subst IsUnmarked (sym ended.4) unmarked)
roused_alone old new t (inr quiet) alone unmarked = subst (IsAlertedAfter old) (sym quiet.1) (none_alerted old (λ u alerted. quiet.0 (subst (IsAlerted (state old)) (alone u alerted) alerted)) unmarked)

about_none : (o : Option Wait) → option_map about_of o ≡ None → o ≡ None
about_none None e = refl
about_none (Some w) e = (cc)

pub about_some : (o : Option Wait) (a : About) → option_map about_of o ≡ Some a → (w : Wait) × (o ≡ Some w) × (w.alertable ≡ a.alertable)
about_some None a e = (cc)
about_some (Some w) a e = let same : about_of w ≡ a = (cc) in (w, refl, ap (λ (x : About). x.alertable) same)

-- who does not wait is not alerted
pub idle_here : (s : State) (t : ℕ) → None ≡ option_map about_of (fin.get s.waits t) → IsAlerted s t → ⊥
idle_here s t none alerted = let idle = about_none (fin.get s.waits t) (sym none) in waits_not alerted.0 (sym idle ∙ alerted.1)
  where
    waits_not : (v : Wait) → None ≡ Some v → ⊥
    waits_not v h = (cc)

-- whose wait is not alertable, or who has no APC, is not alerted
pub quiet_here : (s : State) (t : ℕ) (a : About) → Some a ≡ option_map about_of (fin.get s.waits t) → (a.alertable && has_apc s.apcs t) ≡ false → IsAlerted s t → ⊥
quiet_here s t a some quiet alerted =
    let own = about_some (fin.get s.waits t) a (sym some) in
    let both : Some own.0 ≡ Some alerted.0 = sym own.1 ∙ alerted.1 in
    let same : own.0 ≡ alerted.0 = some_same own.0 alerted.0 both in
    false≢true (sym quiet ∙ (ap (λ b. b && has_apc s.apcs t) (sym own.2) ∙ (ap (λ (x : Wait). x.alertable && has_apc s.apcs t) same ∙ alerted.2)))
  where
    some_same : (v w : Wait) → Some v ≡ Some w → v ≡ w
    some_same v w h = (cc)

pub alerted_here : (s : State) (t : ℕ) (a : About) → Some a ≡ option_map about_of (fin.get s.waits t) → (a.alertable && has_apc s.apcs t) ≡ true → IsAlerted s t
alerted_here s t a some test =
    let own = about_some (fin.get s.waits t) a (sym some) in
    (own.0, own.1, ap (λ b. b && has_apc s.apcs t) own.2 ∙ test)

-- ---- what is left once waits are over

pub over_pending : (s : State) (ts : List ℕ) (may : Bool) (u : ℕ) (v : Wait) → fin.get (waits_over s ts may).waits u ≡ Some v → (fin.get s.waits u ≡ Some v) × (Contains ts u → ⊥)
over_pending s [] may u v e = (e, λ m. contains_none u m)
over_pending s (t ∷ ts) may u v e =
    let rest = over_pending (wait_over s t may) ts may u v e in
    let before = get_removed s.waits t u v rest.0 in
    (before.1, λ m. apart before.0 rest.1 (contains_cases t ts u m))
  where
    apart : u ≢ t → (Contains ts u → ⊥) → (t ≡ u) ⊎ Contains ts u → ⊥
    apart differs absent (inl same) = differs (sym same)
    apart differs absent (inr later) = absent later

pub over_objects : (s : State) (ts : List ℕ) (may : Bool) → (waits_over s ts may).objects ≡ s.objects
over_objects s [] may = refl
over_objects s (t ∷ ts) may = over_objects (wait_over s t may) ts may

pub over_apcs : (s : State) (ts : List ℕ) (may : Bool) → (waits_over s ts may).apcs ≡ s.apcs
over_apcs s [] may = refl
over_apcs s (t ∷ ts) may = over_apcs (wait_over s t may) ts may

over_now : (s : State) (ts : List ℕ) (may : Bool) → (waits_over s ts may).now ≡ s.now
over_now s [] may = refl
over_now s (t ∷ ts) may = over_now (wait_over s t may) ts may

-- after alerts everything is settled that was before, but for them
pub alerted_settled : (s new : State) (grants : List Grant) → Alert s grants new → IsServed s → NothingDue s s.now → IsSettled new
alerted_settled s new grants alert served passed = subst IsSettled (sym alert.leaves) (record {
  served = λ u. unfit u (fin.get over.waits u) refl;
  alerted = λ u alerted.
      let before = over_pending s alert.threads true u alerted.0 alerted.1 in
      before.1 (((alert.alerted).exactly u).1 (alerted.0, before.0, subst (λ (qs : List (List Queued)). ((alerted.0).alertable && has_apc qs u) ≡ true) (over_apcs s alert.threads true) alerted.2));
  passed = λ v awaited. subst (λ (n : ℕ). n < v) (sym (over_now s alert.threads true)) (due v awaited);
})
  where
    over : State
    over = waits_over s alert.threads true

    unfit : (u : ℕ) (o : Option Wait) → fin.get over.waits u ≡ o → satisfied over.objects u o ≡ false
    unfit u None e = refl
    unfit u (Some w) e =
        let before = over_pending s alert.threads true u w e in
        ap (λ os. satisfied os u (Some w)) (over_objects s alert.threads true) ∙ (ap (λ o. satisfied s.objects u o) (sym before.0) ∙ served u)

    due : (v : ℕ) → IsAwaited over v → s.now < v
    due v (inl timer) = passed v (inl (timer.0, ap (λ os. due_of (object_at os timer.0)) (sym (over_objects s alert.threads true)) ∙ timer.1))
    due v (inr late) = passed v (inr (late.0, late.1, (over_pending s alert.threads true late.0 late.1 late.2).0, late.3))

no_objects : (ts : List ℕ) → filter is_by_objects (map (ending io_completion_code) ts) ≡ []
no_objects [] = refl
no_objects (t ∷ ts) = no_objects ts

-- ---- an APC is queued

pub has_pushed_other : (qs : List (List Queued)) (t u : ℕ) (q : Queued) → u ≢ t → has_apc (pushed qs t q) u ≡ has_apc qs u
has_pushed_other qs t u q differs = ap (λ (xs : List Queued). list_any (λ _. true) xs) (get_or-set_other qs t u (inbox_of qs t ++ q ∷ []) [] differs)

-- only the thread that it was queued to may have to be alerted
pub alone_pushed : (d : Dispatcher) (t : ℕ) (q : Queued) → IsCalm (state d) → (u : ℕ) → IsAlerted (state (record d { apcs = record d.apcs { queues = pushed d.apcs.queues t q } })) u → u ≡ t
alone_pushed d t q calm u alerted = elim (cases_eq u t) [
  | inl same ↦ same
  | inr differs ↦ absurd (calm u (alerted.0, alerted.1, ap (λ b. (alerted.0).alertable && b) (sym (has_pushed_other d.apcs.queues t u q differs)) ∙ alerted.2))
]

pub posted_sound : (d : Dispatcher) (t : ℕ) (q : Queued) → IsMachineSound d → IsMachineSound (record d { apcs = record d.apcs { queues = pushed d.apcs.queues t q } })
posted_sound d t q sound = record {
  few = sound.few;
  waits = sound.waits;
  blocks = sound.blocks;
  hands = sound.hands;
  standings = sound.standings;
  inboxes = length-set d.apcs.queues t (inbox_of d.apcs.queues t ++ q ∷ []) ∙ sound.inboxes;
  objects = sound.objects;
  own = sound.own;
  none_else = sound.none_else;
  timers = sound.timers;
  handles = sound.handles;
  marks = marks_along refl refl refl (λ o. refl) refl sound.marks;
  places = sound.places;
  room = sound.room;
}

pub queued_accepted : (old new : Dispatcher) (t h routine arg : ℕ) → IsFresh old → IsMachineSound new → IsAlertedAfter (record old { apcs = record old.apcs { queues = pushed old.apcs.queues h (record { apc = record { routine = routine; arg = arg; at = None }; timer = None }) } }) new → Accepts old new t (Call.Act (Act.QueueApc h routine arg)) Reply.Done
queued_accepted old new t h routine arg fresh sound after = record {
  step = record {
    numbers = [];
    served = [];
    calm = state mid;
    alerted = after.ended;
    woken = state new;
    changed = none_changed old.objects;
    serves = (refl, served);
    alerts = after.alerts;
    in_order = after.grants ∙ ap (λ gs. gs ++ after.ended) fresh.no_grants;
    answers = refl;
  };
  steady = record {
    sound = sound;
    settled = alerted_settled (state mid) (state new) after.ended after.alerts served fresh.steady.settled.passed;
    unmarked = after.unmarked;
  };
  local = record {
    numbers = [];
    changed = none_changed old.objects;
    most = let none : new.table.looked ≡ 0 = after.looked ∙ fresh.untested in omega (arith, none);
    least = subst (λ (gs : List Grant). length (filter is_by_objects gs) ≤ new.table.looked) (sym (after.grants ∙ (ap (λ gs. gs ++ after.ended) fresh.no_grants ∙ after.alerts.ends))) (rw (no_objects after.alerts.threads) (omega arith));
  };
}
  where
    mid : Dispatcher
    mid = record old { apcs = record old.apcs { queues = pushed old.apcs.queues h (record { apc = record { routine = routine; arg = arg; at = None }; timer = None }) } }

    served : IsServed (state mid)
    served = fresh.steady.settled.served

-- ---- an APC is taken

has_taken_other : (qs : List (List Queued)) (t u : ℕ) → u ≢ t → has_apc (oldest_taken qs t) u ≡ has_apc qs u
has_taken_other qs t u differs = ap (λ (xs : List Queued). list_any (λ _. true) xs) (get_or-set_other qs t u (without_oldest (inbox_of qs t)) [] differs)

taken_steady : (d : Dispatcher) (t : ℕ) → IsSteady d → fin.get d.table.pending t ≡ None → IsSteady (record d { apcs = record d.apcs { queues = oldest_taken d.apcs.queues t } })
taken_steady d t steady idle = record {
  sound = record {
    few = steady.sound.few;
    waits = steady.sound.waits;
    blocks = steady.sound.blocks;
    hands = steady.sound.hands;
    standings = steady.sound.standings;
    inboxes = length-set d.apcs.queues t (without_oldest (inbox_of d.apcs.queues t)) ∙ steady.sound.inboxes;
    objects = steady.sound.objects;
    own = steady.sound.own;
    none_else = steady.sound.none_else;
    timers = steady.sound.timers;
    handles = steady.sound.handles;
    marks = marks_along refl refl refl (λ o. refl) refl steady.sound.marks;
    places = steady.sound.places;
    room = steady.sound.room;
  };
  settled = record {
    served = steady.settled.served;
    alerted = λ u alerted. elim (cases_eq u t) [
      | inl same ↦ waits_not alerted.0 (sym idle ∙ (ap (λ (k : ℕ). fin.get d.table.pending k) (sym same) ∙ alerted.1))
      | inr differs ↦ steady.settled.alerted u (alerted.0, alerted.1, ap (λ b. (alerted.0).alertable && b) (sym (has_taken_other d.apcs.queues t u differs)) ∙ alerted.2)
    ];
    passed = steady.settled.passed;
  };
  unmarked = steady.unmarked;
}
  where
    waits_not : (v : Wait) → None ≡ Some v → ⊥
    waits_not v h = (cc)

-- a call that changes no object and no wait
quiet_accepted : (old new : Dispatcher) (t : ℕ) (call : Call) (reply : Reply) → IsFresh old → new.grants ≡ old.grants → new.table.looked ≡ old.table.looked → new.objects ≡ old.objects → state new ≡ change (state old) t call → state new ≡ after_serving call (state new) → IsSteady new → (reply, state new) ≡ answered (state old) (state new) t call → Accepts old new t call reply
quiet_accepted old new t call reply fresh grants looked objects is after steady answers =
    accepted old new new t call reply
    (idle_served old (change (state old) t call) new [] fresh (same_changed old.objects (change (state old) t call).objects (ap (λ (s : State). s.objects) (sym is) ∙ objects)) grants looked is steady)
    after refl refl steady answers

pub taken_accepted : (old : Dispatcher) (t : ℕ) → IsFresh old → fin.get old.table.pending t ≡ None → may_take (state old) t ≡ true → Accepts old (record old { apcs = record old.apcs { queues = oldest_taken old.apcs.queues t } }) t (Call.Act Act.NextApc) (Reply.Apc (apc_of (oldest (inbox_of old.apcs.queues t))))
taken_accepted old t fresh idle may =
    quiet_accepted old (record old { apcs = record old.apcs { queues = oldest_taken old.apcs.queues t } }) t (Call.Act Act.NextApc) (Reply.Apc (apc_of (oldest (inbox_of old.apcs.queues t)))) fresh refl refl refl
    (sym (rw may refl)) refl (taken_steady old t fresh.steady idle)
    (λ i. (Reply.Apc (if sym may i then apc_of (oldest (inbox_of old.apcs.queues t)) else None), state (record old { apcs = record old.apcs { queues = oldest_taken old.apcs.queues t } })))

pub untaken_accepted : (old : Dispatcher) (t : ℕ) → IsFresh old → may_take (state old) t ≡ false → IsSteady (record old { handing = set old.handing t false }) → Accepts old (record old { handing = set old.handing t false }) t (Call.Act Act.NextApc) (Reply.Apc None)
untaken_accepted old t fresh may steady =
    quiet_accepted old (record old { handing = set old.handing t false }) t (Call.Act Act.NextApc) (Reply.Apc None) fresh refl refl refl
    (sym (rw may refl)) refl steady
    (λ i. (Reply.Apc (if sym may i then apc_of (oldest (inbox_of old.apcs.queues t)) else None), state (record old { handing = set old.handing t false })))
