-- Numbers that are given again leave a dispatcher lawful.
use Rattle.std.proofs.Common.{◌≡◌, ◌≢◌, ℕ, zero, suc, ◌<◌, ◌≤◌, ◌==◌, Bool, true, false, not, ◌&&◌, ◌||◌, List, [], ◌∷◌, length, set, refl, sym, ap, ◌∙◌, subst, arith, Option, Some, None, inl, inr, ◌⊎◌, Contains}
use Rattle.std.specs.Prelude.{nat_lt, nat_le, is_none, if◌then◌else◌}
use Rattle.nt_status.specs.Flags.{only_known, has_flag, event_bits, mutex_bits, timer_bits, mutex_initial_owner}
use Rattle.nt_status.specs.declared.refusal.Refusal.{Refusal}
use Rattle.nt_status.specs.declared.refusal.Refusal.TheVariants.{AccessDenied, InvalidHandle, InvalidParameter}
use Rattle.nt_status.specs.Access.{access_bits}
use Rattle.nt_apc.specs.Queues.{Apcs, KeepsPlaces, apc_queue_of, place_of, has_from, has_apc, is_queued}
use Rattle.nt_apc.specs.declared.apc.Queued.{Queued}
use Rattle.nt_calls.specs.declared.call.Call.{Call}
use Rattle.nt_calls.specs.declared.call.Act.{Act}
use Rattle.std.proofs.lemmas.Bool.{cases_eq, false≢true}
use Rattle.std.proofs.lemmas.Bool.Decides.{nat_tests}
use Rattle.std.proofs.lemmas.List.{length-set, append-nil}
use Rattle.nt_status.proofs.Lists.{contains_none}
use Rattle.nt_tables.specs.declared.handles.Opened.{Opened}
use Rattle.nt_objects.specs.declared.object.Object.{Object}
use Rattle.nt_objects.specs.declared.object.Object.TheVariants.{Event, Semaphore, Mutex, Timer, Thread, Gone}
use Rattle.nt_tables.specs.Handles.{opened_at, count_named}
use Rattle.nt_objects.specs.Object.{is_gone, is_thread, has_ended, due_of, setter_of, IsLawfulObject, owned_by, has_room, event_of, mutex_of, timer_of, may_count, full_access}
use Rattle.nt_tables.proofs.Counting.{weight, counted_again}
use Rattle.nt_calls.specs.Naming.{object_in, access_in, lacks}
use Rattle.nt_calls.specs.Refusals.{Cause, first_of_causes, refusal}
use Rattle.nt_calls.specs.Serving.{is_due, sequence}
use Rattle.nt_calls.specs.State.{State, object_at}
use Rattle.nt_calls.specs.Living.{is_opened, is_awaited, runs, is_kept, lives, is_forgotten, LivesWhileKept}
use Rattle.nt_machine.specs.Dispatcher.{Dispatcher, state}
use Rattle.nt_machine.specs.Lawful.{IsMachineSound, IsSteady, HandlesAgree}
use Rattle.nt_core.specs.Renewals.{with_again, is_closed, is_vacant, is_left, creation, created_by, or_else, with_caller, creation_refusal, thread_refusal, duplicate_refusal}
use Rattle.nt_machine.specs.Accepts.{IsFreeToCall}
use Rattle.nt_machine.proofs.Replacing.{mutex_undue, mutex_no_thread, mutex_lives}
use Rattle.nt_machine.proofs.Changing.{object_at-set_same, object_at-set_other, reading_set, property_set, fit_only_in, changed_at_one, due_kept, unset_undue}
use Rattle.nt_machine.proofs.Keeping.{no_thread_idle}
use Rattle.nt_machine.proofs.Lives.{not_gone, below_both, counted_opened}
use Rattle.nt_machine.proofs.Remaining.{both, turned}
use Rattle.std.specs.FinMap as fin
use Rattle.nt_waits.specs.declared.wait.Wait.{Wait}
use Rattle.nt_machine.proofs.Standings.{standings_kept, standings_set, standing_free}
use Rattle.nt_machine.specs.declared.standing.Standing.TheVariants.{Free}
use Rattle.nt_machine.specs.declared.standing.Standing.{Standing}
use Rattle.nt_machine.specs.Lawful.{StandingsAgree}

-- ---- what an object that is gone is

gone_undue : (o : Object) → is_gone o ≡ true → due_of o ≡ None
gone_undue (Event manual was) is = refl
gone_undue (Semaphore count maximum) is = refl
gone_undue (Mutex owner depth abandoned) is = refl
gone_undue (Timer manual was armed) is = absurd (false≢true is)
gone_undue (Thread ended) is = refl
gone_undue Gone is = refl

-- what is not gone has another number
apart : (os : List Object) (o k : ℕ) → is_gone (object_at os o) ≡ true → is_gone (object_at os k) ≡ false → k ≢ o
apart os o k gone there same = false≢true (sym there ∙ (ap (λ i. is_gone (object_at os i)) same ∙ gone))

-- ---- a handle is opened again

-- a handle of the new table is one of the old, or the one that was opened
opened_set : (hs : List (Option Opened)) (h : ℕ) (new opened : Opened) (k : ℕ) → opened_at (set hs h (Some new)) k ≡ Some opened → (opened_at hs k ≡ Some opened) ⊎ (new.object ≡ opened.object)
opened_set [] h new opened k is = inl is
opened_set (x ∷ hs) zero new opened zero is = inr (ap object_in is)
opened_set (x ∷ hs) zero new opened (suc k) is = inl is
opened_set (x ∷ hs) (suc h) new opened zero is = inl is
opened_set (x ∷ hs) (suc h) new opened (suc k) is = opened_set hs h new opened k is

opened_here : (hs : List (Option Opened)) (h : ℕ) (new : Opened) → h < length hs → opened_at (set hs h (Some new)) h ≡ Some new
opened_here [] h new there = absurd (omega (arith, there))
opened_here (x ∷ hs) zero new there = refl
opened_here (x ∷ hs) (suc h) new there = opened_here hs h new (omega (arith, there))

handles_again : (n m : ℕ) (hs : List (Option Opened)) (h : ℕ) (new : Opened) → m ≡ n → new.object < n → HandlesAgree n hs → HandlesAgree m (set hs h (Some new))
handles_again n m hs h new same known agree =
    let long = length-set hs h (Some new) in
    let few = agree.few in
    let enough = agree.enough in
    record {
      few = omega (arith, long, few);
      enough = omega (arith, long, enough, same);
      named = λ k opened is. elim (opened_set hs h new opened k is) [
        | inl before ↦ let below = agree.named k opened before in omega (arith, below, same)
        | inr here ↦ let there : opened.object < n = subst (λ (i : ℕ). i < n) here known in omega (arith, there, same)
      ];
    }

-- the others are named as often as before
counted_others : (hs : List (Option Opened)) (h : ℕ) (new : Opened) (k : ℕ) → h < length hs → opened_at hs h ≡ None → k ≢ new.object → count_named (set hs h (Some new)) k ≡ count_named hs k
counted_others hs h new k there closed differs =
    let all = counted_again hs h new k there closed in
    let none = nothing (new.object == k) refl in
    omega (arith, all, none)
  where
    nothing : (b : Bool) → (new.object == k) ≡ b → weight b ≡ 0
    nothing false e = refl
    nothing true e = let same : new.object ≡ k = grind (arith, nat_tests, e) in absurd (differs (sym same))

-- ---- a number is given again

-- the number o may be given to this object, and the number h to its handle; the hands of its threads stay as many, and it is known which may call
pub record MayRenew (d : Dispatcher) (o h : ℕ) (x : Object) (handing : List Bool) (standings : List Standing) : Type 0 where
  pub there : o < length d.objects
  pub gone : is_gone (object_at d.objects o) ≡ true
  pub known : h < length d.handles
  pub closed : opened_at d.handles h ≡ None
  pub lawful : IsLawfulObject x
  pub living : is_gone x ≡ false
  pub undue : due_of x ≡ None
  pub kind : is_thread x ≡ nat_lt o d.threads
  pub hands : length handing ≡ d.threads
  pub stands : StandingsAgree d.threads (set d.objects o x) d.table.pending standings

same_due : (d : Dispatcher) (o h : ℕ) (x : Object) (handing : List Bool) (standings : List Standing) → MayRenew d o h x handing standings → due_of x ≡ due_of (object_at d.objects o)
same_due d o h x handing standings may = may.undue ∙ sym (gone_undue (object_at d.objects o) may.gone)

same_setter : (d : Dispatcher) (o h : ℕ) (x : Object) (handing : List Bool) (standings : List Standing) → MayRenew d o h x handing standings → setter_of x ≡ setter_of (object_at d.objects o)
same_setter d o h x handing standings may = unset_undue x may.undue ∙ sym (unset_undue (object_at d.objects o) (gone_undue (object_at d.objects o) may.gone))

-- each object lives exactly while it is kept, the new one too
pub living_again : (d : Dispatcher) (o h : ℕ) (x : Object) (handing : List Bool) (standings : List Standing) (owned : List (List ℕ)) → LivesWhileKept (state d) → MayRenew d o h x handing standings → LivesWhileKept (state (with_again d o h x handing standings owned))
living_again d o h x handing standings owned living may k = elim (cases_eq k o) [
  | inl same ↦ subst (λ (i : ℕ). lives (state new) i ≡ is_kept (state new) i) (sym same) (lives_here ∙ sym kept_here)
  | inr differs ↦ lives_other differs ∙ (living k ∙ sym (kept_other differs))
]
  where
    new : Dispatcher
    new = with_again d o h x handing standings owned

    handle : Opened
    handle = record { object = o; access = full_access x }

    lives_here : lives (state new) o ≡ true
    lives_here = below_both (state new) o (let long = length-set d.objects o x in let there = may.there in omega (arith, long, there)) (ap is_gone (object_at-set_same d.objects o x may.there) ∙ may.living)

    kept_here : is_kept (state new) o ≡ true
    kept_here = ap (λ b. b || (is_awaited (state new) o || runs (state new) o)) (counted_opened (set d.handles h (Some handle)) h handle (opened_here d.handles h handle may.known))

    lives_other : k ≢ o → lives (state new) k ≡ lives (state d) k
    lives_other differs =
        ap (λ n. nat_lt k n && not (is_gone (object_at (set d.objects o x) k))) (length-set d.objects o x)
        ∙ ap (λ y. nat_lt k (length d.objects) && not (is_gone y)) (object_at-set_other d.objects o k x differs)

    kept_other : k ≢ o → is_kept (state new) k ≡ is_kept (state d) k
    kept_other differs =
        ap (λ c. nat_lt 0 c || (is_awaited (state d) k || runs (state new) k)) (counted_others d.handles h handle k may.known may.closed differs)
        ∙ ap (λ y. is_opened (state d) k || (is_awaited (state d) k || (nat_lt k d.threads && not (has_ended y)))) (object_at-set_other d.objects o k x differs)

-- what lives exactly while it is kept is never forgotten
pub never_forgotten : (s : State) (o : ℕ) → LivesWhileKept s → is_forgotten s o ≡ true → ⊥
never_forgotten s o living is =
    let two = both (lives s o) (not (is_kept s o)) is in
    false≢true (sym (turned (is_kept s o) two.1) ∙ (sym (living o) ∙ two.0))

pub sound_again : (d : Dispatcher) (o h : ℕ) (x : Object) (handing : List Bool) (standings : List Standing) (owned : List (List ℕ)) → IsMachineSound d → LivesWhileKept (state d) → MayRenew d o h x handing standings → IsMachineSound (with_again d o h x handing standings owned)
sound_again d o h x handing standings owned sound living may = record {
  few = sound.few;
  waits = λ t w pends.
      let own = sound.waits t w pends in
      record {
        known = own.known;
        runs = ap has_ended (other t (not_gone (object_at d.objects t) own.runs)) ∙ own.runs;
        few = own.few;
        apart = own.apart;
        named = λ k names. (longer k (own.named k names).0, ap (λ y. owned_by y t && not (has_room y)) (other k (own.living k names)) ∙ (own.named k names).1);
        living = λ k names. ap is_gone (other k (own.living k names)) ∙ own.living k names;
      };
  blocks = sound.blocks;
  hands = may.hands;
  standings = may.stands;
  inboxes = sound.inboxes;
  objects = property_set IsLawfulObject d.objects o x may.lawful sound.objects;
  own = λ t below. (longer t (sound.own t below).0, own_thread t below);
  none_else = no_thread;
  timers = record {
    count = sound.timers.count ∙ sym (length-set d.objects o x);
    alarm = λ k. sound.timers.alarm k ∙ sym (reading_set due_of d.objects o x (same_due d o h x handing standings may) k);
    placed = λ k t is. sound.timers.placed k t (sym (reading_set setter_of d.objects o x (same_setter d o h x handing standings may) k) ∙ is);
    known = λ k t at. longer k (sound.timers.known k t at);
    runs = λ k t is.
        let own = sound.timers.runs k t (sym (reading_set setter_of d.objects o x (same_setter d o h x handing standings may) k) ∙ is) in
        (own.0, ap has_ended (other t (not_gone (object_at d.objects t) own.1)) ∙ own.1);
  };
  handles = handles_again (length d.objects) (length (set d.objects o x)) d.handles h handle (length-set d.objects o x) may.there sound.handles;
  marks = record {
    living = λ k opened is. elim (opened_set d.handles h handle opened k is) [
      | inl before ↦ ap is_gone (other opened.object (sound.marks.living k opened before)) ∙ sound.marks.living k opened before
      | inr here ↦ ap (λ (i : ℕ). is_gone (object_at (set d.objects o x) i)) (sym here) ∙ (ap is_gone (object_at-set_same d.objects o x may.there) ∙ may.living)
    ];
    count = sound.marks.count ∙ sym (length-set d.objects o x);
    marked = λ k is. absurd (never_forgotten (state new) k (living_again d o h x handing standings owned living may) is);
    known = λ k m. absurd (contains_none k m);
  };
  places = record { changed = sound.places.changed ∙ sym (length-set d.objects o x); alerted = sound.places.alerted };
  room = sound.room;
}
  where
    new : Dispatcher
    new = with_again d o h x handing standings owned

    handle : Opened
    handle = record { object = o; access = full_access x }

    longer : (k : ℕ) → k < length d.objects → k < length (set d.objects o x)
    longer k below = subst (λ (n : ℕ). k < n) (sym (length-set d.objects o x)) below

    other : (k : ℕ) → is_gone (object_at d.objects k) ≡ false → object_at (set d.objects o x) k ≡ object_at d.objects k
    other k there = object_at-set_other d.objects o k x (apart d.objects o k may.gone there)

    own_thread : (t : ℕ) → t < d.threads → (is_thread (object_at (set d.objects o x) t) ≡ true) ⊎ (is_gone (object_at (set d.objects o x) t) ≡ true)
    own_thread t below = elim (cases_eq t o) [
      | inl same ↦
          let less : o < d.threads = subst (λ (i : ℕ). i < d.threads) same below in
          let is : nat_lt o d.threads ≡ true = grind (arith, nat_tests, less) in
          inl (ap (λ (i : ℕ). is_thread (object_at (set d.objects o x) i)) same ∙ (ap is_thread (object_at-set_same d.objects o x may.there) ∙ (may.kind ∙ is)))
      | inr differs ↦ subst (λ (y : Object). (is_thread y ≡ true) ⊎ (is_gone y ≡ true)) (sym (object_at-set_other d.objects o t x differs)) (sound.own t below).1
    ]

    no_thread : (k : ℕ) → d.threads ≤ k → k < length (set d.objects o x) → (is_thread (object_at (set d.objects o x) k) && not (has_ended (object_at (set d.objects o x) k))) ≡ false
    no_thread k beyond known = elim (cases_eq k o) [
      | inl same ↦
          let more : d.threads ≤ o = subst (λ (i : ℕ). d.threads ≤ i) same beyond in
          let is : nat_lt o d.threads ≡ false = grind (arith, nat_tests, more) in
          no_thread_idle (object_at (set d.objects o x) k) (ap (λ (i : ℕ). is_thread (object_at (set d.objects o x) i)) same ∙ (ap is_thread (object_at-set_same d.objects o x may.there) ∙ (may.kind ∙ is)))
      | inr differs ↦ ap (λ (y : Object). is_thread y && not (has_ended y)) (object_at-set_other d.objects o k x differs) ∙ sound.none_else k beyond (subst (λ (n : ℕ). k < n) (length-set d.objects o x) known)
    ]

pub steady_again : (d : Dispatcher) (o h : ℕ) (x : Object) (handing : List Bool) (standings : List Standing) (owned : List (List ℕ)) → IsSteady d → LivesWhileKept (state d) → MayRenew d o h x handing standings → IsSteady (with_again d o h x handing standings owned)
steady_again d o h x handing standings owned steady living may = record {
  sound = sound_again d o h x handing standings owned steady.sound living may;
  settled = record {
    served = λ t. unserved t (is_due (state new) t) refl;
    alerted = steady.settled.alerted;
    passed = due_kept (state d) (state new) d.now (λ k. inl (reading_set due_of d.objects o x (same_due d o h x handing standings may) k)) refl steady.settled.passed;
  };
  unmarked = steady.unmarked;
}
  where
    new : Dispatcher
    new = with_again d o h x handing standings owned

    -- nobody waits for what is gone
    nobody : (t : ℕ) → Contains (sequence (state d) (o ∷ [])) t → ⊥
    nobody t member =
        let named = steady.sound.blocks.named t o (subst (λ (ts : List ℕ). Contains ts t) (append-nil ((state d).queues o)) member) in
        let own = steady.sound.waits t named.0 named.1 in
        false≢true (sym (own.living o named.2) ∙ may.gone)

    unserved : (t : ℕ) (b : Bool) → is_due (state new) t ≡ b → b ≡ false
    unserved t false is = refl
    unserved t true is = absurd (nobody t (fit_only_in (o ∷ []) d (set d.objects o x) steady.sound steady.settled.served (changed_at_one d.objects o x) t is))

-- ---- a handle is opened again, for an object that lives

pub record MayOpen (d : Dispatcher) (h source : ℕ) (opened : Opened) : Type 0 where
  pub there : opened_at d.handles source ≡ Some opened
  pub known : h < length d.handles
  pub closed : opened_at d.handles h ≡ None

abbrev pub with_opened : Dispatcher → ℕ → Opened → ℕ → Dispatcher
with_opened d h opened access = record d { handles = set d.handles h (Some (record { object = opened.object; access = access })) }

pub living_opened : (d : Dispatcher) (h source access : ℕ) (opened : Opened) → IsMachineSound d → LivesWhileKept (state d) → MayOpen d h source opened → LivesWhileKept (state (with_opened d h opened access))
living_opened d h source access opened sound living may k = elim (cases_eq k opened.object) [
  | inl same ↦ subst (λ (i : ℕ). lives (state new) i ≡ is_kept (state new) i) (sym same) (lives_here ∙ sym kept_here)
  | inr differs ↦ living k ∙ sym (kept_other differs)
]
  where
    new : Dispatcher
    new = with_opened d h opened access

    handle : Opened
    handle = record { object = opened.object; access = access }

    lives_here : lives (state new) opened.object ≡ true
    lives_here = below_both (state new) opened.object (sound.handles.named source opened may.there) (sound.marks.living source opened may.there)

    kept_here : is_kept (state new) opened.object ≡ true
    kept_here = ap (λ b. b || (is_awaited (state new) opened.object || runs (state new) opened.object)) (counted_opened (set d.handles h (Some handle)) h handle (opened_here d.handles h handle may.known))

    kept_other : k ≢ opened.object → is_kept (state new) k ≡ is_kept (state d) k
    kept_other differs = ap (λ c. nat_lt 0 c || (is_awaited (state d) k || runs (state d) k)) (counted_others d.handles h handle k may.known may.closed differs)

pub steady_opened : (d : Dispatcher) (h source access : ℕ) (opened : Opened) → IsSteady d → LivesWhileKept (state d) → MayOpen d h source opened → IsSteady (with_opened d h opened access)
steady_opened d h source access opened steady living may = record {
  sound = record {
    few = sound.few;
    waits = sound.waits;
    blocks = sound.blocks;
    hands = sound.hands;
    standings = sound.standings;
    inboxes = sound.inboxes;
    objects = sound.objects;
    own = sound.own;
    none_else = sound.none_else;
    timers = sound.timers;
    handles = handles_again (length d.objects) (length d.objects) d.handles h handle refl (sound.handles.named source opened may.there) sound.handles;
    marks = record {
      living = λ k named is. elim (opened_set d.handles h handle named k is) [
        | inl before ↦ sound.marks.living k named before
        | inr here ↦ ap (λ (i : ℕ). is_gone (object_at d.objects i)) (sym here) ∙ sound.marks.living source opened may.there
      ];
      count = sound.marks.count;
      marked = λ k is. absurd (never_forgotten (state (with_opened d h opened access)) k (living_opened d h source access opened sound living may) is);
      known = λ k m. absurd (contains_none k m);
    };
    places = sound.places;
    room = sound.room;
  };
  settled = record { served = steady.settled.served; alerted = steady.settled.alerted; passed = steady.settled.passed };
  unmarked = steady.unmarked;
}
  where
    sound : IsMachineSound d
    sound = steady.sound

    handle : Opened
    handle = record { object = opened.object; access = access }

-- ---- what is asked before

-- a timer that has no place has no queued APC
pub not_queued : (apcs : Apcs) (timer : ℕ) → KeepsPlaces apcs → place_of apcs.places timer ≡ None → is_queued apcs.queues timer ≡ false
not_queued apcs timer keeps none = go apcs.queues (λ t. nothing t (has_from timer (apc_queue_of apcs.queues t)) refl)
  where
    no_place : {P : Type 0} (t : ℕ) → None ≡ Some t → P
    no_place t h = (cc)

    nothing : (t : ℕ) (b : Bool) → has_from timer (apc_queue_of apcs.queues t) ≡ b → has_from timer (apc_queue_of apcs.queues t) ≡ false
    nothing t false e = e
    nothing t true e = no_place t (sym none ∙ keeps.at_place t timer e)

    go : (queues : List (List Queued)) → ((t : ℕ) → has_from timer (apc_queue_of queues t) ≡ false) → is_queued queues timer ≡ false
    go [] each = refl
    go (q ∷ queues) each =
        let here : has_from timer q ≡ false = each zero in
        let rest = go queues (λ t. each (suc t)) in
        rw (here, rest) refl

-- what a creation makes
pub record IsNew (t : ℕ) (x : Object) : Type 0 where
  pub living : is_gone x ≡ false
  pub undue : due_of x ≡ None
  pub no_thread : is_thread x ≡ false
  pub owner : (u : ℕ) → owned_by x u ≡ true → u ≡ t

new_event : (t flags : ℕ) → IsNew t (event_of flags)
new_event t flags = record { living = refl; undue = refl; no_thread = refl; owner = λ u owns. absurd (false≢true owns) }

new_timer : (t flags : ℕ) → IsNew t (timer_of flags)
new_timer t flags = record { living = refl; undue = refl; no_thread = refl; owner = λ u owns. absurd (false≢true owns) }

new_mutex : (t flags : ℕ) → IsNew t (mutex_of flags t)
new_mutex t flags = record { living = mutex_lives flags t; undue = mutex_undue flags t; no_thread = mutex_no_thread flags t; owner = λ u owns. go u (has_flag flags mutex_initial_owner) owns }
  where
    go : (u : ℕ) (b : Bool) → owned_by (if b then Mutex (Some t) 1 false else Mutex None 0 false) u ≡ true → u ≡ t
    go u true owns = let same : (t == u) ≡ true = owns in grind (arith, nat_tests, same)
    go u false owns = absurd (false≢true owns)

made_as : (b : Bool) (o x : Object) → (if b then Some o else None) ≡ Some x → o ≡ x
made_as true o x is = ap created_by is
made_as false o x is = none_some x is
  where
    none_some : {P : Type 0} (x : Object) → None ≡ Some x → P
    none_some x h = (cc)

none_made : {P : Type 0} (x : Object) → None ≡ Some x → P
none_made x h = (cc)

pub creation_new : (t : ℕ) (act : Act) (x : Object) → creation t act ≡ Some x → IsNew t x
creation_new t (Act.CreateEvent flags) x is = subst (λ (o : Object). IsNew t o) (made_as (only_known event_bits flags) (event_of flags) x is) (new_event t flags)
creation_new t (Act.CreateSemaphore initial maximum) x is = subst (λ (o : Object). IsNew t o) (made_as (may_count initial maximum) (Semaphore initial maximum) x is) (record { living = refl; undue = refl; no_thread = refl; owner = λ u owns. absurd (false≢true owns) })
creation_new t (Act.CreateMutex flags) x is = subst (λ (o : Object). IsNew t o) (made_as (only_known mutex_bits flags) (mutex_of flags t) x is) (new_mutex t flags)
creation_new t (Act.CreateTimer flags) x is = subst (λ (o : Object). IsNew t o) (made_as (only_known timer_bits flags) (timer_of flags) x is) (new_timer t flags)
creation_new t act x is = none_made x is

is_none_of : (o : Option Opened) → is_none o ≡ true → o ≡ None
is_none_of None is = refl
is_none_of (Some opened) is = absurd (false≢true is)

pub closed_parts : (s : State) (h : ℕ) → is_closed s h ≡ true → (h < length s.handles) × (opened_at s.handles h ≡ None)
closed_parts s h is =
    let two = both (nat_lt h (length s.handles)) (is_none (opened_at s.handles h)) is in
    (let test = two.0 in grind (arith, nat_tests, test), is_none_of (opened_at s.handles h) two.1)

-- what makes a creation may be given the numbers
pub may_renew : (d : Dispatcher) (t : ℕ) (act : Act) (o h : ℕ) (x : Object) → (is_vacant (state d) o && is_closed (state d) h) ≡ true → creation t act ≡ Some x → IsLawfulObject x → IsMachineSound d → MayRenew d o h x d.handing d.standings
may_renew d t act o h x free made lawful sound =
    let two = both (is_vacant (state d) o) (is_closed (state d) h) free in
    let closed = closed_parts (state d) h two.1 in
    let kept = both (nat_le d.threads o) (nat_lt o (length d.objects) && (is_gone (object_at d.objects o) && not (is_queued d.apcs.queues o))) two.0 in
    let there = both (nat_lt o (length d.objects)) (is_gone (object_at d.objects o) && not (is_queued d.apcs.queues o)) kept.1 in
    let gone = both (is_gone (object_at d.objects o)) (not (is_queued d.apcs.queues o)) there.1 in
    let new = creation_new t act x made in
    record {
      there = let test = there.0 in grind (arith, nat_tests, test);
      gone = gone.0;
      known = closed.0;
      closed = closed.1;
      lawful = lawful;
      living = new.living;
      undue = new.undue;
      kind = new.no_thread ∙ (let test = kept.0 in grind (arith, nat_tests, test));
      hands = sound.hands;
      stands = standings_kept d.threads d.objects (set d.objects o x) d.table.pending d.standings (λ u below. ap has_ended (object_at-set_other d.objects o u x (λ same. let test = kept.0 in grind (arith, nat_tests, test, below, same)))) sound.standings;
    }

-- a thread may begin again
pub may_begin_again : (d : Dispatcher) (t h : ℕ) → IsMachineSound d → (is_left (state d) t && is_closed (state d) h) ≡ true → MayRenew d t h (Thread false) (set d.handing t false) (set d.standings t Free)
may_begin_again d t h sound free =
    let two = both (is_left (state d) t) (is_closed (state d) h) free in
    let closed = closed_parts (state d) h two.1 in
    let kept = both (nat_lt t d.threads) (is_gone (object_at d.objects t) && not (has_apc d.apcs.queues t)) two.0 in
    let gone = both (is_gone (object_at d.objects t)) (not (has_apc d.apcs.queues t)) kept.1 in
    let below : t < d.threads = let test = kept.0 in grind (arith, nat_tests, test) in
    record {
      there = (sound.own t below).0;
      gone = gone.0;
      known = closed.0;
      closed = closed.1;
      lawful = tt;
      living = refl;
      undue = refl;
      kind = sym kept.0;
      hands = length-set d.handing t false ∙ sound.hands;
      stands = standings_set d.threads d.objects (set d.objects t (Thread false)) d.table.pending d.table.pending d.standings t Free
          (standing_free (set d.objects t (Thread false)) d.table.pending t (ap has_ended (object_at-set_same d.objects t (Thread false) (sound.own t below).0)) (idle gone.0 (fin.get d.table.pending t) refl))
          (λ u differs. ap has_ended (object_at-set_other d.objects t u (Thread false) differs))
          (λ u differs. refl)
          sound.standings;
    }
  where
    -- whoever is gone does not wait
    idle : is_gone (object_at d.objects t) ≡ true → (o : Option Wait) → fin.get d.table.pending t ≡ o → o ≡ None
    idle gone None is = refl
    idle gone (Some w) is = absurd (false≢true (sym (not_gone (object_at d.objects t) (sound.waits t w is).runs) ∙ gone))

-- ---- what is answered

-- every call of the thread is refused
pub barred : (s : State) (who : ℕ) (causes : List Cause) (cause : Refusal) → refusal s who false Call.Exit ≡ Some cause → with_caller s who causes ≡ Some cause
barred s who causes cause is = ap (λ r. or_else r (first_of_causes causes)) is

-- no cause that lies in the caller refuses it
pub unbarred : (s : State) (who : ℕ) (causes : List Cause) → IsFreeToCall s who → with_caller s who causes ≡ first_of_causes causes
unbarred s who causes free = ap (λ r. or_else r (first_of_causes causes)) (free false Call.Exit)

pub uncreated : (s : State) (who : ℕ) (act : Act) (o h : ℕ) → IsFreeToCall s who → creation who act ≡ None → creation_refusal s who act o h ≡ Some InvalidParameter
uncreated s who act o h free none =
    unbarred s who ((is_none (creation who act), InvalidParameter) ∷ (not (is_vacant s o && is_closed s h), InvalidHandle) ∷ []) free
    ∙ ap (λ made. first_of_causes ((is_none made, InvalidParameter) ∷ (not (is_vacant s o && is_closed s h), InvalidHandle) ∷ [])) none

pub created_where : (s : State) (who : ℕ) (act : Act) (o h : ℕ) (x : Object) (b : Bool) → IsFreeToCall s who → creation who act ≡ Some x → (is_vacant s o && is_closed s h) ≡ b → creation_refusal s who act o h ≡ (if b then None else Some InvalidHandle)
created_where s who act o h x b free made is =
    unbarred s who ((is_none (creation who act), InvalidParameter) ∷ (not (is_vacant s o && is_closed s h), InvalidHandle) ∷ []) free
    ∙ (ap (λ (m : Option Object). first_of_causes ((is_none m, InvalidParameter) ∷ (not (is_vacant s o && is_closed s h), InvalidHandle) ∷ [])) made
    ∙ (ap (λ c. first_of_causes ((not c, InvalidHandle) ∷ [])) is ∙ go b))
  where
    go : (c : Bool) → first_of_causes ((not c, InvalidHandle) ∷ []) ≡ (if c then None else Some InvalidHandle)
    go true = refl
    go false = refl

pub begun_where : (s : State) (t h : ℕ) (b : Bool) → (is_left s t && is_closed s h) ≡ b → thread_refusal s t h ≡ (if b then None else Some InvalidHandle)
begun_where s t h b is = ap (λ c. first_of_causes ((not c, InvalidHandle) ∷ [])) is ∙ go b
  where
    go : (c : Bool) → first_of_causes ((not c, InvalidHandle) ∷ []) ≡ (if c then None else Some InvalidHandle)
    go true = refl
    go false = refl

pub creation_barred : (s : State) (who : ℕ) (act : Act) (o h : ℕ) (cause : Refusal) → refusal s who false Call.Exit ≡ Some cause → creation_refusal s who act o h ≡ Some cause
creation_barred s who act o h cause is = barred s who ((is_none (creation who act), InvalidParameter) ∷ (not (is_vacant s o && is_closed s h), InvalidHandle) ∷ []) cause is

pub duplicate_barred : (s : State) (who source access h : ℕ) (cause : Refusal) → refusal s who false Call.Exit ≡ Some cause → duplicate_refusal s who source access h ≡ Some cause
duplicate_barred s who source access h cause is =
    barred s who ((is_none (opened_at s.handles source), InvalidHandle) ∷ (lacks access s.handles source || not (only_known access_bits access), AccessDenied) ∷ (not (is_closed s h), InvalidHandle) ∷ []) cause is

-- a duplicate is refused by the first of its own causes
pub duplicated_where : (s : State) (who source access h : ℕ) (a b c : Bool) → IsFreeToCall s who → is_none (opened_at s.handles source) ≡ a → (lacks access s.handles source || not (only_known access_bits access)) ≡ b → is_closed s h ≡ c → duplicate_refusal s who source access h ≡ first_of_causes ((a, InvalidHandle) ∷ (b, AccessDenied) ∷ (not c, InvalidHandle) ∷ [])
duplicated_where s who source access h a b c free p q r =
    unbarred s who ((is_none (opened_at s.handles source), InvalidHandle) ∷ (lacks access s.handles source || not (only_known access_bits access), AccessDenied) ∷ (not (is_closed s h), InvalidHandle) ∷ []) free
    ∙ (ap (λ x. first_of_causes ((x, InvalidHandle) ∷ (lacks access s.handles source || not (only_known access_bits access), AccessDenied) ∷ (not (is_closed s h), InvalidHandle) ∷ [])) p
    ∙ (ap (λ x. first_of_causes ((a, InvalidHandle) ∷ (x, AccessDenied) ∷ (not (is_closed s h), InvalidHandle) ∷ [])) q
    ∙ ap (λ x. first_of_causes ((a, InvalidHandle) ∷ (b, AccessDenied) ∷ (not x, InvalidHandle) ∷ [])) r))

pub or_true : (b : Bool) → (b || true) ≡ true
or_true true = refl
or_true false = refl

-- what the rights of a handle lack
pub lacks_none : (s : State) (source access : ℕ) (opened : Opened) (b : Bool) → opened_at s.handles source ≡ Some opened → has_flag opened.access access ≡ b → lacks access s.handles source ≡ not b
lacks_none s source access opened b there is = ap (λ o. not (has_flag (access_in o) access)) there ∙ ap (λ x. not x) is
