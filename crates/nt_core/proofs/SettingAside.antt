-- An object that is set aside leaves a dispatcher lawful.
use Rattle.std.proofs.Common.{◌≡◌, ◌≢◌, ℕ, ◌<◌, ◌≤◌, Bool, true, false, not, ◌&&◌, ◌||◌, List, [], ◌∷◌, length, set, refl, sym, ap, ◌∙◌, subst, arith, Some, inl, inr, ◌⊎◌, Contains}
use Rattle.std.specs.Prelude.{nat_lt, nat_le}
use Rattle.std.specs.FinMap as fin
use Rattle.std.proofs.lemmas.Bool.{cases_eq, false≢true}
use Rattle.std.proofs.lemmas.Bool.Decides.{nat_tests}
use Rattle.std.proofs.lemmas.List.{length-set}
use Rattle.std.proofs.lemmas.List.Elements.{Contains-append_cases}
use Rattle.nt_status.proofs.Lists.{contains_none, contains_first, contains_later}
use Rattle.nt_objects.specs.declared.object.Object.{Object}
use Rattle.nt_objects.specs.declared.object.Object.TheVariants.{Event, Semaphore, Mutex, Timer, Thread, Gone}
use Rattle.nt_objects.specs.Object.{is_gone, is_thread, has_ended, due_of, setter_of, IsLawfulObject, owned_by, has_room}
use Rattle.nt_waits.specs.declared.wait.Wait.{Wait}
use Rattle.nt_waits.specs.Waits.{Names, queue_of}
use Rattle.nt_apc.specs.Queues.{has_apc, is_queued}
use Rattle.nt_calls.specs.Serving.{is_due, sequence}
use Rattle.nt_calls.specs.State.{State, object_at}
use Rattle.nt_calls.specs.Living.{is_opened, is_awaited, runs, is_kept, lives, LivesWhileKept}
use Rattle.nt_machine.specs.Dispatcher.{Dispatcher, state}
use Rattle.nt_machine.specs.Lawful.{IsMachineSound, IsSteady}
use Rattle.nt_core.specs.Renewals.{is_vacant}
use Rattle.nt_core.specs.SetAside.{is_movable, can_set_aside, with_aside}
use Rattle.nt_machine.proofs.Changing.{ChangedOnlyAt, object_at-set_same, object_at-set_other, reading_set, property_set, fit_only_in, due_kept}
use Rattle.nt_machine.proofs.Keeping.{timers_kept}
use Rattle.nt_machine.proofs.Lives.{below_both}
use Rattle.nt_machine.proofs.Remaining.{both, turned, and_not}
use Rattle.nt_core.proofs.Renewing.{never_forgotten}
use Rattle.nt_core.proofs.Renumbering.{named_before, count_other, count_from, count_to, handles_instead}
use Rattle.nt_machine.proofs.Standings.{standings_kept}

-- the thread has ended and no wait names its object; what had the number o is gone
pub record MayMove (s : State) (t o : ℕ) : Type 0 where
  pub below : t < s.threads
  pub ended : object_at s.objects t ≡ Thread true
  pub unawaited : is_awaited s t ≡ false
  pub beyond : s.threads ≤ o
  pub there : o < length s.objects
  pub vacant : object_at s.objects o ≡ Gone

-- ---- what is asked before

gone_is : (o : Object) → is_gone o ≡ true → o ≡ Gone
gone_is (Event manual was) is = absurd (false≢true is)
gone_is (Semaphore count maximum) is = absurd (false≢true is)
gone_is (Mutex owner depth abandoned) is = absurd (false≢true is)
gone_is (Timer manual was armed) is = absurd (false≢true is)
gone_is (Thread ended) is = absurd (false≢true is)
gone_is Gone is = refl

ended_is : (o : Object) → has_ended o ≡ true → is_gone o ≡ false → o ≡ Thread true
ended_is (Event manual was) is there = absurd (false≢true is)
ended_is (Semaphore count maximum) is there = absurd (false≢true is)
ended_is (Mutex owner depth abandoned) is there = absurd (false≢true is)
ended_is (Timer manual was armed) is there = absurd (false≢true is)
ended_is (Thread ended) is there = ap (λ b. Thread b) is
ended_is Gone is there = absurd (false≢true (sym there))

pub may_move : (s : State) (t o : ℕ) → can_set_aside s t o ≡ true → MayMove s t o
may_move s t o is =
    let two = both (is_movable s t) (is_vacant s o) is in
    let quiet = not (is_awaited s t) && not (has_apc s.apcs t) in
    let own = both (nat_lt t s.threads) (has_ended (object_at s.objects t) && (not (is_gone (object_at s.objects t)) && quiet)) two.0 in
    let ended = both (has_ended (object_at s.objects t)) (not (is_gone (object_at s.objects t)) && quiet) own.1 in
    let living = both (not (is_gone (object_at s.objects t))) quiet ended.1 in
    let unawaited = both (not (is_awaited s t)) (not (has_apc s.apcs t)) living.1 in
    let beyond = both (nat_le s.threads o) (nat_lt o (length s.objects) && (is_gone (object_at s.objects o) && not (is_queued s.apcs o))) two.1 in
    let there = both (nat_lt o (length s.objects)) (is_gone (object_at s.objects o) && not (is_queued s.apcs o)) beyond.1 in
    let gone = both (is_gone (object_at s.objects o)) (not (is_queued s.apcs o)) there.1 in
    record {
      below = let test = own.0 in grind (arith, nat_tests, test);
      ended = ended_is (object_at s.objects t) ended.0 (turned (is_gone (object_at s.objects t)) living.0);
      unawaited = turned (is_awaited s t) unawaited.0;
      beyond = let test = beyond.0 in grind (arith, nat_tests, test);
      there = let test = there.0 in grind (arith, nat_tests, test);
      vacant = gone_is (object_at s.objects o) gone.0;
    }

-- ---- the objects then

abbrev aside : Dispatcher → ℕ → ℕ → List Object
aside d t o = set (set d.objects o (object_at d.objects t)) t Gone

aside_long : (d : Dispatcher) (t o : ℕ) → length (aside d t o) ≡ length d.objects
aside_long d t o = length-set (set d.objects o (object_at d.objects t)) t Gone ∙ length-set d.objects o (object_at d.objects t)

others_apart : (d : Dispatcher) (t o : ℕ) → MayMove (state d) t o → o ≢ t
others_apart d t o may same = let a = may.below in let b = may.beyond in omega (arith, a, b, same)

at_own : (d : Dispatcher) (t o : ℕ) → IsMachineSound d → MayMove (state d) t o → object_at (aside d t o) t ≡ Gone
at_own d t o sound may =
    let there = (sound.own t may.below).0 in
    let long = length-set d.objects o (object_at d.objects t) in
    object_at-set_same (set d.objects o (object_at d.objects t)) t Gone (omega (arith, there, long))

at_new : (d : Dispatcher) (t o : ℕ) → MayMove (state d) t o → object_at (aside d t o) o ≡ Thread true
at_new d t o may =
    object_at-set_other (set d.objects o (object_at d.objects t)) t o Gone (others_apart d t o may)
    ∙ (object_at-set_same d.objects o (object_at d.objects t) may.there ∙ may.ended)

at_other : (d : Dispatcher) (t o k : ℕ) → k ≢ t → k ≢ o → object_at (aside d t o) k ≡ object_at d.objects k
at_other d t o k from to =
    object_at-set_other (set d.objects o (object_at d.objects t)) t k Gone from
    ∙ object_at-set_other d.objects o k (object_at d.objects t) to

-- what is the same of an ended thread and of what is gone is the same everywhere
pub read_aside : {X : Type 0} (f : Object → X) (os : List Object) (t o : ℕ) → object_at os t ≡ Thread true → object_at os o ≡ Gone → f (Thread true) ≡ f Gone → (k : ℕ) → f (object_at (set (set os o (object_at os t)) t Gone) k) ≡ f (object_at os k)
read_aside f os t o ended vacant alike k = reading_set f (set os o (object_at os t)) t Gone own k ∙ at_first k
  where
    at_first : (i : ℕ) → f (object_at (set os o (object_at os t)) i) ≡ f (object_at os i)
    at_first = reading_set f os o (object_at os t) (ap f ended ∙ (alike ∙ ap f (sym vacant)))

    own : f Gone ≡ f (object_at (set os o (object_at os t)) t)
    own = sym alike ∙ (ap f (sym ended) ∙ sym (at_first t))

reading : {X : Type 0} (f : Object → X) (d : Dispatcher) (t o : ℕ) → MayMove (state d) t o → f (Thread true) ≡ f Gone → (k : ℕ) → f (object_at (aside d t o) k) ≡ f (object_at d.objects k)
reading f d t o may = read_aside f d.objects t o may.ended may.vacant

-- ---- what no wait names

unnamed : (d : Dispatcher) (t u : ℕ) → is_awaited (state d) t ≡ false → Contains (queue_of d.table t) u → ⊥
unnamed d t u none member = go (queue_of d.table t) none member
  where
    go : (queue : List ℕ) → nat_lt 0 (length queue) ≡ false → Contains queue u → ⊥
    go [] e m = contains_none u m
    go (x ∷ queue) e m = let some : nat_lt 0 (length (x ∷ queue)) ≡ true = grind (arith, nat_tests) in false≢true (sym e ∙ some)

wait_from : (d : Dispatcher) (t o u k : ℕ) (w : Wait) → IsMachineSound d → MayMove (state d) t o → fin.get d.table.pending u ≡ Some w → Names w k → k ≢ t
wait_from d t o u k w sound may pends names same =
    unnamed d t u may.unawaited (sound.blocks.listed u t w pends (subst (λ (i : ℕ). Names w i) same names))

wait_to : (d : Dispatcher) (t o u k : ℕ) (w : Wait) → IsMachineSound d → MayMove (state d) t o → fin.get d.table.pending u ≡ Some w → Names w k → k ≢ o
wait_to d t o u k w sound may pends names same =
    false≢true (sym ((sound.waits u w pends).living k names) ∙ (ap (λ (i : ℕ). is_gone (object_at d.objects i)) same ∙ ap is_gone may.vacant))

-- ---- each object lives exactly while it is kept

-- it lived, and nothing but handles kept it
pub aside_opened : (d : Dispatcher) (t o : ℕ) → IsMachineSound d → LivesWhileKept (state d) → MayMove (state d) t o → is_opened (state d) t ≡ true
aside_opened d t o sound living may =
    let there = below_both (state d) t (sound.own t may.below).0 (ap is_gone may.ended) in
    let kept : is_kept (state d) t ≡ true = sym (living t) ∙ there in
    let idle : runs (state d) t ≡ false = ap (λ x. nat_lt t d.threads && not (has_ended x)) may.ended ∙ and_not (nat_lt t d.threads) in
    only (is_opened (state d) t) (sym (ap (λ b. is_opened (state d) t || (b || runs (state d) t)) may.unawaited ∙ ap (λ b. is_opened (state d) t || b) idle) ∙ kept)
  where
    only : (b : Bool) → (b || false) ≡ true → b ≡ true
    only true e = refl
    only false e = e

pub living_aside : (d : Dispatcher) (t o : ℕ) (owned : List (List ℕ)) → IsMachineSound d → LivesWhileKept (state d) → MayMove (state d) t o → LivesWhileKept (state (with_aside d t o owned))
living_aside d t o owned sound living may k = elim (cases_eq k t) [
  | inl own ↦ subst (λ (i : ℕ). lives (state new) i ≡ is_kept (state new) i) (sym own) (lives_own ∙ sym kept_own)
  | inr from ↦ elim (cases_eq k o) [
    | inl here ↦ subst (λ (i : ℕ). lives (state new) i ≡ is_kept (state new) i) (sym here) (lives_new ∙ sym kept_new)
    | inr to ↦ lives_other from to ∙ (living k ∙ sym (kept_other from to))
  ]
]
  where
    new : Dispatcher
    new = with_aside d t o owned

    lives_own : lives (state new) t ≡ false
    lives_own = ap (λ x. nat_lt t (length (aside d t o)) && not (is_gone x)) (at_own d t o sound may) ∙ and_not (nat_lt t (length (aside d t o)))

    kept_own : is_kept (state new) t ≡ false
    kept_own =
        ap (λ n. nat_lt 0 n || (is_awaited (state new) t || runs (state new) t)) (count_from t o d.handles (others_apart d t o may))
        ∙ (ap (λ b. b || runs (state new) t) may.unawaited
        ∙ (ap (λ x. nat_lt t d.threads && not (has_ended x)) (at_own d t o sound may) ∙ and_not (nat_lt t d.threads)))

    lives_new : lives (state new) o ≡ true
    lives_new = below_both (state new) o (let long = aside_long d t o in let there = may.there in omega (arith, long, there)) (ap is_gone (at_new d t o may))

    kept_new : is_kept (state new) o ≡ true
    kept_new = ap (λ b. b || (is_awaited (state new) o || runs (state new) o)) (count_to t o d.handles (aside_opened d t o sound living may))

    lives_other : k ≢ t → k ≢ o → lives (state new) k ≡ lives (state d) k
    lives_other from to =
        ap (λ n. nat_lt k n && not (is_gone (object_at (aside d t o) k))) (aside_long d t o)
        ∙ ap (λ x. nat_lt k (length d.objects) && not (is_gone x)) (at_other d t o k from to)

    kept_other : k ≢ t → k ≢ o → is_kept (state new) k ≡ is_kept (state d) k
    kept_other from to =
        ap (λ n. nat_lt 0 n || (is_awaited (state d) k || runs (state new) k)) (count_other t o k d.handles from to)
        ∙ ap (λ x. is_opened (state d) k || (is_awaited (state d) k || (nat_lt k d.threads && not (has_ended x)))) (at_other d t o k from to)

-- ---- the dispatcher stays sound, and settled

pub sound_aside : (d : Dispatcher) (t o : ℕ) (owned : List (List ℕ)) → IsMachineSound d → LivesWhileKept (state d) → MayMove (state d) t o → IsMachineSound (with_aside d t o owned)
sound_aside d t o owned sound living may = record {
  few = sound.few;
  waits = λ u w pends.
      let own = sound.waits u w pends in
      record {
        known = own.known;
        runs = reading has_ended d t o may refl u ∙ own.runs;
        few = own.few;
        apart = own.apart;
        named = λ k names. (longer k (own.named k names).0, reading (λ x. owned_by x u && not (has_room x)) d t o may refl k ∙ (own.named k names).1);
        living = λ k names. ap is_gone (at_other d t o k (wait_from d t o u k w sound may pends names) (wait_to d t o u k w sound may pends names)) ∙ own.living k names;
      };
  blocks = sound.blocks;
  hands = sound.hands;
  standings = standings_kept d.threads d.objects (aside d t o) d.table.pending d.standings (λ u below. reading has_ended d t o may refl u) sound.standings;
  inboxes = sound.inboxes;
  objects = property_set IsLawfulObject (set d.objects o (object_at d.objects t)) t Gone tt (property_set IsLawfulObject d.objects o (object_at d.objects t) (sound.objects t) sound.objects);
  own = λ u below. (longer u (sound.own u below).0, own_thread u below);
  none_else = idle;
  timers = timers_kept d.threads d.objects (aside d t o) d.alarms d.apcs.places sound.timers (aside_long d t o) (reading due_of d t o may refl) (reading setter_of d t o may refl) (reading has_ended d t o may refl);
  handles = handles_instead (length d.objects) (length (aside d t o)) t o d.handles (aside_long d t o) may.there sound.handles;
  marks = record {
    living = λ k opened is.
        let before = named_before t o d.handles k opened is in
        elim before.object [
          | inl moved ↦ ap (λ (i : ℕ). is_gone (object_at (aside d t o) i)) moved.1 ∙ ap is_gone (at_new d t o may)
          | inr stayed ↦
              let was = sound.marks.living k before.was before.there in
              let to : before.was.object ≢ o = (λ same. false≢true (sym was ∙ (ap (λ (i : ℕ). is_gone (object_at d.objects i)) same ∙ ap is_gone may.vacant))) in
              ap (λ (i : ℕ). is_gone (object_at (aside d t o) i)) stayed.1 ∙ (ap is_gone (at_other d t o before.was.object stayed.0 to) ∙ was)
        ];
    count = sound.marks.count ∙ sym (aside_long d t o);
    marked = λ k is. absurd (never_forgotten (state (with_aside d t o owned)) k (living_aside d t o owned sound living may) is);
    known = λ k m. absurd (contains_none k m);
  };
  places = record { changed = sound.places.changed ∙ sym (aside_long d t o); alerted = sound.places.alerted };
  room = sound.room;
}
  where
    longer : (k : ℕ) → k < length d.objects → k < length (aside d t o)
    longer k below = subst (λ (n : ℕ). k < n) (sym (aside_long d t o)) below

    own_thread : (u : ℕ) → u < d.threads → (is_thread (object_at (aside d t o) u) ≡ true) ⊎ (is_gone (object_at (aside d t o) u) ≡ true)
    own_thread u below = elim (cases_eq u t) [
      | inl same ↦ inr (ap (λ (i : ℕ). is_gone (object_at (aside d t o) i)) same ∙ ap is_gone (at_own d t o sound may))
      | inr from ↦
          let to : u ≢ o = (λ same. let beyond = may.beyond in omega (arith, same, below, beyond)) in
          subst (λ (x : Object). (is_thread x ≡ true) ⊎ (is_gone x ≡ true)) (sym (at_other d t o u from to)) (sound.own u below).1
    ]

    idle : (k : ℕ) → d.threads ≤ k → k < length (aside d t o) → (is_thread (object_at (aside d t o) k) && not (has_ended (object_at (aside d t o) k))) ≡ false
    idle k beyond known = elim (cases_eq k o) [
      | inl same ↦ ap (λ (i : ℕ). is_thread (object_at (aside d t o) i) && not (has_ended (object_at (aside d t o) i))) same ∙ ap (λ (x : Object). is_thread x && not (has_ended x)) (at_new d t o may)
      | inr to ↦
          let from : k ≢ t = (λ same. let below = may.below in omega (arith, same, below, beyond)) in
          ap (λ (x : Object). is_thread x && not (has_ended x)) (at_other d t o k from to) ∙ sound.none_else k beyond (subst (λ (n : ℕ). k < n) (aside_long d t o) known)
    ]

pub steady_aside : (d : Dispatcher) (t o : ℕ) (owned : List (List ℕ)) → IsSteady d → LivesWhileKept (state d) → MayMove (state d) t o → IsSteady (with_aside d t o owned)
steady_aside d t o owned steady living may = record {
  sound = sound_aside d t o owned steady.sound living may;
  settled = record {
    served = λ u. unserved u (is_due (state new) u) refl;
    alerted = steady.settled.alerted;
    passed = due_kept (state d) (state new) d.now (λ k. inl (reading due_of d t o may refl k)) refl steady.settled.passed;
  };
  unmarked = steady.unmarked;
}
  where
    new : Dispatcher
    new = with_aside d t o owned

    only : ChangedOnlyAt (o ∷ t ∷ []) d.objects (aside d t o)
    only k known = elim (cases_eq k o) [
      | inl same ↦ inr (contains_first o (t ∷ []) k (sym same))
      | inr to ↦ elim (cases_eq k t) [
        | inl same ↦ inr (contains_later o (t ∷ []) k (contains_first t [] k (sym same)))
        | inr from ↦ inl (at_other d t o k from to)
      ]
    ]

    -- nobody waits for either
    nobody : (u : ℕ) → Contains (sequence (state d) (o ∷ t ∷ [])) u → ⊥
    nobody u member = elim (Contains-append_cases (queue_of d.table o) (sequence (state d) (t ∷ [])) u member) [
      | inl at_o ↦
          let named = steady.sound.blocks.named u o at_o in
          wait_to d t o u o named.0 steady.sound may named.1 named.2 refl
      | inr rest ↦ elim (Contains-append_cases (queue_of d.table t) [] u rest) [
        | inl at_t ↦ unnamed d t u may.unawaited at_t
        | inr none ↦ contains_none u none
      ]
    ]

    unserved : (u : ℕ) (b : Bool) → is_due (state new) u ≡ b → b ≡ false
    unserved u false is = refl
    unserved u true is = absurd (nobody u (fit_only_in (o ∷ t ∷ []) d (aside d t o) steady.sound steady.settled.served only u is))
