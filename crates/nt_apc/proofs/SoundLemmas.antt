-- Inboxes and places go on naming each other.
use Rattle.std.proofs.Common.{◌≡◌, ◌≢◌, ℕ, ◌+◌, ◌<◌, ◌≤◌, inl, inr, Bool, true, false, ◌||◌, ◌==◌, List, [], ◌∷◌, ◌++◌, length, slice_index_or, slice_set, Option, Some, None, refl, sym, ◌∙◌, ap, subst, arith, get_or-set_other, get_or-set_same, eq-eqb}
use Rattle.std.specs.Prelude.{slice_get, is_some}
use Rattle.std.specs.List.{list_any}
use Rattle.std.proofs.lemmas.Bool.{cases_eq, cases_lt, cases_Bool, ne_eqb}
use Rattle.std.proofs.lemmas.List.{get_or_past}
use Rattle.std.proofs.lemmas.Option.{slice_get_within, slice_get-get_or}
use Rattle.std.proofs.Math.Bool.{or-false}
use Rattle.std.proofs.lemmas.List.Folds.{list_any_at}
use Rattle.std.proofs.lemmas.List.Sums.{sum_by-append}
use Rattle.nt_apc.specs.declared.apc.Queued.{Queued}
use Rattle.nt_apc.specs.declared.place.Place.{Place}
use Rattle.nt_apc.specs.Queues.{is_from, has_from, count_from, without_from, oldest, without_oldest}
use Rattle.nt_apc.specs.Inbox.{Contents, timed_count}
use Rattle.nt_apc.specs.Place.{inbox_at, timer_at, place_at, thread_of_place, AreApcsSound, flagged, stands_at, place_marked}
use Rattle.nt_apc.proofs.QueueLemmas.{timed_count-le, has_from-push, count_from-push, is_from-same, is_from-other, has_from-without_from, has_from-without_from_other, count_from-without_from, has_from-oldest, count_from-oldest}
use Rattle.nt_apc.proofs.ListLemmas.{one_if, count_by-none, list_any-from_count}

pub inbox_set_same : (inboxes : List Contents) (t : ℕ) (inbox : Contents) → t < length inboxes → inbox_at (slice_set inboxes t inbox) t ≡ inbox
inbox_set_same inboxes t inbox below = get_or-set_same inboxes t inbox _ below

pub inbox_set_other : (inboxes : List Contents) (t u : ℕ) (inbox : Contents) → u ≢ t → inbox_at (slice_set inboxes t inbox) u ≡ inbox_at inboxes u
inbox_set_other inboxes t u inbox other = get_or-set_other inboxes t u inbox _ other

pub inbox_set_at : (inboxes : List Contents) (t u : ℕ) (inbox : Contents) → t < length inboxes → u ≡ t → inbox_at (slice_set inboxes t inbox) u ≡ inbox
inbox_set_at inboxes t u inbox below same = ap (λ v. inbox_at (slice_set inboxes t inbox) v) same ∙ inbox_set_same inboxes t inbox below

pub some_same : {a b : ℕ} → Some a ≡ Some b → a ≡ b
some_same e = cc

flag_of : (place place' : Place) → Some place ≡ Some place' → place.queued ≡ place'.queued
flag_of place place' e = let same : place ≡ place' = cc in ap (λ (p : Place). p.queued) same

-- a place has the index and the flag that its inbox says
pub place_whole : (inboxes : List Contents) (places : List (Option Place)) → AreApcsSound inboxes places → (m : ℕ) (place : Place) → place_at places m ≡ Some place →
    place_at places m ≡ Some (record { thread = place.thread; index = place.index; queued = has_from m (inbox_at inboxes place.thread).queue })
place_whole inboxes places sound m place is = sound.to_place place.thread place.index m (sound.to_timer m place is)

-- a thread that has a timer's place is one of the threads
pub timer_known : (inboxes : List Contents) (t k m : ℕ) → timer_at inboxes t k ≡ Some m → t < length inboxes
timer_known inboxes t k m is = elim (cases_lt t (length inboxes)) [
  | inl below ↦ below
  | inr past ↦
      let empty : (inbox_at inboxes t).timers ≡ [] = ap (λ (inbox : Contents). inbox.timers) (get_or_past inboxes t _ past) in
      let none : timer_at inboxes t k ≡ None = ap (λ timers. slice_get timers k) empty in
      absurd (cc)
]

pub place_of_thread : (o : Option Place) (t : ℕ) → thread_of_place o ≡ Some t → (place : Place) × (o ≡ Some place) × (place.thread ≡ t)
place_of_thread None t is = absurd (cc)
place_of_thread (Some place) t is = (place, refl, (cc))

pub place_known : (inboxes : List Contents) (places : List (Option Place)) → AreApcsSound inboxes places → (m t : ℕ) → thread_of_place (place_at places m) ≡ Some t → t < length inboxes
place_known inboxes places sound m t is =
    let found : (place : Place) × (place_at places m ≡ Some place) × (place.thread ≡ t) = place_of_thread (place_at places m) t is in
    subst (λ (u : ℕ). u < length inboxes) found.2 (timer_known inboxes found.0.thread found.0.index m (sound.to_timer m found.0 found.1))

-- one inbox gets another queue, and the flags follow
pub record IsRequeued (inboxes : List Contents) (places places' : List (Option Place)) (t : ℕ) (inbox : Contents) : Type 0 where
  pub in_range : t < length inboxes
  pub timers : inbox.timers ≡ (inbox_at inboxes t).timers
  pub at_place : (m : ℕ) → has_from m inbox.queue ≡ true → thread_of_place (place_at places m) ≡ Some t
  pub once : (m : ℕ) → count_from m inbox.queue ≤ 1
  pub here : (m : ℕ) (place : Place) → place_at places m ≡ Some place → place.thread ≡ t →
      place_at places' m ≡ Some (record { thread = place.thread; index = place.index; queued = has_from m inbox.queue })
  pub elsewhere : (m : ℕ) (place : Place) → place_at places m ≡ Some place → place.thread ≢ t → place_at places' m ≡ Some place
  pub nowhere : (m : ℕ) → place_at places m ≡ None → place_at places' m ≡ None

pub sound_requeued : (inboxes : List Contents) (places places' : List (Option Place)) (t : ℕ) (inbox : Contents) →
    AreApcsSound inboxes places → IsRequeued inboxes places places' t inbox → AreApcsSound (slice_set inboxes t inbox) places'
sound_requeued inboxes places places' t inbox sound requeued = record {
  at_place = λ u m has. elim (cases_eq u t) [
    | inl same ↦ thread_same m ∙ requeued.at_place m (rw (same, here) at has) ∙ ap Some (sym same)
    | inr other ↦ thread_same m ∙ sound.at_place u m (rw (inbox_set_other inboxes t u inbox other) at has)
  ];
  once = λ u m. elim (cases_eq u t) [
    | inl same ↦ rw (same, here) (requeued.once m)
    | inr other ↦ rw (inbox_set_other inboxes t u inbox other) (sound.once u m)
  ];
  to_timer = λ m place' is. to_timer m place' (place_at places m) refl is;
  to_place = λ u k m is.
      let before : timer_at inboxes u k ≡ Some m = ap (λ timers. slice_get timers k) (sym (timers_same u)) ∙ is in
      elim (cases_eq u t) [
        | inl same ↦ requeued.here m _ (sound.to_place u k m before) same ∙ ap (λ (queue : List Queued). Some (place_with u k (has_from m queue))) (sym (queue_here u same))
        | inr other ↦ requeued.elsewhere m _ (sound.to_place u k m before) other
            ∙ ap (λ (held : Contents). Some (place_with u k (has_from m held.queue))) (sym (inbox_set_other inboxes t u inbox other))
      ];
}
  where
    place_with : ℕ → ℕ → Bool → Place
    place_with u k b = record { thread = u; index = k; queued = b }

    here : inbox_at (slice_set inboxes t inbox) t ≡ inbox
    here = inbox_set_same inboxes t inbox requeued.in_range

    queue_here : (u : ℕ) → u ≡ t → (inbox_at (slice_set inboxes t inbox) u).queue ≡ inbox.queue
    queue_here u same = ap (λ (held : Contents). held.queue) (inbox_set_at inboxes t u inbox requeued.in_range same)

    timers_same : (u : ℕ) → (inbox_at (slice_set inboxes t inbox) u).timers ≡ (inbox_at inboxes u).timers
    timers_same u = elim (cases_eq u t) [
      | inl same ↦ ap (λ (held : Contents). held.timers) (inbox_set_at inboxes t u inbox requeued.in_range same) ∙ requeued.timers ∙ ap (λ v. (inbox_at inboxes v).timers) (sym same)
      | inr other ↦ ap (λ (held : Contents). held.timers) (inbox_set_other inboxes t u inbox other)
    ]

    thread_cases : (m : ℕ) (o : Option Place) → place_at places m ≡ o → thread_of_place (place_at places' m) ≡ thread_of_place (place_at places m)
    thread_cases m None was = ap thread_of_place (requeued.nowhere m was ∙ sym was)
    thread_cases m (Some place) was = elim (cases_eq place.thread t) [
      | inl same ↦ ap thread_of_place (requeued.here m place was same) ∙ sym (ap thread_of_place was)
      | inr other ↦ ap thread_of_place (requeued.elsewhere m place was other ∙ sym was)
    ]

    thread_same : (m : ℕ) → thread_of_place (place_at places' m) ≡ thread_of_place (place_at places m)
    thread_same m = thread_cases m (place_at places m) refl

    at_same : (m : ℕ) (place place' : Place) → place_at places m ≡ Some place → place'.thread ≡ place.thread → place'.index ≡ place.index →
        timer_at (slice_set inboxes t inbox) place'.thread place'.index ≡ Some m
    at_same m place place' was thread index =
        rw (thread, index) (ap (λ timers. slice_get timers place.index) (timers_same place.thread) ∙ sound.to_timer m place was)

    to_timer : (m : ℕ) (place' : Place) (o : Option Place) → place_at places m ≡ o → place_at places' m ≡ Some place' → timer_at (slice_set inboxes t inbox) place'.thread place'.index ≡ Some m
    to_timer m place' None was is = let none : place_at places' m ≡ None = requeued.nowhere m was in absurd (cc)
    to_timer m place' (Some place) was is = elim (cases_eq place.thread t) [
      | inl same ↦
          let whole : place_at places' m ≡ Some (place_with place.thread place.index (has_from m inbox.queue)) = requeued.here m place was same in
          at_same m place place' was (cc) (cc)
      | inr other ↦
          let whole : place_at places' m ≡ Some place = requeued.elsewhere m place was other in
          at_same m place place' was (cc) (cc)
    ]

place_below : (places : List (Option Place)) (m : ℕ) (place : Place) → place_at places m ≡ Some place → m < length places
place_below places m place is = elim (cases_lt m (length places)) [
  | inl below ↦ below
  | inr past ↦ let none : place_at places m ≡ None = get_or_past places m None past in absurd (cc)
]

-- the APC of one timer is queued in t's queue, or leaves it
pub sound_marked : (inboxes : List Contents) (places : List (Option Place)) (t timer : ℕ) (inbox : Contents) (queued : Bool) →
    AreApcsSound inboxes places → thread_of_place (place_at places timer) ≡ Some t →
    inbox.timers ≡ (inbox_at inboxes t).timers →
    ((m : ℕ) → m ≢ timer → has_from m inbox.queue ≡ has_from m (inbox_at inboxes t).queue) →
    has_from timer inbox.queue ≡ queued →
    ((m : ℕ) → count_from m inbox.queue ≤ 1) →
    AreApcsSound (slice_set inboxes t inbox) (place_marked places timer queued)
sound_marked inboxes places t timer inbox queued sound placed timers others flag once =
    sound_requeued inboxes places (place_marked places timer queued) t inbox sound (record {
      in_range = place_known inboxes places sound timer t placed;
      timers = timers;
      at_place = λ m has. elim (cases_eq m timer) [
        | inl same ↦ rw same placed
        | inr other ↦ sound.at_place t m (sym (others m other) ∙ has)
      ];
      once = once;
      here = λ m place is thread. elim (cases_eq m timer) [
        | inl same ↦ written_here m place is same ∙ ap (λ b. Some (place_with place b)) (sym flag ∙ ap (λ n. has_from n inbox.queue) (sym same))
        | inr other ↦ get_or-set_other places timer m _ None other ∙ place_whole inboxes places sound m place is
            ∙ ap (λ b. Some (place_with place b)) (ap (λ u. has_from m (inbox_at inboxes u).queue) thread ∙ sym (others m other))
      ];
      elsewhere = λ m place is thread. elim (cases_eq m timer) [
        | inl same ↦ let at : thread_of_place (place_at places m) ≡ Some t = rw same placed in absurd (thread (some_same (sym (ap thread_of_place is) ∙ at)))
        | inr other ↦ get_or-set_other places timer m _ None other ∙ is
      ];
      nowhere = λ m is. elim (cases_eq m timer) [
        | inl same ↦ let at : thread_of_place (place_at places m) ≡ Some t = rw same placed in let none : thread_of_place (place_at places m) ≡ None = ap thread_of_place is in absurd (cc)
        | inr other ↦ get_or-set_other places timer m _ None other ∙ is
      ];
    })
  where
    place_with : Place → Bool → Place
    place_with place b = record { thread = place.thread; index = place.index; queued = b }

    written_here : (m : ℕ) (place : Place) → place_at places m ≡ Some place → m ≡ timer → place_at (place_marked places timer queued) m ≡ Some (place_with place queued)
    written_here m place is same =
        let here : place_at places timer ≡ Some place = ap (place_at places) (sym same) ∙ is in
        ap (place_at (place_marked places timer queued)) same
        ∙ get_or-set_same places timer (flagged queued (place_at places timer)) None (place_below places timer place here)
        ∙ ap (flagged queued) here

-- the queue changes by an APC that is no timer's
pub sound_kept : (inboxes : List Contents) (places : List (Option Place)) (t : ℕ) (inbox : Contents) →
    AreApcsSound inboxes places → t < length inboxes →
    inbox.timers ≡ (inbox_at inboxes t).timers →
    ((m : ℕ) → has_from m inbox.queue ≡ has_from m (inbox_at inboxes t).queue) →
    ((m : ℕ) → count_from m inbox.queue ≤ 1) →
    AreApcsSound (slice_set inboxes t inbox) places
sound_kept inboxes places t inbox sound below timers all once =
    sound_requeued inboxes places places t inbox sound (record {
      in_range = below;
      timers = timers;
      at_place = λ m has. sound.at_place t m (sym (all m) ∙ has);
      once = once;
      here = λ m place is thread. place_whole inboxes places sound m place is
          ∙ ap (λ b. Some (place_with place b)) (ap (λ u. has_from m (inbox_at inboxes u).queue) thread ∙ sym (all m));
      elsewhere = λ m place is thread. is;
      nowhere = λ m is. is;
    })
  where
    place_with : Place → Bool → Place
    place_with place b = record { thread = place.thread; index = place.index; queued = b }

-- nothing but room changes
pub sound_same : (inboxes inboxes' : List Contents) (places places' : List (Option Place)) →
    ((t : ℕ) → (inbox_at inboxes' t).queue ≡ (inbox_at inboxes t).queue) →
    ((t : ℕ) → (inbox_at inboxes' t).timers ≡ (inbox_at inboxes t).timers) →
    ((m : ℕ) → place_at places' m ≡ place_at places m) →
    AreApcsSound inboxes places → AreApcsSound inboxes' places'
sound_same inboxes inboxes' places places' queues timers same sound = record {
  at_place = λ t m has. ap thread_of_place (same m) ∙ sound.at_place t m (rw (queues t) at has);
  once = λ t m. rw (queues t) (sound.once t m);
  to_timer = λ m place is. ap (λ ts. slice_get ts place.index) (timers place.thread) ∙ sound.to_timer m place (sym (same m) ∙ is);
  to_place = λ t k m is.
      same m ∙ sound.to_place t k m (ap (λ ts. slice_get ts k) (sym (timers t)) ∙ is)
      ∙ ap (λ (queue : List Queued). Some (place_with t k (has_from m queue))) (sym (queues t));
}
  where
    place_with : ℕ → ℕ → Bool → Place
    place_with t k b = record { thread = t; index = k; queued = b }

-- a flag says whether the APC stands in the queue
pub stands_at-is : (inboxes : List Contents) (places : List (Option Place)) → AreApcsSound inboxes places → (t m : ℕ) →
    stands_at t (place_at places m) ≡ has_from m (inbox_at inboxes t).queue
stands_at-is inboxes places sound t m = cases (place_at places m) refl
  where
    nothing : thread_of_place (place_at places m) ≢ Some t → has_from m (inbox_at inboxes t).queue ≡ false
    nothing elsewhere = elim (cases_Bool (has_from m (inbox_at inboxes t).queue)) [
      | inl has ↦ absurd (elsewhere (sound.at_place t m has))
      | inr none ↦ none
    ]

    cases : (o : Option Place) → place_at places m ≡ o → stands_at t o ≡ has_from m (inbox_at inboxes t).queue
    cases None is = sym (nothing (λ at. let none : thread_of_place (place_at places m) ≡ None = ap thread_of_place is in cc))
    cases (Some place) is = elim (cases_eq place.thread t) [
      | inl same ↦
          let whole : place_at places m ≡ Some (record { thread = place.thread; index = place.index; queued = has_from m (inbox_at inboxes place.thread).queue }) = place_whole inboxes places sound m place is in
          let flag : place.queued ≡ has_from m (inbox_at inboxes place.thread).queue = flag_of place _ (sym is ∙ whole) in
          rw (eq-eqb place.thread t same) (flag ∙ ap (λ u. has_from m (inbox_at inboxes u).queue) same)
      | inr other ↦
          let none : has_from m (inbox_at inboxes t).queue ≡ false = nothing (λ at. other (some_same (sym (ap thread_of_place is) ∙ at))) in
          rw (ne_eqb place.thread t other) (sym none)
    ]

-- ---- each step, by what it says of one inbox

or-true : (b : Bool) → (b || true) ≡ true
or-true true = refl
or-true false = refl

with_room_sound : (inboxes : List Contents) (places : List (Option Place)) (t : ℕ) (inbox : Contents) → AreApcsSound inboxes places → t < length inboxes →
    inbox.queue ≡ (inbox_at inboxes t).queue → inbox.timers ≡ (inbox_at inboxes t).timers → AreApcsSound (slice_set inboxes t inbox) places
with_room_sound inboxes places t inbox sound below queue timers =
    sound_kept inboxes places t inbox sound below timers (λ m. ap (has_from m) queue) (λ m. rw queue (sound.once t m))

pub room_sound : (inboxes : List Contents) (places : List (Option Place)) (t : ℕ) (inbox : Contents) → AreApcsSound inboxes places → t < length inboxes →
    inbox.queue ≡ (inbox_at inboxes t).queue → inbox.timers ≡ (inbox_at inboxes t).timers → AreApcsSound (slice_set inboxes t inbox) places
room_sound = with_room_sound

pub push_sound : (inboxes : List Contents) (places : List (Option Place)) (t : ℕ) (inbox : Contents) (q : Queued) → q.timer ≡ None → AreApcsSound inboxes places → t < length inboxes →
    inbox.queue ≡ (inbox_at inboxes t).queue ++ q ∷ [] → inbox.timers ≡ (inbox_at inboxes t).timers → AreApcsSound (slice_set inboxes t inbox) places
push_sound inboxes places t inbox q plain sound below queue timers =
    sound_kept inboxes places t inbox sound below timers
    (λ m. ap (has_from m) queue ∙ has_from-push m (inbox_at inboxes t).queue q ∙ rw plain (or-false (has_from m (inbox_at inboxes t).queue)))
    (λ m.
    let whole : count_from m inbox.queue ≡ count_from m (inbox_at inboxes t).queue + one_if (is_from m q.timer) = ap (count_from m) queue ∙ count_from-push m (inbox_at inboxes t).queue q in
    let none : one_if (is_from m q.timer) ≡ 0 = rw plain refl in
    let before : count_from m (inbox_at inboxes t).queue ≤ 1 = sound.once t m in
    omega arith)

pub push_promised_sound : (inboxes : List Contents) (places : List (Option Place)) (t timer : ℕ) (inbox : Contents) (q : Queued) → q.timer ≡ Some timer → AreApcsSound inboxes places →
    thread_of_place (place_at places timer) ≡ Some t → has_from timer (inbox_at inboxes t).queue ≡ false →
    inbox.queue ≡ (inbox_at inboxes t).queue ++ q ∷ [] → inbox.timers ≡ (inbox_at inboxes t).timers → AreApcsSound (slice_set inboxes t inbox) (place_marked places timer true)
push_promised_sound inboxes places t timer inbox q timed sound placed none queue timers =
    sound_marked inboxes places t timer inbox true sound placed timers
    (λ m other. ap (has_from m) queue ∙ has_from-push m (inbox_at inboxes t).queue q ∙ rw (timed, is_from-other m timer other) (or-false (has_from m (inbox_at inboxes t).queue)))
    (ap (has_from timer) queue ∙ has_from-push timer (inbox_at inboxes t).queue q ∙ rw (timed, is_from-same timer) (or-true (has_from timer (inbox_at inboxes t).queue)))
    (λ m.
    let whole : count_from m inbox.queue ≡ count_from m (inbox_at inboxes t).queue + one_if (is_from m q.timer) = ap (count_from m) queue ∙ count_from-push m (inbox_at inboxes t).queue q in
    let before : count_from m (inbox_at inboxes t).queue ≤ 1 = sound.once t m in
    elim (cases_eq m timer) [
      | inl same ↦
          let zero_before : count_from m (inbox_at inboxes t).queue ≡ 0 = count_by-none (λ q. is_from m q.timer) (inbox_at inboxes t).queue (rw same none) in
          let one : one_if (is_from m q.timer) ≡ 1 = rw (timed, same, is_from-same timer) refl in
          omega arith
      | inr other ↦
          let no : one_if (is_from m q.timer) ≡ 0 = rw (timed, is_from-other m timer other) refl in
          omega arith
    ])

pub withdraw_sound : (inboxes : List Contents) (places : List (Option Place)) (t timer : ℕ) (inbox : Contents) → AreApcsSound inboxes places →
    thread_of_place (place_at places timer) ≡ Some t →
    inbox.queue ≡ without_from timer (inbox_at inboxes t).queue → inbox.timers ≡ (inbox_at inboxes t).timers → AreApcsSound (slice_set inboxes t inbox) (place_marked places timer false)
withdraw_sound inboxes places t timer inbox sound placed queue timers =
    sound_marked inboxes places t timer inbox false sound placed timers
    (λ m other. ap (has_from m) queue ∙ has_from-without_from_other m timer (inbox_at inboxes t).queue other)
    (ap (has_from timer) queue ∙ has_from-without_from timer (inbox_at inboxes t).queue)
    (λ m.
    let less : count_from m (without_from timer (inbox_at inboxes t).queue) ≤ count_from m (inbox_at inboxes t).queue = count_from-without_from m timer (inbox_at inboxes t).queue in
    let before : count_from m (inbox_at inboxes t).queue ≤ 1 = sound.once t m in
    rw queue (omega arith))

pub next_timed_sound : (inboxes : List Contents) (places : List (Option Place)) (t timer : ℕ) (inbox : Contents) (q : Queued) → q.timer ≡ Some timer → AreApcsSound inboxes places →
    oldest (inbox_at inboxes t).queue ≡ Some q →
    inbox.queue ≡ without_oldest (inbox_at inboxes t).queue → inbox.timers ≡ (inbox_at inboxes t).timers → AreApcsSound (slice_set inboxes t inbox) (place_marked places timer false)
next_timed_sound inboxes places t timer inbox q timed sound first queue timers =
    let here : is_from timer q.timer ≡ true = rw timed (is_from-same timer) in
    let has : has_from timer (inbox_at inboxes t).queue ≡ true = has_from-oldest timer (inbox_at inboxes t).queue q first ∙ rw here refl in
    sound_marked inboxes places t timer inbox false sound (sound.at_place t timer has) timers
    (λ m other. ap (has_from m) queue ∙ sym (has_from-oldest m (inbox_at inboxes t).queue q first ∙ rw (timed, is_from-other m timer other) refl))
    (ap (has_from timer) queue ∙ list_any-from_count (λ q. is_from timer q.timer) (without_oldest (inbox_at inboxes t).queue)
    (let whole : count_from timer (inbox_at inboxes t).queue ≡ one_if (is_from timer q.timer) + count_from timer (without_oldest (inbox_at inboxes t).queue) = count_from-oldest timer (inbox_at inboxes t).queue q first in
    let one : one_if (is_from timer q.timer) ≡ 1 = rw here refl in
    let once : count_from timer (inbox_at inboxes t).queue ≤ 1 = sound.once t timer in
    omega arith))
    (λ m. next_once inboxes places t inbox q sound first queue m)
  where
    next_once : (inboxes : List Contents) (places : List (Option Place)) (t : ℕ) (inbox : Contents) (q : Queued) → AreApcsSound inboxes places →
        oldest (inbox_at inboxes t).queue ≡ Some q → inbox.queue ≡ without_oldest (inbox_at inboxes t).queue → (m : ℕ) → count_from m inbox.queue ≤ 1
    next_once inboxes places t inbox q sound first queue m =
        let whole : count_from m (inbox_at inboxes t).queue ≡ one_if (is_from m q.timer) + count_from m (without_oldest (inbox_at inboxes t).queue) = count_from-oldest m (inbox_at inboxes t).queue q first in
        let once : count_from m (inbox_at inboxes t).queue ≤ 1 = sound.once t m in
        rw queue (omega arith)

pub next_plain_sound : (inboxes : List Contents) (places : List (Option Place)) (t : ℕ) (inbox : Contents) (q : Queued) → q.timer ≡ None → AreApcsSound inboxes places → t < length inboxes →
    oldest (inbox_at inboxes t).queue ≡ Some q →
    inbox.queue ≡ without_oldest (inbox_at inboxes t).queue → inbox.timers ≡ (inbox_at inboxes t).timers → AreApcsSound (slice_set inboxes t inbox) places
next_plain_sound inboxes places t inbox q plain sound below first queue timers =
    sound_kept inboxes places t inbox sound below timers
    (λ m. ap (has_from m) queue ∙ sym (has_from-oldest m (inbox_at inboxes t).queue q first ∙ rw plain refl))
    (λ m.
    let whole : count_from m (inbox_at inboxes t).queue ≡ one_if (is_from m q.timer) + count_from m (without_oldest (inbox_at inboxes t).queue) = count_from-oldest m (inbox_at inboxes t).queue q first in
    let once : count_from m (inbox_at inboxes t).queue ≤ 1 = sound.once t m in
    rw queue (omega arith))

pub next_none_sound : (inboxes : List Contents) (places : List (Option Place)) (t : ℕ) (inbox : Contents) → AreApcsSound inboxes places → t < length inboxes →
    oldest (inbox_at inboxes t).queue ≡ None →
    inbox.queue ≡ without_oldest (inbox_at inboxes t).queue → inbox.timers ≡ (inbox_at inboxes t).timers → AreApcsSound (slice_set inboxes t inbox) places
next_none_sound inboxes places t inbox sound below none queue timers =
    with_room_sound inboxes places t inbox sound below (queue ∙ without_none (inbox_at inboxes t).queue none) timers
  where
    without_none : (queue : List Queued) → oldest queue ≡ None → without_oldest queue ≡ queue
    without_none [] none = refl
    without_none (q ∷ queue) none = absurd (cc)

-- where a place was promised and is not filled, there is room
pub place_room : (inboxes : List Contents) (places : List (Option Place)) (t timer : ℕ) → AreApcsSound inboxes places →
    thread_of_place (place_at places timer) ≡ Some t → has_from timer (inbox_at inboxes t).queue ≡ false → timed_count (inbox_at inboxes t).queue < length (inbox_at inboxes t).timers
place_room inboxes places t timer sound placed none =
    let q : Queued = record { apc = record { routine = 0; arg = 0; at = None }; timer = Some timer } in
    let filled : timed_count ((inbox_at inboxes t).queue ++ q ∷ []) ≤ length (inbox_at inboxes t).timers =
    timed_count-le (inbox_at inboxes t).timers ((inbox_at inboxes t).queue ++ q ∷ [])
    (λ m has. elim (cases_eq m timer) [
      | inl same ↦ listed m (rw same placed)
      | inr other ↦ listed m (sound.at_place t m (sym (has_from-push m (inbox_at inboxes t).queue q ∙ rw (is_from-other m timer other) (or-false (has_from m (inbox_at inboxes t).queue))) ∙ has))
    ])
    (λ m.
    let whole : count_from m ((inbox_at inboxes t).queue ++ q ∷ []) ≡ count_from m (inbox_at inboxes t).queue + one_if (is_from m (Some timer)) = count_from-push m (inbox_at inboxes t).queue q in
    let before : count_from m (inbox_at inboxes t).queue ≤ 1 = sound.once t m in
    elim (cases_eq m timer) [
      | inl same ↦
          let zero_before : count_from m (inbox_at inboxes t).queue ≡ 0 = count_by-none (λ q. is_from m q.timer) (inbox_at inboxes t).queue (rw same none) in
          let one : one_if (is_from m (Some timer)) ≡ 1 = rw (same, is_from-same timer) refl in
          omega arith
      | inr other ↦
          let no : one_if (is_from m (Some timer)) ≡ 0 = rw (is_from-other m timer other) refl in
          omega arith
    ]) in
    let more : timed_count ((inbox_at inboxes t).queue ++ q ∷ []) ≡ timed_count (inbox_at inboxes t).queue + 1 = sum_by-append (λ q. one_if (is_some q.timer)) (inbox_at inboxes t).queue (q ∷ []) in
    omega arith
  where
    listed : (m : ℕ) → thread_of_place (place_at places m) ≡ Some t → list_any (λ x. x == m) (inbox_at inboxes t).timers ≡ true
    listed m at =
        let found : (place : Place) × (place_at places m ≡ Some place) × (place.thread ≡ t) = place_of_thread (place_at places m) t at in
        let got : timer_at inboxes t found.0.index ≡ Some m = ap (λ u. timer_at inboxes u found.0.index) (sym found.2) ∙ sound.to_timer m found.0 found.1 in
        let below : found.0.index < length (inbox_at inboxes t).timers = slice_get_within (inbox_at inboxes t).timers found.0.index m got in
        let value : slice_index_or (inbox_at inboxes t).timers found.0.index 0 ≡ m = some_same (sym (slice_get-get_or (inbox_at inboxes t).timers found.0.index 0 below) ∙ got) in
        list_any_at (λ x. x == m) (inbox_at inboxes t).timers found.0.index 0 below (eq-eqb _ m value)

-- an APC that stands in t's queue has its place there
pub standing_placed : (inboxes : List Contents) (places : List (Option Place)) → AreApcsSound inboxes places → (t m : ℕ) →
    stands_at t (place_at places m) ≡ true → thread_of_place (place_at places m) ≡ Some t
standing_placed inboxes places sound t m stands = sound.at_place t m (sym (stands_at-is inboxes places sound t m) ∙ stands)
