-- Places that come and go.
use Rattle.std.proofs.Common.{◌≡◌, ◌≢◌, ℕ, zero, suc, ◌+◌, ◌-◌, ◌<◌, ◌⊎◌, inl, inr, Bool, true, false, List, [], ◌∷◌, ◌++◌, length, slice_set, Option, Some, None, refl, sym, ◌∙◌, ap, arith, length-append, get_or-set_other, get_or-set_same, eq-eqb}
use Rattle.std.specs.Prelude.{slice_get}
use Rattle.std.proofs.lemmas.Bool.{cases_eq, cases_lt, cases_Bool, ne_eqb}
use Rattle.std.proofs.lemmas.List.{get_or_past, set_past}
use Rattle.std.proofs.lemmas.Option.{slice_get_within}
use Rattle.nt_apc.specs.declared.place.Place.{Place}
use Rattle.nt_apc.specs.Queues.{has_from, given_up}
use Rattle.nt_apc.specs.Inbox.{Contents, GivesUp}
use Rattle.nt_apc.specs.Place.{inbox_at, timer_at, place_at, thread_of_place, index_at, AreApcsSound, reindexed, moved_to, vacated, all_vacated}
use Rattle.nt_apc.proofs.SoundLemmas.{timer_known, place_of_thread, some_same, inbox_set_at, inbox_set_other}

abbrev pub place_with : ℕ → ℕ → Bool → Place
place_with t k b = record { thread = t; index = k; queued = b }

thread_in : (place place' : Place) → Some place ≡ Some place' → place.thread ≡ place'.thread
thread_in place place' e = let same : place ≡ place' = cc in ap (λ (p : Place). p.thread) same

index_in : (place place' : Place) → Some place ≡ Some place' → place.index ≡ place'.index
index_in place place' e = let same : place ≡ place' = cc in ap (λ (p : Place). p.index) same

cases_some : (o : Option ℕ) (m : ℕ) → (o ≡ Some m) ⊎ (o ≢ Some m)
cases_some None m = inr (λ e. cc)
cases_some (Some k) m = elim (cases_eq k m) [ inl same ↦ inl (ap Some same) | inr other ↦ inr (λ e. other (some_same e)) ]

pub index_at-is : (t index : ℕ) (o : Option Place) → index_at t o ≡ Some index → (place : Place) × (o ≡ Some place) × (place.thread ≡ t) × (place.index ≡ index)
index_at-is t index None is = absurd (cc)
index_at-is t index (Some place) is = elim (cases_eq place.thread t) [
  | inl same ↦ (place, refl, same, some_same (rw (eq-eqb place.thread t same) at is))
  | inr other ↦ absurd (let none : None ≡ Some index = rw (ne_eqb place.thread t other) at is in cc)
]

pub vacated_same : (places : List (Option Place)) (m : ℕ) → place_at (vacated places m) m ≡ None
vacated_same places m = elim (cases_lt m (length places)) [
  | inl below ↦ get_or-set_same places m None None below
  | inr past ↦ ap (λ ps. place_at ps m) (set_past places m None past) ∙ get_or_past places m None past
]

pub vacated_other : (places : List (Option Place)) (m k : ℕ) → k ≢ m → place_at (vacated places m) k ≡ place_at places k
vacated_other places m k other = get_or-set_other places m k None None other

-- the inboxes once t's timer has given up its place
pub sound_unlisted : (inboxes : List Contents) (places places' : List (Option Place)) (t timer index : ℕ) (inbox : Contents) →
    AreApcsSound inboxes places → index_at t (place_at places timer) ≡ Some index → has_from timer (inbox_at inboxes t).queue ≡ false →
    inbox.queue ≡ (inbox_at inboxes t).queue → GivesUp (inbox_at inboxes t).timers inbox.timers index →
    place_at places' timer ≡ None →
    ((m : ℕ) → m ≢ timer → slice_get inbox.timers index ≡ Some m → place_at places' m ≡ reindexed index (place_at places m)) →
    ((m : ℕ) → m ≢ timer → slice_get inbox.timers index ≢ Some m → place_at places' m ≡ place_at places m) →
    AreApcsSound (slice_set inboxes t inbox) places'
sound_unlisted inboxes places places' t timer index inbox sound at none queue gives gone moved others = record {
  at_place = λ u m has.
      let before : has_from m (inbox_at inboxes u).queue ≡ true = ap (has_from m) (sym (queue_same u)) ∙ has in
      elim (cases_eq m timer) [
        | inl same ↦ absurd (not_timer u (rw same at before))
        | inr other ↦ thread_same m other ∙ sound.at_place u m before
      ];
  once = λ u m. rw (queue_same u) (sound.once u m);
  to_timer = λ m place' is. elim (cases_eq m timer) [
    | inl same ↦ absurd (let no : place_at places' m ≡ None = ap (place_at places') same ∙ gone in cc)
    | inr other ↦ elim (cases_some (slice_get inbox.timers index) m) [
      | inl took ↦
          let whole : Some place' ≡ Some (place_with t index (has_from m (inbox_at inboxes t).queue)) = sym is ∙ moved m (took_other m took) took ∙ ap (reindexed index) (last_place m took) in
          rw (thread_in _ _ whole, index_in _ _ whole, timers_here t refl) took
      | inr not_took ↦ kept_timer m place' other not_took (sym (others m other not_took) ∙ is)
    ]
  ];
  to_place = λ u k m is. elim (cases_eq u t) [
    | inl same ↦ elim (cases_eq k index) [
      | inl at_index ↦
          let took : slice_get inbox.timers index ≡ Some m = rw (same, at_index, timers_here t refl) at is in
          moved m (took_other m took) took ∙ ap (reindexed index) (last_place m took) ∙ placed u k m same at_index
      | inr not_index ↦
          let got : slice_get inbox.timers k ≡ Some m = rw (same, timers_here t refl) at is in
          kept_place u k m same not_index got
    ]
    | inr other ↦ other_place u k m other (rw (inbox_set_other inboxes t u inbox other) at is)
  ];
}
  where
    found : (place : Place) × (place_at places timer ≡ Some place) × (place.thread ≡ t) × (place.index ≡ index)
    found = index_at-is t index (place_at places timer) at

    listed : timer_at inboxes t index ≡ Some timer
    listed = ap (λ u. timer_at inboxes u index) (sym found.2) ∙ ap (timer_at inboxes found.0.thread) (sym found.3) ∙ sound.to_timer timer found.0 found.1

    in_range : t < length inboxes
    in_range = timer_known inboxes t index timer listed

    index_below : index < length (inbox_at inboxes t).timers
    index_below = slice_get_within (inbox_at inboxes t).timers index timer listed

    timers_here : (u : ℕ) → u ≡ t → (inbox_at (slice_set inboxes t inbox) u).timers ≡ inbox.timers
    timers_here u same = ap (λ (held : Contents). held.timers) (inbox_set_at inboxes t u inbox in_range same)

    queue_same : (u : ℕ) → (inbox_at (slice_set inboxes t inbox) u).queue ≡ (inbox_at inboxes u).queue
    queue_same u = elim (cases_eq u t) [
      | inl same ↦ ap (λ (held : Contents). held.queue) (inbox_set_at inboxes t u inbox in_range same) ∙ queue ∙ ap (λ v. (inbox_at inboxes v).queue) (sym same)
      | inr other ↦ ap (λ (held : Contents). held.queue) (inbox_set_other inboxes t u inbox other)
    ]

    not_timer : (u : ℕ) → has_from timer (inbox_at inboxes u).queue ≡ true → ⊥
    not_timer u has =
        let there : thread_of_place (place_at places timer) ≡ Some u = sound.at_place u timer has in
        let here : thread_of_place (place_at places timer) ≡ Some t = ap thread_of_place found.1 ∙ ap Some found.2 in
        let same : u ≡ t = some_same (sym there ∙ here) in
        let no : has_from timer (inbox_at inboxes u).queue ≡ false = ap (λ v. has_from timer (inbox_at inboxes v).queue) same ∙ none in
        cc

    last_listed : (m : ℕ) → slice_get inbox.timers index ≡ Some m → timer_at inboxes t (length (inbox_at inboxes t).timers - 1) ≡ Some m
    last_listed m took =
        let below : index < length inbox.timers = slice_get_within inbox.timers index m took in
        sym (gives.moved (omega (arith, gives.one_less, below))) ∙ took

    last_place : (m : ℕ) → slice_get inbox.timers index ≡ Some m →
        place_at places m ≡ Some (place_with t (length (inbox_at inboxes t).timers - 1) (has_from m (inbox_at inboxes t).queue))
    last_place m took = sound.to_place t (length (inbox_at inboxes t).timers - 1) m (last_listed m took)

    took_other : (m : ℕ) → slice_get inbox.timers index ≡ Some m → m ≢ timer
    took_other m took = λ e. (
        let at_end : length (inbox_at inboxes t).timers - 1 ≡ index = index_in _ _ (sym (last_place m took) ∙ ap (place_at places) e ∙ found.1) ∙ found.3 in
        let below : index < length inbox.timers = slice_get_within inbox.timers index m took in
        omega (arith, gives.one_less, at_end, below))

    thread_same : (m : ℕ) → m ≢ timer → thread_of_place (place_at places' m) ≡ thread_of_place (place_at places m)
    thread_same m other = elim (cases_some (slice_get inbox.timers index) m) [
      | inl took ↦ ap thread_of_place (moved m (took_other m took) took ∙ ap (reindexed index) (last_place m took)) ∙ sym (ap thread_of_place (last_place m took))
      | inr not_took ↦ ap thread_of_place (others m other not_took)
    ]

    placed : (u k m : ℕ) → u ≡ t → k ≡ index →
        Some (place_with t index (has_from m (inbox_at inboxes t).queue)) ≡ Some (place_with u k (has_from m (inbox_at (slice_set inboxes t inbox) u).queue))
    placed u k m same at_index = rw (same, at_index, queue_same t) refl

    kept_timer : (m : ℕ) (place : Place) → m ≢ timer → slice_get inbox.timers index ≢ Some m → place_at places m ≡ Some place →
        timer_at (slice_set inboxes t inbox) place.thread place.index ≡ Some m
    kept_timer m place other not_took is = elim (cases_eq place.thread t) [
      | inl same ↦
          let here : slice_get (inbox_at inboxes t).timers place.index ≡ Some m = rw same at (sound.to_timer m place is) in
          let not_index : place.index ≢ index = λ e. other (some_same (sym here ∙ ap (slice_get (inbox_at inboxes t).timers) e ∙ listed)) in
          let below : place.index < length (inbox_at inboxes t).timers = slice_get_within (inbox_at inboxes t).timers place.index m here in
          rw (timers_here place.thread same) (elim (cases_lt (place.index + 1) (length (inbox_at inboxes t).timers)) [
            | inl less ↦ gives.others place.index not_index less ∙ here
            | inr last ↦
                let is_last : length (inbox_at inboxes t).timers - 1 ≡ place.index = omega arith in
                let more : index + 1 < length (inbox_at inboxes t).timers = omega (arith, not_index, index_below, is_last) in
                absurd (not_took (gives.moved more ∙ ap (slice_get (inbox_at inboxes t).timers) is_last ∙ here))
          ])
      | inr elsewhere ↦ rw (inbox_set_other inboxes t place.thread inbox elsewhere) (sound.to_timer m place is)
    ]

    kept_place : (u k m : ℕ) → u ≡ t → k ≢ index → slice_get inbox.timers k ≡ Some m →
        place_at places' m ≡ Some (place_with u k (has_from m (inbox_at (slice_set inboxes t inbox) u).queue))
    kept_place u k m same not_index got =
        let below : k < length inbox.timers = slice_get_within inbox.timers k m got in
        let less : k + 1 < length (inbox_at inboxes t).timers = omega (arith, gives.one_less, below) in
        let before : timer_at inboxes t k ≡ Some m = sym (gives.others k not_index less) ∙ got in
        let whole : place_at places m ≡ Some (place_with t k (has_from m (inbox_at inboxes t).queue)) = sound.to_place t k m before in
        let other : m ≢ timer = λ e. not_index (index_in _ _ (sym whole ∙ ap (place_at places) e ∙ found.1) ∙ found.3) in
        let not_took : slice_get inbox.timers index ≢ Some m = λ took.
        (let at_end : k ≡ length (inbox_at inboxes t).timers - 1 = index_in _ _ (sym whole ∙ last_place m took) in omega arith) in
        others m other not_took ∙ whole ∙ rw (same, queue_same t) refl

    other_place : (u k m : ℕ) → u ≢ t → timer_at inboxes u k ≡ Some m →
        place_at places' m ≡ Some (place_with u k (has_from m (inbox_at (slice_set inboxes t inbox) u).queue))
    other_place u k m other got =
        let whole : place_at places m ≡ Some (place_with u k (has_from m (inbox_at inboxes u).queue)) = sound.to_place u k m got in
        let not_timer : m ≢ timer = λ e. other (thread_in _ _ (sym whole ∙ ap (place_at places) e ∙ found.1) ∙ found.2) in
        let not_took : slice_get inbox.timers index ≢ Some m = λ took. other (thread_in _ _ (sym whole ∙ last_place m took)) in
        others m not_timer not_took ∙ whole ∙ ap (λ queue. Some (place_with u k (has_from m queue))) (sym (queue_same u))

-- the inboxes once t's has one more timer
pub sound_listed : (inboxes : List Contents) (places places' : List (Option Place)) (t timer : ℕ) (inbox : Contents) →
    AreApcsSound inboxes places → t < length inboxes → place_at places timer ≡ None →
    inbox.queue ≡ (inbox_at inboxes t).queue → inbox.timers ≡ (inbox_at inboxes t).timers ++ timer ∷ [] →
    place_at places' timer ≡ Some (place_with t (length (inbox_at inboxes t).timers) false) →
    ((m : ℕ) → m ≢ timer → place_at places' m ≡ place_at places m) →
    AreApcsSound (slice_set inboxes t inbox) places'
sound_listed inboxes places places' t timer inbox sound in_range none queue timers here others = record {
  at_place = λ u m has.
      let before : has_from m (inbox_at inboxes u).queue ≡ true = ap (has_from m) (sym (queue_same u)) ∙ has in
      elim (cases_eq m timer) [
        | inl same ↦ absurd (let there : thread_of_place (place_at places m) ≡ Some u = sound.at_place u m before in let no : thread_of_place (place_at places m) ≡ None = ap (λ n. thread_of_place (place_at places n)) same ∙ ap thread_of_place none in cc)
        | inr other ↦ ap thread_of_place (others m other) ∙ sound.at_place u m before
      ];
  once = λ u m. rw (queue_same u) (sound.once u m);
  to_timer = λ m place is. elim (cases_eq m timer) [
    | inl same ↦
        let whole : Some place ≡ Some (place_with t (length (inbox_at inboxes t).timers) false) = sym is ∙ ap (place_at places') same ∙ here in
        rw (thread_in _ _ whole, index_in _ _ whole, timers_here t refl, timers) (slice_get-last (inbox_at inboxes t).timers timer ∙ ap Some (sym same))
    | inr other ↦
        let got : timer_at inboxes place.thread place.index ≡ Some m = sound.to_timer m place (sym (others m other) ∙ is) in
        elim (cases_eq place.thread t) [
          | inl same ↦
              let before : slice_get (inbox_at inboxes t).timers place.index ≡ Some m = rw same at got in
              rw (timers_here place.thread same, timers) (slice_get-before (inbox_at inboxes t).timers timer place.index (slice_get_within (inbox_at inboxes t).timers place.index m before) ∙ before)
          | inr elsewhere ↦ rw (inbox_set_other inboxes t place.thread inbox elsewhere) got
        ]
  ];
  to_place = λ u k m is. elim (cases_eq u t) [
    | inl same ↦
        let got : slice_get ((inbox_at inboxes t).timers ++ timer ∷ []) k ≡ Some m = rw (timers_here u same, timers) at is in
        at_thread u k m same got
    | inr other ↦ kept u k m (rw (inbox_set_other inboxes t u inbox other) at is)
  ];
}
  where
    timers_here : (u : ℕ) → u ≡ t → (inbox_at (slice_set inboxes t inbox) u).timers ≡ inbox.timers
    timers_here u same = ap (λ (held : Contents). held.timers) (inbox_set_at inboxes t u inbox in_range same)

    queue_same : (u : ℕ) → (inbox_at (slice_set inboxes t inbox) u).queue ≡ (inbox_at inboxes u).queue
    queue_same u = elim (cases_eq u t) [
      | inl same ↦ ap (λ (held : Contents). held.queue) (inbox_set_at inboxes t u inbox in_range same) ∙ queue ∙ ap (λ v. (inbox_at inboxes v).queue) (sym same)
      | inr other ↦ ap (λ (held : Contents). held.queue) (inbox_set_other inboxes t u inbox other)
    ]

    slice_get-last : (xs : List ℕ) (x : ℕ) → slice_get (xs ++ x ∷ []) (length xs) ≡ Some x
    slice_get-last [] x = refl
    slice_get-last (y ∷ xs) x = slice_get-last xs x

    slice_get-before : (xs : List ℕ) (x k : ℕ) → k < length xs → slice_get (xs ++ x ∷ []) k ≡ slice_get xs k
    slice_get-before [] x k below = absurd (omega arith)
    slice_get-before (y ∷ xs) x zero below = refl
    slice_get-before (y ∷ xs) x (suc k) below = slice_get-before xs x k (omega arith)

    kept : (u k m : ℕ) → timer_at inboxes u k ≡ Some m → place_at places' m ≡ Some (place_with u k (has_from m (inbox_at (slice_set inboxes t inbox) u).queue))
    kept u k m got =
        let whole : place_at places m ≡ Some (place_with u k (has_from m (inbox_at inboxes u).queue)) = sound.to_place u k m got in
        let other : m ≢ timer = λ e. (let no : place_at places m ≡ None = ap (place_at places) e ∙ none in cc) in
        others m other ∙ whole ∙ ap (λ queue. Some (place_with u k (has_from m queue))) (sym (queue_same u))

    none_queued : has_from timer (inbox_at inboxes t).queue ≡ false
    none_queued = elim (cases_Bool (has_from timer (inbox_at inboxes t).queue)) [
      | inl has ↦ absurd (let there : thread_of_place (place_at places timer) ≡ Some t = sound.at_place t timer has in let no : thread_of_place (place_at places timer) ≡ None = ap thread_of_place none in cc)
      | inr fails ↦ fails
    ]

    at_thread : (u k m : ℕ) → u ≡ t → slice_get ((inbox_at inboxes t).timers ++ timer ∷ []) k ≡ Some m →
        place_at places' m ≡ Some (place_with u k (has_from m (inbox_at (slice_set inboxes t inbox) u).queue))
    at_thread u k m same got = elim (cases_lt k (length (inbox_at inboxes t).timers)) [
      | inl below ↦ kept u k m (rw same (sym (slice_get-before (inbox_at inboxes t).timers timer k below) ∙ got))
      | inr past ↦
          let within : k < length ((inbox_at inboxes t).timers ++ timer ∷ []) = slice_get_within ((inbox_at inboxes t).timers ++ timer ∷ []) k m got in
          let more : length ((inbox_at inboxes t).timers ++ timer ∷ []) ≡ length (inbox_at inboxes t).timers + 1 = length-append (inbox_at inboxes t).timers (timer ∷ []) in
          let at_end : k ≡ length (inbox_at inboxes t).timers = omega arith in
          let it : m ≡ timer = some_same (sym got ∙ ap (slice_get ((inbox_at inboxes t).timers ++ timer ∷ [])) at_end ∙ slice_get-last (inbox_at inboxes t).timers timer) in
          ap (place_at places') it ∙ here ∙ rw (same, at_end, it, queue_same t, none_queued) refl
    ]

-- the inboxes once t's is empty
pub sound_cleared : (inboxes : List Contents) (places places' : List (Option Place)) (t : ℕ) (inbox : Contents) →
    AreApcsSound inboxes places → t < length inboxes → inbox.queue ≡ [] → inbox.timers ≡ [] →
    ((m : ℕ) → thread_of_place (place_at places m) ≡ Some t → place_at places' m ≡ None) →
    ((m : ℕ) → thread_of_place (place_at places m) ≢ Some t → place_at places' m ≡ place_at places m) →
    AreApcsSound (slice_set inboxes t inbox) places'
sound_cleared inboxes places places' t inbox sound in_range queue timers gone others = record {
  at_place = λ u m has. elim (cases_eq u t) [
    | inl same ↦ absurd (let no : has_from m (inbox_at (slice_set inboxes t inbox) u).queue ≡ false = ap (has_from m) (ap (λ (held : Contents). held.queue) (inbox_set_at inboxes t u inbox in_range same) ∙ queue) in cc)
    | inr other ↦
        let there : thread_of_place (place_at places m) ≡ Some u = sound.at_place u m (rw (inbox_set_other inboxes t u inbox other) at has) in
        ap thread_of_place (others m (λ e. other (some_same (sym there ∙ e)))) ∙ there
  ];
  once = λ u m. elim (cases_eq u t) [
    | inl same ↦ rw (inbox_set_at inboxes t u inbox in_range same, queue) (omega arith)
    | inr other ↦ rw (inbox_set_other inboxes t u inbox other) (sound.once u m)
  ];
  to_timer = λ m place is. elim (cases_some (thread_of_place (place_at places m)) t) [
    | inl here ↦ absurd (let no : place_at places' m ≡ None = gone m here in cc)
    | inr elsewhere ↦
        let before : place_at places m ≡ Some place = sym (others m elsewhere) ∙ is in
        let other : place.thread ≢ t = λ e. elsewhere (ap thread_of_place before ∙ ap Some e) in
        rw (inbox_set_other inboxes t place.thread inbox other) (sound.to_timer m place before)
  ];
  to_place = λ u k m is. elim (cases_eq u t) [
    | inl same ↦ absurd (let no : timer_at (slice_set inboxes t inbox) u k ≡ None = ap (λ ts. slice_get ts k) (ap (λ (held : Contents). held.timers) (inbox_set_at inboxes t u inbox in_range same) ∙ timers) in cc)
    | inr other ↦
        let whole : place_at places m ≡ Some (place_with u k (has_from m (inbox_at inboxes u).queue)) = sound.to_place u k m (rw (inbox_set_other inboxes t u inbox other) at is) in
        others m (λ e. other (some_same (sym (ap thread_of_place whole) ∙ e))) ∙ whole
        ∙ ap (λ (held : Contents). Some (place_with u k (has_from m held.queue))) (sym (inbox_set_other inboxes t u inbox other))
  ];
}

-- the places of all listed timers go
pub all_vacated_same : (places : List (Option Place)) (timers : List ℕ) (m : ℕ) → place_at places m ≡ None → place_at (all_vacated places timers) m ≡ None
all_vacated_same places [] m none = none
all_vacated_same places (timer ∷ timers) m none = all_vacated_same (vacated places timer) timers m (elim (cases_eq m timer) [
  | inl same ↦ ap (place_at (vacated places timer)) same ∙ vacated_same places timer
  | inr other ↦ vacated_other places timer m other ∙ none
])

pub all_vacated_gone : (places : List (Option Place)) (timers : List ℕ) (k m : ℕ) → slice_get timers k ≡ Some m → place_at (all_vacated places timers) m ≡ None
all_vacated_gone places [] k m is = absurd (cc)
all_vacated_gone places (timer ∷ timers) zero m is =
    all_vacated_same (vacated places timer) timers m (ap (place_at (vacated places timer)) (sym (some_same is)) ∙ vacated_same places timer)
all_vacated_gone places (timer ∷ timers) (suc k) m is = all_vacated_gone (vacated places timer) timers k m is

pub all_vacated_other : (places : List (Option Place)) (timers : List ℕ) (m : ℕ) → ((k : ℕ) → slice_get timers k ≢ Some m) → place_at (all_vacated places timers) m ≡ place_at places m
all_vacated_other places [] m not = refl
all_vacated_other places (timer ∷ timers) m not =
    all_vacated_other (vacated places timer) timers m (λ k. not (suc k)) ∙ vacated_other places timer m (λ e. not 0 (ap Some (sym e)))

-- where an inbox names a timer
pub index_known : (inboxes : List Contents) (places : List (Option Place)) → AreApcsSound inboxes places → (t timer index : ℕ) → index_at t (place_at places timer) ≡ Some index →
    (t < length inboxes) × (index < length (inbox_at inboxes t).timers)
index_known inboxes places sound t timer index at =
    let found : (place : Place) × (place_at places timer ≡ Some place) × (place.thread ≡ t) × (place.index ≡ index) = index_at-is t index (place_at places timer) at in
    let listed : timer_at inboxes t index ≡ Some timer =
    ap (λ u. timer_at inboxes u index) (sym found.2) ∙ ap (timer_at inboxes found.0.thread) (sym found.3) ∙ sound.to_timer timer found.0 found.1 in
    (timer_known inboxes t index timer listed, slice_get_within (inbox_at inboxes t).timers index timer listed)

pub moved_to_same : (places : List (Option Place)) (m index : ℕ) → place_at (moved_to places m index) m ≡ reindexed index (place_at places m)
moved_to_same places m index = elim (cases_lt m (length places)) [
  | inl below ↦ get_or-set_same places m (reindexed index (place_at places m)) None below
  | inr past ↦
      ap (λ ps. place_at ps m) (set_past places m (reindexed index (place_at places m)) past)
      ∙ get_or_past places m None past ∙ sym (ap (reindexed index) (get_or_past places m None past))
]

pub moved_to_other : (places : List (Option Place)) (m index k : ℕ) → k ≢ m → place_at (moved_to places m index) k ≡ place_at places k
moved_to_other places m index k other = get_or-set_other places m k (reindexed index (place_at places m)) None other

-- t's timer gives up its place, and the last timer is moved
pub sound_unlisted_moved : (inboxes : List Contents) (places : List (Option Place)) (t timer index moved : ℕ) (inbox : Contents) →
    AreApcsSound inboxes places → index_at t (place_at places timer) ≡ Some index → has_from timer (inbox_at inboxes t).queue ≡ false →
    inbox.queue ≡ (inbox_at inboxes t).queue → GivesUp (inbox_at inboxes t).timers inbox.timers index → Some moved ≡ slice_get inbox.timers index →
    AreApcsSound (slice_set inboxes t inbox) (moved_to (vacated places timer) moved index)
sound_unlisted_moved inboxes places t timer index moved inbox sound at none queue gives took =
    sound_unlisted inboxes places (moved_to (vacated places timer) moved index) t timer index inbox sound at none queue gives
    (elim (cases_eq timer moved) [
      | inl same ↦ ap (place_at (moved_to (vacated places timer) moved index)) same ∙ moved_to_same (vacated places timer) moved index
          ∙ ap (reindexed index) (ap (place_at (vacated places timer)) (sym same) ∙ vacated_same places timer)
      | inr other ↦ moved_to_other (vacated places timer) moved index timer other ∙ vacated_same places timer
    ])
    (λ m other at_m.
    let it : m ≡ moved = some_same (sym at_m ∙ sym took) in
    ap (place_at (moved_to (vacated places timer) moved index)) it ∙ moved_to_same (vacated places timer) moved index
    ∙ ap (reindexed index) (ap (place_at (vacated places timer)) (sym it) ∙ vacated_other places timer m other))
    (λ m other not_m. moved_to_other (vacated places timer) moved index m (λ e. not_m (sym took ∙ ap Some (sym e))) ∙ vacated_other places timer m other)

-- t's timer gives up its place, and was the last
pub sound_unlisted_last : (inboxes : List Contents) (places : List (Option Place)) (t timer index : ℕ) (inbox : Contents) →
    AreApcsSound inboxes places → index_at t (place_at places timer) ≡ Some index → has_from timer (inbox_at inboxes t).queue ≡ false →
    inbox.queue ≡ (inbox_at inboxes t).queue → GivesUp (inbox_at inboxes t).timers inbox.timers index → None ≡ slice_get inbox.timers index →
    AreApcsSound (slice_set inboxes t inbox) (vacated places timer)
sound_unlisted_last inboxes places t timer index inbox sound at none queue gives last =
    sound_unlisted inboxes places (vacated places timer) t timer index inbox sound at none queue gives
    (vacated_same places timer)
    (λ m other at_m. absurd (cc))
    (λ m other not_m. vacated_other places timer m other)

-- ---- the places of t's timers are taken away

pub cleared_gone : (inboxes : List Contents) (places : List (Option Place)) → AreApcsSound inboxes places → (t m : ℕ) →
    thread_of_place (place_at places m) ≡ Some t → place_at (all_vacated places (inbox_at inboxes t).timers) m ≡ None
cleared_gone inboxes places sound t m at =
    let found : (place : Place) × (place_at places m ≡ Some place) × (place.thread ≡ t) = place_of_thread (place_at places m) t at in
    all_vacated_gone places (inbox_at inboxes t).timers found.0.index m
    (ap (λ u. timer_at inboxes u found.0.index) (sym found.2) ∙ sound.to_timer m found.0 found.1)

pub cleared_other : (inboxes : List Contents) (places : List (Option Place)) → AreApcsSound inboxes places → (t m : ℕ) →
    thread_of_place (place_at places m) ≢ Some t → place_at (all_vacated places (inbox_at inboxes t).timers) m ≡ place_at places m
cleared_other inboxes places sound t m elsewhere =
    all_vacated_other places (inbox_at inboxes t).timers m (λ k is. elsewhere (ap thread_of_place (sound.to_place t k m is)))

given_up-at : (t : ℕ) (o : Option ℕ) → o ≡ Some t → given_up t o ≡ None
given_up-at t None is = refl
given_up-at t (Some thread) is = rw (eq-eqb thread t (some_same is)) refl

given_up-elsewhere : (t : ℕ) (o : Option ℕ) → o ≢ Some t → given_up t o ≡ o
given_up-elsewhere t None other = refl
given_up-elsewhere t (Some thread) other = rw (ne_eqb thread t (λ e. other (ap Some e))) refl

pub cleared_threads : (inboxes : List Contents) (places : List (Option Place)) → AreApcsSound inboxes places → (t m : ℕ) →
    thread_of_place (place_at (all_vacated places (inbox_at inboxes t).timers) m) ≡ given_up t (thread_of_place (place_at places m))
cleared_threads inboxes places sound t m = elim (cases_some (thread_of_place (place_at places m)) t) [
  | inl here ↦ ap thread_of_place (cleared_gone inboxes places sound t m here) ∙ sym (given_up-at t (thread_of_place (place_at places m)) here)
  | inr other ↦ ap thread_of_place (cleared_other inboxes places sound t m other) ∙ sym (given_up-elsewhere t (thread_of_place (place_at places m)) other)
]
