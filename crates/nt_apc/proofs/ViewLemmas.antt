-- The queues and the threads of places, as callers see them.
use Rattle.std.proofs.Common.{◌≤◌, ◌+◌, ◌++◌, take, zero, suc, replicate, arith, ◌≡◌, ◌≢◌, ℕ, ◌<◌, true, false, not, ◌==◌, List, [], ◌∷◌, length, map, slice_index_or, slice_set, Option, Some, None, refl, sym, ◌∙◌, ap, subst, inl, inr}
use Rattle.std.proofs.lemmas.Bool.{cases_eq, cases_Bool, ne_eqb}
use Rattle.std.proofs.lemmas.List.Folds.{list_any_at, list_any_none}
use Rattle.std.proofs.lemmas.List.{get_or-map as get_or-map_within, get_or-set_same, get_or-set_other, map-set, set-get_or, get_or_default, length-map, length-set, same_lists, map-append, take_more, take_all}
use Rattle.std.proofs.Math.ListN.{get_or-map}
use Rattle.std.specs.Prelude.{slice_get, Contains, AllPairs}
use Rattle.std.specs.List.{list_any}
use Rattle.std.proofs.lemmas.Option.{slice_get_within, slice_get-get_or}
use Rattle.nt_apc.specs.declared.apc.Queued.{Queued}
use Rattle.nt_apc.specs.declared.place.Place.{Place}
use Rattle.nt_apc.specs.Queues.{KeepsPlaces, apc_queue_of, place_of, has_from, is_queued, without_from, withdrawn, withdrawn_at}
use Rattle.nt_apc.proofs.SoundLemmas.{place_known, place_of_thread, some_same, sound_same}
use Rattle.nt_apc.proofs.QueueLemmas.{without_from-none}
use Rattle.nt_apc.specs.Inbox.{Contents}
use Rattle.nt_apc.specs.Place.{inbox_at, timer_at, place_at, thread_of_place, queues_in, threads_in, AreApcsSound, timers_in, KeepsSound}

pub queue_of-queues_in : (inboxes : List Contents) (t : ℕ) → apc_queue_of (queues_in inboxes) t ≡ (inbox_at inboxes t).queue
queue_of-queues_in inboxes t = get_or-map (λ (inbox : Contents). inbox.queue) inboxes t (record { queue = []; timers = []; room = 0 })

pub place_of-threads_in : (places : List (Option Place)) (m : ℕ) → place_of (threads_in places) m ≡ thread_of_place (place_at places m)
place_of-threads_in places m = get_or-map thread_of_place places m None

pub queues_in-set : (inboxes : List Contents) (t : ℕ) (inbox : Contents) → queues_in (slice_set inboxes t inbox) ≡ slice_set (queues_in inboxes) t inbox.queue
queues_in-set inboxes t inbox = map-set (λ (inbox : Contents). inbox.queue) inboxes t inbox

-- one inbox gets another queue, made from its old one
pub queues_in-set_by : (inboxes : List Contents) (t : ℕ) (inbox : Contents) (f : List Queued → List Queued) → inbox.queue ≡ f (inbox_at inboxes t).queue →
    queues_in (slice_set inboxes t inbox) ≡ slice_set (queues_in inboxes) t (f (apc_queue_of (queues_in inboxes) t))
queues_in-set_by inboxes t inbox f is =
    queues_in-set inboxes t inbox ∙ ap (slice_set (queues_in inboxes) t) (is ∙ ap f (sym (queue_of-queues_in inboxes t)))

-- one inbox keeps its queue
pub queues_in-set_same : (inboxes : List Contents) (t : ℕ) (inbox : Contents) → inbox.queue ≡ (inbox_at inboxes t).queue → queues_in (slice_set inboxes t inbox) ≡ queues_in inboxes
queues_in-set_same inboxes t inbox is = queues_in-set_by inboxes t inbox (λ queue. queue) is ∙ set-get_or (queues_in inboxes) t []

-- an inbox that is read
pub read_at : (inboxes : List Contents) (t at : ℕ) (default : Contents) → at ≡ t → t < length inboxes → slice_index_or inboxes at default ≡ inbox_at inboxes t
read_at inboxes t at default same below = ap (λ u. slice_index_or inboxes u default) same ∙ get_or_default inboxes t default _ below

-- no APC of this timer is in t's queue
pub queues_in-without_none : (inboxes : List Contents) (t timer : ℕ) → has_from timer (inbox_at inboxes t).queue ≡ false →
    queues_in inboxes ≡ withdrawn_at (queues_in inboxes) t timer
queues_in-without_none inboxes t timer none =
    sym (ap (slice_set (queues_in inboxes) t)
    (without_from-none timer (apc_queue_of (queues_in inboxes) t) (ap (has_from timer) (queue_of-queues_in inboxes t) ∙ none))
    ∙ set-get_or (queues_in inboxes) t [])

-- what callers may rely on
pub sound_keeps : (inboxes : List Contents) (places : List (Option Place)) → AreApcsSound inboxes places → KeepsPlaces (record { queues = queues_in inboxes; places = threads_in places })
sound_keeps inboxes places sound = record {
  at_place = λ t m has. place_of-threads_in places m ∙ sound.at_place t m (sym (ap (has_from m) (queue_of-queues_in inboxes t)) ∙ has);
  once = λ t m. rw (queue_of-queues_in inboxes t) (sound.once t m);
  known = λ t m at. rw (length-map inboxes (λ (inbox : Contents). inbox.queue)) (place_known inboxes places sound m t (sym (place_of-threads_in places m) ∙ at));
}

-- a timer's APC is not in another queue than its place is
elsewhere_none : (inboxes : List Contents) (places : List (Option Place)) → AreApcsSound inboxes places → (u t m : ℕ) → thread_of_place (place_at places m) ≡ Some t → u ≢ t →
    has_from m (inbox_at inboxes u).queue ≡ false
elsewhere_none inboxes places sound u t m placed other = elim (cases_Bool (has_from m (inbox_at inboxes u).queue)) [
  | inl has ↦ let at : thread_of_place (place_at places m) ≡ Some u = sound.at_place u m has in absurd (other (cc))
  | inr none ↦ none
]

-- whether any queue has the timer's APC, where its place is known
pub queued_anywhere : (inboxes : List Contents) (places : List (Option Place)) → AreApcsSound inboxes places → (t m : ℕ) → thread_of_place (place_at places m) ≡ Some t →
    has_from m (inbox_at inboxes t).queue ≡ is_queued (queues_in inboxes) m
queued_anywhere inboxes places sound t m placed = elim (cases_Bool (has_from m (inbox_at inboxes t).queue)) [
  | inl has ↦ has ∙ sym (list_any_at (has_from m) (queues_in inboxes) t []
      (rw (length-map inboxes (λ (inbox : Contents). inbox.queue)) (place_known inboxes places sound m t placed))
      (ap (has_from m) (queue_of-queues_in inboxes t) ∙ has))
  | inr none ↦ none ∙ sym (list_any_none (has_from m) (queues_in inboxes) (λ k d below. nowhere none k d below))
]
  where
    nowhere : has_from m (inbox_at inboxes t).queue ≡ false → (k : ℕ) (d : List Queued) → k < length (queues_in inboxes) → has_from m (slice_index_or (queues_in inboxes) k d) ≡ false
    nowhere none k d below =
        let there : has_from m (slice_index_or (queues_in inboxes) k d) ≡ has_from m (inbox_at inboxes k).queue =
        ap (has_from m) (get_or_default (queues_in inboxes) k d [] below ∙ queue_of-queues_in inboxes k) in
        elim (cases_eq k t) [
          | inl same ↦ there ∙ ap (λ u. has_from m (inbox_at inboxes u).queue) same ∙ none
          | inr other ↦ there ∙ elsewhere_none inboxes places sound k t m placed other
        ]

pub withdrawn_anywhere : (inboxes : List Contents) (places : List (Option Place)) → AreApcsSound inboxes places → (t m : ℕ) → thread_of_place (place_at places m) ≡ Some t →
    withdrawn_at (queues_in inboxes) t m ≡ withdrawn (queues_in inboxes) m
withdrawn_anywhere inboxes places sound t m placed =
    same_lists (withdrawn_at (queues_in inboxes) t m) (withdrawn (queues_in inboxes) m)
    (length-set (queues_in inboxes) t (without_from m (apc_queue_of (queues_in inboxes) t)) ∙ sym (length-map (queues_in inboxes) (without_from m)))
    (λ k d below. at k d (subst (λ n. k < n) (length-set (queues_in inboxes) t (without_from m (apc_queue_of (queues_in inboxes) t))) below))
  where
    at : (k : ℕ) (d : List Queued) → k < length (queues_in inboxes) → slice_index_or (withdrawn_at (queues_in inboxes) t m) k d ≡ slice_index_or (withdrawn (queues_in inboxes) m) k d
    at k d below =
        let right : slice_index_or (withdrawn (queues_in inboxes) m) k d ≡ without_from m (apc_queue_of (queues_in inboxes) k) = get_or-map_within (without_from m) (queues_in inboxes) k [] d below in
        elim (cases_eq k t) [
          | inl same ↦
              let known : t < length (queues_in inboxes) = subst (λ u. u < length (queues_in inboxes)) same below in
              ap (λ u. slice_index_or (withdrawn_at (queues_in inboxes) t m) u d) same
              ∙ get_or-set_same (queues_in inboxes) t (without_from m (apc_queue_of (queues_in inboxes) t)) d known
              ∙ ap (λ u. without_from m (apc_queue_of (queues_in inboxes) u)) (sym same) ∙ sym right
          | inr other ↦
              get_or-set_other (queues_in inboxes) t k _ d other
              ∙ get_or_default (queues_in inboxes) k d [] below
              ∙ sym (without_from-none m (apc_queue_of (queues_in inboxes) k)
              (ap (has_from m) (queue_of-queues_in inboxes k) ∙ elsewhere_none inboxes places sound k t m placed other))
              ∙ sym right
        ]

replicate_empty : {X : Type 0} (n i : ℕ) (xs : List X) → slice_index_or (replicate n xs) i xs ≡ xs
replicate_empty zero i xs = refl
replicate_empty (suc n) zero xs = refl
replicate_empty (suc n) (suc i) xs = replicate_empty n i xs

-- nobody has an APC or a promise
pub empty_sound : (inboxes : List Contents) (n : ℕ) → map (λ (inbox : Contents). inbox.queue) inboxes ≡ replicate n [] → map (λ (inbox : Contents). inbox.timers) inboxes ≡ replicate n [] →
    AreApcsSound inboxes []
empty_sound inboxes n queues timers = record {
  at_place = λ t m has. absurd (let none : has_from m (inbox_at inboxes t).queue ≡ false = ap (has_from m) (no_queue t) in cc);
  once = λ t m. rw (no_queue t) (omega arith);
  to_timer = λ m place is. absurd (cc);
  to_place = λ t k m is. absurd (let none : slice_get (inbox_at inboxes t).timers k ≡ None = ap (λ ts. slice_get ts k) (no_timer t) in cc);
}
  where
    no_queue : (t : ℕ) → (inbox_at inboxes t).queue ≡ []
    no_queue t = sym (queue_of-queues_in inboxes t) ∙ ap (λ qs. slice_index_or qs t []) queues ∙ replicate_empty n t []

    no_timer : (t : ℕ) → (inbox_at inboxes t).timers ≡ []
    no_timer t = sym (get_or-map (λ (inbox : Contents). inbox.timers) inboxes t (record { queue = []; timers = []; room = 0 })) ∙ ap (λ ts. slice_index_or ts t []) timers ∙ replicate_empty n t []

-- the timers of an inbox are those whose place is there
pub listed : (inboxes : List Contents) (places : List (Option Place)) → AreApcsSound inboxes places → (t m : ℕ) →
    Contains (inbox_at inboxes t).timers m → place_of (threads_in places) m ≡ Some t
listed inboxes places sound t m at =
    place_of-threads_in places m
    ∙ ap thread_of_place (sound.to_place t at.0 m (slice_get-get_or (inbox_at inboxes t).timers at.0 m at.1 ∙ ap Some at.2))

pub listed_all : (inboxes : List Contents) (places : List (Option Place)) → AreApcsSound inboxes places → (t m : ℕ) →
    place_of (threads_in places) m ≡ Some t → Contains (inbox_at inboxes t).timers m
listed_all inboxes places sound t m at =
    let found : (place : Place) × (place_at places m ≡ Some place) × (place.thread ≡ t) = place_of_thread (place_at places m) t (sym (place_of-threads_in places m) ∙ at) in
    let got : timer_at inboxes t found.0.index ≡ Some m = ap (λ u. timer_at inboxes u found.0.index) (sym found.2) ∙ sound.to_timer m found.0 found.1 in
    let below : found.0.index < length (inbox_at inboxes t).timers = slice_get_within (inbox_at inboxes t).timers found.0.index m got in
    (found.0.index, below, some_same (sym (slice_get-get_or (inbox_at inboxes t).timers found.0.index m below) ∙ got))

pub listed_once : (inboxes : List Contents) (places : List (Option Place)) → AreApcsSound inboxes places → (t : ℕ) → AllPairs (λ a b. a ≢ b) (inbox_at inboxes t).timers
listed_once inboxes places sound t i j d less below same =
    let first = sound.to_place t i _ (slice_get-get_or (inbox_at inboxes t).timers i d (omega arith)) in
    let second = sound.to_place t j _ (slice_get-get_or (inbox_at inboxes t).timers j d below) in
    let index : i ≡ j = index_of _ _ (sym first ∙ ap (place_at places) same ∙ second) in
    absurd (omega arith)
  where
    index_of : (place place' : Place) → Some place ≡ Some place' → place.index ≡ place'.index
    index_of place place' e = let same : place ≡ place' = cc in ap (λ (p : Place). p.index) same

-- a test of no APC at all
pub is_empty-is : (queue : List Queued) → (length queue == 0) ≡ not (list_any (λ _. true) queue)
is_empty-is [] = refl
is_empty-is (q ∷ queue) = ne_eqb (suc (length queue)) 0 (λ e. absurd (omega arith))

-- a thread with a queue has an inbox
pub has_inbox : (inboxes : List Contents) (t : ℕ) → t < length (queues_in inboxes) → t < length inboxes
has_inbox inboxes t below = subst (λ n. t < n) (length-map inboxes (λ (inbox : Contents). inbox.queue)) below

-- a timer with no place has no APC in any queue
pub withdrawn_nowhere : (inboxes : List Contents) (places : List (Option Place)) → AreApcsSound inboxes places → (m : ℕ) → place_at places m ≡ None →
    withdrawn (queues_in inboxes) m ≡ queues_in inboxes
withdrawn_nowhere inboxes places sound m nowhere =
    same_lists (withdrawn (queues_in inboxes) m) (queues_in inboxes) (length-map (queues_in inboxes) (without_from m))
    (λ k d below. at k d (subst (λ n. k < n) (length-map (queues_in inboxes) (without_from m)) below))
  where
    none : (k : ℕ) → has_from m (inbox_at inboxes k).queue ≡ false
    none k = elim (cases_Bool (has_from m (inbox_at inboxes k).queue)) [
      | inl has ↦ let there : thread_of_place (place_at places m) ≡ Some k = sound.at_place k m has in let gone : thread_of_place (place_at places m) ≡ None = ap thread_of_place nowhere in absurd (cc)
      | inr fails ↦ fails
    ]

    at : (k : ℕ) (d : List Queued) → k < length (queues_in inboxes) → slice_index_or (withdrawn (queues_in inboxes) m) k d ≡ slice_index_or (queues_in inboxes) k d
    at k d below =
        let mapped : slice_index_or (withdrawn (queues_in inboxes) m) k d ≡ without_from m (apc_queue_of (queues_in inboxes) k) = get_or-map_within (without_from m) (queues_in inboxes) k [] d below in
        mapped
        ∙ without_from-none m (apc_queue_of (queues_in inboxes) k) (ap (has_from m) (queue_of-queues_in inboxes k) ∙ none k)
        ∙ get_or_default (queues_in inboxes) k [] d below

pub threads_kept : (old new : List (Option Place)) → ((m : ℕ) → place_at new m ≡ place_at old m) → (m : ℕ) → place_of (threads_in new) m ≡ place_of (threads_in old) m
threads_kept old new kept m = place_of-threads_in new m ∙ ap thread_of_place (kept m) ∙ sym (place_of-threads_in old m)

-- inboxes with the same queues and timers
pub copied_sound : (inboxes inboxes' : List Contents) → queues_in inboxes' ≡ queues_in inboxes → timers_in inboxes' ≡ timers_in inboxes → KeepsSound inboxes inboxes'
copied_sound inboxes inboxes' queues timers places sound =
    sound_same inboxes inboxes' places places
    (λ t. sym (queue_of-queues_in inboxes' t) ∙ ap (λ qs. slice_index_or qs t []) queues ∙ queue_of-queues_in inboxes t)
    (λ t. sym (timers_at inboxes' t) ∙ ap (λ ts. slice_index_or ts t []) timers ∙ timers_at inboxes t)
    (λ m. refl) sound
  where
    timers_at : (held : List Contents) (t : ℕ) → slice_index_or (timers_in held) t [] ≡ (inbox_at held t).timers
    timers_at held t = get_or-map (λ (inbox : Contents). inbox.timers) held t (record { queue = []; timers = []; room = 0 })

-- one more inbox is copied
pub copied_more : {X : Type 0} (f : Contents → X) (inboxes copied : List Contents) (i : ℕ) (inbox d : Contents) →
    map f copied ≡ take i (map f inboxes) → i < length inboxes → f inbox ≡ f (slice_index_or inboxes i d) → map f (copied ++ inbox ∷ []) ≡ take (i + 1) (map f inboxes)
copied_more f inboxes copied i inbox d so_far below same =
    map-append f copied (inbox ∷ [])
    ∙ ap (λ xs. xs ++ f inbox ∷ []) so_far
    ∙ ap (λ x. take i (map f inboxes) ++ x ∷ []) (same ∙ sym (get_or-map f inboxes i d))
    ∙ sym (take_more (map f inboxes) i (f d) (rw (length-map inboxes f) below))

-- all inboxes are copied
pub copied_all : {X : Type 0} (f : Contents → X) (inboxes copied : List Contents) (i : ℕ) →
    map f copied ≡ take i (map f inboxes) → length inboxes ≤ i → map f copied ≡ map f inboxes
copied_all f inboxes copied i so_far past = so_far ∙ take_all i (map f inboxes) (rw (length-map inboxes f) past)
