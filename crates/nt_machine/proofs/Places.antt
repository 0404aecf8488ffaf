-- Which places are marked, as a list; objects that are marked as changed are served one after another.
use Rattle.std.proofs.Common.{◌≡◌, ◌<◌, ◌≤◌, ◌^◌, ℕ, zero, suc, ◌+◌, List, [], ◌∷◌, ◌++◌, length, length-append, set, refl, sym, ap, ◌∙◌, subst, arith, append_assoc, Bool, true, false, inl, inr, Contains}
use Rattle.std.specs.Prelude.{◌↔◌}
use Rattle.std.proofs.lemmas.List.{append-nil, length-set}
use Rattle.std.proofs.lemmas.Grind.{flat_map-append}
use Rattle.nt_status.proofs.Lists.{contains_none, contains_first, contains_later, contains_cases, contains_same}
use Rattle.nt_marks.specs.Marks.{is_marked, NoneMarked, IsFirstMarked, AddsMarks, marked_from, marked_places}
use Rattle.nt_calls.specs.Rising.{IsRising, AreRising}
use Rattle.nt_calls.specs.State.{State, pends}
use Rattle.nt_calls.specs.Serving.{sequence, Serve}
use Rattle.nt_machine.specs.Dispatcher.{Dispatcher, Marked, state, with_marked}
use Rattle.nt_machine.specs.Lawful.{IsMachineSound, HasPlaces}
use Rattle.nt_machine.specs.Visits.{FitOnlyIn, Visits}
use Rattle.nt_machine.proofs.Marking.{marks_along}
use Rattle.nt_machine.proofs.Orders.{length-filter-le}
use Rattle.nt_machine.proofs.Walks.{Visits-none, Visits-then, all_served}

-- ---- the list of the marked places

unmarked_here : {P : Type 0} → false ≡ true → P
unmarked_here e = (cc)

none_from : (k : ℕ) (marks : List Bool) → NoneMarked marks → marked_from k marks ≡ []
none_from k [] none = refl
none_from k (false ∷ marks) none = none_from (k + 1) marks (λ place. none (suc place))
none_from k (true ∷ marks) none = absurd (none 0 refl)

pub none_marked : (marks : List Bool) → NoneMarked marks → marked_places marks ≡ []
none_marked marks none = none_from 0 marks none

next_lowest : (a : Bool) (marks : List Bool) (h : ℕ) → IsFirstMarked (a ∷ marks) (suc h) → IsFirstMarked marks h
next_lowest a marks h lowest = record { here = lowest.here; none_below = λ lower below. lowest.none_below (suc lower) (omega (arith, below)) }

lowest_from : (k : ℕ) (marks : List Bool) (h : ℕ) → IsFirstMarked marks h → marked_from k marks ≡ (k + h) ∷ marked_from k (set marks h false)
lowest_from k [] h lowest = unmarked_here lowest.here
lowest_from k (false ∷ marks) zero lowest = unmarked_here lowest.here
lowest_from k (true ∷ marks) zero lowest = ap (λ (n : ℕ). n ∷ marked_from (k + 1) marks) (omega arith)
lowest_from k (false ∷ marks) (suc h) lowest = lowest_from (k + 1) marks h (next_lowest false marks h lowest) ∙ ap (λ (n : ℕ). n ∷ marked_from (k + 1) (set marks h false)) (omega arith)
lowest_from k (true ∷ marks) (suc h) lowest = absurd (lowest.none_below 0 (omega arith) refl)

-- the lowest comes first, and without its mark the others are left
pub lowest_first : (marks : List Bool) (h : ℕ) → IsFirstMarked marks h → marked_places marks ≡ h ∷ marked_places (set marks h false)
lowest_first marks h lowest = lowest_from 0 marks h lowest ∙ ap (λ (n : ℕ). n ∷ marked_places (set marks h false)) (omega arith)

from_member : (k : ℕ) (marks : List Bool) (x : ℕ) → Contains (marked_from k marks) x → (place : ℕ) × (x ≡ k + place) × (is_marked marks place ≡ true)
from_member k [] x m = absurd (contains_none x m)
from_member k (false ∷ marks) x m = let rest = from_member (k + 1) marks x m in (suc rest.0, let e = rest.1 in omega (arith, e), rest.2)
from_member k (true ∷ marks) x m = elim (contains_cases k (marked_from (k + 1) marks) x m) [
  | inl same ↦ (0, omega (arith, same), refl)
  | inr later ↦ let rest = from_member (k + 1) marks x later in (suc rest.0, let e = rest.1 in omega (arith, e), rest.2)
]

member_from : (k : ℕ) (marks : List Bool) (place : ℕ) → is_marked marks place ≡ true → Contains (marked_from k marks) (k + place)
member_from k [] place at = unmarked_here at
member_from k (false ∷ marks) zero at = unmarked_here at
member_from k (true ∷ marks) zero at = contains_first k (marked_from (k + 1) marks) (k + zero) (omega arith)
member_from k (false ∷ marks) (suc place) at = contains_same (marked_from (k + 1) marks) (k + 1 + place) (k + suc place) (omega arith) (member_from (k + 1) marks place at)
member_from k (true ∷ marks) (suc place) at = contains_later k (marked_from (k + 1) marks) (k + suc place) (contains_same (marked_from (k + 1) marks) (k + 1 + place) (k + suc place) (omega arith) (member_from (k + 1) marks place at))

from_rising : (k : ℕ) (marks : List Bool) → IsRising (marked_from k marks)
from_rising k [] = tt
from_rising k (false ∷ marks) = from_rising (k + 1) marks
from_rising k (true ∷ marks) = (λ y m. let place = from_member (k + 1) marks y m in let e = place.1 in omega (arith, e), from_rising (k + 1) marks)

pub place_member : (marks : List Bool) (h : ℕ) → is_marked marks h ≡ true → Contains (marked_places marks) h
place_member marks h at = contains_same (marked_places marks) (0 + h) h (omega arith) (member_from 0 marks h at)

pub member_marked : (marks : List Bool) (h : ℕ) → Contains (marked_places marks) h → is_marked marks h ≡ true
member_marked marks h m = let place = from_member 0 marks h m in ap (λ (k : ℕ). is_marked marks k) (let e = place.1 in let same : h ≡ place.0 = omega (arith, e) in same) ∙ place.2

-- where exactly those are marked that have a property, the list is theirs
pub places_rising : (property : ℕ → Type 0) (marks : List Bool) → ((h : ℕ) → (is_marked marks h ≡ true) ↔ property h) → AreRising property (marked_places marks)
places_rising property marks exactly = record {
  rising = from_rising 0 marks;
  exactly = λ h. (λ m. (exactly h).0 (member_marked marks h m), λ has. place_member marks h ((exactly h).1 has));
}

last_from : (k : ℕ) (marks : List Bool) (h : ℕ) → h < length marks → ((x : ℕ) → Contains (marked_from k marks) x → x < k + h) → marked_from k (set marks h true) ≡ marked_from k marks ++ (k + h) ∷ []
last_from k [] h known below = absurd (omega (arith, known))
last_from k (false ∷ marks) zero known below = over k (marked_from (k + 1) marks) (λ x m. let lt = below x m in let place = from_member (k + 1) marks x m in let e = place.1 in omega (arith, lt, e))
  where
    over : (k : ℕ) (rest : List ℕ) → ((x : ℕ) → Contains rest x → ⊥) → k ∷ rest ≡ rest ++ (k + 0) ∷ []
    over k [] none = ap (λ (n : ℕ). n ∷ []) (omega arith)
    over k (x ∷ rest) none = absurd (none x (contains_first x rest x refl))
last_from k (true ∷ marks) zero known below = let lt = below k (contains_first k (marked_from (k + 1) marks) k refl) in absurd (omega (arith, lt))
last_from k (false ∷ marks) (suc h) known below =
    last_from (k + 1) marks h (omega (arith, known)) (λ x m. let lt = below x m in omega (arith, lt)) ∙ ap (λ (n : ℕ). marked_from (k + 1) marks ++ n ∷ []) (omega arith)
last_from k (true ∷ marks) (suc h) known below =
    ap (λ (xs : List ℕ). k ∷ xs) (last_from (k + 1) marks h (omega (arith, known)) (λ x m. let lt = below x (contains_later k (marked_from (k + 1) marks) x m) in omega (arith, lt)) ∙ ap (λ (n : ℕ). marked_from (k + 1) marks ++ n ∷ []) (omega arith))

-- a place above all that are marked comes last, once it is marked
pub marked_last : (marks : List Bool) (h : ℕ) → h < length marks → ((x : ℕ) → Contains (marked_places marks) x → x < h) → marked_places (set marks h true) ≡ marked_places marks ++ h ∷ []
marked_last marks h known below =
    last_from 0 marks h known (λ x m. let lt = below x m in omega (arith, lt)) ∙ ap (λ (n : ℕ). marked_places marks ++ n ∷ []) (omega arith)

-- ---- one place more is marked

pub set_mark : (marks : List Bool) (t : ℕ) → t < length marks → is_marked (set marks t true) t ≡ true
set_mark [] t below = absurd (omega (arith, below))
set_mark (a ∷ marks) zero below = refl
set_mark (a ∷ marks) (suc t) below = set_mark marks t (omega (arith, below))

pub set_kept : (marks : List Bool) (t k : ℕ) → is_marked marks k ≡ true → is_marked (set marks t true) k ≡ true
set_kept [] t k is = is
set_kept (a ∷ marks) zero zero is = refl
set_kept (a ∷ marks) zero (suc k) is = is
set_kept (a ∷ marks) (suc t) zero is = is
set_kept (a ∷ marks) (suc t) (suc k) is = set_kept marks t k is

-- marks that are added for a property are added for another that says the same
pub adds_as : (P Q : ℕ → Type 0) (old new : List Bool) → ((k : ℕ) → P k ↔ Q k) → AddsMarks P old new → AddsMarks Q old new
adds_as P Q old new same adds = record {
  count = adds.count;
  exactly = λ k. (
    λ mark. elim ((adds.exactly k).0 mark) [
      | inl before ↦ inl before
      | inr has ↦ inr ((same k).0 has)
    ],
    λ has. elim has [
      | inl before ↦ (adds.exactly k).1 (inl before)
      | inr own ↦ (adds.exactly k).1 (inr ((same k).1 own))
    ],
  );
}

-- ---- other marks

-- soundness asks of these marks only that there is a place for each
pub sound_marked : (d : Dispatcher) (marked : Marked) → IsMachineSound d → HasPlaces d.threads d.objects marked → IsMachineSound (with_marked d marked)
sound_marked d marked sound places = record {
  few = sound.few;
  waits = sound.waits;
  blocks = sound.blocks;
  hands = sound.hands;
  standings = sound.standings;
  inboxes = sound.inboxes;
  objects = sound.objects;
  own = sound.own;
  none_else = sound.none_else;
  timers = sound.timers;
  handles = sound.handles;
  marks = marks_along refl refl refl (λ o. refl) refl sound.marks;
  places = places;
  room = sound.room;
}

pub remarked : (threads : List ℕ) (old new : Dispatcher) (marked : Marked) → Visits threads old new → Visits threads (with_marked old marked) (with_marked new marked)
remarked threads old new marked visits = record {
  ended = visits.ended;
  grants = visits.grants;
  granted = visits.granted;
  over = visits.over;
  queues = visits.queues;
  most = visits.most;
  least = visits.least;
  marked = refl;
}

-- ---- the marked objects, one after another

-- the waits on some of the marked objects were served, and the others are marked still
pub record ServedSoFar (old now : Dispatcher) : Type 0 where
  pub objects : List ℕ
  pub split : marked_places old.marked.changed ≡ objects ++ marked_places now.marked.changed
  pub visits : Visits (sequence (state old) objects) (with_marked old now.marked) now
  pub alerted : now.marked.alerted ≡ old.marked.alerted
  pub sound : IsMachineSound now

pub served_none : (d : Dispatcher) → IsMachineSound d → ServedSoFar d d
served_none d sound = record {
  objects = [];
  split = refl;
  visits = Visits-none d sound.blocks;
  alerted = refl;
  sound = sound;
}

-- the dispatcher once the lowest mark is taken away
abbrev pub without_mark : Dispatcher → ℕ → Dispatcher
without_mark d h = with_marked d (record d.marked { changed = set d.marked.changed h false })

pub changed_sound : (now mid : Dispatcher) (h : ℕ) → IsMachineSound now → mid ≡ without_mark now h → IsMachineSound mid
changed_sound now mid h sound is =
    subst IsMachineSound (sym is) (sound_marked now (record now.marked { changed = set now.marked.changed h false }) sound (record { changed = length-set now.marked.changed h false ∙ sound.places.changed; alerted = sound.places.alerted }))

one_more : (s : State) (objects : List ℕ) (h : ℕ) → sequence s (objects ++ h ∷ []) ≡ sequence s objects ++ s.queues h
one_more s objects h = flat_map-append s.queues objects (h ∷ []) ∙ ap (λ (q : List ℕ). sequence s objects ++ q) (append-nil (s.queues h))

pub served_next : (old now mid new : Dispatcher) (h : ℕ) → ServedSoFar old now → IsFirstMarked now.marked.changed h → mid ≡ without_mark now h → Visits ((state mid).queues h) mid new → IsMachineSound new → ServedSoFar old new
served_next old now mid new h far lowest is visits sound = record {
  objects = far.objects ++ h ∷ [];
  split = far.split ∙ (ap (λ (xs : List ℕ). far.objects ++ xs) (lowest_first now.marked.changed h lowest) ∙ (sym (append_assoc far.objects (h ∷ []) (marked_places (set now.marked.changed h false))) ∙ ap (λ (m : Marked). (far.objects ++ h ∷ []) ++ marked_places m.changed) (sym marks)));
  visits =
      subst (λ (q : List ℕ). Visits q (with_marked old new.marked) new) (sym (one_more (state old) far.objects h))
      (Visits-then (sequence (state old) far.objects) ((state old).queues h) (with_marked old new.marked) mid new before
      (subst (λ (q : List ℕ). Visits q mid new) (before.queues h) visits));
  alerted = ap (λ (m : Marked). m.alerted) marks ∙ far.alerted;
  sound = sound;
}
  where
    marks : new.marked ≡ record now.marked { changed = set now.marked.changed h false }
    marks = visits.marked ∙ ap (λ (d : Dispatcher). d.marked) is

    before : Visits (sequence (state old) far.objects) (with_marked old new.marked) mid
    before =
        subst (λ (d : Dispatcher). Visits (sequence (state old) far.objects) (with_marked old new.marked) d) (sym is)
        (subst (λ (m : Marked). Visits (sequence (state old) far.objects) (with_marked old m) (without_mark now h)) (sym marks)
        (remarked (sequence (state old) far.objects) (with_marked old now.marked) now (record now.marked { changed = set now.marked.changed h false }) far.visits))

-- the looks that are still to come fit the counter
pub served_countable : (old now mid : Dispatcher) (h : ℕ) → ServedSoFar old now → IsFirstMarked now.marked.changed h → mid ≡ without_mark now h → old.table.looked + length (sequence (state old) (marked_places old.marked.changed)) < 2 ^ 64 → mid.table.looked + length ((state mid).queues h) < 2 ^ 64
served_countable old now mid h far lowest is few =
    subst (λ (d : Dispatcher). d.table.looked + length ((state d).queues h) < 2 ^ 64) (sym is) here
  where
    rest : List ℕ
    rest = marked_places (set now.marked.changed h false)

    all : marked_places old.marked.changed ≡ (far.objects ++ h ∷ []) ++ rest
    all = far.split ∙ (ap (λ (xs : List ℕ). far.objects ++ xs) (lowest_first now.marked.changed h lowest) ∙ sym (append_assoc far.objects (h ∷ []) rest))

    here : now.table.looked + length ((state now).queues h) < 2 ^ 64
    here =
        let whole : length (sequence (state old) (marked_places old.marked.changed)) ≡ length (sequence (state old) (far.objects ++ h ∷ []) ++ sequence (state old) rest) = ap (λ (q : List ℕ). length q) (ap (λ (xs : List ℕ). sequence (state old) xs) all ∙ flat_map-append (state old).queues (far.objects ++ h ∷ []) rest) in
        let parts = length-append (sequence (state old) (far.objects ++ h ∷ [])) (sequence (state old) rest) in
        let done : length (sequence (state old) (far.objects ++ h ∷ [])) ≡ length (sequence (state old) far.objects ++ (state old).queues h) = ap (λ (q : List ℕ). length q) (one_more (state old) far.objects h) in
        let both = length-append (sequence (state old) far.objects) ((state old).queues h) in
        let left : length ((state now).queues h) ≤ length ((state old).queues h) = rw (far.visits.queues h) (length-filter-le (pends (state now)) ((state old).queues h)) in
        let most = far.visits.most in
        omega (arith, few, whole, parts, done, both, left, most)

pub served_end : (old now : Dispatcher) → ServedSoFar old now → NoneMarked now.marked.changed → Visits (sequence (state old) (marked_places old.marked.changed)) (with_marked old now.marked) now
served_end old now far none =
    subst (λ (xs : List ℕ). Visits (sequence (state old) xs) (with_marked old now.marked) now)
    (sym (far.split ∙ (ap (λ (xs : List ℕ). far.objects ++ xs) (none_marked now.marked.changed none) ∙ append-nil far.objects)))
    far.visits

-- where only these waits can fit, all that fitted were granted, and no more were tested
pub serving_whole : (threads : List ℕ) (old new : Dispatcher) → old.grants ≡ [] → old.table.looked ≡ 0 → FitOnlyIn threads (state old) → Visits threads old new → Serve threads (state old) new.grants (state new) × (new.table.looked ≤ length threads) × (length new.grants ≤ new.table.looked)
serving_whole threads old new first anew local visits = (
  all_served threads old new first local visits,
  let most = visits.most in omega (arith, most, anew),
  let same : length new.grants ≡ length visits.ended = ap (λ gs. length gs) (visits.grants ∙ ap (λ gs. gs ++ visits.ended) first) in let least = visits.least in omega (arith, same, least, anew),
)
