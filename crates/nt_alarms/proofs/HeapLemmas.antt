-- Ranks that are exchanged, and what the heap says of all alarms.
use Rattle.std.proofs.Common.{◌≡◌, ◌≢◌, ℕ, zero, suc, ◌+◌, ◌-◌, ◌*◌, ◌/◌, ◌<◌, ◌≤◌, ◌^◌, ◌⊎◌, inl, inr, true, false, List, [], ◌∷◌, ◌++◌, length, slice_set, Option, Some, None, refl, sym, ◌∙◌, ap, subst, arith, length-append, length-set, get_or-set_other, get_or-set_same}
use Rattle.std.proofs.lemmas.List.{get_or_past, set-get_or, get_or_append_left, ext_get_or}
use Rattle.std.proofs.lemmas.Bool.{cases_lt, cases_eq}
use Rattle.std.proofs.lemmas.Bool.Decides.{nat_tests}
use Rattle.std.specs.Prelude.{slice_index, slice_index_or, nat_lt}
use Rattle.nt_alarms.specs.declared.heap.Alarm.{Alarm}
use Rattle.nt_alarms.specs.Alarms.{alarm_at, IsQuiet, IsEarliest, NoneBefore, NoneAt, IsLowestAt}
use Rattle.nt_alarms.specs.Heap.{own_alarm, alarms_of, LeadsBack, AreRanked, AreSwapped, alarm_ranked, Precedes, above, IsHeap, IsHeapBut, IsHeapButAbove, IsHeapButBelow, IsFirstBelow, IsAlarmTable}

pub Precedes-refl : (a : Alarm) → Precedes a a
Precedes-refl a = record { moment = omega arith; place = λ _. omega arith }

pub Precedes-trans : (a b c : Alarm) → Precedes a b → Precedes b c → Precedes a c
Precedes-trans a b c ab bc = record {
  moment = omega arith;
  place = λ same.
      let first : a.place ≤ b.place = ab.place (omega arith) in
      let second : b.place ≤ c.place = bc.place (omega arith) in
      omega arith;
}

-- the rank above another is lower
above_lower : (rank : ℕ) → 0 < rank → above rank < rank
above_lower rank some = grind arith

-- both lists lead back still, after two of each have changed places
lead_swapped : (xs ys xs' ys' : List ℕ) (i j : ℕ) → LeadsBack xs ys → i < length xs → j < length xs →
    AreSwapped (slice_index xs) (slice_index xs') i j →
    AreSwapped (slice_index ys) (slice_index ys') (slice_index xs i) (slice_index xs j) →
    length xs' ≡ length xs → length ys' ≡ length ys → LeadsBack xs' ys'
lead_swapped xs ys xs' ys' i j leads ini inj outer inner same same' k ink = elim (cases_eq k i) [
  | inl first ↦ rw (first, outer.first, same') ((leads j inj).0, inner.second ∙ (leads i ini).1)
  | inr apart ↦ elim (cases_eq k j) [
    | inl second ↦ rw (second, outer.second, same') ((leads i ini).0, inner.first ∙ (leads j inj).1)
    | inr apart' ↦
        let still = outer.others k apart apart' in
        let lt : k < length xs = omega arith in
        let not_first : slice_index xs k ≢ slice_index xs i = λ e. apart (sym (leads k lt).1 ∙ (ap (slice_index ys) e ∙ (leads i ini).1)) in
        let not_second : slice_index xs k ≢ slice_index xs j = λ e. apart' (sym (leads k lt).1 ∙ (ap (slice_index ys) e ∙ (leads j inj).1)) in
        rw (still, same') ((leads k lt).0, inner.others (slice_index xs k) not_first not_second ∙ (leads k lt).1)
  ]
]

pub ranked_swapped : (moments ranks places ranks' places' : List ℕ) (i j : ℕ) → AreRanked moments ranks places → i < length places → j < length places →
    AreSwapped (slice_index places) (slice_index places') i j →
    AreSwapped (slice_index ranks) (slice_index ranks') (slice_index places i) (slice_index places j) →
    length ranks' ≡ length ranks → length places' ≡ length places → AreRanked moments ranks' places'
ranked_swapped moments ranks places ranks' places' i j are ini inj outer inner same same' = record {
  few = are.few;
  ranks_too = same ∙ are.ranks_too;
  places_too = same' ∙ are.places_too;
  of_place = lead_swapped ranks places ranks' places' (slice_index places i) (slice_index places j) are.of_place (are.of_rank i ini).0 (are.of_rank j inj).0
      inner (rw ((are.of_rank i ini).1, (are.of_rank j inj).1) outer) same same';
  of_rank = lead_swapped places ranks places' ranks' i j are.of_rank ini inj outer inner same' same;
}

-- THE HEAP

pub by_same : (a b a' b' : Alarm) → Precedes a b → a' ≡ a → b' ≡ b → Precedes a' b'
by_same a b a' b' before same same' = rw (same, same') before

-- an alarm has risen by one rank
pub risen : (armed : ℕ) (alarm alarm' : ℕ → Alarm) (at : ℕ) → IsHeapButAbove armed alarm at → 0 < at → at < armed →
    Precedes (alarm at) (alarm (above at)) → AreSwapped alarm alarm' (above at) at → IsHeapButAbove armed alarm' (above at)
risen armed alarm alarm' at but some lt first swapped =
    let up : above at < at = above_lower at some in
    record {
      others = λ rank below other. elim (cases_eq rank at) [
        | inl here ↦ by_same _ _ _ _ first (ap (λ r. alarm' (above r)) here ∙ swapped.first) (ap alarm' here ∙ swapped.second)
        | inr apart ↦ elim (cases_eq (above rank) (above at)) [
          | inl beside ↦ by_same _ _ _ _
              (Precedes-trans _ _ _ first (by_same _ _ _ _ (but.others rank below apart) (ap alarm (sym beside)) refl))
              (ap alarm' beside ∙ swapped.first) (swapped.others rank other apart)
          | inr elsewhere ↦ elim (cases_eq (above rank) at) [
            | inl under ↦ by_same _ _ _ _ (but.across rank below under some) (ap alarm' under ∙ swapped.second) (swapped.others rank other apart)
            | inr far ↦ by_same _ _ _ _ (but.others rank below apart) (swapped.others (above rank) elsewhere far) (swapped.others rank other apart)
          ]
        ]
      ];
      across = λ rank below under high.
          let higher : above (above at) < above at = above_lower (above at) high in
          let still : alarm' (above (above at)) ≡ alarm (above (above at)) = swapped.others (above (above at)) (omega arith) (omega arith) in
          let parent : Precedes (alarm (above (above at))) (alarm (above at)) = but.others (above at) (omega arith) (omega arith) in
          elim (cases_eq rank at) [
            | inl here ↦ by_same _ _ _ _ parent still (ap alarm' here ∙ swapped.second)
            | inr apart ↦ by_same _ _ _ _
                (Precedes-trans _ _ _ parent (by_same _ _ _ _ (but.others rank below apart) (ap alarm (sym under)) refl)) still
                (swapped.others rank (λ e. let low : above rank < rank = above_lower rank (omega arith) in omega arith) apart)
          ];
    }

-- an alarm that is not before the one above it has risen far enough
pub risen_enough : (armed : ℕ) (alarm : ℕ → Alarm) (at : ℕ) → IsHeapButAbove armed alarm at → Precedes (alarm (above at)) (alarm at) → IsHeap armed alarm
risen_enough armed alarm at but here rank below = elim (cases_eq rank at) [
  | inl same ↦ by_same _ _ _ _ here (ap (λ r. alarm (above r)) same) (ap alarm same)
  | inr apart ↦ but.others rank below apart
]

pub risen_to_top : (armed : ℕ) (alarm : ℕ → Alarm) (at : ℕ) → IsHeapButAbove armed alarm at → at ≡ 0 → IsHeap armed alarm
risen_to_top armed alarm at but top =
    risen_enough armed alarm at but (by_same _ _ _ _ (Precedes-refl (alarm 0)) (ap (λ r. alarm (above r)) top) (ap alarm top))

-- an alarm has sunk by one rank
pub sunk : (armed : ℕ) (alarm alarm' : ℕ → Alarm) (at low : ℕ) → IsHeapButBelow armed alarm at → IsFirstBelow armed alarm at low →
    Precedes (alarm low) (alarm at) → AreSwapped alarm alarm' at low → IsHeapButBelow armed alarm' low
sunk armed alarm alarm' at low but first_below first swapped =
    let lower = first_below.lower in
    record {
      others = λ rank below other. elim (cases_eq rank low) [
        | inl here ↦ by_same _ _ _ _ first (ap (λ r. alarm' (above r)) here ∙ (ap alarm' first_below.here ∙ swapped.first)) (ap alarm' here ∙ swapped.second)
        | inr apart ↦ elim (cases_eq rank at) [
          | inl top ↦ elim (cases_eq at 0) [
            | inl root ↦ by_same _ _ _ _ (Precedes-refl (alarm' 0)) (ap (λ r. alarm' (above r)) (top ∙ root)) (ap alarm' (top ∙ root))
            | inr deep ↦
                let up : above at < at = above_lower at (omega arith) in
                by_same _ _ _ _ (but.across low first_below.in_range first_below.here (omega arith))
                (ap (λ r. alarm' (above r)) top ∙ swapped.others (above at) (omega arith) (omega arith)) (ap alarm' top ∙ swapped.first)
          ]
          | inr elsewhere ↦ elim (cases_eq (above rank) at) [
            | inl beside ↦ by_same _ _ _ _
                (first_below.first rank below beside (λ zero_is. elsewhere (zero_is ∙ (sym (ap above zero_is) ∙ beside))))
                (ap alarm' beside ∙ swapped.first) (swapped.others rank elsewhere apart)
            | inr far ↦ by_same _ _ _ _ (but.others rank below far) (swapped.others (above rank) far other) (swapped.others rank elsewhere apart)
          ]
        ]
      ];
      across = λ rank below under deep.
          let up : above rank < rank = above_lower rank (not_zero rank under deep) in
          by_same _ _ _ _ (but.others rank below (λ e. let same : above rank ≡ low = under in omega arith))
          (ap alarm' first_below.here ∙ (swapped.first ∙ ap alarm (sym under)))
          (swapped.others rank (λ e. let same : above rank ≡ low = under in omega arith) (λ e. let same : above rank ≡ low = under in omega arith));
    }
  where
    not_zero : (rank : ℕ) → above rank ≡ low → 0 < low → 0 < rank
    not_zero zero under deep = absurd (let is : 0 ≡ low = under in omega arith)
    not_zero (suc rank) under deep = omega arith

-- an alarm that is before the first of those below it has sunk far enough
pub sunk_enough : (armed : ℕ) (alarm : ℕ → Alarm) (at low : ℕ) → IsHeapButBelow armed alarm at → IsFirstBelow armed alarm at low →
    Precedes (alarm at) (alarm low) → IsHeap armed alarm
sunk_enough armed alarm at low but first_below before rank below = elim (cases_eq (above rank) at) [
  | inr far ↦ but.others rank below far
  | inl beside ↦ elim (cases_eq rank 0) [
    | inl root ↦ by_same _ _ _ _ (Precedes-refl (alarm 0)) (ap (λ r. alarm (above r)) root) (ap alarm root)
    | inr some ↦ by_same _ _ _ _ (Precedes-trans _ _ _ before (first_below.first rank below beside some)) (ap alarm beside) refl
  ]
]

-- an alarm below which there is none
pub sunk_to_ground : (armed : ℕ) (alarm : ℕ → Alarm) (at : ℕ) → IsHeapButBelow armed alarm at → armed ≤ 2 * at + 1 → IsHeap armed alarm
sunk_to_ground armed alarm at but none rank below = elim (cases_eq (above rank) at) [
  | inr far ↦ but.others rank below far
  | inl beside ↦ elim (cases_eq rank 0) [
    | inl root ↦ by_same _ _ _ _ (Precedes-refl (alarm 0)) (ap (λ r. alarm (above r)) root) (ap alarm root)
    | inr some ↦ absurd (grind arith)
  ]
]

pub but_above : (armed : ℕ) (alarm : ℕ → Alarm) (at : ℕ) → IsHeapBut armed alarm at → 0 < at → Precedes (alarm at) (alarm (above at)) →
    IsHeapButAbove armed alarm at
but_above armed alarm at but some first = record {
  others = λ rank below apart. elim (cases_eq (above rank) at) [
    | inl beside ↦ by_same _ _ _ _ (Precedes-trans _ _ _ first (but.across rank below beside some)) (ap alarm beside) refl
    | inr far ↦ but.others rank below apart far
  ];
  across = but.across;
}

pub but_below : (armed : ℕ) (alarm : ℕ → Alarm) (at : ℕ) → IsHeapBut armed alarm at → (at ≡ 0) ⊎ Precedes (alarm (above at)) (alarm at) →
    IsHeapButBelow armed alarm at
but_below armed alarm at but first = record {
  others = λ rank below far. elim (cases_eq rank at) [
    | inr apart ↦ but.others rank below apart far
    | inl here ↦ elim first [
      | inl root ↦ absurd (far (ap above (here ∙ root) ∙ sym root))
      | inr before ↦ by_same _ _ _ _ before (ap (λ r. alarm (above r)) here) (ap alarm here)
    ]
  ];
  across = but.across;
}

-- one alarm more, at the last rank
pub armed_last : (armed : ℕ) (alarm alarm' : ℕ → Alarm) → IsHeap armed alarm → ((rank : ℕ) → rank < armed → alarm' rank ≡ alarm rank) →
    IsHeapButAbove (armed + 1) alarm' armed
armed_last armed alarm alarm' heap same = record {
  others = λ rank below apart.
      let lt : rank < armed = omega arith in
      by_same _ _ _ _ (heap rank lt) (same (above rank) (grind arith)) (same rank lt);
  across = λ rank below under some. absurd (grind arith);
}

-- the last alarm has come to a rank, and the one that had it is gone
pub disarmed_at : (left : ℕ) (alarm alarm' : ℕ → Alarm) (at : ℕ) → IsHeap (left + 1) alarm → at < left → AreSwapped alarm alarm' at left →
    IsHeapBut left alarm' at
disarmed_at left alarm alarm' at heap lt swapped = record {
  others = λ rank below apart far. by_same _ _ _ _ (heap rank (omega arith)) (swapped.others (above rank) far (grind arith)) (swapped.others rank apart (omega arith));
  across = λ rank below under some.
      let up : above at < at = above_lower at some in
      by_same _ _ _ _ (Precedes-trans _ _ _ (heap at (omega arith)) (by_same _ _ _ _ (heap rank (omega arith)) (ap alarm (sym under)) refl))
      (swapped.others (above at) (omega arith) (omega arith))
      (swapped.others rank (λ e. let same : above at ≡ at = sym (ap above e) ∙ under in omega arith) (omega arith));
}

-- the last alarm itself is gone
pub disarmed_last : (left : ℕ) (alarm alarm' : ℕ → Alarm) (at : ℕ) → IsHeap (left + 1) alarm → at ≡ left → AreSwapped alarm alarm' at left → IsHeap left alarm'
disarmed_last left alarm alarm' at heap is swapped rank below =
    by_same _ _ _ _ (heap rank (omega arith)) (swapped.others (above rank) (grind arith) (grind arith)) (swapped.others rank (omega arith) (omega arith))

-- nothing comes before the alarm of rank 0
root_first : (armed : ℕ) (alarm : ℕ → Alarm) → IsHeap armed alarm → (steps rank : ℕ) → rank ≤ steps → rank < armed → Precedes (alarm 0) (alarm rank)
root_first armed alarm heap steps zero le lt = Precedes-refl (alarm 0)
root_first armed alarm heap zero (suc rank) le lt = absurd (omega arith)
root_first armed alarm heap (suc steps) (suc rank) le lt =
    let up : above (suc rank) < suc rank = above_lower (suc rank) (omega arith) in
    Precedes-trans _ _ _ (root_first armed alarm heap steps (above (suc rank)) (omega arith) (omega arith)) (heap (suc rank) lt)

pub alarms_moved : (moments places places' : List ℕ) (i j : ℕ) → AreSwapped (slice_index places) (slice_index places') i j →
    AreSwapped (alarm_ranked moments places) (alarm_ranked moments places') i j
alarms_moved moments places places' i j swapped =
    let alarm_of : ℕ → Alarm = λ place. record { moment = slice_index moments place; place = place } in
    record {
      first = ap alarm_of swapped.first;
      second = ap alarm_of swapped.second;
      others = λ k apart apart'. ap alarm_of (swapped.others k apart apart');
    }

-- ALL ALARMS

pub length-alarms : (armed : ℕ) (moments ranks : List ℕ) → length ranks ≡ length moments → length (alarms_of armed moments ranks) ≡ length moments
length-alarms armed [] ranks same = refl
length-alarms armed (m ∷ moments) [] same = absurd (omega arith)
length-alarms armed (m ∷ moments) (r ∷ ranks) same = ap suc (length-alarms armed moments ranks (omega arith))

pub alarm_read : (armed : ℕ) (moments ranks : List ℕ) (i : ℕ) → length ranks ≡ length moments → i < length moments →
    alarm_at (alarms_of armed moments ranks) i ≡ own_alarm armed (slice_index moments i) (slice_index ranks i)
alarm_read armed [] ranks i same lt = absurd (omega arith)
alarm_read armed (m ∷ moments) [] i same lt = absurd (omega arith)
alarm_read armed (m ∷ moments) (r ∷ ranks) zero same lt = refl
alarm_read armed (m ∷ moments) (r ∷ ranks) (suc i) same lt = alarm_read armed moments ranks i (omega arith) (omega arith)

-- where each place's alarm is as it was
pub alarms_same : (armed : ℕ) (moments ranks ranks' : List ℕ) → length ranks ≡ length moments → length ranks' ≡ length moments →
    ((i : ℕ) → i < length moments → nat_lt (slice_index ranks' i) armed ≡ nat_lt (slice_index ranks i) armed) →
    alarms_of armed moments ranks' ≡ alarms_of armed moments ranks
alarms_same armed moments ranks ranks' same same' still =
    let count = length-alarms armed moments ranks same in
    let count' = length-alarms armed moments ranks' same' in
    ext_get_or None _ _ (count' ∙ sym count) (λ i lt.
    let below : i < length moments = omega arith in
    alarm_read armed moments ranks' i same' below
    ∙ (own_same (slice_index moments i) (slice_index ranks' i) (slice_index ranks i) (still i below) ∙ sym (alarm_read armed moments ranks i same below)))
  where
    own_same : (moment rank' rank : ℕ) → nat_lt rank' armed ≡ nat_lt rank armed → own_alarm armed moment rank' ≡ own_alarm armed moment rank
    own_same moment rank' rank is = rw is refl

-- where one place's alarm has changed
pub alarms_set : (armed armed' : ℕ) (moments moments' ranks ranks' : List ℕ) (place : ℕ) (v : Option ℕ) → length ranks ≡ length moments →
    length moments' ≡ length moments → length ranks' ≡ length moments → place < length moments →
    own_alarm armed' (slice_index moments' place) (slice_index ranks' place) ≡ v →
    ((i : ℕ) → i < length moments → i ≢ place →
    own_alarm armed' (slice_index moments' i) (slice_index ranks' i) ≡ own_alarm armed (slice_index moments i) (slice_index ranks i)) →
    alarms_of armed' moments' ranks' ≡ slice_set (alarms_of armed moments ranks) place v
alarms_set armed armed' moments moments' ranks ranks' place v same same' same'' in_range here others =
    let count = length-alarms armed moments ranks same in
    let count' = length-alarms armed' moments' ranks' (same'' ∙ sym same') in
    let longer = length-set (alarms_of armed moments ranks) place v in
    ext_get_or None _ _ (count' ∙ (same' ∙ (sym count ∙ sym longer))) (λ i lt.
    let below : i < length moments = omega arith in
    let read = alarm_read armed' moments' ranks' i (same'' ∙ sym same') (omega arith) in
    elim (cases_eq i place) [
      | inl is ↦ read ∙ (ap (λ k. own_alarm armed' (slice_index moments' k) (slice_index ranks' k)) is ∙ (here
          ∙ sym (ap (λ k. alarm_at (slice_set (alarms_of armed moments ranks) place v) k) is
          ∙ get_or-set_same (alarms_of armed moments ranks) place v None (omega arith))))
      | inr apart ↦ read ∙ (others i below apart ∙ (sym (alarm_read armed moments ranks i same below)
          ∙ sym (get_or-set_other (alarms_of armed moments ranks) place i v None apart)))
    ])

-- two alarms that are set have changed their ranks
pub swapped_same : (armed : ℕ) (moments ranks ranks' places : List ℕ) (i j : ℕ) → AreRanked moments ranks places → length ranks' ≡ length ranks →
    i < armed → j < armed → armed ≤ length moments →
    AreSwapped (slice_index ranks) (slice_index ranks') (slice_index places i) (slice_index places j) →
    alarms_of armed moments ranks' ≡ alarms_of armed moments ranks
swapped_same armed moments ranks ranks' places i j are same ini inj few swapped =
    let count = are.ranks_too in
    let count' = are.places_too in
    let of_first = (are.of_rank i (omega arith)).1 in
    let of_second = (are.of_rank j (omega arith)).1 in
    alarms_same armed moments ranks ranks' count (same ∙ count) (λ k lt. elim (cases_eq k (slice_index places i)) [
      | inl is ↦
          let new : slice_index ranks' k ≡ j = ap (slice_index ranks') is ∙ (swapped.first ∙ of_second) in
          let old : slice_index ranks k ≡ i = ap (slice_index ranks) is ∙ of_first in
          rw (new, old) (both i j ini inj)
      | inr apart ↦ elim (cases_eq k (slice_index places j)) [
        | inl is ↦
            let new : slice_index ranks' k ≡ i = ap (slice_index ranks') is ∙ (swapped.second ∙ of_first) in
            let old : slice_index ranks k ≡ j = ap (slice_index ranks) is ∙ of_second in
            rw (new, old) (both j i inj ini)
        | inr apart' ↦ ap (λ rank. nat_lt rank armed) (swapped.others k apart apart')
      ]
    ])
  where
    both : (x y : ℕ) → x < armed → y < armed → nat_lt y armed ≡ nat_lt x armed
    both x y lt lt' = grind (arith, nat_tests)

pub is_armed : (armed : ℕ) (moments ranks : List ℕ) (place : ℕ) → length ranks ≡ length moments → place < length moments →
    slice_index ranks place < armed → alarm_at (alarms_of armed moments ranks) place ≡ Some (slice_index moments place)
is_armed armed moments ranks place same lt set = alarm_read armed moments ranks place same lt ∙ own_set
  where
    yes : nat_lt (slice_index ranks place) armed ≡ true
    yes = grind (arith, nat_tests)

    own_set : own_alarm armed (slice_index moments place) (slice_index ranks place) ≡ Some (slice_index moments place)
    own_set = rw yes refl

pub is_not_armed : (armed : ℕ) (moments ranks : List ℕ) (place : ℕ) → length ranks ≡ length moments → place < length moments →
    armed ≤ slice_index ranks place → alarm_at (alarms_of armed moments ranks) place ≡ None
is_not_armed armed moments ranks place same lt not_set = alarm_read armed moments ranks place same lt ∙ own_none
  where
    no : nat_lt (slice_index ranks place) armed ≡ false
    no = grind (arith, nat_tests)

    own_none : own_alarm armed (slice_index moments place) (slice_index ranks place) ≡ None
    own_none = rw no refl

own_by : (armed armed' moment moment' rank rank' : ℕ) → moment' ≡ moment → nat_lt rank' armed' ≡ nat_lt rank armed →
    own_alarm armed' moment' rank' ≡ own_alarm armed moment rank
own_by armed armed' moment moment' rank rank' same same' = rw (same, same') refl

-- a place whose rank is one past those that stay has no alarm any more
pub disarmed_alarms : (left : ℕ) (moments ranks ranks' places : List ℕ) (place rank : ℕ) → AreRanked moments ranks places → length ranks' ≡ length ranks →
    left + 1 ≤ length moments → place < length moments → rank ≡ slice_index ranks place → rank ≤ left →
    AreSwapped (slice_index ranks) (slice_index ranks') (slice_index places rank) (slice_index places left) →
    alarms_of left moments ranks' ≡ slice_set (alarms_of (left + 1) moments ranks) place None
disarmed_alarms left moments ranks ranks' places place rank are same few in_range is le swapped =
    let count = are.ranks_too in
    let count' = are.places_too in
    let own_place : slice_index places rank ≡ place = ap (slice_index places) is ∙ (are.of_place place (omega arith)).1 in
    let own_rank : slice_index ranks (slice_index places rank) ≡ rank = (are.of_rank rank (omega arith)).1 in
    let last_rank : slice_index ranks (slice_index places left) ≡ left = (are.of_rank left (omega arith)).1 in
    let new : slice_index ranks' place ≡ left = ap (slice_index ranks') (sym own_place) ∙ (swapped.first ∙ last_rank) in
    alarms_set (left + 1) left moments moments ranks ranks' place None count refl (same ∙ count) in_range
    (is_none (slice_index moments place) (slice_index ranks' place) new)
    (λ i lt apart. elim (cases_eq i (slice_index places left)) [
      | inl last ↦
          let now : slice_index ranks' i ≡ rank = ap (slice_index ranks') last ∙ (swapped.second ∙ own_rank) in
          let was : slice_index ranks i ≡ left = ap (slice_index ranks) last ∙ last_rank in
          let lower : rank ≢ left = λ e. apart (last ∙ (ap (slice_index places) (sym e) ∙ own_place)) in
          own_by _ _ _ _ _ _ refl (rw (now, was) (grind (arith, nat_tests)))
      | inr other ↦
          let now : slice_index ranks' i ≡ slice_index ranks i = swapped.others i (λ e. apart (e ∙ own_place)) other in
          let not_last : slice_index ranks i ≢ left = λ e. other (sym (are.of_place i (omega arith)).1 ∙ ap (slice_index places) e) in
          own_by _ _ _ _ _ _ refl (rw now (grind (arith, nat_tests)))
    ])
  where
    is_none : (moment r : ℕ) → r ≡ left → own_alarm left moment r ≡ None
    is_none moment r same = let no : nat_lt r left ≡ false = grind (arith, nat_tests) in rw no refl

-- a place whose rank is the first past those that are armed has an alarm
pub armed_alarms : (armed : ℕ) (moments ranks ranks' places : List ℕ) (place rank moment : ℕ) → AreRanked moments ranks places → length ranks' ≡ length ranks →
    place < length moments → rank ≡ slice_index ranks place → armed ≤ rank →
    AreSwapped (slice_index ranks) (slice_index ranks') (slice_index places rank) (slice_index places armed) →
    alarms_of (armed + 1) (slice_set moments place moment) ranks' ≡ slice_set (alarms_of armed moments ranks) place (Some moment)
armed_alarms armed moments ranks ranks' places place rank moment are same in_range is le swapped =
    let count = are.ranks_too in
    let count' = are.places_too in
    let longer = length-set moments place moment in
    let below : rank < length places = (let lt = (are.of_place place (omega arith)).0 in omega arith) in
    let own_place : slice_index places rank ≡ place = ap (slice_index places) is ∙ (are.of_place place (omega arith)).1 in
    let own_rank : slice_index ranks (slice_index places rank) ≡ rank = (are.of_rank rank (omega arith)).1 in
    let last_rank : slice_index ranks (slice_index places armed) ≡ armed = (are.of_rank armed (omega arith)).1 in
    let new : slice_index ranks' place ≡ armed = ap (slice_index ranks') (sym own_place) ∙ (swapped.first ∙ last_rank) in
    alarms_set armed (armed + 1) moments (slice_set moments place moment) ranks ranks' place (Some moment) count longer (same ∙ count) in_range
    (is_some (slice_index (slice_set moments place moment) place) (slice_index ranks' place) (get_or-set_same moments place moment 0 in_range) new)
    (λ i lt apart. elim (cases_eq i (slice_index places armed)) [
      | inl last ↦
          let now : slice_index ranks' i ≡ rank = ap (slice_index ranks') last ∙ (swapped.second ∙ own_rank) in
          let was : slice_index ranks i ≡ armed = ap (slice_index ranks) last ∙ last_rank in
          let higher : rank ≢ armed = λ e. apart (last ∙ (ap (slice_index places) (sym e) ∙ own_place)) in
          own_by _ _ _ _ _ _ (get_or-set_other moments place i moment 0 apart) (rw (now, was) (grind (arith, nat_tests)))
      | inr other ↦
          let now : slice_index ranks' i ≡ slice_index ranks i = swapped.others i (λ e. apart (e ∙ own_place)) other in
          let not_last : slice_index ranks i ≢ armed = λ e. other (sym (are.of_place i (omega arith)).1 ∙ ap (slice_index places) e) in
          own_by _ _ _ _ _ _ (get_or-set_other moments place i moment 0 apart) (rw now (grind (arith, nat_tests)))
    ])
  where
    is_some : (m r : ℕ) → m ≡ moment → r ≡ armed → own_alarm (armed + 1) m r ≡ Some moment
    is_some m r same same' = let yes : nat_lt r (armed + 1) ≡ true = grind (arith, nat_tests) in rw (yes, same) refl

-- the armed ranks have the alarms that they had
pub armed_still : (armed : ℕ) (moments ranks places places' : List ℕ) (place rank moment : ℕ) → AreRanked moments ranks places → armed ≤ length moments →
    place < length moments → rank ≡ slice_index ranks place → armed ≤ rank →
    AreSwapped (slice_index places) (slice_index places') rank armed → (r : ℕ) → r < armed →
    alarm_ranked (slice_set moments place moment) places' r ≡ alarm_ranked moments places r
armed_still armed moments ranks places places' place rank moment are few in_range is le swapped r lt =
    let count' = are.places_too in
    let still : slice_index places' r ≡ slice_index places r = swapped.others r (omega arith) (omega arith) in
    let own_rank : slice_index ranks (slice_index places r) ≡ r = (are.of_rank r (omega arith)).1 in
    let apart : slice_index places r ≢ place = λ e. let same : rank ≡ r = is ∙ (ap (slice_index ranks) (sym e) ∙ own_rank) in omega arith in
    let moved : slice_index (slice_set moments place moment) (slice_index places r) ≡ slice_index moments (slice_index places r) =
    get_or-set_other moments place (slice_index places r) moment 0 apart in
    made (slice_index places' r) (slice_index places r) still moved
  where
    made : (p q : ℕ) → p ≡ q → slice_index (slice_set moments place moment) q ≡ slice_index moments q →
        (let one : Alarm = record { moment = slice_index (slice_set moments place moment) p; place = p } in one)
        ≡ (let other : Alarm = record { moment = slice_index moments q; place = q } in other)
    made p q same same' = rw same (ap (λ (m : ℕ). let one : Alarm = record { moment = m; place = q } in one) same')

pub not_armed_cleared : (armed : ℕ) (moments ranks : List ℕ) (place : ℕ) → length ranks ≡ length moments → place < length moments →
    armed ≤ slice_index ranks place → alarms_of armed moments ranks ≡ slice_set (alarms_of armed moments ranks) place None
not_armed_cleared armed moments ranks place same lt not_set =
    sym (ap (λ o. slice_set (alarms_of armed moments ranks) place o) (sym (is_not_armed armed moments ranks place same lt not_set))
    ∙ set-get_or (alarms_of armed moments ranks) place None)

-- moments that are as many are ranked by the same lists
pub ranked_anew : (moments moments' ranks places : List ℕ) → AreRanked moments ranks places → length moments' ≡ length moments → AreRanked moments' ranks places
ranked_anew moments moments' ranks places are same = record {
  few = let few = are.few in omega arith;
  ranks_too = are.ranks_too ∙ sym same;
  places_too = are.places_too ∙ sym same;
  of_place = are.of_place;
  of_rank = are.of_rank;
}

-- WHAT THE FIRST RANK SAYS OF ALL

-- an alarm that is set has a rank
rank_of : (armed : ℕ) (moments ranks places : List ℕ) (place m : ℕ) → IsAlarmTable armed moments ranks places → alarm_at (alarms_of armed moments ranks) place ≡ Some m →
    (rank : ℕ) × (rank < armed) × (alarm_ranked moments places rank ≡ (let made : Alarm = record { moment = m; place = place } in made))
rank_of armed moments ranks places place m table set = elim (cases_lt place (length moments)) [
  | inr past ↦
      let none = get_or_past (alarms_of armed moments ranks) place None (let count = length-alarms armed moments ranks table.sound.ranks_too in omega arith) in
      absurd (cc)
  | inl lt ↦ elim (cases_lt (slice_index ranks place) armed) [
    | inr past ↦ let none = is_not_armed armed moments ranks place table.sound.ranks_too lt past in absurd (cc)
    | inl below ↦
        let some = is_armed armed moments ranks place table.sound.ranks_too lt below in
        let moment : slice_index moments place ≡ m = cc in
        let here : slice_index places (slice_index ranks place) ≡ place = (table.sound.of_place place (let count = table.sound.ranks_too in omega arith)).1 in
        (slice_index ranks place, below, made (slice_index places (slice_index ranks place)) here moment)
  ]
]
  where
    made : (p : ℕ) → p ≡ place → slice_index moments place ≡ m →
        (let one : Alarm = record { moment = slice_index moments p; place = p } in one) ≡ (let made : Alarm = record { moment = m; place = place } in made)
    made p same same' = rw same (ap (λ (n : ℕ). let one : Alarm = record { moment = n; place = place } in one) same')

-- the first alarm comes before each that is set
first_of_all : (armed : ℕ) (moments ranks places : List ℕ) (a : Alarm) (place m : ℕ) → IsAlarmTable armed moments ranks places → a ≡ alarm_ranked moments places 0 →
    alarm_at (alarms_of armed moments ranks) place ≡ Some m → Precedes a (let made : Alarm = record { moment = m; place = place } in made)
first_of_all armed moments ranks places a place m table is set =
    let found = rank_of armed moments ranks places place m table set in
    by_same _ _ _ _ (root_first armed (alarm_ranked moments places) table.heap found.0 found.0 (omega arith) found.1) is (sym found.2)

-- it is set
first_is_set : (armed : ℕ) (moments ranks places : List ℕ) (a : Alarm) → IsAlarmTable armed moments ranks places → (a ≡ alarm_ranked moments places 0) × (0 < armed) →
    alarm_at (alarms_of armed moments ranks) a.place ≡ Some a.moment
first_is_set armed moments ranks places a table is =
    let few = table.few in
    let count' = table.sound.places_too in
    let count = table.sound.ranks_too in
    let back = table.sound.of_rank 0 (omega (arith, is.1)) in
    let here : a.place ≡ slice_index places 0 = ap (λ (x : Alarm). x.place) is.0 in
    let moment : a.moment ≡ slice_index moments (slice_index places 0) = ap (λ (x : Alarm). x.moment) is.0 in
    let in_range : slice_index places 0 < length moments = (let lt = back.0 in omega arith) in
    let rank : slice_index ranks (slice_index places 0) < armed = (let zero_is = back.1 in omega (arith, is.1)) in
    rw (here, moment) (is_armed armed moments ranks (slice_index places 0) count in_range rank)

pub first_earliest : (armed : ℕ) (moments ranks places : List ℕ) (a : Alarm) → IsAlarmTable armed moments ranks places →
    (a ≡ alarm_ranked moments places 0) × (0 < armed) → IsEarliest (alarms_of armed moments ranks) a.moment
first_earliest armed moments ranks places a table is = record {
  set = (a.place, first_is_set armed moments ranks places a table is);
  least = λ place other set. (first_of_all armed moments ranks places a place other table is.0 set).moment;
}

pub first_lowest : (armed : ℕ) (moments ranks places : List ℕ) (a : Alarm) (moment : ℕ) → IsAlarmTable armed moments ranks places →
    (a ≡ alarm_ranked moments places 0) × (0 < armed) → a.moment ≡ moment → IsLowestAt (alarms_of armed moments ranks) moment a.place
first_lowest armed moments ranks places a moment table is same = record {
  here = first_is_set armed moments ranks places a table is ∙ ap (λ m. Some m) same;
  none_below = λ lower lt set.
      let first = first_of_all armed moments ranks places a lower moment table is.0 set in
      let not_higher : a.place ≤ lower = first.place same in
      omega arith;
}

pub first_none_at : (armed : ℕ) (moments ranks places : List ℕ) (a : Alarm) (moment : ℕ) → IsAlarmTable armed moments ranks places →
    (a ≡ alarm_ranked moments places 0) × (0 < armed) → a.moment ≢ moment → NoneBefore (alarms_of armed moments ranks) moment → NoneAt (alarms_of armed moments ranks) moment
first_none_at armed moments ranks places a moment table is other before place set =
    let first : a.moment ≤ moment = (first_of_all armed moments ranks places a place moment table is.0 set).moment in
    let own : moment ≤ a.moment = before a.place a.moment (first_is_set armed moments ranks places a table is) in
    other (omega arith)

pub all_quiet : (armed : ℕ) (moments ranks places : List ℕ) → IsAlarmTable armed moments ranks places → armed ≡ 0 → IsQuiet (alarms_of armed moments ranks)
all_quiet armed moments ranks places table none place = quiet (alarm_at (alarms_of armed moments ranks) place) refl
  where
    quiet : (o : Option ℕ) → alarm_at (alarms_of armed moments ranks) place ≡ o → o ≡ None
    quiet None is = refl
    quiet (Some m) is =
        let found = rank_of armed moments ranks places place m table is in
        absurd (let lt = found.1 in omega arith)

pub quiet_none_at : (alarms : List (Option ℕ)) (moment : ℕ) → IsQuiet alarms → NoneAt alarms moment
quiet_none_at alarms moment quiet place set = let none = quiet place in absurd (cc)

-- A PLACE MORE

leads_added : (xs ys : List ℕ) (n : ℕ) → LeadsBack xs ys → n ≡ length xs → n ≡ length ys → LeadsBack (xs ++ n ∷ []) (ys ++ n ∷ [])
leads_added xs ys n leads is is' i lt =
    let longer = length-append xs (n ∷ []) in
    let longer' = length-append ys (n ∷ []) in
    elim (cases_lt i (length xs)) [
      | inl below ↦
          let old = leads i below in
          let inside = old.0 in
          let same : slice_index (xs ++ n ∷ []) i ≡ slice_index xs i = get_or_append_left xs (n ∷ []) 0 i below in
          let same' : slice_index (ys ++ n ∷ []) (slice_index xs i) ≡ slice_index ys (slice_index xs i) = get_or_append_left ys (n ∷ []) 0 (slice_index xs i) inside in
          rw same (omega arith, same' ∙ old.1)
      | inr past ↦
          let last : i ≡ n = (let l : length (n ∷ []) ≡ 1 = refl in omega arith) in
          let same : slice_index (xs ++ n ∷ []) i ≡ n = ap (slice_index (xs ++ n ∷ [])) (last ∙ is) ∙ get_or_append_last xs n in
          let same' : slice_index (ys ++ n ∷ []) n ≡ n = ap (slice_index (ys ++ n ∷ [])) is' ∙ get_or_append_last ys n in
          rw same (let l : length (n ∷ []) ≡ 1 = refl in omega arith, same' ∙ sym last)
    ]
  where
    get_or_append_last : (zs : List ℕ) (v : ℕ) → slice_index (zs ++ v ∷ []) (length zs) ≡ v
    get_or_append_last [] v = refl
    get_or_append_last (z ∷ zs) v = get_or_append_last zs v

pub table_added : (armed : ℕ) (moments ranks places : List ℕ) (n : ℕ) → IsAlarmTable armed moments ranks places → n ≡ length moments → length moments + 1 < 2 ^ 31 →
    IsAlarmTable armed (moments ++ 0 ∷ []) (ranks ++ n ∷ []) (places ++ n ∷ [])
table_added armed moments ranks places n table is few =
    let few' = table.few in
    let ranks_too = table.sound.ranks_too in
    let places_too = table.sound.places_too in
    let longer = length-append moments (0 ∷ []) in
    let one : length {A = ℕ} (0 ∷ []) ≡ 1 = refl in
    let one' : length (n ∷ []) ≡ 1 = refl in
    record {
      sound = record {
        few = omega arith;
        ranks_too = omega (arith, length-append ranks (n ∷ []));
        places_too = omega (arith, length-append places (n ∷ []));
        of_place = leads_added ranks places n table.sound.of_place (omega arith) (omega arith);
        of_rank = leads_added places ranks n table.sound.of_rank (omega arith) (omega arith);
      };
      few = omega arith;
      heap = λ rank lt. by_same _ _ _ _ (table.heap rank lt) (still (above rank) (grind arith)) (still rank lt);
    }
  where
    still : (rank : ℕ) → rank < armed → alarm_ranked (moments ++ 0 ∷ []) (places ++ n ∷ []) rank ≡ alarm_ranked moments places rank
    still rank lt =
        let few' = table.few in
        let places_too = table.sound.places_too in
        let ranks_too = table.sound.ranks_too in
        let inside : slice_index places rank < length moments = (let lt' = (table.sound.of_rank rank (omega arith)).0 in omega arith) in
        let same : slice_index (places ++ n ∷ []) rank ≡ slice_index places rank = get_or_append_left places (n ∷ []) 0 rank (omega arith) in
        let same' : slice_index (moments ++ 0 ∷ []) (slice_index places rank) ≡ slice_index moments (slice_index places rank) =
        get_or_append_left moments (0 ∷ []) 0 (slice_index places rank) inside in
        made (slice_index (places ++ n ∷ []) rank) (slice_index places rank) same same'
      where
        made : (p q : ℕ) → p ≡ q → slice_index (moments ++ 0 ∷ []) q ≡ slice_index moments q →
            (let one : Alarm = record { moment = slice_index (moments ++ 0 ∷ []) p; place = p } in one)
            ≡ (let other : Alarm = record { moment = slice_index moments q; place = q } in other)
        made p q same same' = rw same (ap (λ (m : ℕ). let one : Alarm = record { moment = m; place = q } in one) same')

-- a new place has no alarm
pub alarms_added : (armed : ℕ) (moments ranks : List ℕ) (n : ℕ) → length ranks ≡ length moments → armed ≤ n →
    alarms_of armed (moments ++ 0 ∷ []) (ranks ++ n ∷ []) ≡ alarms_of armed moments ranks ++ None ∷ []
alarms_added armed [] [] n same past = let no : nat_lt n armed ≡ false = grind (arith, nat_tests) in rw no refl
alarms_added armed [] (r ∷ ranks) n same past = absurd (omega arith)
alarms_added armed (m ∷ moments) [] n same past = absurd (omega arith)
alarms_added armed (m ∷ moments) (r ∷ ranks) n same past = ap (λ alarms. own_alarm armed m r ∷ alarms) (alarms_added armed moments ranks n (omega arith) past)

pub no_places : IsAlarmTable 0 [] [] []
no_places = record {
  sound = record { few = omega arith; ranks_too = refl; places_too = refl; of_place = λ i lt. absurd (omega arith); of_rank = λ i lt. absurd (omega arith) };
  few = omega arith;
  heap = λ rank lt. absurd (omega arith);
}

-- a place with no alarm has none of the first ranks
pub rank_is_past : (armed : ℕ) (moments ranks : List ℕ) (place : ℕ) → length ranks ≡ length moments → place < length moments →
    alarm_at (alarms_of armed moments ranks) place ≡ None → armed ≤ slice_index ranks place
rank_is_past armed moments ranks place same lt none = elim (cases_lt (slice_index ranks place) armed) [
  | inl below ↦ let some = is_armed armed moments ranks place same lt below in absurd (cc)
  | inr past ↦ past
]
