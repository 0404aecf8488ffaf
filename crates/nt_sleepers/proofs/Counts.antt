-- Whoever sleeps or watches after a call or tick waits.
use Rattle.std.proofs.Common.{◌≡◌, ◌≢◌, ℕ, zero, suc, ◌≤◌, ◌==◌, Bool, true, false, List, [], ◌∷◌, length, slice_set, Option, None, Some, refl, sym, ap, ◌∙◌, inl, inr, arith, length-set, get_or-set_other}
use Rattle.std.proofs.lemmas.Bool.{cases_eq, eqb-true, eq-eqb}
use Rattle.std.specs.Prelude.{if◌then◌else◌}
use Rattle.nt_alarms.specs.Alarms.{alarm_at}
use Rattle.nt_marks.specs.Marks.{is_marked}
use Rattle.nt_calls.specs.declared.call.Grant.{Grant}
use Rattle.nt_calls.specs.State.{State, pends}
use Rattle.nt_calls.specs.Moves.{Moves, one_if, granted_to}
use Rattle.nt_sleepers.specs.Sleepers.{OnlyWaitingSleep, OnlyWaitingWatch, without_woken, set_if, with_called}

-- a place that is cleared has nothing
none_set : (places : List (Option ℕ)) (t : ℕ) → alarm_at (slice_set places t None) t ≡ None
none_set [] zero = refl
none_set [] (suc t) = refl
none_set (x ∷ places) zero = refl
none_set (x ∷ places) (suc t) = none_set places t

-- what still stands once a place is cleared is another's
pub other_stands : (places : List (Option ℕ)) (cleared t m : ℕ) → alarm_at (slice_set places cleared None) t ≡ Some m → (t ≢ cleared) × (alarm_at places t ≡ Some m)
other_stands places cleared t m is =
    let apart : t ≢ cleared = λ same. (let gone = ap (λ (k : ℕ). alarm_at (slice_set places cleared None) k) same ∙ none_set places cleared in absurd (cc (is, gone))) in
    (apart, sym (get_or-set_other places cleared t None None apart) ∙ is)

-- a mark that is taken away is gone
unmarked_set : (watchers : List Bool) (t : ℕ) → is_marked (slice_set watchers t false) t ≡ false
unmarked_set [] zero = refl
unmarked_set [] (suc t) = refl
unmarked_set (x ∷ watchers) zero = refl
unmarked_set (x ∷ watchers) (suc t) = unmarked_set watchers t

-- what is still marked then is another's
pub other_marked : (watchers : List Bool) (cleared t : ℕ) → is_marked (slice_set watchers cleared false) t ≡ true → (t ≢ cleared) × (is_marked watchers t ≡ true)
other_marked watchers cleared t is =
    let apart : t ≢ cleared = λ same. (let gone = ap (λ (k : ℕ). is_marked (slice_set watchers cleared false) k) same ∙ unmarked_set watchers cleared in absurd (cc (is, gone))) in
    (apart, sym (get_or-set_other watchers cleared t false false apart) ∙ is)

none_granted : (g : Grant) (t : ℕ) → t ≢ g.thread → (b : Bool) → (g.thread == t) ≡ b → one_if b ≡ 0
none_granted g t apart true is = absurd (apart (sym (eqb-true g.thread t is)))
none_granted g t apart false is = refl

-- who still sleeps, after those with grants were woken, has none of the grants
pub none_woken : (gs : List Grant) (places : List (Option ℕ)) (t m : ℕ) → alarm_at (without_woken None gs places) t ≡ Some m → (granted_to t gs ≡ 0) × (alarm_at places t ≡ Some m)
none_woken [] places t m is = (refl, is)
none_woken (g ∷ gs) places t m is =
    let later = none_woken gs (slice_set places g.thread None) t m is in
    let here = other_stands places g.thread t m later.1 in
    let none = none_granted g t here.0 (g.thread == t) refl in
    (omega (arith, later.0, none), here.1)

-- and who still watches
pub none_unmarked : (gs : List Grant) (watchers : List Bool) (t : ℕ) → is_marked (without_woken false gs watchers) t ≡ true → (granted_to t gs ≡ 0) × (is_marked watchers t ≡ true)
none_unmarked [] watchers t is = (refl, is)
none_unmarked (g ∷ gs) watchers t is =
    let later = none_unmarked gs (slice_set watchers g.thread false) t is in
    let here = other_marked watchers g.thread t later.1 in
    let none = none_granted g t here.0 (g.thread == t) refl in
    (omega (arith, later.0, none), here.1)

-- as many places as before
pub woken_length : {X : Type 0} (nothing : X) (gs : List Grant) (places : List X) → length (without_woken nothing gs places) ≡ length places
woken_length nothing [] places = refl
woken_length nothing (g ∷ gs) places = woken_length nothing gs (slice_set places g.thread nothing) ∙ length-set places g.thread nothing

pub set_if_length : {X : Type 0} (b : Bool) (t : ℕ) (x : X) (places : List X) → length (set_if b t x places) ≡ length places
set_if_length false t x places = refl
set_if_length true t x places = length-set places t x

pub called_length : (called : Option ℕ) (places : List (Option ℕ)) → length (with_called called places) ≡ length places
called_length None places = refl
called_length (Some t) places = length-set places t (Some 0)

one_if_pends : (b : Bool) → 1 ≤ one_if b → b ≡ true
one_if_pends true some = refl
one_if_pends false some = absurd (omega (arith, some))

-- who waited and was not granted waits still
pub waits_still : (old new : State) (who : ℕ) (began : Bool) (gs : List Grant) (t : ℕ) → Moves old who began gs new → pends old t ≡ true → granted_to t gs ≡ 0 → pends new t ≡ true
waits_still old new who began gs t moves waited none =
    let each = moves.each t in let was = ap one_if waited in
    one_if_pends (pends new t) (omega (arith, each, was, none))

-- whose wait began waits
pub begun_waits : (old new : State) (who : ℕ) (gs : List Grant) → Moves old who true gs new → pends new who ≡ true
begun_waits old new who gs moves =
    let each = moves.each who in let ended = moves.ended who in let free = ap one_if (moves.free refl) in
    let here = ap (λ (b : Bool). if b then one_if true else 0) (eq-eqb who who refl) in
    one_if_pends (pends new who) (omega (arith, each, ended, free, here))

-- whoever is left after the grants waits
pub woken_waiting : (old new : State) (who : ℕ) (began : Bool) (gs : List Grant) (places : List (Option ℕ)) → Moves old who began gs new → OnlyWaitingSleep old places → OnlyWaitingSleep new (without_woken None gs places)
woken_waiting old new who began gs places moves before t m is =
    let left = none_woken gs places t m is in
    waits_still old new who began gs t moves (before t m left.1) left.0

pub woken_watching : (old new : State) (who : ℕ) (began : Bool) (gs : List Grant) (watchers : List Bool) → Moves old who began gs new → OnlyWaitingWatch old watchers → OnlyWaitingWatch new (without_woken false gs watchers)
woken_watching old new who began gs watchers moves before t is =
    let left = none_unmarked gs watchers t is in
    waits_still old new who began gs t moves (before t left.1) left.0

-- whoever stands at a place that is set waits
pub set_waiting : (s : State) (t : ℕ) (x : Option ℕ) (places : List (Option ℕ)) → pends s t ≡ true → OnlyWaitingSleep s places → OnlyWaitingSleep s (slice_set places t x)
set_waiting s t x places waits before o m is =
    elim (cases_eq o t) [
      | inl same ↦ ap (pends s) same ∙ waits
      | inr apart ↦ before o m (sym (get_or-set_other places t o x None apart) ∙ is)
    ]

pub set_watching : (s : State) (t : ℕ) (x : Bool) (watchers : List Bool) → pends s t ≡ true → OnlyWaitingWatch s watchers → OnlyWaitingWatch s (slice_set watchers t x)
set_watching s t x watchers waits before o is =
    elim (cases_eq o t) [
      | inl same ↦ ap (pends s) same ∙ waits
      | inr apart ↦ before o (sym (get_or-set_other watchers t o x false apart) ∙ is)
    ]

pub set_if_waiting : (s : State) (b : Bool) (t : ℕ) (x : Option ℕ) (places : List (Option ℕ)) → (b ≡ true → pends s t ≡ true) → OnlyWaitingSleep s places → OnlyWaitingSleep s (set_if b t x places)
set_if_waiting s false t x places waits before = before
set_if_waiting s true t x places waits before = set_waiting s t x places (waits refl) before
