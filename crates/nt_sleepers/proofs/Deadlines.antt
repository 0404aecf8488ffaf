-- Why each thread whose wait times out is back by then.
use Rattle.std.proofs.Common.{◌≡◌, ◌≢◌, ℕ, zero, suc, ◌<◌, ◌≤◌, Bool, true, false, List, [], ◌∷◌, slice_set, Option, None, Some, refl, sym, ap, ◌∙◌, subst, inl, inr, arith, get_or-set_other}
use Rattle.std.specs.Prelude.{◌⊎◌}
use Rattle.std.specs.FinMap.{get}
use Rattle.std.proofs.lemmas.Bool.{cases_eq, cases_lt}
use Rattle.nt_alarms.specs.Alarms.{alarm_at}
use Rattle.nt_waits.specs.declared.wait.Wait.{Wait}
use Rattle.nt_calls.specs.declared.call.Grant.{Grant}
use Rattle.nt_calls.specs.State.{State}
use Rattle.nt_sleepers.specs.Sleepers.{IsBack, IsInTime, IsWatched, MeetsDeadlines, NoneUpTo, SleepsTo, SleepsUpTo, time_out_of, set_if, with_called, without_woken}
use Rattle.nt_sleepers.proofs.Staying.{StayedOrBegan}

-- what is put at a place stands there, or nothing does past the last
put_there : (places : List (Option ℕ)) (t : ℕ) (x : Option ℕ) → (alarm_at (slice_set places t x) t ≡ None) ⊎ (alarm_at (slice_set places t x) t ≡ x)
put_there [] zero x = inl refl
put_there [] (suc t) x = inl refl
put_there (y ∷ places) zero x = inr refl
put_there (y ∷ places) (suc t) x = put_there places t x

-- this alarm is none, or no later than that moment
abbrev IsSoon : Option ℕ → ℕ → Type 0
IsSoon x u = (x ≡ None) ⊎ ((m : ℕ) × (x ≡ Some m) × (m ≤ u))

back_here : (places : List (Option ℕ)) (t u : ℕ) (x : Option ℕ) → IsSoon x u → IsBack (slice_set places t x) t u
back_here places t u x soon = elim (put_there places t x) [
  | inl none ↦ inl none
  | inr is ↦ elim soon [
    | inl none ↦ inl (is ∙ none)
    | inr some ↦ inr (some.0, is ∙ some.1, some.2)
  ]
]

back_set : (places : List (Option ℕ)) (place t u : ℕ) (x : Option ℕ) → (t ≡ place → IsSoon x u) → (t ≢ place → IsBack places t u) → IsBack (slice_set places place x) t u
back_set places place t u x here there = elim (cases_eq t place) [
  | inl same ↦ subst (λ (k : ℕ). IsBack (slice_set places k x) t u) same (back_here places t u x (here same))
  | inr apart ↦ (let stands = get_or-set_other places place t x None apart in elim (there apart) [
    | inl none ↦ inl (stands ∙ none)
    | inr some ↦ inr (some.0, stands ∙ some.1, some.2)
  ])
]

none_soon : (u : ℕ) → IsSoon None u
none_soon u = inl refl

back_woken : (gs : List Grant) (places : List (Option ℕ)) (t u : ℕ) → IsBack places t u → IsBack (without_woken None gs places) t u
back_woken [] places t u back = back
back_woken (g ∷ gs) places t u back = back_woken gs (slice_set places g.thread None) t u (back_set places g.thread t u None (λ same. none_soon u) (λ apart. back))

back_set_if : (b : Bool) (place : ℕ) (x : Option ℕ) (places : List (Option ℕ)) (t u : ℕ) → ((b ≡ true) × (t ≡ place) → IsSoon x u) → (((b ≡ true) × (t ≡ place) → ⊥) → IsBack places t u) → IsBack (set_if b place x places) t u
back_set_if false place x places t u here there = there (λ both. absurd (cc (both.0)))
back_set_if true place x places t u here there = back_set places place t u x (λ same. here (refl, same)) (λ apart. there (λ both. apart both.1))

pub back_called : (called : Option ℕ) (alarms : List (Option ℕ)) (t u : ℕ) → IsBack alarms t u → IsBack (with_called called alarms) t u
back_called None alarms t u back = back
back_called (Some c) alarms t u back = back_set alarms c t u (Some 0) (λ same. inr (0, refl, omega arith)) (λ apart. back)

-- ---- a deadline is a pending wait's

pending_of : (o : Option Wait) (u : ℕ) → time_out_of o ≡ Some u → (w : Wait) × (o ≡ Some w) × (w.deadline ≡ Some u)
pending_of None u is = absurd (cc (is))
pending_of (Some w) u is = (w, refl, is)

-- ---- after a call or tick

pub deadlines_after : (old new : State) (who : ℕ) (began : Bool) (gs : List Grant) (own called : Option ℕ) (alarms alarms' : List (Option ℕ)) → StayedOrBegan old who began new → (began ≡ true → own ≡ time_out_of (get new.waits who)) → MeetsDeadlines old alarms → alarms' ≡ with_called called (set_if began who own (without_woken None gs alarms)) → MeetsDeadlines new alarms'
deadlines_after old new who began gs own called alarms alarms' stayed own-is meets alarms-are t u due =
    subst (λ (xs : List (Option ℕ)). IsBack xs t u) (sym alarms-are)
    (back_called called (set_if began who own (without_woken None gs alarms)) t u
    (back_set_if began who own (without_woken None gs alarms) t u
    (λ both. inr (u, own-is both.0 ∙ ap (λ (k : ℕ). time_out_of (get new.waits k)) (sym both.1) ∙ due, omega arith))
    (λ not. (let pending = pending_of (get new.waits t) u due in elim (stayed t pending.0 pending.1) [
      | inl both ↦ absurd (not (both.1, both.0))
      | inr was ↦ back_woken gs alarms t u (meets t u (ap time_out_of was ∙ pending.2))
    ]))))

-- ---- a watcher more, and a sleeper less

pub deadlines_watch : (s : State) (alarms alarms' : List (Option ℕ)) (t : ℕ) (moment : Option ℕ) → SleepsTo s (time_out_of (get s.waits t)) moment → MeetsDeadlines s alarms → alarms' ≡ slice_set alarms t moment → MeetsDeadlines s alarms'
deadlines_watch s alarms alarms' t moment sleeps meets alarms-are o u due =
    subst (λ (xs : List (Option ℕ)). IsBack xs o u) (sym alarms-are)
    (back_set alarms t o u moment
    (λ same. (let own = ap (λ (k : ℕ). time_out_of (get s.waits k)) (sym same) ∙ due in let pending = pending_of (get s.waits t) u own in elim sleeps [
      | inl is ↦ inr (u, is ∙ own, omega arith)
      | inr next ↦ (let soon = next.2.2 u (inr (t, pending.0, pending.1, pending.2)) in inr (next.0, next.1, soon))
    ]))
    (λ apart. meets o u due))

pub deadlines_stop : (s : State) (alarms alarms' : List (Option ℕ)) (t : ℕ) (called : Option ℕ) → MeetsDeadlines s alarms → alarms' ≡ with_called called (slice_set alarms t None) → MeetsDeadlines s alarms'
deadlines_stop s alarms alarms' t called meets alarms-are o u due =
    subst (λ (xs : List (Option ℕ)). IsBack xs o u) (sym alarms-are)
    (back_called called (slice_set alarms t None) o u (back_set alarms t o u None (λ same. none_soon u) (λ apart. meets o u due)))

-- ---- whatever is awaited

sleeps_more : (x : Option ℕ) (alarms : List (Option ℕ)) (u : ℕ) → SleepsUpTo alarms u → SleepsUpTo (x ∷ alarms) u
sleeps_more x alarms u some = (suc some.0, some.1, some.2, some.3)

none_more : (x : Option ℕ) (alarms : List (Option ℕ)) (u : ℕ) → ((m : ℕ) → x ≡ Some m → u < m) → NoneUpTo alarms u → NoneUpTo (x ∷ alarms) u
none_more x alarms u first none zero m is = first m is
none_more x alarms u first none (suc t) m is = none t m is

none_in_nothing : (u : ℕ) → NoneUpTo [] u
none_in_nothing u zero m is = absurd (cc (is))
none_in_nothing u (suc t) m is = absurd (cc (is))

later_than : (m u : ℕ) → u < m → (n : ℕ) → Some m ≡ Some n → u < n
later_than m u later n is = subst (λ (k : Option ℕ). u < some_of k) is later
  where
    some_of : Option ℕ → ℕ
    some_of None = 0
    some_of (Some n) = n

sleeps_or_none : (alarms : List (Option ℕ)) (u : ℕ) → SleepsUpTo alarms u ⊎ NoneUpTo alarms u
sleeps_or_none [] u = inr (none_in_nothing u)
sleeps_or_none (None ∷ alarms) u = elim (sleeps_or_none alarms u) [
  | inl some ↦ inl (sleeps_more None alarms u some)
  | inr none ↦ inr (none_more None alarms u (λ m is. absurd (cc (is))) none)
]
sleeps_or_none (Some m ∷ alarms) u = elim (cases_lt u m) [
  | inl later ↦ elim (sleeps_or_none alarms u) [
    | inl some ↦ inl (sleeps_more (Some m) alarms u some)
    | inr none ↦ inr (none_more (Some m) alarms u (later_than m u later) none)
  ]
  | inr soon ↦ inl (0, m, refl, soon)
]

-- who is back by then though nobody is, was stopped
stopped : (alarms : List (Option ℕ)) (t u : ℕ) → NoneUpTo alarms u → IsBack alarms t u → alarm_at alarms t ≡ None
stopped alarms t u none back = elim back [
  | inl is ↦ is
  | inr some ↦ (let later = none t some.0 some.1 in let soon = some.2 in absurd (omega (arith, later, soon)))
]

pub in_time : (s : State) (alarms : List (Option ℕ)) (watchers : List Bool) → MeetsDeadlines s alarms → IsWatched s alarms watchers → IsInTime s alarms watchers
in_time s alarms watchers meets watched u low awaited = elim (watched u low awaited) [
  | inl quiet ↦ elim (sleeps_or_none alarms u) [
    | inl some ↦ inl some
    | inr none ↦ inr (quiet, λ t due. stopped alarms t u none (meets t u due))
  ]
  | inr some ↦ inl some
]

pub watched : (s : State) (alarms : List (Option ℕ)) (watchers : List Bool) → IsInTime s alarms watchers → IsWatched s alarms watchers
watched s alarms watchers in_time u low awaited = elim (in_time u low awaited) [
  | inl some ↦ inr some
  | inr none ↦ inl none.0
]
