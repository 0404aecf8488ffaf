-- When deadlines come.
use Rattle.std.proofs.Common.{◌≡◌, ◌≢◌, ◌⊎◌, inl, inr, ℕ, zero, suc, ◌<◌, ◌≤◌, max, Bool, true, false, length, refl, sym, ap, ◌∙◌, subst, Option, Some, None, arith}
use Rattle.std.specs.Prelude.{is_some, ◌==◌, if◌then◌else◌}
use Rattle.std.proofs.lemmas.Bool.{cases_lt, leb-false}
use Rattle.std.proofs.lemmas.List.{length-set, get_or-set_same, get_or-set_other}
use Rattle.nt_schedule.specs.declared.standing.ThreadState.{ThreadState}
use Rattle.nt_schedule.specs.declared.standing.Choice.{Choice}
use Rattle.nt_schedule.specs.declared.standing.TurnRequest.{TurnRequest}
use Rattle.nt_schedule.specs.Turns.{standing, can_go_on, until_of, has_come, is_due, deadline, choice_of, Moment, next_number, let_go_on, waits_anew, due_goes_on, looked_round, looked, jumped, goes_by}
use Rattle.nt_schedule.specs.Laws.{IsNextDeadline, TellsTime}
use Rattle.nt_schedule.proofs.WhoGoesOn.{past, at_or_below, deadline_is, deadline_least, clock_means, clock_alone}

-- ---- who is due goes on

due_length : (m : Moment) (n : ℕ) → length (due_goes_on m n).threads ≡ length m.threads
due_length m n = go (is_due m.time (standing m.threads n))
  where
    go : (b : Bool) → length (if b then let_go_on m n else m).threads ≡ length m.threads
    go true = length-set m.threads n (ThreadState.Ready (next_number m.turns))
    go false = refl

due_time : (m : Moment) (n : ℕ) → (due_goes_on m n).time ≡ m.time
due_time m n = go (is_due m.time (standing m.threads n))
  where
    go : (b : Bool) → (if b then let_go_on m n else m).time ≡ m.time
    go true = refl
    go false = refl

due_others : (m : Moment) (n t : ℕ) → t ≢ n → standing (due_goes_on m n).threads t ≡ standing m.threads t
due_others m n t other = go (is_due m.time (standing m.threads n))
  where
    go : (b : Bool) → standing (if b then let_go_on m n else m).threads t ≡ standing m.threads t
    go true = get_or-set_other m.threads n t (ThreadState.Ready (next_number m.turns)) ThreadState.Ended other
    go false = refl

due_itself : (m : Moment) (n : ℕ) → n < length m.threads → is_due m.time (standing (due_goes_on m n).threads n) ≡ false
due_itself m n lt = go (is_due m.time (standing m.threads n)) refl
  where
    go : (b : Bool) → is_due m.time (standing m.threads n) ≡ b → is_due m.time (standing (if b then let_go_on m n else m).threads n) ≡ false
    go true is = ap (λ (it : ThreadState). is_due m.time it) (get_or-set_same m.threads n (ThreadState.Ready (next_number m.turns)) ThreadState.Ended lt)
    go false is = is

looked_length : (n : ℕ) (m : Moment) → length (looked_round n m).threads ≡ length m.threads
looked_length zero m = refl
looked_length (suc n) m = due_length (looked_round n m) n ∙ looked_length n m

pub looked_time : (n : ℕ) (m : Moment) → (looked_round n m).time ≡ m.time
looked_time zero m = refl
looked_time (suc n) m = due_time (looked_round n m) n ∙ looked_time n m

-- of the first n none is due any more
none_of_them : (n : ℕ) (m : Moment) → n ≤ length m.threads → (t : ℕ) → t < n → is_due m.time (standing (looked_round n m).threads t) ≡ false
none_of_them zero m within t lt = absurd (omega (arith, lt))
none_of_them (suc n) m within t lt = go (none_of_them n m) (at_or_below t n lt)
  where
    go : (n ≤ length m.threads → (t : ℕ) → t < n → is_due m.time (standing (looked_round n m).threads t) ≡ false) → (t ≡ n) ⊎ (t < n) → is_due m.time (standing (due_goes_on (looked_round n m) n).threads t) ≡ false
    go before (inl same) =
        let long = looked_length n m in
        let here : is_due (looked_round n m).time (standing (due_goes_on (looked_round n m) n).threads n) ≡ false = due_itself (looked_round n m) n (omega (arith, within, long)) in
        let at_time : is_due m.time (standing (due_goes_on (looked_round n m) n).threads n) ≡ false = subst (λ (x : ℕ). is_due x (standing (due_goes_on (looked_round n m) n).threads n) ≡ false) (looked_time n m) here in
        subst (λ (k : ℕ). is_due m.time (standing (due_goes_on (looked_round n m) n).threads k) ≡ false) (sym same) at_time
    go before (inr less) =
        let other : t ≢ n = omega (arith, less) in
        ap (λ (it : ThreadState). is_due m.time it) (due_others (looked_round n m) n t other) ∙ before (omega (arith, within)) t less

-- nobody is due once it was looked round
none_is_due : (m : Moment) (t : ℕ) → is_due m.time (standing (looked m).threads t) ≡ false
none_is_due m t = go (cases_lt t (length m.threads))
  where
    go : (t < length m.threads) ⊎ (length m.threads ≤ t) → is_due m.time (standing (looked m).threads t) ≡ false
    go (inl lt) = none_of_them (length m.threads) m (omega arith) t lt
    go (inr le) = let long = looked_length (length m.threads) m in ap (λ (it : ThreadState). is_due m.time it) (past (looked m).threads t (omega (arith, le, long)))

later_than : (time moment : ℕ) → has_come time (Some moment) ≡ false → time < moment
later_than time moment e = leb-false moment time e

-- ---- the next deadline

next_is : (m : Moment) (moment : ℕ) → deadline (length (looked m).threads) (looked m).threads ≡ Some moment → IsNextDeadline (looked m) moment
next_is m moment is =
    let found = deadline_is (length (looked m).threads) (looked m).threads moment is in
    let late : m.time < moment = later_than m.time moment (ap (λ (o : Option ℕ). has_come m.time o) (sym found.1) ∙ none_is_due m found.0) in
    let same = looked_time (length m.threads) m in
    record {
      later = subst (λ (x : ℕ). x < moment) (sym same) late;
      thread = found.0;
      is = found.1;
      least = λ other until at. least other until at (cases_lt other (length (looked m).threads));
    }
  where
    least : (other until : ℕ) → until_of (standing (looked m).threads other) ≡ Some until → (other < length (looked m).threads) ⊎ (length (looked m).threads ≤ other) → moment ≤ until
    least other until at (inl lt) = deadline_least (length (looked m).threads) (looked m).threads moment is other until lt at
    least other until at (inr le) = let h : None ≡ Some until = ap until_of (sym (past (looked m).threads other le)) ∙ at in (cc)

-- the time once the clock went on
jumped_to : (m : Moment) (o : Option ℕ) → deadline (length (looked m).threads) (looked m).threads ≡ o → is_some o ≡ true → IsNextDeadline (looked m) (jumped o (looked m)).time
jumped_to m None is some = (cc)
jumped_to m (Some moment) is some =
    let next = next_is m moment is in
    let late = next.later in
    let same : moment ≡ max (looked m).time moment = omega (arith, late) in
    subst (λ (x : ℕ). IsNextDeadline (looked m) x) same next

anew_time : (thread : ℕ) (m : Moment) → (waits_anew thread m).time ≡ m.time
anew_time thread m = go (can_go_on (standing m.threads thread))
  where
    go : (b : Bool) → (if b then let_go_on m thread else m).time ≡ m.time
    go true = refl
    go false = refl

-- where a thread goes on the time stays
thread_time : (caller thread : ℕ) (m : Moment) → (goes_by caller (Choice.Thread thread) m).time ≡ m.time
thread_time caller thread m = go (thread == caller)
  where
    go : (b : Bool) → (if b then m else waits_anew caller m).time ≡ m.time
    go true = refl
    go false = anew_time caller m

comes_to : (m : Moment) (caller : ℕ) (choice : Choice) → (choice ≡ Choice.Clock → is_some (deadline (length (looked m).threads) (looked m).threads) ≡ true) → choice ≡ Choice.Clock → IsNextDeadline (looked m) (goes_by caller choice (looked m)).time
comes_to m caller (Choice.Thread t) some is = (cc)
comes_to m caller Choice.Clock some is = jumped_to m (deadline (length (looked m).threads) (looked m).threads) refl (some refl)
comes_to m caller Choice.Nobody some is = (cc)

stays_at : (m : Moment) (caller : ℕ) (choice : Choice) → choice ≢ Choice.Clock → (goes_by caller choice (looked m)).time ≡ m.time
stays_at m caller (Choice.Thread t) other = thread_time caller t (looked m) ∙ looked_time (length m.threads) m
stays_at m caller Choice.Clock other = absurd (other refl)
stays_at m caller Choice.Nobody other = looked_time (length m.threads) m

jumps_onward : (o : Option ℕ) (m : Moment) → m.time ≤ (jumped o m).time
jumps_onward None m = omega arith
jumps_onward (Some moment) m = omega arith

goes_onward : (m : Moment) (caller : ℕ) (choice : Choice) → m.time ≤ (goes_by caller choice (looked m)).time
goes_onward m caller (Choice.Thread t) = let same = thread_time caller t (looked m) ∙ looked_time (length m.threads) m in omega (arith, same)
goes_onward m caller Choice.Clock = let same = looked_time (length m.threads) m in let more = jumps_onward (deadline (length (looked m).threads) (looked m).threads) (looked m) in omega (arith, same, more)
goes_onward m caller Choice.Nobody = let same = looked_time (length m.threads) m in omega (arith, same)

pub time_tells : (m : Moment) (asked : TurnRequest) → TellsTime m asked (choice_of asked (looked m).threads) (goes_by asked.caller (choice_of asked (looked m).threads) (looked m))
time_tells m asked = record {
  onward = goes_onward m asked.caller (choice_of asked (looked m).threads);
  stays = stays_at m asked.caller (choice_of asked (looked m).threads);
  comes = comes_to m asked.caller (choice_of asked (looked m).threads) (clock_means asked (looked m).threads);
  alone = clock_alone asked (looked m).threads;
}
