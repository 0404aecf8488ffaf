-- Who goes on, and when nobody does.
use Rattle.std.proofs.Common.{◌≡◌, ◌≢◌, ◌⊎◌, inl, inr, ℕ, zero, suc, ◌<◌, ◌≤◌, Bool, true, false, ◌&&◌, List, length, refl, sym, ap, ◌∙◌, Option, Some, None, arith}
use Rattle.std.specs.Prelude.{is_some, nat_lt, ◌==◌, if◌then◌else◌}
use Rattle.std.proofs.lemmas.Bool.{cases_lt, cases_eq, eqb-true, false≢true, ltb-true, ltb-false}
use Rattle.std.proofs.lemmas.List.{get_or_past}
use Rattle.nt_schedule.specs.declared.standing.ThreadState.{ThreadState}
use Rattle.nt_schedule.specs.declared.standing.Point.{Point}
use Rattle.nt_schedule.specs.declared.standing.Choice.{Choice}
use Rattle.nt_schedule.specs.declared.standing.TurnRequest.{TurnRequest}
use Rattle.nt_schedule.specs.declared.standing.Turn.{Turn}
use Rattle.nt_schedule.specs.Turns.{standing, can_go_on, until_of, earlier, deadline, longest, turn_of, turn_but, waiting, alone, turn_or, in_turn, usual, is_thread, may_jump, is_possible, wanted_or, choice_of}
use Rattle.nt_schedule.specs.Laws.{NobodyCan, NothingIsDue}

-- ---- threads by number

pub past : (xs : List ThreadState) (t : ℕ) → length xs ≤ t → standing xs t ≡ ThreadState.Ended
past xs t le = get_or_past xs t ThreadState.Ended le

pub at_or_below : (t n : ℕ) → t < suc n → (t ≡ n) ⊎ (t < n)
at_or_below t n lt = go (cases_lt t n)
  where
    go : (t < n) ⊎ (n ≤ t) → (t ≡ n) ⊎ (t < n)
    go (inl less) = inr less
    go (inr more) = inl (omega (arith, lt, more))

-- ---- turns

longest_none : (a b : Option Turn) → longest a b ≡ None → (a ≡ None) × (b ≡ None)
longest_none None b e = (refl, e)
longest_none (Some a) None e = (cc)
longest_none (Some a) (Some b) e = go (nat_lt b.since a.since) e
  where
    go : (c : Bool) → (if c then Some b else Some a) ≡ None → (Some a ≡ None) × (Some b ≡ None)
    go true e = (cc)
    go false e = (cc)

longest_some : (a b : Option Turn) (turn : Turn) → longest a b ≡ Some turn → (a ≡ Some turn) ⊎ (b ≡ Some turn)
longest_some None b turn e = inr e
longest_some (Some a) None turn e = inl e
longest_some (Some a) (Some b) turn e = go (nat_lt b.since a.since) e
  where
    go : (c : Bool) → (if c then Some b else Some a) ≡ Some turn → (Some a ≡ Some turn) ⊎ (Some b ≡ Some turn)
    go true e = inr e
    go false e = inl e

turn_none : (t : ℕ) (it : ThreadState) → turn_of t it ≡ None → can_go_on it ≡ false
turn_none t (ThreadState.Ready since) e = (cc)
turn_none t (ThreadState.Asleep sleep) e = refl
turn_none t ThreadState.Ended e = refl

turn_some : (t : ℕ) (it : ThreadState) (turn : Turn) → turn_of t it ≡ Some turn → (turn.thread ≡ t) × (can_go_on it ≡ true)
turn_some t (ThreadState.Ready since) turn e =
    let same : ◌≡◌ {A = Turn} (record { since = since; thread = t }) turn = cc in (sym (ap (λ (x : Turn). x.thread) same), refl)
turn_some t (ThreadState.Asleep sleep) turn e = (cc)
turn_some t ThreadState.Ended turn e = (cc)

but_none : (caller t : ℕ) (it : ThreadState) → t ≢ caller → turn_but caller t it ≡ None → can_go_on it ≡ false
but_none caller t it other e = go (t == caller) refl e
  where
    go : (b : Bool) → (t == caller) ≡ b → (if b then None else turn_of t it) ≡ None → can_go_on it ≡ false
    go true is e = absurd (other (eqb-true t caller is))
    go false is e = turn_none t it e

but_some : (caller t : ℕ) (it : ThreadState) (turn : Turn) → turn_but caller t it ≡ Some turn → (turn.thread ≡ t) × (can_go_on it ≡ true)
but_some caller t it turn e = go (t == caller) e
  where
    go : (b : Bool) → (if b then None else turn_of t it) ≡ Some turn → (turn.thread ≡ t) × (can_go_on it ≡ true)
    go true e = (cc)
    go false e = turn_some t it turn e

waiting_none : (n caller : ℕ) (xs : List ThreadState) → waiting n caller xs ≡ None → (t : ℕ) → t < n → t ≢ caller → can_go_on (standing xs t) ≡ false
waiting_none zero caller xs none t lt other = absurd (omega (arith, lt))
waiting_none (suc n) caller xs none t lt other =
    go (waiting_none n caller xs) (longest_none (waiting n caller xs) (turn_but caller n (standing xs n)) none) (at_or_below t n lt)
  where
    go : (waiting n caller xs ≡ None → (t : ℕ) → t < n → t ≢ caller → can_go_on (standing xs t) ≡ false) → (waiting n caller xs ≡ None) × (turn_but caller n (standing xs n) ≡ None) → (t ≡ n) ⊎ (t < n) → can_go_on (standing xs t) ≡ false
    go before parts (inl same) = ap (λ (k : ℕ). can_go_on (standing xs k)) same ∙ but_none caller n (standing xs n) (λ e. other (same ∙ e)) parts.1
    go before parts (inr less) = before parts.0 t less other

waiting_some : (n caller : ℕ) (xs : List ThreadState) (turn : Turn) → waiting n caller xs ≡ Some turn → can_go_on (standing xs turn.thread) ≡ true
waiting_some zero caller xs turn some = (cc)
waiting_some (suc n) caller xs turn some =
    go (waiting_some n caller xs turn) (longest_some (waiting n caller xs) (turn_but caller n (standing xs n)) turn some)
  where
    go : (waiting n caller xs ≡ Some turn → can_go_on (standing xs turn.thread) ≡ true) → (waiting n caller xs ≡ Some turn) ⊎ (turn_but caller n (standing xs n) ≡ Some turn) → can_go_on (standing xs turn.thread) ≡ true
    go before (inl is) = before is
    go before (inr is) = let found = but_some caller n (standing xs n) turn is in ap (λ (k : ℕ). can_go_on (standing xs k)) found.0 ∙ found.1

-- ---- deadlines

earlier_none : (a b : Option ℕ) → earlier a b ≡ None → (a ≡ None) × (b ≡ None)
earlier_none None b e = (refl, e)
earlier_none (Some m) None e = (cc)
earlier_none (Some m) (Some n) e = go (nat_lt n m) e
  where
    go : (c : Bool) → (if c then Some n else Some m) ≡ None → (Some m ≡ None) × (Some n ≡ None)
    go true e = (cc)
    go false e = (cc)

-- the earlier of two is one of them, and neither is earlier
record IsEarlier (a b : Option ℕ) (moment : ℕ) : Type 0 where
  one : (a ≡ Some moment) ⊎ (b ≡ Some moment)
  first : (m : ℕ) → a ≡ Some m → moment ≤ m
  second : (m : ℕ) → b ≡ Some m → moment ≤ m

earlier_some : (a b : Option ℕ) (moment : ℕ) → earlier a b ≡ Some moment → IsEarlier a b moment
earlier_some None b moment e = record {
  one = inr e;
  first = λ m is. let h : None ≡ Some m = is in (cc);
  second = λ m is. let h : Some moment ≡ Some m = sym e ∙ is in let same : moment ≡ m = cc in omega (arith, same);
}
earlier_some (Some a) None moment e = record {
  one = inl e;
  first = λ m is. let h : Some moment ≡ Some m = sym e ∙ is in let same : moment ≡ m = cc in omega (arith, same);
  second = λ m is. let h : None ≡ Some m = is in (cc);
}
earlier_some (Some a) (Some b) moment e = go (nat_lt b a) refl e
  where
    go : (c : Bool) → nat_lt b a ≡ c → (if c then Some b else Some a) ≡ Some moment → IsEarlier (Some a) (Some b) moment
    go true is e =
        let lt = ltb-true b a is in
        let same : b ≡ moment = cc in
        record {
          one = inr e;
          first = λ m found. let h : a ≡ m = cc in omega (arith, lt, same, h);
          second = λ m found. let h : b ≡ m = cc in omega (arith, same, h);
        }
    go false is e =
        let le = ltb-false b a is in
        let same : a ≡ moment = cc in
        record {
          one = inl e;
          first = λ m found. let h : a ≡ m = cc in omega (arith, same, h);
          second = λ m found. let h : b ≡ m = cc in omega (arith, le, same, h);
        }

deadline_none : (n : ℕ) (xs : List ThreadState) → deadline n xs ≡ None → (t : ℕ) → t < n → until_of (standing xs t) ≡ None
deadline_none zero xs none t lt = absurd (omega (arith, lt))
deadline_none (suc n) xs none t lt =
    go (deadline_none n xs) (earlier_none (deadline n xs) (until_of (standing xs n)) none) (at_or_below t n lt)
  where
    go : (deadline n xs ≡ None → (t : ℕ) → t < n → until_of (standing xs t) ≡ None) → (deadline n xs ≡ None) × (until_of (standing xs n) ≡ None) → (t ≡ n) ⊎ (t < n) → until_of (standing xs t) ≡ None
    go before parts (inl same) = ap (λ (k : ℕ). until_of (standing xs k)) same ∙ parts.1
    go before parts (inr less) = before parts.0 t less

pub deadline_is : (n : ℕ) (xs : List ThreadState) (moment : ℕ) → deadline n xs ≡ Some moment → (t : ℕ) × (until_of (standing xs t) ≡ Some moment)
deadline_is zero xs moment some = (cc)
deadline_is (suc n) xs moment some = go (deadline_is n xs moment) (earlier_some (deadline n xs) (until_of (standing xs n)) moment some).one
  where
    go : (deadline n xs ≡ Some moment → (t : ℕ) × (until_of (standing xs t) ≡ Some moment)) → (deadline n xs ≡ Some moment) ⊎ (until_of (standing xs n) ≡ Some moment) → (t : ℕ) × (until_of (standing xs t) ≡ Some moment)
    go before (inl is) = before is
    go before (inr is) = (n, is)

-- of the first so many threads none sleeps to an earlier one
pub deadline_least : (n : ℕ) (xs : List ThreadState) (moment : ℕ) → deadline n xs ≡ Some moment → (t m : ℕ) → t < n → until_of (standing xs t) ≡ Some m → moment ≤ m
deadline_least zero xs moment some t m lt until = absurd (omega (arith, lt))
deadline_least (suc n) xs moment some t m lt until =
    go (deadline_least n xs) (earlier_some (deadline n xs) (until_of (standing xs n)) moment some) (deadline n xs) refl (at_or_below t n lt)
  where
    go : ((k : ℕ) → deadline n xs ≡ Some k → (t m : ℕ) → t < n → until_of (standing xs t) ≡ Some m → k ≤ m) → IsEarlier (deadline n xs) (until_of (standing xs n)) moment → (o : Option ℕ) → deadline n xs ≡ o → (t ≡ n) ⊎ (t < n) → moment ≤ m
    go before found o is (inl same) = found.second m (ap (λ (k : ℕ). until_of (standing xs k)) (sym same) ∙ until)
    go before found None is (inr less) = let h : None ≡ Some m = sym (deadline_none n xs is t less) ∙ until in (cc)
    go before found (Some k) is (inr less) = let one = before k is t m less until in let two = found.first k is in omega (arith, one, two)

-- ---- who goes on

some_is : (o : Option ℕ) → is_some o ≡ false → o ≡ None
some_is None e = refl
some_is (Some m) e = (cc)

alone_thread : (caller : ℕ) (xs : List ThreadState) (t : ℕ) → alone caller xs ≡ Choice.Thread t → can_go_on (standing xs t) ≡ true
alone_thread caller xs t e = go (can_go_on (standing xs caller)) refl (is_some (deadline (length xs) xs)) e
  where
    go : (a : Bool) → can_go_on (standing xs caller) ≡ a → (b : Bool) → (if a then Choice.Thread caller else if b then Choice.Clock else Choice.Nobody) ≡ Choice.Thread t → can_go_on (standing xs t) ≡ true
    go true is b e = let same : caller ≡ t = cc in ap (λ (k : ℕ). can_go_on (standing xs k)) (sym same) ∙ is
    go false is true e = (cc)
    go false is false e = (cc)

in_turn_thread : (caller : ℕ) (xs : List ThreadState) (t : ℕ) → in_turn caller xs ≡ Choice.Thread t → can_go_on (standing xs t) ≡ true
in_turn_thread caller xs t e = go (waiting (length xs) caller xs) refl e
  where
    go : (o : Option Turn) → waiting (length xs) caller xs ≡ o → turn_or o (alone caller xs) ≡ Choice.Thread t → can_go_on (standing xs t) ≡ true
    go None is e = alone_thread caller xs t e
    go (Some turn) is e = let same : turn.thread ≡ t = cc in ap (λ (k : ℕ). can_go_on (standing xs k)) (sym same) ∙ waiting_some (length xs) caller xs turn is

call_thread : (caller : ℕ) (xs : List ThreadState) (t : ℕ) → usual Point.Call caller xs ≡ Choice.Thread t → can_go_on (standing xs t) ≡ true
call_thread caller xs t e = go (can_go_on (standing xs caller)) refl e
  where
    go : (a : Bool) → can_go_on (standing xs caller) ≡ a → (if a then Choice.Thread caller else in_turn caller xs) ≡ Choice.Thread t → can_go_on (standing xs t) ≡ true
    go true is e = let same : caller ≡ t = cc in ap (λ (k : ℕ). can_go_on (standing xs k)) (sym same) ∙ is
    go false is e = in_turn_thread caller xs t e

usual_thread : (point : Point) (caller : ℕ) (xs : List ThreadState) (t : ℕ) → usual point caller xs ≡ Choice.Thread t → can_go_on (standing xs t) ≡ true
usual_thread Point.Call caller xs t e = call_thread caller xs t e
usual_thread Point.Yield caller xs t e = in_turn_thread caller xs t e
usual_thread Point.Sleep caller xs t e = in_turn_thread caller xs t e
usual_thread Point.End caller xs t e = in_turn_thread caller xs t e

wanted_thread : (asked : TurnRequest) (xs : List ThreadState) (o : Option Choice) (t : ℕ) → wanted_or asked xs o ≡ Choice.Thread t → can_go_on (standing xs t) ≡ true
wanted_thread asked xs None t e = usual_thread asked.point asked.caller xs t e
wanted_thread asked xs (Some choice) t e = go (is_possible asked xs choice) refl e
  where
    go : (a : Bool) → is_possible asked xs choice ≡ a → (if a then choice else usual asked.point asked.caller xs) ≡ Choice.Thread t → can_go_on (standing xs t) ≡ true
    go true is e = ap (λ (c : Choice). is_possible asked xs c) (sym e) ∙ is
    go false is e = usual_thread asked.point asked.caller xs t e

pub who_can : (asked : TurnRequest) (xs : List ThreadState) (t : ℕ) → choice_of asked xs ≡ Choice.Thread t → can_go_on (standing xs t) ≡ true
who_can asked xs t e = wanted_thread asked xs asked.wanted t e

-- ---- nobody

-- what holds of each thread there is, and of a thread that has ended, holds of every number
each_number : (p : ThreadState → Bool) (xs : List ThreadState) → p ThreadState.Ended ≡ false → ((t : ℕ) → t < length xs → p (standing xs t) ≡ false) → (t : ℕ) → p (standing xs t) ≡ false
each_number p xs last here t = go (cases_lt t (length xs))
  where
    go : (t < length xs) ⊎ (length xs ≤ t) → p (standing xs t) ≡ false
    go (inl lt) = here t lt
    go (inr le) = ap p (past xs t le) ∙ last

none_waits : (caller : ℕ) (xs : List ThreadState) → waiting (length xs) caller xs ≡ None → can_go_on (standing xs caller) ≡ false → NobodyCan xs
none_waits caller xs none can = each_number can_go_on xs refl (λ t lt. go t lt (cases_eq t caller))
  where
    go : (t : ℕ) → t < length xs → (t ≡ caller) ⊎ (t ≡ caller → ⊥) → can_go_on (standing xs t) ≡ false
    go t lt (inl same) = ap (λ (k : ℕ). can_go_on (standing xs k)) same ∙ can
    go t lt (inr other) = waiting_none (length xs) caller xs none t lt other

pub none_due : (xs : List ThreadState) → deadline (length xs) xs ≡ None → NothingIsDue xs
none_due xs none t = go (cases_lt t (length xs))
  where
    go : (t < length xs) ⊎ (length xs ≤ t) → until_of (standing xs t) ≡ None
    go (inl lt) = deadline_none (length xs) xs none t lt
    go (inr le) = ap until_of (past xs t le)

-- where the clock goes on in turn, or nobody does, no thread can
pub record IsIdle (caller : ℕ) (xs : List ThreadState) : Type 0 where
  pub nobody : NobodyCan xs
  pub is : in_turn caller xs ≡ (if is_some (deadline (length xs) xs) then Choice.Clock else Choice.Nobody)

alone_idle : (caller : ℕ) (xs : List ThreadState) → is_thread (alone caller xs) ≡ false → (can_go_on (standing xs caller) ≡ false) × (alone caller xs ≡ (if is_some (deadline (length xs) xs) then Choice.Clock else Choice.Nobody))
alone_idle caller xs e = go (can_go_on (standing xs caller)) refl e
  where
    go : (a : Bool) → can_go_on (standing xs caller) ≡ a → is_thread (if a then Choice.Thread caller else if is_some (deadline (length xs) xs) then Choice.Clock else Choice.Nobody) ≡ false →
        (can_go_on (standing xs caller) ≡ false) × ((if a then Choice.Thread caller else if is_some (deadline (length xs) xs) then Choice.Clock else Choice.Nobody) ≡ (if is_some (deadline (length xs) xs) then Choice.Clock else Choice.Nobody))
    go true is e = (cc)
    go false is e = (is, refl)

in_turn_idle : (caller : ℕ) (xs : List ThreadState) → is_thread (in_turn caller xs) ≡ false → IsIdle caller xs
in_turn_idle caller xs e = go (waiting (length xs) caller xs) refl e
  where
    go : (o : Option Turn) → waiting (length xs) caller xs ≡ o → is_thread (turn_or o (alone caller xs)) ≡ false → IsIdle caller xs
    go None is e =
        let parts = alone_idle caller xs e in
        record { nobody = none_waits caller xs is parts.0; is = ap (λ (o : Option Turn). turn_or o (alone caller xs)) is ∙ parts.1 }
    go (Some turn) is e = (cc)

call_idle : (caller : ℕ) (xs : List ThreadState) → is_thread (usual Point.Call caller xs) ≡ false → IsIdle caller xs × (usual Point.Call caller xs ≡ in_turn caller xs)
call_idle caller xs e = go (can_go_on (standing xs caller)) e
  where
    go : (a : Bool) → is_thread (if a then Choice.Thread caller else in_turn caller xs) ≡ false → IsIdle caller xs × ((if a then Choice.Thread caller else in_turn caller xs) ≡ in_turn caller xs)
    go true e = (cc)
    go false e = (in_turn_idle caller xs e, refl)

pub usual_idle : (point : Point) (caller : ℕ) (xs : List ThreadState) → is_thread (usual point caller xs) ≡ false → IsIdle caller xs × (usual point caller xs ≡ in_turn caller xs)
usual_idle Point.Call caller xs e = call_idle caller xs e
usual_idle Point.Yield caller xs e = (in_turn_idle caller xs e, refl)
usual_idle Point.Sleep caller xs e = (in_turn_idle caller xs e, refl)
usual_idle Point.End caller xs e = (in_turn_idle caller xs e, refl)

usual_nobody : (point : Point) (caller : ℕ) (xs : List ThreadState) → usual point caller xs ≡ Choice.Nobody → NobodyCan xs × NothingIsDue xs
usual_nobody point caller xs e =
    let idle = usual_idle point caller xs (ap is_thread e) in
    (idle.0.nobody, none_due xs (go (is_some (deadline (length xs) xs)) refl (sym idle.0.is ∙ (sym idle.1 ∙ e))))
  where
    go : (b : Bool) → is_some (deadline (length xs) xs) ≡ b → (if b then Choice.Clock else Choice.Nobody) ≡ Choice.Nobody → deadline (length xs) xs ≡ None
    go true is e = (cc)
    go false is e = some_is (deadline (length xs) xs) is

wanted_nobody : (asked : TurnRequest) (xs : List ThreadState) (o : Option Choice) → wanted_or asked xs o ≡ Choice.Nobody → NobodyCan xs × NothingIsDue xs
wanted_nobody asked xs None e = usual_nobody asked.point asked.caller xs e
wanted_nobody asked xs (Some choice) e = go (is_possible asked xs choice) refl e
  where
    go : (a : Bool) → is_possible asked xs choice ≡ a → (if a then choice else usual asked.point asked.caller xs) ≡ Choice.Nobody → NobodyCan xs × NothingIsDue xs
    go true is e = let h : false ≡ true = ap (λ (c : Choice). is_possible asked xs c) (sym e) ∙ is in (cc)
    go false is e = usual_nobody asked.point asked.caller xs e

pub nobody_means : (asked : TurnRequest) (xs : List ThreadState) → choice_of asked xs ≡ Choice.Nobody → NobodyCan xs × NothingIsDue xs
nobody_means asked xs e = wanted_nobody asked xs asked.wanted e

-- ---- the other way round

nothing_due : (xs : List ThreadState) → NothingIsDue xs → deadline (length xs) xs ≡ None
nothing_due xs none = go (deadline (length xs) xs) refl
  where
    go : (o : Option ℕ) → deadline (length xs) xs ≡ o → deadline (length xs) xs ≡ None
    go None is = is
    go (Some moment) is = let found = deadline_is (length xs) xs moment is in let h : None ≡ Some moment = sym (none found.0) ∙ found.1 in (cc)

nobody_chosen : (asked : TurnRequest) (xs : List ThreadState) → NobodyCan xs → NothingIsDue xs → (c : Choice) → choice_of asked xs ≡ c → (c ≡ Choice.Clock → ⊥) → choice_of asked xs ≡ Choice.Nobody
nobody_chosen asked xs nobody none (Choice.Thread t) is clock = let h : false ≡ true = sym (nobody t) ∙ who_can asked xs t is in (cc)
nobody_chosen asked xs nobody none Choice.Clock is clock = absurd (clock refl)
nobody_chosen asked xs nobody none Choice.Nobody is clock = is

-- where the clock goes on there is a deadline
jump_due : (asked : TurnRequest) (xs : List ThreadState) → may_jump asked xs ≡ true → is_some (deadline (length xs) xs) ≡ true
jump_due asked xs e = go asked.is_free (is_some (deadline (length xs) xs)) e
  where
    go : (a b : Bool) → (a && b && is_thread (usual asked.point asked.caller xs)) ≡ true → b ≡ true
    go true true e = refl
    go true false e = (cc)
    go false true e = (cc)
    go false false e = (cc)

usual_clock : (point : Point) (caller : ℕ) (xs : List ThreadState) → usual point caller xs ≡ Choice.Clock → is_some (deadline (length xs) xs) ≡ true
usual_clock point caller xs e =
    let idle = usual_idle point caller xs (ap is_thread e) in
    go (is_some (deadline (length xs) xs)) (sym idle.0.is ∙ (sym idle.1 ∙ e))
  where
    go : (b : Bool) → (if b then Choice.Clock else Choice.Nobody) ≡ Choice.Clock → b ≡ true
    go true e = refl
    go false e = (cc)

wanted_clock : (asked : TurnRequest) (xs : List ThreadState) (o : Option Choice) → wanted_or asked xs o ≡ Choice.Clock → is_some (deadline (length xs) xs) ≡ true
wanted_clock asked xs None e = usual_clock asked.point asked.caller xs e
wanted_clock asked xs (Some choice) e = go (is_possible asked xs choice) refl e
  where
    go : (a : Bool) → is_possible asked xs choice ≡ a → (if a then choice else usual asked.point asked.caller xs) ≡ Choice.Clock → is_some (deadline (length xs) xs) ≡ true
    go true is e = jump_due asked xs (ap (λ (c : Choice). is_possible asked xs c) (sym e) ∙ is)
    go false is e = usual_clock asked.point asked.caller xs e

pub clock_means : (asked : TurnRequest) (xs : List ThreadState) → choice_of asked xs ≡ Choice.Clock → is_some (deadline (length xs) xs) ≡ true
clock_means asked xs e = wanted_clock asked xs asked.wanted e

pub nobody_where : (asked : TurnRequest) (xs : List ThreadState) → NobodyCan xs → NothingIsDue xs → choice_of asked xs ≡ Choice.Nobody
nobody_where asked xs nobody none =
    nobody_chosen asked xs nobody none (choice_of asked xs) refl
    (λ clock. let due = clock_means asked xs clock in let h : false ≡ true = ap is_some (sym (nothing_due xs none)) ∙ due in false≢true h)

-- ---- the clock, where the time is not free

not_free : (asked : TurnRequest) (xs : List ThreadState) → asked.is_free ≡ false → may_jump asked xs ≡ false
not_free asked xs e = ap (λ (a : Bool). a && is_some (deadline (length xs) xs) && is_thread (usual asked.point asked.caller xs)) e

wanted_idle : (asked : TurnRequest) (xs : List ThreadState) (o : Option Choice) → asked.is_free ≡ false → wanted_or asked xs o ≡ Choice.Clock → NobodyCan xs
wanted_idle asked xs None free e = (usual_idle asked.point asked.caller xs (ap is_thread e)).0.nobody
wanted_idle asked xs (Some choice) free e = go (is_possible asked xs choice) refl e
  where
    go : (a : Bool) → is_possible asked xs choice ≡ a → (if a then choice else usual asked.point asked.caller xs) ≡ Choice.Clock → NobodyCan xs
    go true is e = let h : false ≡ true = sym (not_free asked xs free) ∙ (ap (λ (c : Choice). is_possible asked xs c) (sym e) ∙ is) in absurd (false≢true h)
    go false is e = (usual_idle asked.point asked.caller xs (ap is_thread e)).0.nobody

pub clock_alone : (asked : TurnRequest) (xs : List ThreadState) → choice_of asked xs ≡ Choice.Clock → asked.is_free ≡ false → NobodyCan xs
clock_alone asked xs e free = wanted_idle asked xs asked.wanted free e
