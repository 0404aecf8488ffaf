-- A lane that is not tried stands alike with a lower one.
use Rattle.std.proofs.Common.{◌≡◌, ◌≢◌, ◌<◌, ◌≤◌, ◌+◌, ◌⊎◌, inl, inr, ℕ, zero, suc, Bool, true, false, not, ◌&&◌, ◌||◌, List, [], ◌∷◌, length, drop, refl, sym, ap, ◌∙◌, subst, arith, Option, Some, None, is_some, Contains, ltb}
use Rattle.std.specs.Prelude.{slice_index_or, slice_get, slice_index, ◌==◌, nat_lt, if◌then◌else◌, option_map}
use Rattle.std.specs.List.{list_any}
use Rattle.std.specs.FinMap as fin
use Rattle.std.proofs.lemmas.Bool.{false≢true}
use Rattle.std.proofs.lemmas.Bool.Decides.{nat_tests}
use Rattle.std.proofs.lemmas.List.{get_or_past}
use Rattle.nt_status.proofs.Lists.{contains_none, contains_later}
use Rattle.nt_objects.specs.declared.object.Object.{Object}
use Rattle.nt_objects.specs.declared.object.Object.TheVariants.{Event, Semaphore, Mutex, Timer, Thread, Gone}
use Rattle.nt_objects.specs.Object.{has_ended}
use Rattle.nt_tables.specs.declared.handles.Opened.{Opened}
use Rattle.nt_tables.specs.Handles.{opened_at, names, count_named}
use Rattle.nt_waits.specs.declared.wait.Wait.{Wait}
use Rattle.nt_apc.specs.declared.apc.Queued.{Queued}
use Rattle.nt_apc.specs.Queues.{apc_queue_of, has_from}
use Rattle.nt_calls.specs.State.{State, object_at, pends, wait_names}
use Rattle.nt_machine.specs.Dispatcher.{Dispatcher, state}
use Rattle.nt_machine.specs.Lawful.{IsLawful}
use Rattle.nt_look.specs.Orders.{Ask, Plan, Point, asks, place}
use Rattle.nt_apart.specs.Footprint.{belongs, has_apc_from}
use Rattle.nt_apart.specs.Fewer.{renamed_opened, exchanged, is_own, IsInOrder, IsBare, StandAlike, IsLowestChosen}
use Rattle.nt_apart.proofs.Exchanging.{lawful_in_order}
use Rattle.nt_lanes.specs.Lanes.{point_at, AreTwins, AreKinds, kind_of, any_below, has_apc, is_named_alone, is_bare, are_like, are_handed_alike, is_like, is_tried}

-- ---- tests

pub and_first : (a b : Bool) → (a && b) ≡ true → a ≡ true
and_first true b e = refl
and_first false b e = e

pub and_second : (a b : Bool) → (a && b) ≡ true → b ≡ true
and_second true b e = e
and_second false b e = absurd (false≢true e)

pub or_first : (a b : Bool) → (a || b) ≡ false → a ≡ false
or_first true b e = e
or_first false b e = refl

pub or_second : (a b : Bool) → (a || b) ≡ false → b ≡ false
or_second true b e = absurd (false≢true (sym e))
or_second false b e = e

pub not_true : (a : Bool) → not a ≡ true → a ≡ false
not_true true e = sym e
not_true false e = refl

pub not_false : (a : Bool) → not a ≡ false → a ≡ true
not_false true e = refl
not_false false e = sym e

is_equal : (a b : ℕ) → (a == b) ≡ true → a ≡ b
is_equal a b e = grind (arith, nat_tests, e)

-- one of the first n is so
found_below : (so : ℕ → Bool) (n : ℕ) → any_below so n ≡ true → (i : ℕ) × (i < n) × (so i ≡ true)
found_below so zero e = absurd (false≢true e)
found_below so (suc n) e = go (found_below so n) (any_below so n) refl
  where
    go : (any_below so n ≡ true → (i : ℕ) × (i < n) × (so i ≡ true)) → (b : Bool) → any_below so n ≡ b → (i : ℕ) × (i < suc n) × (so i ≡ true)
    go found true has = let it = found has in let less = it.1 in (it.0, omega (arith, less), it.2)
    go found false none = (n, omega arith, sym (ap (λ (b : Bool). b || so n) none) ∙ e)

-- none of the first n is
none_below : (so : ℕ → Bool) (n : ℕ) → any_below so n ≡ false → (i : ℕ) → i < n → so i ≡ false
none_below so zero e i below = absurd (omega (arith, below))
none_below so (suc n) e i below = go (none_below so n (or_first (any_below so n) (so n) e) i) (ltb i n) refl
  where
    go : (i < n → so i ≡ false) → (b : Bool) → ltb i n ≡ b → so i ≡ false
    go before true less = before (grind (arith, nat_tests, less))
    go before false past =
        let least : n ≤ i = grind (arith, nat_tests, past) in
        let last : i ≡ n = omega (arith, least, below) in ap so last ∙ or_second (any_below so n) (so n) e

pub any_more : (so : ℕ → Bool) (n : ℕ) (old one new : Bool) → old ≡ any_below so n → one ≡ so n → new ≡ (old || one) → new ≡ any_below so (n + 1)
any_more so n old one new was is both =
    let more : suc n ≡ n + 1 = omega arith in
    both ∙ (ap (λ (b : Bool). b || one) was ∙ (ap (λ (b : Bool). any_below so n || b) is ∙ ap (any_below so) more))

none_in : {A : Type 0} (xs : List A) → is_some (slice_get xs 0) ≡ false → xs ≡ []
none_in [] e = refl
none_in (x ∷ xs) e = absurd (false≢true (sym e))

-- ---- a state in which a thread is bare

name_of : (xs : List ℕ) (x : ℕ) → list_any (λ (y : ℕ). y == x) xs ≡ true → (j : ℕ) × (j < length xs) × (slice_index xs j ≡ x)
name_of [] x e = absurd (false≢true e)
name_of (y ∷ xs) x e = go (name_of xs x) (y == x) refl
  where
    go : (list_any (λ (z : ℕ). z == x) xs ≡ true → (j : ℕ) × (j < length xs) × (slice_index xs j ≡ x)) → (b : Bool) → (y == x) ≡ b → (j : ℕ) × (j < length (y ∷ xs)) × (slice_index (y ∷ xs) j ≡ x)
    go later true is = (0, omega arith, is_equal y x is)
    go later false other = let it = later (sym (ap (λ (b : Bool). b || list_any (λ (z : ℕ). z == x) xs) other) ∙ e) in let less = it.1 in (suc it.0, omega (arith, less), it.2)

none_belongs : (t : ℕ) (xs : List Object) → list_any (belongs t) xs ≡ false → (x : ℕ) → belongs t (object_at xs x) ≡ false
none_belongs t [] e x = refl
none_belongs t (o ∷ xs) e zero = or_first (belongs t o) (list_any (belongs t) xs) e
none_belongs t (o ∷ xs) e (suc x) = none_belongs t xs (or_second (belongs t o) (list_any (belongs t) xs) e) x

-- as many handles name it as its own counts for: no other does
counts_one : (hs : List (Option Opened)) (h o : ℕ) → names o (opened_at hs h) ≡ true → 1 ≤ count_named hs o
counts_one [] h o is = absurd (false≢true is)
counts_one (x ∷ hs) zero o is =
    let one : count_named (x ∷ hs) o ≡ 1 + count_named hs o = ap (λ (b : Bool). (if b then 1 else 0) + count_named hs o) is in omega (arith, one)
counts_one (x ∷ hs) (suc h) o is = let rest = counts_one hs h o is in at_least (names o x) rest
  where
    at_least : (b : Bool) → 1 ≤ count_named hs o → 1 ≤ (if b then 1 else 0) + count_named hs o
    at_least true rest = omega arith
    at_least false rest = omega (arith, rest)

named_once : (hs : List (Option Opened)) (t o : ℕ) → count_named hs o ≡ (if names o (opened_at hs t) then 1 else 0) → (h : ℕ) → names o (opened_at hs h) ≡ true → h ≡ t
named_once [] t o count h is = absurd (false≢true is)
named_once (x ∷ hs) zero o count zero is = refl
named_once (x ∷ hs) zero o count (suc h) is = go (names o x) refl
  where
    go : (b : Bool) → names o x ≡ b → suc h ≡ 0
    go b own =
        let some = counts_one hs h o is in
        let one : (if b then 1 else 0) + count_named hs o ≡ (if b then 1 else 0) = ap (λ (c : Bool). (if c then 1 else 0) + count_named hs o) (sym own) ∙ (count ∙ ap (λ (c : Bool). if c then 1 else 0) own) in
        absurd (never b some one)
      where
        never : (b : Bool) → 1 ≤ count_named hs o → (if b then 1 else 0) + count_named hs o ≡ (if b then 1 else 0) → ⊥
        never true some one = omega (arith, some, one)
        never false some one = omega (arith, some, one)
named_once (x ∷ hs) (suc t) o count zero is =
    let one : count_named (x ∷ hs) o ≡ 1 + count_named hs o = ap (λ (b : Bool). (if b then 1 else 0) + count_named hs o) is in
    go (names o (opened_at hs t)) refl (sym one ∙ count)
  where
    go : (b : Bool) → names o (opened_at hs t) ≡ b → 1 + count_named hs o ≡ (if names o (opened_at hs t) then 1 else 0) → 0 ≡ suc t
    go true own all =
        let some = counts_one hs t o own in
        let two : 1 + count_named hs o ≡ 1 = all ∙ ap (λ (c : Bool). if c then 1 else 0) own in absurd (omega (arith, some, two))
    go false own all = let two : 1 + count_named hs o ≡ 0 = all ∙ ap (λ (c : Bool). if c then 1 else 0) own in absurd (omega (arith, two))
named_once (x ∷ hs) (suc t) o count (suc h) is = ap (λ (k : ℕ). suc k) (named_once hs t o (go (names o x) refl) h is)
  where
    go : (b : Bool) → names o x ≡ b → count_named hs o ≡ (if names o (opened_at hs t) then 1 else 0)
    go false other = let same : 0 + count_named hs o ≡ count_named (x ∷ hs) o = ap (λ (c : Bool). (if c then 1 else 0) + count_named hs o) (sym other) in let plain : count_named hs o ≡ 0 + count_named hs o = omega arith in plain ∙ (same ∙ count)
    go true is' =
        let one : 1 + count_named hs o ≡ (if names o (opened_at hs t) then 1 else 0) = ap (λ (c : Bool). (if c then 1 else 0) + count_named hs o) (sym is') ∙ count in
        let some = counts_one hs h o is in absurd (few (names o (opened_at hs t)) some one)
      where
        few : (b : Bool) → 1 ≤ count_named hs o → 1 + count_named hs o ≡ (if b then 1 else 0) → ⊥
        few true some one = omega (arith, some, one)
        few false some one = omega (arith, some, one)

-- the parts of the test
pub record AreBareTests (s : State) (t : ℕ) : Type 0 where
  pub known : t < s.threads
  pub runs : has_ended (object_at s.objects t) ≡ false
  pub idle : pends s t ≡ false
  pub queue : s.queues t ≡ []
  pub alone : count_named s.handles t ≡ (if names t (opened_at s.handles t) then 1 else 0)
  pub free : list_any (belongs t) s.objects ≡ false
  pub calm : any_below (has_apc s) s.threads ≡ false

bare_tests : (s : State) (t : ℕ) → is_bare s t ≡ true → AreBareTests s t
bare_tests s t e =
    let known = nat_lt t s.threads in
    let ended = has_ended (object_at s.objects t) in
    let queued = is_some (slice_get (s.queues t) 0) in
    let alone = is_named_alone s t in
    let owns = list_any (belongs t) s.objects in
    let posted = any_below (has_apc s) s.threads in
    let run = and_first (known && not ended) (not (pends s t) && (not queued && (alone && (not owns && not posted)))) e in
    let a = and_second (known && not ended) (not (pends s t) && (not queued && (alone && (not owns && not posted)))) e in
    let b = and_second (not (pends s t)) (not queued && (alone && (not owns && not posted))) a in
    let c = and_second (not queued) (alone && (not owns && not posted)) b in
    let d = and_second alone (not owns && not posted) c in
    let below = and_first known (not ended) run in
    record {
      known = grind (arith, nat_tests, below);
      runs = not_true ended (and_second known (not ended) run);
      idle = not_true (pends s t) (and_first (not (pends s t)) (not queued && (alone && (not owns && not posted))) a);
      queue = none_in (s.queues t) (not_true queued (and_first (not queued) (alone && (not owns && not posted)) b));
      alone = is_equal (count_named s.handles t) (if names t (opened_at s.handles t) then 1 else 0) (and_first alone (not owns && not posted) c);
      free = not_true owns (and_first (not owns) (not posted) d);
      calm = not_true posted (and_second (not owns) (not posted) d);
    }

pub bare_is : (d : Dispatcher) (t : ℕ) → IsLawful d → AreBareTests (state d) t → IsBare (state d) t
bare_is d t lawful tests = record {
  known = tests.known;
  idle = tests.idle;
  unawaited = unawaited;
  free = none_belongs t d.objects tests.free;
  empty = calm t tests.known;
  no_timer = λ u. no_timer u (ltb u d.threads) refl;
  named = λ h opened is own. named_once d.handles t t tests.alone h (ap (names t) is ∙ itself opened.object own);
}
  where
    unawaited : (u : ℕ) (w : Wait) → fin.get (state d).waits u ≡ Some w → wait_names w t ≡ false
    unawaited u w is = go (wait_names w t) refl
      where
        go : (b : Bool) → wait_names w t ≡ b → wait_names w t ≡ false
        go false e = e
        go true e = absurd (contains_none u (subst (λ (q : List ℕ). Contains q u) tests.queue (lawful.steady.sound.blocks.listed u t w is (name_of w.objects t e))))

    calm : (u : ℕ) → u < d.threads → apc_queue_of d.apcs.queues u ≡ []
    calm u below = none_in (apc_queue_of d.apcs.queues u) (none_below (has_apc (state d)) d.threads tests.calm u below)

    no_timer : (u : ℕ) (b : Bool) → ltb u d.threads ≡ b → has_apc_from (state d) u t ≡ false
    no_timer u true e = ap (λ (q : List Queued). has_from t q) (calm u (grind (arith, nat_tests, e)))
    no_timer u false e =
        let count = lawful.steady.sound.inboxes in
        ap (λ (q : List Queued). has_from t q) (get_or_past d.apcs.queues u [] (grind (arith, nat_tests, e, count)))

    itself : (x : ℕ) → x ≡ t → (x == t) ≡ true
    itself x same = grind (arith, nat_tests, same)

-- ---- two that stand alike

-- a thread's own object that has not ended is a thread that runs
own_runs : (o : Object) → is_own o ≡ true → has_ended o ≡ false → o ≡ Thread false
own_runs (Thread true) own runs = absurd (false≢true (sym runs))
own_runs (Thread false) own runs = refl
own_runs Gone own runs = absurd (false≢true (sym runs))
own_runs (Event manual set) own runs = absurd (false≢true own)
own_runs (Semaphore count maximum) own runs = absurd (false≢true own)
own_runs (Mutex owner depth abandoned) own runs = absurd (false≢true own)
own_runs (Timer manual set armed) own runs = absurd (false≢true own)

first_name : (a b : ℕ) → exchanged a b a ≡ b
first_name a b = let same : (a == a) ≡ true = grind (arith, nat_tests) in ap (λ (c : Bool). if c then b else if a == b then a else a) same

like_handles : (a b : ℕ) (x y : Option Opened) → are_like a b x y ≡ true → y ≡ option_map (renamed_opened (exchanged a b)) x
like_handles a b None None e = refl
like_handles a b (Some x) None e = absurd (false≢true e)
like_handles a b None (Some y) e = absurd (false≢true e)
like_handles a b (Some x) (Some y) e =
    let one = is_equal x.object a (and_first (x.object == a) ((y.object == b) && (x.access == y.access)) e) in
    let rest = and_second (x.object == a) ((y.object == b) && (x.access == y.access)) e in
    let two = is_equal y.object b (and_first (y.object == b) (x.access == y.access) rest) in
    let same = is_equal x.access y.access (and_second (y.object == b) (x.access == y.access) rest) in
    let at : y.object ≡ exchanged a b x.object = two ∙ (sym (first_name a b) ∙ ap (exchanged a b) (sym one)) in
    ap (λ (o : Opened). Some o) (λ i. record { object = at i; access = sym same i })

like_hands : (a b : Bool) → are_handed_alike a b ≡ true → b ≡ a
like_hands true b e = e
like_hands false b e = not_true b e

dropped : {A : Type 0} (n : ℕ) (xs : List A) (x : A) → Contains (drop n xs) x → Contains xs x
dropped zero xs x has = has
dropped (suc n) [] x has = has
dropped (suc n) (y ∷ xs) x has = contains_later y xs x (dropped n xs x has)

-- where a lane's kind is another's number
kind_known : (kinds : List ℕ) (lane : ℕ) → kind_of kinds lane ≢ lane → lane < length kinds
kind_known kinds lane other = go (ltb lane (length kinds)) refl
  where
    go : (b : Bool) → ltb lane (length kinds) ≡ b → lane < length kinds
    go true e = grind (arith, nat_tests, e)
    go false e = absurd (other (get_or_past kinds lane lane (grind (arith, nat_tests, e))))

twin_of_kind : (plan : Plan) (threads : ℕ) (kinds : List ℕ) (lane : ℕ) → AreKinds plan threads kinds → kind_of kinds lane ≢ lane → AreTwins plan (kind_of kinds lane) lane
twin_of_kind plan threads kinds lane are other = (are.each lane (kind_known kinds lane other)).twin other

lanes_enough : (plan : Plan) (threads : ℕ) (kinds : List ℕ) (lane : ℕ) → AreKinds plan threads kinds → kind_of kinds lane ≢ lane → threads ≤ length plan
lanes_enough plan threads kinds lane are other = go (ltb (length plan) threads) refl
  where
    go : (b : Bool) → ltb (length plan) threads ≡ b → threads ≤ length plan
    go true e = let no = are.none (grind (arith, nat_tests, e)) in let known = kind_known kinds lane other in absurd (omega (arith, no, known))
    go false e = grind (arith, nat_tests, e)

-- of a kind are twins
of_a_kind : (plan : Plan) (threads : ℕ) (kinds : List ℕ) (a b : ℕ) → AreKinds plan threads kinds → a ≢ b → kind_of kinds b ≢ b → kind_of kinds a ≡ kind_of kinds b → AreTwins plan a b
of_a_kind plan threads kinds a b are apart other same = go (kind_of kinds a == a) refl
  where
    second : AreTwins plan (kind_of kinds b) b
    second = twin_of_kind plan threads kinds b are other

    go : (c : Bool) → (kind_of kinds a == a) ≡ c → AreTwins plan a b
    go true own = subst (λ (k : ℕ). AreTwins plan k b) (sym same ∙ is_equal (kind_of kinds a) a own) second
    go false not_own =
        let first = twin_of_kind plan threads kinds a are (λ is. absurd (grind (arith, nat_tests, not_own, is))) in
        record { same = second.same ∙ (ap (asks plan) (sym same) ∙ sym first.same); first = first.second; second = second.second }

pub stand_alike : (d : Dispatcher) (places : List ℕ) (plan : Plan) (kinds : List ℕ) (lower lane : ℕ) → IsLawful d → length places ≡ length plan → AreKinds plan d.threads kinds → lower < lane → kind_of kinds lane ≢ lane
    → is_bare (state d) lane ≡ true → is_like kinds (point_at places d) lower lane ≡ true → StandAlike plan (point_at places d) lower lane
stand_alike d places plan kinds lower lane lawful wide are less other bare like = record {
  in_order = order;
  first = bare_is d lower lawful low;
  second = bare_is d lane lawful high;
  object = running lane high ∙ sym (running lower low);
  handle = like_handles lower lane (opened_at d.handles lower) (opened_at d.handles lane) handles;
  handing = like_hands (slice_index_or d.handing lower false) (slice_index_or d.handing lane false) hands;
  places = let enough = lanes_enough plan d.threads kinds lane are other in omega (arith, enough, wide);
  lines = ap (λ (xs : List Ask). drop (place p lane) xs) twins.same ∙ ap (λ (n : ℕ). drop n (asks plan lower)) (sym at);
  unnamed = λ on ask h has named. let there = dropped (place p on) (asks plan on) ask has in (twins.first on ask h there named, twins.second on ask h there named);
}
  where
    p : Point
    p = point_at places d

    one : Bool
    one = kind_of kinds lower == kind_of kinds lane

    two : Bool
    two = place (point_at places d) lower == place (point_at places d) lane

    three : Bool
    three = are_handed_alike (slice_index_or d.handing lower false) (slice_index_or d.handing lane false)

    four : Bool
    four = are_like lower lane (opened_at d.handles lower) (opened_at d.handles lane)

    five : Bool
    five = is_bare (state d) lower

    kind : kind_of kinds lower ≡ kind_of kinds lane
    kind = is_equal (kind_of kinds lower) (kind_of kinds lane) (and_first one (two && (three && (four && five))) like)

    rest : (two && (three && (four && five))) ≡ true
    rest = and_second one (two && (three && (four && five))) like

    at : place p lower ≡ place p lane
    at = is_equal (place p lower) (place p lane) (and_first two (three && (four && five)) rest)

    more : (three && (four && five)) ≡ true
    more = and_second two (three && (four && five)) rest

    hands : three ≡ true
    hands = and_first three (four && five) more

    last : (four && five) ≡ true
    last = and_second three (four && five) more

    handles : four ≡ true
    handles = and_first four five last

    low : AreBareTests (state d) lower
    low = bare_tests (state d) lower (and_second four five last)

    high : AreBareTests (state d) lane
    high = bare_tests (state d) lane bare

    order : IsInOrder (state d)
    order = lawful_in_order d lawful

    running : (t : ℕ) → AreBareTests (state d) t → object_at d.objects t ≡ Thread false
    running t tests = own_runs (object_at d.objects t) (order.own t tests.known) tests.runs

    twins : AreTwins plan lower lane
    twins = of_a_kind plan d.threads kinds lower lane are (λ is. absurd (omega (arith, is, less))) other kind

-- each lane is tried, or stands alike with a lower one
pub lowest_tried : (d : Dispatcher) (places : List ℕ) (plan : Plan) (kinds : List ℕ) → IsLawful d → length places ≡ length plan → AreKinds plan d.threads kinds → IsLowestChosen plan (point_at places d) (is_tried kinds (point_at places d))
lowest_tried d places plan kinds lawful wide are lane = go (is_tried kinds p lane) refl
  where
    p : Point
    p = point_at places d

    own : Bool
    own = kind_of kinds lane == lane

    has : Bool
    has = any_below (λ (lower : ℕ). is_like kinds (point_at places d) lower lane) lane

    go : (b : Bool) → is_tried kinds p lane ≡ b → (is_tried kinds p lane ≡ true) ⊎ ((lower : ℕ) × (lower < lane) × StandAlike plan p lower lane)
    go true e = inl e
    go false e =
        let other = or_first own (not (is_bare (state d) lane) || not has) e in
        let rest = or_second own (not (is_bare (state d) lane) || not has) e in
        let bare = not_false (is_bare (state d) lane) (or_first (not (is_bare (state d) lane)) (not has) rest) in
        let found = found_below (λ (lower : ℕ). is_like kinds p lower lane) lane (not_false has (or_second (not (is_bare (state d) lane)) (not has) rest)) in
        inr (found.0, found.1, stand_alike d places plan kinds found.0 lane lawful wide are found.1 (λ is. absurd (grind (arith, nat_tests, other, is))) bare found.2)
