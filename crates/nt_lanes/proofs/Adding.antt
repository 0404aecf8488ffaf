-- What lanes of a plan do: one thing more, the same, and which handles they name.
use Rattle.std.proofs.Common.{◌≡◌, ◌≢◌, ◌<◌, ◌≤◌, ◌+◌, ◌⊎◌, inl, inr, ℕ, zero, suc, Bool, true, false, ◌||◌, List, [], ◌∷◌, ◌++◌, length, map, set, get_or, refl, sym, ap, ◌∙◌, subst, arith, Option, Some, Contains, ltb}
use Rattle.std.specs.Prelude.{◌==◌, Vec, Result, Ok, Err, OnErr, MatchBool, ◌↔◌, slice_get, slice_index_or, option_map}
use Rattle.std.specs.List.{list_any}
use Rattle.std.proofs.lemmas.Bool.{false≢true}
use Rattle.std.proofs.lemmas.Bool.Decides.{nat_tests}
use Rattle.nt_status.proofs.Lists.{contains_none, contains_first, contains_later, contains_cases}
use Rattle.nt_calls.specs.declared.call.Act.{Act}
use Rattle.nt_apart.specs.Fewer.{handles_asked, handles_in, handles_tried}
use Rattle.nt_apart.proofs.Renaming.{test_member}
use Rattle.std.specs.declared.alloc.Global.{Global}
use Rattle.std.proofs.lemmas.List.{map-set, map-append, get_or-map, get_or_append_left, get_or_push, length_push}
use Rattle.std.proofs.lemmas.Option.{slice_get-map}
use Rattle.std.proofs.lemmas.List.Folds.{list_any-append}
use Rattle.std.proofs.Math.Seq.{map-set_same}
use Rattle.nt_look.specs.Orders as orders
use Rattle.nt_look.specs.Orders.{asks, Plan}
use Rattle.nt_lanes.specs.declared.plan.Ask.{Ask}
use Rattle.nt_lanes.specs.Lanes.{plan_of, asked, IsUnnamed, AreKinds, IsKind, AreTwins, kind_of, names_handle, plan_names}
use Rattle.nt_lanes.proofs.Bare.{or_first, or_second}

lane_of : Vec Ask Global → List orders.Ask
lane_of v = map asked v.items

pub lanes_added : (lanes : List (Vec Ask Global)) (i : ℕ) (v w : Vec Ask Global) (a : Ask) → i < length lanes → v ≡ get_or lanes i v → w.items ≡ v.items ++ a ∷ [] → plan_of (set lanes i w) ≡ set (plan_of lanes) i (asks (plan_of lanes) i ++ asked a ∷ [])
unfolding lane_of
lanes_added lanes i v w a below is added =
    let old : asks (plan_of lanes) i ≡ lane_of v = get_or-map lane_of lanes i v [] below ∙ ap lane_of (sym is) in
    let new : lane_of w ≡ lane_of v ++ asked a ∷ [] = ap (map asked) added ∙ map-append asked v.items (a ∷ []) in
    map-set lane_of lanes i w ∙ ap (set (plan_of lanes) i) (new ∙ ap (λ (l : List orders.Ask). l ++ asked a ∷ []) (sym old))

pub lanes_kept : (lanes : List (Vec Ask Global)) (i : ℕ) (v w : Vec Ask Global) → v ≡ get_or lanes i v → w.items ≡ v.items → plan_of (set lanes i w) ≡ plan_of lanes
unfolding lane_of
lanes_kept lanes i v w is kept = map-set_same lane_of lanes i w v (ap (map asked) kept ∙ ap lane_of is)

pub on_err : {X E : Type 0} (P : Type 0) (r : Result X E) → P → OnErr r P
on_err P (Ok x) p = tt
on_err P (Err e) p = p

-- ---- the same lines

are_all : {A B : Type 0} (f : A → B) (xs ys : List A) → length xs ≡ length ys → ((k : ℕ) → k < length xs → option_map f (slice_get xs k) ≡ option_map f (slice_get ys k)) → map f xs ≡ map f ys
are_all f [] [] count each = refl
are_all f [] (y ∷ ys) count each = absurd (omega (arith, count))
are_all f (x ∷ xs) [] count each = absurd (omega (arith, count))
are_all f (x ∷ xs) (y ∷ ys) count each =
    let first : Some (f x) ≡ Some (f y) = each 0 (omega arith) in
    let same : f x ≡ f y = (cc) in
    ap (λ (z : _). z ∷ map f xs) same ∙ ap (λ (zs : List _). f y ∷ zs) (are_all f xs ys (omega (arith, count)) (λ k below. each (suc k) (omega (arith, below))))

pub all_same : (xs ys : List Ask) → length xs ≡ length ys → ((k : ℕ) → k < length xs → option_map asked (slice_get xs k) ≡ option_map asked (slice_get ys k)) → map asked xs ≡ map asked ys
all_same xs ys count each = are_all asked xs ys count each

at_place : (xs : List Ask) (k : ℕ) (x : Ask) → k < length xs → x ≡ slice_index_or xs k x → slice_get xs k ≡ Some x
at_place [] k x below is = absurd (omega (arith, below))
at_place (y ∷ ys) zero x below is = ap (λ (z : Ask). Some z) (sym is)
at_place (y ∷ ys) (suc k) x below is = at_place ys k x (omega (arith, below)) is

-- as far as this place both ask for the same
abbrev pub SameBelow : (xs ys : List Ask) → ℕ → Type 0
SameBelow xs ys n = (k : ℕ) → k < n → option_map asked (slice_get xs k) ≡ option_map asked (slice_get ys k)

pub same_below_next : (xs ys : List Ask) (n : ℕ) (x y : Ask) → n < length xs → length xs ≡ length ys → x ≡ slice_index_or xs n x → y ≡ slice_index_or ys n y → asked x ≡ asked y → SameBelow xs ys n → SameBelow xs ys (n + 1)
same_below_next xs ys n x y below count here there same before k less = go (ltb k n) refl
  where
    at : option_map asked (slice_get xs n) ≡ option_map asked (slice_get ys n)
    at = ap (option_map asked) (at_place xs n x below here) ∙ (ap (λ (z : orders.Ask). Some z) same ∙ sym (ap (option_map asked) (at_place ys n y (omega (arith, below, count)) there)))

    go : (b : Bool) → ltb k n ≡ b → option_map asked (slice_get xs k) ≡ option_map asked (slice_get ys k)
    go true e = before k (grind (arith, nat_tests, e))
    go false e =
        let past : n ≤ k = grind (arith, nat_tests, e) in
        let last : n ≡ k = omega (arith, past, less) in
        subst (λ (i : ℕ). option_map asked (slice_get xs i) ≡ option_map asked (slice_get ys i)) last at

-- two that differ at a place
pub differ_at : (xs ys : List Ask) (n : ℕ) (x y : Ask) → n < length xs → length xs ≡ length ys → x ≡ slice_index_or xs n x → y ≡ slice_index_or ys n y → (asked x ≡ asked y → ⊥) → map asked xs ≡ map asked ys → ⊥
differ_at xs ys n x y below count here there other same =
    let one : Some (asked x) ≡ slice_get (map asked xs) n = ap (option_map asked) (sym (at_place xs n x below here)) ∙ sym (slice_get-map asked xs n) in
    let two : slice_get (map asked ys) n ≡ Some (asked y) = slice_get-map asked ys n ∙ ap (option_map asked) (at_place ys n y (omega (arith, below, count)) there) in
    let both : Some (asked x) ≡ Some (asked y) = one ∙ (ap (λ (l : List orders.Ask). slice_get l n) same ∙ two) in
    other (let it : asked x ≡ asked y = (cc) in it)

-- a test that tells
pub exactly : (P : Type 0) (r : Bool) → MatchBool r P (P → ⊥) → (r ≡ true) ↔ P
exactly P true is = (λ _. is, λ _. refl)
exactly P false is = (λ e. absurd (false≢true e), λ p. absurd (is p))

-- ---- which handles are named

in_line : (xs : List Ask) (t : ℕ) → list_any (λ (ask : Ask). names_handle t (asked ask)) xs ≡ false → (one : orders.Ask) (h : ℕ) → Contains (map asked xs) one → Contains (handles_asked one) h → h ≢ t
in_line [] t none one h has named = absurd (contains_none one has)
in_line (x ∷ xs) t none one h has named = go (λ rest' later. in_line xs t rest' one h later named) (contains_cases (asked x) (map asked xs) one has)
  where
    here : Bool
    here = names_handle t (asked x)

    rest : Bool
    rest = list_any (λ (ask : Ask). names_handle t (asked ask)) xs

    go : (list_any (λ (ask : Ask). names_handle t (asked ask)) xs ≡ false → Contains (map asked xs) one → h ≢ t) → (asked x ≡ one) ⊎ Contains (map asked xs) one → h ≢ t
    go onward (inl same) = λ is.
        let no : names_handle t one ≡ false = ap (names_handle t) (sym same) ∙ or_first here rest none in
        false≢true (sym no ∙ test_member (handles_asked one) t (subst (λ (z : ℕ). Contains (handles_asked one) z) is named))
    go onward (inr later) = onward (or_second here rest none) later

pub none_named : (lanes : List (Vec Ask Global)) (t : ℕ) → list_any (λ (lane : Vec Ask Global). list_any (λ (ask : Ask). names_handle t (asked ask)) lane.items) lanes ≡ false → IsUnnamed (plan_of lanes) t
none_named [] t none lane one h has named = absurd (contains_none one has)
none_named (l ∷ lanes) t none zero one h has named = in_line l.items t (or_first (list_any (λ (ask : Ask). names_handle t (asked ask)) l.items) (list_any (λ (lane : Vec Ask Global). list_any (λ (ask : Ask). names_handle t (asked ask)) lane.items) lanes) none) one h has named
none_named (l ∷ lanes) t none (suc lane) one h has named = none_named lanes t (or_second (list_any (λ (ask : Ask). names_handle t (asked ask)) l.items) (list_any (λ (lane : Vec Ask Global). list_any (λ (ask : Ask). names_handle t (asked ask)) lane.items) lanes) none) lane one h has named

neither : (a b : Bool) → a ≡ false → b ≡ false → (a || b) ≡ false
neither a b first second = ap (λ (c : Bool). c || b) first ∙ second

found_named : (xs : List ℕ) (x : ℕ) → list_any (λ (y : ℕ). y == x) xs ≡ true → Contains xs x
found_named [] x e = absurd (false≢true e)
found_named (y ∷ xs) x e = go (y == x) refl (found_named xs x)
  where
    go : (b : Bool) → (y == x) ≡ b → (list_any (λ (z : ℕ). z == x) xs ≡ true → Contains xs x) → Contains (y ∷ xs) x
    go true is later = contains_first y xs x (grind (arith, nat_tests, is))
    go false other later = contains_later y xs x (later (sym (ap (λ (b : Bool). b || list_any (λ (z : ℕ). z == x) xs) other) ∙ e))

ask_unnamed : (t : ℕ) (a : orders.Ask) → ((h : ℕ) → Contains (handles_asked a) h → h ≢ t) → names_handle t a ≡ false
ask_unnamed t a un = go (names_handle t a) refl
  where
    go : (b : Bool) → names_handle t a ≡ b → names_handle t a ≡ false
    go false e = e
    go true e = absurd (un t (found_named (handles_asked a) t e) refl)

line_unnamed : (xs : List Ask) (t : ℕ) → ((one : orders.Ask) (h : ℕ) → Contains (map asked xs) one → Contains (handles_asked one) h → h ≢ t) → list_any (λ (ask : Ask). names_handle t (asked ask)) xs ≡ false
line_unnamed [] t un = refl
line_unnamed (x ∷ xs) t un =
    neither (names_handle t (asked x)) (list_any (λ (ask : Ask). names_handle t (asked ask)) xs)
    (ask_unnamed t (asked x) (λ h. un (asked x) h (contains_first (asked x) (map asked xs) (asked x) refl)))
    (line_unnamed xs t (λ one h has. un one h (contains_later (asked x) (map asked xs) one has)))

any_mapped : (t : ℕ) (xs : List Ask) → list_any (names_handle t) (map asked xs) ≡ list_any (λ (ask : Ask). names_handle t (asked ask)) xs
any_mapped t [] = refl
any_mapped t (x ∷ xs) = ap (λ (b : Bool). names_handle t (asked x) || b) (any_mapped t xs)

-- what acts name, act by act
pub any_tried : (t : ℕ) (acts : List (Option Act)) → list_any (λ (act : Option Act). list_any (λ (y : ℕ). y == t) (handles_in act)) acts ≡ list_any (λ (y : ℕ). y == t) (handles_tried acts)
any_tried t [] = refl
any_tried t (act ∷ acts) =
    ap (λ (b : Bool). list_any (λ (y : ℕ). y == t) (handles_in act) || b) (any_tried t acts)
    ∙ sym (list_any-append (λ (y : ℕ). y == t) (handles_in act) (handles_tried acts))

-- whether something in the plan names the handle, in the lists of lanes
pub any_lane : (lanes : List (Vec Ask Global)) (t : ℕ)
    → plan_names (plan_of lanes) t ≡ list_any (λ (lane : Vec Ask Global). list_any (λ (ask : Ask). names_handle t (asked ask)) lane.items) lanes
any_lane [] t = refl
any_lane (l ∷ lanes) t = λ i. any_mapped t l.items i || any_lane lanes t i

pub unnamed_in : (lanes : List (Vec Ask Global)) (t : ℕ) → IsUnnamed (plan_of lanes) t → list_any (λ (lane : Vec Ask Global). list_any (λ (ask : Ask). names_handle t (asked ask)) lane.items) lanes ≡ false
unnamed_in [] t un = refl
unnamed_in (l ∷ lanes) t un =
    neither (list_any (λ (ask : Ask). names_handle t (asked ask)) l.items) (list_any (λ (lane : Vec Ask Global). list_any (λ (ask : Ask). names_handle t (asked ask)) lane.items) lanes)
    (line_unnamed l.items t (un 0)) (unnamed_in lanes t (λ lane. un (suc lane)))

-- ---- kinds

-- no lane below n is a twin of this one
abbrev pub NoTwinBelow : Plan → ℕ → ℕ → Type 0
NoTwinBelow plan n lane = (lower : ℕ) → lower < n → AreTwins plan lower lane → ⊥

pub none_below_next : (plan : Plan) (n lane : ℕ) → NoTwinBelow plan n lane → (AreTwins plan n lane → ⊥) → NoTwinBelow plan (n + 1) lane
none_below_next plan n lane none other lower below twins = go (ltb lower n) refl
  where
    go : (b : Bool) → ltb lower n ≡ b → ⊥
    go true less = none lower (grind (arith, nat_tests, less)) twins
    go false past =
        let least : n ≤ lower = grind (arith, nat_tests, past) in
        other (subst (λ (k : ℕ). AreTwins plan k lane) (let same : lower ≡ n = omega (arith, least, below) in same) twins)

pub first_twin : (plan : Plan) (n lane : ℕ) → NoTwinBelow plan n lane → (n ≢ lane → AreTwins plan n lane) → IsKind plan lane n
first_twin plan n lane none twin = record { twin = twin; lowest = λ other _ twins. go other twins (ltb other n) refl }
  where
    go : (other : ℕ) → AreTwins plan other lane → (b : Bool) → ltb other n ≡ b → n ≤ other
    go other twins true less = absurd (none other (grind (arith, nat_tests, less)) twins)
    go other twins false past = grind (arith, nat_tests, past)

abbrev pub AllKinds : Plan → List ℕ → Type 0
AllKinds plan kinds = (lane : ℕ) → lane < length kinds → IsKind plan lane (kind_of kinds lane)

pub kinds_more : (plan : Plan) (kinds new : List ℕ) (kind lane : ℕ) → new ≡ kinds ++ kind ∷ [] → length kinds ≡ lane → IsKind plan lane kind → AllKinds plan kinds → AllKinds plan new
kinds_more plan kinds new kind lane added count is old = subst (λ (ks : List ℕ). AllKinds plan ks) (sym added) (λ t below. go t below (ltb t (length kinds)) refl)
  where
    more : List ℕ
    more = kinds ++ kind ∷ []

    at : (t k : ℕ) → kind_of more t ≡ k → IsKind plan t k → IsKind plan t (kind_of more t)
    at t k same it = subst (λ (z : ℕ). IsKind plan t z) (sym same) it

    go : (t : ℕ) → t < length more → (b : Bool) → ltb t (length kinds) ≡ b → IsKind plan t (kind_of more t)
    go t below true e =
        let less : t < length kinds = grind (arith, nat_tests, e) in
        at t (kind_of kinds t) (get_or_append_left kinds (kind ∷ []) t t less) (old t less)
    go t below false e =
        let past : length kinds ≤ t = grind (arith, nat_tests, e) in
        let long = length_push kinds kind in
        let last : t ≡ length kinds = omega (arith, below, past, long) in
        at t kind (get_or_push kinds kind t t (sym last)) (subst (λ (z : ℕ). IsKind plan z kind) (sym count ∙ sym last) is)

pub kinds_told : (plan : Plan) (threads : ℕ) (kinds : List ℕ) → threads ≤ length plan → length kinds ≡ threads → AllKinds plan kinds → AreKinds plan threads kinds
kinds_told plan threads kinds enough count each = record { each = each; whole = λ _. count; none = λ few. absurd (omega (arith, enough, few)) }

pub kinds_none : (plan : Plan) (threads : ℕ) (kinds : List ℕ) → kinds ≡ [] → length plan < threads → AreKinds plan threads kinds
kinds_none plan threads kinds none few = subst (λ (ks : List ℕ). AreKinds plan threads ks) (sym none)
    (record { each = λ lane below. absurd (omega (arith, below)); whole = λ enough. absurd (omega (arith, enough, few)); none = λ _. refl })
