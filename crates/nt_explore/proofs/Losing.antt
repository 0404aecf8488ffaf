-- One order leads to one point; and since when a wait was lost.
use Rattle.std.proofs.Common.{◌≡◌, ◌≢◌, ℕ, Bool, false, List, [], ◌∷◌, refl, sym, ap, ◌∙◌, subst, Some, ◌<◌, ◌≤◌, ◌+◌, ◌*◌, true, ◌++◌, ◌-◌, length, drop, take, take_all, get_or, arith, Option, None, eqb, ltb, inl, inr, ◌⊎◌, Contains}
use Rattle.std.specs.Prelude.{Result, Ok, Err, OnOk, is_ok, nat_lt, slice_set, if◌then◌else◌, ◌↔◌}
use Rattle.nt_status.specs.declared.refusal.Refusal.{Refusal}
use Rattle.nt_status.specs.declared.refusal.Refusal.TheVariants.{AccessDenied, InvalidHandle, Memory, ThreadGone, InvalidParameter, NotOwner, TooManyPosts, ThreadWaiting, ThreadEnded, UnknownThread, RecursionLimit, MomentBack, JournalFull, HandleLimit}
use Rattle.nt_calls.specs.declared.call.Act.{Act}
use Rattle.nt_calls.specs.declared.call.Call.{Call}
use Rattle.nt_calls.specs.declared.call.Reply.{Reply}
use Rattle.nt_calls.specs.declared.call.Grant.{Grant}
use Rattle.nt_calls.specs.State.{State, pends}
use Rattle.nt_calls.specs.Steps.{Called}
use Rattle.nt_calls.specs.Runs as runs
use Rattle.nt_calls.specs.Runs.{Turn}
use Rattle.nt_laws.specs.Laws.{wants_memory, AsksCall, question}
use Rattle.nt_laws.proofs.OneWay.{turn_same}
use Rattle.nt_look.specs.Orders.{Ask, Calls, Passes, Tries, Plan, Point, AreTried, IsAskMade, Goes, IsLost}
use Rattle.nt_explore.specs.Walk.{Arrives, edge, Rises, Leads}
use Rattle.std.proofs.lemmas.Bool.{false≢true}
use Rattle.std.proofs.lemmas.Bool.Decides.{nat_tests}
use Rattle.std.proofs.lemmas.List.{get_or-set_same, get_or-set_other, length-set, length_push, get_or_push, get_or_append_left}
use Rattle.std.proofs.lemmas.List.Elements.{Contains-push, Contains-push_cases, Contains-append_left}
use Rattle.nt_status.proofs.Lists.{contains_first, contains_later, contains_cases}
use Rattle.nt_look.specs.Hangs.{marked}
use Rattle.nt_look.proofs.Searching.{loss_forth}
use Rattle.nt_apart.specs.Fewer.{IsLowestChosen}
use Rattle.nt_explore.specs.declared.loss.Edge.{Edge}
use Rattle.nt_apart.proofs.Chosen.{losses_by_chosen}
use Rattle.nt_lanes.specs.Lanes.{TriedGoes, is_tried}
use Rattle.nt_explore.specs.Levels.{kept, passed, IsRow, IsColumn, IsFirstLost, IsFirstLoss, earlier}

calm : (r : Result Reply Refusal) → (r ≢ Err Memory) → wants_memory r ≡ false
calm (Ok reply) other = refl
calm (Err Memory) other = absurd (other refl)
calm (Err AccessDenied) other = refl
calm (Err InvalidHandle) other = refl
calm (Err ThreadGone) other = refl
calm (Err InvalidParameter) other = refl
calm (Err NotOwner) other = refl
calm (Err TooManyPosts) other = refl
calm (Err ThreadWaiting) other = refl
calm (Err ThreadEnded) other = refl
calm (Err UnknownThread) other = refl
calm (Err RecursionLimit) other = refl
calm (Err MomentBack) other = refl
calm (Err JournalFull) other = refl
calm (Err HandleLimit) other = refl

-- the first of acts, and those after it, are all of them
pub all_acts : (acts : List (Option Act)) (first : Option Act) → 1 ≤ length acts → first ≡ get_or acts 0 first → first ∷ take (length acts - 1) (drop 1 acts) ≡ acts
all_acts [] first some is = absurd (omega (arith, some))
all_acts (x ∷ acts) first some is =
    ap (λ (a : Option Act). a ∷ take (length (x ∷ acts) - 1) acts) is ∙ ap (λ (l : List (Option Act)). x ∷ l) (take_all (length (x ∷ acts) - 1) acts (omega arith))

-- an act more was tried, and then the rest
pub tried_more : {E : Type 0} (old mid new : State) (t : ℕ) (acts rest : List (Option Act)) (it : Option Act) (act : Act) (goes ok : Bool) (answer : Result Reply Refusal) (grants : List Grant) (r : Result Unit E)
    → it ∷ rest ≡ acts → it ≡ Some act → goes ≡ true → (answer ≢ Err Memory) → ok ≡ is_ok answer → Called old t (Call.Act act) answer grants mid
    → OnOk r (AreTried mid t rest ok new) → OnOk r (AreTried old t acts goes new)
tried_more old mid new t acts rest it act goes ok answer grants (Err e) all some go enough is called more = tt
tried_more old mid new t acts rest it act false ok answer grants (Ok unit) all some go enough is called more = absurd (false≢true go)
tried_more old mid new t acts rest it act true ok answer grants (Ok unit) all some go enough is called more =
    subst (λ (l : List (Option Act)). AreTried old t l true new) (ap (λ (x : Option Act). x ∷ rest) (sym some) ∙ all)
    (answer, grants, mid, enough, called, subst (λ (b : Bool). AreTried mid t rest b new) is more)

-- a call leads to one answer and one state, but where it finds no memory
call_same : (old a b : State) (lane : ℕ) (call : Call) (r q : Result Reply Refusal) (gs hs : List Grant) → (r ≢ Err Memory) → (q ≢ Err Memory)
    → Called old lane call r gs a → Called old lane call q hs b → (r ≡ q) × (a ≡ b)
call_same old a b lane call r q gs hs one other x y =
    let alike : question (runs.Calls lane call r gs) ≡ question (runs.Calls lane call q hs) = ap (λ (w : Bool). AsksCall lane call w) (calm r one ∙ sym (calm q other)) in
    let same = turn_same old a b (runs.Calls lane call r gs) (runs.Calls lane call q hs) alike x y in
    let turn : runs.Calls lane call r gs ≡ runs.Calls lane call q hs = same.0 in
    ((cc), same.1)

tried_same : (old : State) (lane : ℕ) (acts : List (Option Act)) (goes : Bool) (a b : State) → AreTried old lane acts goes a → AreTried old lane acts goes b → a ≡ b
tried_same old lane [] goes a b x y = x ∙ sym y
tried_same old lane (None ∷ acts) goes a b x y = tried_same old lane acts true a b x y
tried_same old lane (Some act ∷ acts) false a b x y = tried_same old lane acts false a b x y
tried_same old lane (Some act ∷ acts) true a b (r, gs, c, one, x, on) (q, hs, d, other, y, on') =
    let same : (r ≡ q) × (c ≡ d) = call_same old c d lane (Call.Act act) r q gs hs one other x y in
    tried_same d lane acts (is_ok q) a b
    (subst (λ (s : State). AreTried s lane acts (is_ok q) a) same.1 (subst (λ (it : Result Reply Refusal). AreTried c lane acts (is_ok it) a) same.0 on)) on'

made_same : (old : State) (lane : ℕ) (ask : Ask) (a b : State) → IsAskMade old lane ask a → IsAskMade old lane ask b → a ≡ b
made_same old lane (Calls call) a b x y = (call_same old a b lane call x.0 y.0 x.1 y.1 x.2 y.2 x.3 y.3).1
made_same old lane (Passes moment) a b x y = (turn_same old a b (runs.Ticks lane moment x.0 x.1) (runs.Ticks lane moment y.0 y.1) refl x.2 y.2).1
made_same old lane (Tries acts) a b x y = tried_same old lane acts true a b x y

some_same : (a b : Ask) → Some a ≡ Some b → a ≡ b
some_same a b e = (cc)

point_same : (p q : Point) → p.at ≡ q.at → p.state ≡ q.state → p ≡ q
point_same p q at same = λ i. record { at = at i; state = same i }

-- a lane that goes leads to one point
pub goes_same : (plan : Plan) (old : Point) (lane : ℕ) (a b : Point) → Goes plan old lane a → Goes plan old lane b → a ≡ b
goes_same plan old lane a b x y =
    let ask : x.ask ≡ y.ask = some_same x.ask y.ask (sym x.next ∙ y.next) in
    point_same a b (x.at ∙ sym y.at) (made_same old.state lane y.ask a.state b.state (subst (λ (z : Ask). IsAskMade old.state lane z a.state) ask x.made) y.made)

-- and so do lanes
pub arrives_same : (plan : Plan) (start : Point) (lanes : List ℕ) (a b : Point) → Arrives plan start lanes a → Arrives plan start lanes b → a ≡ b
arrives_same plan start [] a b x y = x ∙ sym y
arrives_same plan start (lane ∷ lanes) a b x y =
    let mid = arrives_same plan start lanes x.0 y.0 x.1 y.1 in
    goes_same plan y.0 lane a b (subst (λ (m : Point). Goes plan m lane a) mid x.2) y.2

pub below_or : (i n : ℕ) → i < n + 1 → (i < n) ⊎ (i ≡ n)
below_or i n below = go (ltb i n) refl
  where
    go : (b : Bool) → ltb i n ≡ b → (i < n) ⊎ (i ≡ n)
    go true e = inl (grind (arith, nat_tests, e))
    go false e = inr (let past : n ≤ i = grind (arith, nat_tests, e) in omega (arith, past, below))

-- ---- edges in order

pub rises_push : (es : List Edge) (e : Edge) → Rises es → ((f : Edge) → Contains es f → f.from ≤ e.from) → Rises (es ++ e ∷ [])
rises_push [] e rises before = ((λ f (k, below, is). absurd (omega (arith, below))), tt)
rises_push (x ∷ es) e rises before = (
  λ f has. go f (Contains-push_cases es e f has),
  rises_push es e rises.1 (λ f has. before f (contains_later x es f has)),
)
  where
    go : (f : Edge) → Contains es f ⊎ (e ≡ f) → x.from ≤ f.from
    go f (inl has) = rises.0 f has
    go f (inr same) = subst (λ (g : Edge). x.from ≤ g.from) same (before x (contains_first x es x refl))

-- ---- the pass

-- the wait of t is lost wherever one of these edges leads from i, and it pends there
abbrev pub Keeps : Plan → (ℕ → Point) → ℕ → List Edge → ℕ → Type 0
Keeps plan point t es i = (pends (point i).state t ≡ true) × ((e : Edge) → Contains es e → e.from ≡ i → IsLost plan (point e.to) t)

-- in each of the states the lanes that are tried are the lowest of those that stand alike
abbrev pub AreLowest : Plan → List ℕ → (ℕ → Point) → ℕ → Type 0
AreLowest plan kinds point states = (i : ℕ) → i < states → IsLowestChosen plan (point i) (is_tried kinds (point i))

-- from the states from this one on, these are all edges
abbrev pub Covers : Plan → List ℕ → (ℕ → Point) → ℕ → List Edge → ℕ → Type 0
Covers plan kinds point states es low = (i lane : ℕ) (q : Point) → low ≤ i → i < states → TriedGoes plan kinds (point i) lane q → (e : Edge) × Contains es e × (e.from ≡ i) × (point e.to ≡ q)

-- each of these edges is one, and leads on
abbrev pub AreOnward : Plan → (ℕ → Point) → ℕ → List Edge → Type 0
AreOnward plan point states es = (e : Edge) → Contains es e → (e.from < e.to) × (e.to < states) × (lane : ℕ) × Goes plan (point e.from) lane (point e.to)

length_kept : (e : Edge) (lost : List Bool) → length (kept e lost) ≡ length lost
length_kept e lost = go (marked lost e.to)
  where
    go : (b : Bool) → length (if b then lost else slice_set lost e.from false) ≡ length lost
    go true = refl
    go false = length-set lost e.from false

pub length_passed : (es : List Edge) (lost : List Bool) → length (passed es lost) ≡ length lost
length_passed [] lost = refl
length_passed (e ∷ es) lost = length_kept e (passed es lost) ∙ length_passed es lost

-- all its edges known, a state's mark tells whether the wait is lost there
pub lost_forth : (plan : Plan) (kinds : List ℕ) (point : ℕ → Point) (states t low : ℕ) (es : List Edge) (i : ℕ) → AreLowest plan kinds point states → Covers plan kinds point states es low → low ≤ i → i < states → Keeps plan point t es i → IsLost plan (point i) t
lost_forth plan kinds point states t low es i lowest covers above below keeps =
    (losses_by_chosen plan (point i) t (is_tried kinds (point i)) (lowest i below)).1 (keeps.0, λ lane q tried goes. let it = covers i lane q above below (tried, goes) in subst (λ (p : Point). IsLost plan p t) it.3 (keeps.1 it.0 it.1 it.2))

pub lost_back : (plan : Plan) (point : ℕ → Point) (states t : ℕ) (es : List Edge) (i : ℕ) → AreOnward plan point states es → IsLost plan (point i) t → Keeps plan point t es i
lost_back plan point states t es i onward lost =
    let both = loss_forth plan (point i) t lost in (
      both.0,
      λ e has from. let it = onward e has in both.1 it.2 (point e.to) (subst (λ (k : ℕ). Goes plan (point k) it.2 (point e.to)) from it.3),
    )

-- one edge more
cons_tells : (plan : Plan) (kinds : List ℕ) (point : ℕ → Point) (states t low : ℕ) (e : Edge) (es : List Edge) (waits : List Bool)
    → AreLowest plan kinds point states
    → length waits ≡ states → Rises (e ∷ es) → AreOnward plan point states (e ∷ es) → Covers plan kinds point states (e ∷ es) low → ((f : Edge) → Contains (e ∷ es) f → low ≤ f.from + 1)
    → (AreOnward plan point states es → Covers plan kinds point states es (e.from + 1) → ((f : Edge) → Contains es f → e.from + 1 ≤ f.from + 1) → (j : ℕ) → j < states → marked (passed es waits) j ≡ true ↔ Keeps plan point t es j)
    → (i : ℕ) → i < states → marked (passed (e ∷ es) waits) i ≡ true ↔ Keeps plan point t (e ∷ es) i
cons_tells plan kinds point states t low e es waits lowest count rises onward covers from known i below = go (marked old e.to) refl (eqb i e.from) refl
  where
    old : List Bool
    old = passed es waits

    later : AreOnward plan point states es
    later f has = onward f (contains_later e es f has)

    here : (e.from < e.to) × (e.to < states) × (lane : ℕ) × Goes plan (point e.from) lane (point e.to)
    here = onward e (contains_first e es e refl)

    rest : Covers plan kinds point states es (e.from + 1)
    rest j lane q above inside goes =
        let least = from e (contains_first e es e refl) in
        let it = covers j lane q (omega (arith, above, least)) inside goes in
        pick it.0 it.2 it.3 (contains_cases e es it.0 it.1)
      where
        pick : (f : Edge) → f.from ≡ j → point f.to ≡ q → (e ≡ f) ⊎ Contains es f → (g : Edge) × Contains es g × (g.from ≡ j) × (point g.to ≡ q)
        pick f is leads (inl same) = let at = ap (λ (g : Edge). g.from) same in absurd (omega (arith, at, is, above))
        pick f is leads (inr has) = (f, has, is, leads)

    before : (j : ℕ) → j < states → marked old j ≡ true ↔ Keeps plan point t es j
    before = known later rest (λ f has. let up = rises.0 f has in omega (arith, up))

    onto : marked old e.to ≡ true → IsLost plan (point e.to) t
    onto is = let up = here.0 in lost_forth plan kinds point states t (e.from + 1) es e.to lowest rest (omega (arith, up)) here.1 ((before e.to here.1).0 is)

    from_lost : IsLost plan (point e.to) t → marked old e.to ≡ true
    from_lost lost = (before e.to here.1).1 (lost_back plan point states t es e.to later lost)

    fewer : Keeps plan point t (e ∷ es) i → Keeps plan point t es i
    fewer keeps = (keeps.0, λ f has. keeps.1 f (contains_later e es f has))

    more : (e.from ≡ i → IsLost plan (point e.to) t) → Keeps plan point t es i → Keeps plan point t (e ∷ es) i
    more leads keeps = (keeps.0, λ f has is. pick f is (contains_cases e es f has))
      where
        pick : (f : Edge) → f.from ≡ i → (e ≡ f) ⊎ Contains es f → IsLost plan (point f.to) t
        pick f is (inl same) = subst (λ (g : Edge). IsLost plan (point g.to) t) same (leads (ap (λ (g : Edge). g.from) same ∙ is))
        pick f is (inr has) = keeps.1 f has is

    within : e.from < length old
    within = let up = here.0 in let top = here.1 in let same = length_passed es waits in omega (arith, up, top, same, count)

    marks : (b : Bool) → marked old e.to ≡ b → kept e old ≡ (if b then old else slice_set old e.from false)
    marks b is = ap (λ (c : Bool). if c then old else slice_set old e.from false) is

    go : (b : Bool) → marked old e.to ≡ b → (c : Bool) → eqb i e.from ≡ c → marked (kept e old) i ≡ true ↔ Keeps plan point t (e ∷ es) i
    go true is c at =
        let same : marked (kept e old) i ≡ marked old i = ap (λ (ls : List Bool). marked ls i) (marks true is) in (
          λ m. more (λ from. onto is) ((before i below).0 (sym same ∙ m)),
          λ keeps. same ∙ (before i below).1 (fewer keeps),
        )
    go false is true at =
        let there : i ≡ e.from = grind (arith, nat_tests, at) in
        let none : marked (kept e old) i ≡ false = ap (λ (ls : List Bool). marked ls i) (marks false is) ∙ (ap (marked (slice_set old e.from false)) there ∙ get_or-set_same old e.from false false within) in (
          λ m. absurd (false≢true (sym none ∙ m)),
          λ keeps. absurd (false≢true (sym is ∙ from_lost (keeps.1 e (contains_first e es e refl) (sym there)))),
        )
    go false is false at =
        let other : i ≢ e.from = λ is. absurd (grind (arith, nat_tests, at, is)) in
        let same : marked (kept e old) i ≡ marked old i = ap (λ (ls : List Bool). marked ls i) (marks false is) ∙ get_or-set_other old e.from i false false other in (
          λ m. more (λ from. absurd (other (sym from))) ((before i below).0 (sym same ∙ m)),
          λ keeps. same ∙ (before i below).1 (fewer keeps),
        )

pub passed_tells : (plan : Plan) (kinds : List ℕ) (point : ℕ → Point) (states t low : ℕ) (es : List Edge) (waits : List Bool)
    → AreLowest plan kinds point states
    → length waits ≡ states
    → ((i : ℕ) → i < states → marked waits i ≡ pends (point i).state t)
    → Rises es → AreOnward plan point states es → Covers plan kinds point states es low → ((e : Edge) → Contains es e → low ≤ e.from + 1)
    → (i : ℕ) → i < states → marked (passed es waits) i ≡ true ↔ Keeps plan point t es i
passed_tells plan kinds point states t low [] waits lowest count told rises onward covers from i below = (
  λ e. (sym (told i below) ∙ e, λ f (k, inside, is). absurd (omega (arith, inside))),
  λ keeps. told i below ∙ keeps.0,
)
passed_tells plan kinds point states t low (e ∷ es) waits lowest count told rises onward covers from i below =
    cons_tells plan kinds point states t low e es waits lowest count rises onward covers from (passed_tells plan kinds point states t (e.from + 1) es waits lowest count told rises.1) i below

-- ---- edges from one point more

pub leads_none : (plan : Plan) (kinds : List ℕ) (p : Point) (index states : ℕ) (point : ℕ → Point) (pairs : List Edge) (tried : ℕ → Type 0) → ((lane : ℕ) (q : Point) → tried lane → TriedGoes plan kinds p lane q → ⊥) → Leads plan kinds p index states point tried pairs pairs
leads_none plan kinds p index states point pairs tried never = record {
  kept = λ e has. has;
  goes = λ e has. inl has;
  rises = λ rises before. rises;
  all = λ lane q is goes. absurd (never lane q is goes);
}

pub leads_on : (plan : Plan) (kinds : List ℕ) (p next : Point) (index lane j states : ℕ) (points : ℕ → Point) (pairs : List Edge) → j < states → points j ≡ next → Goes plan p lane next → Leads plan kinds p index states points (λ l. l ≡ lane) pairs (pairs ++ edge index j ∷ [])
leads_on plan kinds p next index lane j states points pairs there is goes = record {
  kept = λ e has. Contains-append_left pairs (edge index j ∷ []) e has;
  goes = λ e has. pick e (Contains-push_cases pairs (edge index j) e has);
  rises = λ rises before. rises_push pairs (edge index j) rises before;
  all = λ l q same other. (edge index j, Contains-push pairs (edge index j), refl, there, is ∙ goes_same plan p lane next q goes (subst (λ (k : ℕ). Goes plan p k q) same other.1));
}
  where
    pick : (e : Edge) → Contains pairs e ⊎ (edge index j ≡ e) → Contains pairs e ⊎ ((e.from ≡ index) × (e.to < states) × (l : ℕ) × Goes plan p l (points e.to))
    pick e (inl has) = inl has
    pick e (inr same) = inr (subst (λ (f : Edge). (f.from ≡ index) × (f.to < states) × (l : ℕ) × Goes plan p l (points f.to)) same (refl, there, lane, subst (Goes plan p lane) (sym is) goes))

pub leads_then : (plan : Plan) (kinds : List ℕ) (p : Point) (index mid states lanes : ℕ) (point points : ℕ → Point) (old halfway new : List Edge) → mid ≤ states → ((i : ℕ) → i < mid → points i ≡ point i) → Leads plan kinds p index mid point (λ l. l < lanes) old halfway → Leads plan kinds p index states points (λ l. l ≡ lanes) halfway new → Leads plan kinds p index states points (λ l. l < lanes + 1) old new
leads_then plan kinds p index mid states lanes point points old halfway new longer same a b = record {
  kept = λ e has. b.kept e (a.kept e has);
  goes = λ e has. second e (b.goes e has);
  rises = λ rises before. b.rises (a.rises rises before) (λ e has. low e before (a.goes e has));
  all = λ l q below goes. all l q goes (ltb l lanes) refl below;
}
  where
    first : (e : Edge) → Contains old e ⊎ ((e.from ≡ index) × (e.to < mid) × (l : ℕ) × Goes plan p l (point e.to)) → Contains old e ⊎ ((e.from ≡ index) × (e.to < states) × (l : ℕ) × Goes plan p l (points e.to))
    first e (inl has) = inl has
    first e (inr it) = let inside = it.1 in inr (it.0, omega (arith, inside, longer), it.2, subst (Goes plan p it.2) (sym (same e.to it.1)) it.3)

    second : (e : Edge) → Contains halfway e ⊎ ((e.from ≡ index) × (e.to < states) × (l : ℕ) × Goes plan p l (points e.to)) → Contains old e ⊎ ((e.from ≡ index) × (e.to < states) × (l : ℕ) × Goes plan p l (points e.to))
    second e (inl has) = first e (a.goes e has)
    second e (inr it) = inr it

    low : (e : Edge) → ((f : Edge) → Contains old f → f.from ≤ index) → Contains old e ⊎ ((e.from ≡ index) × (e.to < mid) × (l : ℕ) × Goes plan p l (point e.to)) → e.from ≤ index
    low e before (inl has) = before e has
    low e before (inr it) = let at = it.0 in omega (arith, at)

    all : (l : ℕ) (q : Point) → TriedGoes plan kinds p l q → (c : Bool) → ltb l lanes ≡ c → l < lanes + 1 → (e : Edge) × Contains new e × (e.from ≡ index) × (e.to < states) × (points e.to ≡ q)
    all l q goes true is below =
        let it = a.all l q (grind (arith, nat_tests, is)) goes in
        let inside = it.3 in
        (it.0, b.kept it.0 it.1, it.2, omega (arith, inside, longer), same it.0.to it.3 ∙ it.4)
    all l q goes false is below = b.all l q (let past : lanes ≤ l = grind (arith, nat_tests, is) in omega (arith, past, below)) goes

-- ---- rows of who waits

pub row_none : (waits : List Bool) (s : State) → IsRow waits waits 0 s
row_none waits s = record {
  count = omega arith;
  before = λ i below. refl;
  row = λ t below. absurd (omega (arith, below));
}

pub row_more : (waits mid new : List Bool) (threads : ℕ) (s : State) (b : Bool) → new ≡ mid ++ b ∷ [] → b ≡ pends s threads → IsRow waits mid threads s → IsRow waits new (threads + 1) s
row_more waits mid new threads s b added is so = subst (λ (ls : List Bool). IsRow waits ls (threads + 1) s) (sym added) (record {
  count = let more = length_push mid b in let count = so.count in omega (arith, more, count);
  before = λ i below. get_or_append_left mid (b ∷ []) false i (let count = so.count in omega (arith, below, count)) ∙ so.before i below;
  row = λ t below. row t below (ltb t threads) refl;
})
  where
    row : (t : ℕ) → t < threads + 1 → (c : Bool) → ltb t threads ≡ c → marked (mid ++ b ∷ []) (length waits + t) ≡ pends s t
    row t below true e =
        let inside : t < threads = grind (arith, nat_tests, e) in
        get_or_append_left mid (b ∷ []) false (length waits + t) (let count = so.count in omega (arith, inside, count)) ∙ so.row t inside
    row t below false e =
        let past : threads ≤ t = grind (arith, nat_tests, e) in
        let last : t ≡ threads = omega (arith, past, below) in
        get_or_push mid b false (length waits + t) (let count = so.count in omega (arith, last, count)) ∙ (is ∙ ap (pends s) (sym last))

pub column_more : (rows column new : List Bool) (threads states t : ℕ) (b : Bool) → new ≡ column ++ b ∷ [] → b ≡ marked rows (states * threads + t) → IsColumn rows column threads states t → IsColumn rows new threads (states + 1) t
column_more rows column new threads states t b added is so = subst (λ (ls : List Bool). IsColumn rows ls threads (states + 1) t) (sym added) (record {
  count = let more = length_push column b in let count = so.count in omega (arith, more, count);
  told = λ i below. told i below (ltb i states) refl;
})
  where
    told : (i : ℕ) → i < states + 1 → (c : Bool) → ltb i states ≡ c → marked (column ++ b ∷ []) i ≡ marked rows (i * threads + t)
    told i below true e =
        let inside : i < states = grind (arith, nat_tests, e) in
        get_or_append_left column (b ∷ []) false i (let count = so.count in omega (arith, inside, count)) ∙ so.told i inside
    told i below false e =
        let past : states ≤ i = grind (arith, nat_tests, e) in
        let last : i ≡ states = omega (arith, past, below) in
        get_or_push column b false i (let count = so.count in omega (arith, last, count)) ∙ (is ∙ ap (λ (k : ℕ). marked rows (k * threads + t)) (sym last))

-- ---- the first of all

pub earlier_told : (plan : Plan) (point : ℕ → Point) (states t : ℕ) (best : Option (ℕ × ℕ)) (found : Option ℕ) → IsFirstLoss plan point states t best → IsFirstLost plan point states t found → IsFirstLoss plan point states (t + 1) (earlier best found t)
earlier_told plan point states t None None old new = λ j u below inside lost. go j u below lost (below_or u t inside)
  where
    go : (j u : ℕ) → j < states → IsLost plan (point j) u → (u < t) ⊎ (u ≡ t) → ⊥
    go j u below lost (inl before) = old j u below before lost
    go j u below lost (inr last) = new j below (subst (IsLost plan (point j)) last lost)
earlier_told plan point states t (Some (first, v)) None old new = (
  old.0,
  old.1,
  λ j u below inside lost. go j u below lost (below_or u t inside),
)
  where
    go : (j u : ℕ) → j < first → IsLost plan (point j) u → (u < t) ⊎ (u ≡ t) → ⊥
    go j u below lost (inl before) = old.2 j u below before lost
    go j u below lost (inr last) = let top = old.0 in new j (omega (arith, below, top)) (subst (IsLost plan (point j)) last lost)
earlier_told plan point states t None (Some h) old new = (
  new.0,
  new.1,
  λ j u below inside lost. go j u below lost (below_or u t inside),
)
  where
    go : (j u : ℕ) → j < h → IsLost plan (point j) u → (u < t) ⊎ (u ≡ t) → ⊥
    go j u below lost (inl before) = let top = new.0 in old j u (omega (arith, below, top)) before lost
    go j u below lost (inr last) = new.2 j below (subst (IsLost plan (point j)) last lost)
earlier_told plan point states t (Some (first, v)) (Some h) old new = go (nat_lt h first) refl
  where
    none : (k : ℕ) → k ≤ first → k ≤ h → (j u : ℕ) → j < k → u < t + 1 → IsLost plan (point j) u → ⊥
    none k a b j u below inside lost = pick (below_or u t inside)
      where
        pick : (u < t) ⊎ (u ≡ t) → ⊥
        pick (inl before) = old.2 j u (omega (arith, below, a)) before lost
        pick (inr last) = new.2 j (omega (arith, below, b)) (subst (IsLost plan (point j)) last lost)

    go : (c : Bool) → nat_lt h first ≡ c → IsFirstLoss plan point states (t + 1) (if c then Some (h, t) else Some (first, v))
    go true e = (new.0, new.1, none h (let less : h < first = grind (arith, nat_tests, e) in omega (arith, less)) (omega arith))
    go false e = (old.0, old.1, none first (omega arith) (grind (arith, nat_tests, e)))
