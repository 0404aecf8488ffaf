-- Where each lane that is not chosen stands alike with a lower one, the chosen lanes tell of hangs and losses alone.
use Rattle.std.proofs.Common.{◌≡◌, ◌≢◌, ◌<◌, ◌≤◌, ◌⊎◌, inl, inr, ℕ, zero, suc, Bool, true, false, List, [], ◌∷◌, length, map, refl, sym, ap, ◌∙◌, subst, arith, Option, Some, None, Contains}
use Rattle.std.specs.Prelude.{slice_index_or, option_map}
use Rattle.std.specs.FinMap as fin
use Rattle.std.proofs.lemmas.Bool.{false≢true}
use Rattle.nt_status.specs.declared.limits.TheConstants.{MAX_HANDLES}
use Rattle.nt_objects.specs.declared.object.Object.{Object}
use Rattle.nt_objects.specs.declared.object.Object.TheVariants.{Thread}
use Rattle.nt_waits.specs.declared.wait.Wait.{Wait}
use Rattle.nt_apc.specs.declared.apc.Queued.{Queued}
use Rattle.nt_calls.specs.declared.call.Call.{Call}
use Rattle.nt_calls.specs.declared.call.Act.{Act}
use Rattle.nt_calls.specs.declared.call.WaitCall.{WaitCall}
use Rattle.nt_calls.specs.State.{State, object_at, pends}
use Rattle.nt_look.specs.Orders.{Ask, Calls, Passes, Tries, Plan, Point, Goes, Order, Hangs, IsLost}
use Rattle.nt_apart.specs.Fewer.{AreEnough, OrderOf, IsRenaming, AreMoved, IsRenamed, IsPointRenamed, IsLowestChosen, StandAlike, exchanged, is_own, left, renamed_act, renamed_apc, renamed_ask, renamed_object, renamed_opened, renamed_wait, LossesComeBackwardsByChosen, LosesOne, ComesAsSoon, LossesAreMetAsSoon, AreLowestWithin, LowestComeAsSoon}
use Rattle.nt_apart.proofs.Renaming.{length_map}
use Rattle.nt_apart.proofs.RenamedObjects.{kept_by}
use Rattle.nt_apart.proofs.RenamedNumbers.{object_twice}
use Rattle.nt_apart.proofs.RenamedRefusals.{pends_renamed}
use Rattle.nt_apart.proofs.Exchanging.{other_to, second_to, exchange_alike, opened_twice}
use Rattle.nt_apart.proofs.Fewer.{hangs_renamed, goes_renamed, orders_renamed}

-- what comes back from the image by each exchange of threads that stand alike is so after any lane, if it is after the chosen ones
abbrev ComesBack : Plan → Point → (Point → Type 0) → Type 0
ComesBack plan p so = (a b : ℕ) (q image : Point) → StandAlike plan p a b → IsPointRenamed (exchanged a b) plan q image → so image → so q

each_below : (plan : Plan) (p : Point) (chosen : ℕ → Bool) → IsLowestChosen plan p chosen → (so : Point → Type 0) → ComesBack plan p so
    → ((lane : ℕ) (q : Point) → chosen lane ≡ true → Goes plan p lane q → so q)
    → (n lane : ℕ) → lane < n → (q : Point) → Goes plan p lane q → so q
each_below plan p chosen lowest so back by zero lane less q goes = absurd (omega (arith, less))
each_below plan p chosen lowest so back by (suc n) lane less q goes = go (each_below plan p chosen lowest so back by n) (lowest lane)
  where
    go : ((lower : ℕ) → lower < n → (q : Point) → Goes plan p lower q → so q)
        → (chosen lane ≡ true) ⊎ ((lower : ℕ) × (lower < lane) × StandAlike plan p lower lane) → so q
    go below (inl is) = by lane q is goes
    go below (inr (lower, before, alike)) =
        let image = goes_renamed (exchanged lower lane) plan p p q lane (exchange_alike plan p lower lane alike) goes in
        back lower lane q image.0 alike image.2
        (below lower (omega (arith, before, less)) image.0 (subst (λ (x : ℕ). Goes plan p x image.0) (second_to lower lane) image.1))

each_lane : (plan : Plan) (p : Point) (chosen : ℕ → Bool) → IsLowestChosen plan p chosen → (so : Point → Type 0) → ComesBack plan p so
    → ((lane : ℕ) (q : Point) → chosen lane ≡ true → Goes plan p lane q → so q)
    → (lane : ℕ) (q : Point) → Goes plan p lane q → so q
each_lane plan p chosen lowest so back by lane = each_below plan p chosen lowest so back by (suc lane) lane (omega arith)

-- ---- losses, backwards

-- a thread that waits is none of two that stand alike
waits_apart : (p : Point) (t a : ℕ) → pends p.state a ≡ false → pends p.state t ≡ true → t ≢ a
waits_apart p t a idle pending same = false≢true (sym idle ∙ (ap (λ (x : ℕ). pends p.state x) (sym same) ∙ pending))

lost_back : (plan : Plan) (p : Point) (t : ℕ) → pends p.state t ≡ true → ComesBack plan p (λ q. IsLost plan q t)
lost_back plan p t pending a b q image alike is lost lanes end order =
    let r = exchanged a b in
    let goes = orders_renamed r plan q image end lanes is order in
    let stays = other_to a b t (waits_apart p t a alike.first.idle pending) (waits_apart p t b alike.second.idle pending) in
    sym (pends_renamed r end.state goes.point.state goes.is.state t)
    ∙ (ap (λ (x : ℕ). pends goes.point.state x) stays ∙ lost (map r lanes) goes.point goes.order)

by_chosen : (plan : Plan) (p : Point) (t : ℕ) (chosen : ℕ → Bool) → IsLowestChosen plan p chosen → pends p.state t ≡ true
    → ((lane : ℕ) (q : Point) → chosen lane ≡ true → Goes plan p lane q → IsLost plan q t) → IsLost plan p t
by_chosen plan p t chosen lowest pending by [] q order = subst (λ (x : Point). pends x.state t ≡ true) (sym order) pending
by_chosen plan p t chosen lowest pending by (lane ∷ lanes) q (mid, goes, order) =
    each_lane plan p chosen lowest (λ x. IsLost plan x t) (lost_back plan p t pending) by lane mid goes lanes q order

pub losses_by_chosen : LossesComeBackwardsByChosen
losses_by_chosen plan p t chosen lowest = (
  λ lost. (lost [] p refl, λ lane q is goes lanes end order. lost (lane ∷ lanes) end (q, goes, order)),
  λ both. by_chosen plan p t chosen lowest both.0 both.1,
)

-- ---- orders by chosen lanes

-- what is so of a point is so of each that is it with its threads renamed
abbrev IsKept : Plan → (Point → Type 0) → Type 0
IsKept plan so = (r : ℕ → ℕ) (p q : Point) → IsPointRenamed r plan p q → so p → so q

-- so many lanes go from here to where it is so
record Way (plan : Plan) (so : Point → Type 0) (count : ℕ) (p : Point) : Type 0 where
  lanes : List ℕ
  long : length lanes ≡ count
  last : Point
  order : Order plan p lanes last
  is : so last

-- a chosen lane goes first
record Begins (plan : Plan) (chosen : ℕ → Bool) (so : Point → Type 0) (count : ℕ) (p : Point) : Type 0 where
  lane : ℕ
  is : chosen lane ≡ true
  mid : Point
  goes : Goes plan p lane mid
  way : Way plan so count mid

way_renamed : (plan : Plan) (so : Point → Type 0) → IsKept plan so → (count : ℕ) (r : ℕ → ℕ) (p q : Point)
    → IsPointRenamed r plan p q → Way plan so count p → Way plan so count q
way_renamed plan so kept count r p q is way =
    let image = orders_renamed r plan p q way.last way.lanes is way.order in
    record {
      lanes = map r way.lanes;
      long = length_map r way.lanes ∙ way.long;
      last = image.point;
      order = image.order;
      is = kept r way.last image.point image.is way.is;
    }

chosen_first : (plan : Plan) (p : Point) (chosen : ℕ → Bool) → IsLowestChosen plan p chosen → (so : Point → Type 0) → IsKept plan so
    → (lanes : List ℕ) (lane : ℕ) (mid q : Point) → Goes plan p lane mid → Order plan mid lanes q → so q → Begins plan chosen so (length lanes) p
chosen_first plan p chosen lowest so kept lanes lane mid q goes order is =
    each_lane plan p chosen lowest (λ x. Way plan so (length lanes) x → Begins plan chosen so (length lanes) p)
    (λ a b x image alike there rest way. rest (way_renamed plan so kept (length lanes) (exchanged a b) x image there way))
    (λ first x chose went way. record { lane = first; is = chose; mid = x; goes = went; way = way })
    lane mid goes (record { lanes = lanes; long = refl; last = q; order = order; is = is })

hang_kept : (plan : Plan) → IsKept plan (Hangs plan)
hang_kept plan r p q is hangs = hangs_renamed r plan p q is hangs

pub one_is_enough : (plan : Plan) (p : Point) (chosen : ℕ → Bool) → IsLowestChosen plan p chosen → AreEnough plan p chosen
one_is_enough plan p chosen lowest lane lanes q (mid, goes, order) hangs =
    let first = chosen_first plan p chosen lowest (Hangs plan) (hang_kept plan) lanes lane mid q goes order hangs in
    let way = first.way in
    inr (record {
      lane = first.lane;
      is = first.is;
      mid = first.mid;
      goes = first.goes;
      rest = way.lanes;
      count = way.long;
      last = way.last;
      order = way.order;
      hangs = way.is;
    })

come_as_soon : (plan : Plan) (chosen : Point → ℕ → Bool) (so : Point → Type 0) → IsKept plan so
    → (most : ℕ) (start : Point) → AreLowestWithin plan chosen start most
    → (lanes : List ℕ) (q : Point) → length lanes ≤ most → Order plan start lanes q → so q → ComesAsSoon plan chosen start lanes so
come_as_soon plan chosen so kept most start lowest [] q few order is =
    record { others = []; point = start; few = omega arith; order = refl; is = subst so order is }
come_as_soon plan chosen so kept zero start lowest (lane ∷ lanes) q few order is = absurd (omega (arith, few))
come_as_soon plan chosen so kept (suc most) start lowest (lane ∷ lanes) q few (mid, goes, order) is =
    go (come_as_soon plan chosen so kept most)
    (chosen_first plan start (chosen start) (lowest [] start (omega arith) refl) so kept lanes lane mid q goes order is)
  where
    go : ((p : Point) → AreLowestWithin plan chosen p most → (ways : List ℕ) (end : Point) → length ways ≤ most → Order plan p ways end → so end
        → ComesAsSoon plan chosen p ways so)
        → Begins plan (chosen start) so (length lanes) start → ComesAsSoon plan chosen start (lane ∷ lanes) so
    go later first =
        let way = first.way in
        let long = way.long in
        let within : AreLowestWithin plan chosen first.mid most =
        λ others p less rest. lowest (first.lane ∷ others) p (omega (arith, less)) (first.mid, first.is, first.goes, rest) in
        let next = later first.mid within way.lanes way.last (omega (arith, long, few)) way.order way.is in
        let fewer = next.few in
        record {
          others = first.lane ∷ next.others;
          point = next.point;
          few = omega (arith, long, fewer);
          order = (first.mid, first.is, first.goes, next.order);
          is = next.is;
        }

-- ---- renamed back

map_twice : {A : Type 0} (f : A → A) → ((x : A) → f (f x) ≡ x) → (xs : List A) → map f (map f xs) ≡ xs
map_twice f twice [] = refl
map_twice f twice (x ∷ xs) = ap (λ y. y ∷ map f (map f xs)) (twice x) ∙ ap (λ ys. x ∷ ys) (map_twice f twice xs)

option_twice : {A : Type 0} (f : A → A) → ((x : A) → f (f x) ≡ x) → (o : Option A) → option_map f (option_map f o) ≡ o
option_twice f twice None = refl
option_twice f twice (Some x) = ap (λ y. Some y) (twice x)

act_twice : (r : ℕ → ℕ) → ((x : ℕ) → r (r x) ≡ x) → (act : Act) → renamed_act r (renamed_act r act) ≡ act
act_twice r back (Act.CreateEvent flags) = refl
act_twice r back (Act.CreateSemaphore initial maximum) = refl
act_twice r back (Act.CreateMutex flags) = refl
act_twice r back (Act.SetEvent h) = ap (λ (k : ℕ). Act.SetEvent k) (back h)
act_twice r back (Act.ResetEvent h) = ap (λ (k : ℕ). Act.ResetEvent k) (back h)
act_twice r back (Act.PulseEvent h) = ap (λ (k : ℕ). Act.PulseEvent k) (back h)
act_twice r back (Act.ReleaseSemaphore h n) = ap (λ (k : ℕ). Act.ReleaseSemaphore k n) (back h)
act_twice r back (Act.ReleaseMutex h) = ap (λ (k : ℕ). Act.ReleaseMutex k) (back h)
act_twice r back (Act.CreateTimer flags) = refl
act_twice r back (Act.SetTimer h due period routine) = ap (λ (k : ℕ). Act.SetTimer k due period routine) (back h)
act_twice r back (Act.CancelTimer h) = ap (λ (k : ℕ). Act.CancelTimer k) (back h)
act_twice r back (Act.QueueApc h routine arg) = ap (λ (k : ℕ). Act.QueueApc k routine arg) (back h)
act_twice r back Act.NextApc = refl
act_twice r back (Act.Duplicate h access) = ap (λ (k : ℕ). Act.Duplicate k access) (back h)
act_twice r back (Act.Close h) = ap (λ (k : ℕ). Act.Close k) (back h)

ask_twice : (r : ℕ → ℕ) → ((x : ℕ) → r (r x) ≡ x) → (ask : Ask) → renamed_ask r (renamed_ask r ask) ≡ ask
ask_twice r back (Calls (Call.Act act)) = ap (λ (a : Act). Calls (Call.Act a)) (act_twice r back act)
ask_twice r back (Calls (Call.Wait (WaitCall.Objects all mode hs))) =
    ap (λ (l : List ℕ). Calls (Call.Wait (WaitCall.Objects all mode l))) (map_twice r back hs)
ask_twice r back (Calls (Call.Wait (WaitCall.Sleep mode))) = refl
ask_twice r back (Calls (Call.Wait (WaitCall.Swap h object mode))) =
    ap (λ (k : ℕ). Calls (Call.Wait (WaitCall.Swap k (r (r object)) mode))) (back h)
    ∙ ap (λ (k : ℕ). Calls (Call.Wait (WaitCall.Swap h k mode))) (back object)
ask_twice r back (Calls Call.Exit) = refl
ask_twice r back (Passes moment) = refl
ask_twice r back (Tries acts) = ap (λ (l : List (Option Act)). Tries l) (map_twice (option_map (renamed_act r)) (option_twice (renamed_act r) (act_twice r back)) acts)

wait_twice : (r : ℕ → ℕ) → ((x : ℕ) → r (r x) ≡ x) → (w : Wait) → renamed_wait r (renamed_wait r w) ≡ w
wait_twice r back w = ap (λ (hs : List ℕ). record w { objects = hs }) (map_twice r back w.objects)

apc_twice : (r : ℕ → ℕ) → ((x : ℕ) → r (r x) ≡ x) → (q : Queued) → renamed_apc r (renamed_apc r q) ≡ q
apc_twice r back q = ap (λ (o : Option ℕ). record q { timer = o }) (option_twice r back q.timer)

-- what stands renamed at each renamed number is what was renamed at it
each_back : {A : Type 0} (r : ℕ → ℕ) (f : A → A) (a b : ℕ → A) → ((x : ℕ) → r (r x) ≡ x) → ((y : A) → f (f y) ≡ y) → ((x : ℕ) → b (r x) ≡ f (a x))
    → (x : ℕ) → a (r x) ≡ f (b x)
each_back r f a b back twice same x = sym (twice (a (r x))) ∙ ap (λ y. f y) (sym (same (r x)) ∙ ap (λ (z : ℕ). b z) (back x))

moved_back : {A : Type 0} (n m : ℕ) (r : ℕ → ℕ) (f : A → A) (d : A) (xs ys : List A) → m ≡ n → ((x : ℕ) → r (r x) ≡ x) → ((y : A) → f (f y) ≡ y)
    → AreMoved n r f d xs ys → AreMoved m r f d ys xs
moved_back n m r f d xs ys same back twice moved = record {
  enough = let enough = moved.enough in let count = moved.count in omega (arith, same, enough, count);
  count = sym moved.count;
  each = each_back r f (λ (x : ℕ). slice_index_or xs x d) (λ (x : ℕ). slice_index_or ys x d) back twice moved.each;
}

state_back : (r : ℕ → ℕ) (s u : State) → IsRenamed r s u → IsRenamed r u s
state_back r s u are =
    let back = are.renaming.back in
    let object = object_twice s.threads r are.renaming in
    record {
      renaming = subst (λ (n : ℕ). IsRenaming n r) (sym are.threads) are.renaming;
      few = subst (λ (n : ℕ). n ≤ MAX_HANDLES) (sym are.threads) are.few;
      own = λ x less.
          ap (λ (o : Object). is_own o) (ap (λ (z : ℕ). object_at u.objects z) (sym (back x)) ∙ are.objects.each (r x))
          ∙ (kept_by r is_own (λ owner depth abandoned. refl) (λ manual set armed. refl) (object_at s.objects (r x))
          ∙ are.own (r x) (are.renaming.inside x (subst (λ (n : ℕ). x < n) are.threads less)));
      threads = sym are.threads;
      now = sym are.now;
      handles = moved_back s.threads u.threads r (option_map (renamed_opened r)) None s.handles u.handles are.threads back (opened_twice s.threads r are.renaming) are.handles;
      objects = moved_back s.threads u.threads r (renamed_object r) (Thread false) s.objects u.objects are.threads back object are.objects;
      waits = each_back r (option_map (renamed_wait r)) (λ (t : ℕ). fin.get s.waits t) (λ (t : ℕ). fin.get u.waits t) back (option_twice (renamed_wait r) (wait_twice r back)) are.waits;
      queues = each_back r (map r) s.queues u.queues back (map_twice r back) are.queues;
      apcs = moved_back s.threads u.threads r (map (renamed_apc r)) [] s.apcs u.apcs are.threads back (map_twice (renamed_apc r) (apc_twice r back)) are.apcs;
      handing = moved_back s.threads u.threads r (λ may. may) false s.handing u.handing are.threads back (λ may. refl) are.handing;
    }

point_back : (r : ℕ → ℕ) (plan : Plan) (p q : Point) → IsPointRenamed r plan p q → IsPointRenamed r plan q p
point_back r plan p q is = record {
  inside = λ lane less. subst (λ (n : ℕ). r lane < n) (sym is.count) (is.inside lane (subst (λ (n : ℕ). lane < n) is.count less));
  count = sym is.count;
  lanes = each_back r (map (renamed_ask r)) (left plan p) (left plan q) is.state.renaming.back (map_twice (renamed_ask r) (ask_twice r is.state.renaming.back)) is.lanes;
  state = state_back r p.state q.state is.state;
}

loss_kept : (plan : Plan) → IsKept plan (LosesOne plan)
loss_kept plan r p q is (u, lost) = (r u, still)
  where
    still : IsLost plan q (r u)
    still lanes end order =
        let goes = orders_renamed r plan q p end lanes (point_back r plan p q is) order in
        sym (pends_renamed r end.state goes.point.state goes.is.state (r u))
        ∙ (ap (λ (x : ℕ). pends goes.point.state x) (is.state.renaming.back u) ∙ lost (map r lanes) goes.point goes.order)

-- ---- hangs and losses

pub lowest_come_as_soon : LowestComeAsSoon
lowest_come_as_soon plan chosen start most lowest lanes q few order = (
  come_as_soon plan chosen (Hangs plan) (hang_kept plan) most start lowest lanes q few order,
  come_as_soon plan chosen (LosesOne plan) (loss_kept plan) most start lowest lanes q few order,
)

-- chosen lanes come only to what was met
stays_met : (plan : Plan) (chosen : Point → ℕ → Bool) (met : List Point)
    → ((p q : Point) (lane : ℕ) → Contains met p → chosen p lane ≡ true → Goes plan p lane q → Contains met q)
    → (lanes : List ℕ) (p q : Point) → Contains met p → OrderOf plan chosen p lanes q → Contains met q
stays_met plan chosen met closed [] p q has order = subst (Contains met) (sym order) has
stays_met plan chosen met closed (lane ∷ lanes) p q has (mid, is, goes, order) = stays_met plan chosen met closed lanes mid q (closed p mid lane has is goes) order

pub losses_met_as_soon : LossesAreMetAsSoon
losses_met_as_soon plan chosen met start made lanes q u order lost =
    let inside = λ (others : List ℕ) (p : Point). stays_met plan chosen met made.closed others start p made.begins in
    let within : AreLowestWithin plan chosen start (length lanes) = λ others p less way. made.lowest p (inside others p way) in
    let it = come_as_soon plan chosen (LosesOne plan) (loss_kept plan) (length lanes) start within lanes q (omega arith) order (u, lost) in
    record { others = it.others; point = it.point; few = it.few; order = it.order; is = (inside it.others it.point it.order, it.is) }
