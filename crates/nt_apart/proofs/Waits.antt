-- Two waits that begin, of two threads, with no object in common.
use Rattle.std.proofs.Common.{◌≡◌, ◌≢◌, ℕ, suc, ◌+◌, ◌⊎◌, inl, inr, arith, Bool, true, false, cond, not, ◌&&◌, ◌||◌, List, [], ◌∷◌, ◌++◌, refl, sym, ap, ◌∙◌, subst, Option, Some, None, Contains}
use Rattle.std.proofs.Math.Path.{fun_ext}
use Rattle.std.specs.Prelude.{slice_set, slice_index, ◌==◌, if◌then◌else◌}
use Rattle.std.specs.List.{list_any, list_all, position_or_len}
use Rattle.std.specs.Cmp.{nat_cmp_total, unsigned_tied}
use Rattle.std.specs.Ordering.{nat_cmp, eq_by_cmp}
use Rattle.std.specs.FinMap as map
use Rattle.std.proofs.lemmas.Bool.{eqb-true}
use Rattle.std.proofs.lemmas.List.{set_comm}
use Rattle.nt_status.proofs.Lists.{contains_first, contains_later, contains_none, contains_cases}
use Rattle.nt_status.specs.Status.{io_completion_code}
use Rattle.nt_machine.proofs.Walks.{apart}
use Rattle.nt_machine.proofs.Listing.{same_no}
use Rattle.nt_objects.specs.declared.object.Object.{Object}
use Rattle.nt_objects.specs.Object.{signaled, taken, is_abandoned}
use Rattle.nt_waits.specs.declared.wait.Wait.{Wait}
use Rattle.nt_apc.specs.Queues.{has_apc}
use Rattle.nt_calls.specs.declared.call.Reply.{Reply}
use Rattle.nt_calls.specs.State.{State, Pending, object_at, wait_names, with_handing, pending_too}
use Rattle.nt_calls.specs.Serving.{is_ready, is_sleep, fits, least, status, status_at, is_abandoned_at, late_status, take_at, take_each, objects_taken, taken_by}
use Rattle.nt_calls.specs.Steps.{begun}
use Rattle.nt_apart.specs.Apart.{NameNothingInCommon}
use Rattle.nt_apart.proofs.Quiet.{neither, unequal}
use Rattle.nt_apart.proofs.Waking.{take_all, taken_leaves}

-- ---- two lists of objects that agree on those that a wait names

any_agree : (p : Object → Bool) (new old : List Object) (hs : List ℕ) → ((h : ℕ) → Contains hs h → object_at new h ≡ object_at old h) → list_any (λ h. p (object_at new h)) hs ≡ list_any (λ h. p (object_at old h)) hs
any_agree p new old [] agree = refl
any_agree p new old (h ∷ hs) agree =
    ap (λ o. p o || list_any (λ x. p (object_at new x)) hs) (agree h (contains_first h hs h refl))
    ∙ ap (λ b. p (object_at old h) || b) (any_agree p new old hs (λ x m. agree x (contains_later h hs x m)))

all_agree : (p : Object → Bool) (new old : List Object) (hs : List ℕ) → ((h : ℕ) → Contains hs h → object_at new h ≡ object_at old h) → list_all (λ h. p (object_at new h)) hs ≡ list_all (λ h. p (object_at old h)) hs
all_agree p new old [] agree = refl
all_agree p new old (h ∷ hs) agree =
    ap (λ o. p o && list_all (λ x. p (object_at new x)) hs) (agree h (contains_first h hs h refl))
    ∙ ap (λ b. p (object_at old h) && b) (all_agree p new old hs (λ x m. agree x (contains_later h hs x m)))

place_agree : (p : Object → Bool) (new old : List Object) (hs : List ℕ) → ((h : ℕ) → Contains hs h → object_at new h ≡ object_at old h) → position_or_len (λ h. p (object_at new h)) hs ≡ position_or_len (λ h. p (object_at old h)) hs
place_agree p new old [] agree = refl
place_agree p new old (h ∷ hs) agree =
    ap (λ o. cond (not (p o)) (1 + position_or_len (λ x. p (object_at new x)) hs) 0) (agree h (contains_first h hs h refl))
    ∙ ap (λ n. cond (not (p (object_at old h))) (1 + n) 0) (place_agree p new old hs (λ x m. agree x (contains_later h hs x m)))

pub fits_agree : (new old : List Object) (t : ℕ) (w : Wait) → ((h : ℕ) → Contains w.objects h → object_at new h ≡ object_at old h) → fits new t w ≡ fits old t w
fits_agree new old t w agree =
    ap (λ b. if w.all then not (is_sleep w) && b else list_any (is_ready new t) w.objects) (all_agree (λ o. signaled o t) new old w.objects agree)
    ∙ ap (λ b. if w.all then not (is_sleep w) && list_all (is_ready old t) w.objects else b) (any_agree (λ o. signaled o t) new old w.objects agree)

-- the place of the object that satisfies it is one of the list's
pick_go : (p : ℕ → Bool) (h : ℕ) (hs : List ℕ) (b : Bool) → p h ≡ b → (list_any p hs ≡ true → Contains hs (slice_index hs (position_or_len p hs))) → list_any p (h ∷ hs) ≡ true → Contains (h ∷ hs) (slice_index (h ∷ hs) (cond (not b) (1 + position_or_len p hs) 0))
pick_go p h hs true is rest some = contains_first h hs h refl
pick_go p h hs false is rest some =
    let some' : list_any p hs ≡ true = ap (λ b. b || list_any p hs) (sym is) ∙ some in
    let n = position_or_len p hs in
    let e : 1 + n ≡ suc n = omega arith in
    subst (λ (i : ℕ). Contains (h ∷ hs) (slice_index (h ∷ hs) i)) (sym e) (contains_later h hs (slice_index hs n) (rest some'))

pick_in : (p : ℕ → Bool) (hs : List ℕ) → list_any p hs ≡ true → Contains hs (slice_index hs (position_or_len p hs))
pick_in p [] some = (cc)
pick_in p (h ∷ hs) some = pick_go p h hs (p h) refl (pick_in p hs) some

-- ---- what is taken

abbrev pub picked : List Object → ℕ → Wait → List ℕ
picked os t w = if w.all then w.objects else slice_index w.objects (least os t w) ∷ []

pub takes_is : (os : List Object) (t : ℕ) (w : Wait) → objects_taken os t w ≡ take_each os t (picked os t w)
takes_is os t w = go w.all
  where
    go : (all : Bool) → (if all then take_each os t w.objects else take_at os t (slice_index w.objects (least os t w))) ≡ take_each os t (if all then w.objects else slice_index w.objects (least os t w) ∷ [])
    go true = refl
    go false = refl

fits_any : (os : List Object) (t : ℕ) (w : Wait) → w.all ≡ false → fits os t w ≡ true → list_any (is_ready os t) w.objects ≡ true
fits_any os t w is fit = ap (λ b. if b then not (is_sleep w) && list_all (is_ready os t) w.objects else list_any (is_ready os t) w.objects) (sym is) ∙ fit

one_of : (i h : ℕ) → Contains (i ∷ []) h → i ≡ h
one_of i h m = go (contains_cases i [] h m)
  where
    go : (i ≡ h) ⊎ Contains [] h → i ≡ h
    go (inl e) = e
    go (inr n) = absurd (contains_none h n)

-- all that is taken is named
pub picked_named : (os : List Object) (t : ℕ) (w : Wait) → fits os t w ≡ true → (h : ℕ) → Contains (picked os t w) h → Contains w.objects h
picked_named os t w fit h = go w.all refl
  where
    go : (all : Bool) → w.all ≡ all → Contains (if all then w.objects else slice_index w.objects (least os t w) ∷ []) h → Contains w.objects h
    go true is m = m
    go false is m = subst (λ (i : ℕ). Contains w.objects i) (one_of (slice_index w.objects (least os t w)) h m) (pick_in (is_ready os t) w.objects (fits_any os t w is fit))

pub picked_agree : (new old : List Object) (t : ℕ) (w : Wait) → ((h : ℕ) → Contains w.objects h → object_at new h ≡ object_at old h) → picked new t w ≡ picked old t w
picked_agree new old t w agree = go w.all
  where
    go : (all : Bool) → (if all then w.objects else slice_index w.objects (least new t w) ∷ []) ≡ (if all then w.objects else slice_index w.objects (least old t w) ∷ [])
    go true = refl
    go false = ap (λ n. slice_index w.objects n ∷ []) (place_agree (λ o. signaled o t) new old w.objects agree)

pub status_agree : (new old : List Object) (t : ℕ) (w : Wait) → ((h : ℕ) → Contains w.objects h → object_at new h ≡ object_at old h) → fits old t w ≡ true → status new t w ≡ status old t w
status_agree new old t w agree fit = go w.all refl
  where
    go : (all : Bool) → w.all ≡ all →
        (if all then status_at (list_any (is_abandoned_at new) w.objects) 0 else status_at (is_abandoned_at new (slice_index w.objects (least new t w))) (least new t w))
        ≡ (if all then status_at (list_any (is_abandoned_at old) w.objects) 0 else status_at (is_abandoned_at old (slice_index w.objects (least old t w))) (least old t w))
    go true is = ap (λ b. status_at b 0) (any_agree is_abandoned new old w.objects agree)
    go false is =
        ap (λ n. status_at (is_abandoned_at new (slice_index w.objects n)) n) (place_agree (λ o. signaled o t) new old w.objects agree)
        ∙ ap (λ o. status_at (is_abandoned o) (least old t w)) (agree (slice_index w.objects (least old t w)) (pick_in (is_ready old t) w.objects (fits_any old t w is fit)))

pub none_equal : (y : ℕ) (xs : List ℕ) → ((x : ℕ) → Contains xs x → x ≢ y) → list_any (λ n. n == y) xs ≡ false
none_equal y [] differ = refl
none_equal y (x ∷ xs) differ =
    ap (λ b. b || list_any (λ n. n == y) xs) (same_no x y (differ x (contains_first x xs x refl)))
    ∙ none_equal y xs (λ z m. differ z (contains_later x xs z m))

pub each_comm : (os : List Object) (t u : ℕ) (xs ys : List ℕ) → ((x y : ℕ) → Contains xs x → Contains ys y → x ≢ y) → take_each (take_each os t xs) u ys ≡ take_each (take_each os u ys) t xs
each_comm os t u xs [] differ = refl
each_comm os t u xs (y ∷ ys) differ =
    ap (λ (o : List Object). take_each o u ys) (sym (take_all os y (λ o. taken o u) t xs (none_equal y xs (λ x m. differ x y m (contains_first y ys y refl)))))
    ∙ each_comm (take_at os u y) t u xs ys (λ x z m n. differ x z m (contains_later y ys z n))

-- an object that is named is found to be
pub named_is : (x : ℕ) (hs : List ℕ) → list_any (λ n. n == x) hs ≡ false → Contains hs x → ⊥
named_is x [] free m = contains_none x m
named_is x (h ∷ hs) free m = go (neither (h == x) (list_any (λ n. n == x) hs) free) (contains_cases h hs x m) (named_is x hs)
  where
    go : ((h == x) ≡ false) × (list_any (λ n. n == x) hs ≡ false) → (h ≡ x) ⊎ Contains hs x → (list_any (λ n. n == x) hs ≡ false → Contains hs x → ⊥) → ⊥
    go parts (inl e) rest = unequal h x parts.0 e
    go parts (inr n) rest = rest parts.1 n

pub found_is : (x : ℕ) (hs : List ℕ) → list_any (λ n. n == x) hs ≡ true → Contains hs x
found_is x [] some = (cc)
found_is x (h ∷ hs) some = go (h == x) refl (found_is x hs)
  where
    go : (b : Bool) → (h == x) ≡ b → (list_any (λ n. n == x) hs ≡ true → Contains hs x) → Contains (h ∷ hs) x
    go true is rest = contains_first h hs x (eqb-true h x is)
    go false is rest = contains_later h hs x (rest (ap (λ b. b || list_any (λ n. n == x) hs) (sym is) ∙ some))

left_alone : (os : List Object) (t : ℕ) (v w : Wait) → NameNothingInCommon w v → fits os t v ≡ true → (h : ℕ) → Contains w.objects h → object_at (objects_taken os t v) h ≡ object_at os h
left_alone os t v w apart fit h m = taken_leaves os t h v (apart h m) fit

taken_comm : (os : List Object) (t u : ℕ) (v w : Wait) → NameNothingInCommon v w → NameNothingInCommon w v → fits os t v ≡ true → fits os u w ≡ true → objects_taken (objects_taken os t v) u w ≡ objects_taken (objects_taken os u w) t v
taken_comm os t u v w one two fit fit' =
    let x = objects_taken os t v in
    let y = objects_taken os u w in
    let p = picked os t v in
    let q = picked os u w in
    let left : objects_taken x u w ≡ take_each (take_each os t p) u q = takes_is x u w ∙ (ap (λ hs. take_each x u hs) (picked_agree x os u w (left_alone os t v w two fit)) ∙ ap (λ (o : List Object). take_each o u q) (takes_is os t v)) in
    let right : objects_taken y t v ≡ take_each (take_each os u q) t p = takes_is y t v ∙ (ap (λ hs. take_each y t hs) (picked_agree y os t v (left_alone os u w v one fit')) ∙ ap (λ (o : List Object). take_each o t p) (takes_is os u w)) in
    left ∙ (each_comm os t u p q (λ a b m n e. named_is a w.objects (one a (picked_named os t v fit a m)) (subst (λ (i : ℕ). Contains w.objects i) (sym e) (picked_named os u w fit' b n))) ∙ sym right)

-- ---- how a wait begins, and what comes of it

pub data How : Type 0 where
  Takes : How
  Rouses : How
  TimesOut : How
  Pends : How

abbrev pub how : Bool → Bool → Bool → How
how fit roused zero = if fit then Takes else if roused then Rouses else if zero then TimesOut else Pends

how_takes : (a b c : Bool) → how a b c ≡ Takes → a ≡ true
how_takes true b c e = refl
how_takes false true c e = (cc)
how_takes false false true e = (cc)
how_takes false false false e = (cc)

abbrev pub objects_by : How → List Object → ℕ → Wait → List Object
objects_by Takes os t w = objects_taken os t w
objects_by Rouses os t w = os
objects_by TimesOut os t w = os
objects_by Pends os t w = os

abbrev pub hand_of : How → Option Bool
hand_of Takes = Some false
hand_of Rouses = Some true
hand_of TimesOut = Some false
hand_of Pends = None

abbrev pub handed : Option Bool → List Bool → ℕ → List Bool
handed None hs t = hs
handed (Some may) hs t = slice_set hs t may

abbrev pub waits_by : How → Pending → ℕ → Wait → Pending
waits_by Takes m t w = m
waits_by Rouses m t w = m
waits_by TimesOut m t w = m
waits_by Pends m t w = map.insert m t w

abbrev pub queues_by : How → (ℕ → List ℕ) → ℕ → Wait → ℕ → List ℕ
queues_by Takes q t w = q
queues_by Rouses q t w = q
queues_by TimesOut q t w = q
queues_by Pends q t w = λ h. if wait_names w h then q h ++ t ∷ [] else q h

-- what a begun wait makes of the state
abbrev pub effect : How → State → ℕ → Wait → State
effect h s t w = record s {
  objects = objects_by h s.objects t w;
  handing = handed (hand_of h) s.handing t;
  waits = waits_by h s.waits t w;
  queues = queues_by h s.queues t w;
}

abbrev pub answer : How → List Object → ℕ → Wait → Reply
answer Takes os t w = Reply.Status (status os t w)
answer Rouses os t w = Reply.Status io_completion_code
answer TimesOut os t w = Reply.Status (late_status (is_sleep w))
answer Pends os t w = Reply.Pended

abbrev pub how_of : State → ℕ → Wait → ℕ → How
how_of s t w ms = how (fits s.objects t w) (w.alertable && has_apc s.apcs t) (ms == 0)

abbrev pub begins : Bool → Bool → Bool → State → ℕ → Wait → Reply × State
begins a b c s t w =
    if a then (Reply.Status (status s.objects t w), taken_by s t w)
    else if b then (Reply.Status io_completion_code, with_handing s t true)
    else if c then (Reply.Status (late_status (is_sleep w)), with_handing s t false)
    else (Reply.Pended, pending_too s t w)

abbrev pub came : How → State → ℕ → Wait → Reply × State
came h s t w = (answer h s.objects t w, effect h s t w)

pub begun_is : (s : State) (t : ℕ) (w : Wait) (ms : ℕ) → begun s t w ms ≡ came (how_of s t w ms) s t w
begun_is s t w ms = go (fits s.objects t w) (w.alertable && has_apc s.apcs t) (ms == 0)
  where
    go : (a b c : Bool) → begins a b c s t w ≡ came (how a b c) s t w
    go true b c = refl
    go false true c = refl
    go false false true = refl
    go false false false = refl

-- ---- both, part by part

objects_comm : (h k : How) (os : List Object) (t u : ℕ) (v w : Wait) → NameNothingInCommon v w → NameNothingInCommon w v → (h ≡ Takes → fits os t v ≡ true) → (k ≡ Takes → fits os u w ≡ true) → objects_by k (objects_by h os t v) u w ≡ objects_by h (objects_by k os u w) t v
objects_comm Takes Takes os t u v w one two fit fit' = taken_comm os t u v w one two (fit refl) (fit' refl)
objects_comm _ _ os t u v w one two fit fit' = refl

fits_by : (h : How) (os : List Object) (t u : ℕ) (v w : Wait) → NameNothingInCommon w v → (h ≡ Takes → fits os t v ≡ true) → fits (objects_by h os t v) u w ≡ fits os u w
fits_by Takes os t u v w apart fit = fits_agree (objects_taken os t v) os u w (left_alone os t v w apart (fit refl))
fits_by _ os t u v w apart fit = refl

answer_by : (h k : How) (os : List Object) (t u : ℕ) (v w : Wait) → NameNothingInCommon w v → (h ≡ Takes → fits os t v ≡ true) → (k ≡ Takes → fits os u w ≡ true) → answer k (objects_by h os t v) u w ≡ answer k os u w
answer_by Takes Takes os t u v w apart fit fit' = ap (λ c. Reply.Status c) (status_agree (objects_taken os t v) os u w (left_alone os t v w apart (fit refl)) (fit' refl))
answer_by _ _ os t u v w apart fit fit' = refl

handed_comm : (a b : Option Bool) (hs : List Bool) (t u : ℕ) → t ≢ u → handed b (handed a hs t) u ≡ handed a (handed b hs u) t
handed_comm None None hs t u differ = refl
handed_comm None (Some b) hs t u differ = refl
handed_comm (Some a) None hs t u differ = refl
handed_comm (Some a) (Some b) hs t u differ = set_comm hs t u a b differ

pub inserts_comm : (m : Pending) (t u : ℕ) (v w : Wait) → t ≢ u → map.insert (map.insert m t v) u w ≡ map.insert (map.insert m u w) t v
inserts_comm m t u v w differ = map.same_map nat_cmp_total map.nat_cmp-IsAntisymmetric _ _ each
  where
    pick : (q : ℕ) (a b : Bool) → eq_by_cmp nat_cmp q u ≡ a → eq_by_cmp nat_cmp q t ≡ b → cond a (Some w) (cond b (Some v) (map.get m q)) ≡ cond b (Some v) (cond a (Some w) (map.get m q))
    pick q true true x y = absurd (differ (sym (eqb-true q t (sym (unsigned_tied q t) ∙ y)) ∙ eqb-true q u (sym (unsigned_tied q u) ∙ x)))
    pick q true false x y = refl
    pick q false true x y = refl
    pick q false false x y = refl

    each : (q : ℕ) → map.get (map.insert (map.insert m t v) u w) q ≡ map.get (map.insert (map.insert m u w) t v) q
    each q =
        map.get-insert nat_cmp_total (map.insert m t v) u w q
        ∙ (ap (λ o. cond (eq_by_cmp nat_cmp q u) (Some w) o) (map.get-insert nat_cmp_total m t v q)
        ∙ (pick q (eq_by_cmp nat_cmp q u) (eq_by_cmp nat_cmp q t) refl refl
        ∙ (ap (λ o. cond (eq_by_cmp nat_cmp q t) (Some v) o) (sym (map.get-insert nat_cmp_total m u w q))
        ∙ sym (map.get-insert nat_cmp_total (map.insert m u w) t v q))))

waits_comm : (h k : How) (m : Pending) (t u : ℕ) (v w : Wait) → t ≢ u → waits_by k (waits_by h m t v) u w ≡ waits_by h (waits_by k m u w) t v
waits_comm Pends Pends m t u v w differ = inserts_comm m t u v w differ
waits_comm _ _ m t u v w differ = refl

pub queue_comm : (q : List ℕ) (t u : ℕ) (v w : Wait) (h : ℕ) → NameNothingInCommon v w → (if wait_names w h then (if wait_names v h then q ++ t ∷ [] else q) ++ u ∷ [] else (if wait_names v h then q ++ t ∷ [] else q)) ≡ (if wait_names v h then (if wait_names w h then q ++ u ∷ [] else q) ++ t ∷ [] else (if wait_names w h then q ++ u ∷ [] else q))
queue_comm q t u v w h one = go (wait_names v h) (wait_names w h) refl refl
  where
    go : (a b : Bool) → wait_names v h ≡ a → wait_names w h ≡ b → (if b then (if a then q ++ t ∷ [] else q) ++ u ∷ [] else (if a then q ++ t ∷ [] else q)) ≡ (if a then (if b then q ++ u ∷ [] else q) ++ t ∷ [] else (if b then q ++ u ∷ [] else q))
    go true true x y = let free : wait_names w h ≡ false = one h (found_is h v.objects x) in let both : true ≡ false = sym y ∙ free in (cc)
    go true false x y = refl
    go false true x y = refl
    go false false x y = refl

queues_comm : (h k : How) (q : ℕ → List ℕ) (t u : ℕ) (v w : Wait) → NameNothingInCommon v w → queues_by k (queues_by h q t v) u w ≡ queues_by h (queues_by k q u w) t v
queues_comm Pends Pends q t u v w one = fun_ext (λ x. queue_comm (q x) t u v w x one)
queues_comm _ _ q t u v w one = refl

effects_comm : (h k : How) (s : State) (t u : ℕ) (v w : Wait) → t ≢ u → NameNothingInCommon v w → NameNothingInCommon w v → (h ≡ Takes → fits s.objects t v ≡ true) → (k ≡ Takes → fits s.objects u w ≡ true) → effect k (effect h s t v) u w ≡ effect h (effect k s u w) t v
effects_comm h k s t u v w differ one two fit fit' =
    let os = objects_comm h k s.objects t u v w one two fit fit' in
    let hs = handed_comm (hand_of h) (hand_of k) s.handing t u differ in
    let ws = waits_comm h k s.waits t u v w differ in
    let qs = queues_comm h k s.queues t u v w one in
    ap (λ (x : List Object). record s { objects = x; handing = handed (hand_of k) (handed (hand_of h) s.handing t) u; waits = waits_by k (waits_by h s.waits t v) u w; queues = queues_by k (queues_by h s.queues t v) u w }) os
    ∙ (ap (λ (x : List Bool). record s { objects = objects_by h (objects_by k s.objects u w) t v; handing = x; waits = waits_by k (waits_by h s.waits t v) u w; queues = queues_by k (queues_by h s.queues t v) u w }) hs
    ∙ (ap (λ (x : Pending). record s { objects = objects_by h (objects_by k s.objects u w) t v; handing = handed (hand_of h) (handed (hand_of k) s.handing u) t; waits = x; queues = queues_by k (queues_by h s.queues t v) u w }) ws
    ∙ ap (λ (x : ℕ → List ℕ). record s { objects = objects_by h (objects_by k s.objects u w) t v; handing = handed (hand_of h) (handed (hand_of k) s.handing u) t; waits = waits_by h (waits_by k s.waits u w) t v; queues = x }) qs))

-- how the second begins after the first
how_after : (h : How) (s : State) (t u : ℕ) (v w : Wait) (n : ℕ) → NameNothingInCommon w v → (h ≡ Takes → fits s.objects t v ≡ true) → how_of (effect h s t v) u w n ≡ how_of s u w n
how_after h s t u v w n two fit = ap (λ b. how b (w.alertable && has_apc s.apcs u) (n == 0)) (fits_by h s.objects t u v w two fit)

pub takes_if : (s : State) (t : ℕ) (w : Wait) (ms : ℕ) → how_of s t w ms ≡ Takes → fits s.objects t w ≡ true
takes_if s t w ms = how_takes (fits s.objects t w) (w.alertable && has_apc s.apcs t) (ms == 0)

second_is : (s : State) (t u : ℕ) (v w : Wait) (m n : ℕ) → NameNothingInCommon w v → ◌≡◌ {A = Reply × State} (begun (begun s t v m).1 u w n) (answer (how_of s u w n) s.objects u w, effect (how_of s u w n) (effect (how_of s t v m) s t v) u w)
second_is s t u v w m n two =
    let h = how_of s t v m in
    let k = how_of s u w n in
    let mid : State = effect h s t v in
    let one : begun (begun s t v m).1 u w n ≡ begun mid u w n = ap (λ (x : Reply × State). begun x.1 u w n) (begun_is s t v m) in
    let same : how_of mid u w n ≡ k = how_after h s t u v w n two (takes_if s t v m) in
    let reply : answer k mid.objects u w ≡ answer k s.objects u w = answer_by h k s.objects t u v w two (takes_if s t v m) (takes_if s u w n) in
    one ∙ (begun_is mid u w n ∙ (ap {B = Reply × State} (λ (x : How). (answer x mid.objects u w, effect x mid u w)) same ∙ ap {B = Reply × State} (λ (r : Reply). (r, effect k mid u w)) reply))

pub two_waits : (s : State) (t u : ℕ) (v w : Wait) (m n : ℕ) → t ≢ u → NameNothingInCommon v w → NameNothingInCommon w v → ((begun (begun s t v m).1 u w n).0 ≡ (begun s u w n).0) × ((begun (begun s u w n).1 t v m).0 ≡ (begun s t v m).0) × ((begun (begun s t v m).1 u w n).1 ≡ (begun (begun s u w n).1 t v m).1)
two_waits s t u v w m n differ one two =
    let a = second_is s t u v w m n two in
    let b = second_is s u t w v n m one in (
      ap (λ (x : Reply × State). x.0) a ∙ ap (λ (x : Reply × State). x.0) (sym (begun_is s u w n)),
      ap (λ (x : Reply × State). x.0) b ∙ ap (λ (x : Reply × State). x.0) (sym (begun_is s t v m)),
      ap (λ (x : Reply × State). x.1) a ∙ (effects_comm (how_of s t v m) (how_of s u w n) s t u v w differ one two (takes_if s t v m) (takes_if s u w n) ∙ ap (λ (x : Reply × State). x.1) (sym b)),
    )
