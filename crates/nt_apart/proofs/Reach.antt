-- Two acts that may both end waits, in either order, where no object is within reach of both.
use Rattle.std.proofs.Common.{◌≡◌, inl, inr, ℕ, zero, suc, Bool, true, false, cond, not, ◌&&◌, ◌||◌, List, [], ◌∷◌, ◌++◌, length, refl, sym, ap, ◌∙◌, subst, Option, Some, None, is_some, Contains, arith}
use Rattle.std.specs.Prelude.{slice_set, ◌==◌}
use Rattle.std.specs.List.{list_any, list_all, find}
use Rattle.std.specs.FinMap.{get}
use Rattle.std.proofs.lemmas.List.{length-set}
use Rattle.nt_status.proofs.Lists.{contains_first, contains_later}
use Rattle.nt_machine.proofs.Walks.{get_removed, get_other}
use Rattle.nt_objects.specs.declared.object.Object.{Object}
use Rattle.nt_objects.specs.Object.{taken}
use Rattle.nt_waits.specs.declared.wait.Wait.{Wait}
use Rattle.nt_calls.specs.declared.call.Grant.{Grant}
use Rattle.nt_calls.specs.State.{State, object_at, with_object, wait_names, pends}
use Rattle.nt_calls.specs.Serving.{is_ready, is_sleep, fits, satisfied, is_due, IsDue, take_at, take_each, wait_granted, Grants, IsServed}
use Rattle.nt_calls.specs.Change.{at}
use Rattle.nt_apart.specs.Apart.{IsInReach, ReachNothingInCommon}
use Rattle.nt_apart.proofs.Quiet.{neither, fits_other}
use Rattle.nt_apart.proofs.Waking.{find_same}
use Rattle.nt_apart.proofs.Waits.{fits_agree, status_agree, picked, takes_is, picked_named, picked_agree, named_is}
use Rattle.nt_apart.proofs.Unawaited.{unready_each}
use Rattle.nt_apart.proofs.Pieces.{Piece, Alters, Ends, made, all_made, Touches, SomeTouches, long_each, long_along, untouched, pended, idle_made}

-- ---- what a step's pieces may touch

-- the piece changes h, or ends a wait that pends in s and names h, and which names all that it takes
abbrev pub IsOf : State → ℕ → Piece → Type 0
IsOf s h (Alters k f) = k ≡ h
IsOf s h (Ends t hs) = (w : Wait) × (get s.waits t ≡ Some w) × (wait_names w h ≡ true) × ((o : ℕ) → Contains hs o → wait_names w o ≡ true)

abbrev pub AreOf : State → ℕ → List Piece → Type 0
AreOf s h [] = Unit {0}
AreOf s h (p ∷ ps) = IsOf s h p × AreOf s h ps

-- the wait names some of these objects
abbrev pub names_some : (ℕ → Bool) → Wait → Bool
names_some H w = list_any H w.objects

-- each piece ends a wait that pends in s and names some of them, and which names all that it takes
abbrev pub IsEnd : State → (ℕ → Bool) → Piece → Type 0
IsEnd s H (Alters k f) = ⊥
IsEnd s H (Ends t hs) = (w : Wait) × (get s.waits t ≡ Some w) × (names_some H w ≡ true) × ((o : ℕ) → Contains hs o → wait_names w o ≡ true)

abbrev pub AreEnds : State → (ℕ → Bool) → List Piece → Type 0
AreEnds s H [] = Unit {0}
AreEnds s H (p ∷ ps) = IsEnd s H p × AreEnds s H ps

pub are_append : (s : State) (h : ℕ) (ps qs : List Piece) → AreOf s h ps → AreOf s h qs → AreOf s h (ps ++ qs)
are_append s h [] qs are more = more
are_append s h (p ∷ ps) qs are more = (are.0, are_append s h ps qs are.1 more)

reached_by : (s : State) (h : ℕ) (p : Piece) (o : ℕ) → IsOf s h p → Touches p o → IsInReach s h o
reached_by s h (Alters k f) o is here = inl (sym here ∙ is)
reached_by s h (Ends t hs) o is here = inr (t, is.0, is.1, is.2, is.3 o here)

pub reached : (s : State) (h : ℕ) (ps : List Piece) (o : ℕ) → AreOf s h ps → SomeTouches ps o → IsInReach s h o
reached s h [] o are here = absurd here
reached s h (p ∷ ps) o are (inl here) = reached_by s h p o are.0 here
reached s h (p ∷ ps) o are (inr later) = reached s h ps o are.1 later

pub is_named : (x : ℕ) (hs : List ℕ) → Contains hs x → list_any (λ n. n == x) hs ≡ true
is_named x hs m = go (list_any (λ n. n == x) hs) refl
  where
    go : (b : Bool) → list_any (λ n. n == x) hs ≡ b → b ≡ true
    go true is = refl
    go false is = absurd (named_is x hs is m)

-- the pieces of one act leave pending the waits for the other's object
kept_along : (s : State) (h k : ℕ) (ps : List Piece) (x : State) (t : ℕ) (w : Wait) → ReachNothingInCommon s h k → AreOf s k ps → get s.waits t ≡ Some w → wait_names w h ≡ true → get x.waits t ≡ Some w → get (all_made ps x).waits t ≡ Some w
kept_along s h k [] x t w apart are pends names e = e
kept_along s h k (Alters j f ∷ ps) x t w apart are pends names e = kept_along s h k ps (at x j f) t w apart are.1 pends names e
kept_along s h k (Ends u hs ∷ ps) x t w apart are pends names e =
    kept_along s h k ps (made (Ends u hs) x) t w apart are.1 pends names (get_other x.waits u t differs ∙ e)
  where
    differs : t ≡ u → ⊥
    differs same =
        let both : Some w ≡ Some are.0.0 = sym pends ∙ (ap (λ (i : ℕ). get s.waits i) same ∙ are.0.1) in
        let one : w ≡ are.0.0 = cc in
        apart h (inl refl) (inr (t, w, pends, ap (λ (v : Wait). wait_names v k) one ∙ are.0.2, names))

-- ---- waits that do not fit

any_kept : (p q : ℕ → Bool) → ((x : ℕ) → p x ≡ false → q x ≡ false) → (xs : List ℕ) → list_any p xs ≡ false → list_any q xs ≡ false
any_kept p q kept [] e = refl
any_kept p q kept (x ∷ xs) e =
    let parts = neither (p x) (list_any p xs) e in
    ap (λ b. b || list_any q xs) (kept x parts.0) ∙ any_kept p q kept xs parts.1

all_kept : (p q : ℕ → Bool) → ((x : ℕ) → p x ≡ false → q x ≡ false) → (xs : List ℕ) → list_all p xs ≡ false → list_all q xs ≡ false
all_kept p q kept [] e = e
all_kept p q kept (x ∷ xs) e = go (p x) refl (all_kept p q kept xs)
  where
    both_false : (b : Bool) → (b && false) ≡ false
    both_false true = refl
    both_false false = refl

    go : (b : Bool) → p x ≡ b → (list_all p xs ≡ false → list_all q xs ≡ false) → (q x && list_all q xs) ≡ false
    go true is rest =
        let h : list_all p xs ≡ false = ap (λ b. b && list_all p xs) (sym is) ∙ e in
        ap (λ b. q x && b) (rest h) ∙ both_false (q x)
    go false is rest = ap (λ b. b && list_all q xs) (kept x is)

-- where fewer objects are ready, no more waits fit
fits_kept : (old new : List Object) (u : ℕ) (w : Wait) → ((k : ℕ) → is_ready old u k ≡ false → is_ready new u k ≡ false) → fits old u w ≡ false → fits new u w ≡ false
fits_kept old new u w kept e = go w.all e
  where
    sleeps : (b : Bool) → (not b && list_all (is_ready old u) w.objects) ≡ false → (not b && list_all (is_ready new u) w.objects) ≡ false
    sleeps true e = refl
    sleeps false e = all_kept (is_ready old u) (is_ready new u) kept w.objects e

    go : (all : Bool) → cond all (not (is_sleep w) && list_all (is_ready old u) w.objects) (list_any (is_ready old u) w.objects) ≡ false → cond all (not (is_sleep w) && list_all (is_ready new u) w.objects) (list_any (is_ready new u) w.objects) ≡ false
    go true e = sleeps (is_sleep w) e
    go false e = any_kept (is_ready old u) (is_ready new u) kept w.objects e

-- who does not pend is not due
undue_idle : (s : State) (u : ℕ) → pends s u ≡ false → is_due s u ≡ false
undue_idle s u e = go (get s.waits u) e
  where
    go : (o : Option Wait) → is_some o ≡ false → satisfied s.objects u o ≡ false
    go None e = refl
    go (Some w) e = let h : true ≡ false = e in (cc)

-- ---- two lists of objects that agree

set_agree : (ps os : List Object) (h o : ℕ) (v : Object) → length ps ≡ length os → object_at ps o ≡ object_at os o → object_at (slice_set ps h v) o ≡ object_at (slice_set os h v) o
set_agree [] [] h o v long here = refl
set_agree [] (x ∷ os) h o v long here = absurd (omega (arith, long))
set_agree (p ∷ ps) [] h o v long here = absurd (omega (arith, long))
set_agree (p ∷ ps) (x ∷ os) zero zero v long here = refl
set_agree (p ∷ ps) (x ∷ os) zero (suc o) v long here = here
set_agree (p ∷ ps) (x ∷ os) (suc h) zero v long here = here
set_agree (p ∷ ps) (x ∷ os) (suc h) (suc o) v long here = set_agree ps os h o v (omega (arith, long)) here

pub change_agree : (ps os : List Object) (h o : ℕ) (f : Object → Object) → length ps ≡ length os → object_at ps h ≡ object_at os h → object_at ps o ≡ object_at os o → object_at (with_object ps h f) o ≡ object_at (with_object os h f) o
change_agree ps os h o f long first here = ap (λ v. object_at (slice_set ps h (f v)) o) first ∙ set_agree ps os h o (f (object_at os h)) long here

pub each_agree : (ps os : List Object) (t : ℕ) (hs : List ℕ) (o : ℕ) → length ps ≡ length os → ((x : ℕ) → Contains hs x → object_at ps x ≡ object_at os x) → object_at ps o ≡ object_at os o → object_at (take_each ps t hs) o ≡ object_at (take_each os t hs) o
each_agree ps os t [] o long agree here = here
each_agree ps os t (h ∷ hs) o long agree here =
    let first = agree h (contains_first h hs h refl) in
    each_agree (take_at ps t h) (take_at os t h) t hs o
    (length-set ps h (taken (object_at ps h) t) ∙ (long ∙ sym (length-set os h (taken (object_at os h) t))))
    (λ x m. change_agree ps os h x (λ v. taken v t) long first (agree x (contains_later h hs x m)))
    (change_agree ps os h o (λ v. taken v t) long first here)

-- ---- two states in which the same waits for some objects pend, and find the same

pub record IsBesideAll (H : ℕ → Bool) (x y : State) : Type 0 where
  pub long : length y.objects ≡ length x.objects
  pub there : (t : ℕ) (w : Wait) → get x.waits t ≡ Some w → names_some H w ≡ true → get y.waits t ≡ Some w
  pub back : (t : ℕ) (w : Wait) → get y.waits t ≡ Some w → names_some H w ≡ true → get x.waits t ≡ Some w
  pub agree : (t : ℕ) (w : Wait) → get x.waits t ≡ Some w → names_some H w ≡ true → (o : ℕ) → Contains w.objects o → object_at y.objects o ≡ object_at x.objects o
  -- no other wait fits
  pub only : (t : ℕ) (w : Wait) → get x.waits t ≡ Some w → names_some H w ≡ false → fits x.objects t w ≡ false
  pub only_too : (t : ℕ) (w : Wait) → get y.waits t ≡ Some w → names_some H w ≡ false → fits y.objects t w ≡ false

pub back_all : (H : ℕ → Bool) (x y : State) → IsBesideAll H x y → IsBesideAll H y x
back_all H x y beside = record {
  long = sym beside.long;
  there = beside.back;
  back = beside.there;
  agree = λ t w e n o m. sym (beside.agree t w (beside.back t w e n) n o m);
  only = beside.only_too;
  only_too = beside.only;
}

pub itself_all : (H : ℕ → Bool) (x : State) → ((t : ℕ) (w : Wait) → get x.waits t ≡ Some w → names_some H w ≡ false → fits x.objects t w ≡ false) → IsBesideAll H x x
itself_all H x only = record {
  long = refl;
  there = λ t w e n. e;
  back = λ t w e n. e;
  agree = λ t w e n o m. refl;
  only = only;
  only_too = only;
}

-- a wait that pends in one alone fits not
lone : (H : ℕ → Bool) (x y : State) (t : ℕ) (w : Wait) → IsBesideAll H x y → get x.waits t ≡ Some w → get y.waits t ≡ None → fits x.objects t w ≡ false
lone H x y t w beside e none = go (names_some H w) refl
  where
    go : (b : Bool) → names_some H w ≡ b → fits x.objects t w ≡ false
    go true n = let clash : None ≡ Some w = sym none ∙ beside.there t w e n in (cc)
    go false n = beside.only t w e n

both_pend : (H : ℕ → Bool) (x y : State) (t : ℕ) (w v : Wait) → IsBesideAll H x y → get x.waits t ≡ Some w → get y.waits t ≡ Some v → fits y.objects t v ≡ fits x.objects t w
both_pend H x y t w v beside e e' = go (names_some H w) refl (names_some H v) refl
  where
    go : (a : Bool) → names_some H w ≡ a → (b : Bool) → names_some H v ≡ b → fits y.objects t v ≡ fits x.objects t w
    go true n b n' =
        let both : Some v ≡ Some w = sym e' ∙ beside.there t w e n in
        let one : v ≡ w = cc in
        ap (λ (z : Wait). fits y.objects t z) one ∙ fits_agree y.objects x.objects t w (beside.agree t w e n)
    go false n true n' =
        let both : Some w ≡ Some v = sym e ∙ beside.back t v e' n' in
        let one : w ≡ v = cc in
        let clash : true ≡ false = sym n' ∙ (ap (λ (z : Wait). names_some H z) (sym one) ∙ n) in
        (cc)
    go false n false n' = beside.only_too t v e' n' ∙ sym (beside.only t w e n)

pub due_all : (H : ℕ → Bool) (x y : State) → IsBesideAll H x y → (t : ℕ) → is_due y t ≡ is_due x t
due_all H x y beside t = go (get x.waits t) refl (get y.waits t) refl
  where
    go : (o : Option Wait) → get x.waits t ≡ o → (o' : Option Wait) → get y.waits t ≡ o' → satisfied y.objects t o' ≡ satisfied x.objects t o
    go None e None e' = refl
    go None e (Some v) e' = lone H y x t v (back_all H x y beside) e' e
    go (Some w) e None e' = sym (lone H x y t w beside e e')
    go (Some w) e (Some v) e' = both_pend H x y t w v beside e e'

-- they are so after a wait ended in both that takes objects on which they agree
after_all : (H : ℕ → Bool) (x y : State) (t : ℕ) (hs : List ℕ) → IsBesideAll H x y → ((o : ℕ) → Contains hs o → object_at y.objects o ≡ object_at x.objects o) → IsBesideAll H (made (Ends t hs) x) (made (Ends t hs) y)
after_all H x y t hs beside agree = record {
  long = long_each y.objects t hs ∙ (beside.long ∙ sym (long_each x.objects t hs));
  there = λ u v e n. let r = get_removed x.waits t u v e in get_other y.waits t u r.0 ∙ beside.there u v r.1 n;
  back = λ u v e n. let r = get_removed y.waits t u v e in get_other x.waits t u r.0 ∙ beside.back u v r.1 n;
  agree = λ u v e n o m. let r = get_removed x.waits t u v e in each_agree y.objects x.objects t hs o beside.long agree (beside.agree u v r.1 n o m);
  only = λ u v e n. let r = get_removed x.waits t u v e in fits_kept x.objects (take_each x.objects t hs) u v (λ k z. unready_each x.objects t hs u k z) (beside.only u v r.1 n);
  only_too = λ u v e n. let r = get_removed y.waits t u v e in fits_kept y.objects (take_each y.objects t hs) u v (λ k z. unready_each y.objects t hs u k z) (beside.only_too u v r.1 n);
}

-- ---- the same grants in both

-- the pieces of grants
abbrev pub pieces_of : (threads : List ℕ) (x y : State) (gs : List Grant) → Grants threads x gs y → List Piece
pieces_of threads x y [] grants = []
pieces_of threads x y (g ∷ gs) grants = Ends g.thread (picked x.objects g.thread grants.1) ∷ pieces_of threads (wait_granted x g.thread grants.1) y gs grants.3

granted_is : (x : State) (t : ℕ) (w : Wait) → wait_granted x t w ≡ made (Ends t (picked x.objects t w)) x
granted_is x t w = ap (λ (os : List Object). record (wait_granted x t w) { objects = os }) (takes_is x.objects t w)

pub source_is : (threads : List ℕ) (x y : State) (gs : List Grant) → (grants : Grants threads x gs y) → y ≡ all_made (pieces_of threads x y gs grants) x
source_is threads x y [] grants = grants
source_is threads x y (g ∷ gs) grants =
    let w : Wait = grants.1 in
    source_is threads (wait_granted x g.thread w) y gs grants.3
    ∙ ap (λ (z : State). all_made (pieces_of threads (wait_granted x g.thread w) y gs grants.3) z) (granted_is x g.thread w)

-- the two sequences have the same first thread with a property, where those that don't pend have it not
abbrev pub AlikeInBoth : List ℕ → List ℕ → State → State → Type 0
AlikeInBoth ts us x y = (p : ℕ → Bool) → ((u : ℕ) → pends x u ≡ false → p u ≡ false) → ((u : ℕ) → pends y u ≡ false → p u ≡ false) → find p us ≡ find p ts

pub record AreGrantedAll (s : State) (H : ℕ → Bool) (us : List ℕ) (y z : State) (gs : List Grant) (ps : List Piece) : Type 0 where
  pub are : AreEnds s H ps
  pub grants : Grants us y gs (all_made ps y)
  pub beside : IsBesideAll H z (all_made ps y)

due_names : (H : ℕ → Bool) (x y : State) (g : Grant) (w : Wait) → IsBesideAll H x y → IsDue x g w → names_some H w ≡ true
due_names H x y g w beside due = go (names_some H w) refl
  where
    go : (b : Bool) → names_some H w ≡ b → b ≡ true
    go true n = refl
    go false n = let clash : true ≡ false = sym due.fits ∙ beside.only g.thread w due.pends n in (cc)

pub granted_all : (s : State) (H : ℕ → Bool) (ts us : List ℕ) (x y z : State) (gs : List Grant) → ((t : ℕ) (w : Wait) → get x.waits t ≡ Some w → get s.waits t ≡ Some w) → AlikeInBoth ts us x y → IsBesideAll H x y → (grants : Grants ts x gs z) → AreGrantedAll s H us y z gs (pieces_of ts x z gs grants)
granted_all s H ts us x y z [] below alike beside grants = record { are = tt; grants = refl; beside = subst (λ (v : State). IsBesideAll H v y) (sym grants) beside }
granted_all s H ts us x y z (g ∷ gs) below alike beside grants =
    let t = g.thread in
    let w : Wait = grants.1 in
    let due : IsDue x g w = grants.2 in
    let names : names_some H w ≡ true = due_names H x y g w beside due in
    let agree : (o : ℕ) → Contains w.objects o → object_at y.objects o ≡ object_at x.objects o = beside.agree t w due.pends names in
    let hs : List ℕ = picked x.objects t w in
    let named : (o : ℕ) → Contains hs o → Contains w.objects o = picked_named x.objects t w due.fits in
    let one : wait_granted x t w ≡ made (Ends t hs) x = granted_is x t w in
    let two : wait_granted y t w ≡ made (Ends t hs) y = granted_is y t w ∙ ap (λ (ks : List ℕ). made (Ends t ks) y) (picked_agree y.objects x.objects t w agree) in
    let after : IsBesideAll H (made (Ends t hs) x) (made (Ends t hs) y) = after_all H x y t hs beside (λ o m. agree o (named o m)) in
    let rest = granted_all s H ts us (wait_granted x t w) (made (Ends t hs) y) z gs
    (λ u v e. below u v (get_removed x.waits t u v e).1)
    (λ p ix iy. alike p (λ u e. ix u (idle_made (Ends t hs) x u e)) (λ u e. iy u (idle_made (Ends t hs) y u e)))
    (subst (λ (v : State). IsBesideAll H v (made (Ends t hs) y)) (sym one) after)
    grants.3 in
    let first : find (is_due y) us ≡ Some t =
    find_same (is_due y) (is_due x) us (due_all H x y beside)
    ∙ (alike (is_due x) (λ u e. undue_idle x u e) (λ u e. sym (due_all H x y beside u) ∙ undue_idle y u e) ∙ grants.0) in
    record {
      are = ((w, below t w due.pends, names, λ o m. is_named o w.objects (named o m)), rest.are);
      grants = (
        first,
        w,
        record { pends = beside.there t w due.pends names; fits = fits_agree y.objects x.objects t w agree ∙ due.fits; status = due.status ∙ sym (status_agree y.objects x.objects t w agree due.fits) },
        subst (λ (v : State). Grants us v gs (all_made (pieces_of ts (wait_granted x t w) z gs grants.3) (made (Ends t hs) y))) (sym two) rest.grants,
      );
      beside = rest.beside;
    }

-- the same of the waits for one object
abbrev pub IsBeside : ℕ → State → State → Type 0
IsBeside h x y = IsBesideAll (λ n. n == h) x y

pub beside_back : (h : ℕ) (x y : State) → IsBeside h x y → IsBeside h y x
beside_back h x y beside = back_all (λ n. n == h) x y beside

pub beside_itself : (h : ℕ) (x : State) → ((t : ℕ) (w : Wait) → get x.waits t ≡ Some w → wait_names w h ≡ false → fits x.objects t w ≡ false) → IsBeside h x x
beside_itself h x only = itself_all (λ n. n == h) x only

pub due_beside : (h : ℕ) (x y : State) → IsBeside h x y → (t : ℕ) → is_due y t ≡ is_due x t
due_beside h x y beside t = due_all (λ n. n == h) x y beside t

pub record AreGrantedBeside (s : State) (h : ℕ) (us : List ℕ) (y z : State) (gs : List Grant) (ps : List Piece) : Type 0 where
  pub are : AreOf s h ps
  pub grants : Grants us y gs (all_made ps y)
  pub beside : IsBeside h z (all_made ps y)

as_one : (s : State) (h : ℕ) (ps : List Piece) → AreEnds s (λ n. n == h) ps → AreOf s h ps
as_one s h [] are = tt
as_one s h (Alters k f ∷ ps) are = absurd are.0
as_one s h (Ends t hs ∷ ps) are = (are.0, as_one s h ps are.1)

pub granted_beside : (s : State) (h : ℕ) (ts us : List ℕ) (x y z : State) (gs : List Grant) → ((t : ℕ) (w : Wait) → get x.waits t ≡ Some w → get s.waits t ≡ Some w) → AlikeInBoth ts us x y → IsBeside h x y → (grants : Grants ts x gs z) → AreGrantedBeside s h us y z gs (pieces_of ts x z gs grants)
granted_beside s h ts us x y z gs below alike beside grants =
    let all = granted_all s (λ n. n == h) ts us x y z gs below alike beside grants in
    record { are = as_one s h (pieces_of ts x z gs grants) all.are; grants = all.grants; beside = all.beside }

-- ---- where both begin

pub undue_wait : (s : State) (t : ℕ) (w : Wait) → IsServed s → get s.waits t ≡ Some w → fits s.objects t w ≡ false
undue_wait s t w served e = sym (ap (satisfied s.objects t) e) ∙ served t

pub only_one : (s : State) (h : ℕ) (f : Object → Object) → IsServed s → (t : ℕ) (w : Wait) → get s.waits t ≡ Some w → wait_names w h ≡ false → fits (with_object s.objects h f) t w ≡ false
only_one s h f served t w e n = fits_other s.objects h (f (object_at s.objects h)) t w n ∙ undue_wait s t w served e

-- an object that the one reaches is left by the other's pieces
pub left_alone : (s : State) (h k : ℕ) (ps : List Piece) (o : ℕ) → ReachNothingInCommon s h k → AreOf s k ps → IsInReach s h o → object_at (all_made ps s).objects o ≡ object_at s.objects o
left_alone s h k ps o apart are reach = untouched ps s o (λ touch. apart o reach (reached s k ps o are touch))

pub begins_beside : (s : State) (h k : ℕ) (f : Object → Object) (ps : List Piece) → ReachNothingInCommon s h k → AreOf s k ps → IsServed s → IsServed (all_made ps s) → IsBeside h (at s h f) (at (all_made ps s) h f)
begins_beside s h k f ps apart are served done = record {
  long = length-set (all_made ps s).objects h (f (object_at (all_made ps s).objects h)) ∙ (long_along ps s ∙ sym (length-set s.objects h (f (object_at s.objects h))));
  there = λ t w e n. kept_along s h k ps s t w apart are e n e;
  back = λ t w e n. pended ps s t w e;
  agree = λ t w e n o m. change_agree (all_made ps s).objects s.objects h o f (long_along ps s) (left_alone s h k ps h apart are (inl refl)) (left_alone s h k ps o apart are (inr (t, w, e, n, is_named o w.objects m)));
  only = only_one s h f served;
  only_too = only_one (all_made ps s) h f done;
}
