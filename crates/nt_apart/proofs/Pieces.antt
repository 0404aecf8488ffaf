-- The pieces of a step: an object that is changed, a wait that ends. Pieces that touch no object in common commute.
use Rattle.std.proofs.Common.{◌≡◌, ◌≢◌, ◌⊎◌, inl, inr, ℕ, Bool, true, false, cond, ◌&&◌, List, [], ◌∷◌, ◌++◌, length, refl, sym, ap, ◌∙◌, subst, Option, Some, None, is_some, Contains}
use Rattle.std.proofs.Math.Path.{fun_ext}
use Rattle.std.specs.Prelude.{slice_set, ◌==◌, if◌then◌else◌}
use Rattle.std.specs.List.{list_any, find, flat_map}
use Rattle.std.specs.Cmp.{nat_cmp_total}
use Rattle.std.specs.Ordering.{nat_cmp, eq_by_cmp}
use Rattle.std.specs.FinMap as map
use Rattle.std.proofs.lemmas.Bool.{cases_eq, eqb-true}
use Rattle.std.proofs.lemmas.List.{length-set, get_or-set_other, set_comm}
use Rattle.nt_machine.proofs.Walks.{get_removed, get_same}
use Rattle.nt_objects.specs.declared.object.Object.{Object}
use Rattle.nt_objects.specs.declared.object.Object.TheVariants.{Thread}
use Rattle.nt_objects.specs.Object.{taken}
use Rattle.nt_waits.specs.declared.wait.Wait.{Wait}
use Rattle.nt_waits.specs.Waits.{others}
use Rattle.nt_apc.specs.Queues.{has_apc}
use Rattle.nt_calls.specs.State.{State, Pending, object_at, pends}
use Rattle.nt_calls.specs.Serving.{take_at, take_each, IsAlerted}
use Rattle.nt_calls.specs.Change.{at}
use Rattle.nt_apart.proofs.Quiet.{changes_commute}
use Rattle.nt_apart.proofs.Waking.{take_all, each_leaves}
use Rattle.nt_apart.proofs.Waits.{none_equal, each_comm}

-- an object is changed, or a thread's wait ends, which takes these objects
pub data Piece : Type 0 where
  Alters : (h : ℕ) → (f : Object → Object) → Piece
  Ends : (t : ℕ) → (hs : List ℕ) → Piece

abbrev pub made : Piece → State → State
made (Alters h f) s = at s h f
made (Ends t hs) s = record s {
  objects = take_each s.objects t hs;
  handing = slice_set s.handing t false;
  waits = map.remove s.waits t;
  queues = λ h. others t (s.queues h);
}

abbrev pub all_made : List Piece → State → State
all_made [] s = s
all_made (p ∷ ps) s = all_made ps (made p s)

abbrev pub Touches : Piece → ℕ → Type 0
Touches (Alters h f) o = h ≡ o
Touches (Ends t hs) o = Contains hs o

abbrev pub SomeTouches : List Piece → ℕ → Type 0
SomeTouches [] o = ⊥
SomeTouches (p ∷ ps) o = Touches p o ⊎ SomeTouches ps o

pub all_made_append : (ps qs : List Piece) (s : State) → all_made (ps ++ qs) s ≡ all_made qs (all_made ps s)
all_made_append [] qs s = refl
all_made_append (p ∷ ps) qs s = all_made_append ps qs (made p s)

-- ---- two pieces in either order

pub remove_comm : (m : Pending) (t u : ℕ) → map.remove (map.remove m t) u ≡ map.remove (map.remove m u) t
remove_comm m t u = map.same_map nat_cmp_total map.nat_cmp-IsAntisymmetric _ _ each
  where
    pick : (a b : Bool) (o : Option Wait) → cond a None (cond b None o) ≡ cond b None (cond a None o)
    pick true true o = refl
    pick true false o = refl
    pick false true o = refl
    pick false false o = refl

    each : (q : ℕ) → map.get (map.remove (map.remove m t) u) q ≡ map.get (map.remove (map.remove m u) t) q
    each q =
        map.get-remove nat_cmp_total (map.remove m t) u q
        ∙ (ap (λ (o : Option Wait). cond (eq_by_cmp nat_cmp q u) None o) (map.get-remove nat_cmp_total m t q)
        ∙ (pick (eq_by_cmp nat_cmp q u) (eq_by_cmp nat_cmp q t) (map.get m q)
        ∙ (ap (λ (o : Option Wait). cond (eq_by_cmp nat_cmp q t) None o) (sym (map.get-remove nat_cmp_total m u q))
        ∙ sym (map.get-remove nat_cmp_total (map.remove m u) t q))))

pub others_comm : (t u : ℕ) (q : List ℕ) → others u (others t q) ≡ others t (others u q)
others_comm t u [] = refl
others_comm t u (x ∷ q) = go (x == t) (x == u) refl refl (others_comm t u q)
  where
    go : (a b : Bool) → (x == t) ≡ a → (x == u) ≡ b → others u (others t q) ≡ others t (others u q) → others u (if a then others t q else x ∷ others t q) ≡ others t (if b then others u q else x ∷ others u q)
    go true true is is' rest = rest
    go true false is is' rest = rest ∙ sym (ap (λ c. if c then others t (others u q) else x ∷ others t (others u q)) is)
    go false true is is' rest = ap (λ c. if c then others u (others t q) else x ∷ others u (others t q)) is' ∙ rest
    go false false is is' rest =
        ap (λ c. if c then others u (others t q) else x ∷ others u (others t q)) is'
        ∙ (ap (λ (l : List ℕ). x ∷ l) rest
        ∙ sym (ap (λ c. if c then others t (others u q) else x ∷ others t (others u q)) is))

unhanded_comm : (hs : List Bool) (t u : ℕ) → slice_set (slice_set hs t false) u false ≡ slice_set (slice_set hs u false) t false
unhanded_comm hs t u = elim (cases_eq t u) [
  | inl same ↦ subst (λ (n : ℕ). slice_set (slice_set hs t false) n false ≡ slice_set (slice_set hs n false) t false) same refl
  | inr differs ↦ set_comm hs t u false false differs
]

ends_comm : (s : State) (t u : ℕ) (hs ks : List ℕ) → ((x y : ℕ) → Contains hs x → Contains ks y → x ≢ y) → made (Ends u ks) (made (Ends t hs) s) ≡ made (Ends t hs) (made (Ends u ks) s)
ends_comm s t u hs ks differ =
    ap (λ (x : List Object). record s { objects = x; handing = slice_set (slice_set s.handing t false) u false; waits = map.remove (map.remove s.waits t) u; queues = λ h. others u (others t (s.queues h)) }) (each_comm s.objects t u hs ks differ)
    ∙ (ap (λ (x : List Bool). record s { objects = take_each (take_each s.objects u ks) t hs; handing = x; waits = map.remove (map.remove s.waits t) u; queues = λ h. others u (others t (s.queues h)) }) (unhanded_comm s.handing t u)
    ∙ (ap (λ (x : Pending). record s { objects = take_each (take_each s.objects u ks) t hs; handing = slice_set (slice_set s.handing u false) t false; waits = x; queues = λ h. others u (others t (s.queues h)) }) (remove_comm s.waits t u)
    ∙ ap (λ (x : ℕ → List ℕ). record s { objects = take_each (take_each s.objects u ks) t hs; handing = slice_set (slice_set s.handing u false) t false; waits = map.remove (map.remove s.waits u) t; queues = x }) (fun_ext (λ h. others_comm t u (s.queues h)))))

alters_ends : (s : State) (h u : ℕ) (f : Object → Object) (ks : List ℕ) → (Contains ks h → ⊥) → made (Ends u ks) (at s h f) ≡ at (made (Ends u ks) s) h f
alters_ends s h u f ks apart =
    let free : list_any (λ n. n == h) ks ≡ false = none_equal h ks (λ x m e. apart (subst (λ (i : ℕ). Contains ks i) e m)) in
    ap (λ (os : List Object). record (made (Ends u ks) s) { objects = os }) (take_all s.objects h f u ks free)

pub pieces_commute : (p q : Piece) (s : State) → ((o : ℕ) → Touches p o → Touches q o → ⊥) → made q (made p s) ≡ made p (made q s)
pieces_commute (Alters h f) (Alters k g) s apart = sym (changes_commute s h k f g (λ e. apart k e refl))
pieces_commute (Alters h f) (Ends u ks) s apart = alters_ends s h u f ks (λ m. apart h refl m)
pieces_commute (Ends t hs) (Alters k g) s apart = sym (alters_ends s k t g hs (λ m. apart k m refl))
pieces_commute (Ends t hs) (Ends u ks) s apart = ends_comm s t u hs ks (λ x y m n e. apart y (subst (λ (i : ℕ). Contains hs i) e m) n)

pub past : (p : Piece) (qs : List Piece) (s : State) → ((o : ℕ) → Touches p o → SomeTouches qs o → ⊥) → all_made qs (made p s) ≡ made p (all_made qs s)
past p [] s apart = refl
past p (q ∷ qs) s apart = ap (λ (x : State). all_made qs x) (pieces_commute p q s (λ o m n. apart o m (inl n))) ∙ past p qs (made q s) (λ o m n. apart o m (inr n))

pub lists_commute : (ps qs : List Piece) (s : State) → ((o : ℕ) → SomeTouches ps o → SomeTouches qs o → ⊥) → all_made qs (all_made ps s) ≡ all_made ps (all_made qs s)
lists_commute [] qs s apart = refl
lists_commute (p ∷ ps) qs s apart = lists_commute ps qs (made p s) (λ o m n. apart o (inr m) n) ∙ ap (λ (x : State). all_made ps x) (past p qs s (λ o m n. apart o (inl m) n))

-- ---- what pieces leave

pub long_each : (os : List Object) (t : ℕ) (hs : List ℕ) → length (take_each os t hs) ≡ length os
long_each os t [] = refl
long_each os t (h ∷ hs) = long_each (take_at os t h) t hs ∙ length-set os h (taken (object_at os h) t)

pub long_along : (ps : List Piece) (s : State) → length (all_made ps s).objects ≡ length s.objects
long_along [] s = refl
long_along (Alters h f ∷ ps) s = long_along ps (at s h f) ∙ length-set s.objects h (f (object_at s.objects h))
long_along (Ends t hs ∷ ps) s = long_along ps (made (Ends t hs) s) ∙ long_each s.objects t hs

pub untouched : (ps : List Piece) (s : State) (o : ℕ) → (SomeTouches ps o → ⊥) → object_at (all_made ps s).objects o ≡ object_at s.objects o
untouched [] s o apart = refl
untouched (Alters h f ∷ ps) s o apart = untouched ps (at s h f) o (λ m. apart (inr m)) ∙ get_or-set_other s.objects h o (f (object_at s.objects h)) (Thread false) (λ e. apart (inl (sym e)))
untouched (Ends t hs ∷ ps) s o apart =
    let free : list_any (λ n. n == o) hs ≡ false = none_equal o hs (λ x m e. apart (inl (subst (λ (i : ℕ). Contains hs i) e m))) in
    untouched ps (made (Ends t hs) s) o (λ m. apart (inr m)) ∙ each_leaves s.objects t o hs free

-- a wait that pends after them pended before
pub pended : (ps : List Piece) (s : State) (t : ℕ) (w : Wait) → map.get (all_made ps s).waits t ≡ Some w → map.get s.waits t ≡ Some w
pended [] s t w e = e
pended (Alters h f ∷ ps) s t w e = pended ps (at s h f) t w e
pended (Ends u hs ∷ ps) s t w e = (get_removed s.waits u t w (pended ps (made (Ends u hs) s) t w e)).1

same_apcs : (ps : List Piece) (s : State) (t : ℕ) → has_apc (all_made ps s).apcs t ≡ has_apc s.apcs t
same_apcs [] s t = refl
same_apcs (Alters h f ∷ ps) s t = same_apcs ps (at s h f) t
same_apcs (Ends u hs ∷ ps) s t = same_apcs ps (made (Ends u hs) s) t

pub alerted_before : (ps : List Piece) (s : State) (t : ℕ) → IsAlerted (all_made ps s) t → IsAlerted s t
alerted_before ps s t alerted =
    (alerted.0, pended ps s t alerted.0 alerted.1, subst (λ (b : Bool). (alerted.0.alertable && b) ≡ true) (same_apcs ps s t) alerted.2)

pub idle_made : (p : Piece) (s : State) (u : ℕ) → pends s u ≡ false → pends (made p s) u ≡ false
idle_made (Alters h f) s u idle = idle
idle_made (Ends t hs) s u idle = go (map.get (map.remove s.waits t) u) refl
  where
    go : (o : Option Wait) → map.get (map.remove s.waits t) u ≡ o → is_some o ≡ false
    go None e = refl
    go (Some w) e = let h : true ≡ false = sym (ap is_some (get_removed s.waits t u w e).1) ∙ idle in (cc)

pub idle_along : (ps : List Piece) (s : State) (u : ℕ) → pends s u ≡ false → pends (all_made ps s) u ≡ false
idle_along [] s u idle = idle
idle_along (p ∷ ps) s u idle = idle_along ps (made p s) u (idle_made p s u idle)

-- ---- the first of a queue that has a property, where those whose waits ended have it not

pub find_others : (p : ℕ → Bool) (t : ℕ) (q : List ℕ) → p t ≡ false → find p (others t q) ≡ find p q
find_others p t [] unlike = refl
find_others p t (x ∷ q) unlike = go (x == t) refl (find_others p t q unlike)
  where
    go : (b : Bool) → (x == t) ≡ b → find p (others t q) ≡ find p q → find p (if b then others t q else x ∷ others t q) ≡ find p (x ∷ q)
    go true is rest = rest ∙ sym (ap (λ c. if c then Some x else find p q) (ap p (eqb-true x t is) ∙ unlike))
    go false is rest = ap (λ (o : Option ℕ). if p x then Some x else o) rest

pub queue_along : (ps : List Piece) (s : State) (p : ℕ → Bool) → ((u : ℕ) → pends (all_made ps s) u ≡ false → p u ≡ false) → (n : ℕ) → find p ((all_made ps s).queues n) ≡ find p (s.queues n)
queue_along [] s p idle n = refl
queue_along (Alters h f ∷ ps) s p idle n = queue_along ps (at s h f) p idle n
queue_along (Ends t hs ∷ ps) s p idle n =
    let gone : pends (made (Ends t hs) s) t ≡ false = ap is_some (get_same s.waits t) in
    queue_along ps (made (Ends t hs) s) p idle n ∙ find_others p t (s.queues n) (idle t (idle_along ps (made (Ends t hs) s) t gone))

abbrev or_else : Option ℕ → Option ℕ → Option ℕ
or_else None o = o
or_else (Some x) o = Some x

find_append : (p : ℕ → Bool) (xs ys : List ℕ) → find p (xs ++ ys) ≡ or_else (find p xs) (find p ys)
find_append p [] ys = refl
find_append p (x ∷ xs) ys = go (p x) (find_append p xs ys)
  where
    go : (b : Bool) → find p (xs ++ ys) ≡ or_else (find p xs) (find p ys) → (if b then Some x else find p (xs ++ ys)) ≡ or_else (if b then Some x else find p xs) (find p ys)
    go true rest = refl
    go false rest = rest

pub find_flat : (p : ℕ → Bool) (q r : ℕ → List ℕ) (ns : List ℕ) → ((n : ℕ) → find p (q n) ≡ find p (r n)) → find p (flat_map q ns) ≡ find p (flat_map r ns)
find_flat p q r [] same = refl
find_flat p q r (n ∷ ns) same =
    find_append p (q n) (flat_map q ns)
    ∙ (ap (λ (o : Option ℕ). or_else o (find p (flat_map q ns))) (same n)
    ∙ (ap (λ (o : Option ℕ). or_else (find p (r n)) o) (find_flat p q r ns same)
    ∙ sym (find_append p (r n) (flat_map r ns))))
