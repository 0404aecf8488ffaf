-- Two states that have in common what a call touches, and that parts which touch nothing of it lead to such a state.
use Rattle.std.proofs.Common.{◌≡◌, ◌≢◌, ◌⊎◌, inl, inr, ℕ, zero, suc, Bool, true, false, cond, ◌-◌, ℤ, List, [], ◌∷◌, ◌++◌, length, refl, sym, ap, ◌∙◌, subst, Option, Some, None, is_some, Contains}
use Rattle.std.specs.Prelude.{slice_index_or, unsigned_abs, nat_le, if◌then◌else◌}
use Rattle.std.specs.List.{find}
use Rattle.std.specs.Cmp.{nat_cmp_total}
use Rattle.std.specs.Ordering.{nat_cmp}
use Rattle.std.specs.FinMap as fin
use Rattle.std.proofs.lemmas.Bool.{cases_eq}
use Rattle.std.proofs.lemmas.List.{length-set, get_or-set_other}
use Rattle.nt_machine.proofs.Listing.{same_no}
use Rattle.nt_machine.proofs.Walks.{tied, apart, get_removed, get_other}
use Rattle.nt_objects.specs.declared.object.Object.{Object}
use Rattle.nt_objects.specs.declared.object.Object.TheVariants.{Event, Semaphore, Mutex, Timer, Thread, Gone}
use Rattle.nt_objects.specs.declared.object.Armed.{Armed}
use Rattle.nt_objects.specs.Object.{taken, with_set, released, unlocked, armed_with, set_by}
use Rattle.nt_waits.specs.declared.wait.Wait.{Wait}
use Rattle.nt_apc.specs.declared.apc.Queued.{Queued}
use Rattle.nt_apc.specs.Queues.{apc_queue_of, without_from, withdrawn}
use Rattle.nt_calls.specs.declared.call.Act.{Act}
use Rattle.nt_calls.specs.declared.call.Grant.{Grant}
use Rattle.nt_calls.specs.State.{State, object_at, with_object, wait_names, pends}
use Rattle.nt_calls.specs.Serving.{take_at, take_each, sequence, Grants, wait_granted}
use Rattle.nt_calls.specs.Change.{due_moment, routine_for}
use Rattle.nt_apart.specs.Footprint.{belongs}
use Rattle.nt_apart.proofs.Waking.{each_leaves}
use Rattle.nt_apart.proofs.Waits.{none_equal}
use Rattle.nt_apart.proofs.Pieces.{Piece, Alters, Ends, long_each, find_others, find_flat}
use Rattle.nt_apart.proofs.Reach.{AreOf, AlikeInBoth, pieces_of}
use Rattle.nt_apart.proofs.Signals.{signaling, settling, whole}
use Rattle.nt_apart.proofs.Timers.{setting}
use Rattle.nt_apart.proofs.Parts.{Part, IsStrange, AllStrange, AllFair, in_parts, Changes, Gets, Hands, Leaves, Joins, Posts, Withdraws, Drops, none_from, done, all_done, OnObject, OnThread, Moves, SomeOnObject, SomeOnThread, SomeMoves}

-- the same objects, the same waits and APCs of threads, and the same waits that a call may end
pub record Alike (O T : ℕ → Type 0) (W : Wait → Type 0) (E : ℕ → Type 0) (x y : State) : Type 0 where
  pub long : length y.objects ≡ length x.objects
  pub now : y.now ≡ x.now
  pub posts : length y.apcs ≡ length x.apcs
  pub objects : (o : ℕ) → O o → object_at y.objects o ≡ object_at x.objects o
  pub waits : (v : ℕ) → T v → fin.get y.waits v ≡ fin.get x.waits v
  pub apcs : (v : ℕ) → T v → apc_queue_of y.apcs v ≡ apc_queue_of x.apcs v
  pub hands : (v : ℕ) → T v → slice_index_or y.handing v false ≡ slice_index_or x.handing v false
  pub owned : (v o : ℕ) → E v → belongs v (object_at y.objects o) ≡ belongs v (object_at x.objects o)
  pub there : (v : ℕ) (w : Wait) → W w → fin.get x.waits v ≡ Some w → fin.get y.waits v ≡ Some w
  pub back : (v : ℕ) (w : Wait) → W w → fin.get y.waits v ≡ Some w → fin.get x.waits v ≡ Some w
  pub queues : (ns : List ℕ) → AlikeInBoth (sequence x ns) (sequence y ns) x y

pub alike_back : (O T : ℕ → Type 0) (W : Wait → Type 0) (E : ℕ → Type 0) (x y : State) → Alike O T W E x y → Alike O T W E y x
alike_back O T W E x y alike = record {
  long = sym alike.long;
  now = sym alike.now;
  posts = sym alike.posts;
  objects = λ o m. sym (alike.objects o m);
  waits = λ v m. sym (alike.waits v m);
  apcs = λ v m. sym (alike.apcs v m);
  hands = λ v m. sym (alike.hands v m);
  owned = λ v o m. sym (alike.owned v o m);
  there = alike.back;
  back = alike.there;
  queues = λ ns p ix iy. sym (alike.queues ns p iy ix);
}

pub alike_itself : (O T : ℕ → Type 0) (W : Wait → Type 0) (E : ℕ → Type 0) (x : State) → Alike O T W E x x
alike_itself O T W E x = record {
  long = refl;
  now = refl;
  posts = refl;
  objects = λ o m. refl;
  waits = λ v m. refl;
  apcs = λ v m. refl;
  hands = λ v m. refl;
  owned = λ v o m. refl;
  there = λ v w n e. e;
  back = λ v w n e. e;
  queues = λ ns p ix iy. refl;
}

-- ---- what parts leave

long_done : (p : Part) (x : State) → length (done p x).objects ≡ length x.objects
long_done (Changes h f) x = length-set x.objects h (f (object_at x.objects h))
long_done (Gets t hs) x = long_each x.objects t hs
long_done _ x = refl

pub long_along : (ps : List Part) (x : State) → length (all_done ps x).objects ≡ length x.objects
long_along [] x = refl
long_along (p ∷ ps) x = long_along ps (done p x) ∙ long_done p x

now_done : (p : Part) (x : State) → (done p x).now ≡ x.now
now_done (Changes h f) x = refl
now_done _ x = refl

now_along : (ps : List Part) (x : State) → (all_done ps x).now ≡ x.now
now_along [] x = refl
now_along (p ∷ ps) x = now_along ps (done p x) ∙ now_done p x

long_withdrawn : (qs : List (List Queued)) (h : ℕ) → length (withdrawn qs h) ≡ length qs
long_withdrawn [] h = refl
long_withdrawn (l ∷ qs) h = ap (λ (n : ℕ). suc n) (long_withdrawn qs h)

posts_done : (p : Part) (x : State) → length (done p x).apcs ≡ length x.apcs
posts_done (Posts t q) x = length-set x.apcs t (apc_queue_of x.apcs t ++ q ∷ [])
posts_done (Withdraws h) x = long_withdrawn x.apcs h
posts_done (Drops t l) x = length-set x.apcs t l
posts_done _ x = refl

posts_along : (ps : List Part) (x : State) → length (all_done ps x).apcs ≡ length x.apcs
posts_along [] x = refl
posts_along (p ∷ ps) x = posts_along ps (done p x) ∙ posts_done p x

object_done : (p : Part) (x : State) (o : ℕ) → (OnObject p o → ⊥) → object_at (done p x).objects o ≡ object_at x.objects o
object_done (Changes h f) x o none = get_or-set_other x.objects h o (f (object_at x.objects h)) (Thread false) (λ e. none (sym e))
object_done (Gets t hs) x o none = each_leaves x.objects t o hs (none_equal o hs (λ i m e. none (subst (λ (j : ℕ). Contains hs j) e m)))
object_done _ x o none = refl

pub object_along : (ps : List Part) (x : State) (o : ℕ) → (SomeOnObject ps o → ⊥) → object_at (all_done ps x).objects o ≡ object_at x.objects o
object_along [] x o none = refl
object_along (p ∷ ps) x o none = object_along ps (done p x) o (λ m. none (inr m)) ∙ object_done p x o (λ m. none (inl m))

get_inserted : (m : fin.FinMap nat_cmp Wait) (t v : ℕ) (w : Wait) → v ≢ t → fin.get (fin.insert m t w) v ≡ fin.get m v
get_inserted m t v w differ = fin.get-insert nat_cmp_total m t w v ∙ ap (λ (b : Bool). cond b (Some w) (fin.get m v)) (apart v t differ)

wait_done : (s : State) (p : Part) (x : State) (v : ℕ) → (OnThread s p v → ⊥) → fin.get (done p x).waits v ≡ fin.get x.waits v
wait_done s (Leaves t) x v none = get_other x.waits t v (λ e. none (sym e))
wait_done s (Joins t w) x v none = get_inserted x.waits t v w (λ e. none (sym e))
wait_done s _ x v none = refl

pub wait_along : (s : State) (ps : List Part) (x : State) (v : ℕ) → (SomeOnThread s ps v → ⊥) → fin.get (all_done ps x).waits v ≡ fin.get x.waits v
wait_along s [] x v none = refl
wait_along s (p ∷ ps) x v none = wait_along s ps (done p x) v (λ m. none (inr m)) ∙ wait_done s p x v (λ m. none (inl m))

-- the APCs of a thread that has none of this timer
queue_withdrawn : (qs : List (List Queued)) (h v : ℕ) → apc_queue_of (withdrawn qs h) v ≡ without_from h (apc_queue_of qs v)
queue_withdrawn [] h v = refl
queue_withdrawn (l ∷ qs) h zero = refl
queue_withdrawn (l ∷ qs) h (suc v) = queue_withdrawn qs h v

apcs_done : (s : State) (p : Part) (x : State) (v : ℕ) → apc_queue_of x.apcs v ≡ apc_queue_of s.apcs v → (OnThread s p v → ⊥) → apc_queue_of (done p x).apcs v ≡ apc_queue_of s.apcs v
apcs_done s (Posts t q) x v same none = get_or-set_other x.apcs t v (apc_queue_of x.apcs t ++ q ∷ []) [] (λ e. none (sym e)) ∙ same
apcs_done s (Withdraws h) x v same none = queue_withdrawn x.apcs h v ∙ (ap (λ (l : List Queued). without_from h l) same ∙ none_from h (apc_queue_of s.apcs v) none)
apcs_done s (Drops t l) x v same none = get_or-set_other x.apcs t v l [] (λ e. none (sym e)) ∙ same
apcs_done s _ x v same none = same

apcs_along : (s : State) (ps : List Part) (x : State) (v : ℕ) → apc_queue_of x.apcs v ≡ apc_queue_of s.apcs v → (SomeOnThread s ps v → ⊥) → apc_queue_of (all_done ps x).apcs v ≡ apc_queue_of s.apcs v
apcs_along s [] x v same none = same
apcs_along s (p ∷ ps) x v same none = apcs_along s ps (done p x) v (apcs_done s p x v same (λ m. none (inl m))) (λ m. none (inr m))

-- whether a thread may take its APCs
hands_done : (s : State) (p : Part) (x : State) (v : ℕ) → (OnThread s p v → ⊥) → slice_index_or (done p x).handing v false ≡ slice_index_or x.handing v false
hands_done s (Hands t may) x v none = get_or-set_other x.handing t v may false (λ e. none (sym e))
hands_done s _ x v none = refl

hands_along : (s : State) (ps : List Part) (x : State) (v : ℕ) → (SomeOnThread s ps v → ⊥) → slice_index_or (all_done ps x).handing v false ≡ slice_index_or x.handing v false
hands_along s [] x v none = refl
hands_along s (p ∷ ps) x v none = hands_along s ps (done p x) v (λ m. none (inr m)) ∙ hands_done s p x v (λ m. none (inl m))

-- a wait that pends after them pended before, or each of its objects is touched
born_of : (p : Part) (x : State) (t : ℕ) (w : Wait) → fin.get (done p x).waits t ≡ Some w → (fin.get x.waits t ≡ Some w) ⊎ ((o : ℕ) → Contains w.objects o → OnObject p o)
born_of (Leaves u) x t w e = inl (get_removed x.waits u t w e).1
born_of (Joins u v) x t w e = elim (cases_eq t u) [
  | inl same ↦ inr (λ o m. subst (λ (z : Wait). Contains z.objects o) (sym (one same)) m)
  | inr differs ↦ inl (sym (get_inserted x.waits u t v differs) ∙ e)
]
  where
    one : t ≡ u → v ≡ w
    one same =
        let here : Some v ≡ Some w = sym (fin.get-insert nat_cmp_total x.waits u v t ∙ ap (λ (b : Bool). cond b (Some v) (fin.get x.waits t)) (tied t u same)) ∙ e in
        cc
born_of _ x t w e = inl e

born : (ps : List Part) (x : State) (t : ℕ) (w : Wait) → fin.get (all_done ps x).waits t ≡ Some w → (fin.get x.waits t ≡ Some w) ⊎ ((o : ℕ) → Contains w.objects o → SomeOnObject ps o)
born [] x t w e = inl e
born (p ∷ ps) x t w e = elim (born ps (done p x) t w e) [
  | inl before ↦ elim (born_of p x t w before) [ inl it ↦ inl it | inr touched ↦ inr (λ o m. inl (touched o m)) ]
  | inr touched ↦ inr (λ o m. inr (touched o m))
]

find_last : (p : ℕ → Bool) (q : List ℕ) (u : ℕ) → p u ≡ false → find p (q ++ u ∷ []) ≡ find p q
find_last p [] u e = ap (λ (b : Bool). if b then Some u else None) e
find_last p (x ∷ q) u e = ap (λ (o : Option ℕ). if p x then Some x else o) (find_last p q u e)

queue_done : (a : Part) (x : State) (p : ℕ → Bool) → ((v : ℕ) → Moves a v → p v ≡ false) → (n : ℕ) → find p ((done a x).queues n) ≡ find p (x.queues n)
queue_done (Leaves t) x p idle n = find_others p t (x.queues n) (idle t refl)
queue_done (Joins t w) x p idle n = go (wait_names w n)
  where
    go : (b : Bool) → find p (if b then x.queues n ++ t ∷ [] else x.queues n) ≡ find p (x.queues n)
    go true = find_last p (x.queues n) t (idle t refl)
    go false = refl
queue_done _ x p idle n = refl

queue_along : (ps : List Part) (x : State) (p : ℕ → Bool) → ((v : ℕ) → SomeMoves ps v → p v ≡ false) → (n : ℕ) → find p ((all_done ps x).queues n) ≡ find p (x.queues n)
queue_along [] x p idle n = refl
queue_along (a ∷ ps) x p idle n = queue_along ps (done a x) p (λ v m. idle v (inr m)) n ∙ queue_done a x p (λ v m. idle v (inl m)) n

-- each thread whose wait begins or ends by these parts is idle before or after
abbrev pub AreIdle : List Part → State → Type 0
AreIdle ps s = (v : ℕ) → SomeMoves ps v → (pends s v ≡ false) ⊎ (pends (all_done ps s) v ≡ false)

-- parts that touch no such object and no such thread
strange_set : (xs : List Object) (h o : ℕ) (f : Object → Object) (v : ℕ) → ((x : Object) → belongs v x ≡ false → belongs v (f x) ≡ false) → belongs v (object_at xs o) ≡ false → belongs v (object_at (with_object xs h f) o) ≡ false
strange_set [] h o f v strange e = e
strange_set (x ∷ xs) zero zero f v strange e = strange x e
strange_set (x ∷ xs) zero (suc o) f v strange e = e
strange_set (x ∷ xs) (suc h) zero f v strange e = e
strange_set (x ∷ xs) (suc h) (suc o) f v strange e = strange_set xs h o f v strange e

-- who takes an object has it
strange_taken : (v t : ℕ) → v ≢ t → (o : Object) → belongs v o ≡ false → belongs v (taken o t) ≡ false
strange_taken v t differs (Event manual set) e = e
strange_taken v t differs (Semaphore count maximum) e = e
strange_taken v t differs (Mutex None depth abandoned) e = same_no t v (λ same. differs (sym same))
strange_taken v t differs (Mutex (Some owner) depth abandoned) e = e
strange_taken v t differs (Timer manual set None) e = e
strange_taken v t differs (Timer manual set (Some armed)) e = e
strange_taken v t differs (Thread ended) e = e
strange_taken v t differs Gone e = e

strange_each : (xs : List Object) (t : ℕ) (hs : List ℕ) (o v : ℕ) → v ≢ t → belongs v (object_at xs o) ≡ false → belongs v (object_at (take_each xs t hs) o) ≡ false
strange_each xs t [] o v differs e = e
strange_each xs t (h ∷ hs) o v differs e = strange_each (take_at xs t h) t hs o v differs (strange_set xs h o (λ x. taken x t) v (strange_taken v t differs) e)

strange_done : (p : Part) (x : State) (v o : ℕ) → IsStrange v p → belongs v (object_at x.objects o) ≡ false → belongs v (object_at (done p x).objects o) ≡ false
strange_done (Changes h f) x v o strange e = strange_set x.objects h o f v strange e
strange_done (Gets t hs) x v o strange e = strange_each x.objects t hs o v strange e
strange_done _ x v o strange e = e

strange_along : (ps : List Part) (x : State) (v o : ℕ) → AllStrange v ps → belongs v (object_at x.objects o) ≡ false → belongs v (object_at (all_done ps x).objects o) ≡ false
strange_along [] x v o strange e = e
strange_along (p ∷ ps) x v o strange e = strange_along ps (done p x) v o strange.1 (strange_done p x v o strange.0 e)

-- what belongs to a thread does so after parts that touch none of it and give it nothing
owned_after : (ps : List Part) (x : State) (v o : ℕ) → AllStrange v ps → (belongs v (object_at x.objects o) ≡ true → SomeOnObject ps o → ⊥) → belongs v (object_at (all_done ps x).objects o) ≡ belongs v (object_at x.objects o)
owned_after ps x v o strange apart = go (belongs v (object_at x.objects o)) refl
  where
    go : (b : Bool) → belongs v (object_at x.objects o) ≡ b → belongs v (object_at (all_done ps x).objects o) ≡ b
    go true e = ap (λ (z : Object). belongs v z) (object_along ps x o (apart e)) ∙ e
    go false e = strange_along ps x v o strange e

pub alike_after : (O T : ℕ → Type 0) (W : Wait → Type 0) (E : ℕ → Type 0) (s : State) (ps : List Part) → ((v : ℕ) → E v → AllStrange v ps) → ((v o : ℕ) → E v → belongs v (object_at s.objects o) ≡ true → O o) → ((o : ℕ) → O o → SomeOnObject ps o → ⊥) → ((v : ℕ) → T v → SomeOnThread s ps v → ⊥) → ((w : Wait) → W w → (o : ℕ) × O o × Contains w.objects o) → ((v : ℕ) (w : Wait) → W w → fin.get s.waits v ≡ Some w → T v) → AreIdle ps s → Alike O T W E s (all_done ps s)
alike_after O T W E s ps strange mine os ts named pending idle = record {
  long = long_along ps s;
  now = now_along ps s;
  posts = posts_along ps s;
  objects = λ o m. object_along ps s o (os o m);
  waits = λ v m. wait_along s ps s v (ts v m);
  apcs = λ v m. apcs_along s ps s v refl (ts v m);
  hands = λ v m. hands_along s ps s v (ts v m);
  owned = λ v o m. owned_after ps s v o (strange v m) (λ e. os o (mine v o m e));
  there = λ v w n e. wait_along s ps s v (ts v (pending v w n e)) ∙ e;
  back = λ v w n e. elim (born ps s v w e) [ inl it ↦ it | inr touched ↦ absurd (let it = named w n in os it.0 it.1 (touched it.0 it.2)) ];
  queues = λ ns p ix iy. find_flat p (all_done ps s).queues s.queues ns (λ n. queue_along ps s p (λ v m. elim (idle v m) [ inl i ↦ ix v i | inr i ↦ iy v i ]) n);
}

-- ---- what belongs to another thread

pub not_idle : (s : State) (t : ℕ) (w : Wait) {P : Type 0} → fin.get s.waits t ≡ Some w → pends s t ≡ false → P
not_idle s t w e idle = let h : true ≡ false = sym (ap is_some e) ∙ idle in (cc)

pub pieces_strange : (s : State) (h : ℕ) (ps : List Piece) (v : ℕ) → AreOf s h ps → AllFair v ps → pends s v ≡ false → AllStrange v (in_parts ps)
pieces_strange s h [] v are fair idle = tt
pieces_strange s h (Alters k f ∷ ps) v are fair idle = (fair.0, pieces_strange s h ps v are.1 fair.1 idle)
pieces_strange s h (Ends t hs ∷ ps) v are fair idle =
    ((λ e. not_idle s v are.0.0 (ap (λ (i : ℕ). fin.get s.waits i) e ∙ are.0.1) idle), (tt, (tt, pieces_strange s h ps v are.1 fair.1 idle)))

pub ends_fair : (v : ℕ) (threads : List ℕ) (x y : State) (gs : List Grant) → (grants : Grants threads x gs y) → AllFair v (pieces_of threads x y gs grants)
ends_fair v threads x y [] grants = tt
ends_fair v threads x y (g ∷ gs) grants = (tt, ends_fair v threads (wait_granted x g.thread grants.1) y gs grants.3)

fair_append : (v : ℕ) (ps qs : List Piece) → AllFair v ps → AllFair v qs → AllFair v (ps ++ qs)
fair_append v [] qs fair more = more
fair_append v (p ∷ ps) qs fair more = (fair.0, fair_append v ps qs fair.1 more)

pub set_strange : (v : ℕ) (b : Bool) (o : Object) → belongs v o ≡ false → belongs v (with_set b o) ≡ false
set_strange v b (Event manual set) e = e
set_strange v b (Semaphore count maximum) e = e
set_strange v b (Mutex None depth abandoned) e = e
set_strange v b (Mutex (Some owner) depth abandoned) e = e
set_strange v b (Timer manual set None) e = e
set_strange v b (Timer manual set (Some armed)) e = e
set_strange v b (Thread ended) e = e
set_strange v b Gone e = e

release_strange : (v : ℕ) (n : ℤ) (o : Object) → belongs v o ≡ false → belongs v (released n o) ≡ false
release_strange v n (Event manual set) e = e
release_strange v n (Semaphore count maximum) e = e
release_strange v n (Mutex None depth abandoned) e = e
release_strange v n (Mutex (Some owner) depth abandoned) e = e
release_strange v n (Timer manual set None) e = e
release_strange v n (Timer manual set (Some armed)) e = e
release_strange v n (Thread ended) e = e
release_strange v n Gone e = e

unlock_so : (v : ℕ) (owner : Option ℕ) (depth : ℕ) (abandoned b : Bool) → belongs v (Mutex owner depth abandoned) ≡ false → belongs v (if b then Mutex None 0 false else Mutex owner (depth - 1) abandoned) ≡ false
unlock_so v owner depth abandoned true e = refl
unlock_so v None depth abandoned false e = e
unlock_so v (Some owner) depth abandoned false e = e

unlock_strange : (v : ℕ) (o : Object) → belongs v o ≡ false → belongs v (unlocked o) ≡ false
unlock_strange v (Event manual set) e = e
unlock_strange v (Semaphore count maximum) e = e
unlock_strange v (Mutex owner depth abandoned) e = unlock_so v owner depth abandoned (nat_le depth 1) e
unlock_strange v (Timer manual set None) e = e
unlock_strange v (Timer manual set (Some armed)) e = e
unlock_strange v (Thread ended) e = e
unlock_strange v Gone e = e

signaling_strange : (v : ℕ) (a : Act) (o : Object) → belongs v o ≡ false → belongs v (signaling a o) ≡ false
signaling_strange v (Act.SetEvent h) o e = set_strange v true o e
signaling_strange v (Act.ResetEvent h) o e = set_strange v false o e
signaling_strange v (Act.PulseEvent h) o e = set_strange v true o e
signaling_strange v (Act.ReleaseSemaphore h n) o e = release_strange v n o e
signaling_strange v (Act.ReleaseMutex h) o e = unlock_strange v o e
signaling_strange v _ o e = e

settling_fair : (v : ℕ) (a : Act) → AllFair v (settling a)
settling_fair v (Act.PulseEvent h) = (set_strange v false, tt)
settling_fair v _ = tt

pub whole_fair : (v : ℕ) (a : Act) (ps : List Piece) → AllFair v ps → AllFair v (whole a ps)
whole_fair v a ps fair = (signaling_strange v a, fair_append v ps (settling a) fair (settling_fair v a))

-- a timer that thread t arms does not belong to another
pub routine_strange : (t v : ℕ) (routine : Option (ℕ × ℕ)) → v ≢ t → set_by (routine_for t routine) v ≡ false
routine_strange t v None differs = refl
routine_strange t v (Some r) differs = same_no t v (λ e. differs (sym e))

pub armed_strange : (v : ℕ) (armed : Armed) (o : Object) → set_by armed.routine v ≡ false → belongs v o ≡ false → belongs v (armed_with (Some armed) o) ≡ false
armed_strange v armed (Event manual set) of e = e
armed_strange v armed (Semaphore count maximum) of e = e
armed_strange v armed (Mutex None depth abandoned) of e = e
armed_strange v armed (Mutex (Some owner) depth abandoned) of e = e
armed_strange v armed (Timer manual set was) of e = of
armed_strange v armed (Thread ended) of e = e
armed_strange v armed Gone of e = e

pub unarmed_strange : (v : ℕ) (o : Object) → belongs v o ≡ false → belongs v (armed_with None o) ≡ false
unarmed_strange v (Event manual set) e = e
unarmed_strange v (Semaphore count maximum) e = e
unarmed_strange v (Mutex None depth abandoned) e = e
unarmed_strange v (Mutex (Some owner) depth abandoned) e = e
unarmed_strange v (Timer manual set was) e = refl
unarmed_strange v (Thread ended) e = e
unarmed_strange v Gone e = e

pub setting_strange : (now t : ℕ) (a : Act) (v : ℕ) → v ≢ t → (o : Object) → belongs v o ≡ false → belongs v (setting now t a o) ≡ false
setting_strange now t (Act.SetTimer h due period routine) v differs o e =
    armed_strange v (record { due = due_moment now due; period = unsigned_abs period; routine = routine_for t routine }) (with_set false o) (routine_strange t v routine differs) (set_strange v false o e)
setting_strange now t (Act.CancelTimer h) v differs o e = unarmed_strange v o e
setting_strange now t _ v differs o e = e
