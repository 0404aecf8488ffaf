-- The parts of a step: each changes one list of the state. Parts that touch no object and no thread in common commute.
use Rattle.std.proofs.Common.{◌≡◌, ◌≢◌, ◌⊎◌, inl, inr, ℕ, zero, suc, Bool, true, false, cond, not, ◌||◌, List, [], ◌∷◌, ◌++◌, refl, sym, ap, ◌∙◌, subst, Option, Some, None, Contains}
use Rattle.std.proofs.Math.Path.{fun_ext}
use Rattle.std.specs.Prelude.{slice_set, ◌==◌, if◌then◌else◌}
use Rattle.std.specs.List.{list_any, filter}
use Rattle.std.specs.Cmp.{nat_cmp_total, unsigned_tied}
use Rattle.std.specs.Ordering.{nat_cmp, eq_by_cmp}
use Rattle.std.specs.FinMap as map
use Rattle.std.proofs.lemmas.Bool.{cases_eq, eqb-true}
use Rattle.std.proofs.lemmas.List.{set_comm, get_or-set_other}
use Rattle.nt_machine.proofs.Listing.{same_no}
use Rattle.nt_objects.specs.declared.object.Object.{Object}
use Rattle.nt_tables.specs.declared.handles.Opened.{Opened}
use Rattle.nt_waits.specs.declared.wait.Wait.{Wait}
use Rattle.nt_waits.specs.Waits.{others}
use Rattle.nt_apc.specs.declared.apc.Queued.{Queued}
use Rattle.nt_apc.specs.Queues.{apc_queue_of, pushed, is_from, has_from, without_from, withdrawn}
use Rattle.nt_calls.specs.State.{State, Pending, wait_names, with_handing, pending_too, pending_no_more}
use Rattle.nt_calls.specs.Serving.{take_each}
use Rattle.nt_calls.specs.Change.{at, handle_closed}
use Rattle.nt_apart.specs.Footprint.{belongs}
use Rattle.nt_apart.proofs.Quiet.{changes_commute}
use Rattle.nt_apart.proofs.Waking.{take_all}
use Rattle.nt_apart.proofs.Waits.{none_equal, each_comm, inserts_comm, queue_comm}
use Rattle.nt_apart.proofs.Pieces.{Piece, Alters, Ends, made, all_made, remove_comm, others_comm}
use Rattle.nt_apart.proofs.Apcs.{pushed_comm}
use Rattle.nt_apart.proofs.Timers.{withdrawn_comm}

pub data Part : Type 0 where
  -- an object is changed, or a thread takes some
  Changes : (h : ℕ) → (f : Object → Object) → Part
  Gets : (t : ℕ) → (hs : List ℕ) → Part
  -- whether a thread may take its APCs
  Hands : (t : ℕ) → (may : Bool) → Part
  -- a thread's wait pends no more, or pends from now on
  Leaves : (t : ℕ) → Part
  Joins : (t : ℕ) → (w : Wait) → Part
  -- an APC is queued to a thread, or those of a timer are withdrawn
  Posts : (t : ℕ) → (q : Queued) → Part
  Withdraws : (h : ℕ) → Part
  -- a thread's queue becomes this rest of it
  Drops : (t : ℕ) → (l : List Queued) → Part
  -- a handle is closed
  Closes : (h : ℕ) → Part

abbrev pub done : Part → State → State
done (Changes h f) s = at s h f
done (Gets t hs) s = record s { objects = take_each s.objects t hs }
done (Hands t may) s = with_handing s t may
done (Leaves t) s = pending_no_more s t
done (Joins t w) s = pending_too s t w
done (Posts t q) s = record s { apcs = pushed s.apcs t q }
done (Withdraws h) s = record s { apcs = withdrawn s.apcs h }
done (Drops t l) s = record s { apcs = slice_set s.apcs t l }
done (Closes h) s = handle_closed s h

abbrev pub all_done : List Part → State → State
all_done [] s = s
all_done (p ∷ ps) s = all_done ps (done p s)

-- ---- what a part touches

abbrev pub OnObject : Part → ℕ → Type 0
OnObject (Changes h f) o = h ≡ o
OnObject (Gets t hs) o = Contains hs o
OnObject (Joins t w) o = Contains w.objects o
OnObject (Posts t q) o = q.timer ≡ Some o
OnObject (Withdraws h) o = h ≡ o
OnObject _ o = ⊥

-- (what a timer's APCs are is read of state s)
abbrev pub OnThread : State → Part → ℕ → Type 0
OnThread s (Hands t may) v = t ≡ v
OnThread s (Leaves t) v = t ≡ v
OnThread s (Joins t w) v = t ≡ v
OnThread s (Posts t q) v = t ≡ v
OnThread s (Withdraws h) v = has_from h (apc_queue_of s.apcs v) ≡ true
OnThread s (Drops t l) v = t ≡ v
OnThread s _ v = ⊥

-- whether the thread's wait pends changes
abbrev pub Moves : Part → ℕ → Type 0
Moves (Leaves t) v = t ≡ v
Moves (Joins t w) v = t ≡ v
Moves _ v = ⊥

abbrev pub SomeOnObject : List Part → ℕ → Type 0
SomeOnObject [] o = ⊥
SomeOnObject (p ∷ ps) o = OnObject p o ⊎ SomeOnObject ps o

abbrev pub SomeOnThread : State → List Part → ℕ → Type 0
SomeOnThread s [] v = ⊥
SomeOnThread s (p ∷ ps) v = OnThread s p v ⊎ SomeOnThread s ps v

abbrev pub SomeMoves : List Part → ℕ → Type 0
SomeMoves [] v = ⊥
SomeMoves (p ∷ ps) v = Moves p v ⊎ SomeMoves ps v

-- what is left of a queue has no APC of a timer that the queue had none of in s
abbrev pub KeepsTimers : State → Part → Type 0
KeepsTimers s (Drops t l) = (h : ℕ) → has_from h l ≡ true → has_from h (apc_queue_of s.apcs t) ≡ true
KeepsTimers s _ = Unit {0}

abbrev pub AllKeep : State → List Part → Type 0
AllKeep s [] = Unit {0}
AllKeep s (p ∷ ps) = KeepsTimers s p × AllKeep s ps

-- what thread v does not have is not v's then either
abbrev pub IsStrange : ℕ → Part → Type 0
IsStrange v (Changes h f) = (o : Object) → belongs v o ≡ false → belongs v (f o) ≡ false
IsStrange v (Gets t hs) = v ≢ t
IsStrange v _ = Unit {0}

abbrev pub AllStrange : ℕ → List Part → Type 0
AllStrange v [] = Unit {0}
AllStrange v (p ∷ ps) = IsStrange v p × AllStrange v ps

abbrev pub IsFair : ℕ → Piece → Type 0
IsFair v (Alters h f) = (o : Object) → belongs v o ≡ false → belongs v (f o) ≡ false
IsFair v (Ends t hs) = Unit {0}

abbrev pub AllFair : ℕ → List Piece → Type 0
AllFair v [] = Unit {0}
AllFair v (p ∷ ps) = IsFair v p × AllFair v ps

-- ---- two parts in either order

names_none : (h : ℕ) (ks : List ℕ) → (Contains ks h → ⊥) → list_any (λ n. n == h) ks ≡ false
names_none h ks none = none_equal h ks (λ x m e. none (subst (λ (i : ℕ). Contains ks i) e m))

changes_takes : (s : State) (h u : ℕ) (f : Object → Object) (ks : List ℕ) → (Contains ks h → ⊥) → done (Gets u ks) (done (Changes h f) s) ≡ done (Changes h f) (done (Gets u ks) s)
changes_takes s h u f ks none = ap (λ (os : List Object). record s { objects = os }) (take_all s.objects h f u ks (names_none h ks none))

leaves_leaves : (s : State) (t u : ℕ) → done (Leaves u) (done (Leaves t) s) ≡ done (Leaves t) (done (Leaves u) s)
leaves_leaves s t u =
    ap (λ (m : Pending). record s { waits = m; queues = λ h. others u (others t (s.queues h)) }) (remove_comm s.waits t u)
    ∙ ap (λ (q : ℕ → List ℕ). record s { waits = map.remove (map.remove s.waits u) t; queues = q }) (fun_ext (λ h. others_comm t u (s.queues h)))

one_key : (t u q : ℕ) → eq_by_cmp nat_cmp q u ≡ true → eq_by_cmp nat_cmp q t ≡ true → t ≡ u
one_key t u q x y = sym (eqb-true q t (sym (unsigned_tied q t) ∙ y)) ∙ eqb-true q u (sym (unsigned_tied q u) ∙ x)

remove_insert : (m : Pending) (t u : ℕ) (w : Wait) → t ≢ u → map.insert (map.remove m t) u w ≡ map.remove (map.insert m u w) t
remove_insert m t u w differ = map.same_map nat_cmp_total map.nat_cmp-IsAntisymmetric _ _ each
  where
    pick : (q : ℕ) (a b : Bool) → eq_by_cmp nat_cmp q u ≡ a → eq_by_cmp nat_cmp q t ≡ b → cond a (Some w) (cond b None (map.get m q)) ≡ cond b None (cond a (Some w) (map.get m q))
    pick q true true x y = absurd (differ (one_key t u q x y))
    pick q true false x y = refl
    pick q false true x y = refl
    pick q false false x y = refl

    each : (q : ℕ) → map.get (map.insert (map.remove m t) u w) q ≡ map.get (map.remove (map.insert m u w) t) q
    each q =
        map.get-insert nat_cmp_total (map.remove m t) u w q
        ∙ (ap (λ (o : Option Wait). cond (eq_by_cmp nat_cmp q u) (Some w) o) (map.get-remove nat_cmp_total m t q)
        ∙ (pick q (eq_by_cmp nat_cmp q u) (eq_by_cmp nat_cmp q t) refl refl
        ∙ (ap (λ (o : Option Wait). cond (eq_by_cmp nat_cmp q t) None o) (sym (map.get-insert nat_cmp_total m u w q))
        ∙ sym (map.get-remove nat_cmp_total (map.insert m u w) t q))))

others_last : (t u : ℕ) (q : List ℕ) → t ≢ u → others t (q ++ u ∷ []) ≡ others t q ++ u ∷ []
others_last t u [] differ = ap (λ (b : Bool). if b then [] else u ∷ []) (same_no u t (λ e. differ (sym e)))
others_last t u (x ∷ q) differ = go (x == t) (others_last t u q differ)
  where
    go : (b : Bool) → others t (q ++ u ∷ []) ≡ others t q ++ u ∷ [] → (if b then others t (q ++ u ∷ []) else x ∷ others t (q ++ u ∷ [])) ≡ (if b then others t q else x ∷ others t q) ++ u ∷ []
    go true rest = rest
    go false rest = ap (λ (l : List ℕ). x ∷ l) rest

queue_left : (t u : ℕ) (w : Wait) (q : List ℕ) (h : ℕ) → t ≢ u → (if wait_names w h then others t q ++ u ∷ [] else others t q) ≡ others t (if wait_names w h then q ++ u ∷ [] else q)
queue_left t u w q h differ = go (wait_names w h)
  where
    go : (b : Bool) → (if b then others t q ++ u ∷ [] else others t q) ≡ others t (if b then q ++ u ∷ [] else q)
    go true = sym (others_last t u q differ)
    go false = refl

leaves_joins : (s : State) (t u : ℕ) (w : Wait) → t ≢ u → done (Joins u w) (done (Leaves t) s) ≡ done (Leaves t) (done (Joins u w) s)
leaves_joins s t u w differ =
    ap (λ (m : Pending). record s { waits = m; queues = λ h. if wait_names w h then others t (s.queues h) ++ u ∷ [] else others t (s.queues h) }) (remove_insert s.waits t u w differ)
    ∙ ap (λ (q : ℕ → List ℕ). record s { waits = map.remove (map.insert s.waits u w) t; queues = q }) (fun_ext (λ h. queue_left t u w (s.queues h) h differ))

joins_joins : (s : State) (t u : ℕ) (v w : Wait) → t ≢ u → ((o : ℕ) → Contains v.objects o → Contains w.objects o → ⊥) → done (Joins u w) (done (Joins t v) s) ≡ done (Joins t v) (done (Joins u w) s)
joins_joins s t u v w differ none =
    ap (λ (m : Pending). record s { waits = m; queues = λ h. if wait_names w h then (if wait_names v h then s.queues h ++ t ∷ [] else s.queues h) ++ u ∷ [] else (if wait_names v h then s.queues h ++ t ∷ [] else s.queues h) }) (inserts_comm s.waits t u v w differ)
    ∙ ap (λ (q : ℕ → List ℕ). record s { waits = map.insert (map.insert s.waits u w) t v; queues = q }) (fun_ext (λ h. queue_comm (s.queues h) t u v w h (λ o m. names_none o w.objects (none o m))))

posts_posts : (s : State) (t u : ℕ) (p q : Queued) → t ≢ u → done (Posts u q) (done (Posts t p) s) ≡ done (Posts t p) (done (Posts u q) s)
posts_posts s t u p q differ = ap (λ (qs : List (List Queued)). record s { apcs = qs }) (pushed_comm s.apcs t u p q differ)

filter_last : (p : Queued → Bool) (l : List Queued) (q : Queued) → p q ≡ true → filter p (l ++ q ∷ []) ≡ filter p l ++ q ∷ []
filter_last p [] q e = ap (λ (b : Bool). if b then q ∷ [] else []) e
filter_last p (x ∷ l) q e = go (p x) (filter_last p l q e)
  where
    go : (b : Bool) → filter p (l ++ q ∷ []) ≡ filter p l ++ q ∷ [] → (if b then x ∷ filter p (l ++ q ∷ []) else filter p (l ++ q ∷ [])) ≡ (if b then x ∷ filter p l else filter p l) ++ q ∷ []
    go true rest = ap (λ (xs : List Queued). x ∷ xs) rest
    go false rest = rest

withdrawn_pushed : (qs : List (List Queued)) (t h : ℕ) (q : Queued) → is_from h q.timer ≡ false → withdrawn (pushed qs t q) h ≡ pushed (withdrawn qs h) t q
withdrawn_pushed [] t h q other = refl
withdrawn_pushed (l ∷ qs) zero h q other = ap (λ (z : List Queued). z ∷ withdrawn qs h) (filter_last (λ x. not (is_from h x.timer)) l q (ap not other))
withdrawn_pushed (l ∷ qs) (suc t) h q other = ap (λ (zs : List (List Queued)). without_from h l ∷ zs) (withdrawn_pushed qs t h q other)

posts_withdraws : (s : State) (t h : ℕ) (q : Queued) → is_from h q.timer ≡ false → done (Withdraws h) (done (Posts t q) s) ≡ done (Posts t q) (done (Withdraws h) s)
posts_withdraws s t h q other = ap (λ (qs : List (List Queued)). record s { apcs = qs }) (withdrawn_pushed s.apcs t h q other)

-- an APC of another timer, or of none
not_from : (h : ℕ) (o : Option ℕ) → (o ≡ Some h → ⊥) → is_from h o ≡ false
not_from h None none = refl
not_from h (Some x) none = same_no x h (λ e. none (ap (λ (i : ℕ). Some i) e))

pub closes_closes : (hs : List (Option Opened)) (h k : ℕ) → slice_set (slice_set hs h None) k None ≡ slice_set (slice_set hs k None) h None
closes_closes hs h k = elim (cases_eq h k) [
  | inl same ↦ subst (λ (n : ℕ). slice_set (slice_set hs h None) n None ≡ slice_set (slice_set hs n None) h None) same refl
  | inr differs ↦ set_comm hs h k None None differs
]

pub none_from : (h : ℕ) (l : List Queued) → (has_from h l ≡ true → ⊥) → without_from h l ≡ l
none_from h [] none = refl
none_from h (q ∷ l) none = go (is_from h q.timer) refl (none_from h l)
  where
    go : (b : Bool) → is_from h q.timer ≡ b → ((has_from h l ≡ true → ⊥) → without_from h l ≡ l) → (if not b then q ∷ without_from h l else without_from h l) ≡ q ∷ l
    go true is rest = absurd (none (ap (λ (b : Bool). b || has_from h l) is))
    go false is rest = ap (λ (z : List Queued). q ∷ z) (rest (λ e. none (ap (λ (b : Bool). b || has_from h l) is ∙ e)))

drops_posts : (s : State) (t u : ℕ) (q : Queued) (l : List Queued) → t ≢ u → done (Posts u q) (done (Drops t l) s) ≡ done (Drops t l) (done (Posts u q) s)
drops_posts s t u q l differ =
    ap (λ (z : List Queued). record s { apcs = slice_set (slice_set s.apcs t l) u (z ++ q ∷ []) }) (get_or-set_other s.apcs t u l [] (λ e. differ (sym e)))
    ∙ ap (λ (qs : List (List Queued)). record s { apcs = qs }) (set_comm s.apcs t u l (apc_queue_of s.apcs u ++ q ∷ []) differ)

withdrawn_set : (qs : List (List Queued)) (t h : ℕ) (l : List Queued) → without_from h l ≡ l → withdrawn (slice_set qs t l) h ≡ slice_set (withdrawn qs h) t l
withdrawn_set [] t h l none = refl
withdrawn_set (x ∷ qs) zero h l none = ap (λ (z : List Queued). z ∷ withdrawn qs h) none
withdrawn_set (x ∷ qs) (suc t) h l none = ap (λ (zs : List (List Queued)). without_from h x ∷ zs) (withdrawn_set qs t h l none)

drops_withdraws : (s : State) (t h : ℕ) (l : List Queued) → (has_from h l ≡ true → ⊥) → done (Withdraws h) (done (Drops t l) s) ≡ done (Drops t l) (done (Withdraws h) s)
drops_withdraws s t h l none = ap (λ (qs : List (List Queued)). record s { apcs = qs }) (withdrawn_set s.apcs t h l (none_from h l none))

pub parts_commute : (r : State) (p q : Part) (s : State) → ((o : ℕ) → OnObject p o → OnObject q o → ⊥) → ((v : ℕ) → OnThread r p v → OnThread r q v → ⊥) → KeepsTimers r p → KeepsTimers r q → done q (done p s) ≡ done p (done q s)
parts_commute r (Changes h f) (Changes k g) s os ts kp kq = sym (changes_commute s h k f g (λ e. os k e refl))
parts_commute r (Changes h f) (Gets u ks) s os ts kp kq = changes_takes s h u f ks (λ m. os h refl m)
parts_commute r (Gets t hs) (Changes k g) s os ts kp kq = sym (changes_takes s k t g hs (λ m. os k m refl))
parts_commute r (Gets t hs) (Gets u ks) s os ts kp kq = ap (λ (x : List Object). record s { objects = x }) (each_comm s.objects t u hs ks (λ x y m n e. os y (subst (λ (i : ℕ). Contains hs i) e m) n))
parts_commute r (Hands t a) (Hands u b) s os ts kp kq = ap (λ (x : List Bool). record s { handing = x }) (set_comm s.handing t u a b (λ e. ts u e refl))
parts_commute r (Leaves t) (Leaves u) s os ts kp kq = leaves_leaves s t u
parts_commute r (Leaves t) (Joins u w) s os ts kp kq = leaves_joins s t u w (λ e. ts u e refl)
parts_commute r (Joins t v) (Leaves u) s os ts kp kq = sym (leaves_joins s u t v (λ e. ts u (sym e) refl))
parts_commute r (Joins t v) (Joins u w) s os ts kp kq = joins_joins s t u v w (λ e. ts u e refl) os
parts_commute r (Posts t p) (Posts u q) s os ts kp kq = posts_posts s t u p q (λ e. ts u e refl)
parts_commute r (Posts t q) (Withdraws h) s os ts kp kq = posts_withdraws s t h q (not_from h q.timer (λ e. os h e refl))
parts_commute r (Withdraws h) (Posts t q) s os ts kp kq = sym (posts_withdraws s t h q (not_from h q.timer (λ e. os h refl e)))
parts_commute r (Withdraws h) (Withdraws k) s os ts kp kq = ap (λ (qs : List (List Queued)). record s { apcs = qs }) (withdrawn_comm s.apcs k h)
parts_commute r (Drops t l) (Drops u m) s os ts kp kq = ap (λ (qs : List (List Queued)). record s { apcs = qs }) (set_comm s.apcs t u l m (λ e. ts u e refl))
parts_commute r (Drops t l) (Posts u q) s os ts kp kq = drops_posts s t u q l (λ e. ts u e refl)
parts_commute r (Posts t q) (Drops u l) s os ts kp kq = sym (drops_posts s u t q l (λ e. ts u (sym e) refl))
parts_commute r (Drops t l) (Withdraws h) s os ts kp kq = drops_withdraws s t h l (λ e. ts t refl (kp h e))
parts_commute r (Withdraws h) (Drops t l) s os ts kp kq = sym (drops_withdraws s t h l (λ e. ts t (kq h e) refl))
parts_commute r (Closes h) (Closes k) s os ts kp kq = ap (λ (hs : List (Option Opened)). record s { handles = hs }) (closes_closes s.handles h k)
parts_commute r _ _ s os ts kp kq = refl

pub past : (r : State) (p : Part) (qs : List Part) (s : State) → ((o : ℕ) → OnObject p o → SomeOnObject qs o → ⊥) → ((v : ℕ) → OnThread r p v → SomeOnThread r qs v → ⊥) → KeepsTimers r p → AllKeep r qs → all_done qs (done p s) ≡ done p (all_done qs s)
past r p [] s os ts kp kq = refl
past r p (q ∷ qs) s os ts kp kq =
    ap (λ (x : State). all_done qs x) (parts_commute r p q s (λ o m n. os o m (inl n)) (λ v m n. ts v m (inl n)) kp kq.0)
    ∙ past r p qs (done q s) (λ o m n. os o m (inr n)) (λ v m n. ts v m (inr n)) kp kq.1

pub lists_commute : (r : State) (ps qs : List Part) (s : State) → ((o : ℕ) → SomeOnObject ps o → SomeOnObject qs o → ⊥) → ((v : ℕ) → SomeOnThread r ps v → SomeOnThread r qs v → ⊥) → AllKeep r ps → AllKeep r qs → all_done qs (all_done ps s) ≡ all_done ps (all_done qs s)
lists_commute r [] qs s os ts kp kq = refl
lists_commute r (p ∷ ps) qs s os ts kp kq =
    lists_commute r ps qs (done p s) (λ o m n. os o (inr m) n) (λ v m n. ts v (inr m) n) kp.1 kq
    ∙ ap (λ (x : State). all_done ps x) (past r p qs s (λ o m n. os o (inl m) n) (λ v m n. ts v (inl m) n) kp.0 kq)

-- ---- a piece in parts

abbrev pub in_parts : List Piece → List Part
in_parts [] = []
in_parts (Alters h f ∷ ps) = Changes h f ∷ in_parts ps
in_parts (Ends t hs ∷ ps) = Gets t hs ∷ Hands t false ∷ Leaves t ∷ in_parts ps

pub pieces_keep : (s : State) (ps : List Piece) → AllKeep s (in_parts ps)
pieces_keep s [] = tt
pieces_keep s (Alters h f ∷ ps) = (tt, pieces_keep s ps)
pieces_keep s (Ends t hs ∷ ps) = (tt, (tt, (tt, pieces_keep s ps)))

pub in_parts_is : (ps : List Piece) (s : State) → all_made ps s ≡ all_done (in_parts ps) s
in_parts_is [] s = refl
in_parts_is (Alters h f ∷ ps) s = in_parts_is ps (at s h f)
in_parts_is (Ends t hs ∷ ps) s = in_parts_is ps (made (Ends t hs) s)
