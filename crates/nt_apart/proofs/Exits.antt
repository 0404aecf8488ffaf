-- The exit of a thread is made of the changes of what is its own, and the pieces of the waits that these end.
use Rattle.std.proofs.Common.{◌≡◌, ◌⊎◌, ◌<◌, inl, inr, ℕ, zero, suc, Bool, true, false, ◌||◌, List, [], ◌∷◌, ◌++◌, length, refl, sym, ap, ◌∙◌, subst, Some, None, is_some, Contains, arith}
use Rattle.std.specs.Prelude.{slice_set, map, ◌==◌, if◌then◌else◌}
use Rattle.std.specs.List.{list_any}
use Rattle.std.specs.FinMap.{get}
use Rattle.std.proofs.lemmas.Bool.{false≢true}
use Rattle.std.proofs.lemmas.List.{length-set}
use Rattle.nt_status.proofs.Lists.{contains_first, contains_later, contains_cases, contains_none}
use Rattle.nt_machine.proofs.Accepting.{Grants-calm}
use Rattle.nt_machine.proofs.Listing.{same_yes}
use Rattle.nt_objects.specs.declared.object.Object.{Object}
use Rattle.nt_objects.specs.declared.object.Object.TheVariants.{Event, Semaphore, Mutex, Timer, Thread, Gone}
use Rattle.nt_objects.specs.Object.{abandoned_by, unset_by, set_by}
use Rattle.nt_waits.specs.declared.wait.Wait.{Wait}
use Rattle.nt_apc.specs.declared.apc.Queued.{Queued}
use Rattle.nt_apc.specs.Queues.{has_apc, cleared}
use Rattle.nt_calls.specs.declared.call.Call.{Call}
use Rattle.nt_calls.specs.declared.call.Reply.{Reply}
use Rattle.nt_calls.specs.declared.call.Grant.{Grant}
use Rattle.nt_calls.specs.Rising.{AreRising}
use Rattle.nt_calls.specs.State.{State, object_at, with_object, wait_names, pends}
use Rattle.nt_calls.specs.Serving.{IsServed, Serve, IsAlerted, IsChanged, fits, sequence}
use Rattle.nt_calls.specs.Change.{at, exited}
use Rattle.nt_calls.specs.Steps.{Step}
use Rattle.nt_apart.specs.Apart.{IsQuiet, IsInReach}
use Rattle.nt_apart.specs.Footprint.{belongs, ends_with, WaitsFor, TouchesObject}
use Rattle.nt_apart.proofs.Quiet.{alert_none, none_to_alert, rising_along}
use Rattle.nt_apart.proofs.Waits.{fits_agree}
use Rattle.nt_apart.proofs.Pieces.{Piece, Alters, Ends, all_made, alerted_before, long_each}
use Rattle.nt_apart.proofs.Reach.{names_some, AreEnds, IsBesideAll, change_agree, each_agree, is_named, pieces_of, source_is, granted_all, due_all, undue_wait}
use Rattle.nt_apart.proofs.Timers.{both_true}
use Rattle.nt_apart.proofs.Parts.{Part, Changes, Gets, Hands, Leaves, Joins, Posts, Withdraws, Drops, Closes, AllKeep, AllStrange, done, all_done, SomeOnObject, SomeOnThread, SomeMoves, in_parts, in_parts_is, pieces_keep}
use Rattle.nt_apart.proofs.Alike.{object_along, long_along, not_idle}
use Rattle.nt_apart.proofs.PartsOfCalls.{AlikeFor, IsFrom, IsMade, left_idle}
use Rattle.nt_apart.proofs.Swaps.{never, done_append, objects_append, threads_append, moves_append, keep_append, strange_append}

-- ---- what an exit changes

-- the object, once its thread has ended
abbrev leave : ℕ → Object → Object
leave t o = unset_by t (abandoned_by t o)

leave_other : (t : ℕ) (o : Object) → belongs t o ≡ false → leave t o ≡ o
leave_other t (Event manual set) e = refl
leave_other t (Semaphore count maximum) e = refl
leave_other t (Mutex None depth abandoned) e = refl
leave_other t (Mutex (Some owner) depth abandoned) e = ap (λ (b : Bool). unset_by t (if b then Mutex None 0 true else Mutex (Some owner) depth abandoned)) e
leave_other t (Timer manual set None) e = refl
leave_other t (Timer manual set (Some armed)) e = ap (λ (b : Bool). if b then Timer manual set None else Timer manual set (Some armed)) e
leave_other t (Thread ended) e = refl
leave_other t Gone e = refl

leave_strange : (v t : ℕ) (o : Object) → belongs v o ≡ false → belongs v (leave t o) ≡ false
leave_strange v t (Event manual set) e = e
leave_strange v t (Semaphore count maximum) e = e
leave_strange v t (Mutex None depth abandoned) e = e
leave_strange v t (Mutex (Some owner) depth abandoned) e = go (owner == t)
  where
    go : (b : Bool) → belongs v (unset_by t (if b then Mutex None 0 true else Mutex (Some owner) depth abandoned)) ≡ false
    go true = refl
    go false = e
leave_strange v t (Timer manual set None) e = e
leave_strange v t (Timer manual set (Some armed)) e = go (set_by armed.routine t)
  where
    go : (b : Bool) → belongs v (if b then Timer manual set None else Timer manual set (Some armed)) ≡ false
    go true = refl
    go false = e
leave_strange v t (Thread ended) e = e
leave_strange v t Gone e = e

-- the numbers of the objects that belong to t
abbrev begun_by : Bool → List ℕ → List ℕ
begun_by true ns = zero ∷ ns
begun_by false ns = ns

abbrev sucs : List ℕ → List ℕ
sucs [] = []
sucs (n ∷ ns) = suc n ∷ sucs ns

abbrev owns : ℕ → List Object → List ℕ
owns t [] = []
owns t (o ∷ os) = begun_by (belongs t o) (sucs (owns t os))

abbrev leaving : ℕ → List ℕ → List Part
leaving t [] = []
leaving t (n ∷ ns) = Changes n (leave t) ∷ leaving t ns

abbrev ending : ℕ → List Part
ending t = Changes t (λ _. Thread true) ∷ Drops t [] ∷ []

abbrev exiting : ℕ → List ℕ → List Part
exiting t ns = leaving t ns ++ ending t

put : ℕ → List ℕ → List Object → List Object
put t [] os = os
put t (n ∷ ns) os = put t ns (with_object os n (leave t))

put_sucs : (t : ℕ) (ns : List ℕ) (o : Object) (os : List Object) → put t (sucs ns) (o ∷ os) ≡ o ∷ put t ns os
unfolding put
put_sucs t [] o os = refl
put_sucs t (n ∷ ns) o os = put_sucs t ns o (with_object os n (leave t))

put_is : (t : ℕ) (os : List Object) → put t (owns t os) os ≡ map (λ o. unset_by t (abandoned_by t o)) os
unfolding put
put_is t [] = refl
put_is t (o ∷ os) = go (belongs t o) refl (put_is t os)
  where
    go : (b : Bool) → belongs t o ≡ b → put t (owns t os) os ≡ map (λ o. unset_by t (abandoned_by t o)) os → put t (begun_by b (sucs (owns t os))) (o ∷ os) ≡ leave t o ∷ map (λ o. unset_by t (abandoned_by t o)) os
    go true is rest = put_sucs t (owns t os) (leave t o) os ∙ ap (λ (xs : List Object). leave t o ∷ xs) rest
    go false is rest = put_sucs t (owns t os) o os ∙ (ap (λ (xs : List Object). o ∷ xs) rest ∙ ap (λ (x : Object). x ∷ map (λ o. unset_by t (abandoned_by t o)) os) (sym (leave_other t o is)))

leaving_is : (t : ℕ) (ns : List ℕ) (z : State) → all_done (leaving t ns) z ≡ record z { objects = put t ns z.objects }
unfolding put
leaving_is t [] z = refl
leaving_is t (n ∷ ns) z = leaving_is t ns (at z n (leave t))

exited_is : (z : State) (t : ℕ) → exited z t ≡ all_done (exiting t (owns t z.objects)) z
exited_is z t =
    sym
    (done_append (leaving t (owns t z.objects)) (ending t) z
    ∙ (ap (λ (x : State). all_done (ending t) x) (leaving_is t (owns t z.objects) z)
    ∙ ap (λ (os : List Object). record z { objects = slice_set os t (Thread true); apcs = cleared z.apcs t }) (put_is t z.objects)))

owns_alike : (t : ℕ) (ys xs : List Object) → length ys ≡ length xs → ((o : ℕ) → belongs t (object_at ys o) ≡ belongs t (object_at xs o)) → owns t ys ≡ owns t xs
owns_alike t [] [] long same = refl
owns_alike t [] (x ∷ xs) long same = absurd (omega (arith, long))
owns_alike t (y ∷ ys) [] long same = absurd (omega (arith, long))
owns_alike t (y ∷ ys) (x ∷ xs) long same =
    ap (λ (b : Bool). begun_by b (sucs (owns t ys))) (same zero)
    ∙ ap (λ (ns : List ℕ). begun_by (belongs t x) (sucs ns)) (owns_alike t ys xs (omega (arith, long)) (λ o. same (suc o)))

-- ---- what its parts touch

on_sucs : (t : ℕ) (ns : List ℕ) (o : ℕ) → SomeOnObject (leaving t (sucs ns)) o → (m : ℕ) × (o ≡ suc m) × SomeOnObject (leaving t ns) m
on_sucs t [] o m = absurd m
on_sucs t (n ∷ ns) o (inl e) = (n, sym e, inl refl)
on_sucs t (n ∷ ns) o (inr m) = let later = on_sucs t ns o m in (later.0, later.1, inr later.2)

on_leaving : (t : ℕ) (os : List Object) (o : ℕ) → SomeOnObject (leaving t (owns t os)) o → belongs t (object_at os o) ≡ true
on_leaving t [] o m = absurd m
on_leaving t (x ∷ os) o m = go (λ i n. on_leaving t os i n) (belongs t x) refl m
  where
    later : ((i : ℕ) → SomeOnObject (leaving t (owns t os)) i → belongs t (object_at os i) ≡ true) → SomeOnObject (leaving t (sucs (owns t os))) o → belongs t (object_at (x ∷ os) o) ≡ true
    later rest n = let it = on_sucs t (owns t os) o n in ap (λ (i : ℕ). belongs t (object_at (x ∷ os) i)) it.1 ∙ rest it.0 it.2

    go : ((i : ℕ) → SomeOnObject (leaving t (owns t os)) i → belongs t (object_at os i) ≡ true) → (b : Bool) → belongs t x ≡ b → SomeOnObject (leaving t (begun_by b (sucs (owns t os)))) o → belongs t (object_at (x ∷ os) o) ≡ true
    go rest true is (inl e) = ap (λ (i : ℕ). belongs t (object_at (x ∷ os) i)) (sym e) ∙ is
    go rest true is (inr n) = later rest n
    go rest false is n = later rest n

or_last : (b c : Bool) → c ≡ true → (b || c) ≡ true
or_last true c e = refl
or_last false c e = e

on_exiting : (t : ℕ) (os : List Object) (o : ℕ) → SomeOnObject (exiting t (owns t os)) o → ((o == t) || belongs t (object_at os o)) ≡ true
on_exiting t os o m = elim (objects_append (leaving t (owns t os)) (ending t) o m) [
  | inl n ↦ or_last (o == t) (belongs t (object_at os o)) (on_leaving t os o n)
  | inr n ↦ elim n [
    | inl e ↦ ap (λ (i : ℕ). (i == t) || belongs t (object_at os i)) (sym e) ∙ ap (λ (b : Bool). b || belongs t (object_at os t)) (same_yes t t refl)
    | inr none ↦ elim none [ inl never ↦ absurd never | inr never ↦ absurd never ]
  ]
]

leaves_no_thread : (s : State) (t : ℕ) (ns : List ℕ) (v : ℕ) → SomeOnThread s (leaving t ns) v → ⊥
leaves_no_thread s t [] v m = m
leaves_no_thread s t (n ∷ ns) v (inl none) = none
leaves_no_thread s t (n ∷ ns) v (inr m) = leaves_no_thread s t ns v m

on_own : (s : State) (t : ℕ) (ns : List ℕ) (v : ℕ) → SomeOnThread s (exiting t ns) v → v ≡ t
on_own s t ns v m = elim (threads_append s (leaving t ns) (ending t) v m) [
  | inl n ↦ absurd (leaves_no_thread s t ns v n)
  | inr n ↦ elim n [ inl none ↦ absurd none | inr here ↦ elim here [ inl e ↦ sym e | inr none ↦ absurd none ] ]
]

leaves_none : (t : ℕ) (ns : List ℕ) (v : ℕ) → SomeMoves (leaving t ns) v → ⊥
leaves_none t [] v m = m
leaves_none t (n ∷ ns) v (inl none) = none
leaves_none t (n ∷ ns) v (inr m) = leaves_none t ns v m

moves_none : (t : ℕ) (ns : List ℕ) (v : ℕ) → SomeMoves (exiting t ns) v → ⊥
moves_none t ns v m = elim (moves_append (leaving t ns) (ending t) v m) [
  | inl n ↦ leaves_none t ns v n
  | inr n ↦ elim n [ inl none ↦ none | inr here ↦ elim here [ inl none ↦ none | inr none ↦ none ] ]
]

leaving_keeps : (s : State) (t : ℕ) (ns : List ℕ) → AllKeep s (leaving t ns)
leaving_keeps s t [] = tt
leaving_keeps s t (n ∷ ns) = (tt, leaving_keeps s t ns)

exiting_keeps : (s : State) (t : ℕ) (ns : List ℕ) → AllKeep s (exiting t ns)
exiting_keeps s t ns = keep_append s (leaving t ns) (ending t) (leaving_keeps s t ns) (tt, ((λ h e. absurd (false≢true e)), tt))

leaving_strange : (v t : ℕ) (ns : List ℕ) → AllStrange v (leaving t ns)
leaving_strange v t [] = tt
leaving_strange v t (n ∷ ns) = (leave_strange v t, leaving_strange v t ns)

exiting_strange : (v t : ℕ) (ns : List ℕ) → AllStrange v (exiting t ns)
exiting_strange v t ns = strange_append v (leaving t ns) (ending t) (leaving_strange v t ns) ((λ o e. refl), (tt, tt))

-- ---- the same parts in two states that agree on what they touch

both_along : (O : ℕ → Type 0) (ps : List Part) (x y : State) → ((o : ℕ) → SomeOnObject ps o → O o) → length y.objects ≡ length x.objects → ((o : ℕ) → O o → object_at y.objects o ≡ object_at x.objects o) → (o : ℕ) → O o → object_at (all_done ps y).objects o ≡ object_at (all_done ps x).objects o
both_along O [] x y on long same o i = same o i
both_along O (Changes k f ∷ ps) x y on long same o i =
    both_along O ps (at x k f) (at y k f) (λ n m. on n (inr m))
    (length-set y.objects k (f (object_at y.objects k)) ∙ (long ∙ sym (length-set x.objects k (f (object_at x.objects k)))))
    (λ n j. change_agree y.objects x.objects k n f long (same k (on k (inl refl))) (same n j))
    o i
both_along O (Gets u hs ∷ ps) x y on long same o i =
    both_along O ps (done (Gets u hs) x) (done (Gets u hs) y) (λ n m. on n (inr m))
    (long_each y.objects u hs ∙ (long ∙ sym (long_each x.objects u hs)))
    (λ n j. each_agree y.objects x.objects u hs n long (λ k m. same k (on k (inl m))) (same n j))
    o i
both_along O (Hands u may ∷ ps) x y on long same o i = both_along O ps (done (Hands u may) x) (done (Hands u may) y) (λ n m. on n (inr m)) long same o i
both_along O (Leaves u ∷ ps) x y on long same o i = both_along O ps (done (Leaves u) x) (done (Leaves u) y) (λ n m. on n (inr m)) long same o i
both_along O (Joins u w ∷ ps) x y on long same o i = both_along O ps (done (Joins u w) x) (done (Joins u w) y) (λ n m. on n (inr m)) long same o i
both_along O (Posts u q ∷ ps) x y on long same o i = both_along O ps (done (Posts u q) x) (done (Posts u q) y) (λ n m. on n (inr m)) long same o i
both_along O (Withdraws h ∷ ps) x y on long same o i = both_along O ps (done (Withdraws h) x) (done (Withdraws h) y) (λ n m. on n (inr m)) long same o i
both_along O (Drops u l ∷ ps) x y on long same o i = both_along O ps (done (Drops u l) x) (done (Drops u l) y) (λ n m. on n (inr m)) long same o i
both_along O (Closes h ∷ ps) x y on long same o i = both_along O ps (done (Closes h) x) (done (Closes h) y) (λ n m. on n (inr m)) long same o i

-- ---- its waits

has_cleared : (qs : List (List Queued)) (t u : ℕ) → has_apc (cleared qs t) u ≡ true → has_apc qs u ≡ true
has_cleared [] t u e = e
has_cleared (l ∷ qs) zero zero e = absurd (false≢true e)
has_cleared (l ∷ qs) zero (suc u) e = e
has_cleared (l ∷ qs) (suc t) zero e = e
has_cleared (l ∷ qs) (suc t) (suc u) e = has_cleared qs t u e

calm_exited : (z : State) (t : ℕ) → ((u : ℕ) → IsAlerted z u → ⊥) → (u : ℕ) → IsAlerted (exited z t) u → ⊥
calm_exited z t calm u alerted =
    calm u (alerted.0, alerted.1, both_true alerted.0.alertable (has_apc (cleared z.apcs t) u) (has_apc z.apcs u) (has_cleared z.apcs t u) alerted.2)

some_of : (H : ℕ → Bool) (xs : List ℕ) → list_any H xs ≡ true → (h : ℕ) × Contains xs h × (H h ≡ true)
some_of H [] e = absurd (false≢true e)
some_of H (x ∷ xs) e = go (λ n. some_of H xs n) (H x) refl e
  where
    go : (list_any H xs ≡ true → (h : ℕ) × Contains xs h × (H h ≡ true)) → (b : Bool) → H x ≡ b → (b || list_any H xs) ≡ true → (h : ℕ) × Contains (x ∷ xs) h × (H h ≡ true)
    go rest true is e = (x, contains_first x xs x refl, is)
    go rest false is e = let it = rest e in (it.0, contains_later x xs it.0 it.1, it.2)

none_of : (H : ℕ → Bool) (xs : List ℕ) (o : ℕ) → list_any H xs ≡ false → Contains xs o → H o ≡ false
none_of H [] o e m = absurd (contains_none o m)
none_of H (x ∷ xs) o e m = go (λ n k. none_of H xs o n k) (H x) refl e (contains_cases x xs o m)
  where
    go : (list_any H xs ≡ false → Contains xs o → H o ≡ false) → (b : Bool) → H x ≡ b → (b || list_any H xs) ≡ false → (x ≡ o) ⊎ Contains xs o → H o ≡ false
    go rest true is e n = absurd (false≢true (sym e))
    go rest false is e (inl same) = ap H (sym same) ∙ is
    go rest false is e (inr later) = rest e later

-- the waits that end named some of it in s
ends_known : (s x : State) (H : ℕ → Bool) (ps : List Piece) → ((v : ℕ) (w : Wait) → names_some H w ≡ true → get x.waits v ≡ Some w → get s.waits v ≡ Some w) → AreEnds x H ps → AreEnds s H ps
ends_known s x H [] known are = tt
ends_known s x H (Alters k f ∷ ps) known are = absurd are.0
ends_known s x H (Ends u hs ∷ ps) known are = ((are.0.0, known u are.0.0 are.0.2 are.0.1, are.0.2, are.0.3), ends_known s x H ps known are.1)

ends_object : (s : State) (H : ℕ → Bool) (ps : List Piece) (o : ℕ) → AreEnds s H ps → SomeOnObject (in_parts ps) o → (h : ℕ) × (H h ≡ true) × IsInReach s h o
ends_object s H [] o are m = absurd m
ends_object s H (Alters k f ∷ ps) o are m = absurd are.0
ends_object s H (Ends u hs ∷ ps) o are (inl m) =
    let it = some_of H are.0.0.objects are.0.2 in (it.0, it.2, inr (u, are.0.0, are.0.1, is_named it.0 are.0.0.objects it.1, are.0.3 o m))
ends_object s H (Ends u hs ∷ ps) o are (inr (inl none)) = absurd none
ends_object s H (Ends u hs ∷ ps) o are (inr (inr (inl none))) = absurd none
ends_object s H (Ends u hs ∷ ps) o are (inr (inr (inr later))) = ends_object s H ps o are.1 later

ends_so : (s : State) (H : ℕ → Bool) (u v : ℕ) (w : Wait) → get s.waits u ≡ Some w → names_some H w ≡ true → u ≡ v → (h : ℕ) × (H h ≡ true) × WaitsFor s v h
ends_so s H u v w e n same = let it = some_of H w.objects n in (it.0, it.2, (w, ap (λ (i : ℕ). get s.waits i) (sym same) ∙ e, is_named it.0 w.objects it.1))

ends_thread : (s : State) (H : ℕ → Bool) (ps : List Piece) (v : ℕ) → AreEnds s H ps → SomeOnThread s (in_parts ps) v → (h : ℕ) × (H h ≡ true) × WaitsFor s v h
ends_thread s H [] v are m = absurd m
ends_thread s H (Alters k f ∷ ps) v are m = absurd are.0
ends_thread s H (Ends u hs ∷ ps) v are (inl none) = absurd none
ends_thread s H (Ends u hs ∷ ps) v are (inr (inl e)) = ends_so s H u v are.0.0 are.0.1 are.0.2 e
ends_thread s H (Ends u hs ∷ ps) v are (inr (inr (inl e))) = ends_so s H u v are.0.0 are.0.1 are.0.2 e
ends_thread s H (Ends u hs ∷ ps) v are (inr (inr (inr later))) = ends_thread s H ps v are.1 later

ends_strange : (s : State) (H : ℕ → Bool) (ps : List Piece) (v : ℕ) → AreEnds s H ps → pends s v ≡ false → AllStrange v (in_parts ps)
ends_strange s H [] v are idle = tt
ends_strange s H (Alters k f ∷ ps) v are idle = absurd are.0
ends_strange s H (Ends u hs ∷ ps) v are idle =
    ((λ e. not_idle s v are.0.0 (ap (λ (i : ℕ). get s.waits i) e ∙ are.0.1) idle), (tt, (tt, ends_strange s H ps v are.1 idle)))

-- an object that is changed in one of two states that agree on the thread's own is changed in the other
changed_too : (s : State) (t : ℕ) (a b fa fb : State) → length b.objects ≡ length a.objects → ((o : ℕ) → TouchesObject s t Call.Exit o → object_at b.objects o ≡ object_at a.objects o) → ((o : ℕ) → TouchesObject s t Call.Exit o → object_at fb.objects o ≡ object_at fa.objects o) → ((o : ℕ) → ends_with s t o ≡ false → object_at fa.objects o ≡ object_at a.objects o) → (n : ℕ) → IsChanged a.objects fa.objects n → IsChanged b.objects fb.objects n
changed_too s t a b fa fb long old now kept n changed = go (ends_with s t n) refl
  where
    go : (c : Bool) → ends_with s t n ≡ c → IsChanged b.objects fb.objects n
    go true is =
        let here : TouchesObject s t Call.Exit n = (n, is, inl refl) in
        (subst (λ (k : ℕ). n < k) (sym long) changed.0, λ e. changed.1 (sym (now n here) ∙ (e ∙ old n here)))
    go false is = absurd (changed.1 (kept n is))

-- ---- the step

pub exit_made : (s x y new : State) (t : ℕ) (r : Reply) (gs : List Grant) → IsFrom s t Call.Exit x → IsQuiet y → pends s t ≡ false → pends y t ≡ false → AlikeFor s t Call.Exit x y → Step x t Call.Exit r gs new → IsMade s x y new t Call.Exit r gs
exit_made s x y new t r gs from quiet idle_s idle_y alike step =
    let H : ℕ → Bool = ends_with s t in
    let O : ℕ → Type 0 = TouchesObject s t Call.Exit in
    let ns : List ℕ = owns t x.objects in
    let cs : List Part = exiting t ns in
    let fx : State = all_done cs x in
    let fy : State = all_done cs y in
    let same_owns : owns t y.objects ≡ ns = owns_alike t y.objects x.objects alike.long (λ o. alike.owned t o refl) in
    let is_x : exited x t ≡ fx = exited_is x t in
    let is_y : exited y t ≡ fy = exited_is y t ∙ ap (λ (l : List ℕ). all_done (exiting t l) y) same_owns in
    -- what is changed is the thread's own
    let own : (o : ℕ) → SomeOnObject cs o → H o ≡ true = λ o m. ap (λ (b : Bool). (o == t) || b) (sym (from.owned t o refl)) ∙ on_exiting t x.objects o m in
    let touched : (o : ℕ) → SomeOnObject cs o → O o = λ o m. (o, own o m, inl refl) in
    let left : (z : State) (o : ℕ) → H o ≡ false → object_at (all_done cs z).objects o ≡ object_at z.objects o = λ z o e. object_along cs z o (λ m. false≢true (sym e ∙ own o m)) in
    let both : (o : ℕ) → O o → object_at fy.objects o ≡ object_at fx.objects o = both_along O cs x y touched alike.long alike.objects in
    let long_f : length fy.objects ≡ length fx.objects = long_along cs y ∙ (alike.long ∙ sym (long_along cs x)) in
    let waits_x : (v : ℕ) → get fx.waits v ≡ get x.waits v = λ v. ap (λ (z : State). get z.waits v) (sym is_x) in
    let waits_y : (v : ℕ) → get fy.waits v ≡ get y.waits v = λ v. ap (λ (z : State). get z.waits v) (sym is_y) in
    let may : (w : Wait) → names_some H w ≡ true → (h : ℕ) × (H h ≡ true) × (wait_names w h ≡ true) = λ w n. let it = some_of H w.objects n in (it.0, it.2, is_named it.0 w.objects it.1) in
    let known : (v : ℕ) (w : Wait) → names_some H w ≡ true → get x.waits v ≡ Some w → get s.waits v ≡ Some w = λ v w n e. from.known v w (may w n) e in
    let unfit : (z : State) → IsQuiet z → (v : ℕ) (w : Wait) → get z.waits v ≡ Some w → names_some H w ≡ false → fits (all_done cs z).objects v w ≡ false = λ z q v w e n.
    fits_agree (all_done cs z).objects z.objects v w (λ o m. left z o (none_of H w.objects o n m)) ∙ undue_wait z v w q.served e in
    let beside : IsBesideAll H fx fy = record {
      long = long_f;
      there = λ v w e n. waits_y v ∙ alike.there v w (may w n) (sym (waits_x v) ∙ e);
      back = λ v w e n. waits_x v ∙ alike.back v w (may w n) (sym (waits_y v) ∙ e);
      agree = λ v w e n o m. let it = may w n in both o (it.0, it.1, inr (v, w, known v w n (sym (waits_x v) ∙ e), it.2, is_named o w.objects m));
      only = λ v w e n. unfit x from.quiet v w (sym (waits_x v) ∙ e) n;
      only_too = λ v w e n. unfit y quiet v w (sym (waits_y v) ∙ e) n;
    } in
    let threads = sequence x step.numbers in
    let serves : Serve threads fx step.served step.calm = subst (λ (z : State). Serve threads z step.served step.calm) is_x step.serves in
    let calm_fx : (u : ℕ) → IsAlerted fx u → ⊥ = subst (λ (z : State). (u : ℕ) → IsAlerted z u → ⊥) is_x (calm_exited x t from.quiet.calm) in
    let calm_fy : (u : ℕ) → IsAlerted fy u → ⊥ = subst (λ (z : State). (u : ℕ) → IsAlerted z u → ⊥) is_y (calm_exited y t quiet.calm) in
    let none = alert_none step.calm step.woken step.alerted (Grants-calm threads fx step.calm step.served serves.0 calm_fx) step.alerts in
    let ps : List Piece = pieces_of threads fx step.calm step.served serves.0 in
    let pends_x : (v : ℕ) → pends x v ≡ pends fx v = λ v. ap is_some (sym (waits_x v)) in
    let pends_y : (v : ℕ) → pends y v ≡ pends fy v = λ v. ap is_some (sym (waits_y v)) in
    let go = granted_all x H threads (sequence y step.numbers) fx fy step.calm step.served
    (λ u w e. sym (waits_x u) ∙ e)
    (λ p ix iy. alike.queues step.numbers p (λ u i. ix u (sym (pends_x u) ∙ i)) (λ u i. iy u (sym (pends_y u) ∙ i)))
    beside serves.0 in
    let are : AreEnds s H ps = ends_known s x H ps known go.are in
    let last : State = all_made ps fy in
    let served_last : IsServed last = λ u. due_all H step.calm last go.beside u ∙ serves.1 u in
    let still_y : (u : ℕ) → IsAlerted last u → ⊥ = λ u alerted. calm_fy u (alerted_before ps fy u alerted) in
    -- the same objects are changed in both
    let changes : (a b fa fb : State) → length b.objects ≡ length a.objects → ((o : ℕ) → O o → object_at b.objects o ≡ object_at a.objects o) → ((o : ℕ) → O o → object_at fb.objects o ≡ object_at fa.objects o) → ((o : ℕ) → H o ≡ false → object_at fa.objects o ≡ object_at a.objects o) → (n : ℕ) → IsChanged a.objects fa.objects n → IsChanged b.objects fb.objects n = λ a b fa fb long old now kept n changed.
    changed_too s t a b fa fb long old now kept n changed in
    let numbers_x : AreRising (IsChanged x.objects fx.objects) step.numbers = subst (λ (z : State). AreRising (IsChanged x.objects z.objects) step.numbers) is_x step.changed in
    let numbers_y : AreRising (IsChanged y.objects fy.objects) step.numbers = rising_along (IsChanged x.objects fx.objects) (IsChanged y.objects fy.objects) step.numbers
    (changes x y fx fy alike.long alike.objects both (left x))
    (changes y x fy fx (sym alike.long) (λ o i. sym (alike.objects o i)) (λ o i. sym (both o i)) (left y))
    numbers_x in
    let step_y : Step y t Call.Exit r gs last = record {
      numbers = step.numbers;
      served = step.served;
      calm = last;
      alerted = [];
      woken = last;
      changed = subst (λ (z : State). AreRising (IsChanged y.objects z.objects) step.numbers) (sym is_y) numbers_y;
      serves = subst (λ (z : State). Serve (sequence y step.numbers) z step.served last) (sym is_y) (go.grants, served_last);
      alerts = none_to_alert last still_y;
      in_order = step.in_order ∙ ap (λ (l : List Grant). step.served ++ l) none.0;
      answers = ap {B = Reply × State} (λ (q : Reply). (q, last)) (ap (λ (z : Reply × State). z.0) step.answers);
    } in
    let leads : (z : State) → all_made ps (all_done cs z) ≡ all_done (cs ++ in_parts ps) z = λ z. in_parts_is ps (all_done cs z) ∙ sym (done_append cs (in_parts ps) z) in
    record {
      parts = cs ++ in_parts ps;
      state = ap (λ (z : Reply × State). z.1) step.answers ∙ (none.1 ∙ (source_is threads fx step.calm step.served serves.0 ∙ leads x));
      step = subst (λ (z : State). Step y t Call.Exit r gs z) (leads y) step_y;
      quiet = subst IsQuiet (leads y) (record { served = served_last; calm = still_y });
      objects = λ o m. elim (objects_append cs (in_parts ps) o m) [ inl n ↦ touched o n | inr n ↦ ends_object s H ps o are n ];
      threads = λ v m. elim (threads_append s cs (in_parts ps) v m) [ inl n ↦ inl (on_own s t ns v n) | inr n ↦ inr (ends_thread s H ps v are n) ];
      idle = λ v m. elim (moves_append cs (in_parts ps) v m) [
        | inl n ↦ absurd (moves_none t ns v n)
        | inr n ↦ inr (ap (λ (z : State). pends z v) (sym (leads y)) ∙ left_idle ps fy v n)
      ];
      keeps = keep_append s cs (in_parts ps) (exiting_keeps s t ns) (pieces_keep s ps);
      strange = λ v differs idle. strange_append v cs (in_parts ps) (exiting_strange v t ns) (ends_strange s H ps v are idle);
    }
