-- States, renamed: what each change of one part leaves.
use Rattle.std.proofs.Common.{◌≡◌, ℕ, zero, suc, Bool, true, false, cond, not, ◌||◌, List, [], ◌∷◌, ◌++◌, map, refl, sym, ap, ◌∙◌, subst, Option, Some, None, ◌<◌, ◌≤◌, ◌⊎◌, inl, inr, length, arith}
use Rattle.std.specs.Prelude.{slice_index_or, slice_set, ◌==◌, if◌then◌else◌, option_map}
use Rattle.std.specs.List.{list_any, filter}
use Rattle.std.specs.Ordering.{nat_cmp, eq_by_cmp}
use Rattle.std.specs.Cmp.{nat_cmp_total, unsigned_tied}
use Rattle.std.specs.FinMap as fin
use Rattle.nt_objects.specs.declared.object.Object.{Object}
use Rattle.nt_waits.specs.declared.wait.Wait.{Wait}
use Rattle.nt_waits.specs.Waits.{others}
use Rattle.nt_apc.specs.declared.apc.Queued.{Queued}
use Rattle.nt_apc.specs.Queues.{apc_queue_of, has_apc, pushed, is_from, has_from, is_queued, without_from, withdrawn, cleared, without_oldest, oldest_taken}
use Rattle.nt_calls.specs.declared.call.Grant.{Grant}
use Rattle.nt_calls.specs.State.{State, Pending, with_object, wait_names, pending_too, pending_no_more, with_handing, wait_over, waits_over}
use Rattle.nt_calls.specs.Serving.{fits, satisfied, is_due, taken_by, wait_granted, Grants, Serve, sequence, objects_taken}
use Rattle.nt_calls.specs.Change.{at}
use Rattle.nt_apart.specs.Fewer.{IsRenaming, AreMoved, IsRenamed, renamed_wait, renamed_apc, renamed_grant}
use Rattle.nt_apart.proofs.Renaming.{turned, same_test, tied_test, any_renamed, find_renamed, flat_renamed, map_append, moved_set, moved_map, tests_agree, lt_there, past, among}
use Rattle.nt_apart.proofs.RenamedObjects.{AreObjects, IsFair, changed_objects, fits_renamed, status_renamed, taken_renamed}
use Rattle.std.proofs.lemmas.Bool.{cases_eq, cases_lt}
use Rattle.std.proofs.lemmas.List.{length-set, get_or-set_other, get_or-set_same}
use Rattle.nt_machine.proofs.Listing.{same_yes, same_no}

-- ---- objects

pub objects_of : (r : ℕ → ℕ) (s u : State) → IsRenamed r s u → AreObjects s.threads r s.objects u.objects
objects_of r s u are = record { renaming = are.renaming; own = are.own; moved = are.objects }

pub with_objects : (r : ℕ → ℕ) (s u : State) → IsRenamed r s u → (xs ys : List Object) → AreObjects s.threads r xs ys → IsRenamed r (record s { objects = xs }) (record u { objects = ys })
with_objects r s u are xs ys moved = record {
  renaming = are.renaming;
  few = are.few;
  own = moved.own;
  threads = are.threads;
  now = are.now;
  handles = are.handles;
  objects = moved.moved;
  waits = are.waits;
  queues = are.queues;
  apcs = are.apcs;
  handing = are.handing;
}

pub changed : (r : ℕ → ℕ) (s u : State) → IsRenamed r s u → (h : ℕ) (f g : Object → Object) → IsFair r f g → IsRenamed r (at s h f) (at u (r h) g)
changed r s u are h f g fair =
    with_objects r s u are (with_object s.objects h f) (with_object u.objects (r h) g) (changed_objects s.threads r s.objects u.objects h f g (objects_of r s u are) fair)

-- ---- which threads may take APCs

pub with_hands : (r : ℕ → ℕ) (s u : State) → IsRenamed r s u → (xs ys : List Bool) → AreMoved s.threads r (λ may. may) false xs ys → IsRenamed r (record s { handing = xs }) (record u { handing = ys })
with_hands r s u are xs ys moved = record {
  renaming = are.renaming;
  few = are.few;
  own = are.own;
  threads = are.threads;
  now = are.now;
  handles = are.handles;
  objects = are.objects;
  waits = are.waits;
  queues = are.queues;
  apcs = are.apcs;
  handing = moved;
}

pub handed : (r : ℕ → ℕ) (s u : State) → IsRenamed r s u → (t : ℕ) (may : Bool) → IsRenamed r (with_handing s t may) (with_handing u (r t) may)
handed r s u are t may =
    with_hands r s u are (slice_set s.handing t may) (slice_set u.handing (r t) may)
    (moved_set s.threads r (λ (b : Bool). b) false s.handing u.handing are.renaming are.handing t may may refl refl)

-- ---- queued APCs

pub with_apcs : (r : ℕ → ℕ) (s u : State) → IsRenamed r s u → (xs ys : List (List Queued)) → AreMoved s.threads r (map (renamed_apc r)) [] xs ys → IsRenamed r (record s { apcs = xs }) (record u { apcs = ys })
with_apcs r s u are xs ys moved = record {
  renaming = are.renaming;
  few = are.few;
  own = are.own;
  threads = are.threads;
  now = are.now;
  handles = are.handles;
  objects = are.objects;
  waits = are.waits;
  queues = are.queues;
  apcs = moved;
  handing = are.handing;
}

abbrev pub AreApcs : ℕ → (ℕ → ℕ) → List (List Queued) → List (List Queued) → Type 0
AreApcs n r xs ys = AreMoved n r (map (renamed_apc r)) [] xs ys

pub any_mapped : {A B : Type 0} (f : A → B) (p : A → Bool) (q : B → Bool) → ((x : A) → q (f x) ≡ p x) → (xs : List A) → list_any q (map f xs) ≡ list_any p xs
any_mapped f p q same [] = refl
any_mapped f p q same (x ∷ xs) = ap (λ (b : Bool). b || list_any q (map f xs)) (same x) ∙ ap (λ (b : Bool). p x || b) (any_mapped f p q same xs)

pub filter_mapped : {A B : Type 0} (f : A → B) (p : A → Bool) (q : B → Bool) → ((x : A) → q (f x) ≡ p x) → (xs : List A) → filter q (map f xs) ≡ map f (filter p xs)
filter_mapped f p q same [] = refl
filter_mapped {A = A} f p q same (x ∷ xs) = ap (λ (b : Bool). if b then f x ∷ filter q (map f xs) else filter q (map f xs)) (same x) ∙ go (p x) (filter_mapped f p q same xs)
  where
    go : (b : Bool) → filter q (map f xs) ≡ map f (filter p xs) → (if b then f x ∷ filter q (map f xs) else filter q (map f xs)) ≡ map f (if b then x ∷ filter p xs else filter p xs)
    go true rest = ap (λ zs. f x ∷ zs) rest
    go false rest = rest

pub apcs_pushed : (n : ℕ) (r : ℕ → ℕ) (xs ys : List (List Queued)) → IsRenaming n r → AreApcs n r xs ys → (t : ℕ) (q : Queued) → AreApcs n r (pushed xs t q) (pushed ys (r t) (renamed_apc r q))
apcs_pushed n r xs ys ren moved t q =
    moved_set n r (map (renamed_apc r)) [] xs ys ren moved t (apc_queue_of xs t ++ q ∷ []) (apc_queue_of ys (r t) ++ renamed_apc r q ∷ []) refl
    (ap (λ (l : List Queued). l ++ renamed_apc r q ∷ []) (moved.each t) ∙ sym (map_append (renamed_apc r) (apc_queue_of xs t) (q ∷ [])))

from_renamed : (n : ℕ) (r : ℕ → ℕ) → IsRenaming n r → (timer : ℕ) (o : Option ℕ) → is_from (r timer) (option_map r o) ≡ is_from timer o
from_renamed n r ren timer None = refl
from_renamed n r ren timer (Some x) = same_test n r ren x timer

pub apcs_withdrawn : (n : ℕ) (r : ℕ → ℕ) (xs ys : List (List Queued)) → IsRenaming n r → AreApcs n r xs ys → (timer : ℕ) → AreApcs n r (withdrawn xs timer) (withdrawn ys (r timer))
apcs_withdrawn n r xs ys ren moved timer =
    moved_map n r (map (renamed_apc r)) [] xs ys moved (without_from timer) (without_from (r timer)) refl refl
    (filter_mapped (renamed_apc r) (λ (q : Queued). not (is_from timer q.timer)) (λ (q : Queued). not (is_from (r timer) q.timer)) (λ (q : Queued). ap not (from_renamed n r ren timer q.timer)))

pub apcs_cleared : (n : ℕ) (r : ℕ → ℕ) (xs ys : List (List Queued)) → IsRenaming n r → AreApcs n r xs ys → (t : ℕ) → AreApcs n r (cleared xs t) (cleared ys (r t))
apcs_cleared n r xs ys ren moved t = moved_set n r (map (renamed_apc r)) [] xs ys ren moved t [] [] refl refl

oldest_off : (r : ℕ → ℕ) (l : List Queued) → without_oldest (map (renamed_apc r) l) ≡ map (renamed_apc r) (without_oldest l)
oldest_off r [] = refl
oldest_off r (q ∷ l) = refl

pub apcs_taken : (n : ℕ) (r : ℕ → ℕ) (xs ys : List (List Queued)) → IsRenaming n r → AreApcs n r xs ys → (t : ℕ) → AreApcs n r (oldest_taken xs t) (oldest_taken ys (r t))
apcs_taken n r xs ys ren moved t =
    moved_set n r (map (renamed_apc r)) [] xs ys ren moved t (without_oldest (apc_queue_of xs t)) (without_oldest (apc_queue_of ys (r t))) refl
    (ap (λ (l : List Queued). without_oldest l) (moved.each t) ∙ oldest_off r (apc_queue_of xs t))

pub has_apc_renamed : (n : ℕ) (r : ℕ → ℕ) (xs ys : List (List Queued)) → AreApcs n r xs ys → (t : ℕ) → has_apc ys (r t) ≡ has_apc xs t
has_apc_renamed n r xs ys moved t =
    ap (λ (l : List Queued). list_any (λ _. true) l) (moved.each t) ∙ any_mapped (renamed_apc r) (λ _. true) (λ _. true) (λ _. refl) (apc_queue_of xs t)

-- ---- what some entry of a list by number passes

any_at : {A : Type 0} (p : A → Bool) (d : A) → p d ≡ false → (xs : List A) (i : ℕ) → p (slice_index_or xs i d) ≡ true → list_any p xs ≡ true
any_at p d none [] i is = absurd (let h : false ≡ true = sym none ∙ is in cc)
any_at p d none (x ∷ xs) zero is = ap (λ (b : Bool). b || list_any p xs) is
any_at p d none (x ∷ xs) (suc i) is = go (p x) (any_at p d none xs i is)
  where
    go : (b : Bool) → list_any p xs ≡ true → (b || list_any p xs) ≡ true
    go true rest = refl
    go false rest = rest

any_where : {A : Type 0} (p : A → Bool) (d : A) (xs : List A) → list_any p xs ≡ true → (i : ℕ) × (p (slice_index_or xs i d) ≡ true)
any_where p d [] is = absurd (let h : false ≡ true = is in cc)
any_where p d (x ∷ xs) is = go (p x) refl (any_where p d xs)
  where
    go : (b : Bool) → p x ≡ b → (list_any p xs ≡ true → (i : ℕ) × (p (slice_index_or xs i d) ≡ true)) → (i : ℕ) × (p (slice_index_or (x ∷ xs) i d) ≡ true)
    go true here rest = (zero, here)
    go false here rest = let later = rest (sym (ap (λ (b : Bool). b || list_any p xs) here) ∙ is) in (suc later.0, later.1)

pub any_moved : {A : Type 0} (n : ℕ) (r : ℕ → ℕ) (f : A → A) (d : A) (xs ys : List A) → IsRenaming n r → AreMoved n r f d xs ys → (p q : A → Bool) → f d ≡ d → p d ≡ false → q d ≡ false → ((x : A) → q (f x) ≡ p x) → list_any q ys ≡ list_any p xs
any_moved n r f d xs ys ren moved p q none pd qd same = tests_agree (list_any q ys) (list_any p xs)
    (λ e. let it = any_where q d ys e in any_at p d pd xs (r it.0) (sym (back it.0) ∙ it.1))
    (λ e. let it = any_where p d xs e in any_at q d qd ys (r it.0) (ap (λ z. q z) (moved.each it.0) ∙ (same (slice_index_or xs it.0 d) ∙ it.1)))
  where
    back : (j : ℕ) → q (slice_index_or ys j d) ≡ p (slice_index_or xs (r j) d)
    back j = ap (λ (k : ℕ). q (slice_index_or ys k d)) (sym (ren.back j)) ∙ (ap (λ z. q z) (moved.each (r j)) ∙ same (slice_index_or xs (r j) d))

has_from_renamed : (n : ℕ) (r : ℕ → ℕ) → IsRenaming n r → (timer : ℕ) (l : List Queued) → has_from (r timer) (map (renamed_apc r) l) ≡ has_from timer l
has_from_renamed n r ren timer l =
    any_mapped (renamed_apc r) (λ (q : Queued). is_from timer q.timer) (λ (q : Queued). is_from (r timer) q.timer) (λ (q : Queued). from_renamed n r ren timer q.timer) l

pub queued_renamed : (n : ℕ) (r : ℕ → ℕ) (xs ys : List (List Queued)) → IsRenaming n r → AreApcs n r xs ys → (timer : ℕ) → is_queued ys (r timer) ≡ is_queued xs timer
queued_renamed n r xs ys ren moved timer =
    any_moved n r (map (renamed_apc r)) [] xs ys ren moved (has_from timer) (has_from (r timer)) refl refl refl (has_from_renamed n r ren timer)

-- ---- pending waits

-- other waits and queues
pub with_waits : (r : ℕ → ℕ) (s u : State) → IsRenamed r s u → (m k : Pending) (f g : ℕ → List ℕ) → ((t : ℕ) → fin.get k (r t) ≡ option_map (renamed_wait r) (fin.get m t)) → ((x : ℕ) → g (r x) ≡ map r (f x)) → IsRenamed r (record s { waits = m; queues = f }) (record u { waits = k; queues = g })
with_waits r s u are m k f g waits queues = record {
  renaming = are.renaming;
  few = are.few;
  own = are.own;
  threads = are.threads;
  now = are.now;
  handles = are.handles;
  objects = are.objects;
  waits = waits;
  queues = queues;
  apcs = are.apcs;
  handing = are.handing;
}

others_renamed : (n : ℕ) (r : ℕ → ℕ) → IsRenaming n r → (t : ℕ) (q : List ℕ) → others (r t) (map r q) ≡ map r (others t q)
others_renamed n r ren t [] = refl
others_renamed n r ren t (x ∷ q) =
    ap (λ (b : Bool). if b then others (r t) (map r q) else r x ∷ others (r t) (map r q)) (same_test n r ren x t) ∙ go (x == t) (others_renamed n r ren t q)
  where
    go : (b : Bool) → others (r t) (map r q) ≡ map r (others t q) → (if b then others (r t) (map r q) else r x ∷ others (r t) (map r q)) ≡ map r (if b then others t q else x ∷ others t q)
    go true rest = rest
    go false rest = ap (λ (l : List ℕ). r x ∷ l) rest

pub no_more : (r : ℕ → ℕ) (s u : State) → IsRenamed r s u → (t : ℕ) → IsRenamed r (pending_no_more s t) (pending_no_more u (r t))
no_more r s u are t =
    with_waits r s u are (fin.remove s.waits t) (fin.remove u.waits (r t)) (λ h. others t (s.queues h)) (λ h. others (r t) (u.queues h)) waits
    (λ x. ap (λ (q : List ℕ). others (r t) q) (are.queues x) ∙ others_renamed s.threads r are.renaming t (s.queues x))
  where
    either : (b : Bool) (v : ℕ) → cond b None (fin.get u.waits (r v)) ≡ option_map (renamed_wait r) (cond b None (fin.get s.waits v))
    either true v = refl
    either false v = are.waits v

    waits : (v : ℕ) → fin.get (fin.remove u.waits (r t)) (r v) ≡ option_map (renamed_wait r) (fin.get (fin.remove s.waits t) v)
    waits v =
        fin.get-remove nat_cmp_total u.waits (r t) (r v)
        ∙ (ap (λ (b : Bool). cond b None (fin.get u.waits (r v))) (tied_test s.threads r are.renaming v t)
        ∙ (either (eq_by_cmp nat_cmp v t) v ∙ ap (λ (o : Option Wait). option_map (renamed_wait r) o) (sym (fin.get-remove nat_cmp_total s.waits t v))))

pub names_renamed : (n : ℕ) (r : ℕ → ℕ) → IsRenaming n r → (w : Wait) (h : ℕ) → wait_names (renamed_wait r w) (r h) ≡ wait_names w h
names_renamed n r ren w h = any_renamed r (λ (x : ℕ). x == h) (λ (x : ℕ). x == r h) (λ x. same_test n r ren x h) w.objects

pub too : (r : ℕ → ℕ) (s u : State) → IsRenamed r s u → (t : ℕ) (w : Wait) → IsRenamed r (pending_too s t w) (pending_too u (r t) (renamed_wait r w))
too r s u are t w =
    with_waits r s u are (fin.insert s.waits t w) (fin.insert u.waits (r t) (renamed_wait r w))
    (λ h. if wait_names w h then s.queues h ++ t ∷ [] else s.queues h) (λ h. if wait_names (renamed_wait r w) h then u.queues h ++ r t ∷ [] else u.queues h) waits queues
  where
    either : (b : Bool) (v : ℕ) → cond b (Some (renamed_wait r w)) (fin.get u.waits (r v)) ≡ option_map (renamed_wait r) (cond b (Some w) (fin.get s.waits v))
    either true v = refl
    either false v = are.waits v

    waits : (v : ℕ) → fin.get (fin.insert u.waits (r t) (renamed_wait r w)) (r v) ≡ option_map (renamed_wait r) (fin.get (fin.insert s.waits t w) v)
    waits v =
        fin.get-insert nat_cmp_total u.waits (r t) (renamed_wait r w) (r v)
        ∙ (ap (λ (b : Bool). cond b (Some (renamed_wait r w)) (fin.get u.waits (r v))) (tied_test s.threads r are.renaming v t)
        ∙ (either (eq_by_cmp nat_cmp v t) v ∙ ap (λ (o : Option Wait). option_map (renamed_wait r) o) (sym (fin.get-insert nat_cmp_total s.waits t w v))))

    queue : (b : Bool) (x : ℕ) → (if b then u.queues (r x) ++ r t ∷ [] else u.queues (r x)) ≡ map r (if b then s.queues x ++ t ∷ [] else s.queues x)
    queue true x = ap (λ (q : List ℕ). q ++ r t ∷ []) (are.queues x) ∙ sym (map_append r (s.queues x) (t ∷ []))
    queue false x = are.queues x

    queues : (x : ℕ) → (if wait_names (renamed_wait r w) (r x) then u.queues (r x) ++ r t ∷ [] else u.queues (r x)) ≡ map r (if wait_names w x then s.queues x ++ t ∷ [] else s.queues x)
    queues x = ap (λ (b : Bool). if b then u.queues (r x) ++ r t ∷ [] else u.queues (r x)) (names_renamed s.threads r are.renaming w x) ∙ queue (wait_names w x) x

-- ---- serving

satisfied_renamed : (n : ℕ) (r : ℕ → ℕ) (xs ys : List Object) → AreObjects n r xs ys → (t : ℕ) (o : Option Wait) → satisfied ys (r t) (option_map (renamed_wait r) o) ≡ satisfied xs t o
satisfied_renamed n r xs ys are t None = refl
satisfied_renamed n r xs ys are t (Some w) = fits_renamed n r xs ys are t w

pub due_renamed : (r : ℕ → ℕ) (s u : State) → IsRenamed r s u → (t : ℕ) → is_due u (r t) ≡ is_due s t
due_renamed r s u are t =
    ap (λ (o : Option Wait). satisfied u.objects (r t) o) (are.waits t) ∙ satisfied_renamed s.threads r s.objects u.objects (objects_of r s u are) t (fin.get s.waits t)

pub taken_state : (r : ℕ → ℕ) (s u : State) → IsRenamed r s u → (t : ℕ) (w : Wait) → fits s.objects t w ≡ true → IsRenamed r (taken_by s t w) (taken_by u (r t) (renamed_wait r w))
taken_state r s u are t w fit =
    handed r (record s { objects = objects_taken s.objects t w }) (record u { objects = objects_taken u.objects (r t) (renamed_wait r w) })
    (with_objects r s u are (objects_taken s.objects t w) (objects_taken u.objects (r t) (renamed_wait r w)) (taken_renamed s.threads r s.objects u.objects (objects_of r s u are) t w fit))
    t false

granted : (r : ℕ → ℕ) (s u : State) → IsRenamed r s u → (t : ℕ) (w : Wait) → fits s.objects t w ≡ true → IsRenamed r (wait_granted s t w) (wait_granted u (r t) (renamed_wait r w))
granted r s u are t w fit = no_more r (taken_by s t w) (taken_by u (r t) (renamed_wait r w)) (taken_state r s u are t w fit) t

grants_renamed : (r : ℕ → ℕ) (gs : List Grant) (threads : List ℕ) (s u new : State) → IsRenamed r s u → Grants threads s gs new → (v : State) × Grants (map r threads) u (map (renamed_grant r) gs) v × IsRenamed r new v
grants_renamed r [] threads s u new are e = (u, refl, subst (λ (x : State). IsRenamed r x u) (sym e) are)
grants_renamed r (g ∷ gs) threads s u new are (found, w, due, rest) =
    let later = grants_renamed r gs threads (wait_granted s g.thread w) (wait_granted u (r g.thread) (renamed_wait r w)) new (granted r s u are g.thread w due.fits) rest in (
      later.0,
      (
        find_renamed r (is_due s) (is_due u) (due_renamed r s u are) threads ∙ ap (λ (o : Option ℕ). option_map r o) found,
        renamed_wait r w,
        record {
          pends = are.waits g.thread ∙ ap (λ (o : Option Wait). option_map (renamed_wait r) o) due.pends;
          fits = fits_renamed s.threads r s.objects u.objects (objects_of r s u are) g.thread w ∙ due.fits;
          status = due.status ∙ sym (status_renamed s.threads r s.objects u.objects (objects_of r s u are) g.thread w due.fits);
        },
        later.1,
      ),
      later.2,
    )

pub served_renamed : (r : ℕ → ℕ) (gs : List Grant) (threads : List ℕ) (s u new : State) → IsRenamed r s u → Serve threads s gs new → (v : State) × Serve (map r threads) u (map (renamed_grant r) gs) v × IsRenamed r new v
served_renamed r gs threads s u new are serve =
    let it = grants_renamed r gs threads s u new are serve.0 in
    (it.0, (it.1, λ t. ap (λ (x : ℕ). is_due it.0 x) (sym (are.renaming.back t)) ∙ (due_renamed r new it.0 it.2 (r t) ∙ serve.1 (r t))), it.2)

pub sequence_renamed : (r : ℕ → ℕ) (s u : State) → IsRenamed r s u → (numbers : List ℕ) → sequence u (map r numbers) ≡ map r (sequence s numbers)
sequence_renamed r s u are numbers = flat_renamed r s.queues u.queues are.queues numbers

-- ---- many waits over

over_is : (ts : List ℕ) (s : State) (may : Bool) → waits_over s ts may ≡ record s { waits = (waits_over s ts may).waits; queues = (waits_over s ts may).queues; handing = (waits_over s ts may).handing }
over_is [] s may = refl
over_is (t ∷ ts) s may = over_is ts (wait_over s t may) may

over_wait : (ts : List ℕ) (s : State) (may : Bool) (v : ℕ) → fin.get (waits_over s ts may).waits v ≡ cond (among ts v) None (fin.get s.waits v)
over_wait [] s may v = refl
over_wait (t ∷ ts) s may v =
    over_wait ts (wait_over s t may) may v
    ∙ (ap (λ (o : Option Wait). cond (among ts v) None o) (fin.get-remove nat_cmp_total s.waits t v)
    ∙ (ap (λ (b : Bool). cond (among ts v) None (cond b None (fin.get s.waits v))) (unsigned_tied v t ∙ turned v t)
    ∙ go (t == v) (among ts v)))
  where
    go : (a b : Bool) → cond b None (cond a None (fin.get s.waits v)) ≡ cond (a || b) None (fin.get s.waits v)
    go true true = refl
    go true false = refl
    go false true = refl
    go false false = refl

kept_queue : (t : ℕ) (ts : List ℕ) (q : List ℕ) → filter (λ (x : ℕ). not (among ts x)) (others t q) ≡ filter (λ (x : ℕ). not (among (t ∷ ts) x)) q
kept_queue t ts [] = refl
kept_queue t ts (x ∷ q) =
    ap (λ (b : Bool). filter (λ (y : ℕ). not (among ts y)) (if b then others t q else x ∷ others t q)) (turned x t) ∙ go (t == x) (among ts x) refl (kept_queue t ts q)
  where
    go : (a b : Bool) → among ts x ≡ b → filter (λ (y : ℕ). not (among ts y)) (others t q) ≡ filter (λ (y : ℕ). not (among (t ∷ ts) y)) q
        → filter (λ (y : ℕ). not (among ts y)) (if a then others t q else x ∷ others t q)
        ≡ (if not (a || b) then x ∷ filter (λ (y : ℕ). not (among (t ∷ ts) y)) q else filter (λ (y : ℕ). not (among (t ∷ ts) y)) q)
    go true b is rest = rest
    go false b is rest =
        ap (λ (c : Bool). if not c then x ∷ filter (λ (y : ℕ). not (among ts y)) (others t q) else filter (λ (y : ℕ). not (among ts y)) (others t q)) is
        ∙ ap (λ (l : List ℕ). if not b then x ∷ l else l) rest

over_queue : (ts : List ℕ) (s : State) (may : Bool) (h : ℕ) → (waits_over s ts may).queues h ≡ filter (λ (x : ℕ). not (among ts x)) (s.queues h)
over_queue [] s may h = whole (s.queues h)
  where
    whole : (q : List ℕ) → q ≡ filter (λ (x : ℕ). not (among [] x)) q
    whole [] = refl
    whole (x ∷ q) = ap (λ (l : List ℕ). x ∷ l) (whole q)
over_queue (t ∷ ts) s may h = over_queue ts (wait_over s t may) may h ∙ kept_queue t ts (s.queues h)

over_long : (ts : List ℕ) (s : State) (may : Bool) → length (waits_over s ts may).handing ≡ length s.handing
over_long [] s may = refl
over_long (t ∷ ts) s may = over_long ts (wait_over s t may) may ∙ length-set s.handing t may

over_hand : (ts : List ℕ) (s : State) (may : Bool) (v : ℕ) → v < length s.handing → slice_index_or (waits_over s ts may).handing v false ≡ (if among ts v then may else slice_index_or s.handing v false)
over_hand [] s may v less = refl
over_hand (t ∷ ts) s may v less =
    let long = length-set s.handing t may in
    over_hand ts (wait_over s t may) may v (omega (arith, less, long)) ∙ elim (cases_eq t v) [
      | inl same ↦
          ap (λ (b : Bool). if among ts v then may else b) (ap (λ (z : ℕ). slice_index_or (slice_set s.handing z may) v false) same ∙ get_or-set_same s.handing v may false less)
          ∙ (either (among ts v) ∙ ap (λ (b : Bool). if b || among ts v then may else slice_index_or s.handing v false) (sym (same_yes t v same)))
      | inr differs ↦
          ap (λ (b : Bool). if among ts v then may else b) (get_or-set_other s.handing t v may false (λ e. differs (sym e)))
          ∙ ap (λ (b : Bool). if b || among ts v then may else slice_index_or s.handing v false) (sym (same_no t v differs))
    ]
  where
    either : (b : Bool) → (if b then may else may) ≡ may
    either true = refl
    either false = refl

pub over_renamed : (r : ℕ → ℕ) (s u : State) → IsRenamed r s u → (ts us : List ℕ) → ((x : ℕ) → among us (r x) ≡ among ts x) → (may : Bool) → IsRenamed r (waits_over s ts may) (waits_over u us may)
over_renamed r s u are ts us same may =
    subst (λ (x : State). IsRenamed r x (waits_over u us may)) (sym (over_is ts s may))
    (subst (λ (x : State). IsRenamed r (record s { waits = (waits_over s ts may).waits; queues = (waits_over s ts may).queues; handing = (waits_over s ts may).handing }) x) (sym (over_is us u may))
    (with_hands r (record s { waits = (waits_over s ts may).waits; queues = (waits_over s ts may).queues }) (record u { waits = (waits_over u us may).waits; queues = (waits_over u us may).queues })
    (with_waits r s u are (waits_over s ts may).waits (waits_over u us may).waits (waits_over s ts may).queues (waits_over u us may).queues waits queues) (waits_over s ts may).handing (waits_over u us may).handing
    (record {
      enough = let long = over_long ts s may in let most = are.handing.enough in omega (arith, long, most);
      count = over_long us u may ∙ (are.handing.count ∙ sym (over_long ts s may));
      each = λ x. hand x (cases_lt x (length s.handing));
    })))
  where
    wait_at : (c : Bool) (v : ℕ) → cond c None (fin.get u.waits (r v)) ≡ option_map (renamed_wait r) (cond c None (fin.get s.waits v))
    wait_at true v = refl
    wait_at false v = are.waits v

    waits : (v : ℕ) → fin.get (waits_over u us may).waits (r v) ≡ option_map (renamed_wait r) (fin.get (waits_over s ts may).waits v)
    waits v =
        over_wait us u may (r v)
        ∙ (ap (λ (c : Bool). cond c None (fin.get u.waits (r v))) (same v)
        ∙ (wait_at (among ts v) v ∙ ap (λ (o : Option Wait). option_map (renamed_wait r) o) (sym (over_wait ts s may v))))

    queues : (x : ℕ) → (waits_over u us may).queues (r x) ≡ map r ((waits_over s ts may).queues x)
    queues x =
        over_queue us u may (r x)
        ∙ (ap (λ (q : List ℕ). filter (λ (y : ℕ). not (among us y)) q) (are.queues x)
        ∙ (filter_mapped r (λ (y : ℕ). not (among ts y)) (λ (y : ℕ). not (among us y)) (λ (y : ℕ). ap not (same y)) (s.queues x)
        ∙ ap (λ (q : List ℕ). map r q) (sym (over_queue ts s may x))))

    hand : (x : ℕ) → (x < length s.handing) ⊎ (length s.handing ≤ x) → slice_index_or (waits_over u us may).handing (r x) false ≡ slice_index_or (waits_over s ts may).handing x false
    hand x (inl less) =
        let count = are.handing.count in
        let there : r x < length u.handing = let near = lt_there s.threads r are.renaming (length s.handing) x are.handing.enough less in omega (arith, near, count) in
        over_hand us u may (r x) there
        ∙ (ap (λ (c : Bool). if c then may else slice_index_or u.handing (r x) false) (same x)
        ∙ (ap (λ (c : Bool). if among ts x then may else c) (are.handing.each x) ∙ sym (over_hand ts s may x less)))
    hand x (inr most) =
        let count = are.handing.count in
        let enough = are.handing.enough in
        let still = are.renaming.outside x (omega (arith, enough, most)) in
        let long = over_long us u may in
        let other = over_long ts s may in
        past (waits_over u us may).handing (r x) false (omega (arith, long, count, still, most)) ∙ sym (past (waits_over s ts may).handing x false (omega (arith, other, most)))
