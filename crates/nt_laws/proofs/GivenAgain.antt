-- What numbers that are given again leave true: handles and waits name objects that live, and what lives is kept.
use Rattle.std.proofs.Common.{◌≡◌, ◌≢◌, ◌<◌, ℕ, ◌+◌, Bool, true, false, cond, not, ◌&&◌, ◌==◌, List, [], ◌∷◌, ◌++◌, length, set, length-append, refl, sym, ap, ◌∙◌, subst, arith, Some, None, inl, inr, ◌⊎◌, Contains}
use Rattle.std.specs.Prelude.{nat_lt}
use Rattle.std.proofs.lemmas.Bool.{cases_eq, false≢true}
use Rattle.std.proofs.lemmas.Bool.Decides.{nat_tests}
use Rattle.std.proofs.lemmas.List.{length-set, length-map, get_or-set_same, get_or-set_other}
use Rattle.nt_objects.specs.declared.object.Object.{Object}
use Rattle.nt_objects.specs.declared.object.Object.TheVariants.{Thread, Gone}
use Rattle.nt_tables.specs.declared.handles.Opened.{Opened}
use Rattle.nt_tables.specs.Handles.{opened_at}
use Rattle.nt_objects.specs.Object.{is_gone, has_ended, full_access}
use Rattle.nt_calls.specs.State.{State, object_at}
use Rattle.nt_calls.specs.Living.{is_kept, lives, LivesWhileKept}
use Rattle.nt_core.specs.Renewals.{opened_again, created_again}
use Rattle.nt_core.specs.SetAside.{named_instead, set_aside}
use Rattle.nt_machine.proofs.Changing.{object_at-set_same, object_at-set_other}
use Rattle.nt_machine.proofs.Remaining.{both, turned}
use Rattle.nt_core.proofs.Renumbering.{opened_instead, named_before}
use Rattle.nt_core.proofs.SettingAside.{MayMove}
use Rattle.nt_machine.proofs.Settling.{queue_there}
use Rattle.nt_laws.specs.Laws.{HasHandle, IsKept}
use Rattle.nt_laws.proofs.Keepers.{kept_by, is_kept_by, kept_lives}
use Rattle.nt_laws.proofs.Numbers.{opened_given}
use Rattle.nt_laws.proofs.Standing.{is_living, Stands, lives_there, living_below, living_longer, object_before, object_last}

-- what lives is kept, and what is kept lives
pub lives_kept : (s : State) → Stands s → ((o : ℕ) → lives s o ≡ true → IsKept s o) → LivesWhileKept s
lives_kept s sound kept o = go (lives s o) (is_kept s o) refl refl
  where
    go : (a b : Bool) → lives s o ≡ a → is_kept s o ≡ b → lives s o ≡ is_kept s o
    go true true p q = p ∙ sym q
    go true false p q = absurd (false≢true (sym q ∙ is_kept_by s o sound (kept o p)))
    go false true p q = absurd (false≢true (sym p ∙ kept_lives s sound o q))
    go false false p q = p ∙ sym q

-- what lives, in the words of the law
pub kept_as : (s : State) → Stands s → LivesWhileKept s → (o : ℕ) → lives s o ≡ true → IsKept s o
kept_as s sound living o is = kept_by s o sound (sym (living o) ∙ is)

-- an object that lives is not gone
pub not_gone_there : (objects : List Object) (o : ℕ) → is_living objects o ≡ true → is_gone (object_at objects o) ≡ false
not_gone_there objects o is = turned (is_gone (object_at objects o)) (both (nat_lt o (length objects)) (not (is_gone (object_at objects o))) is).1

-- what lives has another number than what is gone
pub living_apart : (objects : List Object) (o k : ℕ) → is_gone (object_at objects o) ≡ true → is_living objects k ≡ true → k ≢ o
living_apart objects o k gone is same = false≢true (sym (not_gone_there objects k is) ∙ (ap (λ i. is_gone (object_at objects i)) same ∙ gone))

-- ---- a handle is opened again

waits_not : {P : Type 0} (opened : Opened) → None ≡ Some opened → P
waits_not opened e = (cc)

-- where a closed handle's number names what lives, and all else that lives is kept
pub opened_stands : (s : State) (h o access : ℕ) → Stands s → h < length s.handles → opened_at s.handles h ≡ None → is_living s.objects o ≡ true → ((k : ℕ) → lives s k ≡ true → (k ≡ o) ⊎ IsKept s k) → Stands (opened_again s h o access) × LivesWhileKept (opened_again s h o access)
opened_stands s h o access sound known closed there others = (stands, lives_kept new stands kept)
  where
    opened : Opened
    opened = record { object = o; access = access }

    new : State
    new = opened_again s h o access

    stands : Stands (opened_again s h o access)
    stands =
        let long = length-set s.handles h (Some (record { object = o; access = access })) in
        let enough = sound.enough in
        record {
          enough = omega (arith, long, enough);
          own = sound.own;
          listed = sound.listed;
          pends = sound.pends;
          named = λ g other is. elim (opened_given s.handles h (record { object = o; access = access }) other g is) [
            | inl before ↦ sound.named g other before
            | inr is ↦ subst (λ (x : Opened). is_living s.objects x.object ≡ true) is there
          ];
          awaited = sound.awaited;
        }

    handle_on : (k : ℕ) → HasHandle s k → IsKept (opened_again s h o access) k
    handle_on k handle =
        let apart : handle.0 ≢ h = λ same. waits_not handle.1 (sym closed ∙ (ap (λ g. opened_at s.handles g) (sym same) ∙ handle.2)) in
        inl (handle.0, handle.1, get_or-set_other s.handles h handle.0 (Some (record { object = o; access = access })) None apart ∙ handle.2, handle.3)

    still : (k : ℕ) → (k ≡ o) ⊎ IsKept s k → IsKept (opened_again s h o access) k
    still k (inl here) =
        inl (h, record { object = o; access = access }, get_or-set_same s.handles h (Some (record { object = o; access = access })) None known, sym here)
    still k (inr (inl handle)) = handle_on k handle
    still k (inr (inr (inl wait))) = inr (inl wait)
    still k (inr (inr (inr running))) = inr (inr running)

    kept : (k : ℕ) → lives (opened_again s h o access) k ≡ true → IsKept (opened_again s h o access) k
    kept k is = still k (others k is)

-- ---- an object's number is given again

-- what lived lives on, where another object comes in the place of one that is gone
pub living_set : (objects : List Object) (o : ℕ) (x : Object) → o < length objects → is_gone x ≡ false → (k : ℕ) → is_living objects k ≡ true → is_living (set objects o x) k ≡ true
living_set objects o x known lives k is =
    let below = living_below objects k is in
    let long = length-set objects o x in
    elim (cases_eq k o) [
      | inl same ↦ lives_there (set objects o x) k x (omega (arith, below, long)) (ap (λ i. object_at (set objects o x) i) same ∙ object_at-set_same objects o x known) lives
      | inr apart ↦ lives_there (set objects o x) k (object_at objects k) (omega (arith, below, long)) (object_at-set_other objects o k x apart) (not_gone_there objects k is)
    ]

-- as before but at o
living_elsewhere : (objects : List Object) (o : ℕ) (x : Object) (k : ℕ) → k ≢ o → is_living (set objects o x) k ≡ is_living objects k
living_elsewhere objects o x k apart =
    ap (λ n. nat_lt k n && not (is_gone (object_at (set objects o x) k))) (length-set objects o x) ∙ ap (λ y. nat_lt k (length objects) && not (is_gone y)) (object_at-set_other objects o k x apart)

pub created_stands : (s : State) (o h : ℕ) (x : Object) → Stands s → LivesWhileKept s → o < length s.objects → is_gone (object_at s.objects o) ≡ true → h < length s.handles → opened_at s.handles h ≡ None → is_gone x ≡ false → Stands (created_again s o h x) × LivesWhileKept (created_again s o h x)
created_stands s o h x sound living known gone below closed there =
    opened_stands mid h o (full_access x) stands below closed
    (lives_there (set s.objects o x) o x (omega (arith, known, long)) (object_at-set_same s.objects o x known) there)
    others
  where
    mid : State
    mid = record s { objects = set s.objects o x }

    long : length (set s.objects o x) ≡ length s.objects
    long = length-set s.objects o x

    stands : Stands (record s { objects = set s.objects o x })
    stands =
        let enough = sound.enough in
        let own = sound.own in
        record {
          enough = omega (arith, long, enough);
          own = omega (arith, long, own);
          listed = sound.listed;
          pends = sound.pends;
          named = λ g opened is. living_set s.objects o x known there opened.object (sound.named g opened is);
          awaited = λ t k w is named. living_set s.objects o x known there k (sound.awaited t k w is named);
        }

    still : (k : ℕ) → k ≢ o → IsKept s k → IsKept (record s { objects = set s.objects o x }) k
    still k apart (inl handle) = inl handle
    still k apart (inr (inl wait)) = inr (inl wait)
    still k apart (inr (inr running)) = inr (inr (ap (λ y. nat_lt k s.threads && not (has_ended y)) (object_at-set_other s.objects o k x apart) ∙ running))

    others : (k : ℕ) → lives (record s { objects = set s.objects o x }) k ≡ true → (k ≡ o) ⊎ IsKept (record s { objects = set s.objects o x }) k
    others k is = elim (cases_eq k o) [
      | inl same ↦ inl same
      | inr apart ↦ inr (still k apart (kept_as s sound living k (sym (living_elsewhere s.objects o x k apart) ∙ is)))
    ]

-- ---- one object number more, of an object that is gone

pub added_stands : (s : State) → Stands s → LivesWhileKept s → length s.objects < length s.handles → Stands (record s { objects = s.objects ++ Gone ∷ [] }) × LivesWhileKept (record s { objects = s.objects ++ Gone ∷ [] })
added_stands s sound living room = (stands, lives_kept (record s { objects = s.objects ++ Gone ∷ [] }) stands kept)
  where
    long : length (s.objects ++ Gone ∷ []) ≡ length s.objects + 1
    long = length-append s.objects (Gone ∷ [])

    stands : Stands (record s { objects = s.objects ++ Gone ∷ [] })
    stands =
        let own = sound.own in
        record {
          enough = omega (arith, long, room);
          own = omega (arith, long, own);
          listed = sound.listed;
          pends = sound.pends;
          named = λ g opened is. living_longer s.objects Gone opened.object (sound.named g opened is);
          awaited = λ t k w is named. living_longer s.objects Gone k (sound.awaited t k w is named);
        }

    still : (k : ℕ) → IsKept s k → IsKept (record s { objects = s.objects ++ Gone ∷ [] }) k
    still k (inl handle) = inl handle
    still k (inr (inl wait)) = inr (inl wait)
    still k (inr (inr running)) =
        let test = (both (nat_lt k s.threads) (not (has_ended (object_at s.objects k))) running).0 in
        let below : k < s.threads = grind (arith, nat_tests, test) in
        let own = sound.own in
        inr (inr (ap (λ y. nat_lt k s.threads && not (has_ended y)) (object_before s.objects (Gone ∷ []) k (omega (arith, below, own))) ∙ running))

    kept : (k : ℕ) → lives (record s { objects = s.objects ++ Gone ∷ [] }) k ≡ true → IsKept (record s { objects = s.objects ++ Gone ∷ [] }) k
    kept k is =
        let below = living_below (s.objects ++ Gone ∷ []) k is in
        let there = not_gone_there (s.objects ++ Gone ∷ []) k is in
        elim (cases_eq k (length s.objects)) [
          | inl same ↦ absurd (false≢true (sym there ∙ (ap (λ i. is_gone (object_at (s.objects ++ Gone ∷ []) i)) same ∙ ap is_gone (object_last s.objects Gone))))
          | inr apart ↦
              let before : k < length s.objects = omega (arith, below, long, apart) in
              still k (kept_as s sound living k (lives_there s.objects k (object_at s.objects k) before refl (sym (ap is_gone (object_before s.objects (Gone ∷ []) k before)) ∙ there)))
        ]

-- ---- an ended thread's object gets another number

-- the objects then
abbrev moved : List Object → ℕ → ℕ → List Object
moved objects t o = set (set objects o (object_at objects t)) t Gone

moved_long : (objects : List Object) (t o : ℕ) → length (moved objects t o) ≡ length objects
moved_long objects t o = length-set (set objects o (object_at objects t)) t Gone ∙ length-set objects o (object_at objects t)

pub moved_other : (objects : List Object) (t o k : ℕ) → k ≢ t → k ≢ o → object_at (moved objects t o) k ≡ object_at objects k
moved_other objects t o k from to =
    object_at-set_other (set objects o (object_at objects t)) t k Gone from ∙ object_at-set_other objects o k (object_at objects t) to

pub moved_there : (objects : List Object) (t o : ℕ) → o ≢ t → o < length objects → object_at (moved objects t o) o ≡ object_at objects t
moved_there objects t o apart known =
    object_at-set_other (set objects o (object_at objects t)) t o Gone apart ∙ object_at-set_same objects o (object_at objects t) known

pub moved_from : (objects : List Object) (t o : ℕ) → t < length objects → object_at (moved objects t o) t ≡ Gone
moved_from objects t o known =
    let long = length-set objects o (object_at objects t) in
    object_at-set_same (set objects o (object_at objects t)) t Gone (omega (arith, known, long))

pub moved_stands : (s : State) (t o : ℕ) → Stands s → LivesWhileKept s → MayMove s t o → Stands (set_aside s t o) × LivesWhileKept (set_aside s t o)
moved_stands s t o sound living may = (stands, lives_kept (set_aside s t o) stands kept)
  where
    long : length (moved s.objects t o) ≡ length s.objects
    long = moved_long s.objects t o

    apart : o ≢ t
    apart same = let a = may.below in let b = may.beyond in omega (arith, a, b, same)

    gone : is_gone (object_at s.objects o) ≡ true
    gone = ap is_gone may.vacant

    -- another object lives on
    living_on : (k : ℕ) → k ≢ t → is_living s.objects k ≡ true → is_living (moved s.objects t o) k ≡ true
    living_on k from is =
        let below = living_below s.objects k is in
        lives_there (moved s.objects t o) k (object_at s.objects k) (omega (arith, below, long)) (moved_other s.objects t o k from (living_apart s.objects o k gone is)) (not_gone_there s.objects k is)

    living_there : is_living (moved s.objects t o) o ≡ true
    living_there =
        let known = may.there in
        lives_there (moved s.objects t o) o (object_at s.objects t) (omega (arith, known, long)) (moved_there s.objects t o apart known) (ap is_gone may.ended)

    unawaited : (k u : ℕ) → Contains (s.queues k) u → k ≢ t
    unawaited k u member same = false≢true (sym may.unawaited ∙ queue_there (s.queues t) u (subst (λ i. Contains (s.queues i) u) same member))

    stands : Stands (set_aside s t o)
    stands =
        let enough = sound.enough in
        let own = sound.own in
        let handles = length-map s.handles (named_instead t o) in
        record {
          enough = omega (arith, long, enough, handles);
          own = omega (arith, long, own);
          listed = sound.listed;
          pends = sound.pends;
          named = λ g opened is.
              let before = named_before t o s.handles g opened is in
              elim before.object [
                | inl here ↦ subst (λ k. is_living (moved s.objects t o) k ≡ true) (sym here.1) living_there
                | inr stayed ↦ subst (λ k. is_living (moved s.objects t o) k ≡ true) (sym stayed.1) (living_on before.was.object stayed.0 (sound.named g before.was before.there))
              ];
          awaited = λ u k w is named. living_on k (unawaited k u (sound.listed u k w is named)) (sound.awaited u k w is named);
        }

    moved_handle : (k : ℕ) (opened new : Opened) (g : ℕ) → opened_at s.handles g ≡ Some opened → named_instead t o (Some opened) ≡ Some new → new.object ≡ k → HasHandle (set_aside s t o) k
    moved_handle k opened new g is renamed here = (g, new, opened_instead t o s.handles g ∙ (ap (named_instead t o) is ∙ renamed), here)

    -- a handle that named the object names it there
    handle_there : HasHandle s t → HasHandle (set_aside s t o) o
    handle_there handle =
        let here = handle.3 in
        let test : (handle.1.object == t) ≡ true = grind (arith, nat_tests, here) in
        moved_handle o handle.1 (record { object = o; access = handle.1.access }) handle.0 handle.2 (ap (λ b. Some (record { object = cond b o handle.1.object; access = handle.1.access })) test) refl

    handle_on : (k : ℕ) → k ≢ t → HasHandle s k → HasHandle (set_aside s t o) k
    handle_on k from handle =
        let here = handle.3 in
        let test : (handle.1.object == t) ≡ false = grind (arith, nat_tests, here, from) in
        moved_handle k handle.1 handle.1 handle.0 handle.2 (ap (λ b. Some (record { object = cond b o handle.1.object; access = handle.1.access })) test) here

    still : (k : ℕ) → k ≢ t → k ≢ o → IsKept s k → IsKept (set_aside s t o) k
    still k from to (inl handle) = inl (handle_on k from handle)
    still k from to (inr (inl wait)) = inr (inl wait)
    still k from to (inr (inr running)) = inr (inr (ap (λ y. nat_lt k s.threads && not (has_ended y)) (moved_other s.objects t o k from to) ∙ running))

    -- it was kept by handles alone
    opened_there : IsKept s t → IsKept (set_aside s t o) o
    opened_there (inl handle) = inl (handle_there handle)
    opened_there (inr (inl wait)) = absurd (unawaited t wait.0 (sound.listed wait.0 t wait.1 wait.2 wait.3) refl)
    opened_there (inr (inr running)) =
        absurd (false≢true (sym (turned (has_ended (object_at s.objects t)) (both (nat_lt t s.threads) (not (has_ended (object_at s.objects t))) running).1) ∙ ap has_ended may.ended))

    thread_lives : lives s t ≡ true
    thread_lives =
        let below = may.below in
        let own = sound.own in
        lives_there s.objects t (Thread true) (omega (arith, below, own)) may.ended refl

    kept : (k : ℕ) → lives (set_aside s t o) k ≡ true → IsKept (set_aside s t o) k
    kept k is = elim (cases_eq k t) [
      | inl own ↦
          let below = may.below in
          let enough = sound.own in
          absurd (living_apart (moved s.objects t o) t k (ap is_gone (moved_from s.objects t o (omega (arith, below, enough)))) is own)
      | inr from ↦ elim (cases_eq k o) [
        | inl here ↦ subst (IsKept (set_aside s t o)) (sym here) (opened_there (kept_as s sound living t thread_lives))
        | inr to ↦
            let below = living_below (moved s.objects t o) k is in
            still k from to
            (kept_as s sound living k
            (lives_there s.objects k (object_at s.objects k) (omega (arith, below, long)) refl
            (sym (ap is_gone (moved_other s.objects t o k from to)) ∙ not_gone_there (moved s.objects t o) k is)))
      ]
    ]
