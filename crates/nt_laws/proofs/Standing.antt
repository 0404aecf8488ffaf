-- Handles and waits name objects that live, whatever calls and ticks do.
use Rattle.std.proofs.Common.{◌≡◌, ◌≢◌, ◌≤◌, ◌<◌, ℕ, zero, suc, ◌+◌, Bool, true, false, cond, not, ◌&&◌, List, [], ◌∷◌, ◌++◌, length, length-append, refl, sym, ap, ◌∙◌, subst, arith, Option, Some, None, inl, inr, ◌⊎◌, Contains}
use Rattle.std.specs.Prelude.{nat_lt}
use Rattle.std.specs.FinMap.{get, insert, remove, get-insert, get-remove}
use Rattle.std.specs.Cmp.{unsigned_tied, nat_cmp_total}
use Rattle.std.specs.Ordering.{nat_cmp, eq_by_cmp}
use Rattle.std.proofs.lemmas.Bool.Decides.{nat_tests}
use Rattle.nt_waits.specs.declared.wait.Wait.{Wait}
use Rattle.nt_waits.specs.Waits.{Names}
use Rattle.nt_objects.specs.declared.object.Object.{Object}
use Rattle.nt_tables.specs.declared.handles.Opened.{Opened}
use Rattle.nt_tables.specs.Handles.{opened_at}
use Rattle.nt_objects.specs.Object.{is_gone}
use Rattle.nt_calls.specs.declared.call.Call.{Call}
use Rattle.nt_calls.specs.State.{State, Pending, object_at, wait_names, pending_no_more, pending_too}
use Rattle.nt_calls.specs.Change.{created, opened_too, handle_closed}
use Rattle.nt_waits.proofs.OthersLemmas.{member_others, member_of_others}
use Rattle.nt_machine.proofs.Beginning.{get_inserted, names_yes, names_no}
use Rattle.nt_machine.proofs.Walks.{get_removed, get_other}
use Rattle.nt_machine.proofs.Remaining.{both, turned}
use Rattle.nt_laws.proofs.Lasting.{SameLife, Lasts}
use Rattle.nt_laws.proofs.CallKinds.{IsCreated, IsDuplicated, IsSame, Kind}
use Rattle.nt_laws.proofs.Numbers.{opened_more, opened_still}
use Rattle.std.proofs.lemmas.List.{length-set}
use Rattle.std.proofs.lemmas.List.Elements.{Contains-push, Contains-push_cases, Contains-append_left}

-- there is an object with this number, which is not gone
abbrev pub is_living : List Object → ℕ → Bool
is_living objects o = nat_lt o (length objects) && not (is_gone (object_at objects o))

-- of the parts of a state: queues are those of the pending waits, and what a handle or a wait names lives
pub record IsSound (threads : ℕ) (handles : List (Option Opened)) (objects : List Object) (waits : Pending) (queues : ℕ → List ℕ) : Type 0 where
  -- each object was created with a handle, and each thread has an object
  pub enough : length objects ≤ length handles
  pub own : threads ≤ length objects
  -- a thread stands in the queue of an object exactly where its pending wait names it
  pub listed : (t o : ℕ) (w : Wait) → get waits t ≡ Some w → Names w o → Contains (queues o) t
  pub pends : (t o : ℕ) → Contains (queues o) t → (w : Wait) × (get waits t ≡ Some w) × Names w o
  pub named : (h : ℕ) (opened : Opened) → opened_at handles h ≡ Some opened → is_living objects opened.object ≡ true
  pub awaited : (t o : ℕ) (w : Wait) → get waits t ≡ Some w → Names w o → is_living objects o ≡ true

abbrev pub Stands : State → Type 0
Stands s = IsSound s.threads s.handles s.objects s.waits s.queues

-- ---- what lives, lives on

same_living : (old new : List Object) → SameLife old new → (o : ℕ) → is_living new o ≡ is_living old o
same_living old new life o =
    ap (λ n. nat_lt o n && not (is_gone (object_at new o))) life.count ∙ ap (λ b. nat_lt o (length old) && not b) (life.gone o)

pub living_below : (objects : List Object) (o : ℕ) → is_living objects o ≡ true → o < length objects
living_below objects o is = let test = (both (nat_lt o (length objects)) (not (is_gone (object_at objects o))) is).0 in grind (arith, nat_tests, test)

pub object_before : (objects more : List Object) (o : ℕ) → o < length objects → object_at (objects ++ more) o ≡ object_at objects o
object_before [] more o below = absurd (omega (arith, below))
object_before (x ∷ objects) more zero below = refl
object_before (x ∷ objects) more (suc o) below = object_before objects more o (omega (arith, below))

pub object_last : (objects : List Object) (last : Object) → object_at (objects ++ last ∷ []) (length objects) ≡ last
object_last [] last = refl
object_last (x ∷ objects) last = object_last objects last

pub lives_there : (objects : List Object) (o : ℕ) (there : Object) → o < length objects → object_at objects o ≡ there → is_gone there ≡ false → is_living objects o ≡ true
lives_there objects o there below is lives =
    let less : nat_lt o (length objects) ≡ true = grind (arith, nat_tests, below) in
    ap (λ b. b && not (is_gone (object_at objects o))) less ∙ ap (λ b. not b) (ap is_gone is ∙ lives)

pub living_longer : (objects : List Object) (last : Object) (o : ℕ) → is_living objects o ≡ true → is_living (objects ++ last ∷ []) o ≡ true
living_longer objects last o is =
    let below = living_below objects o is in
    let count : length (objects ++ last ∷ []) ≡ length objects + 1 = length-append objects (last ∷ []) in
    lives_there (objects ++ last ∷ []) o (object_at objects o) (omega (arith, below, count)) (object_before objects (last ∷ []) o below)
    (turned (is_gone (object_at objects o)) (both (nat_lt o (length objects)) (not (is_gone (object_at objects o))) is).1)

-- ---- what serving, alerts and deadlines leave true

pub stands_along : (threads : ℕ) (handles : List (Option Opened)) (old new : List Object) (waits : Pending) (queues : ℕ → List ℕ) → SameLife old new → IsSound threads handles old waits queues → IsSound threads handles new waits queues
stands_along threads handles old new waits queues life sound =
    let count = life.count in
    let enough = sound.enough in
    let own = sound.own in
    record {
      enough = omega (arith, count, enough);
      own = omega (arith, count, own);
      listed = sound.listed;
      pends = sound.pends;
      named = λ h opened is. same_living old new life opened.object ∙ sound.named h opened is;
      awaited = λ t o w is named. same_living old new life o ∙ sound.awaited t o w is named;
    }

stands_over : (s : State) (t : ℕ) → Stands s → Stands (pending_no_more s t)
stands_over s t sound = record {
  enough = sound.enough;
  own = sound.own;
  listed = λ u o w is named.
      let before = get_removed s.waits t u w is in
      member_others t u (s.queues o) before.0 (sound.listed u o w before.1 named);
  pends = λ u o member.
      let before = member_of_others t u (s.queues o) member in
      let wait = sound.pends u o before.0 in
      (wait.0, get_other s.waits t u before.1 ∙ wait.1, wait.2);
  named = sound.named;
  awaited = λ u o w is named. sound.awaited u o w (get_removed s.waits t u w is).1 named;
}

-- the thread does not wait, and what lived lives
pub record IsIdle (t : ℕ) (old s : State) : Type 0 where
  pub stands : Stands s
  pub idle : get s.waits t ≡ None
  pub lives : (o : ℕ) → is_living old.objects o ≡ true → is_living s.objects o ≡ true

removed_idle : (waits : Pending) (t u : ℕ) → get waits t ≡ None → get (remove waits u) t ≡ None
removed_idle waits t u idle = get-remove nat_cmp_total waits u t ∙ go (eq_by_cmp nat_cmp t u)
  where
    go : (b : Bool) → cond b None (get waits t) ≡ None
    go true = refl
    go false = idle

pub idle_lasts : (t : ℕ) (old : State) → Lasts (IsIdle t old)
idle_lasts t old = record {
  objects = λ s os life here. record {
    stands = stands_along s.threads s.handles s.objects os s.waits s.queues life here.stands;
    idle = here.idle;
    lives = λ o is. same_living s.objects os life o ∙ here.lives o is;
  };
  apcs = λ s queues here. record { stands = here.stands; idle = here.idle; lives = here.lives };
  handing = λ s u may here. record { stands = here.stands; idle = here.idle; lives = here.lives };
  over = λ s u here. record { stands = stands_over s u here.stands; idle = removed_idle s.waits t u here.idle; lives = here.lives };
  now = λ s m here. record { stands = here.stands; idle = here.idle; lives = here.lives };
}

pub stands_last : Lasts Stands
stands_last = record {
  objects = λ s os life here. stands_along s.threads s.handles s.objects os s.waits s.queues life here;
  apcs = λ s queues here. here;
  handing = λ s u may here. here;
  over = λ s u here. stands_over s u here;
  now = λ s m here. here;
}

-- ---- a wait that begins to pend

inserted_here : (waits : Pending) (t : ℕ) (w : Wait) → get (insert waits t w) t ≡ Some w
inserted_here waits t w = get-insert nat_cmp_total waits t w t ∙ rw tied refl
  where
    tied : eq_by_cmp nat_cmp t t ≡ true
    tied = unsigned_tied t t ∙ (grind (arith, nat_tests))

inserted_other : (waits : Pending) (t u : ℕ) (w : Wait) → u ≢ t → get (insert waits t w) u ≡ get waits u
inserted_other waits t u w differs = get-insert nat_cmp_total waits t w u ∙ rw apart refl
  where
    apart : eq_by_cmp nat_cmp u t ≡ false
    apart = unsigned_tied u t ∙ (grind (arith, nat_tests, differs))

pub stands_pending : (s : State) (t : ℕ) (w : Wait) → Stands s → get s.waits t ≡ None → ((o : ℕ) → Names w o → is_living s.objects o ≡ true) → Stands (pending_too s t w)
stands_pending s t w sound idle living = record {
  enough = sound.enough;
  own = sound.own;
  listed = λ u o v is named. listed u o v (get_inserted s.waits t u w v is) named (wait_names w o) refl;
  pends = λ u o member. pends u o (wait_names w o) refl member;
  named = sound.named;
  awaited = λ u o v is named. elim (get_inserted s.waits t u w v is) [
    | inl own ↦ living o (subst (λ (x : Wait). Names x o) (sym own.1) named)
    | inr before ↦ sound.awaited u o v before named
  ];
}
  where
    listed : (u o : ℕ) (v : Wait) → ((u ≡ t) × (w ≡ v)) ⊎ (get s.waits u ≡ Some v) → Names v o → (b : Bool) → wait_names w o ≡ b → Contains (cond (wait_names w o) (s.queues o ++ t ∷ []) (s.queues o)) u
    listed u o v (inl own) named true is = rw is (subst (λ k. Contains (s.queues o ++ t ∷ []) k) (sym own.0) (Contains-push (s.queues o) t))
    listed u o v (inl own) named false is =
        let mine : Names w o = subst (λ (x : Wait). Names x o) (sym own.1) named in
        absurd (names_no w.objects o is mine.0 mine.1 mine.2)
    listed u o v (inr before) named true is = rw is (Contains-append_left (s.queues o) (t ∷ []) u (sound.listed u o v before named))
    listed u o v (inr before) named false is = rw is (sound.listed u o v before named)

    waits_not : {P : Type 0} (v : Wait) → None ≡ Some v → P
    waits_not v e = (cc)

    kept : (u o : ℕ) → Contains (s.queues o) u → (v : Wait) × (get (insert s.waits t w) u ≡ Some v) × Names v o
    kept u o member =
        let wait = sound.pends u o member in
        (wait.0, inserted_other s.waits t u w (λ same. waits_not wait.0 (sym idle ∙ (ap (λ k. get s.waits k) (sym same) ∙ wait.1))) ∙ wait.1, wait.2)

    pends : (u o : ℕ) (b : Bool) → wait_names w o ≡ b → Contains (cond (wait_names w o) (s.queues o ++ t ∷ []) (s.queues o)) u → (v : Wait) × (get (insert s.waits t w) u ≡ Some v) × Names v o
    pends u o true is member =
        let there : Contains (s.queues o ++ t ∷ []) u = rw is at member in
        elim (Contains-push_cases (s.queues o) t u there) [
          | inl before ↦ kept u o before
          | inr here ↦ (w, subst (λ k. get (insert s.waits t w) k ≡ Some w) here (inserted_here s.waits t w), names_yes w.objects o is)
        ]
    pends u o false is member = kept u o (rw is at member)

-- ---- the change of a call

stands_created : (s : State) (object : Object) → is_gone object ≡ false → Stands s → Stands (created s object)
stands_created s object lives sound =
    let handles : length (created s object).handles ≡ length s.handles + 1 = length-append s.handles _ in
    let objects : length (s.objects ++ object ∷ []) ≡ length s.objects + 1 = length-append s.objects (object ∷ []) in
    let enough = sound.enough in
    let own = sound.own in
    record {
      enough = omega (arith, handles, objects, enough);
      own = omega (arith, objects, own);
      listed = sound.listed;
      pends = sound.pends;
      named = λ h opened is. elim (opened_more s.handles _ opened h is) [
        | inl before ↦ living_longer s.objects object opened.object (sound.named h opened before)
        | inr last ↦
            subst (λ (x : Opened). is_living (s.objects ++ object ∷ []) x.object ≡ true) last
            (lives_there (s.objects ++ object ∷ []) (length s.objects) object (omega (arith, objects)) (object_last s.objects object) lives)
      ];
      awaited = λ t o w is named. living_longer s.objects object o (sound.awaited t o w is named);
    }

stands_opened : (s : State) (o access : ℕ) → is_living s.objects o ≡ true → Stands s → Stands (opened_too s o access)
stands_opened s o access lives sound =
    let handles : length (opened_too s o access).handles ≡ length s.handles + 1 = length-append s.handles _ in
    let enough = sound.enough in
    record {
      enough = omega (arith, handles, enough);
      own = sound.own;
      listed = sound.listed;
      pends = sound.pends;
      named = λ h opened is. elim (opened_more s.handles _ opened h is) [
        | inl before ↦ sound.named h opened before
        | inr last ↦ subst (λ (x : Opened). is_living s.objects x.object ≡ true) last lives
      ];
      awaited = sound.awaited;
    }

stands_closed : (s : State) (g : ℕ) → Stands s → Stands (handle_closed s g)
stands_closed s g sound =
    let count = length-set s.handles g None in
    let enough = sound.enough in
    record {
      enough = omega (arith, count, enough);
      own = sound.own;
      listed = sound.listed;
      pends = sound.pends;
      named = λ h opened is. sound.named h opened (opened_still s.handles g h opened is);
      awaited = sound.awaited;
    }

living_created : (s : State) (object : Object) (o : ℕ) → is_living s.objects o ≡ true → is_living (created s object).objects o ≡ true
living_created s object o is = living_longer s.objects object o is

same_stands : (s new : State) → IsSame s new → Stands s → Stands new
same_stands s new same sound =
    subst (λ n. IsSound n new.handles new.objects new.waits new.queues) (sym same.threads)
    (subst (λ hs. IsSound s.threads hs new.objects new.waits new.queues) (sym same.handles)
    (subst (λ m. IsSound s.threads s.handles new.objects m new.queues) (sym same.waits)
    (subst (λ qs. IsSound s.threads s.handles new.objects s.waits qs) (sym same.queues)
    (stands_along s.threads s.handles s.objects new.objects s.waits s.queues same.life sound))))

-- whoever does not wait before the change of its call does not after it, and what lived lives
pub changed_idle : (s new : State) (t : ℕ) (call : Call) → Kind call s new → Stands s → get s.waits t ≡ None → IsIdle t s new
changed_idle s new t call (inl other) sound idle = go other.1
  where
    go : IsCreated s new ⊎ (IsDuplicated s new ⊎ IsSame s new) → IsIdle t s new
    go (inl made) = subst (IsIdle t s) (sym made.is) (record {
      stands = stands_created s made.object made.lives sound;
      idle = idle;
      lives = living_created s made.object;
    })
    go (inr (inl more)) = subst (IsIdle t s) (sym more.is) (record {
      stands = stands_opened s more.opened.object more.access (sound.named more.source more.opened more.named) sound;
      idle = idle;
      lives = λ o is. is;
    })
    go (inr (inr same)) = record {
      stands = same_stands s new same sound;
      idle = ap (λ (m : Pending). get m t) same.waits ∙ idle;
      lives = λ o is. same_living s.objects new.objects same.life o ∙ is;
    }
changed_idle s new t call (inr closed) sound idle = subst (IsIdle t s) (sym closed.is) (record {
  stands = stands_closed s closed.handle sound;
  idle = idle;
  lives = λ o is. is;
})
