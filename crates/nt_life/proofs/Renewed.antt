-- What becomes of the spare numbers where numbers are given again.
use Rattle.std.proofs.Common.{◌≡◌, ◌≤◌, ◌<◌, ℕ, zero, suc, ◌+◌, ◌==◌, Bool, true, false, not, ◌&&◌, ◌||◌, List, [], ◌∷◌, length, set, refl, sym, ap, ◌∙◌, arith, Option, Some, None}
use Rattle.std.specs.Prelude.{nat_lt, nat_le, is_err, is_none}
use Rattle.std.specs.declared.result.Result.{Result}
use Rattle.std.specs.declared.result.Result.TheVariants.{Ok, Err}
use Rattle.std.proofs.lemmas.Bool.{false≢true}
use Rattle.std.proofs.lemmas.Bool.Decides.{nat_tests}
use Rattle.std.proofs.lemmas.List.{length-set, length-replicate}
use Rattle.nt_status.specs.Access.{access_bits}
use Rattle.nt_status.specs.Flags.{only_known}
use Rattle.nt_status.specs.declared.refusal.Refusal.{Refusal}
use Rattle.nt_status.specs.declared.refusal.Refusal.TheVariants.{AccessDenied, InvalidHandle, InvalidParameter}
use Rattle.nt_tables.specs.declared.handles.Opened.{Opened}
use Rattle.nt_objects.specs.declared.object.Object.TheVariants.{Thread}
use Rattle.nt_tables.specs.Handles.{opened_at, count_named, own_handles}
use Rattle.nt_tables.proofs.Counting.{weight, counted_again}
use Rattle.nt_calls.specs.declared.call.Act.{Act}
use Rattle.nt_calls.specs.declared.call.Call.{Call}
use Rattle.nt_calls.specs.declared.call.Reply.{Reply}
use Rattle.nt_calls.specs.declared.call.Grant.{Grant}
use Rattle.nt_objects.specs.Object.{is_gone, full_access}
use Rattle.nt_apc.specs.Queues.{has_apc}
use Rattle.nt_calls.specs.State.{State, opening, object_at}
use Rattle.nt_calls.specs.Naming.{object_named, object_in, lacks}
use Rattle.nt_calls.specs.Living.{is_opened}
use Rattle.nt_calls.specs.Refusals.{first_of_causes, refusal}
use Rattle.nt_core.specs.Renewals.{is_closed, is_vacant, creation, created_by, or_else, is_left, CreatesAgain, DuplicatesAgain, BeginsAgain}
use Rattle.nt_machine.proofs.Accepting.{next_causes}
use Rattle.nt_machine.proofs.Lives.{counted_opened}
use Rattle.nt_machine.proofs.Remaining.{both}
use Rattle.nt_life.specs.Lasting.{Spares, IsSpare, times, is_unnamed}
use Rattle.nt_life.proofs.Spares.{handles_given, objects_given, objects_shared, objects_begun, closed_more}

-- no cause of its own, where there is no cause
no_first : (a b : Option Refusal) → or_else a b ≡ None → b ≡ None
no_first None b e = e
no_first (Some r) b e = none_here r e
  where
    none_here : {P : Type 0} (r : Refusal) → Some r ≡ None → P
    none_here r h = (cc)

unturned : (b : Bool) → not b ≡ false → b ≡ true
unturned true e = refl
unturned false e = absurd (false≢true (sym e))

is_none_of : (o : Option Opened) → is_none o ≡ true → o ≡ None
is_none_of None is = refl
is_none_of (Some opened) is = absurd (false≢true is)

has_some : (o : Option Opened) → is_none o ≡ false → (opened : Opened) × (o ≡ Some opened)
has_some None e = absurd (false≢true (sym e))
has_some (Some opened) e = (opened, refl)

closed_parts : (s : State) (h : ℕ) → is_closed s h ≡ true → (h < length s.handles) × (opened_at s.handles h ≡ None)
closed_parts s h is =
    let two = both (nat_lt h (length s.handles)) (is_none (opened_at s.handles h)) is in
    (let test = two.0 in grind (arith, nat_tests, test), is_none_of (opened_at s.handles h) two.1)

-- what is given was free
pub created_free : (old : State) (who : ℕ) (act : Act) (o h : ℕ) (reply : Reply) (grants : List Grant) (new : State) → CreatesAgain old who act o h (Ok reply) grants new → (is_vacant old o ≡ true) × (is_closed old h ≡ true)
created_free old who act o h reply grants new created =
    let own = no_first (refusal old who false Call.Exit) (first_of_causes ((is_none (creation who act), InvalidParameter) ∷ (not (is_vacant old o && is_closed old h), InvalidHandle) ∷ [])) created.0 in
    let first = next_causes (is_none (creation who act)) InvalidParameter ((not (is_vacant old o && is_closed old h), InvalidHandle) ∷ []) own in
    let second = next_causes (not (is_vacant old o && is_closed old h)) InvalidHandle [] first.1 in
    both (is_vacant old o) (is_closed old h) (unturned (is_vacant old o && is_closed old h) second.0)

-- the handle was closed, and its source names something
pub duplicated_free : (old : State) (who source access h : ℕ) (reply : Reply) (grants : List Grant) (new : State) → DuplicatesAgain old who source access h (Ok reply) grants new → (is_none (opened_at old.handles source) ≡ false) × (is_closed old h ≡ true)
duplicated_free old who source access h reply grants new duplicated =
    let own = no_first (refusal old who false Call.Exit) (first_of_causes ((is_none (opened_at old.handles source), InvalidHandle) ∷ (lacks access old.handles source || not (only_known access_bits access), AccessDenied) ∷ (not (is_closed old h), InvalidHandle) ∷ [])) duplicated.0 in
    let first = next_causes (is_none (opened_at old.handles source)) InvalidHandle ((lacks access old.handles source || not (only_known access_bits access), AccessDenied) ∷ (not (is_closed old h), InvalidHandle) ∷ []) own in
    let second = next_causes (lacks access old.handles source || not (only_known access_bits access)) AccessDenied ((not (is_closed old h), InvalidHandle) ∷ []) first.1 in
    let third = next_causes (not (is_closed old h)) InvalidHandle [] second.1 in
    (first.0, unturned (is_closed old h) third.0)

-- a thread's place and its handle were free
pub begun_free : (old : State) (t h : ℕ) (reply : Reply) (grants : List Grant) (new : State) → BeginsAgain old t h (Ok reply) grants new → (is_left old t ≡ true) × (is_closed old h ≡ true)
begun_free old t h reply grants new begun =
    let first = next_causes (not (is_left old t && is_closed old h)) InvalidHandle [] begun.0 in
    both (is_left old t) (is_closed old h) (unturned (is_left old t && is_closed old h) first.0)

pub created_spare : (old new : State) (who : ℕ) (act : Act) (o h : ℕ) (reply : Reply) (grants : List Grant) (spare after : Spares) → IsSpare old spare → CreatesAgain old who act o h (Ok reply) grants new → ((n : ℕ) → times n after.closed + weight (h == n) ≡ times n spare.closed) → ((n : ℕ) → times n after.unnamed + weight (o == n) ≡ times n spare.unnamed) → IsSpare new after
created_spare old new who act o h reply grants spare after is created closed unnamed =
    let free = created_free old who act o h reply grants new created in
    let parts = closed_parts old h free.1 in
    let x = created_by (creation who act) in
    let handles : new.handles ≡ set old.handles h (Some (record { object = o; access = full_access x })) = ap (λ (s : State). s.handles) created.3 in
    record {
      handles = handles_given old new spare after.closed h (record { object = o; access = full_access x }) is parts.0 parts.1 handles closed;
      objects = objects_given old new spare after.unnamed h (record { object = o; access = full_access x }) is parts.0 parts.1 handles (ap (λ (s : State). s.threads) created.3) (ap (λ (s : State). length s.objects) created.3 ∙ length-set old.objects o x) unnamed;
    }

pub duplicated_spare : (old new : State) (who source access h : ℕ) (reply : Reply) (grants : List Grant) (spare after : Spares) → IsSpare old spare → DuplicatesAgain old who source access h (Ok reply) grants new → ((n : ℕ) → times n after.closed + weight (h == n) ≡ times n spare.closed) → after.unnamed ≡ spare.unnamed → IsSpare new after
duplicated_spare old new who source access h reply grants spare after is duplicated closed unnamed =
    let free = duplicated_free old who source access h reply grants new duplicated in
    let parts = closed_parts old h free.1 in
    let there = has_some (opened_at old.handles source) free.0 in
    let o = object_named old.handles source in
    let named : is_opened old o ≡ true = ap (λ (x : Option Opened). is_opened old (object_in x)) there.1 ∙ counted_opened old.handles source there.0 there.1 in
    let handles : new.handles ≡ set old.handles h (Some (record { object = o; access = access })) = ap (λ (s : State). s.handles) duplicated.3 in
    record {
      handles = handles_given old new spare after.closed h (record { object = o; access = access }) is parts.0 parts.1 handles closed;
      objects = λ n. ap (λ ns. times n ns) unnamed ∙ objects_shared old new spare (record { object = o; access = access }) is named (λ k. ap (λ hs. count_named hs k) handles ∙ counted_again old.handles h (record { object = o; access = access }) k parts.0 parts.1) (ap (λ (s : State). s.threads) duplicated.3) (ap (λ (s : State). length s.objects) duplicated.3) n;
    }

pub begun_spare : (old new : State) (t h : ℕ) (reply : Reply) (grants : List Grant) (spare after : Spares) → IsSpare old spare → BeginsAgain old t h (Ok reply) grants new → ((n : ℕ) → times n after.closed + weight (h == n) ≡ times n spare.closed) → after.unnamed ≡ spare.unnamed → IsSpare new after
begun_spare old new t h reply grants spare after is begun closed unnamed =
    let free = begun_free old t h reply grants new begun in
    let parts = closed_parts old h free.1 in
    let below = both (nat_lt t old.threads) (is_gone (object_at old.objects t) && not (has_apc old.apcs t)) free.0 in
    let opened : Opened = record { object = t; access = full_access (Thread false) } in
    let handles : new.handles ≡ set old.handles h (Some opened) = ap (λ (s : State). s.handles) begun.3 in
    record {
      handles = handles_given old new spare after.closed h opened is parts.0 parts.1 handles closed;
      objects = λ n. ap (λ ns. times n ns) unnamed ∙ objects_begun old new spare opened is (let test = below.0 in grind (arith, nat_tests, test)) (λ k. ap (λ hs. count_named hs k) handles ∙ counted_again old.handles h opened k parts.0 parts.1) (ap (λ (s : State). s.threads) begun.3) (ap (λ (s : State). length s.objects) begun.3 ∙ length-set old.objects t (Thread false)) n;
    }

-- the same of any answer that is no refusal
pub begun_spared : (old new : State) (t h : ℕ) (result : Result Reply Refusal) (grants : List Grant) (spare after : Spares) → is_err result ≡ false → IsSpare old spare → BeginsAgain old t h result grants new
    → ((n : ℕ) → times n after.closed + weight (h == n) ≡ times n spare.closed) → after.unnamed ≡ spare.unnamed → IsSpare new after
begun_spared old new t h (Ok reply) grants spare after told is begun closed unnamed = begun_spare old new t h reply grants spare after is begun closed unnamed
begun_spared old new t h (Err cause) grants spare after told is begun closed unnamed = absurd (false≢true (sym told))

-- a beginning at a closed handle is refused if the place is not free
pub begun_not : (old new : State) (t h : ℕ) (result : Result Reply Refusal) (grants : List Grant) → is_err result ≡ true → is_closed old h ≡ true → BeginsAgain old t h result grants new → (is_left old t ≡ false) × (new ≡ old)
begun_not old new t h (Ok reply) grants told closed begun = absurd (false≢true told)
begun_not old new t h (Err cause) grants told closed begun = (go (is_left old t) refl, begun.2)
  where
    none_some : (r : Refusal) → None ≡ Some r → ⊥
    none_some r e = (cc)

    go : (b : Bool) → is_left old t ≡ b → is_left old t ≡ false
    go false e = e
    go true e =
        let none = ap (λ (x : Bool × Bool). first_of_causes ((not (x.0 && x.1), InvalidHandle) ∷ [])) {x = (is_left old t, is_closed old h)} {y = (true, true)} (λ i. (e i, closed i)) in
        absurd (none_some cause (sym none ∙ begun.0))

-- ---- at the opening

none_closed_first : (n access h : ℕ) → (nat_lt h (length (own_handles n access)) && is_none (opened_at (own_handles n access) h)) ≡ false
none_closed_first zero access h =
    let none : nat_lt h 0 ≡ false = grind (arith, nat_tests) in
    ap (λ b. b && is_none (opened_at [] h)) none
none_closed_first (suc n) access h = closed_more (own_handles n access) (record { object = n; access = access }) h ∙ none_closed_first n access h

pub opening_spare : (n : ℕ) → IsSpare (opening n) (record { closed = []; unnamed = []; turn = 0 })
opening_spare n = record {
  handles = λ h. sym (ap weight (none_closed_first n (full_access (Thread false)) h));
  objects = λ o. sym (ap weight (none_unnamed o (nat_le n o) refl));
}
  where
    none_unnamed : (o : ℕ) (b : Bool) → nat_le n o ≡ b → is_unnamed (opening n) o ≡ false
    none_unnamed o false e = ap (λ b. b && (nat_lt o (length (opening n).objects) && not (is_opened (opening n) o))) e
    none_unnamed o true e =
        let count : length (opening n).objects ≡ n = length-replicate n (Thread false) in
        let above : n ≤ o = grind (arith, nat_tests, e) in
        let beyond : nat_lt o (length (opening n).objects) ≡ false = grind (arith, nat_tests, above, count) in
        ap (λ b. b && (nat_lt o (length (opening n).objects) && not (is_opened (opening n) o))) e
        ∙ ap (λ b. b && not (is_opened (opening n) o)) beyond
