-- What the end of objects leaves.
use Rattle.std.proofs.Common.{◌≡◌, ℕ, zero, suc, ◌<◌, ◌==◌, Bool, true, false, not, ◌&&◌, ◌||◌, cond, List, [], ◌∷◌, length, refl, sym, ap, ◌∙◌, subst, arith, Option, Some, None, inl, inr, ◌⊎◌, Contains}
use Rattle.std.specs.Prelude.{nat_lt}
use Rattle.std.proofs.lemmas.Bool.{false≢true}
use Rattle.std.proofs.lemmas.Bool.Decides.{nat_tests}
use Rattle.nt_tables.specs.declared.handles.Opened.{Opened}
use Rattle.nt_objects.specs.declared.object.Object.{Object}
use Rattle.nt_objects.specs.declared.object.Object.TheVariants.{Event, Semaphore, Mutex, Timer, Thread, Gone}
use Rattle.nt_tables.specs.Handles.{opened_at, count_named, names}
use Rattle.nt_objects.specs.Object.{has_ended, is_gone}
use Rattle.nt_waits.specs.Waits.{queue_of}
use Rattle.nt_calls.specs.State.{State, object_at}
use Rattle.nt_machine.specs.Dispatcher.{Dispatcher, state}
use Rattle.nt_calls.specs.Living.{is_opened, is_awaited, runs, is_kept, lives, is_forgotten, all_gone, Ends, LivesWhileKept}
use Rattle.nt_machine.specs.Lawful.{IsMachineSound}
use Rattle.nt_machine.proofs.Remaining.{both, turned, and_not, same_handles, same_queues, same_threads, same_count, stays, goes, some_handle, some_member, ends_living}

-- ---- tests

pub one_of : (a b c : Bool) → (a || (b || c)) ≡ true → (a ≡ true) ⊎ ((b ≡ true) ⊎ (c ≡ true))
one_of true b c e = inl refl
one_of false true c e = inr (inl refl)
one_of false false c e = inr (inr e)

-- ---- what is forgotten

-- an object that is as it was is forgotten where it was
pub forgotten_as : (s : State) (os : List ℕ) (o : ℕ) → object_at (all_gone s os).objects o ≡ object_at s.objects o → is_forgotten (all_gone s os) o ≡ is_forgotten s o
forgotten_as s os o there =
    let count = same_count s os in
    let threads = same_threads s os in
    ap (λ n. (nat_lt o n && not (is_gone (object_at (all_gone s os).objects o))) && not (is_kept (all_gone s os) o)) count
    ∙ (ap (λ x. (nat_lt o (length s.objects) && not (is_gone x)) && not (is_opened (all_gone s os) o || (is_awaited (all_gone s os) o || (nat_lt o (all_gone s os).threads && not (has_ended x))))) there
    ∙ (ap (λ n. lives s o && not (is_opened (all_gone s os) o || (is_awaited (all_gone s os) o || (nat_lt o n && not (has_ended (object_at s.objects o)))))) threads
    ∙ (ap (λ hs. lives s o && not (nat_lt 0 (count_named hs o) || (is_awaited (all_gone s os) o || runs s o))) (same_handles s os)
    ∙ ap (λ (qs : ℕ → List ℕ). lives s o && not (is_opened s o || (nat_lt 0 (length (qs o)) || runs s o))) (same_queues s os))))

gone_lives_not : (s : State) (o : ℕ) → object_at s.objects o ≡ Gone → lives s o ≡ false
gone_lives_not s o there = ap (λ x. nat_lt o (length s.objects) && not (is_gone x)) there ∙ and_not (nat_lt o (length s.objects))

-- what is forgotten after some are gone was before, and is none of them
pub still_forgotten : (s : State) (os : List ℕ) (o : ℕ) → is_forgotten (all_gone s os) o ≡ true → (is_forgotten s o ≡ true) × (Contains os o → ⊥)
still_forgotten s os o is =
    let living = (both (lives (all_gone s os) o) (not (is_kept (all_gone s os) o)) is).0 in
    let test = (both (nat_lt o (length (all_gone s os).objects)) (not (is_gone (object_at (all_gone s os).objects o))) living).0 in
    let count = same_count s os in
    let known : o < length s.objects = (let below : o < length (all_gone s os).objects = grind (arith, nat_tests, test) in omega (arith, below, count)) in
    let never : Contains os o → ⊥ = λ m. false≢true (sym (gone_lives_not (all_gone s os) o (goes s os o m known)) ∙ living) in
    (sym (forgotten_as s os o (stays s os o never)) ∙ is, never)

-- ---- what keeps an object lives

pub not_gone : (o : Object) → has_ended o ≡ false → is_gone o ≡ false
not_gone (Event manual set) runs = refl
not_gone (Semaphore count maximum) runs = refl
not_gone (Mutex owner depth abandoned) runs = refl
not_gone (Timer manual set armed) runs = refl
not_gone (Thread ended) runs = refl
not_gone Gone runs = absurd (false≢true (sym runs))

pub below_both : (s : State) (o : ℕ) → o < length s.objects → is_gone (object_at s.objects o) ≡ false → lives s o ≡ true
below_both s o known there =
    let less : nat_lt o (length s.objects) ≡ true = grind (arith, nat_tests, known) in
    ap (λ b. b && not (is_gone (object_at s.objects o))) less ∙ ap (λ b. not b) there

pub kept_lives : (d : Dispatcher) → IsMachineSound d → (o : ℕ) → is_kept (state d) o ≡ true → lives (state d) o ≡ true
kept_lives d sound o kept = elim (one_of (is_opened (state d) o) (is_awaited (state d) o) (runs (state d) o) kept) [
  | inl opened ↦
      let one = some_handle d.handles o opened in
      subst (λ p. lives (state d) p ≡ true) one.3 (below_both (state d) one.1.object (sound.handles.named one.0 one.1 one.2) (sound.marks.living one.0 one.1 one.2))
  | inr others ↦ elim others [
    | inl awaited ↦
        let first = some_member (queue_of d.table o) awaited in
        let named = sound.blocks.named first.0 o first.1 in
        let own = sound.waits first.0 named.0 named.1 in
        below_both (state d) o (own.named o named.2).0 (own.living o named.2)
    | inr running ↦
        let two = both (nat_lt o d.threads) (not (has_ended (object_at d.objects o))) running in
        let below : o < d.threads = let test = two.0 in grind (arith, nat_tests, test) in
        below_both (state d) o (sound.own o below).0 (not_gone (object_at d.objects o) (turned (has_ended (object_at d.objects o)) two.1))
  ]
]

-- ---- at the opening

-- each object is a thread that runs, and that keeps it
pub opening_living : (d : Dispatcher) → IsMachineSound d → length d.objects ≡ d.threads → ((o : ℕ) → object_at d.objects o ≡ Thread false) → LivesWhileKept (state d)
opening_living d sound count running o = go (lives (state d) o) (is_kept (state d) o) refl refl
  where
    runs_there : lives (state d) o ≡ true → runs (state d) o ≡ true
    runs_there is =
        let test = (both (nat_lt o (length d.objects)) (not (is_gone (object_at d.objects o))) is).0 in
        let below : o < length d.objects = grind (arith, nat_tests, test) in
        let known : nat_lt o d.threads ≡ true = (let less : o < d.threads = omega (arith, below, count) in grind (arith, nat_tests, less)) in
        ap (λ b. b && not (has_ended (object_at d.objects o))) known ∙ ap (λ x. not (has_ended x)) (running o)

    keeps : (a b : Bool) → (a || (b || true)) ≡ true
    keeps true b = refl
    keeps false true = refl
    keeps false false = refl

    kept : lives (state d) o ≡ true → is_kept (state d) o ≡ true
    kept is = ap (λ c. is_opened (state d) o || (is_awaited (state d) o || c)) (runs_there is) ∙ keeps (is_opened (state d) o) (is_awaited (state d) o)

    go : (a b : Bool) → lives (state d) o ≡ a → is_kept (state d) o ≡ b → lives (state d) o ≡ is_kept (state d) o
    go true b p q = p ∙ sym (kept p)
    go false true p q = kept_lives d sound o q ∙ sym q
    go false false p q = p ∙ sym q

-- ---- what names an object keeps it

-- a handle that names the object is counted
pub counted_opened : (hs : List (Option Opened)) (h : ℕ) (opened : Opened) → opened_at hs h ≡ Some opened → nat_lt 0 (count_named hs opened.object) ≡ true
counted_opened [] zero opened is = let e : None ≡ Some opened = is in (cc)
counted_opened [] (suc h) opened is = let e : None ≡ Some opened = is in (cc)
counted_opened (x ∷ hs) zero opened is =
    let test : (opened.object == opened.object) ≡ true = grind (arith, nat_tests) in
    let one : ◌≡◌ {A = ℕ} (cond (names opened.object x) 1 0) 1 = ap (λ e. cond (names opened.object e) 1 0) is ∙ ap (λ b. cond b 1 0) test in
    let some : 0 < count_named (x ∷ hs) opened.object = omega (arith, one) in
    grind (arith, nat_tests, some)
counted_opened (x ∷ hs) (suc h) opened is =
    let rest = counted_opened hs h opened is in
    let there : 0 < count_named hs opened.object = grind (arith, nat_tests, rest) in
    let some : 0 < count_named (x ∷ hs) opened.object = omega (arith, there) in
    grind (arith, nat_tests, some)

three : (a b c : Bool) → (a || (b || c)) ≡ false → (a ≡ false) × (b ≡ false) × (c ≡ false)
three false false false e = (refl, refl, refl)
three false false true e = absurd (false≢true (sym e))
three false true c e = absurd (false≢true (sym e))
three true b c e = absurd (false≢true (sym e))

-- what is forgotten no handle names, nobody waits for, and it does not run
pub unkept : (s : State) (o : ℕ) → is_forgotten s o ≡ true → (is_opened s o ≡ false) × (is_awaited s o ≡ false) × (runs s o ≡ false)
unkept s o forgotten = three (is_opened s o) (is_awaited s o) (runs s o) (turned (is_kept s o) (both (lives s o) (not (is_kept s o)) forgotten).1)

pub forgotten_known : (s : State) (o : ℕ) → is_forgotten s o ≡ true → o < length s.objects
forgotten_known s o forgotten =
    let living = (both (lives s o) (not (is_kept s o)) forgotten).0 in
    let test = (both (nat_lt o (length s.objects)) (not (is_gone (object_at s.objects o))) living).0 in
    grind (arith, nat_tests, test)

-- the parts of a forgotten object
pub record IsForgotten (s : State) (o : ℕ) : Type 0 where
  pub known : o < length s.objects
  pub living : is_gone (object_at s.objects o) ≡ false
  pub unopened : is_opened s o ≡ false
  pub unawaited : is_awaited s o ≡ false
  pub idle : runs s o ≡ false

pub parts : (s : State) (o : ℕ) → is_forgotten s o ≡ true → IsForgotten s o
parts s o forgotten =
    let living = (both (lives s o) (not (is_kept s o)) forgotten).0 in
    let none = unkept s o forgotten in
    record {
      known = forgotten_known s o forgotten;
      living = turned (is_gone (object_at s.objects o)) (both (nat_lt o (length s.objects)) (not (is_gone (object_at s.objects o))) living).1;
      unopened = none.0;
      unawaited = none.1;
      idle = none.2;
    }

pub whole : (s : State) (o : ℕ) → IsForgotten s o → is_forgotten s o ≡ true
whole s o is =
    ap (λ b. lives s o && not (b || (is_awaited s o || runs s o))) is.unopened
    ∙ (ap (λ b. lives s o && not (b || runs s o)) is.unawaited
    ∙ (ap (λ b. lives s o && not b) is.idle
    ∙ ap (λ b. b && true) (below_both s o is.known is.living)))

-- after the end of objects each lives exactly while something keeps it
pub all_living : (d : Dispatcher) (new : State) → IsMachineSound d → Ends (state d) new → LivesWhileKept new
all_living d new sound ends = ends_living (state d) new (kept_lives d sound) ends
