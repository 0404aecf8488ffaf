-- When two dispatchers are in equal states.
use Rattle.std.proofs.Common.{◌≡◌, ◌<◌, ◌≤◌, ℕ, zero, suc, ◌+◌, List, [], ◌∷◌, length, get_or, sym, ap, ◌∙◌, Bool, true, false, Option, Some, None, refl, arith, nat_eq, ltb, Contains, eqb, subst}
use Rattle.std.specs.Prelude.{slice_get}
use Rattle.std.specs.List.{IsDistinct}
use Rattle.std.specs.FinMap as map
use Rattle.std.proofs.lemmas.Cmp.{nat_cmp_total}
use Rattle.std.proofs.lemmas.Option.{get_or_from_slice_get}
use Rattle.std.proofs.lemmas.Map.Keys.{IsDistinct-tail}
use Rattle.nt_status.proofs.Lists.{distinct_first, contains_first, contains_later}
use Rattle.nt_objects.specs.declared.object.Object.{Object}
use Rattle.std.proofs.lemmas.Bool.Decides.{nat_tests}
use Rattle.nt_waits.specs.declared.wait.Wait.{Wait}
use Rattle.nt_waits.specs.Waits.{queue_of, next_after}
use Rattle.nt_calls.specs.State.{State}
use Rattle.nt_machine.specs.Dispatcher.{Dispatcher, state}
use Rattle.nt_machine.specs.Lawful.{IsLawful}
use Rattle.nt_core.specs.Alike.{AreAlike}
use Rattle.nt_machine.proofs.Visiting.{state_same}

contained : (q : List ℕ) (k x : ℕ) → slice_get q k ≡ Some x → Contains q x
contained [] k x is = (cc)
contained (y ∷ q) zero x is = contains_first y q x (let e : Some y ≡ Some x = is in (cc))
contained (y ∷ q) (suc k) x is = contains_later y q x (contained q k x is)

-- ---- waits

none_past : (d : Dispatcher) → IsLawful d → (t : ℕ) → d.threads ≤ t → map.get d.table.pending t ≡ None
none_past d lawful t past = go (map.get d.table.pending t) refl
  where
    go : (found : Option Wait) → map.get d.table.pending t ≡ found → found ≡ None
    go None e = refl
    go (Some w) e = let known = (lawful.steady.sound.waits t w e).known in absurd (omega (arith, known, past))

pub waits_same : (c d : Dispatcher) → IsLawful c → IsLawful d → c.threads ≡ d.threads → ((t : ℕ) → t < c.threads → map.get c.table.pending t ≡ map.get d.table.pending t) → c.table.pending ≡ d.table.pending
waits_same c d lawful other threads same = map.same_map nat_cmp_total map.nat_cmp-IsAntisymmetric _ _ (λ t. go t (ltb t c.threads) refl)
  where
    go : (t : ℕ) (b : Bool) → ltb t c.threads ≡ b → map.get c.table.pending t ≡ map.get d.table.pending t
    go t true e = same t (grind (arith, nat_tests, e))
    go t false e =
        let past : c.threads ≤ t = grind (arith, nat_tests, e) in
        none_past c lawful t past ∙ sym (none_past d other t (omega (arith, past, threads)))

-- ---- queues

none_stands : (d : Dispatcher) → IsLawful d → (h : ℕ) → length d.objects ≤ h → queue_of d.table h ≡ []
none_stands d lawful h past = go (queue_of d.table h) refl
  where
    go : (q : List ℕ) → queue_of d.table h ≡ q → q ≡ []
    go [] e = refl
    go (t ∷ q) e =
        let waits = lawful.steady.sound.blocks.named t h (subst (λ (q' : List ℕ). Contains q' t) (sym e) (contains_first t q t refl)) in
        let known = ((lawful.steady.sound.waits t waits.0 waits.1).named h waits.2).0 in
        absurd (omega (arith, known, past))

pub queues_same : (c d : Dispatcher) → IsLawful c → IsLawful d → c.objects ≡ d.objects → ((h : ℕ) → h < length c.objects → queue_of c.table h ≡ queue_of d.table h) → (h : ℕ) → queue_of c.table h ≡ queue_of d.table h
queues_same c d lawful other objects same h = go (ltb h (length c.objects)) refl
  where
    go : (b : Bool) → ltb h (length c.objects) ≡ b → queue_of c.table h ≡ queue_of d.table h
    go true e = same h (grind (arith, nat_tests, e))
    go false e =
        let past : length c.objects ≤ h = grind (arith, nat_tests, e) in
        none_stands c lawful h past ∙ sym (none_stands d other h (subst (λ (os : List Object). length os ≤ h) objects past))

-- ---- one queue

pub next_there : (q : List ℕ) (k x : ℕ) → IsDistinct nat_eq q → slice_get q k ≡ Some x → next_after x q ≡ slice_get q (suc k)
next_there [] k x once is = (cc)
next_there (y ∷ q) zero x once is =
    let same : y ≡ x = let e : Some y ≡ Some x = is in (cc) in
    let test : eqb y x ≡ true = grind (arith, nat_tests, same) in
    rw test refl
next_there (y ∷ q) (suc k) x once is =
    let here : slice_get q k ≡ Some x = is in
    let apart : y ≡ x → ⊥ = λ e. distinct_first y q once (subst (Contains q) (sym e) (contained q k x here)) in
    let test : eqb y x ≡ false = grind (arith, nat_tests, apart) in
    rw test (next_there q k x (IsDistinct-tail nat_eq y q once) here)

pub stands_there : (q : List ℕ) (k x : ℕ) → Some x ≡ slice_get q k → Contains q x
stands_there q k x is = contained q k x (sym is)

pub next_one : (q : List ℕ) (k x : ℕ) (here next : Option ℕ) → IsDistinct nat_eq q → here ≡ slice_get q k → here ≡ Some x → next ≡ next_after x q → next ≡ slice_get q (k + 1)
next_one q k x here next once at is told =
    let more : suc k ≡ k + 1 = omega arith in
    told ∙ subst (λ (m : ℕ). next_after x q ≡ slice_get q m) more (next_there q k x once (sym at ∙ is))

pub read_there : (q : List ℕ) (k x : ℕ) (here : Option ℕ) → here ≡ slice_get q k → here ≡ Some x → get_or q k 0 ≡ x
read_there q k x here at is = get_or_from_slice_get q k x 0 (sym at ∙ is)

-- ---- all parts

pub state_alike : (c d : Dispatcher) → IsLawful c → IsLawful d → c.threads ≡ d.threads → c.now ≡ d.now → c.objects ≡ d.objects → c.table.pending ≡ d.table.pending → AreAlike c d → state c ≡ state d
state_alike c d lawful other threads now objects waits alike =
    state_same (state c) (state d) threads alike.handles objects waits (queues_same c d lawful other objects alike.queues) alike.apcs alike.handing now

pub alike_parts : (c d : Dispatcher) → state c ≡ state d → AreAlike c d
alike_parts c d e = record {
  handles = ap (λ (s : State). s.handles) e;
  apcs = ap (λ (s : State). s.apcs) e;
  handing = ap (λ (s : State). s.handing) e;
  queues = λ h below. ap (λ (s : State). s.queues h) e;
}
