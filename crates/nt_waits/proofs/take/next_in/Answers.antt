use Rattle.std.proofs.Common.{◌≡◌, ℕ, Some, None, sym, ◌∙◌, subst, eqb, get_or}
use Rattle.std.specs.List.{position}
use Rattle.std.proofs.lemmas.List.{get_or_read}
use Rattle.nt_waits.specs.declared.pending.Pending.{Pending}
use Rattle.nt_waits.specs.Queues.{list_at}
use Rattle.nt_waits.specs.Table.{HasLink, slot_at}
use Rattle.nt_waits.specs.Waits.{Names}
use Rattle.nt_waits.proofs.ChainLemmas.{same_test}
use Rattle.nt_waits.proofs.TableLemmas.{HasNumber-link}
use Rattle.nt_waits.proofs.NextLemmas.{waiter, next_after-threads, position-there, link_at}
use Rattle.nt_waits.proofs.take.next_in.Goals as goal
use Rattle.nt_waits.proofs.take.next_in.Goals.{In-Some, In-Some-place_of, After-index-numbers-place}

pub unreachable-requires : goal.unreachable-requires
unreachable-requires c =
    let found = waiter c.args.queues.now c.args.waits.now c.args.object c.args.t c.requires.table c.requires.there in
    let none : None ≡ slot_at c.args.waits.now c.args.t = c.in_default.ensures in
    let h : Some found.0 ≡ None = sym found.1 ∙ sym none in
    (cc)

-- the wait that was found is the thread's
there : (c : In-Some) → slot_at c.args.waits.now c.args.t ≡ Some c.in-Some.pending.now
there c = sym c.in-Some.ensures

pub unreachable-requires-in_default-place_of : goal.unreachable-requires-in_default-place_of
unreachable-requires-in_default-place_of c =
    let slot = there (goal.at.unreachable-requires-in_default-place_of c).In-Some in
    let found = waiter c.args.queues.now c.args.waits.now c.args.object c.args.t c.requires.table c.requires.there in
    let same : Some found.0 ≡ Some c.in-Some.pending.now = sym found.1 ∙ slot in
    let same' : found.0 ≡ c.in-Some.pending.now = (cc) in
    let named = subst (λ (p : Pending). Names p.wait c.args.object) same' found.2 in
    let none : None ≡ position (λ named. eqb named c.args.object) c.in-Some.pending.now.wait.objects = rw c.as_slice.ensures at c.in_default-place_of.ensures in
    position-there (λ named. eqb named c.args.object) c.in-Some.pending.now.wait.objects named.0 named.1 (same_test _ _ named.2) (sym none)

place : (c : In-Some-place_of) → Some c.in-Some-place_of.place ≡ position (λ named. eqb named c.args.object) c.in-Some.pending.now.wait.objects
place c = rw c.as_slice.ensures at c.in-Some-place_of.ensures

pub bounds-numbers-place : goal.bounds-numbers-place
bounds-numbers-place c =
    let slot = there (goal.at.bounds-numbers-place c).In-Some in
    let found = place (goal.at.bounds-numbers-place c).In-Some-place_of in
    rw c.as_slice-numbers.ensures (link_at c.args.queues.now c.args.t c.args.object c.in-Some-place_of.place c.in-Some.pending.now (c.requires.table.linked c.args.t c.in-Some.pending.now slot) (sym found)).0

-- the number at that place is that of the thread's link
linked : (c : After-index-numbers-place) → HasLink (list_at c.args.queues.now c.args.object) (record { number = c.index-numbers-place.result; thread = c.args.t })
linked c =
    let slot = there (goal.at.next-requires c).In-Some in
    let found = place (goal.at.next-requires c).In-Some-place_of in
    let link = link_at c.args.queues.now c.args.t c.args.object c.in-Some-place_of.place c.in-Some.pending.now (c.requires.table.linked c.args.t c.in-Some.pending.now slot) (sym found) in
    let item : c.index-numbers-place.result ≡ get_or c.in-Some.pending.now.numbers.items c.in-Some-place_of.place 0 =
    get_or_read c.in-Some.pending.now.numbers.items c.in-Some-place_of.place c.index-numbers-place.result link.0 (rw c.as_slice-numbers.ensures at c.index-numbers-place.is) 0 in
    subst (λ (n : ℕ). HasLink (list_at c.args.queues.now c.args.object) (record { number = n; thread = c.args.t })) (sym item) link.1

pub next-requires : goal.next-requires
next-requires c = HasNumber-link (list_at c.args.queues.now c.args.object) (record { number = c.index-numbers-place.result; thread = c.args.t }) (linked c)

pub returns : goal.returns
returns c =
    c.next.ensures
    ∙ next_after-threads (list_at c.args.queues.now c.args.object) c.index-numbers-place.result c.args.t (linked (goal.at.returns c).After-index-numbers-place) (c.requires.table.distinct c.args.object) (c.requires.table.once c.args.object)
