use Rattle.std.proofs.Common.{◌≡◌, ◌<◌, ℕ, [], ◌∷◌, length, set, get_or, Some, refl, ap, sym, subst, ◌∙◌, arith}
use Rattle.std.proofs.lemmas.List.{get_or_read}
use Rattle.std.proofs.lemmas.Option.{same_Some}
use Rattle.nt_waits.specs.declared.pending.Pending.{Pending}
use Rattle.nt_waits.specs.Link.{HasNumber, thread_after, without}
use Rattle.nt_waits.specs.Queues.{list_at}
use Rattle.nt_waits.specs.Steps.{AreUnlinked}
use Rattle.nt_waits.proofs.EndedLemmas.{pending_kept}
use Rattle.nt_waits.proofs.StepLemmas.{unlinked_more}
use Rattle.nt_waits.proofs.TableLemmas.{HasNumber-link}
use Rattle.nt_waits.proofs.slot.Slot.empty_one.Goals as goal
use Rattle.nt_waits.proofs.slot.Slot.empty_one.Goals.{After-index-as_slice-0}

-- the wait that lies here is the one that pends
same : (c : After-index-as_slice-0) → Some c.self.inside.pending ≡ c.args.self.now
same c = sym (pending_kept c.self.inside.pends c.self.inside.pending (rw c.self.view_is c.requires.there)) ∙ c.self.view_is

-- the number is that of its one block
number : (c : After-index-as_slice-0) → (p : Pending) → c.args.self.now ≡ Some p → c.index-as_slice-0.result ≡ get_or p.numbers.items 0 0
number c p is =
    let mine = c.requires.linked p is in
    let here : c.self.inside.pending ≡ p = same_Some c.self.inside.pending p (same c ∙ is) in
    let many : length p.wait.objects ≡ 1 = ap (λ hs. length hs) (c.requires.one p is) in
    let within : 0 < length c.self.inside.pending.numbers.items = rw here (omega (arith, mine.1.same_length, many)) in
    get_or_read c.self.inside.pending.numbers.items 0 c.index-as_slice-0.result within (rw c.as_slice.ensures at c.index-as_slice-0.is) 0 ∙ ap (λ (q : Pending). get_or q.numbers.items 0 0) here

-- its block stands in the queue of its object
block : (c : After-index-as_slice-0) → (p : Pending) → c.args.self.now ≡ Some p → HasNumber (list_at c.args.queues.now (get_or p.wait.objects 0 0)) (get_or p.numbers.items 0 0)
block c p is =
    let mine = c.requires.linked p is in
    let many : length p.wait.objects ≡ 1 = ap (λ hs. length hs) (c.requires.one p is) in
    HasNumber-link _ _ (mine.1.linked 0 (omega (arith, many)))

pub unlink-next-requires-clause-linked : goal.unlink-next-requires-clause-linked
unlink-next-requires-clause-linked c =
    let at = (goal.at.unlink-next-requires-clause-linked c).After-index-as_slice-0 in
    let is = sym (same at) in
    let one = c.requires.one c.self.inside.pending is in
    subst (λ (n : ℕ). HasNumber (list_at c.args.queues.now c.args.object) n) (sym (number at c.self.inside.pending is))
    (subst (λ (h : ℕ). HasNumber (list_at c.args.queues.now h) (get_or c.self.inside.pending.numbers.items 0 0)) (ap (λ hs. get_or hs 0 0) one) (block at c.self.inside.pending is))

pub returns-clause-unlinked : goal.returns-clause-unlinked
returns-clause-unlinked c p is =
    let at = (goal.at.returns-clause-unlinked c).After-index-as_slice-0 in
    let old = c.args.queues.now in
    let new = c.unlink-next.new.self in
    let mine = c.requires.linked p is in
    let one : p.wait.objects ≡ c.args.object ∷ [] = c.requires.one p is in
    let many : length p.wait.objects ≡ 1 = ap (λ hs. length hs) one in
    let object : c.args.object ≡ get_or p.wait.objects 0 0 = sym (ap (λ hs. get_or hs 0 0) one) in
    let at_number : new.lists ≡ set old.lists c.args.object (without (get_or p.numbers.items 0 0) (list_at old c.args.object)) =
    subst (λ (n : ℕ). new.lists ≡ set old.lists c.args.object (without n (list_at old c.args.object))) (number at p is) c.unlink-next.ensures.lists in
    let written : new.lists ≡ set old.lists (get_or p.wait.objects 0 0) (without (get_or p.numbers.items 0 0) (list_at old (get_or p.wait.objects 0 0))) =
    subst (λ (h : ℕ). new.lists ≡ set old.lists h (without (get_or p.numbers.items 0 0) (list_at old h))) object at_number in
    let first : AreUnlinked old new p.wait.objects p.numbers.items 1 = unlinked_more old old new p.wait.objects p.numbers.items 0 mine.1.apart (omega (arith, many)) (record { done = λ j below. absurd (omega (arith, below)); others = λ h outside. refl }) (block at p is) written in
    let end = c.unlink-next.ensures in
    let none = c.requires.countable in
    record {
      unlinked = subst (λ (n : ℕ). AreUnlinked old new p.wait.objects p.numbers.items n) (sym many) first;
      distinct = end.distinct;
      gives = record {
        used = let used = end.gives.used in omega (arith, many, used);
        capacity = end.gives.capacity;
        object_room = end.gives.object_room;
      };
      at_least = let reached = end.reached in omega (arith, many, reached.0);
      at_most = let reached = end.reached in omega (arith, many, none, reached.1);
    }

pub returns-clause-next : goal.returns-clause-next
returns-clause-next c p is =
    let at = (goal.at.returns-clause-next c).After-index-as_slice-0 in
    subst (λ (n : ℕ). c.unlink-next.result ≡ thread_after (list_at c.args.queues.now c.args.object) n) (number at p is) c.unlink-next.ensures.next
