use Rattle.std.proofs.Common.{◌≡◌, ℕ, [], ◌∷◌, length, get_or, None, ap, sym, subst, ◌∙◌, arith}
use Rattle.std.proofs.lemmas.List.{get_or_read}
use Rattle.nt_waits.specs.Queues.{list_at}
use Rattle.nt_waits.specs.Table.{HasLink, slot_at}
use Rattle.nt_waits.proofs.TableLemmas.{slot_within}
use Rattle.nt_waits.proofs.NextLemmas.{next_after-threads}
use Rattle.nt_waits.proofs.EndedLemmas.{held, linked_anew, ended, touched}
use Rattle.nt_waits.proofs.take.end_one_wait.Goals as goal
use Rattle.nt_waits.proofs.take.end_one_wait.Goals.{After-index_mut}

-- what is borrowed is the thread's place
read : (c : After-index_mut) → c.index_mut.result.now ≡ slot_at c.args.waits.now.items c.args.t
read c = get_or_read c.args.waits.now.items c.args.t c.index_mut.result.now (slot_within c.args.waits.now.items c.args.t c.requires.there) (rw c.get.ensures at c.index_mut.ensures.value) None

pub empty_one-requires-clause-linked : goal.empty_one-requires-clause-linked
empty_one-requires-clause-linked c p is =
    (c.args.t, linked_anew c.args.queues.now c.touch_anew.new.self c.args.t p c.touch_anew.ensures (c.requires.table.linked c.args.t p (sym (read (goal.at.empty_one-requires-clause-linked c).After-index_mut) ∙ is)))

pub returns-clause-ended : goal.returns-clause-ended
returns-clause-ended c =
    let p = held (slot_at c.args.waits.now.items c.args.t) c.requires.there in
    let here = read (goal.at.returns-clause-ended c).After-index_mut in
    rw (c.get.ensures, c.empty_one.ensures.empty) (ended c.args.queues.now c.touch_anew.new.self c.empty_one.new.queues c.args.waits.now.items c.args.t p.0 c.requires.table p.1 c.touch_anew.ensures (c.empty_one.ensures.unlinked p.0 (here ∙ p.1)))

pub returns-clause-touched : goal.returns-clause-touched
returns-clause-touched c p is =
    let here = read (goal.at.returns-clause-touched c).After-index_mut in
    touched c.args.queues.now c.touch_anew.new.self c.empty_one.new.queues c.args.waits.now.items c.args.t p c.requires.table is c.touch_anew.ensures (c.empty_one.ensures.unlinked p (here ∙ is))

pub returns-clause-next : goal.returns-clause-next
returns-clause-next c =
    let queue = list_at c.args.queues.now c.args.object in
    let p = held (slot_at c.args.waits.now.items c.args.t) c.requires.there in
    let here = read (goal.at.returns-clause-next c).After-index_mut in
    let one : p.0.wait.objects ≡ c.args.object ∷ [] = c.requires.one p.0 p.1 in
    let many : length p.0.wait.objects ≡ 1 = ap (λ hs. length hs) one in
    let first = (c.requires.table.linked c.args.t p.0 p.1).linked 0 (omega (arith, many)) in
    let link : HasLink queue (record { number = get_or p.0.numbers.items 0 0; thread = c.args.t }) =
    subst (λ (h : ℕ). HasLink (list_at c.args.queues.now h) (record { number = get_or p.0.numbers.items 0 0; thread = c.args.t })) (ap (λ hs. get_or hs 0 0) one) first in
    (rw c.touch_anew.ensures at c.empty_one.ensures.next p.0 (here ∙ p.1))
    ∙ next_after-threads queue (get_or p.0.numbers.items 0 0) c.args.t link (c.requires.table.distinct c.args.object) (c.requires.table.once c.args.object)
