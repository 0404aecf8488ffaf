use Rattle.std.proofs.Common.{◌≡◌, ℕ, set, sym, ap, ◌∙◌, None}
use Rattle.nt_apc.specs.Queues.{Apcs, place_of}
use Rattle.nt_machine.specs.Dispatcher.{Dispatcher}
use Rattle.nt_machine.specs.contracts.machine.Machine.{the_view}
use Rattle.nt_machine.proofs.Ended.{ended_object}
use Rattle.nt_machine.proofs.machine.Machine.end_object.Goals as goal

pub returns-clause-sound : goal.returns-clause-sound
returns-clause-sound c =
    let old = c.args.self.now in
    let mid = the_view c.self.inside in
    let apcs : c.forget.new.self.apcs ≡ mid.apcs = sym (ap (λ (d : Dispatcher). d.apcs) c.self.view_is) in
    ended_object old mid c.args.object c.put.new.self.items c.put.new.self.owned c.clear.new.self c.requires.sound c.requires.forgotten
    (c.self.view_is ∙ (c.forget.ensures.rest ∙ ap (λ (a : Apcs). record old { apcs = a }) apcs))
    (sym (ap (λ (a : Apcs). a.queues) apcs) ∙ c.forget.ensures.queues)
    (λ m other. sym (ap (λ (a : Apcs). place_of a.places m) apcs) ∙ c.forget.ensures.others m other)
    c.put.ensures.items
    (c.clear.ensures ∙ ap (λ (k : ℕ). set mid.alarms k None) c.get.ensures)
