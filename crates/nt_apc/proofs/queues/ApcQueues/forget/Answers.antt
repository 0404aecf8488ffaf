use Rattle.std.proofs.Common.{◌≡◌, Some, sym, ◌∙◌, subst, arith}
use Rattle.std.proofs.lemmas.List.{with_items_is}
use Rattle.nt_apc.proofs.ViewLemmas.{sound_keeps, place_of-threads_in, withdrawn_anywhere}
use Rattle.nt_apc.specs.Queues.{Apcs, place_of}
use Rattle.nt_apc.proofs.queues.ApcQueues.forget.Goals as goal

pub returns-clause-keeps : goal.returns-clause-keeps
returns-clause-keeps c =
    rw (with_items_is c.self.inside.inboxes c.forget.new.inboxes (omega arith), with_items_is c.self.inside.places c.forget.new.places (omega arith))
    (sound_keeps _ _ c.forget.ensures.sound)

pub returns-clause-anywhere : goal.returns-clause-anywhere
returns-clause-anywhere c placed =
    rw (with_items_is c.self.inside.inboxes c.forget.new.inboxes (omega arith), c.forget.ensures.queues, c.deref_mut.ensures.value, ← c.self.view_is)
    (withdrawn_anywhere _ _ c.self.invariant c.args.t c.args.timer
    (sym (place_of-threads_in c.self.inside.places.items c.args.timer)
    ∙ subst (λ (apcs : Apcs). place_of apcs.places c.args.timer ≡ Some c.args.t) (sym c.self.view_is) placed))
