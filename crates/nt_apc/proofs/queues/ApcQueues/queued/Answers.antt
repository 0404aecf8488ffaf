use Rattle.std.proofs.Common.{◌≡◌, Some, sym, ◌∙◌, ap, subst}
use Rattle.nt_apc.specs.Queues.{Apcs, has_from, place_of}
use Rattle.nt_apc.specs.Place.{place_at, stands_at, inbox_at}
use Rattle.nt_apc.proofs.SoundLemmas.{stands_at-is}
use Rattle.nt_apc.proofs.ViewLemmas.{queue_of-queues_in, queued_anywhere, place_of-threads_in}
use Rattle.nt_apc.proofs.queues.ApcQueues.queued.Goals as goal

-- what is answered is whether the inbox has it
is_here : (c : goal.After-is_queued) → c.is_queued.result ≡ has_from c.args.timer (inbox_at c.self.inside.inboxes.items c.args.t).queue
is_here c =
    c.is_queued.ensures ∙ ap (λ places. stands_at c.args.t (place_at places c.args.timer)) c.deref.ensures.value
    ∙ stands_at-is _ _ c.self.invariant c.args.t c.args.timer

pub returns-clause-here : goal.returns-clause-here
returns-clause-here c =
    is_here c ∙ rw (← c.self.view_is) (ap (has_from c.args.timer) (sym (queue_of-queues_in c.self.inside.inboxes.items c.args.t)))

pub returns-clause-anywhere : goal.returns-clause-anywhere
returns-clause-anywhere c placed =
    is_here c ∙ rw (← c.self.view_is)
    (queued_anywhere _ _ c.self.invariant c.args.t c.args.timer
    (sym (place_of-threads_in c.self.inside.places.items c.args.timer)
    ∙ subst (λ (apcs : Apcs). place_of apcs.places c.args.timer ≡ Some c.args.t) (sym c.self.view_is) placed))
