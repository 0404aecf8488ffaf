use Rattle.std.proofs.Common.{◌≡◌, ◌≢◌, ◌<◌, Some, length, sym, ◌∙◌, ap, subst}
use Rattle.std.specs.Prelude.{AllPairs, Contains}
use Rattle.nt_apc.specs.Inbox.{Contents}
use Rattle.nt_apc.specs.Place.{inbox_at}
use Rattle.nt_apc.specs.Queues.{Apcs, place_of}
use Rattle.nt_apc.proofs.ViewLemmas.{listed, listed_all, listed_once, read_at, has_inbox}
use Rattle.nt_apc.proofs.queues.ApcQueues.timers_of.Goals as goal

pub returns : goal.returns
returns c =
    let read = read_at c.self.inside.inboxes.items c.args.t c.get.result c.index.result.now c.get.ensures
    (has_inbox _ _ (subst (λ (apcs : Apcs). c.args.t < length apcs.queues) (sym c.self.view_is) c.requires)) in
    let timers : c.timers.result.now ≡ (inbox_at c.self.inside.inboxes.items c.args.t).timers = c.timers.ensures ∙ ap (λ (inbox : Contents). inbox.timers) (c.index.ensures ∙ read) in
    record {
      distinct = subst (λ ts. AllPairs (λ a b. a ≢ b) ts) (sym timers) (listed_once _ _ c.self.invariant c.args.t);
      listed = λ m. (
        (λ at. subst (λ (apcs : Apcs). place_of apcs.places m ≡ Some c.args.t) c.self.view_is (listed _ _ c.self.invariant c.args.t m (subst (λ ts. Contains ts m) timers at))),
        (λ at. subst (λ ts. Contains ts m) (sym timers) (listed_all _ _ c.self.invariant c.args.t m (subst (λ (apcs : Apcs). place_of apcs.places m ≡ Some c.args.t) (sym c.self.view_is) at))),
      );
    }
