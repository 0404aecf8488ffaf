use Rattle.std.proofs.Common.{◌∙◌, rules}
use Rattle.nt_tables.proofs.SoundLemmas.{link_at-push}
use Rattle.nt_tables.proofs.links.add_links.Goals as goal

pub loop-links-preserved : goal.loop-links-preserved
loop-links-preserved c = record {
  kept = λ m. rw c.push_reserved.ensures.items (link_at-push c.loop-links.links.items m ∙ c.loop-links.invariant.kept m);
  longer = search rules;
  capacity = c.push_reserved.ensures.capacity ∙ c.loop-links.invariant.capacity;
}
