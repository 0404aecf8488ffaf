use Rattle.std.proofs.Common.{◌≡◌, ◌≤◌, ℕ, ap, ◌∙◌, length, rules}
use Rattle.nt_tables.specs.Owned.{Owned}
use Rattle.nt_tables.specs.Links.{link_at}
use Rattle.nt_tables.proofs.SoundLemmas.{sound_longer, lists_longer}
use Rattle.nt_tables.proofs.owners.Owners.make_room.Goals as goal

pub invariant_of-self-2 : goal.invariant_of-self-2
invariant_of-self-2 c =
    let links = c.self.inside.links.items in
    let kept : (m : ℕ) → link_at c.add_links.new.links.items m ≡ link_at links m = rw c.reserve.ensures.items at c.add_links.ensures.kept in
    let longer : length links ≤ length c.add_links.new.links.items = search rules in
    sound_longer c.self.inside.firsts.items links c.add_links.new.links.items kept longer c.self.invariant

pub returns-clause-lists : goal.returns-clause-lists
returns-clause-lists c =
    let links = c.self.inside.links.items in
    let kept : (m : ℕ) → link_at c.add_links.new.links.items m ≡ link_at links m = rw c.reserve.ensures.items at c.add_links.ensures.kept in
    let longer : length links ≤ length c.add_links.new.links.items = search rules in
    lists_longer c.self.inside.firsts.items links c.add_links.new.links.items kept longer c.self.invariant ∙ ap (λ (owned : Owned). owned.lists) c.self.view_is
