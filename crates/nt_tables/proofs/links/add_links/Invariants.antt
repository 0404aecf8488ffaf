use Rattle.std.proofs.Common.{◌≡◌, ◌≤◌, ◌-◌, ℕ, vec_len, vec_capacity}
use Rattle.nt_tables.specs.Links.{link_at}
use Rattle.nt_tables.proofs.links.add_links.Given as goal

abbrev pub invariant-loop-links : goal.invariant-loop-links
invariant-loop-links l = record {
  kept : (m : ℕ) → link_at l.links.items m ≡ link_at l.initial.links.items m;
  longer : vec_len l.initial.links ≤ vec_len l.links;
  capacity : vec_capacity l.links ≡ vec_capacity l.initial.links;
}

abbrev pub decreases-loop-links : goal.decreases-loop-links
decreases-loop-links l = l.count - vec_len l.links
