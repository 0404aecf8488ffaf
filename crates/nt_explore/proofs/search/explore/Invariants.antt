use Rattle.std.proofs.Common.{ℕ, ◌≤◌, ◌<◌, ◌-◌, ◌+◌, length}
use Rattle.nt_machine.specs.Dispatcher.{state}
use Rattle.nt_explore.specs.Search.{Learns}
use Rattle.nt_lanes.specs.Lanes.{beginning}
use Rattle.nt_explore.specs.Walk.{IsTable}
use Rattle.nt_explore.specs.Levels.{IsCounted}
use Rattle.nt_explore.proofs.Counting.{HasLeft}
use Rattle.nt_explore.proofs.search.explore.Given as goal

abbrev pub decreases-loop-looked : goal.decreases-loop-looked
decreases-loop-looked g l = l.most + 1 - l.looked

abbrev pub invariant-loop-looked : goal.invariant-loop-looked
invariant-loop-looked g l =
    (l.looked ≤ length l.met.visits.items)
    × (0 < length l.met.visits.items)
    × IsTable l.met.visits.items l.met.slots.items
    × (l.counts.hangs ≤ l.looked)
    × (met : ℕ → ℕ)
    × IsCounted l.plan l.kinds.items (beginning l.plan (state l.start)) l.met.visits.items l.edges l.looked l.counts met
    × HasLeft l.most met l.looked
    × Learns g.W.Watcher.learns met l.looked l.initial.watcher l.watcher
