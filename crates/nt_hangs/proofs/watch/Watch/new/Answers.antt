use Rattle.std.proofs.Common.{None}
use Rattle.nt_hangs.proofs.watch.Watch.new.Goals as goal

pub returns : goal.returns
returns c =
    let since = c.in_ok-from_elem.ensures.items_if_clones_equal (λ y e. e) in
    let objects = c.new.ensures.items in
    let told = c.new-2.ensures.items in
    λ i. record { now = None; since = since i; objects = objects i; told = told i }
