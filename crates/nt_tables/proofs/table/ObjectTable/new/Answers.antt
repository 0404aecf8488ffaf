use Rattle.std.proofs.Common.{List, length, ap, ◌∙◌, arith}
use Rattle.std.proofs.lemmas.List.{length-replicate}
use Rattle.nt_objects.specs.declared.object.Object.{Object}
use Rattle.nt_tables.proofs.KeptLemmas.{none_agree}
use Rattle.nt_tables.proofs.table.ObjectTable.new.Goals as goal

pub invariant_of-result : goal.invariant_of-result
invariant_of-result c =
    let long = ap (λ (objects : List Object). length objects) c.in_ok-running_threads.ensures ∙ length-replicate c.args.threads _ in
    let room = c.in_ok-make_room.ensures.room in
    (none_agree c.args.threads c.args.threads _ _ c.in_ok-running_threads.ensures (c.in_ok-make_room.ensures.lists ∙ c.in_ok-owners.ensures.lists), omega (arith, long, room))
