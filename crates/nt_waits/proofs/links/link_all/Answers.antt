use Rattle.std.proofs.Common.{◌<◌, length, get_or, arith, ◌∙◌}
use Rattle.std.proofs.lemmas.List.{get_or_read, length-set}
use Rattle.nt_waits.proofs.StepLemmas.{linked_more}
use Rattle.nt_waits.proofs.links.link_all.Goals as goal

pub loop-i-preserved : goal.loop-i-preserved
loop-i-preserved c =
    let objects = c.args.objects.now in
    let numbers = c.loop-i.numbers in
    let i = c.loop-i.i in
    let so_far = c.loop-i.invariant in
    let number = c.link.result in
    let within : i < length objects = c.loop-i-test.true in
    let object_is = get_or_read objects i c.index-objects-i.result within c.index-objects-i.is 0 in
    let there : get_or objects i 0 < length c.loop-i.queues.lists = omega (arith, c.requires.there i within, so_far.same_objects) in
    let before = so_far.joined in
    record {
      joined = record {
        linked = linked_more c.args.queues.now c.loop-i.queues c.link.new.self c.args.thread objects numbers i number c.requires.apart within before.numbered there before.linked (rw object_is at c.link.ensures.lists);
        distinct = c.link.ensures.distinct;
        takes = record {
          used = let used = before.takes.used in omega (arith, c.link.ensures.takes.used, used);
          capacity = c.link.ensures.takes.capacity ∙ before.takes.capacity;
          object_room = c.link.ensures.takes.object_room ∙ before.takes.object_room;
          touched = c.link.ensures.takes.touched ∙ before.takes.touched;
        };
        numbered = length-set numbers i number ∙ before.numbered;
      };
      same_objects = rw (c.link.ensures.lists, length-set c.loop-i.queues.lists c.index-objects-i.result _) so_far.same_objects;
    }
