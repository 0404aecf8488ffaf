use Rattle.nt_written.proofs.Puts.{objects_wait_put, says_objects}
use Rattle.nt_written.proofs.written_calls.put_objects_wait.Goals as goal

pub returns-clause-put : goal.returns-clause-put
returns-clause-put c =
    record {
      puts = rw (c.put_objects.ensures.items, c.put_mode.ensures.items, c.put_time.ensures.items, c.put_wait_keyword.ensures.items) (objects_wait_put c.args.out.now.items c.args.who c.args.handles.now c.args.all c.args.mode);
      said = λ scope free. says_objects scope c.args.who c.args.handles.now c.args.all c.args.mode c.put_wait_keyword.ensures.range c.put_time.ensures.range c.put_objects.ensures.range;
    }
