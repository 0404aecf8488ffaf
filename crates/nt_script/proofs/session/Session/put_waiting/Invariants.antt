use Rattle.std.proofs.Common.{◌≡◌, ◌+◌, ◌*◌, ◌≤◌, ◌++◌, vec_len, vec_capacity}
use Rattle.nt_machine.specs.Dispatcher.{state}
use Rattle.nt_script.specs.Transcript.{waiting_text}
use Rattle.nt_script.proofs.session.Session.put_waiting.Given as goal

abbrev pub invariant-loop-thread : goal.invariant-loop-thread
invariant-loop-thread l = record {
  items : l.out.items ≡ l.fn.out.items ++ waiting_text (state l.self.core) l.thread;
  len : vec_len l.out ≤ vec_len l.fn.out + 22 * l.thread;
  room : vec_capacity l.fn.out ≤ vec_capacity l.out;
}
