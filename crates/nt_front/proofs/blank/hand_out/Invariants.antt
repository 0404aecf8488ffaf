use Rattle.std.proofs.Common.{◌≡◌, ◌-◌, ◌≤◌, []}
use Rattle.std.specs.Prelude.{vec_capacity, vec_len}
use Rattle.nt_mail.specs.Knowledge.{newcomers}
use Rattle.nt_front.specs.Holds.{new_threads}
use Rattle.nt_front.proofs.blank.hand_out.Given as goal

abbrev pub invariant-loop-thread : goal.invariant-loop-thread
invariant-loop-thread g l = record {
  seats : l.seats ≡ record { table = l.mail; written = []; published = []; parts = newcomers l.thread (l.threads - l.thread) };
  passes : l.passes.items ≡ new_threads l.thread;
  len : vec_len l.passes ≡ l.thread;
  room : l.threads ≤ vec_capacity l.passes;
}
