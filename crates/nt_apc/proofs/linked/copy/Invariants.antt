use Rattle.std.proofs.Common.{◌≡◌, ◌≤◌, take, length, vec_len, vec_capacity}
use Rattle.nt_apc.specs.Place.{queues_in, timers_in}
use Rattle.nt_apc.proofs.linked.copy.Given as goal

abbrev pub invariant-loop-inbox : goal.invariant-loop-inbox
invariant-loop-inbox l = record {
  count : vec_len l.copied ≡ l.inbox-index;
  room : length l.inboxes ≤ vec_capacity l.copied;
  queues : queues_in l.copied.items ≡ take l.inbox-index (queues_in l.inboxes);
  timers : timers_in l.copied.items ≡ take l.inbox-index (timers_in l.inboxes);
}
