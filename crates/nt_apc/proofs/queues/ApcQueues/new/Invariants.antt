use Rattle.std.proofs.Common.{◌≡◌, ◌≤◌, [], replicate, map, vec_len, vec_capacity}
use Rattle.nt_apc.specs.Inbox.{Contents}
use Rattle.nt_apc.proofs.queues.ApcQueues.new.Given as goal

abbrev pub invariant-loop : goal.invariant-loop
invariant-loop l = record {
  count : vec_len l.inboxes ≡ l.counter;
  room : l.threads ≤ vec_capacity l.inboxes;
  queues : map (λ (inbox : Contents). inbox.queue) l.inboxes.items ≡ replicate l.counter [];
  timers : map (λ (inbox : Contents). inbox.timers) l.inboxes.items ≡ replicate l.counter [];
}
