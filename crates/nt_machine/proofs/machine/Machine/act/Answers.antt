use Rattle.std.proofs.Common.{rules, refl, false}
use Rattle.nt_calls.specs.declared.call.Act.{Act}
use Rattle.nt_calls.specs.declared.call.Call.{Call}
use Rattle.nt_machine.proofs.Making.{accepted_made}
use Rattle.nt_machine.proofs.Running.{free_runs}
use Rattle.nt_machine.proofs.machine.Machine.act.Goals as goal

pub returns-in-CreateEvent : goal.returns-in-CreateEvent
returns-in-CreateEvent c = rw c.in-CreateEvent.is (c.create_event.ensures c.args.thread c.requires.free)

pub returns-in-CreateTimer : goal.returns-in-CreateTimer
returns-in-CreateTimer c = rw c.in-CreateTimer.is (c.create_timer.ensures c.args.thread c.requires.free)

pub returns-in-SetEvent : goal.returns-in-SetEvent
returns-in-SetEvent c = rw c.in-SetEvent.is (c.set_event.ensures c.args.thread c.requires.free)

pub returns-in-ResetEvent : goal.returns-in-ResetEvent
returns-in-ResetEvent c = rw c.in-ResetEvent.is (c.reset_event.ensures c.args.thread c.requires.free)

pub returns-in-PulseEvent : goal.returns-in-PulseEvent
returns-in-PulseEvent c = rw c.in-PulseEvent.is (c.pulse_event.ensures c.args.thread c.requires.free)

pub returns-in-CancelTimer : goal.returns-in-CancelTimer
returns-in-CancelTimer c = rw c.in-CancelTimer.is (c.cancel_timer.ensures c.args.thread c.requires.free)

pub returns-in-QueueApc : goal.returns-in-QueueApc
returns-in-QueueApc c = rw c.in-QueueApc.is (c.queue_apc.ensures c.args.thread c.requires.free)

pub returns-in-Duplicate : goal.returns-in-Duplicate
returns-in-Duplicate c = rw c.in-Duplicate.is (c.duplicate.ensures c.args.thread c.requires.free)

pub returns-in-Close : goal.returns-in-Close
returns-in-Close c = rw c.in-Close.is (c.close.ensures c.args.thread c.requires.free)

pub returns-in-CreateSemaphore : goal.returns-in-CreateSemaphore
returns-in-CreateSemaphore c = let made = c.create_semaphore.ensures c.args.thread c.requires.free in search (rules, made)

pub returns-in-ReleaseSemaphore : goal.returns-in-ReleaseSemaphore
returns-in-ReleaseSemaphore c = let made = c.release_semaphore.ensures c.args.thread c.requires.free in search (rules, made)

pub next_apc-requires-clause-running : goal.next_apc-requires-clause-running
next_apc-requires-clause-running c = free_runs c.args.self.now c.args.thread c.requires.free

pub returns-in-NextApc : goal.returns-in-NextApc
returns-in-NextApc c =
    rw c.in-NextApc.is (accepted_made c.args.self.now c.next_apc.new.self c.args.thread false (Call.Act Act.NextApc) c.next_apc.result c.requires.free refl c.next_apc.ensures)
