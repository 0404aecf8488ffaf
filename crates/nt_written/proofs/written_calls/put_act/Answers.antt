use Rattle.std.proofs.Common.{[], ◌∷◌, codes}
use Rattle.std.specs.Fmt.{decimal}
use Rattle.nt_grammar.specs.Spelling.{caller_word}
use Rattle.nt_written.proofs.Puts.{all_put, says_set, says_reset, says_pulse, says_unlock, says_cancel, says_close, says_next}
use Rattle.nt_written.proofs.written_calls.put_act.Goals as goal

pub returns-in-SetEvent-clause-put : goal.returns-in-SetEvent-clause-put
returns-in-SetEvent-clause-put c =
    record {
      puts = rw (c.put_on.ensures.items, c.in-SetEvent.is) (all_put c.args.out.now.items (caller_word c.args.who) (codes "set" ∷ decimal c.in-SetEvent.event ∷ []) []);
      said = λ scope free. rw c.in-SetEvent.is (says_set scope c.args.who c.in-SetEvent.event c.put_on.ensures.range.0 c.put_on.ensures.range.1);
    }

pub returns-in-ResetEvent-clause-put : goal.returns-in-ResetEvent-clause-put
returns-in-ResetEvent-clause-put c =
    record {
      puts = rw (c.put_on-in-ResetEvent.ensures.items, c.in-ResetEvent.is) (all_put c.args.out.now.items (caller_word c.args.who) (codes "reset" ∷ decimal c.in-ResetEvent.event ∷ []) []);
      said = λ scope free. rw c.in-ResetEvent.is (says_reset scope c.args.who c.in-ResetEvent.event c.put_on-in-ResetEvent.ensures.range.0 c.put_on-in-ResetEvent.ensures.range.1);
    }

pub returns-in-PulseEvent-clause-put : goal.returns-in-PulseEvent-clause-put
returns-in-PulseEvent-clause-put c =
    record {
      puts = rw (c.put_on-in-PulseEvent.ensures.items, c.in-PulseEvent.is) (all_put c.args.out.now.items (caller_word c.args.who) (codes "pulse" ∷ decimal c.in-PulseEvent.event ∷ []) []);
      said = λ scope free. rw c.in-PulseEvent.is (says_pulse scope c.args.who c.in-PulseEvent.event c.put_on-in-PulseEvent.ensures.range.0 c.put_on-in-PulseEvent.ensures.range.1);
    }

pub returns-in-ReleaseMutex-clause-put : goal.returns-in-ReleaseMutex-clause-put
returns-in-ReleaseMutex-clause-put c =
    record {
      puts = rw (c.put_on-in-ReleaseMutex.ensures.items, c.in-ReleaseMutex.is) (all_put c.args.out.now.items (caller_word c.args.who) (codes "unlock" ∷ decimal c.in-ReleaseMutex.mutex ∷ []) []);
      said = λ scope free. rw c.in-ReleaseMutex.is (says_unlock scope c.args.who c.in-ReleaseMutex.mutex c.put_on-in-ReleaseMutex.ensures.range.0 c.put_on-in-ReleaseMutex.ensures.range.1);
    }

pub returns-in-CancelTimer-clause-put : goal.returns-in-CancelTimer-clause-put
returns-in-CancelTimer-clause-put c =
    record {
      puts = rw (c.put_on-in-CancelTimer.ensures.items, c.in-CancelTimer.is) (all_put c.args.out.now.items (caller_word c.args.who) (codes "cancel" ∷ decimal c.in-CancelTimer.timer ∷ []) []);
      said = λ scope free. rw c.in-CancelTimer.is (says_cancel scope c.args.who c.in-CancelTimer.timer c.put_on-in-CancelTimer.ensures.range.0 c.put_on-in-CancelTimer.ensures.range.1);
    }

pub returns-in-Close-clause-put : goal.returns-in-Close-clause-put
returns-in-Close-clause-put c =
    record {
      puts = rw (c.put_on-in-Close.ensures.items, c.in-Close.is) (all_put c.args.out.now.items (caller_word c.args.who) (codes "close" ∷ decimal c.in-Close.handle ∷ []) []);
      said = λ scope free. rw c.in-Close.is (says_close scope c.args.who c.in-Close.handle c.put_on-in-Close.ensures.range.0 c.put_on-in-Close.ensures.range.1);
    }

pub returns-in-NextApc-clause-put : goal.returns-in-NextApc-clause-put
returns-in-NextApc-clause-put c =
    record {
      puts = rw (c.put_keyword.ensures.items, c.in-NextApc.is) (all_put c.args.out.now.items (caller_word c.args.who) (codes "next" ∷ []) []);
      said = λ scope free. rw c.in-NextApc.is (says_next scope c.args.who c.put_keyword.ensures.range);
    }
