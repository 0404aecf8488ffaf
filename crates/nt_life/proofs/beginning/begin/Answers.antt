use Rattle.nt_life.specs.Lasting.{last_closed}
use Rattle.std.proofs.Common.{inr}
use Rattle.std.proofs.Common.{◌∙◌, ◌++◌, ◌∷◌, [], ℕ, sym, ap}
use Rattle.nt_calls.specs.declared.call.Reply.{Reply}
use Rattle.nt_machine.specs.Dispatcher.{state}
use Rattle.nt_core.specs.Renewals.{is_closed}
use Rattle.nt_life.proofs.Times.{times_last}
use Rattle.nt_life.proofs.Calls.{last_is_closed}
use Rattle.nt_life.proofs.Renewed.{begun_spare}
use Rattle.nt_life.proofs.beginning.begin.Goals as goal

pub begin_first-requires-clause-closed : goal.begin_first-requires-clause-closed
begin_first-requires-clause-closed c =
    let last = c.in_ok-handle.ensures.some in
    ap (λ (h : ℕ). is_closed (state c.args.core.now) h) last.1 ∙ last_is_closed (state c.args.core.now) c.args.spare.now c.requires.spare last.0

pub returns-clause-leaves : goal.returns-clause-leaves
returns-clause-leaves c =
    let spare = c.args.spare.now in
    let last = c.in_ok-handle.ensures.some in
    record {
      lawful = c.begin_first.ensures.lawful;
      spare = begun_spare (state c.args.core.now) (state c.begin_first.new.core) c.in_ok-thread.thread c.in_ok-handle.handle (Reply.Handle c.in_ok-handle.handle) c.begin_first.new.core.grants spare c.take_handle.new.self c.requires.spare c.in_ok-thread.ensures.begun.1
          (λ n. times_last n c.in_ok-handle.handle spare.closed c.take_handle.new.self.closed (c.take_handle.ensures.closed ∙ ap (λ (h : ℕ). c.take_handle.new.self.closed ++ h ∷ []) (sym last.1)))
          c.take_handle.ensures.unnamed;
      stacked = inr (last_closed c.args.spare.now, c.take_handle.ensures.closed);
    }
