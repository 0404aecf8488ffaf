use Rattle.nt_life.specs.Lasting.{last_closed}
use Rattle.std.proofs.Common.{inr}
use Rattle.std.proofs.Common.{◌∙◌, ◌++◌, ◌∷◌, [], ℕ, inr, sym, ap}
use Rattle.nt_machine.specs.Dispatcher.{state}
use Rattle.nt_core.specs.Renewals.{is_closed}
use Rattle.nt_life.proofs.Times.{times_last}
use Rattle.nt_life.proofs.Calls.{last_is_closed}
use Rattle.nt_life.proofs.Renewed.{begun_not, begun_spared}
use Rattle.nt_life.proofs.beginning.begin_this.Goals as goal

pub returns-then-is_err-clause-begun : goal.returns-then-is_err-clause-begun
returns-then-is_err-clause-begun c =
    let old = state c.args.core.now in
    let last = c.in_ok-handle.ensures.some in
    let closed = ap (λ (h : ℕ). is_closed old h) last.1 ∙ last_is_closed old c.args.spare.now c.requires.spare last.0 in
    let none = begun_not old (state c.begin_again.new.self) c.args.thread c.in_ok-handle.handle c.begin_again.result c.begin_again.new.self.grants (sym c.is_err.ensures.value ∙ c.if-is_err.true) closed c.begin_again.ensures.begun in
    (inr none.0, none.1)

pub returns-clause-leaves : goal.returns-clause-leaves
returns-clause-leaves c =
    let spare = c.args.spare.now in
    let last = c.in_ok-handle.ensures.some in
    record {
      lawful = c.begin_again.ensures.lawful;
      spare = begun_spared (state c.args.core.now) (state c.begin_again.new.self) c.args.thread c.in_ok-handle.handle c.begin_again.result c.begin_again.new.self.grants spare c.take_handle.new.self (sym c.is_err.ensures.value ∙ c.if-is_err.false) c.requires.spare c.begin_again.ensures.begun
          (λ n. times_last n c.in_ok-handle.handle spare.closed c.take_handle.new.self.closed (c.take_handle.ensures.closed ∙ ap (λ (h : ℕ). c.take_handle.new.self.closed ++ h ∷ []) (sym last.1)))
          c.take_handle.ensures.unnamed;
      stacked = inr (last_closed c.args.spare.now, c.take_handle.ensures.closed);
    }
