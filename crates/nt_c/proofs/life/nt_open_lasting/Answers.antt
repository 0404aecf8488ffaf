use Rattle.nt_status.specs.declared.limits.TheConstants.{MAX_MANY_THREADS}
use Rattle.std.proofs.Common.{sym, subst, refl, ◌∙◌, inl}
use Rattle.std.specs.Prelude.{Option, Some}
use Rattle.nt_sleepers.specs.Sleepers.{Sleeping}
use Rattle.nt_life.specs.Lasting.{no_spares}
use Rattle.nt_c.specs.Asks.{OpensHandle}
use Rattle.nt_c.proofs.Fitting.{none_of}
use Rattle.nt_c.proofs.life.nt_open_lasting.Goals as goal

pub returns-in-Ok : goal.returns-in-Ok
returns-in-Ok c = record {
  opens =
      subst (λ (x : Option Sleeping). OpensHandle MAX_MANY_THREADS (Some no_spares) x c.args.threads 0 c.put.new.self.held) (sym (none_of c.args.nt.now.cell.held (sym c.args.nt.now.fit ∙ c.if-nt.false)))
      (inl (
        c.in-Ok.sleepers,
        c.put.ensures,
        refl,
        c.in-Ok.ensures.ok.0,
        c.in-Ok.ensures.ok.1,
        record {
          spare_is = c.in-Ok.ensures.spare;
          state_is = c.in-Ok.ensures.ok.2;
          grants = c.in-Ok.ensures.ok.3;
          looked = c.in-Ok.ensures.untested;
          alarms = c.in-Ok.ensures.asleep.0;
          watchers = c.in-Ok.ensures.asleep.1;
          called = c.in-Ok.ensures.asleep.2;
        },
      ));
}
