use Rattle.std.proofs.Common.{rules}
use Rattle.std.proofs.Common.{ℕ, ◌+◌, ◌==◌, ◌++◌, ◌∷◌, [], sym, ap, ◌∙◌, inl, inr, refl}
use Rattle.std.specs.List.{swap_remove}
use Rattle.nt_tables.proofs.Counting.{weight}
use Rattle.nt_machine.specs.Dispatcher.{state}
use Rattle.nt_life.specs.Lasting.{times}
use Rattle.nt_life.proofs.Times.{times_taken, times_last}
use Rattle.nt_life.proofs.Renewed.{created_spare}
use Rattle.nt_life.specs.Lasting.{last_closed}
use Rattle.nt_life.proofs.giving.create_at.Goals as goal

pub returns-in_err-reply-clause-leaves : goal.returns-in_err-reply-clause-leaves
returns-in_err-reply-clause-leaves c = record { lawful = c.create_again.ensures.lawful; spare = search rules; stacked = inl refl }

pub returns-clause-leaves : goal.returns-clause-leaves
returns-clause-leaves c =
    let spare = c.args.spare.now in
    record {
      lawful = c.create_again.ensures.lawful;
      spare = created_spare (state c.args.core.now) (state c.create_again.new.self) c.args.who c.args.act.now c.object-object.result c.args.handle c.in_ok-reply.reply c.create_again.new.self.grants spare c.take_object.new.self c.requires.has.spare c.in_ok-reply.ensures.created
          (λ n. ap (λ ns. times n ns + weight (c.args.handle == n)) c.take_object.ensures.closed
          ∙ times_last n c.args.handle spare.closed c.take_handle.new.self.closed (c.take_handle.ensures.closed ∙ ap (λ (h : ℕ). c.take_handle.new.self.closed ++ h ∷ []) (sym c.requires.last.handle)))
          (λ n. ap (λ ns. times n ns + weight (c.object-object.result == n)) c.take_object.ensures.unnamed
          ∙ (ap (λ ns. times n (swap_remove ns c.args.place 0) + weight (c.object-object.result == n)) c.take_handle.ensures.unnamed
          ∙ (ap (λ (o : ℕ). times n (swap_remove spare.unnamed c.args.place 0) + weight (o == n)) c.object-object.ensures
          ∙ times_taken n spare.unnamed c.args.place c.requires.place)));
      stacked = inr (last_closed c.args.spare.now, c.take_handle.ensures.closed ∙ ap (λ ns. ns ++ last_closed c.args.spare.now ∷ []) (sym c.take_object.ensures.closed));
    }
