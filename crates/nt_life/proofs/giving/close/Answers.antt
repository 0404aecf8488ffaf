use Rattle.std.proofs.Common.{◌≡◌, ◌++◌, ◌∷◌, [], ℕ, Bool, None, length, set, sym, ap, ◌∙◌, subst, arith}
use Rattle.std.specs.Prelude.{if◌then◌else◌}
use Rattle.std.specs.declared.result.Result.TheVariants.{Ok}
use Rattle.nt_tables.specs.Handles.{opened_at}
use Rattle.nt_calls.specs.declared.call.Act.{Act}
use Rattle.nt_calls.specs.declared.call.Call.{Call}
use Rattle.nt_calls.specs.declared.call.Reply.{Reply}
use Rattle.nt_calls.specs.Steps.{Called}
use Rattle.nt_machine.specs.Dispatcher.{Dispatcher, state}
use Rattle.nt_machine.specs.Lawful.{IsLawful}
use Rattle.nt_life.specs.Lasting.{is_unnamed}
use Rattle.nt_life.proofs.Calls.{close_numbers, unopened_spare, closed_spare, closed_room, unnamed_room, found, missing, opened_there}
use Rattle.nt_life.proofs.Stacking.{unopened_close, kept_same}
use Rattle.nt_life.proofs.giving.close.Goals as goal

-- the handles and objects after the close
numbers : (old new : Dispatcher) (who h : ℕ) (call : Call) (reply : Reply) → IsLawful old → call ≡ Call.Act (Act.Close h) → Called (state old) who call (Ok reply) new.grants (state new) → (new.handles ≡ set old.handles h None) × (length new.objects ≡ length old.objects)
numbers old new who h call reply lawful act called =
    close_numbers (state old) who h reply new.grants (state new) lawful.steady.sound.handles.enough
    (subst (λ (x : Call). Called (state old) who x (Ok reply) new.grants (state new)) act called)

pub is_unnamed-unnamed-requires : goal.is_unnamed-unnamed-requires
is_unnamed-unnamed-requires c =
    let one = found (opened_at c.args.core.now.handles c.args.handle) c.in-Some.object (sym c.object_number.ensures ∙ c.in-Some.is) in
    let known = c.requires.has.lawful.steady.sound.handles.named c.args.handle one.0 one.1 in
    let same = one.2 in
    let count = (numbers c.args.core.now c.call-2.new.self c.args.who c.args.handle c.args.call.now c.in_ok-reply.reply c.requires.has.lawful c.requires.act c.in_ok-reply.ensures.called).1 in
    omega (arith, known, same, count)

pub add_closed-requires-clause-handles : goal.add_closed-requires-clause-handles
add_closed-requires-clause-handles c =
    let one = found (opened_at c.args.core.now.handles c.args.handle) c.in-Some.object (sym c.object_number.ensures ∙ c.in-Some.is) in
    let handles = (numbers c.args.core.now c.call-2.new.self c.args.who c.args.handle c.args.call.now c.in_ok-reply.reply c.requires.has.lawful c.requires.act c.in_ok-reply.ensures.called).0 in
    closed_room (state c.args.core.now) (state c.call-2.new.self) c.args.spare.now c.args.handle one.0 c.requires.has.spare (opened_there c.args.core.now.handles c.args.handle one.0 one.1) one.1 handles c.requires.has.lawful.steady.sound.handles.few

pub add_closed-requires-clause-objects : goal.add_closed-requires-clause-objects
add_closed-requires-clause-objects c =
    let one = found (opened_at c.args.core.now.handles c.args.handle) c.in-Some.object (sym c.object_number.ensures ∙ c.in-Some.is) in
    let known = c.requires.has.lawful.steady.sound.handles.named c.args.handle one.0 one.1 in
    let few = c.requires.has.lawful.steady.sound.handles.few in
    let enough = c.requires.has.lawful.steady.sound.handles.enough in
    unnamed_room (state c.args.core.now) c.args.spare.now c.args.handle one.0 c.requires.has.spare one.1 known (omega (arith, few, enough))

pub returns-in_default-clause-stacked : goal.returns-in_default-clause-stacked
returns-in_default-clause-stacked c =
    unopened_close (c.args.spare.now.closed ≡ c.args.spare.now.closed ++ c.args.handle ∷ []) (state c.args.core.now) c.args.who c.args.handle c.call.result c.call.new.self.grants (state c.call.new.self)
    (missing (opened_at c.args.core.now.handles c.args.handle) (sym c.object_number.ensures ∙ c.in_default.is))
    (subst (λ (call : Call). Called (state c.args.core.now) c.args.who call c.call.result c.call.new.self.grants (state c.call.new.self)) c.requires.act c.call.ensures.called)

pub returns-in_default-clause-kept : goal.returns-in_default-clause-kept
returns-in_default-clause-kept c = kept_same c.call.result c.args.spare.now.closed

pub returns-in_default-clause-has : goal.returns-in_default-clause-has
returns-in_default-clause-has c = record {
  lawful = c.call.ensures.lawful;
  spare = unopened_spare (state c.args.core.now) c.args.who c.args.handle c.call.result c.call.new.self.grants (state c.call.new.self) c.args.spare.now c.requires.has.lawful.steady.sound.handles.enough
      (missing (opened_at c.args.core.now.handles c.args.handle) (sym c.object_number.ensures ∙ c.in_default.is)) c.call.ensures.moves.threads
      (subst (λ (call : Call). Called (state c.args.core.now) c.args.who call c.call.result c.call.new.self.grants (state c.call.new.self)) c.requires.act c.call.ensures.called)
      c.requires.has.spare;
}

pub returns-clause-has : goal.returns-clause-has
returns-clause-has c =
    let old = state c.args.core.now in
    let new = state c.call-2.new.self in
    let spare = c.args.spare.now in
    let one = found (opened_at c.args.core.now.handles c.args.handle) c.in-Some.object (sym c.object_number.ensures ∙ c.in-Some.is) in
    let all = numbers c.args.core.now c.call-2.new.self c.args.who c.args.handle c.args.call.now c.in_ok-reply.reply c.requires.has.lawful c.requires.act c.in_ok-reply.ensures.called in
    record {
      lawful = c.call-2.ensures.lawful;
      spare = closed_spare old new spare c.add_closed.new.self c.args.handle one.0 c.requires.has.spare (opened_there c.args.core.now.handles c.args.handle one.0 one.1) one.1 all.0 c.call-2.ensures.moves.threads all.1
          c.add_closed.ensures.closed
          (c.add_closed.ensures.unnamed
          ∙ (ap (λ (b : Bool). if b then spare.unnamed ++ c.in-Some.object ∷ [] else spare.unnamed) c.is_unnamed-unnamed.ensures
          ∙ ap (λ (o : ℕ). if is_unnamed new o then spare.unnamed ++ o ∷ [] else spare.unnamed) (sym one.2)));
    }
