use Rattle.std.proofs.Common.{◌≡◌, ◌<◌, ℕ, false, length, set, sym, ap, ◌∙◌, arith, List, Option, None, subst, true}
use Rattle.nt_tables.specs.Handles.{opened_at}
use Rattle.nt_calls.specs.declared.call.Act.{Act}
use Rattle.nt_calls.specs.declared.call.Call.{Call}
use Rattle.nt_calls.specs.declared.call.Reply.{Reply}
use Rattle.nt_machine.specs.Dispatcher.{Dispatcher}
use Rattle.nt_calls.specs.Refusals.{first_of_causes, close_causes}
use Rattle.nt_machine.proofs.Closing.{close_free, opened_of, closed_accepted}
use Rattle.nt_machine.proofs.Making.{refused_made, accepted_made}
use Rattle.nt_machine.specs.contracts.machine.Machine.{the_view}
use Rattle.nt_tables.specs.declared.handles.Opened.{Opened}
use Rattle.std.specs.Prelude.{IsSome}
use Rattle.nt_machine.proofs.machine.Machine.close.Goals as goal

pub returns-in-Some : goal.returns-in-Some
returns-in-Some c t free =
    refused_made c.args.self.now t false (Call.Act (Act.Close c.args.handle)) c.in-Some.refusal c.requires.fresh free (ap (λ (d : Dispatcher). first_of_causes (close_causes d.handles c.args.handle)) (sym c.self.view_is) ∙ (sym c.close_refusal.ensures ∙ c.in-Some.is))

pub close-object-requires : goal.close-object-requires
close-object-requires c =
    record { «open» = subst (λ (x : Dispatcher). IsSome (opened_at x.handles c.args.handle)) (sym c.self.view_is) (close_free c.args.self.now.handles c.args.handle (ap (λ (d : Dispatcher). first_of_causes (close_causes d.handles c.args.handle)) (sym c.self.view_is) ∙ (sym c.close_refusal.ensures ∙ c.in_default.is))) }

pub mark-requires : goal.mark-requires
mark-requires c =
    let old = c.args.self.now in
    let sound = c.requires.fresh.steady.sound in
    let there = opened_of (opened_at old.handles c.args.handle) (close_free old.handles c.args.handle (ap (λ (d : Dispatcher). first_of_causes (close_causes d.handles c.args.handle)) (sym c.self.view_is) ∙ (sym c.close_refusal.ensures ∙ c.in_default.is))) in
    let object : c.close-object.result ≡ there.0.object = c.close-object.ensures.object there.0 (ap (λ (x : Dispatcher). opened_at x.handles c.args.handle) c.self.view_is ∙ there.1) in
    let known : there.0.object < length old.objects = sound.handles.named c.args.handle there.0 there.1 in
    let count : length old.leaving ≡ length old.objects = sound.marks.count in
    let same : length (the_view c.self.inside).leaving ≡ length old.leaving = ap (λ (d : Dispatcher). length d.leaving) (ap (λ (hs : List (Option Opened)). record (the_view c.self.inside) { handles = hs }) c.close-object.ensures.opened ∙ ap (λ (x : Dispatcher). record x { handles = set x.handles c.args.handle None }) c.self.view_is) in
    omega (arith, object, known, count, same)

pub returns : goal.returns
returns c t free =
    let old = c.args.self.now in
    let none = ap (λ (d : Dispatcher). first_of_causes (close_causes d.handles c.args.handle)) (sym c.self.view_is) ∙ (sym c.close_refusal.ensures ∙ c.in_default.is) in
    let there = opened_of (opened_at old.handles c.args.handle) (close_free old.handles c.args.handle none) in
    let object : c.close-object.result ≡ there.0.object = c.close-object.ensures.object there.0 (ap (λ (x : Dispatcher). opened_at x.handles c.args.handle) c.self.view_is ∙ there.1) in
    accepted_made old c.mark.new.self t false (Call.Act (Act.Close c.args.handle)) Reply.Done free none
    (closed_accepted old c.mark.new.self t c.args.handle there.0 c.requires.fresh there.1
    (c.mark.ensures ∙ (ap (λ (k : ℕ). record (record (the_view c.self.inside) { handles = c.close-object.new.self.opened }) { leaving = set (the_view c.self.inside).leaving k true }) object ∙ ap (λ (d : Dispatcher). record d { leaving = set d.leaving there.0.object true }) (ap (λ (hs : List (Option Opened)). record (the_view c.self.inside) { handles = hs }) c.close-object.ensures.opened ∙ ap (λ (x : Dispatcher). record x { handles = set x.handles c.args.handle None }) c.self.view_is))))
