use Rattle.std.proofs.Common.{◌≡◌, ◌<◌, ℕ, false, length, ◌++◌, ◌∷◌, [], refl, Some, sym, ap, ◌∙◌, subst, List, Option}
use Rattle.std.specs.Prelude.{Ok, Err}
use Rattle.nt_calls.specs.declared.call.Act.{Act}
use Rattle.nt_calls.specs.declared.call.Call.{Call}
use Rattle.nt_calls.specs.declared.call.Reply.{Reply}
use Rattle.nt_calls.specs.Naming.{act_named}
use Rattle.nt_calls.specs.Rights.{act_denied}
use Rattle.nt_machine.specs.Accepts.{IsCallMade}
use Rattle.nt_objects.specs.Object.{is_gone}
use Rattle.nt_calls.specs.State.{object_at}
use Rattle.nt_machine.proofs.Closing.{named_living}
use Rattle.nt_machine.proofs.Replacing.{duplicate_free, duplicated_accepted}
use Rattle.nt_machine.proofs.Making.{refused_with, unmade_with, accepted_made}
use Rattle.nt_calls.specs.Refusals.{IsJudged, duplicate_causes}
use Rattle.nt_machine.specs.Dispatcher.{Dispatcher}
use Rattle.nt_machine.specs.contracts.machine.Machine.{the_view}
use Rattle.nt_tables.specs.declared.handles.Opened.{Opened}
use Rattle.nt_machine.proofs.machine.Machine.duplicate.Goals as goal

pub returns-in_err-object : goal.returns-in_err-object
returns-in_err-object c t free =
    let old = c.args.self.now in
    let act = Act.Duplicate c.args.handle c.args.access in
    refused_with old t (act_denied old.handles act) (Call.Act (act_named old.handles act)) c.in_err-object.field-0.0 c.from_residual.result c.from_residual.ensures.1 c.requires.fresh free (subst (λ (x : Dispatcher). IsJudged x.handles c.args.handle c.args.access (λ denied h. duplicate_causes x.handles x.objects denied h c.args.access) (Err c.in_err-object.field-0.0)) c.self.view_is c.in_err-object.ensures)

pub returns-in_err-make_room : goal.returns-in_err-make_room
returns-in_err-make_room c t free =
    let old = c.args.self.now in
    let new : Dispatcher = record (the_view c.self.inside) { handles = c.make_room.new.self.opened } in
    let act = Act.Duplicate c.args.handle c.args.access in
    let judged = (subst (λ (x : Dispatcher). IsJudged x.handles c.args.handle c.args.access (λ denied h. duplicate_causes x.handles x.objects denied h c.args.access) (Ok c.in_ok-object.object)) c.self.view_is c.in_ok-object.ensures) in
    subst (λ (h : ℕ). IsCallMade old new t (act_denied old.handles act) (Call.Act (Act.Duplicate h c.args.access)) c.from_residual-in_err-make_room.result) judged.0
    (unmade_with old new t (act_denied old.handles act) (Call.Act (Act.Duplicate c.in_ok-object.object c.args.access)) c.from_residual-in_err-make_room.result c.from_residual-in_err-make_room.ensures.1 c.requires.fresh free judged.1 refl (ap (λ (hs : List (Option Opened)). record (the_view c.self.inside) { handles = hs }) c.make_room.ensures.opened ∙ c.self.view_is))

pub returns : goal.returns
returns c t free =
    let old = c.args.self.now in
    let new : Dispatcher = record (the_view c.self.inside) { handles = c.add.new.self.opened } in
    let opened : c.make_room.new.self.opened ≡ old.handles = c.make_room.ensures.opened ∙ ap (λ (x : Dispatcher). x.handles) c.self.view_is in
    let act = Act.Duplicate c.args.handle c.args.access in
    let object = c.in_ok-object.object in
    let judged = (subst (λ (x : Dispatcher). IsJudged x.handles c.args.handle c.args.access (λ denied h. duplicate_causes x.handles x.objects denied h c.args.access) (Ok c.in_ok-object.object)) c.self.view_is c.in_ok-object.ensures) in
    let may = duplicate_free old.handles old.objects (act_denied old.handles act) object c.args.access judged.1 in
    let living = subst (λ (h : ℕ). h < length old.objects → is_gone (object_at old.objects h) ≡ false) (sym judged.0) (λ known. named_living old c.args.handle c.requires.fresh.steady.sound known) in
    let accepted = duplicated_accepted old new t object c.args.access c.add.result c.requires.fresh may.2 may.0 (living may.0) (c.add.ensures.handle ∙ ap (λ (hs : List (Option Opened)). length hs) opened)
    (ap (λ (hs : List (Option Opened)). record (the_view c.self.inside) { handles = hs }) c.add.ensures.opened ∙ (λ i. record (c.self.view_is i) { handles = opened i ++ Some (record { object = object; access = c.in-Some.access }) ∷ [] }) ∙ ap (λ (access : ℕ). record old { handles = old.handles ++ Some (record { object = object; access = access }) ∷ [] }) c.in-Some.ensures.value) in
    subst (λ (h : ℕ). IsCallMade old new t (act_denied old.handles act) (Call.Act (Act.Duplicate h c.args.access)) (Ok (Reply.Handle c.add.result))) judged.0
    (accepted_made old new t (act_denied old.handles act) (Call.Act (Act.Duplicate object c.args.access)) (Reply.Handle c.add.result) free judged.1 accepted)
