use Rattle.std.proofs.Common.{◌≡◌, ◌<◌, length, sym, subst, arith}
use Rattle.nt_apc.specs.Queues.{KeepsPlaces}
use Rattle.nt_calls.specs.State.{State}
use Rattle.nt_calls.specs.Living.{LivesWhileKept}
use Rattle.nt_machine.specs.Dispatcher.{Dispatcher, state}
use Rattle.nt_machine.specs.Lawful.{IsSteady}
use Rattle.nt_core.proofs.Lengthening.{added_vacant, either_vacant, living_vacant, steady_vacant, vacant_added}
use Rattle.nt_core.proofs.renewals.add_vacant.Goals as goal

refused : (old mid : State) → mid ≡ old → LivesWhileKept old → LivesWhileKept mid
refused old mid same living = subst (λ (s : State). LivesWhileKept s) (sym same) living

pub returns-then-as_slice-len-clause-living : goal.returns-then-as_slice-len-clause-living
returns-then-as_slice-len-clause-living c = refused (state c.args.machine.now) (state c.tell_anew.new.self) c.tell_anew.ensures.state c.requires.living

room : (c : goal.After-lengthen) → length c.tell_anew.new.self.objects < length c.tell_anew.new.self.handles
room c =
    let test = c.if-as_slice-len.false in
    let items = c.as_slice.ensures in
    let count = c.len.ensures in
    subst (λ (d : Dispatcher). length d.objects < length d.handles) c.machine.view_is (grind (arith, test, items, count))

pub returns-clause-added : goal.returns-clause-added
returns-clause-added c =
    added_vacant (state c.args.machine.now) c.tell_anew.new.self c.lengthen.new.machine c.lengthen.result c.tell_anew.ensures.state c.tell_anew.ensures.fresh (room c)
    c.lengthen.ensures.number c.lengthen.ensures.ok c.lengthen.ensures.refused c.lengthen.ensures.err

pub returns-clause-steady : goal.returns-clause-steady
returns-clause-steady c =
    let mid = c.tell_anew.new.self in
    either_vacant IsSteady mid c.lengthen.new.machine c.lengthen.result c.lengthen.ensures.ok c.lengthen.ensures.err
    (steady_vacant mid c.lengthen.new.machine.owned c.tell_anew.ensures.fresh.steady (refused (state c.args.machine.now) (state mid) c.tell_anew.ensures.state c.requires.living) (room c))
    c.tell_anew.ensures.fresh.steady

pub returns-clause-living : goal.returns-clause-living
returns-clause-living c =
    let mid = c.tell_anew.new.self in
    let living = refused (state c.args.machine.now) (state mid) c.tell_anew.ensures.state c.requires.living in
    either_vacant (λ (d : Dispatcher). LivesWhileKept (state d)) mid c.lengthen.new.machine c.lengthen.result c.lengthen.ensures.ok c.lengthen.ensures.err
    (living_vacant mid c.lengthen.new.machine.owned c.tell_anew.ensures.fresh.steady.sound living)
    living

pub returns-clause-vacant : goal.returns-clause-vacant
returns-clause-vacant c =
    vacant_added c.tell_anew.new.self c.lengthen.new.machine c.lengthen.result c.tell_anew.ensures.fresh.steady.sound
    (subst (λ (d : Dispatcher). KeepsPlaces d.apcs) c.machine.view_is c.place_of.ensures.keeps)
    c.lengthen.ensures.number c.lengthen.ensures.ok
