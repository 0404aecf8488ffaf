use Rattle.std.proofs.Common.{List, ℕ, length, sym, subst, ap, ◌∙◌}
use Rattle.nt_machine.specs.Dispatcher.{state}
use Rattle.nt_explore.specs.declared.met.Visit.{Visit}
use Rattle.nt_explore.specs.Hash.{hash_of}
use Rattle.nt_explore.specs.Walk.{AreInSlots}
use Rattle.nt_lanes.specs.Lanes.{beginning, point_at}
use Rattle.nt_explore.proofs.Walks.{meets_added, meets_there, found_none, start_low}
use Rattle.nt_explore.proofs.met.Met.meet.Goals as goal

pub find-requires-clause-stand : goal.find-requires-clause-stand
find-requires-clause-stand c =
    let visits = c.args.self.now.visits.items in
    subst (λ (es : List Visit). AreInSlots es (length es) c.deref-3.result.now) (sym c.deref-2.ensures.value) (subst (AreInSlots visits (length visits)) (sym c.deref-3.ensures.value) c.requires.table.stands)

pub returns-in-Some-clause-point : goal.returns-in-Some-clause-point
returns-in-Some-clause-point c = λ point walk goes.
    meets_there c.args.plan.now (beginning c.args.plan.now (state c.args.start.now)) c.args.self.now.visits.items c.deref-2.result.now c.hash_of-hash.result (point_at c.args.position.now.places.items c.args.position.now.core) c.in_ok-found.found c.in-Some.index c.deref-2.ensures.value c.in-Some.is c.in_ok-found.ensures point walk

pub returns-in-None-clause-point : goal.returns-in-None-clause-point
returns-in-None-clause-point c =
    let plan = c.args.plan.now in
    let start = beginning plan (state c.args.start.now) in
    let old = c.args.self.now.visits.items in
    let p = point_at c.args.position.now.places.items c.args.position.now.core in
    let hash = c.hash_of-hash.ensures ∙ ap (λ (ns : List ℕ). hash_of (point_at ns c.args.position.now.core)) c.deref.ensures.value in
    let none = found_none plan start old c.deref-2.result.now c.hash_of-hash.result p c.in_ok-found.found c.deref-2.ensures.value c.in-None.is c.in_ok-found.ensures in
    meets_added plan start old c.add.new.met.visits.items (record { hash = c.hash_of-hash.result; lane = c.args.lane; parent = c.args.parent }) p c.add.result (start_low plan (state c.args.start.now)) c.requires.there hash none c.add.ensures.index c.add.ensures.added
