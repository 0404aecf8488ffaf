use Rattle.std.proofs.Common.{ℕ, List, Bool, true, map, refl, sym, ap, ◌∙◌, subst, arith, set}
use Rattle.nt_objects.specs.declared.object.Object.{Object}
use Rattle.nt_objects.specs.Object.{abandoned_by}
use Rattle.nt_tables.proofs.AbandonLemmas.{MarkedSoFar, abandoned_at, none_marked, one_marked, all_marked, all_the_same, none_abandoned, none_owned, owned_there}
use Rattle.nt_tables.proofs.table.abandon_each.Goals as goal

pub loop-mutex-init : goal.loop-mutex-init
loop-mutex-init c = record {
  agree = c.requires.agree;
  all = refl;
  so_far = none_marked c.args.objects.now c.args.thread c.args.changed.now;
  room = refl;
  threads = refl;
}

pub set-requires : goal.set-requires
set-requires c =
    let below = owned_there c.args.objects.now c.loop-mutex.objects c.args.thread c.in-Some.mutex c.loop-mutex.invariant.all c.in-Some.ensures.owned in
    let places = c.requires.places in
    let count = c.loop-mutex.invariant.so_far.count in
    let at = c.get.ensures in
    omega (arith, below, places, count, at)

pub loop-mutex-preserved : goal.loop-mutex-preserved
loop-mutex-preserved c =
    let now = c.loop-mutex.objects in
    let below = owned_there c.args.objects.now now c.args.thread c.in-Some.mutex c.loop-mutex.invariant.all c.in-Some.ensures.owned in
    let places = c.requires.places in
    let count = c.loop-mutex.invariant.so_far.count in
    let so_far = one_marked c.args.objects.now now c.args.thread c.in-Some.mutex c.args.changed.now c.loop-mutex.changed c.loop-mutex.invariant.so_far c.in-Some.ensures.owned (omega (arith, below, places, count)) in
    record {
      agree = c.abandon_first.ensures.agree;
      all = ap (λ (os : List Object). map (abandoned_by c.args.thread) os) c.in-Some.ensures.free ∙ (all_the_same now c.args.thread c.in-Some.mutex ∙ c.loop-mutex.invariant.all);
      so_far =
          subst (λ (os : List Object). MarkedSoFar c.args.objects.now os c.args.thread c.args.changed.now c.set.new.self) (sym c.in-Some.ensures.free)
          (subst (λ (marks : List Bool). MarkedSoFar c.args.objects.now (abandoned_at now c.args.thread c.in-Some.mutex) c.args.thread c.args.changed.now marks) (sym (c.set.ensures ∙ ap (λ (k : ℕ). set c.loop-mutex.changed k true) c.get.ensures)) so_far);
      room = c.abandon_first.ensures.room ∙ c.loop-mutex.invariant.room;
      threads = c.abandon_first.ensures.threads ∙ c.loop-mutex.invariant.threads;
    }

pub returns-clause-objects : goal.returns-clause-objects
returns-clause-objects c =
    let none = none_owned c.abandon_first.new.objects c.abandon_first.new.owners.lists c.args.thread c.abandon_first.ensures.agree c.in_default.ensures.none.1 in
    sym (none_abandoned c.abandon_first.new.objects c.args.thread none)
    ∙ (ap (λ (os : List Object). map (abandoned_by c.args.thread) os) c.in_default.ensures.none.0 ∙ c.loop-mutex.invariant.all)

pub returns-clause-marked : goal.returns-clause-marked
returns-clause-marked c =
    let none = none_owned c.abandon_first.new.objects c.abandon_first.new.owners.lists c.args.thread c.abandon_first.ensures.agree c.in_default.ensures.none.1 in
    let so_far : MarkedSoFar c.args.objects.now c.abandon_first.new.objects c.args.thread c.args.changed.now c.loop-mutex.changed = subst (λ (os : List Object). MarkedSoFar c.args.objects.now os c.args.thread c.args.changed.now c.loop-mutex.changed) (sym c.in_default.ensures.none.0) c.loop-mutex.invariant.so_far in
    all_marked c.args.objects.now c.abandon_first.new.objects c.args.thread c.args.changed.now c.loop-mutex.changed so_far none
