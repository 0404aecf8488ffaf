use Rattle.std.proofs.Common.{◌≡◌, List, set, false, sym, ap, ◌∙◌, subst}
use Rattle.std.specs.Option.{IsSome}
use Rattle.std.specs.Prelude.{is_some}
use Rattle.std.proofs.lemmas.List.{get_or_read}
use Rattle.nt_objects.specs.declared.object.Object.{Object}
use Rattle.nt_objects.specs.declared.object.Object.TheVariants.{Thread}
use Rattle.nt_objects.specs.Object.{mutex_owner, abandoned_by}
use Rattle.nt_tables.specs.Owned.{Owned}
use Rattle.nt_tables.specs.Objects.{object_at, OwnersAgree}
use Rattle.nt_tables.proofs.PassLemmas.{first_owner, owned_below, abandoned_is, agree_abandoned}
use Rattle.nt_tables.proofs.KeptLemmas.{none_popped}
use Rattle.nt_tables.proofs.table.abandon_first.Goals as goal

pub bounds-objects-get : goal.bounds-objects-get
bounds-objects-get c =
    let owner = first_owner c.args.objects.now c.args.owners.now.lists c.args.thread c.in_ok-mutex.mutex c.requires.agree (sym c.pop.ensures.first ∙ c.in_ok-mutex.was) in
    rw c.get.ensures (owned_below c.args.objects.now c.args.thread c.in_ok-mutex.mutex owner)

pub abandon-requires : goal.abandon-requires
abandon-requires c =
    let owner = first_owner c.args.objects.now c.args.owners.now.lists c.args.thread c.in_ok-mutex.mutex c.requires.agree (sym c.pop.ensures.first ∙ c.in_ok-mutex.was) in
    let below = owned_below c.args.objects.now c.args.thread c.in_ok-mutex.mutex owner in
    let read : c.index-objects-get.result ≡ object_at c.args.objects.now c.in_ok-mutex.mutex = get_or_read c.args.objects.now c.in_ok-mutex.mutex c.index-objects-get.result below (rw c.get.ensures at c.index-objects-get.is) (Thread false) in
    subst (λ (o : Object). IsSome (mutex_owner o)) c.index-objects-get.is (ap is_some (ap mutex_owner read ∙ owner))

pub returns-clause-free : goal.returns-clause-free
returns-clause-free c =
    let objects = c.args.objects.now in
    let mutex = c.in_ok-mutex.mutex in
    let owner = first_owner objects c.args.owners.now.lists c.args.thread mutex c.requires.agree (sym c.pop.ensures.first ∙ c.in_ok-mutex.was) in
    let below = owned_below objects c.args.thread mutex owner in
    let read : c.index-objects-get.result ≡ object_at objects mutex = get_or_read objects mutex c.index-objects-get.result below (rw c.get.ensures at c.index-objects-get.is) (Thread false) in
    let is : c.abandon.new.self ≡ abandoned_by c.args.thread (object_at objects mutex) = abandoned_is (object_at objects mutex) _ c.abandon.new.self c.args.thread (sym c.index-objects-get.is ∙ read) owner c.abandon.ensures.abandoned in
    λ i. set objects (c.get.ensures i) (is i)

pub returns-clause-agree : goal.returns-clause-agree
returns-clause-agree c =
    let objects = c.args.objects.now in
    let mutex = c.in_ok-mutex.mutex in
    let first = sym c.pop.ensures.first ∙ c.in_ok-mutex.was in
    let owner = first_owner objects c.args.owners.now.lists c.args.thread mutex c.requires.agree first in
    let below = owned_below objects c.args.thread mutex owner in
    let read : c.index-objects-get.result ≡ object_at objects mutex = get_or_read objects mutex c.index-objects-get.result below (rw c.get.ensures at c.index-objects-get.is) (Thread false) in
    let is : c.abandon.new.self ≡ abandoned_by c.args.thread (object_at objects mutex) = abandoned_is (object_at objects mutex) _ c.abandon.new.self c.args.thread (sym c.index-objects-get.is ∙ read) owner c.abandon.ensures.abandoned in
    subst (λ (os : List Object). OwnersAgree os c.pop.new.self.lists) (λ i. set objects (sym c.get.ensures i) (sym is i))
    (subst (λ (owned : Owned). OwnersAgree (set objects mutex (abandoned_by c.args.thread (object_at objects mutex))) owned.lists) (sym c.pop.ensures.rest)
    (agree_abandoned objects c.args.owners.now.lists c.args.thread mutex c.requires.agree first))

pub returns-in_err-mutex-clause-agree : goal.returns-in_err-mutex-clause-agree
returns-in_err-mutex-clause-agree c =
    subst (λ (owned : Owned). OwnersAgree c.args.objects.now owned.lists) (sym c.pop.ensures.rest)
    (none_popped c.args.objects.now c.args.owners.now.lists c.args.thread (sym c.pop.ensures.first ∙ c.in_err-mutex.was) c.requires.agree)
