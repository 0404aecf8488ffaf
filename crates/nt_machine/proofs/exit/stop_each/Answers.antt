use Rattle.std.proofs.Common.{◌≡◌, ◌<◌, ◌+◌, ℕ, List, [], ◌∷◌, ◌++◌, Option, None, length, take, set, sym, ap, ◌∙◌, subst, arith, Bool, true}
use Rattle.std.proofs.lemmas.Bool.{false≢true}
use Rattle.nt_objects.specs.declared.object.Object.{Object}
use Rattle.nt_objects.specs.Object.{armed_with}
use Rattle.nt_tables.specs.Objects.{Objects}
use Rattle.nt_calls.specs.State.{object_at}
use Rattle.nt_machine.specs.Accepts.{IsSetBy}
use Rattle.nt_machine.proofs.Listing.{one_more}
use Rattle.nt_machine.proofs.Leaving.{StoppedSoFar, stopped_next, stopped_not, set_timer_known}
use Rattle.nt_machine.proofs.exit.stop_each.Goals as goal
use Rattle.nt_machine.proofs.exit.stop_each.Goals.{then-is_set_by, else-is_set_by}

pub loop-timer-preserved : goal.loop-timer-preserved
loop-timer-preserved c =
    let t = c.args.thread in
    let h = c.timer-item.result in
    let old = c.args.objects.now.items in
    let now = c.loop-timer.objects.items in
    let olda = c.args.alarms.now in
    let oldc = c.args.changed.now in
    let far = c.loop-timer.invariant.so_far in
    let timers = take c.loop-timer.timer-index c.args.timers.now in
    let more : take (c.loop-timer.timer-index + 1) c.args.timers.now ≡ timers ++ h ∷ [] = one_more c.args.timers.now c.loop-timer.timer-index h c.loop-timer-test.true c.timer-item.is in
    elim c.if-is_set_by.branch [
      | then-is_set_by w ↦
          let sets : IsSetBy now t h = subst (λ (os : List Object). IsSetBy os t h) c.as_slice.ensures (c.is_set_by.ensures.0 w.if-is_set_by.true) in
          let objects : c.if-is_set_by.objects.items ≡ set now h (armed_with None (object_at now h)) = ap (λ (o : Objects). o.items) w.objects-is ∙ w.stop.ensures.objects in
          let alarms : c.if-is_set_by.alarms ≡ set c.loop-timer.alarms h None = w.alarms-is ∙ w.stop.ensures.alarms in
          let changed : c.if-is_set_by.changed ≡ set c.loop-timer.changed h true = w.changed-is ∙ w.stop.ensures.changed in
          let place : h < length c.loop-timer.changed = let known = set_timer_known now t h sets in let a = far.marked.count in let b = far.stopped.count in let e = c.requires.places in omega (arith, known, a, b, e) in
          let next : StoppedSoFar t (timers ++ h ∷ []) old (set now h (armed_with None (object_at now h))) olda (set c.loop-timer.alarms h None) oldc (set c.loop-timer.changed h true) =
          stopped_next t timers h old now olda c.loop-timer.alarms oldc c.loop-timer.changed sets place far in
          record {
            so_far =
                subst (λ (ts : List ℕ). StoppedSoFar t ts old c.if-is_set_by.objects.items olda c.if-is_set_by.alarms oldc c.if-is_set_by.changed) (sym more)
                (subst (λ (os : List Object). StoppedSoFar t (timers ++ h ∷ []) old os olda c.if-is_set_by.alarms oldc c.if-is_set_by.changed) (sym objects)
                (subst (λ (clocks : List (Option ℕ)). StoppedSoFar t (timers ++ h ∷ []) old (set now h (armed_with None (object_at now h))) olda clocks oldc c.if-is_set_by.changed) (sym alarms)
                (subst (λ (marks : List Bool). StoppedSoFar t (timers ++ h ∷ []) old (set now h (armed_with None (object_at now h))) olda (set c.loop-timer.alarms h None) oldc marks) (sym changed) next)));
            owned = ap (λ (o : Objects). o.owned) w.objects-is ∙ (w.stop.ensures.owned ∙ c.loop-timer.invariant.owned);
          }
      | else-is_set_by w ↦
          let none = λ (sets : IsSetBy now t h). false≢true (sym w.if-is_set_by.false ∙ c.is_set_by.ensures.1 (subst (λ (os : List Object). IsSetBy os t h) (sym c.as_slice.ensures) sets)) in
          let next = stopped_not t timers h old now olda c.loop-timer.alarms oldc c.loop-timer.changed none far in
          record {
            so_far =
                subst (λ (ts : List ℕ). StoppedSoFar t ts old c.if-is_set_by.objects.items olda c.if-is_set_by.alarms oldc c.if-is_set_by.changed) (sym more)
                (subst (λ (os : List Object). StoppedSoFar t (timers ++ h ∷ []) old os olda c.if-is_set_by.alarms oldc c.if-is_set_by.changed) (sym (ap (λ (o : Objects). o.items) w.objects-is))
                (subst (λ (clocks : List (Option ℕ)). StoppedSoFar t (timers ++ h ∷ []) old now olda clocks oldc c.if-is_set_by.changed) (sym w.alarms-is)
                (subst (λ (marks : List Bool). StoppedSoFar t (timers ++ h ∷ []) old now olda c.loop-timer.alarms oldc marks) (sym w.changed-is) next)));
            owned = ap (λ (o : Objects). o.owned) w.objects-is ∙ c.loop-timer.invariant.owned;
          }
    ]
