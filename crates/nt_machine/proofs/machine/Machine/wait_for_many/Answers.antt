use Rattle.std.proofs.Common.{◌≡◌, ◌<◌, ℕ, List, length, map, false, ap, sym, ◌∙◌, subst, Contains}
use Rattle.nt_objects.specs.Object.{is_gone}
use Rattle.nt_calls.specs.State.{object_at}
use Rattle.nt_machine.specs.Dispatcher.{Dispatcher}
use Rattle.nt_calls.specs.Naming.{object_named}
use Rattle.nt_machine.proofs.Closing.{all_living}
use Rattle.nt_machine.proofs.machine.Machine.wait_for_many.Goals as goal

pub wait_for-requires-clause-living : goal.wait_for-requires-clause-living
wait_for-requires-clause-living c =
    let d = c.args.self.now in
    let numbers : c.as_slice.result.now ≡ map (object_named d.handles) c.args.these.now =
    c.as_slice.ensures.value ∙ (c.name_all-denied.ensures.items ∙ ap (λ (x : Dispatcher). map (object_named x.handles) c.args.these.now) c.self.view_is) in
    subst (λ (list : List ℕ). (h : ℕ) → Contains list h → h < length d.objects → is_gone (object_at d.objects h) ≡ false) (sym numbers) (all_living d c.args.these.now c.requires.fresh.steady.sound)
