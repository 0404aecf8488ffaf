use Rattle.std.proofs.Common.{arith, sym, subst, ◌≡◌, ◌∙◌}
use Rattle.std.proofs.lemmas.Bool.Decides.{nat_tests}
use Rattle.nt_machine.specs.Dispatcher.{Dispatcher}
use Rattle.nt_core.specs.Alike.{AreAlike}
use Rattle.nt_core.proofs.LikeLemmas.{state_alike, alike_parts}
use Rattle.nt_core.proofs.dispatcher.Core.is_like.Goals as goal

pub returns : goal.returns
returns c = (
  λ e.
      let inside = c.is_like_inside.ensures.0 e in
      let alike : AreAlike c.args.self.now c.args.other.now = subst (λ (d : Dispatcher). AreAlike c.args.self.now d) c.other.view_is (subst (λ (d : Dispatcher). AreAlike d c.other.inside.machine) c.self.view_is inside) in
      let threads : c.args.self.now.threads ≡ c.args.other.now.threads = let one = c.threads.ensures in let two = c.threads-2.ensures in let no = c.if-threads.false in grind (arith, nat_tests, one, two, no) in
      let now : c.args.self.now.now ≡ c.args.other.now.now = let one = c.now.ensures in let two = c.now-else-threads.ensures in let told = c.ne.ensures in let no = c.if-ne.false in grind (arith, nat_tests, one, two, told, no) in
      let objects = sym c.objects.ensures ∙ (c.objects_alike.ensures.0 c.if-not-objects_alike.false ∙ c.objects-2.ensures) in
      state_alike c.args.self.now c.args.other.now c.stands.ensures c.stands-2.ensures threads now objects (c.all_wait_alike.ensures.0 c.if-not-all_wait_alike.false) alike,
  λ e.
      let alike = alike_parts c.args.self.now c.args.other.now e in
      c.is_like_inside.ensures.1 (subst (λ (d : Dispatcher). AreAlike c.self.inside.machine d) (sym c.other.view_is) (subst (λ (d : Dispatcher). AreAlike d c.args.other.now) (sym c.self.view_is) alike)),
)
