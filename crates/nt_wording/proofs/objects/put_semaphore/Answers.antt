use Rattle.std.proofs.Common.{rules, ◌≡◌, ◌++◌, ◌∙◌, ap, codes, ℤ, w32, to_z, of_z}
use Rattle.std.specs.Fmt.{signed_decimal}
use Rattle.nt_wording.proofs.Telling.{put_both}
use Rattle.nt_wording.proofs.objects.put_semaphore.Goals as goal

pub returns : goal.returns
returns c =
    let count : to_z w32 (of_z w32 c.args.count) ≡ c.args.count = search rules in
    let maximum : to_z w32 (of_z w32 c.args.maximum) ≡ c.args.maximum = search rules in
    let first = c.in_ok-put_counted.ensures ∙ ap (λ (z : ℤ). c.args.out.now.items ++ (codes "semaphore, count " ++ signed_decimal z)) count in
    put_both c.put_counted-2.result c.args.out.now.items c.put_counted.new.out.items c.put_counted-2.new.out.items (codes "semaphore, count " ++ signed_decimal c.args.count)
    (codes " of " ++ signed_decimal c.args.maximum) (codes " of " ++ signed_decimal (to_z w32 (of_z w32 c.args.maximum))) first (ap (λ (z : ℤ). codes " of " ++ signed_decimal z) maximum) c.put_counted-2.ensures
