use Rattle.std.proofs.Common.{◌≤◌, rules, arith, subst, sym}
use Rattle.nt_mail.specs.Seats.{DispatcherSeated}
use Rattle.nt_mail.specs.Knowledge.{latest}
use Rattle.nt_mail.proofs.Writing.{publishes_as}
use Rattle.nt_mail.proofs.mail.Mail.publish_moment.Goals as goal

pub store-requires : goal.store-requires
store-requires c =
    let rises = subst (λ (d : DispatcherSeated). latest 0 d.published ≤ c.args.moment) (sym c.dispatcher.view_is) c.requires.moment in
    (search rules, search rules, publishes_as _ _ _ _ c.dispatcher.invariant (omega (arith, rises, c.get.ensures.value)) c.get.ensures.limit)
