use Rattle.std.proofs.Common.{◌≡◌, rules, refl, ◌∙◌}
use Rattle.nt_mail.specs.Knowledge.{with_got, with_polled}
use Rattle.nt_mail.specs.Words.{TellsGrant, grant_in}
use Rattle.nt_mail.proofs.Words.{grant_in_granted}
use Rattle.nt_front.proofs.front.Front.poll.Goals as goal

pub take-requires-clause-granted : goal.take-requires-clause-granted
take-requires-clause-granted g c =
    let told : TellsGrant c.poll-word.result c.in-Some.entry c.in-Some.reply = c.in-Some.ensures.some in
    (grant_in_granted c.poll-word.result c.in-Some.entry told.status told.lawful.2 told.bits_are).1

pub returns : goal.returns
returns g c =
    let word = c.poll-word.result in
    let told : TellsGrant word c.in-Some.entry c.in-Some.reply = c.in-Some.ensures.some in
    let grant = (grant_in_granted word c.in-Some.entry told.status told.lawful.2 told.bits_are).0 in
    let taken : c.take.new.seat.known ≡ with_got (grant_in word) (with_polled word c.args.sleeper) = search rules in record {
      word = word;
      reply = c.in-Some.reply;
      tells = told;
      result_is = refl;
      taken = taken ∙ (λ i. with_got (grant i) (with_polled word c.args.sleeper));
    }
