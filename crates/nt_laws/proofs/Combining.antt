-- Laws that come of several lemmas.
use Rattle.std.proofs.Common.{subst}
use Rattle.std.specs.Prelude.{◌<◌}
use Rattle.nt_calls.specs.State.{object_at, opening}
use Rattle.nt_laws.specs.Laws.{ServesOneWay, OneOwner}
use Rattle.nt_laws.specs.Lives.{LivesOneWay, RunsAreLives, HandlesStayUntilGivenAgain}
use Rattle.nt_laws.specs.Since.{OneOwnerSinceGiven}
use Rattle.nt_laws.proofs.Choosing.{stages_same}
use Rattle.nt_laws.proofs.Numbers.{opening_enough}
use Rattle.nt_laws.proofs.Owing.{holder}
use Rattle.nt_laws.proofs.OwingSince.{owed_since, owner_since}
use Rattle.nt_laws.proofs.RunsAsLives.{owed_held, as_life, as_run}
use Rattle.nt_laws.proofs.Staging.{stages_enough, stages_stay}
use Rattle.nt_laws.proofs.Unique.{serve_unique}

pub serves_one_way : ServesOneWay
serves_one_way = λ threads old a b gs hs x y. serve_unique threads old a b gs hs x.0 x.1 y.0 y.1

pub one_owner : OneOwner
one_owner = λ n turns s run h t is. (
  owed_held n turns s run h t is,
  λ u a b. holder (object_at s.objects h) t u (subst (λ k. 0 < k) (owed_held n turns s run h t is) a) (subst (λ k. 0 < k) (owed_held n turns s run h u is) b),
)

pub lives_one_way : LivesOneWay
lives_one_way = λ n stages others a b x y alike. stages_same stages others (opening n) a b alike x y

pub one_owner_since_given : OneOwnerSinceGiven
one_owner_since_given = λ n stages s life h t is. (owed_since n stages s life h t is, owner_since n stages s life h t is)

pub runs_are_lives : RunsAreLives
runs_are_lives = λ n turns s. (λ run. as_life turns (opening n) s run, λ life. as_run turns (opening n) s life)

pub handles_stay_until_given_again : HandlesStayUntilGivenAgain
handles_stay_until_given_again = λ n before part mid s life stages h below none. stages_stay part mid s (stages_enough before (opening n) mid (opening_enough n) life) stages h below none
