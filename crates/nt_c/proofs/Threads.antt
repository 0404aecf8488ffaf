-- What is asked about a thread that there is.
use Rattle.std.proofs.Common.{◌≡◌, ℕ, Bool, false, Option, Some, sym, subst}
use Rattle.std.specs.Prelude.{MatchBool, nat_le}
use Rattle.nt_machine.specs.Dispatcher.{state}
use Rattle.nt_sleepers.specs.Sleepers.{Sleeping}
use Rattle.nt_c.specs.Sleeps.{AsksOfThread}

-- what is asked of these, by whether the thread is unknown
abbrev AsksBy : Bool → Option Sleeping → Option Sleeping → (ℕ → Type 0) → (Sleeping → Type 0) → Type 0
AsksBy unknown old new refused asked = MatchBool unknown (refused 0x20000003 × (new ≡ old)) ((after : Sleeping) × (new ≡ Some after) × asked after)

pub asks_of : (who : ℕ) (old : Option Sleeping) (s after : Sleeping) (refused : ℕ → Type 0) (asked : Sleeping → Sleeping → Type 0) → old ≡ Some s → nat_le (state s.core).threads who ≡ false → asked s after → AsksOfThread who old (Some after) refused asked
asks_of who old s after refused asked held known is =
    subst (λ (o : Option Sleeping). AsksOfThread who o (Some after) refused asked) (sym held)
    (subst (λ (b : Bool). AsksBy b (Some s) (Some after) refused (asked s)) (sym known) (after, (λ i. Some after), is))
