-- A handle that says that it has no dispatcher has none.
use Rattle.std.proofs.Common.{◌≡◌, sym, refl}
use Rattle.std.proofs.lemmas.Bool.{false≢true}
use Rattle.std.specs.Prelude.{Option, None, Some, is_some, false}
use Rattle.nt_sleepers.specs.Sleepers.{Sleeping}

pub none_of : (x : Option Sleeping) → is_some x ≡ false → x ≡ None
none_of None e = refl
none_of (Some d) e = absurd (false≢true (sym e))
