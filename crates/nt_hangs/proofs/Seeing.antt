-- Lines that are carried out and seen, one after another.
use Rattle.std.proofs.Common.{◌≡◌, ℕ, ◌+◌, List, [], ◌∷◌, length, None, Result, Ok, Err, refl, sym, ap, subst, arith, append-nil}
use Rattle.nt_grammar.specs.declared.fault.ScriptFault.TheVariants.{ThreadsExpected}
use Rattle.nt_script.specs.declared.fault.RunFault.{RunFault}
use Rattle.nt_script.specs.declared.fault.RunFault.TheVariants.{Script, Read, Write, Memory}
use Rattle.nt_hangs.specs.Taking.{TakesAll, TakesLines}
use Rattle.nt_hangs.specs.Watching.{Seen, Sees, SeesAll, unseen}
use Rattle.nt_hangs.specs.Steps.{IsFaultOf, IsReadyFor, WatchesLines}

-- the first line may be carried out
pub ready_at_first : (now : Seen) → now ≡ unseen → IsReadyFor 1 now
ready_at_first now fresh = rw fresh (tt, refl)

module _ {S : Type 0} (seen : S → Seen) where
  -- who takes lines sees them
  SeesAll-of : (number : ℕ) (old new : S) (lines : List (List ℕ)) → TakesAll (λ n bytes a b. Sees n bytes (seen a) (seen b)) number old lines new → SeesAll number (seen old) lines (seen new)
  SeesAll-of number old new [] same = ap seen same
  SeesAll-of number old new (bytes ∷ lines) taken = (seen taken.0, taken.1, SeesAll-of (number + 1) taken.0 new lines taken.2)

  -- from the first line on
  sees_first : (old new : S) (lines : List (List ℕ)) → seen old ≡ unseen → TakesAll (λ n bytes a b. Sees n bytes (seen a) (seen b)) 1 old lines new → SeesAll 1 unseen lines (seen new)
  sees_first old new lines fresh taken = subst (λ (from : Seen). SeesAll 1 from lines (seen new)) fresh (SeesAll-of 1 old new lines taken)

  pub watched : (lines : List (List ℕ)) (old new : S) (result : Result ℕ RunFault) → seen old ≡ unseen
      → TakesLines (λ n bytes a b. Sees n bytes (seen a) (seen b)) (λ n bytes a fault. IsFaultOf n (seen a).now bytes fault) lines old new result → WatchesLines lines result (seen new)
  watched lines old new (Ok count) fresh taken = (sees_first old new lines fresh taken.0, taken.1)
  watched lines old new (Err (Script place fault)) fresh taken = record {
    before = taken.before;
    after = taken.line ∷ taken.after;
    seen = seen taken.mid;
    split = taken.split;
    place = taken.refuses.0;
    sees = sees_first old taken.mid taken.before fresh taken.takes;
    cause = taken.refuses.1;
  }
  watched lines old new (Err (Memory place)) fresh taken = tt
  watched lines old new (Err (Read place)) fresh taken = absurd taken.refuses
  watched lines old new (Err (Write place)) fresh taken = absurd taken.refuses

-- no line opened threads
pub unopened : (lines : List (List ℕ)) (count : ℕ) (now left : Seen) → SeesAll 1 unseen lines now × (count ≡ length lines) → now.now ≡ None → WatchesLines lines (Err (Script (count + 1) ThreadsExpected)) left
unopened lines count now left (sees, place) none = record {
  before = lines;
  after = [];
  seen = now;
  split = sym (append-nil lines);
  place = omega (arith, place);
  sees = sees;
  cause = (none, refl);
}
