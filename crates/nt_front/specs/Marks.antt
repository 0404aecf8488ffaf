-- Which threads are marked.
use Rattle.std.specs.Prelude.{◌≡◌, ◌<◌, ◌||◌, ◌==◌, ℕ, Bool, List, length, nat_lt}
use Rattle.nt_status.specs.declared.limits.TheConstants.{MAX_THREADS}
use Rattle.nt_calls.specs.declared.call.Grant.{Grant}
use Rattle.nt_calls.specs.Moves.{granted_to}
use Rattle.nt_marks.specs.Marks.{is_marked}

-- the thread has a mark too, and the others have theirs as before
pub record IsMarkedToo (old : List Bool) (thread : ℕ) (new : List Bool) : Type 0 where
  pub count : length new ≡ length old
  pub each : (t : ℕ) → t < MAX_THREADS → is_marked new t ≡ (is_marked old t || (thread == t))

-- each thread that there can be has a mark exactly if one of these grants is to it
pub record AreMarks (marks : List Bool) (grants : List Grant) : Type 0 where
  pub count : length marks ≡ MAX_THREADS
  pub each : (t : ℕ) → t < MAX_THREADS → is_marked marks t ≡ nat_lt 0 (granted_to t grants)
