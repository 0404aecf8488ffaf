-- When an object lives, and what becomes of one that nothing keeps any more.
use Rattle.std.specs.Prelude.{◌≡◌, ℕ, Bool, true, not, ◌&&◌, ◌||◌, nat_lt, List, [], ◌∷◌, length, slice_set, count_by}
use Rattle.nt_objects.specs.declared.object.Object.TheVariants.{Gone}
use Rattle.nt_tables.specs.Handles.{count_named}
use Rattle.nt_objects.specs.Object.{has_ended, is_gone}
use Rattle.nt_apc.specs.Queues.{withdrawn}
use Rattle.nt_calls.specs.Rising.{AreRising}
use Rattle.nt_calls.specs.State.{State, object_at}

-- an open handle names the object
abbrev pub is_opened : State → ℕ → Bool
is_opened s o = nat_lt 0 (count_named s.handles o)

-- a pending wait names it: a thread stands in its queue
abbrev pub is_awaited : State → ℕ → Bool
is_awaited s o = nat_lt 0 (length (s.queues o))

-- it is a thread that runs
abbrev pub runs : State → ℕ → Bool
runs s o = nat_lt o s.threads && not (has_ended (object_at s.objects o))

-- something keeps the object; to be owned, or to be armed, does not
abbrev pub is_kept : State → ℕ → Bool
is_kept s o = is_opened s o || (is_awaited s o || runs s o)

-- the object is not gone
abbrev pub lives : State → ℕ → Bool
lives s o = nat_lt o (length s.objects) && not (is_gone (object_at s.objects o))

-- it lives, and nothing keeps it any more
abbrev pub is_forgotten : State → ℕ → Bool
is_forgotten s o = lives s o && not (is_kept s o)

-- the object is gone: a timer is not armed any more and its queued APC is withdrawn, a mutex is nobody's
abbrev pub gone : State → ℕ → State
gone s o = record s { objects = slice_set s.objects o Gone; apcs = withdrawn s.apcs o }

abbrev pub all_gone : State → List ℕ → State
all_gone s [] = s
all_gone s (o ∷ os) = all_gone (gone s o) os

-- the end of a call or tick: each object that nothing keeps any more is gone
pub record Ends (old new : State) : Type 0 where
  pub objects : List ℕ
  pub forgotten : AreRising (λ o. is_forgotten old o ≡ true) objects
  pub leaves : new ≡ all_gone old objects

-- an object lives exactly while something keeps it
abbrev pub LivesWhileKept : State → Type 0
LivesWhileKept s = (o : ℕ) → lives s o ≡ is_kept s o

-- how many objects live
abbrev pub living : State → ℕ
living s = count_by (λ o. not (is_gone o)) s.objects
