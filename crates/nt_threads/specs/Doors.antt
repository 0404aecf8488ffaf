-- The calls that a door to a front made.
use Rattle.std.specs.Prelude.{◌≡◌, ◌≤◌, ℕ, List, [], ◌∷◌, ◌++◌, Vec, vec_capacity, Option, Some, None, Result, Ok, Err}
use Rattle.std.specs.declared.alloc.Global.{Global}
use Rattle.nt_calls.specs.declared.call.Call.{Call}
use Rattle.nt_calls.specs.declared.call.Reply.{Reply}
use Rattle.nt_status.specs.declared.refusal.Refusal.{Refusal}
use Rattle.nt_mail.specs.declared.knowledge.Asked.{Asked}
use Rattle.nt_mail.specs.declared.knowledge.Made.{Made}
use Rattle.nt_front.specs.declared.hold.Held.{Held}
use Rattle.nt_front.specs.declared.carried.Carried.{Carried}
use Rattle.nt_front.specs.Held.{knowledge_of}

-- the call, where it was not refused
abbrev pub accepted_call : Asked → Result Reply Refusal → List Call
accepted_call (Asked.Call call) (Ok reply) = call ∷ []
accepted_call (Asked.Call call) (Err cause) = []
accepted_call (Asked.Tick moment) result = []
accepted_call Asked.Begin result = []

-- the calls that were not refused, in order
abbrev pub accepted_calls : List Made → List Call
accepted_calls [] = []
accepted_calls (m ∷ ms) = accepted_call m.asked m.result ++ accepted_calls ms

-- the calls of a hold's thread that were not refused
abbrev pub calls_of_hold : {X : Type 0} → Held X → List Call
calls_of_hold hold = accepted_calls (knowledge_of hold).made

-- the calls of the thread with this hold, where there is one
abbrev pub made_through : {X : Type 0} → Option (Carried (Held X)) → List Call
made_through None = []
made_through (Some carried) = calls_of_hold carried.hold

-- the thread whose hold this is, where there is one
abbrev pub holder_of : {X : Type 0} → Option (Carried (Held X)) → Option ℕ
holder_of None = None
holder_of (Some carried) = Some (knowledge_of carried.hold).thread

-- nothing stands in the list, and it has room for so many
abbrev pub HasFreeRoom : {A : Type 0} → ℕ → Vec A Global → Type 0
HasFreeRoom most list = (list.items ≡ []) × (most ≤ vec_capacity list)

-- the same of each of these lists
abbrev pub HaveFreeRoom : {A B C : Type 0} → ℕ → Vec A Global → Vec B Global → Vec C Global → Type 0
HaveFreeRoom most doors back holds = HasFreeRoom most doors × HasFreeRoom most back × HasFreeRoom most holds
