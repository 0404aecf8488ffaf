-- Entries written, numbered from 1, and what stands among them of one thread.
use Rattle.std.specs.Prelude.{◌≡◌, ◌==◌, ◌<◌, ℕ, suc, ◌+◌, List, [], ◌∷◌, ◌++◌, Bool, false, ◌||◌, Result, Ok, Err, if◌then◌else◌}
use Rattle.nt_calls.specs.declared.call.Reply.{Reply}
use Rattle.nt_status.specs.declared.refusal.Refusal.{Refusal}
use Rattle.nt_calls.specs.Moves.{one_if, pended}
use Rattle.nt_mail.specs.declared.entry.Entry.{Entry}
use Rattle.nt_mail.specs.declared.entry.Entry.TheVariants.{Called, Ticked, Granted, Renewed}
use Rattle.nt_life.specs.declared.renewal.Renewal.{Renewal}
use Rattle.nt_calls.specs.declared.call.Act.{Act}
use Rattle.nt_calls.specs.declared.call.Call.{Call}
use Rattle.nt_mail.specs.declared.knowledge.Asked.{Asked}
use Rattle.nt_mail.specs.declared.knowledge.Made.{Made}
use Rattle.nt_mail.specs.declared.knowledge.Got.{Got}

-- P holds of each element; by recursion, so that it computes
abbrev pub Each : {X : Type 0} → (X → Type 0) → List X → Type 0
Each P [] = Unit {0}
Each P (x ∷ xs) = P x × Each P xs

-- what the thread of a renewal asked: its creation or its duplicate, or to begin again
abbrev pub asked_of : Renewal → Asked
asked_of (Renewal.Create act object handle) = Asked.Call (Call.Act act)
asked_of (Renewal.CreateAdded act object handle) = Asked.Call (Call.Act act)
asked_of (Renewal.Unadded act) = Asked.Call (Call.Act act)
asked_of (Renewal.Duplicate source access handle) = Asked.Call (Call.Act (Act.Duplicate source access))
asked_of (Renewal.Begin handle) = Asked.Begin

-- the answer to a renewal, by the handle that it tells
abbrev pub handle_reply : Result ℕ Refusal → Result Reply Refusal
handle_reply (Ok handle) = Ok (Reply.Handle handle)
handle_reply (Err cause) = Err cause

-- the call or tick that stands as entry n
abbrev pub item : ℕ → Asked → Result Reply Refusal → Made
item n asked result = record { number = n; asked = asked; result = result }

-- the grant with this status that stands as entry n
abbrev pub given : ℕ → ℕ → Got
given n status = record { number = n; status = status }

-- the entry's thread
abbrev pub entry_thread : Entry → ℕ
entry_thread (Called who call result) = who
entry_thread (Ticked by moment result) = by
entry_thread (Granted who status) = who
entry_thread (Renewed who renewal result) = who

-- the entry is a call, a tick or a renewal of thread t
abbrev pub IsOwn : ℕ → Entry → Type 0
IsOwn t (Called who call result) = who ≡ t
IsOwn t (Ticked by moment result) = by ≡ t
IsOwn t (Granted who status) = ⊥
IsOwn t (Renewed who renewal result) = who ≡ t

-- the entry is a call whose wait pends
abbrev pub arms : Entry → Bool
arms (Called who call result) = pended result
arms (Ticked by moment result) = pended result
arms (Granted who status) = false
arms (Renewed who renewal result) = pended (handle_reply result)

-- entry n as what thread t asked, where it is no grant to it
abbrev pub call_at : ℕ → ℕ → Entry → List Made
call_at t n (Called who call result) = if who == t then item n (Asked.Call call) result ∷ [] else []
call_at t n (Ticked by moment result) = if by == t then item n (Asked.Tick moment) result ∷ [] else []
call_at t n (Granted who status) = []
call_at t n (Renewed who renewal result) = if who == t then item n (asked_of renewal) (handle_reply result) ∷ [] else []

-- the calls and ticks of thread t among entries that are numbered from n on
abbrev pub calls_from : ℕ → ℕ → List Entry → List Made
calls_from t n [] = []
calls_from t n (e ∷ es) = call_at t n e ++ calls_from t (suc n) es

-- the calls and ticks of thread t that were written, in order
abbrev pub calls_of : ℕ → List Entry → List Made
calls_of t es = calls_from t 1 es

-- entry n as a grant to thread t, where it is one
abbrev pub grant_at : ℕ → ℕ → Entry → List Got
grant_at t n (Called who call result) = []
grant_at t n (Ticked by moment result) = []
grant_at t n (Granted who status) = if who == t then given n status ∷ [] else []
grant_at t n (Renewed who renewal result) = []

-- the grants to thread t among entries that are numbered from n on
abbrev pub grants_from : ℕ → ℕ → List Entry → List Got
grants_from t n [] = []
grants_from t n (e ∷ es) = grant_at t n e ++ grants_from t (suc n) es

-- the grants that were sent to thread t, in order
abbrev pub grants_of : ℕ → List Entry → List Got
grants_of t es = grants_from t 1 es

-- whether thread t is armed after the entry, where `before` tells whether it was
abbrev pub armed_by : ℕ → Bool → Entry → Bool
armed_by t before (Called who call result) = if who == t then pended result || before else before
armed_by t before (Ticked by moment result) = if by == t then pended result || before else before
armed_by t before (Granted who status) = if who == t then false else before
armed_by t before (Renewed who renewal result) = if who == t then pended (handle_reply result) || before else before

-- the same after several entries
abbrev pub armed_from : ℕ → Bool → List Entry → Bool
armed_from t before [] = before
armed_from t before (e ∷ es) = armed_from t (armed_by t before e) es

-- whether a call of thread t that pended stands after the last grant to it
abbrev pub is_armed : ℕ → List Entry → Bool
is_armed t es = armed_from t false es

-- the number of thread t's last entry among those that are numbered from n on, and else `last`
abbrev pub last_from : ℕ → ℕ → ℕ → List Entry → ℕ
last_from t n last [] = last
last_from t n last (e ∷ es) = last_from t (suc n) (if entry_thread e == t then n else last) es

-- the number of the last entry of thread t, 0 where it has none
abbrev pub last_of : ℕ → List Entry → ℕ
last_of t es = last_from t 1 0 es

-- the moment of a tick, where the tick was accepted
abbrev pub accepted_if : ℕ → Result Reply Refusal → List ℕ
accepted_if moment (Ok reply) = moment ∷ []
accepted_if moment (Err cause) = []

-- the moment of the entry, where it is a tick that was accepted
abbrev pub accepted_at : Entry → List ℕ
accepted_at (Called who call result) = []
accepted_at (Ticked by moment result) = accepted_if moment result
accepted_at (Granted who status) = []
accepted_at (Renewed who renewal result) = []

-- the moments of the ticks that were accepted, in order
abbrev pub accepted : List Entry → List ℕ
accepted [] = []
accepted (e ∷ es) = accepted_at e ++ accepted es

-- how many of the calls pended
abbrev pub pended_in : List Made → ℕ
pended_in [] = 0
pended_in (m ∷ ms) = one_if (pended m.result) + pended_in ms

-- the number of the last of these calls that pended, and else `last`
abbrev pub last_pended_from : ℕ → List Made → ℕ
last_pended_from last [] = last
last_pended_from last (m ∷ ms) = last_pended_from (if pended m.result then m.number else last) ms

-- the number of the last call that pended, 0 where none did
abbrev pub last_pended : List Made → ℕ
last_pended ms = last_pended_from 0 ms

-- the number of the last of these grants, and else `last`
abbrev pub last_number : ℕ → List Got → ℕ
last_number last [] = last
last_number last (g ∷ gs) = last_number g.number gs

-- all these grants have numbers below n
abbrev pub AreBelow : ℕ → List Got → Type 0
AreBelow n gs = Each (λ g. g.number < n) gs

-- all these calls and ticks have numbers below n
abbrev pub AreMadeBelow : ℕ → List Made → Type 0
AreMadeBelow n ms = Each (λ m. m.number < n) ms
