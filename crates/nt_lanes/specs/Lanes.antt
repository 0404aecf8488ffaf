-- What each lane is to do, and which lanes a search tries: of threads that stand alike only the lowest.
use Rattle.std.specs.Prelude.{Vec, map, replicate, length, ◌≡◌, ◌≢◌, ◌<◌, ◌≤◌, ◌==◌, ◌&&◌, ◌||◌, not, if◌then◌else◌, Contains, ℕ, zero, suc, Bool, true, false, List, slice_get, slice_index_or, is_some, nat_lt, Option, None, Some}
use Rattle.std.specs.List.{list_any}
use Rattle.std.specs.declared.alloc.Global.{Global}
use Rattle.nt_objects.specs.Object.{has_ended}
use Rattle.nt_tables.specs.declared.handles.Opened.{Opened}
use Rattle.nt_tables.specs.Handles.{opened_at, names, count_named}
use Rattle.nt_apc.specs.Queues.{apc_queue_of}
use Rattle.nt_calls.specs.State.{State, object_at, pends}
use Rattle.nt_machine.specs.Dispatcher.{Dispatcher, state}
use Rattle.nt_look.specs.Orders as orders
use Rattle.nt_look.specs.Orders.{Calls, Passes, Tries, Plan, Point, Goes, asks, place}
use Rattle.nt_apart.specs.Footprint.{belongs}
use Rattle.nt_apart.specs.Fewer.{handles_asked}
use Rattle.nt_lanes.specs.declared.plan.Ask.{Ask}
use Rattle.nt_lanes.specs.declared.plan.Ask.TheVariants as kept
use Rattle.nt_lanes.specs.declared.position.Position.{Position}

-- ---- how a plan and a position are kept

-- what is asked, in the words of orders
abbrev pub asked : Ask → orders.Ask
asked (kept.Call call) = Calls call
asked (kept.Tick moment) = Passes moment
asked (kept.Tries acts) = Tries acts.items

-- what the lists of lanes have to do
abbrev pub plan_of : List (Vec Ask Global) → Plan
plan_of lanes = map (λ lane. map asked lane.items) lanes

-- how far the lanes are, in this dispatcher
abbrev pub point_at : List ℕ → Dispatcher → Point
point_at places core = record { at = places; state = state core }

abbrev pub point_of : Position → Point
point_of position = point_at position.places.items position.core

-- nothing of the plan was made yet
abbrev pub beginning : Plan → State → Point
beginning plan s = record { at = replicate (length plan) 0; state = s }

-- the same from this dispatcher
abbrev pub start_of : Plan → Dispatcher → Point
start_of plan core = beginning plan (state core)

-- ---- of a plan

-- nothing in the plan names the thread's handle
abbrev pub IsUnnamed : Plan → ℕ → Type 0
IsUnnamed plan t = (lane : ℕ) (ask : orders.Ask) (h : ℕ) → Contains (asks plan lane) ask → Contains (handles_asked ask) h → h ≢ t

-- what is asked names this handle
abbrev pub names_handle : ℕ → orders.Ask → Bool
names_handle h ask = list_any (λ named. named == h) (handles_asked ask)

-- something in the plan names this handle
abbrev pub plan_names : Plan → ℕ → Bool
plan_names plan h = list_any (λ asks. list_any (names_handle h) asks) plan

-- two lanes have the same to do, and nothing in the plan names the handle of one of their threads
pub record AreTwins (plan : Plan) (a b : ℕ) : Type 0 where
  pub same : asks plan b ≡ asks plan a
  pub first : IsUnnamed plan a
  pub second : IsUnnamed plan b

-- the lane's kind is the lowest of its twins, or the lane itself
pub record IsKind (plan : Plan) (lane kind : ℕ) : Type 0 where
  pub twin : kind ≢ lane → AreTwins plan kind lane
  pub lowest : (other : ℕ) → other ≤ lane → AreTwins plan other lane → kind ≤ other

-- its kind as a list has it
abbrev pub kind_of : List ℕ → ℕ → ℕ
kind_of kinds lane = slice_index_or kinds lane lane

-- the kinds of the threads' lanes, in order; of a plan with fewer lanes than threads there are none
pub record AreKinds (plan : Plan) (threads : ℕ) (kinds : List ℕ) : Type 0 where
  pub each : (lane : ℕ) → lane < length kinds → IsKind plan lane (kind_of kinds lane)
  pub whole : threads ≤ length plan → length kinds ≡ threads
  pub none : length plan < threads → length kinds ≡ 0

-- ---- of a state

-- it is so of one of the first n
abbrev pub any_below : (ℕ → Bool) → ℕ → Bool
any_below so zero = false
any_below so (suc n) = any_below so n || so n

-- an APC is queued to thread t
abbrev pub has_apc : State → ℕ → Bool
has_apc s t = is_some (slice_get (apc_queue_of s.apcs t) 0)

-- no handle names the thread but its own
abbrev pub is_named_alone : State → ℕ → Bool
is_named_alone s t = count_named s.handles t == (if names t (opened_at s.handles t) then 1 else 0)

-- the thread runs and waits for nothing; no wait and no handle names it but its own handle, nothing belongs to it, and no APC is queued to anyone
abbrev pub is_bare : State → ℕ → Bool
is_bare s t =
    (nat_lt t s.threads && not (has_ended (object_at s.objects t)))
    && (not (pends s t) && (not (is_some (slice_get (s.queues t) 0)) && (is_named_alone s t && (not (list_any (belongs t) s.objects) && not (any_below (has_apc s) s.threads)))))

-- a's and b's own handles have the same rights, or both are closed
abbrev pub are_like : ℕ → ℕ → Option Opened → Option Opened → Bool
are_like a b (Some x) (Some y) = (x.object == a) && ((y.object == b) && (x.access == y.access))
are_like a b None None = true
are_like a b (Some x) None = false
are_like a b None (Some y) = false

-- both may take their APCs one by one, or none of the two
abbrev pub are_handed_alike : Bool → Bool → Bool
are_handed_alike true b = b
are_handed_alike false b = not b

-- the lower thread is bare too, at the same place of the same line, with a handle of the same rights
abbrev pub is_like : List ℕ → Point → ℕ → ℕ → Bool
is_like kinds p lower lane =
    (kind_of kinds lower == kind_of kinds lane)
    && ((place p lower == place p lane)
    && (are_handed_alike (slice_index_or p.state.handing lower false) (slice_index_or p.state.handing lane false)
    && (are_like lower lane (opened_at p.state.handles lower) (opened_at p.state.handles lane) && is_bare p.state lower)))

-- ---- of a search

-- the lane is tried: it has no twin, is not bare, or no lower thread is like it
abbrev pub is_tried : List ℕ → Point → ℕ → Bool
is_tried kinds p lane = (kind_of kinds lane == lane) || (not (is_bare p.state lane) || not (any_below (λ lower. is_like kinds p lower lane) lane))

-- the lane is tried, and leads there
abbrev pub TriedGoes : Plan → List ℕ → Point → ℕ → Point → Type 0
TriedGoes plan kinds p lane q = (is_tried kinds p lane ≡ true) × Goes plan p lane q
