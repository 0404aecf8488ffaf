-- A number for how far the lanes are and a state. No public clause cites this module.
use Rattle.std.specs.Prelude.{ℕ, zero, suc, ◌+◌, ◌-◌, ◌*◌, ◌/◌, ◌%◌, ◌^◌, min, Bool, true, false, List, length, Option, None, Some, bit_and, bit_xor, unsigned_abs, option_map, slice_get, slice_index, slice_index_or}
use Rattle.std.specs.FinMap as map
use Rattle.nt_objects.specs.declared.object.Armed.{Armed}
use Rattle.nt_objects.specs.declared.object.Object.{Object}
use Rattle.nt_objects.specs.declared.object.Object.TheVariants.{Event, Semaphore, Mutex, Timer, Thread, Gone}
use Rattle.nt_waits.specs.declared.wait.Wait.{Wait}
use Rattle.nt_waits.specs.Waits.{next_after}
use Rattle.nt_apc.specs.declared.apc.Queued.{Queued}
use Rattle.nt_apc.specs.Queues.{apc_queue_of}
use Rattle.nt_tables.specs.declared.handles.Opened.{Opened}
use Rattle.nt_tables.specs.Handles.{opened_at}
use Rattle.nt_calls.specs.State.{State}
use Rattle.nt_look.specs.Orders.{Point}

-- ---- one number after another

-- a value, stirred into the number so far
unfoldable pub mixed : ℕ → ℕ → ℕ
mixed hash value =
    let stirred : ℕ = bit_xor hash value * 0x9E37_79B1 % 2 ^ 32 in
    bit_xor stirred (stirred / 2 ^ 15)

-- its lower half, and then its upper one
unfoldable pub mixed_long : ℕ → ℕ → ℕ
mixed_long hash value = mixed (mixed hash (bit_and value 0xFFFF_FFFF)) (bit_and (value / 2 ^ 32) 0xFFFF_FFFF)

unfoldable pub low_half : ℕ → ℕ
low_half value = bit_and value 0xFFFF_FFFF

abbrev pub mixed_flag : ℕ → Bool → ℕ
mixed_flag hash true = mixed hash 1
mixed_flag hash false = mixed hash 0

abbrev pub mixed_moment : ℕ → Option ℕ → ℕ
mixed_moment hash (Some moment) = mixed_long (mixed hash 1) moment
mixed_moment hash None = mixed hash 0

abbrev pub mixed_thread : ℕ → Option ℕ → ℕ
mixed_thread hash (Some thread) = mixed hash (thread + 1)
mixed_thread hash None = mixed hash 0

-- a number, changed in turn by each position below n
abbrev pub folded : (ℕ → ℕ → ℕ) → ℕ → ℕ → ℕ
folded step hash zero = hash
folded step hash (suc n) = step (folded step hash n) n

-- ---- the parts of a state

abbrev pub due_of : Option Armed → Option ℕ
due_of armed = option_map (λ a. a.due) armed

abbrev pub mixed_object : ℕ → Object → ℕ
mixed_object hash (Event manual set) = mixed_flag hash set
mixed_object hash (Semaphore count maximum) = mixed (mixed hash 2) (unsigned_abs count)
mixed_object hash (Mutex owner depth abandoned) = mixed_flag (mixed (mixed_thread (mixed hash 3) owner) depth) abandoned
mixed_object hash (Timer manual set armed) = mixed_moment (mixed_flag (mixed hash 4) set) (due_of armed)
mixed_object hash (Thread ended) = mixed_flag (mixed hash 5) ended
mixed_object hash Gone = mixed hash 7

abbrev pub mixed_object_at : ℕ → Option Object → ℕ
mixed_object_at hash (Some object) = mixed_object hash object
mixed_object_at hash None = hash

-- at most so many threads of a queue, from this one on
abbrev pub mixed_queue : ℕ → List ℕ → ℕ → Option ℕ → ℕ
mixed_queue zero queue hash next = hash
mixed_queue (suc n) queue hash (Some thread) = mixed_queue n queue (mixed_thread hash (Some thread)) (next_after thread queue)
mixed_queue (suc n) queue hash None = mixed_thread hash None

abbrev pub mixed_apc : ℕ → Option Queued → ℕ
mixed_apc hash (Some queued) = mixed_long (mixed_long hash queued.apc.routine) queued.apc.arg
mixed_apc hash None = hash

abbrev pub mixed_apcs : List Queued → ℕ → ℕ
mixed_apcs queue hash = folded (λ so_far position. mixed_apc so_far (slice_get queue position)) hash (min (length queue) (2 ^ 64 - 1))

abbrev pub mixed_wait : ℕ → Option Wait → ℕ
mixed_wait hash (Some wait) = mixed_moment (mixed hash 1) wait.deadline
mixed_wait hash None = mixed hash 0

abbrev pub mixed_handle : ℕ → Option Opened → ℕ
mixed_handle hash (Some opened) = mixed hash opened.object
mixed_handle hash None = mixed hash (2 ^ 32 - 1)

-- ---- all of them

unfoldable pub mixed_one_thread : State → ℕ → ℕ → ℕ
mixed_one_thread s hash t = mixed_apcs (apc_queue_of s.apcs t) (mixed_flag (mixed_wait hash (map.get s.waits t)) (slice_index_or s.handing t false))

unfoldable pub mixed_one_object : State → ℕ → ℕ → ℕ
mixed_one_object s hash position =
    let queue : List ℕ = s.queues (low_half position) in
    mixed_queue s.threads queue (mixed_object_at hash (slice_get s.objects position)) (slice_get queue 0)

abbrev pub mixed_places : List ℕ → ℕ → ℕ
mixed_places places hash = folded (λ so_far i. mixed so_far (low_half (slice_index places i))) hash (length places)

abbrev pub mixed_threads : State → ℕ → ℕ
mixed_threads s hash = folded (mixed_one_thread s) hash s.threads

abbrev pub mixed_objects : State → ℕ → ℕ
mixed_objects s hash = folded (mixed_one_object s) hash (length s.objects)

abbrev pub mixed_handles : List (Option Opened) → ℕ → ℕ
mixed_handles handles hash = folded (λ so_far number. mixed_handle so_far (opened_at handles (low_half number))) hash (length handles)

unfoldable pub hash_of : Point → ℕ
hash_of p = mixed_handles p.state.handles (mixed_objects p.state (mixed_threads p.state (mixed_places p.at (mixed_long 0 p.state.now))))
