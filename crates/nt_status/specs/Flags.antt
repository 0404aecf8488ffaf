-- Creation flags as bits (Win32 reference, the pages of CreateEventEx, CreateMutexEx and CreateWaitableTimerEx).
use Rattle.std.specs.Prelude.{ℕ, ◌+◌, Bool, ◌==◌}
use Rattle.std.specs.Int.RustNames.{bit_and}

-- CREATE_EVENT_MANUAL_RESET
abbrev pub event_manual_reset : ℕ
event_manual_reset = 1

-- CREATE_EVENT_INITIAL_SET
abbrev pub event_initial_set : ℕ
event_initial_set = 2

-- CREATE_MUTEX_INITIAL_OWNER
abbrev pub mutex_initial_owner : ℕ
mutex_initial_owner = 1

-- CREATE_WAITABLE_TIMER_MANUAL_RESET
abbrev pub timer_manual_reset : ℕ
timer_manual_reset = 1

-- the bits that name a flag of CreateEventEx
abbrev pub event_bits : ℕ
event_bits = event_manual_reset + event_initial_set

-- the bits that name a flag of CreateMutexEx
abbrev pub mutex_bits : ℕ
mutex_bits = mutex_initial_owner

-- the bits that name a flag of CreateWaitableTimerEx
abbrev pub timer_bits : ℕ
timer_bits = timer_manual_reset

-- the flag is among the flags
abbrev pub has_flag : ℕ → ℕ → Bool
has_flag flags flag = bit_and flags flag == flag

-- no bit is set but known ones
abbrev pub only_known : ℕ → ℕ → Bool
only_known known bits = bit_and bits known == bits
