-- The codes with which a wait ends (Win32 reference, the page of WaitForMultipleObjects).
use Rattle.std.specs.Prelude.{ℕ, ◌+◌, ◌-◌, Bool, ◌&&◌, ◌||◌, nat_lt, nat_le, ◌==◌, Option, Some, None, List, ◌++◌, codes, if◌then◌else◌}
use Rattle.std.specs.Fmt.{decimal}
use Rattle.nt_status.specs.declared.limits.TheConstants.{MAX_WAIT_OBJECTS}

-- WAIT_OBJECT_0 and the index of the object
abbrev pub object_code : ℕ → ℕ
object_code index = index

-- WAIT_ABANDONED_0 and the index of the mutex whose owner ended
abbrev pub abandoned_code : ℕ → ℕ
abandoned_code index = 0x80 + index

-- WAIT_IO_COMPLETION
abbrev pub io_completion_code : ℕ
io_completion_code = 0xC0

-- WAIT_TIMEOUT
abbrev pub timeout_code : ℕ
timeout_code = 0x102

-- a sleep whose interval has passed ends with 0
abbrev pub slept_code : ℕ
slept_code = 0

-- the codes that there are: an index of a wait, 0x80 and such an index, WAIT_IO_COMPLETION, WAIT_TIMEOUT
abbrev pub is_status_code : ℕ → Bool
is_status_code code = nat_lt code MAX_WAIT_OBJECTS || (nat_le 128 code && nat_lt code 192) || code == 192 || code == 258

-- WAIT_ABANDONED_0 and an index
abbrev pub is_abandoned_code : ℕ → Bool
is_abandoned_code code = nat_le 128 code && nat_lt code 192

-- the index of the object that was taken; none if the wait ended otherwise
abbrev pub index_in : ℕ → Option ℕ
index_in code =
    if nat_lt code MAX_WAIT_OBJECTS then Some code
    else if is_abandoned_code code then Some (code - 128)
    else None

-- the name as text
abbrev pub status_text : ℕ → List ℕ
status_text code =
    if nat_lt code MAX_WAIT_OBJECTS then codes "WAIT_OBJECT_0+" ++ decimal code
    else if is_abandoned_code code then codes "WAIT_ABANDONED_0+" ++ decimal (code - 128)
    else if code == io_completion_code then codes "WAIT_IO_COMPLETION"
    else codes "WAIT_TIMEOUT"
