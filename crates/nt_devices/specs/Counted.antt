-- A device with a count of its failures and of its flushes.
use Rattle.std.specs.Prelude.{ℕ, Bool}
use Rattle.nt_devices.specs.declared.counted.Counted.{Counted}

-- the device itself
abbrev pub device_of : {T : Type 0} → Counted T → T
device_of counted = counted.device

-- how often it has failed
abbrev pub failures_of : {T : Type 0} → Counted T → ℕ
failures_of counted = counted.failures

-- how many flushes were tried
abbrev pub flushes_of : {T : Type 0} → Counted T → ℕ
flushes_of counted = counted.flushes

-- whether a flush succeeded, and nothing was written since
abbrev pub handed_on_of : {T : Type 0} → Counted T → Bool
handed_on_of counted = counted.handed_on
