pub mod LockRuns
pub mod SleepingRuns
