pub mod Alarms
pub mod Heap
