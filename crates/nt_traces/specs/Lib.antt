pub mod Traces
pub mod WordMoves
pub mod WordNames
pub mod WordTrace
