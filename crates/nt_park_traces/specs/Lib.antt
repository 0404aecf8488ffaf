pub mod ParkMoves
pub mod ParkNames
pub mod ParkTrace
