pub mod EachRow
pub mod Ranks
pub mod Tile
pub mod RowPlaces
