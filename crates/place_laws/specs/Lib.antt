pub mod PlacesApart
pub mod Moving
pub mod Judging
pub mod Installing
