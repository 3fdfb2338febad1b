pub mod NotedLaunch
pub mod Pieces
