pub mod TrailStates
