pub mod TrailSteps
