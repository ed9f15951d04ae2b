pub mod Model
pub mod Distances
pub mod Channels
pub mod Sides
pub mod Beside
pub mod Gauges
pub mod Gathered
