pub mod Demand
pub mod Follows
