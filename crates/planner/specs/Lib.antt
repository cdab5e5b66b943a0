-- Definitions that the planner's contracts cite.
pub mod Circle
pub mod Theorems
pub mod Worked
