-- Definitions that the contracts of the standings cite.
pub mod Asked
pub mod Held
pub mod Results
pub mod Sure
pub mod Theorems
