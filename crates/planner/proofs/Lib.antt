-- Lemmas of the planner.
pub mod Begins
pub mod Below
pub mod Best
pub mod CircleBreaks
pub mod Circles
pub mod Games
pub mod Needed
pub mod ReadBack
pub mod Remainders
pub mod Rounds
