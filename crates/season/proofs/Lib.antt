-- Lemmas of the season.
pub mod Agreement
pub mod Checks
pub mod Chunks
pub mod Encodes
pub mod Exact
pub mod First
pub mod Fronts
pub mod Pairs
pub mod ReadBack
pub mod Refusals
pub mod Spans
pub mod Tables
pub mod Taken
pub mod Written
