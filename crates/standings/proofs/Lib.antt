-- Lemmas of the standings.
pub mod After
pub mod Checked
pub mod Copied
pub mod Fair
pub mod FullRows
pub mod Kept
pub mod Matches
pub mod Parts
pub mod ReadTables
pub mod SureFirst
pub mod Totals
