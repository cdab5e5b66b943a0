-- The words of the season: definitions that the contracts cite.
pub mod Bytes
pub mod Encoding
pub mod Plan
pub mod Promise
pub mod Reading
pub mod Refused
pub mod Rows
pub mod Table
