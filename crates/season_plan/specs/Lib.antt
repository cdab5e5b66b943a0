-- What the words of a call mean, and the lines of a plan.
pub mod Lines
pub mod Words
