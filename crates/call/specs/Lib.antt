-- What words ask for, and the status that a program ends with.
pub mod Call
