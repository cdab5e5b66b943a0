-- Lemmas of the program.
mod Digits
