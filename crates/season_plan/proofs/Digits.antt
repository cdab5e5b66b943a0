-- Digits, byte by byte.
use Rattle.std.proofs.Common.{ℕ, ◌<◌, List, length, get_or}
use Rattle.std.proofs.lemmas.Str.Parse.{IsNumeralModel, numerals_by_value, tells_by_index}
use Rattle.std.specs.Str.Parse.{digits_value}
use Rattle.std.specs.Int.{IsInRange}

-- each byte is a decimal digit
abbrev pub AllDigits : List ℕ → Type 0
AllDigits bytes = (i : ℕ) → i < length bytes → IsInRange 48 57 (get_or bytes i 0)

pub by_bytes : IsNumeralModel AllDigits (digits_value 10)
by_bytes = numerals_by_value AllDigits tells_by_index
