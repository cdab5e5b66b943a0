-- What the words of a call mean.
use Rattle.std.specs.Prelude.{◌≡◌, ℕ, ◌-◌, ◌^◌, min, List, Some, None, Option, String, string_bytes}
use Rattle.std.specs.declared.alloc.Global.{Global}
use Rattle.std.specs.Str.Parse.{IsNumeral, digits_value, without_leading_plus}
use Rattle.call.specs.declared.Asked.{Asked}
use Rattle.call.specs.declared.Asked.TheVariants.{Help, For, Unclear}

-- the number of a text is its value as a numeral, or the largest of 64 bits if that is smaller; a text that is no numeral has none
abbrev pub Numbered : List ℕ → Option ℕ → Type 0
Numbered text None = IsNumeral 10 (without_leading_plus text) → ⊥
Numbered text (Some n) = IsNumeral 10 (without_leading_plus text) × (n ≡ min (digits_value 10 (without_leading_plus text)) (2 ^ 64 - 1))

-- the number of teams that a plan is asked for
abbrev pub teams_of : Asked ℕ → Option ℕ
teams_of Help = None
teams_of (For n) = Some n
teams_of (Unclear why) = None

-- a plan is asked for so many teams as the word says, and for none where there is no word
abbrev pub AsksFor : Option (String Global) → Option ℕ → Type 0
AsksFor None teams = teams ≡ None
AsksFor (Some word) teams = Numbered (string_bytes word) teams
