-- What is asked of a table: an ending of its matches, and a team of it.
use Rattle.std.specs.Prelude.{ℕ, not, List, length, ◌==◌, nat_le, nat_lt, slice_index}
use Rattle.season.specs.declared.table.Sizes.{Sizes}
use Rattle.season.specs.Reading.{outcome, unless_at}
use Rattle.season.specs.Refused.{Told, and_then, given, refused, unless}
use Rattle.season.specs.Rows.{written}
use Rattle.season.specs.Table.{Table, final}

-- refused with 9 where an ending has not one byte for each match left, at its length, or a byte above 2, at the match
abbrev pub unless_no_ending : {A : Type 0} → List ℕ → ℕ → Told A → Told A
unless_no_ending xs games after =
    unless (not (length xs == games)) 9 (length xs)
    (unless_at (λ k. nat_lt 2 (slice_index xs k)) (length xs) 9 after)

-- refused with 9 at 0 where a team is not there
abbrev pub unless_absent : {A : Type 0} → ℕ → ℕ → Told A → Told A
unless_absent team teams after = unless (nat_le teams team) 9 0 after

-- the answer for a table's file and an ending: the reader's refusals come first
abbrev pub outcome_ended : List ℕ → List ℕ → ℕ → Told Sizes
outcome_ended file xs points = and_then (outcome file 1024 points) (λ s. unless_no_ending xs s.games (given s))

-- what lent memory holds afterwards: the points after the ending, then what stood there; refused, what stood there
abbrev pub finals_then : Told Sizes → Table → List ℕ → List ℕ → List ℕ
finals_then (given s) t xs old = written (final t xs) t.teams old
finals_then (refused number place) t xs old = old
