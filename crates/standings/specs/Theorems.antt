-- What is promised of results, beside what is promised of tables and endings.
use Rattle.std.specs.Prelude.{◌≡◌, ℕ, ◌+◌, ◌*◌, List, [], ◌∷◌, length}
use Rattle.season.specs.Encoding.{Same}
use Rattle.season.specs.Plan.{pick, span}
use Rattle.season.specs.Table.{Table, Sound, Ending, final}
use Rattle.standings.specs.Results.{after, is_result}

-- a full row of results leaves no match, and the points of that ending
unfoldable pub FullRow : Type 0
FullRow =
    (t : Table) (xs : List ℕ) → Ending t.left xs →
    ((after t xs).left ≡ []) × ((i : ℕ) → (after t xs).points i ≡ final t xs i)

-- a row of results and one for the matches still left after them, as one row: the second fills the places that the first leaves
abbrev pub joined : List ℕ → List ℕ → List ℕ
joined [] ys = ys
joined (x ∷ xs) [] = x ∷ xs
joined (x ∷ xs) (y ∷ ys) = pick (is_result x) (x ∷ joined xs (y ∷ ys)) (y ∷ joined xs ys)

-- results played one part after the other make the table that both together make
unfoldable pub InParts : Type 0
InParts = (t : Table) (xs ys : List ℕ) → Same (after (after t xs) ys) (after t (joined xs ys))

-- results make no points and lose none: those of all teams, and two for each match left, stay the same together
unfoldable pub PointsKept : Type 0
PointsKept =
    (t : Table) (xs : List ℕ) → Sound t →
    span (after t xs).points t.teams + 2 * length (after t xs).left ≡ span t.points t.teams + 2 * length t.left
