-- The table: points so far, matches left, and what can come of them. In each match two points are shared.
use Rattle.std.specs.Prelude.{◌≡◌, ℕ, ◌+◌, ◌-◌, ◌*◌, ◌<◌, ◌≤◌, Bool, false, ◌&&◌, ◌||◌, ◌≢◌, List, [], ◌∷◌, length, ◌==◌, slice_index_or}
use Rattle.season.specs.Plan.{pick, span}

-- a match of two teams, by their numbers
pub record Match : Type 0 where
  pub host : ℕ
  pub guest : ℕ

-- a table: how many teams, the points of each, and the matches left in order
pub record Table : Type 0 where
  pub teams : ℕ
  pub points : ℕ → ℕ
  pub left : List Match

-- every match left is one of two different teams of the table
pub record Sound (t : Table) : Type 0 where
  pub inside :
      (k : ℕ) (d : Match) → k < length t.left →
      ((slice_index_or t.left k d).host < t.teams) × ((slice_index_or t.left k d).guest < t.teams)
      × ((slice_index_or t.left k d).host ≢ (slice_index_or t.left k d).guest)

-- an ending gives the host's points in each match left, 0 to 2, in order; the guest has the rest of the two
unfoldable pub Ending : List Match → List ℕ → Type 0
Ending [] [] = Unit {0}
Ending [] (x ∷ xs) = ⊥
Ending (m ∷ ms) [] = ⊥
Ending (m ∷ ms) (x ∷ xs) = (x ≤ 2) × Ending ms xs

-- what team i gains in an ending
unfoldable pub gained : List Match → List ℕ → ℕ → ℕ
gained [] xs i = 0
gained (m ∷ ms) [] i = 0
gained (m ∷ ms) (x ∷ xs) i = pick (m.host == i) x 0 + pick (m.guest == i) (2 - x) 0 + gained ms xs i

-- the points of team i after an ending
abbrev pub final : Table → List ℕ → ℕ → ℕ
final t xs i = t.points i + gained t.left xs i

-- how many matches team i has left
unfoldable pub left_of : List Match → ℕ → ℕ
left_of [] i = 0
left_of (m ∷ ms) i = pick (m.host == i || m.guest == i) 1 0 + left_of ms i

-- the most that a team can come to
abbrev pub most : ℕ → ℕ → ℕ
most points left = points + 2 * left

-- team i can still be first, alone or with others: an ending after which nobody has more
pub record CanBeFirst (t : Table) (i : ℕ) : Type 0 where
  pub ending : List ℕ
  pub fits : Ending t.left ending
  pub none_above : (j : ℕ) → j < t.teams → final t ending j ≤ final t ending i

-- two points for each match left between two teams of the set r
unfoldable pub among : (ℕ → Bool) → List Match → ℕ
among r [] = 0
among r (m ∷ ms) = pick (r m.host && r m.guest) 2 0 + among r ms

-- a ground against team i: a set of other teams whose points, had and to come among themselves, must carry one of them past the most of i
pub record Ground (t : Table) (i : ℕ) (r : ℕ → Bool) : Type 0 where
  pub not_itself : r i ≡ false
  pub too_many :
      span (λ j. pick (r j) (most (t.points i) (left_of t.left i)) 0) t.teams
      < span (λ j. pick (r j) (t.points j) 0) t.teams + among r t.left
