-- What is promised of plans and tables. Each is a statement, a type whose proof is owed by the function whose contract names it.
use Rattle.std.specs.Prelude.{◌≡◌, ℕ, ◌+◌, ◌-◌, ◌*◌, ◌%◌, ◌<◌, ◌≤◌, Bool, false, ◌≢◌, ◌⊎◌, List, length}
use Rattle.season.specs.Plan.{Plan, Proper, BestPlan, span, breaks_of, breaks, circle}
use Rattle.season.specs.Table.{Table, Sound, Ending, final, left_of, most, CanBeFirst, Ground}

-- the first main promise: for every even number of teams the plan by circles is a best plan, and it has n - 2 breaks
unfoldable pub Planned : Type 0
Planned = (n : ℕ) → 0 < n → n % 2 ≡ 0 → BestPlan n (circle n) × (breaks n (circle n) ≡ n - 2)

-- the second main promise: for every table and team, an ending after which it is first, or a ground why there is none
unfoldable pub FirstOrGround : Type 0
FirstOrGround = (t : Table) (i : ℕ) → Sound t → i < t.teams → CanBeFirst t i ⊎ ((r : ℕ → Bool) × Ground t i r)

-- every proper plan has at least n - 2 breaks
unfoldable pub BreaksNeeded : Type 0
BreaksNeeded = (n : ℕ) (s : Plan) → Proper n s → n ≤ breaks n s + 2

-- two teams without a break, in a proper plan, do not begin alike
unfoldable pub BeginDifferently : Type 0
BeginDifferently =
    (n : ℕ) (s : Plan) (i j : ℕ) → Proper n s → i < n → j < n → i ≢ j →
    breaks_of n s i ≡ 0 → breaks_of n s j ≡ 0 → s.home 0 i ≢ s.home 0 j

-- a ground shows that a team can't be first
unfoldable pub GroundLaw : Type 0
GroundLaw = (t : Table) (i : ℕ) (r : ℕ → Bool) → Sound t → i < t.teams → Ground t i r → CanBeFirst t i → ⊥

-- a ground against a team is one against each team outside it that can come to no more
unfoldable pub LowerNeither : Type 0
LowerNeither =
    (t : Table) (i j : ℕ) → Sound t → i < t.teams → j < t.teams →
    most (t.points j) (left_of t.left j) ≤ most (t.points i) (left_of t.left i) →
    (r : ℕ → Bool) → Ground t i r → r j ≡ false → Ground t j r

-- a team is sure to be first just if no other can come to more than it has
unfoldable pub Sure : Type 0
Sure =
    (t : Table) (i : ℕ) → Sound t → i < t.teams →
    (((xs : List ℕ) → Ending t.left xs → (j : ℕ) → j < t.teams → final t xs j ≤ final t xs i) →
    (j : ℕ) → j < t.teams → j ≢ i → most (t.points j) (left_of t.left j) ≤ t.points i)
    × (((j : ℕ) → j < t.teams → j ≢ i → most (t.points j) (left_of t.left j) ≤ t.points i) →
    (xs : List ℕ) → Ending t.left xs → (j : ℕ) → j < t.teams → final t xs j ≤ final t xs i)

-- all points after an ending are those of the table and two for each match left
unfoldable pub PointsAdd : Type 0
PointsAdd =
    (t : Table) (xs : List ℕ) → Sound t → Ending t.left xs →
    span (λ j. final t xs j) t.teams ≡ span t.points t.teams + 2 * length t.left
