-- Plans of a season: in each round every team has one opponent, and one of the two is at home. Breaks. The plan by circles.
use Rattle.std.specs.Prelude.{◌≡◌, ℕ, zero, suc, ◌+◌, ◌-◌, ◌*◌, ◌%◌, ◌<◌, ◌≤◌, Bool, true, false, not, ◌||◌, ◌≢◌, ◌==◌, nat_lt}

-- the first of two where the test is true, else the second
abbrev pub pick : {A : Type 0} → Bool → A → A → A
pick true a b = a
pick false a b = b

-- the sum of f below k
unfoldable pub span : (ℕ → ℕ) → ℕ → ℕ
span f zero = 0
span f (suc k) = f k + span f k

-- a plan: whom team i plays in round r, and whether it is at home
pub record Plan : Type 0 where
  pub against : ℕ → ℕ → ℕ
  pub home : ℕ → ℕ → Bool

-- a plan for n teams is proper: in each of n - 1 rounds each team plays one other, one of the two at home, and every two teams meet
pub record Proper (n : ℕ) (s : Plan) : Type 0 where
  pub there : (r i : ℕ) → r < n - 1 → i < n → s.against r i < n
  pub other : (r i : ℕ) → r < n - 1 → i < n → s.against r i ≢ i
  pub mutual_pair : (r i : ℕ) → r < n - 1 → i < n → s.against r (s.against r i) ≡ i
  pub one_home : (r i : ℕ) → r < n - 1 → i < n → s.home r (s.against r i) ≡ not (s.home r i)
  pub meet : (i j : ℕ) → i < n → j < n → i ≢ j → (r : ℕ) × (r < n - 1) × (s.against r i ≡ j)

-- two plans for n teams agree in every round and team
pub record Agree (n : ℕ) (s t : Plan) : Type 0 where
  pub against : (r i : ℕ) → r < n - 1 → i < n → s.against r i ≡ t.against r i
  pub home : (r i : ℕ) → r < n - 1 → i < n → s.home r i ≡ t.home r i

-- both true or both false
unfoldable pub equal : Bool → Bool → Bool
equal true b = b
equal false b = not b

-- 1 if team i has a break in round r + 1: at home there and in round r, or away in both
abbrev pub break_at : Plan → ℕ → ℕ → ℕ
break_at s i r = pick (equal (s.home (suc r) i) (s.home r i)) 1 0

-- the breaks of team i over the n - 1 rounds
unfoldable pub breaks_of : ℕ → Plan → ℕ → ℕ
breaks_of n s i = span (break_at s i) (n - 2)

-- the breaks of all n teams
unfoldable pub breaks : ℕ → Plan → ℕ
breaks n s = span (breaks_of n s) n

-- a best plan: proper, and no proper plan has fewer breaks
pub record BestPlan (n : ℕ) (s : Plan) : Type 0 where
  pub proper : Proper n s
  pub fewest : (q : Plan) → Proper n q → breaks n s ≤ breaks n q

-- x modulo m
unfoldable pub rest : ℕ → ℕ → ℕ
rest m x = x % m

-- how far team i is ahead of r on the circle of m teams
abbrev pub ahead : ℕ → ℕ → ℕ → ℕ
ahead m r i = rest m (i + m - r)

-- the plan by circles: with m = n - 1, in round r team m plays team r, and r + k plays r - k modulo m
unfoldable pub circle : ℕ → Plan
circle n = record {
  against = λ r i. pick (i == n - 1) r (pick (i == r) (n - 1) (rest (n - 1) (r + (n - 1) - ahead (n - 1) r i)));
  home = λ r i. pick (i == n - 1) (r % 2 == 0) (pick (i == r) (r % 2 == 1)
      (pick (nat_lt (2 * ahead (n - 1) r i) n) (ahead (n - 1) r i % 2 == 1) ((n - 1 - ahead (n - 1) r i) % 2 == 0)));
}

-- the numbers of teams for which no plan is made: an odd one, none, or more than 64
abbrev pub unplanned : ℕ → Bool
unplanned n = n % 2 == 1 || (n == 0 || nat_lt 64 n)
