-- The plan by circles is proper: in round r the teams i and j of the circle meet just if i + j is twice r, up to the length of the circle.
use Rattle.std.proofs.Common.{◌≡◌, ℕ, ◌+◌, ◌-◌, ◌*◌, ◌/◌, ◌%◌, ◌<◌, ◌≤◌, not, eqb, ltb, ◌≢◌, ◌⊎◌, refl, ap, ◌∙◌, inl, inr, mod-eq_of_lt, arith}
use native.Mathlib.Nat.{add-mod_right}
use Rattle.std.proofs.lemmas.Bool.{cases_eq, cases_lt}
use Rattle.std.proofs.lemmas.Bool.Decides.{nat_tests}
use Rattle.season.specs.Plan.{Proper, pick, rest, ahead, circle}

pub rest_is : (m z : ℕ) → z < 2 * m → ((z < m) × (rest m z ≡ z)) ⊎ ((m ≤ z) × (rest m z + m ≡ z))
unfolding rest
rest_is m z l =
    elim (cases_lt z m) [
      | inl low ↦ inl (low, mod-eq_of_lt low)
      | inr high ↦
          let e : z ≡ (z - m) + m = omega arith in
          let f : z % m ≡ z - m = ap (λ x. x % m) e ∙ add-mod_right (z - m) m ∙ mod-eq_of_lt (omega arith) in
          inr (high, omega arith)
    ]

pub ahead_is :
    (m r i : ℕ) → r < m → i < m → ((r ≤ i) × (ahead m r i + r ≡ i)) ⊎ ((i < r) × (ahead m r i + r ≡ i + m))
ahead_is m r i lr li = let e = rest_is m (i + m - r) (omega arith) in grind arith

-- x and y are the same, or one is m more
abbrev pub Like : ℕ → ℕ → ℕ → Type 0
Like m x y = (x ≡ y) ⊎ (x ≡ y + m) ⊎ (x + m ≡ y)

module _ (n : ℕ) (even : n % 2 ≡ 0) where
  -- whom a team of the circle meets in a round that is not its own
  across :
      (r i : ℕ) → r < n - 1 → i < n - 1 → i ≢ r →
      ((circle n).against r i < n - 1) × Like (n - 1) (i + (circle n).against r i) (2 * r)
  unfolding circle
  across r i lr li ne =
      let a = ahead_is (n - 1) r i lr li in
      let b = rest_is (n - 1) (r + (n - 1) - ahead (n - 1) r i) (omega arith) in
      grind (arith, nat_tests)

  -- home and away by the distance from r to i: above r home at an odd distance, below r at an even one
  pub home_is :
      (r i : ℕ) → r < n - 1 → i < n →
      (circle n).home r i ≡ pick (ltb r i) (eqb ((i - r) % 2) 1) (pick (eqb r i) (eqb (i % 2) 1) (eqb ((r - i) % 2) 0))
  unfolding circle
  home_is r i lr li =
      elim (cases_eq i (n - 1)) [
        | inl e ↦ grind (arith, nat_tests)
        | inr ne ↦ let a = ahead_is (n - 1) r i lr (omega arith) in grind (arith, nat_tests)
      ]

  module _ (r i j : ℕ) (lr : r < n - 1) (li : i < n - 1) (lj : j < n - 1) (ne : i ≢ j) (e : Like (n - 1) (i + j) (2 * r)) where
    pub meets : (circle n).against r i ≡ j
    meets = let a = across r i lr li (omega arith) in omega arith

    one_of_two : (circle n).home r j ≡ not ((circle n).home r i)
    one_of_two = rw (home_is r i lr (omega arith), home_is r j lr (omega arith)) (grind (arith, nat_tests))

  meeting_round : (i j : ℕ) → i < n - 1 → j < n - 1 → (r : ℕ) × (r < n - 1) × Like (n - 1) (i + j) (2 * r)
  meeting_round i j li lj =
      elim (cases_eq ((i + j) % 2) 0) [
        | inl e ↦ ((i + j) / 2, omega arith, inl (omega arith))
        | inr odd ↦ elim (cases_lt (i + j) (n - 1)) [
          | inl low ↦ ((i + j + (n - 1)) / 2, omega arith, inr (inr (omega arith)))
          | inr high ↦ ((i + j - (n - 1)) / 2, omega arith, inr (inl (omega arith)))
        ]
      ]

  -- the opponent of team i in round r
  paired :
      (r i : ℕ) → r < n - 1 → i < n →
      (j : ℕ) × (j < n) × (j ≢ i) × ((circle n).against r i ≡ j) × ((circle n).against r j ≡ i)
      × ((circle n).home r j ≡ not ((circle n).home r i))
  unfolding circle
  paired r i lr li =
      elim (cases_eq i (n - 1)) [
        | inl e ↦ (r, omega arith, omega arith, grind (arith, nat_tests), grind (arith, nat_tests), grind (arith, nat_tests))
        | inr ne ↦ elim (cases_eq i r) [
          | inl e ↦ (n - 1, omega arith, omega arith, grind (arith, nat_tests), grind (arith, nat_tests), grind (arith, nat_tests))
          | inr own ↦
              let j = (circle n).against r i in
              let l : i < n - 1 = omega arith in
              let a = across r i lr l own in
              let back = meets r j i lr a.0 l (omega arith) (grind arith) in
              (j, omega arith, omega arith, refl, back, one_of_two r i j lr l a.0 (omega arith) a.1)
        ]
      ]

  all_meet : (i j : ℕ) → i < n → j < n → i ≢ j → (r : ℕ) × (r < n - 1) × ((circle n).against r i ≡ j)
  unfolding circle
  all_meet i j li lj ne =
      elim (cases_eq i (n - 1)) [
        | inl e ↦ (j, omega arith, grind (arith, nat_tests))
        | inr i_on ↦ elim (cases_eq j (n - 1)) [
          | inl e ↦ (i, omega arith, grind (arith, nat_tests))
          | inr j_on ↦
              let m = meeting_round i j (omega arith) (omega arith) in
              (m.0, m.1, meets m.0 i j m.1 (omega arith) (omega arith) ne m.2)
        ]
      ]

  pub circle_proper : Proper n (circle n)
  circle_proper = record {
    there = λ r i lr li. let p = paired r i lr li in rw p.3 p.1;
    other = λ r i lr li. let p = paired r i lr li in rw p.3 p.2;
    mutual_pair = λ r i lr li. let p = paired r i lr li in rw p.3 p.4;
    one_home = λ r i lr li. let p = paired r i lr li in rw p.3 p.5;
    meet = all_meet;
  }
