-- The games of a round are those of the plan by circles, and every team has one.
use Rattle.std.proofs.Common.{◌≡◌, ℕ, ◌+◌, ◌-◌, ◌*◌, ◌/◌, ◌%◌, ◌<◌, Bool, true, false, not, eqb, ◌≢◌, ◌⊎◌, sym, ap, ◌∙◌, inl, inr, arith}
use Rattle.std.proofs.lemmas.Bool.{cases_eq, cases_lt, ne_eqb}
use Rattle.std.proofs.lemmas.Bool.Decides.{nat_tests}
use Rattle.season.specs.declared.game.Game.{Game}
use Rattle.season.specs.Plan.{rest, ahead, circle}
use Rattle.planner.proofs.Circles.{Like, rest_is, ahead_is, home_is, meets, circle_proper}
use Rattle.planner.specs.Circle.{meeting, game_of}

-- a game of round r of the plan by circles
pub record Played (n r : ℕ) (g : Game) : Type 0 where
  pub host_meets : (circle n).against r g.host ≡ g.guest
  pub guest_meets : (circle n).against r g.guest ≡ g.host
  pub host_home : (circle n).home r g.host ≡ true
  pub guest_away : (circle n).home r g.guest ≡ false

either : (b : Bool) (x y i : ℕ) → (x ≡ i) ⊎ (y ≡ i) → ((meeting b x y).host ≡ i) ⊎ ((meeting b x y).guest ≡ i)
either true x y i e = e
either false x y i (inl e) = inr e
either false x y i (inr e) = inl e

module _ (n : ℕ) (even : n % 2 ≡ 0) (r : ℕ) (lr : r < n - 1) where
  both_sides :
      (b : Bool) (x y : ℕ) → (circle n).against r x ≡ y → (circle n).against r y ≡ x → (circle n).home r x ≡ b →
      (circle n).home r y ≡ not b → Played n r (meeting b x y)
  both_sides true x y xy yx hx hy = record { host_meets = xy; guest_meets = yx; host_home = hx; guest_away = hy }
  both_sides false x y xy yx hx hy = record { host_meets = yx; guest_meets = xy; host_home = hy; guest_away = hx }

  played_meeting :
      (b : Bool) (x y : ℕ) → x < n → (circle n).against r x ≡ y → (circle n).home r x ≡ b → Played n r (meeting b x y)
  played_meeting b x y l against home =
      let proper = circle_proper n even in
      let back = rw against at (proper.mutual_pair r x lr l) in
      let away = (rw against at (proper.one_home r x lr l)) ∙ ap not home in
      both_sides b x y against back home away

  first_game : Played n r (game_of n r 0)
  unfolding circle
  first_game = played_meeting (eqb (r % 2) 0) (n - 1) r (omega arith) (grind (arith, nat_tests)) (grind (arith, nat_tests))

  game_after : (k : ℕ) → k < n / 2 → k ≢ 0 → Played n r (game_of n r k)
  game_after k l other =
      let m = n - 1 in
      let x = rest m (r + k) in
      let y = rest m (r + m - k) in
      let at_x = rest_is m (r + k) (omega arith) in
      let at_y = rest_is m (r + m - k) (omega arith) in
      let lx : x < m = omega arith in
      let ly : y < m = omega arith in
      let apart : x ≢ y = omega arith in
      let twice : Like m (x + y) (2 * r) = grind arith in
      let home : (circle n).home r x ≡ eqb (k % 2) 1 = rw (home_is n even r x lr (omega arith)) (grind (arith, nat_tests)) in
      rw (ne_eqb k 0 other) (played_meeting (eqb (k % 2) 1) x y (omega arith) (meets n even r x y lr lx ly apart twice) home)

  pub played : (k : ℕ) → k < n / 2 → Played n r (game_of n r k)
  played k l = elim (cases_eq k 0) [ inl e ↦ rw e first_game | inr other ↦ game_after k l other ]

  -- team i plays in game k of the round
  abbrev pub Plays : ℕ → ℕ → Type 0
  Plays i k = (k < n / 2) × (((game_of n r k).host ≡ i) ⊎ ((game_of n r k).guest ≡ i))

  plays_after :
      (i k : ℕ) → k < n / 2 → k ≢ 0 → (rest (n - 1) (r + k) ≡ i) ⊎ (rest (n - 1) (r + (n - 1) - k) ≡ i) → Plays i k
  plays_after i k l other e = (l, rw (ne_eqb k 0 other) (either (eqb (k % 2) 1) _ _ i e))

  pub every_team : (i : ℕ) → i < n → (k : ℕ) × Plays i k
  every_team i l =
      let m = n - 1 in
      elim (cases_eq i m) [
        | inl e ↦ (0, (omega arith, either (eqb (r % 2) 0) m r i (inl (sym e))))
        | inr ne ↦ elim (cases_eq i r) [
          | inl e ↦ (0, (omega arith, either (eqb (r % 2) 0) m r i (inr (sym e))))
          | inr other ↦
              let a = ahead m r i in
              let at_a = ahead_is m r i lr (omega arith) in
              elim (cases_lt (2 * a) n) [
                | inl near ↦
                    let here = rest_is m (r + a) (omega arith) in
                    (a, plays_after i a (omega arith) (omega arith) (inl (omega arith)))
                | inr far ↦
                    let here = rest_is m (r + m - (m - a)) (omega arith) in
                    (m - a, plays_after i (m - a) (omega arith) (omega arith) (inr (omega arith)))
              ]
        ]
      ]
