-- A round as a part of the plan's bytes.
use Rattle.std.proofs.Common.{◌≡◌, ℕ, ◌+◌, ◌-◌, ◌*◌, ◌/◌, ◌%◌, ◌<◌, ◌≤◌, List, ◌++◌, take, drop, refl, mul-le-mul_right, add-mul, arith}
use lib.Arith.{digits_div, digits_mod}
use Rattle.season.proofs.Written.{written_part}
use Rattle.season.specs.Rows.{written}
use Rattle.planner.specs.Circle.{game_of, round_byte, plan_byte, plan_length, round_bytes}

-- rounds start and end within the plan
pub round_inside : (n r : ℕ) → r < n → r * n ≤ plan_length n
round_inside n r l = let h : r ≤ n - 1 = omega arith in mul-le-mul_right n h

-- the bytes of game k
module _ (n r k : ℕ) where
  pub byte_of_host : (game_of n r k).host ≡ round_byte n r (2 * k)
  unfolding round_byte
  byte_of_host =
      let side : 2 * k % 2 ≡ 0 = omega arith in
      let game : 2 * k / 2 ≡ k = omega arith in
      rw (side, game) refl

  pub byte_of_guest : (game_of n r k).guest ≡ round_byte n r (2 * k + 1)
  unfolding round_byte
  byte_of_guest =
      let side : (2 * k + 1) % 2 ≡ 1 = omega arith in
      let game : (2 * k + 1) / 2 ≡ k = omega arith in
      rw (side, game) refl

-- the bytes of round r within the plan
pub byte_in_round : (n r p : ℕ) → p < n → round_byte n r p ≡ plan_byte n (r * n + p)
unfolding plan_byte
byte_in_round n r p l = rw (digits_div r l, digits_mod r l) refl

pub next_round : (n r : ℕ) → (r + 1) * n ≡ r * n + n
next_round n r = omega (arith, add-mul r 1 n)

-- the plan's bytes with one round more
pub written_round :
    (n r : ℕ) (old bytes : List ℕ) → bytes ≡ written (plan_byte n) (r * n) old →
    take (r * n) bytes ++ (round_bytes n r ++ drop (r * n + n) bytes) ≡ written (plan_byte n) ((r + 1) * n) old
written_round n r old bytes e =
    rw (next_round n r) (written_part (plan_byte n) (round_byte n r) (r * n) n old bytes (byte_in_round n r) e)
