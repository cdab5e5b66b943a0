-- The plan read back from the planner's bytes agrees with the plan by circles.
use Rattle.std.proofs.Common.{◌≡◌, ℕ, ◌+◌, ◌-◌, ◌*◌, ◌/◌, ◌%◌, ◌<◌, ◌≤◌, eqb, List, length, get_or, drop, sym, ap, ◌∙◌, subst, inl, inr, arith}
use Rattle.std.proofs.lemmas.List.FromFn.{length-map-range_with_len, get_or-map-range_with_len, fill_by_all}
use Rattle.std.proofs.lemmas.List.{length-append, length-drop, length-take-le, get_or_append_left, get_or-take, get_or-drop}
use Rattle.std.proofs.lemmas.Bool.{cases_eq, eq-eqb, eqb-true}
use Rattle.std.proofs.lemmas.Bool.Decides.{nat_tests}
use Rattle.season.proofs.First.{first_holds}
use Rattle.season.specs.Bytes.{round_at, place_in, home_in, beside, plan_of}
use Rattle.season.specs.Plan.{circle}
use Rattle.season.specs.Rows.{first}
use Rattle.planner.proofs.Games.{played, every_team}
use Rattle.planner.proofs.Rounds.{byte_of_host, byte_of_guest, byte_in_round, next_round, round_inside}
use Rattle.planner.specs.Circle.{plan_byte, plan_bytes, plan_length, round_byte, round_bytes, with_plan}
use Rattle.planner.specs.Theorems.{BytesAgree}

module _ (n : ℕ) (old : List ℕ) where
  abbrev bytes : List ℕ
  bytes = with_plan n old

  round_read : (r : ℕ) → r < n - 1 → round_at bytes n r ≡ round_bytes n r
  round_read r l =
      let plan = plan_bytes n in
      let long : length plan ≡ plan_length n = length-map-range_with_len (plan_byte n) 0 (plan_length n) in
      let all = length-append plan (drop (plan_length n) old) in
      let end : r * n + n ≤ plan_length n = omega (arith, round_inside n (r + 1) (omega arith), next_round n r) in
      let part = length-take-le n (drop (r * n) bytes) (omega (arith, length-drop (r * n) bytes)) in
      fill_by_all (round_byte n r) (round_at bytes n r) n 0 part (λ p lp.
      get_or-take n (drop (r * n) bytes) p 0 lp
      ∙ get_or-drop (r * n) bytes p 0
      ∙ get_or_append_left plan (drop (plan_length n) old) 0 (r * n + p) (omega arith)
      ∙ get_or-map-range_with_len (plan_byte n) 0 (plan_length n) (r * n + p) (r * n + p) 0 (omega arith) (omega arith)
      ∙ sym (byte_in_round n r p lp))

module _ (n : ℕ) (even : n % 2 ≡ 0) (r : ℕ) (lr : r < n - 1) where
  -- who stands at place p plays the one beside it, and is at home if p is even
  ToldAt : ℕ → Type 0
  ToldAt p =
      ((circle n).against r (round_byte n r p) ≡ round_byte n r (beside p)) × ((circle n).home r (round_byte n r p) ≡ eqb (p % 2) 0)

  at_host : (k : ℕ) → k < n / 2 → ToldAt (2 * k)
  unfolding ToldAt
  at_host k l =
      let game = played n even r lr k l in
      let side : 2 * k % 2 ≡ 0 = omega arith in
      rw (side, ← byte_of_host n r k) (rw (← byte_of_guest n r k) game.host_meets, game.host_home)

  at_guest : (k : ℕ) → k < n / 2 → ToldAt (2 * k + 1)
  unfolding ToldAt
  at_guest k l =
      let game = played n even r lr k l in
      let side : (2 * k + 1) % 2 ≡ 1 = omega arith in
      let other : 2 * k + 1 - 1 ≡ 2 * k = omega arith in
      rw (side, other, ← byte_of_guest n r k) (rw (← byte_of_host n r k) game.guest_meets, game.guest_away)

  told_at : (p : ℕ) → p < n → ToldAt p
  told_at p l =
      elim (cases_eq (p % 2) 0) [
        | inl e ↦ let at : 2 * (p / 2) ≡ p = omega arith in subst ToldAt at (at_host (p / 2) (omega arith))
        | inr ne ↦ let at : 2 * (p / 2) + 1 ≡ p = omega arith in subst ToldAt at (at_guest (p / 2) (omega arith))
      ]

  abbrev row : List ℕ
  row = round_bytes n r

  byte_at : (p : ℕ) → p < n → get_or row p 0 ≡ round_byte n r p
  byte_at p l = get_or-map-range_with_len (round_byte n r) 0 n p p 0 l (omega arith)

  module _ (i : ℕ) (l : i < n) where
    somewhere : (p : ℕ) × (p < n) × (round_byte n r p ≡ i)
    somewhere =
        let team = every_team n even r lr i l in
        let k = team.0 in
        elim team.1.1 [
          | inl e ↦ (2 * k, omega arith, sym (byte_of_host n r k) ∙ e)
          | inr e ↦ (2 * k + 1, omega arith, sym (byte_of_guest n r k) ∙ e)
        ]

    stands : (place_in row i < n) × (round_byte n r (place_in row i) ≡ i)
    stands =
        let here = somewhere in
        let byte = byte_at here.0 here.1 ∙ here.2 in
        let holds = first_holds (λ p. eqb (get_or row p 0) i) 0 n here.0 (omega arith) (omega arith) (eq-eqb _ _ byte) in
        let low : first (λ p. eqb (get_or row p 0) i) 0 n < n = omega arith in
        rw length-map-range_with_len (low, sym (byte_at _ low) ∙ eqb-true _ _ holds.1)

    against_read : get_or row (beside (place_in row i)) 0 ≡ (circle n).against r i
    unfolding ToldAt
    against_read =
        let p = place_in row i in
        let told = (told_at p stands.0).0 in
        let inside : beside p < n = let low = stands.0 in grind (arith, nat_tests) in
        byte_at (beside p) inside ∙ sym told ∙ ap ((circle n).against r) stands.1

    home_read : home_in row i ≡ (circle n).home r i
    unfolding ToldAt
    home_read = sym (told_at (place_in row i) stands.0).1 ∙ ap ((circle n).home r) stands.1

pub bytes_agree : BytesAgree
unfolding BytesAgree plan_of
bytes_agree n old positive even = record {
  against = λ r i lr li. rw (round_read n old r lr) (against_read n even r lr i li);
  home = λ r i lr li. rw (round_read n old r lr) (home_read n even r lr i li);
}
