-- Rows of matches: how much a row can give a team, what one match more at its end leaves and adds, and what is summed over a row.
use Rattle.std.proofs.Common.{◌≡◌, ℕ, ◌+◌, ◌*◌, ◌<◌, ◌≤◌, Bool, true, false, ◌||◌, eqb, List, [], ◌∷◌, ◌++◌, map, length, get_or, take, refl, ap, ◌∙◌, inl, inr, arith}
use Rattle.std.specs.List.{sum_by, zip}
use Rattle.std.proofs.lemmas.List.Sums.{sum_by-cons}
use Rattle.std.proofs.lemmas.List.{length-map, length-take, length-take-le, map_more}
use Rattle.std.proofs.lemmas.Bool.{cases_Bool}
use Rattle.std.proofs.lemmas.Bool.Decides.{nat_tests}
use Rattle.season.specs.declared.game.Game.{Game}
use Rattle.season.specs.Encoding.{match_of}
use Rattle.season.specs.Plan.{pick}
use Rattle.season.specs.Table.{Match, left_of}
use Rattle.standings.specs.Results.{byte_beside, is_result, share_beside, won, unplayed}

module _ (m : Match) where
  pub won_more :
      (ms : List Match) (xs : List ℕ) (i : ℕ) →
      won (ms ++ m ∷ []) xs i ≡ won ms xs i + share_beside m (byte_beside xs (length ms)) i
  unfolding won
  won_more [] [] i = refl
  won_more [] (x ∷ xs) i = omega arith
  won_more (n ∷ ms) [] i = refl
  won_more (n ∷ ms) (x ∷ xs) i = omega (arith, won_more ms xs i)

  -- what a byte leaves of a match: nothing where it is a result
  abbrev pub left_by : ℕ → List Match
  left_by x = pick (is_result x) [] (m ∷ [])

  left_by_on :
      (b : Bool) (n : Match) (rest more : List Match) →
      pick b (rest ++ more) (n ∷ (rest ++ more)) ≡ pick b rest (n ∷ rest) ++ more
  left_by_on true n rest more = refl
  left_by_on false n rest more = refl

  pub unplayed_more :
      (ms : List Match) (xs : List ℕ) → unplayed (ms ++ m ∷ []) xs ≡ unplayed ms xs ++ left_by (byte_beside xs (length ms))
  unfolding unplayed
  unplayed_more [] [] = refl
  unplayed_more [] (x ∷ xs) = refl
  unplayed_more (n ∷ ms) [] = refl
  unplayed_more (n ∷ ms) (x ∷ xs) = rw (unplayed_more ms xs) (left_by_on (is_result x) n (unplayed ms xs) _)

  pub left_of_more :
      (ms : List Match) (i : ℕ) → left_of (ms ++ m ∷ []) i ≡ left_of ms i + pick (eqb m.host i || eqb m.guest i) 1 0
  unfolding left_of
  left_of_more [] i = omega arith
  left_of_more (n ∷ ms) i = omega (arith, left_of_more ms i)

  pub share_few : (x i : ℕ) → share_beside m x i ≤ 2
  share_few x i = grind (arith, nat_tests)

pub won_few : (ms : List Match) (xs : List ℕ) (i : ℕ) → won ms xs i ≤ 2 * length ms
unfolding won
won_few [] xs i = omega arith
won_few (m ∷ ms) [] i = omega arith
won_few (m ∷ ms) (x ∷ xs) i = omega (arith, share_few m x i, won_few ms xs i)

pub left_of_few : (ms : List Match) (i : ℕ) → left_of ms i ≤ length ms
unfolding left_of
left_of_few [] i = omega arith
left_of_few (m ∷ ms) i = let rest = left_of_few ms i in grind (arith, nat_tests)

pub unplayed_few : (ms : List Match) (xs : List ℕ) → length (unplayed ms xs) ≤ length ms
unfolding unplayed
unplayed_few [] xs = omega arith
unplayed_few (m ∷ ms) [] = omega arith
unplayed_few (m ∷ ms) (x ∷ xs) = let rest = unplayed_few ms xs in
    elim (cases_Bool (is_result x)) [
      | inl played ↦ rw played (omega arith)
      | inr not_played ↦ rw not_played (omega arith)
    ]

-- what is summed over the games of a row, each beside its byte, is what a row of matches gives
pub won_summed :
    (games : List Game) (xs : List ℕ) (i : ℕ) →
    sum_by (λ p. share_beside (match_of p.0) p.1 i) (zip games xs) ≡ won (map match_of games) xs i
unfolding won
won_summed [] xs i = refl
won_summed (g ∷ games) [] i = refl
won_summed (g ∷ games) (x ∷ xs) i =
    let f = λ (p : Game × ℕ). share_beside (match_of p.0) p.1 i in
    omega (arith, sum_by-cons f (g, x) (zip games xs), won_summed games xs i)

-- the games before a turn of a loop are no more than its count, and leave a team no more
module _ (games : List Game) (k : ℕ) where
  pub few_before : length (map match_of (take k games)) ≤ k
  few_before = rw (length-map (take k games) match_of, length-take k games) (omega arith)

  pub left_of_before : (i : ℕ) → left_of (map match_of (take k games)) i ≤ k
  left_of_before i = omega (arith, left_of_few (map match_of (take k games)) i, few_before)

-- what a turn of a loop over games leaves, and adds
module _ (games : List Game) (k : ℕ) (d : Game) (l : k < length games) where
  length_before : length (map match_of (take k games)) ≡ k
  length_before = length-map (take k games) match_of ∙ length-take-le k games (omega arith)

  pub won_turn :
      (xs : List ℕ) (i : ℕ) →
      won (map match_of (take (k + 1) games)) xs i
      ≡ won (map match_of (take k games)) xs i + share_beside (match_of (get_or games k d)) (byte_beside xs k) i
  won_turn xs i =
      ap (λ ms. won ms xs i) (map_more match_of games k d l)
      ∙ rw length_before at (won_more (match_of (get_or games k d)) (map match_of (take k games)) xs i)

  pub unplayed_turn :
      (xs : List ℕ) →
      unplayed (map match_of (take (k + 1) games)) xs
      ≡ unplayed (map match_of (take k games)) xs ++ left_by (match_of (get_or games k d)) (byte_beside xs k)
  unplayed_turn xs =
      ap (λ ms. unplayed ms xs) (map_more match_of games k d l)
      ∙ rw length_before at (unplayed_more (match_of (get_or games k d)) (map match_of (take k games)) xs)

  pub left_of_turn :
      (i : ℕ) →
      left_of (map match_of (take (k + 1) games)) i
      ≡ left_of (map match_of (take k games)) i + pick (eqb (get_or games k d).host i || eqb (get_or games k d).guest i) 1 0
  left_of_turn i =
      ap (λ ms. left_of ms i) (map_more match_of games k d l) ∙ left_of_more (match_of (get_or games k d)) (map match_of (take k games)) i
