-- Results played one part after the other.
use Rattle.std.proofs.Common.{◌≡◌, ℕ, ◌+◌, List, [], ◌∷◌, refl, inl, inr, arith}
use Rattle.std.proofs.lemmas.Bool.{cases_Bool}
use Rattle.season.specs.Table.{Match}
use Rattle.standings.specs.Results.{is_result, unplayed, won}
use Rattle.standings.specs.Theorems.{InParts, joined}

won_none : (ms : List Match) (i : ℕ) → won ms [] i ≡ 0
unfolding won
won_none [] i = refl
won_none (m ∷ ms) i = refl

unplayed_none : (ms : List Match) → unplayed ms [] ≡ ms
unfolding unplayed
unplayed_none [] = refl
unplayed_none (m ∷ ms) = refl

unplayed_parts : (ms : List Match) (xs ys : List ℕ) → unplayed (unplayed ms xs) ys ≡ unplayed ms (joined xs ys)
unfolding unplayed
unplayed_parts [] xs ys = refl
unplayed_parts (m ∷ ms) [] ys = refl
unplayed_parts (m ∷ ms) (x ∷ xs) [] = unplayed_none _
unplayed_parts (m ∷ ms) (x ∷ xs) (y ∷ ys) =
    elim (cases_Bool (is_result x)) [
      | inl played ↦ rw played (rw played (unplayed_parts ms xs (y ∷ ys)))
      | inr not_played ↦ rw not_played (rw (unplayed_parts ms xs ys) refl)
    ]

won_parts : (ms : List Match) (xs ys : List ℕ) (i : ℕ) → won ms xs i + won (unplayed ms xs) ys i ≡ won ms (joined xs ys) i
unfolding won unplayed
won_parts [] xs ys i = refl
won_parts (m ∷ ms) [] ys i = omega arith
won_parts (m ∷ ms) (x ∷ xs) [] i = omega (arith, won_none (unplayed (m ∷ ms) (x ∷ xs)) i)
won_parts (m ∷ ms) (x ∷ xs) (y ∷ ys) i =
    elim (cases_Bool (is_result x)) [
      | inl played ↦ rw played (rw played (omega (arith, won_parts ms xs (y ∷ ys) i)))
      | inr not_played ↦ rw not_played (omega (arith, won_parts ms xs ys i))
    ]

pub in_parts : InParts
unfolding InParts
in_parts t xs ys = record {
  teams = refl;
  points = λ i l. omega (arith, won_parts t.left xs ys i);
  left = unplayed_parts t.left xs ys;
}
