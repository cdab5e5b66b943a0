-- The points of all teams together, and of a set of teams: two for each match.
use Rattle.std.proofs.Common.{◌≡◌, ℕ, ◌+◌, ◌-◌, ◌*◌, ◌<◌, Bool, true, eqb, List, [], ◌∷◌, length, refl, ◌∙◌, inl, inr, arith}
use Rattle.std.proofs.lemmas.Bool.{cases_Bool, leb-true, eq-eqb}
use Rattle.std.proofs.lemmas.Bool.Decides.{nat_tests}
use Rattle.season.proofs.Spans.{span-add, span_none, span_only, span_same}
use Rattle.season.specs.Plan.{pick, span}
use Rattle.season.specs.Promise.{PointsAdd}
use Rattle.season.specs.Table.{Match, Ending, gained}
use Rattle.standings.proofs.Fair.{Fair, FairMatch, fair}
use Rattle.standings.specs.Results.{is_result, share, unplayed, won}
use Rattle.standings.specs.Theorems.{PointsKept}

-- what team a alone gets, summed over a set of teams
span-one : (r : ℕ → Bool) (a x n : ℕ) → a < n → span (λ j. pick (r j) (pick (eqb a j) x 0) 0) n ≡ pick (r a) x 0
span-one r a x n l =
    span_only (λ j. pick (r j) (pick (eqb a j) x 0) 0) n a l (λ k lk ne. grind (arith, nat_tests))
    ∙ rw (eq-eqb a a refl) refl

-- what a set of teams gets of a match
abbrev pub share_among : (ℕ → Bool) → Match → ℕ → ℕ
share_among r m x = pick (r m.host) x 0 + pick (r m.guest) (2 - x) 0

pub span-share :
    (r : ℕ → Bool) (n : ℕ) (m : Match) (x : ℕ) → FairMatch n m → span (λ j. pick (r j) (share m x j) 0) n ≡ share_among r m x
span-share r n m x f =
    let host = λ (j : ℕ). pick (r j) (pick (eqb m.host j) x 0) 0 in
    let guest = λ (j : ℕ). pick (r j) (pick (eqb m.guest j) (2 - x) 0) 0 in
    let split = span_same (λ j. pick (r j) (share m x j) 0) (λ j. host j + guest j) n (λ k l. grind (arith, nat_tests)) in
    split ∙ span-add host guest n
    ∙ omega (arith, span-one r m.host x n f.0, span-one r m.guest (2 - x) n f.1)

-- what a set of teams gains in an ending
unfoldable pub gained_among : (ℕ → Bool) → List Match → List ℕ → ℕ
gained_among r [] xs = 0
gained_among r (m ∷ ms) [] = 0
gained_among r (m ∷ ms) (x ∷ xs) = share_among r m x + gained_among r ms xs

pub span-gained :
    (r : ℕ → Bool) (n : ℕ) (ms : List Match) (xs : List ℕ) → Fair n ms →
    span (λ j. pick (r j) (gained ms xs j) 0) n ≡ gained_among r ms xs
unfolding gained gained_among
span-gained r n [] xs f = span_none (λ j. pick (r j) (gained [] xs j) 0) n (λ k l. grind (arith, nat_tests))
span-gained r n (m ∷ ms) [] f = span_none (λ j. pick (r j) (gained (m ∷ ms) [] j) 0) n (λ k l. grind (arith, nat_tests))
span-gained r n (m ∷ ms) (x ∷ xs) f =
    let here = λ (j : ℕ). pick (r j) (share m x j) 0 in
    let rest = λ (j : ℕ). pick (r j) (gained ms xs j) 0 in
    let split = span_same (λ j. pick (r j) (gained (m ∷ ms) (x ∷ xs) j) 0) (λ j. here j + rest j) n (λ k l. grind (arith, nat_tests)) in
    omega (arith, split, span-add here rest n, span-share r n m x f.0, span-gained r n ms xs f.1)

-- every team
abbrev everyone : ℕ → Bool
everyone j = true

gained_by_everyone : (ms : List Match) (xs : List ℕ) → Ending ms xs → gained_among everyone ms xs ≡ 2 * length ms
unfolding Ending gained_among
gained_by_everyone [] xs e = refl
gained_by_everyone (m ∷ ms) [] e = absurd e
gained_by_everyone (m ∷ ms) (x ∷ xs) e = let low = e.0 in omega (arith, gained_by_everyone ms xs e.1)

pub points_add : PointsAdd
unfolding PointsAdd
points_add t xs s e =
    omega (
      arith,
      span-add t.points (gained t.left xs) t.teams,
      span-gained everyone t.teams t.left xs (fair t s),
      gained_by_everyone t.left xs e,
    )

won_kept : (n : ℕ) (ms : List Match) (xs : List ℕ) → Fair n ms → span (won ms xs) n + 2 * length (unplayed ms xs) ≡ 2 * length ms
unfolding won unplayed
won_kept n [] xs f = omega (arith, span_none (won [] xs) n (λ k l. refl))
won_kept n (m ∷ ms) [] f = omega (arith, span_none (won (m ∷ ms) []) n (λ k l. refl))
won_kept n (m ∷ ms) (x ∷ xs) f =
    let rest = won_kept n ms xs f.1 in
    elim (cases_Bool (is_result x)) [
      | inl played ↦
          let low = leb-true x 2 played in
          let split = span_same (won (m ∷ ms) (x ∷ xs)) (λ j. share m x j + won ms xs j) n (λ k l. rw played refl) in
          rw played (omega (arith, split, span-add (share m x) (won ms xs) n, span-share everyone n m x f.0))
      | inr not_played ↦
          let split = span_same (won (m ∷ ms) (x ∷ xs)) (won ms xs) n (λ k l. rw not_played (omega arith)) in
          rw not_played (omega (arith, split))
    ]

pub points_kept : PointsKept
unfolding PointsKept
points_kept t xs s =
    omega (arith, span-add t.points (won t.left xs) t.teams, won_kept t.teams t.left xs (fair t s))
