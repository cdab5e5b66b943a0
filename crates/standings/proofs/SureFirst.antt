-- A team is sure to be first just if no other can come to more than it has.
use Rattle.std.proofs.Common.{◌≡◌, ℕ, zero, suc, ◌+◌, ◌*◌, ◌<◌, Bool, not, ◌||◌, eqb, leb, ◌≢◌, List, [], ◌∷◌, Decides, sym, refl, ap, ◌∙◌, inl, inr, zero-add, add-one, arith}
use Rattle.std.specs.List.{list_any, range_with_len}
use Rattle.std.proofs.lemmas.Bool.{cases_Bool, cases_eq, le-leb, leb-true, lt-leb}
use Rattle.std.proofs.lemmas.Bool.Decides.{nat_tests}
use Rattle.season.proofs.First.{first_none, first_same, none_before}
use Rattle.season.specs.Encoding.{Same}
use Rattle.season.specs.Plan.{pick}
use Rattle.season.specs.Promise.{Sure}
use Rattle.season.specs.Rows.{first}
use Rattle.season.specs.Table.{Match, Table, Sound, Ending, gained, left_of}
use Rattle.standings.proofs.FullRows.{gained_few}
use Rattle.standings.proofs.Fair.{Fair, fair}
use Rattle.standings.specs.Sure.{AlwaysFirst, can_pass, sure}

-- the ending in which team j wins all its matches and team i loses all of its
worst : ℕ → ℕ → List Match → List ℕ
worst i j [] = []
worst i j (m ∷ ms) = pick (eqb m.host j || eqb m.guest i) 2 0 ∷ worst i j ms

module _ (i j : ℕ) (apart : j ≢ i) where
  worst_ending : (ms : List Match) → Ending ms (worst i j ms)
  unfolding Ending worst
  worst_ending [] = tt
  worst_ending (m ∷ ms) = (grind (arith, nat_tests), worst_ending ms)

  worst_loses : (n : ℕ) (ms : List Match) → Fair n ms → gained ms (worst i j ms) i ≡ 0
  unfolding gained worst
  worst_loses n [] f = refl
  worst_loses n (m ∷ ms) f =
      let different = f.0.2 in
      let rest = worst_loses n ms f.1 in
      grind (arith, nat_tests)

  worst_wins : (n : ℕ) (ms : List Match) → Fair n ms → gained ms (worst i j ms) j ≡ 2 * left_of ms j
  unfolding gained worst left_of
  worst_wins n [] f = refl
  worst_wins n (m ∷ ms) f =
      let different = f.0.2 in
      let rest = worst_wins n ms f.1 in
      grind (arith, nat_tests)

pub sure_law : Sure
unfolding Sure
sure_law t i s l = (
  (λ always j lj apart.
      let f = fair t s in
      omega (
        arith,
        always (worst i j t.left) (worst_ending i j apart t.left) j lj,
        worst_loses i j apart t.teams t.left f,
        worst_wins i j apart t.teams t.left f,
      )),
  (λ none xs e j lj.
      elim (cases_eq j i) [
        | inl same ↦ rw same (omega arith)
        | inr apart ↦ omega (arith, none j lj apart, gained_few t.left xs j e)
      ]),
)

-- the code's test is the theorem's
pub sure_decides : (t : Table) (i : ℕ) → Sound t → i < t.teams → Decides (sure t i) (AlwaysFirst t i)
unfolding Sure
sure_decides t i s l = (
  (λ is_sure.
      let end = leb-true _ _ is_sure in
      (sure_law t i s l).1 (λ j lj apart.
      let not_passed = none_before (can_pass t i) 0 t.teams (omega arith) j (omega arith) (omega arith) in
      grind (arith, nat_tests))),
  (λ always.
      let end = first_none (can_pass t i) 0 t.teams (λ j low high.
      let most_of = (sure_law t i s l).0 always j (omega arith) in
      grind (arith, nat_tests)) in
      le-leb _ _ (omega arith)),
)

none_from :
    (p : ℕ → Bool) (k n : ℕ) → not (list_any p (range_with_len k n)) ≡ leb (k + n) (first p k n)
none_from p k zero = sym (le-leb _ _ (omega arith))
none_from p k (suc n) =
    let rest = none_from p (k + 1) n in
    elim (cases_Bool (p k)) [
      | inl here ↦ rw here (sym (lt-leb _ _ (omega arith)))
      | inr not_here ↦
          let one_more : k + suc n ≡ k + 1 + n = omega arith in
          rw not_here (rest ∙ rw (one_more, add-one) refl)
    ]

-- a test holds at no place just if the first place is past the end
pub none_any : (p : ℕ → Bool) (n : ℕ) → not (list_any p (range_with_len 0 n)) ≡ leb n (first p 0 n)
none_any p n = none_from p 0 n ∙ rw (zero-add n) refl

-- the answer for the same table
pub sure_same : {t u : Table} → Same t u → (i : ℕ) → i < t.teams → sure t i ≡ sure u i
sure_same {t} {u} same i l =
    let place : first (can_pass t i) 0 t.teams ≡ first (can_pass u i) 0 u.teams =
    first_same (can_pass t i) (can_pass u i) 0 t.teams
    (λ j low lj. rw (same.points i l, same.points j (omega arith), same.left) refl)
    ∙ ap (first (can_pass u i) 0) same.teams in
    λ k. leb (same.teams k) (place k)
