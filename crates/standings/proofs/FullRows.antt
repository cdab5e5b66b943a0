-- Endings: full rows of results; what they give a team at the most.
use Rattle.std.proofs.Common.{◌≡◌, ℕ, zero, suc, ◌+◌, ◌*◌, ◌<◌, ◌≤◌, List, [], ◌∷◌, length, get_or, refl, ap, arith}
use Rattle.std.proofs.lemmas.Bool.{le-leb}
use Rattle.std.proofs.lemmas.Bool.Decides.{nat_tests}
use Rattle.season.proofs.Tables.{map_agree}
use Rattle.season.specs.Encoding.{Same}
use Rattle.season.specs.Rows.{written}
use Rattle.season.specs.Table.{Match, Table, Ending, final, gained, left_of}
use Rattle.standings.specs.Results.{share, unplayed, won}
use Rattle.standings.specs.Theorems.{FullRow}

pub won_gained : (ms : List Match) (xs : List ℕ) (i : ℕ) → Ending ms xs → won ms xs i ≡ gained ms xs i
unfolding Ending won gained
won_gained [] xs i e = refl
won_gained (m ∷ ms) [] i e = refl
won_gained (m ∷ ms) (x ∷ xs) i e = rw (le-leb x 2 e.0) (ap (λ n. share m x i + n) (won_gained ms xs i e.1))

none_unplayed : (ms : List Match) (xs : List ℕ) → Ending ms xs → unplayed ms xs ≡ []
unfolding Ending unplayed
none_unplayed [] xs e = refl
none_unplayed (m ∷ ms) [] e = absurd e
none_unplayed (m ∷ ms) (x ∷ xs) e = rw (le-leb x 2 e.0) (none_unplayed ms xs e.1)

pub full_row : FullRow
unfolding FullRow
full_row t xs e = (none_unplayed t.left xs e, λ i. ap (λ n. t.points i + n) (won_gained t.left xs i e))

-- a row of bytes is an ending if it has one for each match, none above 2
pub ending_from : (ms : List Match) (xs : List ℕ) → length xs ≡ length ms → ((k : ℕ) → k < length xs → get_or xs k 0 ≤ 2) → Ending ms xs
unfolding Ending
ending_from [] [] long low = tt
ending_from [] (x ∷ xs) long low = absurd (omega arith)
ending_from (m ∷ ms) [] long low = absurd (omega arith)
ending_from (m ∷ ms) (x ∷ xs) long low =
    (low zero (omega arith), ending_from ms xs (omega arith) (λ k l. low (suc k) (omega arith)))

pub gained_few : (ms : List Match) (xs : List ℕ) (i : ℕ) → Ending ms xs → gained ms xs i ≤ 2 * left_of ms i
unfolding Ending gained left_of
gained_few [] xs i e = omega arith
gained_few (m ∷ ms) [] i e = omega arith
gained_few (m ∷ ms) (x ∷ xs) i e =
    let low = e.0 in
    let rest = gained_few ms xs i e.1 in
    grind (arith, nat_tests)

-- the points after an ending, of the same table
pub same_finals :
    {t u : Table} → Same t u → (xs old : List ℕ) → written (final t xs) t.teams old ≡ written (final u xs) u.teams old
same_finals {t} {u} same xs old =
    let agree = map_agree (final t xs) (final u xs) t.teams 0 (λ i l. rw (same.points i l, same.left) refl) in
    rw (agree, same.teams) refl
