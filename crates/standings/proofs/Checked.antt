-- A row of bytes that passed the check of an ending is one.
use Rattle.std.proofs.Common.{◌≡◌, ℕ, List, length, sym, ◌∙◌}
use Rattle.std.proofs.lemmas.Bool.{eqb-true, ltb-false, not-false}
use Rattle.season.proofs.Checks.{passed, passed_at}
use Rattle.season.specs.declared.table.Sizes.{Sizes}
use Rattle.season.specs.Refused.{given}
use Rattle.season.specs.Table.{Match, Ending}
use Rattle.standings.proofs.FullRows.{ending_from}
use Rattle.standings.specs.Asked.{unless_no_ending}

pub ending_passed :
    (ms : List Match) (xs : List ℕ) (s z : Sizes) → given z ≡ unless_no_ending xs s.games (given s) → length ms ≡ s.games → Ending ms xs
ending_passed ms xs s z e long =
    let one = passed _ _ _ _ z (sym e) in
    let two = passed_at _ _ _ _ z one.1 in
    ending_from ms xs (eqb-true _ _ (not-false _ one.0) ∙ sym long) (λ k l. ltb-false _ _ (two.0 k l))
