-- The table after results keeps to the limits, and is the one that lent memory holds to which it was written.
use Rattle.std.proofs.Common.{◌≡◌, ℕ, ◌≤◌, ltb, List, ◌++◌, map, length, drop, sym, refl, ap, ◌∙◌, arith}
use mathlib.Core.List.{map-map}
use Rattle.std.proofs.lemmas.List.FromFn.{length-map-range_with_len}
use Rattle.std.proofs.lemmas.List.{length-append, length-map, map-id}
use Rattle.std.proofs.lemmas.Bool.{ltb-false}
use Rattle.season.specs.declared.game.Game.{Game}
use Rattle.season.specs.declared.table.Sizes.{Sizes}
use Rattle.season.specs.Encoding.{Same, Within, match_of, sizes_of, table_in}
use Rattle.season.specs.Bytes.{game_at}
use Rattle.season.specs.Reading.{games_in, outcome, sizes_in, unless_at}
use Rattle.season.specs.Refused.{and_then, given, unless}
use Rattle.season.specs.Rows.{first, written}
use Rattle.season.specs.Table.{Table}
use Rattle.season.proofs.Checks.{passed_at}
use Rattle.season.proofs.First.{first_same}
use Rattle.season.proofs.Taken.{taken}
use Rattle.season.proofs.Tables.{same_rows, within_same}
use Rattle.standings.proofs.Fair.{fair, sound_from_fair, unplayed_fair}
use Rattle.standings.proofs.Matches.{unplayed_few}
use Rattle.standings.specs.Results.{Low, Played, after, game_of, outcome_after, passes_limit, told_after, unplayed}

module _ (t : Table) (xs : List ℕ) where
  -- what is known where results are not refused
  pub low_passed :
      (s z : Sizes) → given s ≡ unless_at (passes_limit (after t xs)) t.teams 4 (given z) → Low (after t xs) × (s ≡ z)
  low_passed s z e =
      let both = passed_at (passes_limit (after t xs)) t.teams 4 (given z) s (sym e) in
      ((λ i l. ltb-false _ _ (both.0 i l)), cc)

  within_after : Within t → Low (after t xs) → Within (after t xs)
  within_after w low = record {
    not_few = w.not_few;
    not_many = w.not_many;
    points_low = low;
    left_few = omega (arith, w.left_few, unplayed_few t.left xs);
    sound = sound_from_fair (after t xs) (unplayed_fair t.teams t.left xs (fair t w.sound));
  }

  pub played :
      Within t → Low (after t xs) → (old : List ℕ) (older : List Game) →
      Played t xs (sizes_of (after t xs)) (written (after t xs).points t.teams old)
      (map game_of (after t xs).left ++ drop (length (after t xs).left) older)
  played w low old older =
      let left = (after t xs).left in
      let back : map match_of (map game_of left) ≡ left = map-map match_of game_of left ∙ map-id left in
      let same = same_rows (after t xs) (map game_of left) (length left) old older (length-map left game_of) back in
      record {
        teams_there = rw (length-append, length-map-range_with_len) (omega arith);
        games_there = rw (length-append, length-map) (omega arith);
        within = within_same same (within_after w low);
        same = same;
      }

-- the same table after results
module _ {t u : Table} (same : Same t u) (xs : List ℕ) where
  pub same_after : Same (after t xs) (after u xs)
  same_after = record {
    teams = same.teams;
    points = λ i l. rw (same.points i l, same.left) refl;
    left = rw same.left refl;
  }

  pub told_after_same : told_after t xs ≡ told_after u xs
  told_after_same =
      let p = passes_limit (after t xs) in
      let q = passes_limit (after u xs) in
      let place : first p 0 t.teams ≡ first q 0 u.teams =
      first_same p q 0 t.teams (λ i low l. ap (ltb 1000) (same_after.points i (omega arith)))
      ∙ ap (first q 0) same.teams in
      let sizes : sizes_of (after t xs) ≡ sizes_of (after u xs) =
      λ i. record { teams = same.teams i; games = length (same_after.left i) } in
      λ i. unless (ltb (place i) (same.teams i)) 4 (place i) (given (sizes i))

-- the answer where the reader takes the file
pub outcome_played :
    (file xs : List ℕ) (row points : ℕ) (s : Sizes) → given s ≡ outcome file row points →
    told_after (table_in file) xs ≡ outcome_after file xs row points
outcome_played file xs row points s taken = ap (λ o. and_then o (λ _. told_after (table_in file) xs)) taken

-- room for the games left where there is room for the games of the file
pub room_after :
    (file xs : List ℕ) (row points : ℕ) (s : Sizes) (games : List Game) → given s ≡ outcome file row points →
    unplayed (table_in file).left xs ≡ map match_of games → length games ≤ row
room_after file xs row points s games is_taken left =
    let room = (taken file row points s (sym is_taken)).1.row_room in
    let long = length-map-range_with_len (λ k. match_of (game_at (games_in file (sizes_in file)) k)) 0 (sizes_in file).games in
    omega (arith, ap length left, length-map games match_of, unplayed_few (table_in file).left xs)
