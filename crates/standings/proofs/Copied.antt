-- The table after results, copied from two rows to the front of lent memory.
use Rattle.std.proofs.Common.{◌≡◌, ℕ, List, ◌++◌, map, length, drop, sym, refl, ap, ◌∙◌, subst, arith}
use mathlib.Core.List.{map-map}
use Rattle.std.proofs.lemmas.List.FromFn.{fill_by_all}
use Rattle.std.proofs.lemmas.List.{length-append, length-map, map-id, take_at}
use Rattle.season.specs.declared.game.Game.{Game}
use Rattle.season.specs.declared.table.Sizes.{Sizes}
use Rattle.season.specs.Encoding.{Same, Within, match_of, sizes_of, table_held}
use Rattle.season.specs.Rows.{written}
use Rattle.season.specs.Table.{Table}
use Rattle.standings.specs.Results.{Played, after, game_of}

-- a row in front of what stood in another past so many places
abbrev pub put : {X : Type 0} → List X → List X → List X
put row old = row ++ drop (length row) old

module _ {u : Table} (points : List ℕ) (row : List Game) (same : Same u (table_held points row)) where
  pub copied_points : (old : List ℕ) → put points old ≡ written u.points u.teams old
  copied_points old =
      let front_is = fill_by_all u.points points u.teams 0 (sym same.teams) (λ i l. sym (same.points i l)) in
      ap (λ n. points ++ drop n old) (sym same.teams) ∙ ap (λ front. front ++ drop u.teams old) front_is

  pub copied_games : (old : List Game) → put row old ≡ map game_of u.left ++ drop (length u.left) old
  copied_games old =
      let front_is = ap (map game_of) same.left ∙ map-map game_of match_of row ∙ map-id row in
      let long = ap length same.left ∙ length-map row match_of in
      ap (λ n. row ++ drop n old) (sym long) ∙ ap (λ front. front ++ drop (length u.left) old) (sym front_is)

pub copied :
    {t : Table} {xs : List ℕ} (s : Sizes) (points : List ℕ) (row : List Game) → Same (after t xs) (table_held points row) →
    Within (table_held points row) → sizes_of (table_held points row) ≡ s → (old : List ℕ) (older : List Game) →
    Played t xs s (put points old) (put row older)
copied {t} {xs} s points row same within is_s old older =
    let points_front = take_at points (drop (length points) old) (length points) refl in
    let games_front = take_at row (drop (length row) older) (length row) refl in
    let games_long : length (map match_of row) ≡ length row = length-map row match_of in
    subst (λ s. Played t xs s (put points old) (put row older)) is_s (record {
      teams_there = rw length-append (omega arith);
      games_there = rw (length-append, games_long) (omega arith);
      within = rw (games_long, points_front, games_front) within;
      same = rw (games_long, points_front, games_front) same;
    })
