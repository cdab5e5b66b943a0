-- The same table: it keeps to the limits alike, and has one file. What lent memory holds of a file that was read is the table of the file.
use Rattle.std.proofs.Common.{◌≡◌, ℕ, ◌<◌, ◌≤◌, List, ◌++◌, map, length, drop, refl, sym, ap, ◌∙◌, arith}
use mathlib.Core.List.{map-map}
use Rattle.std.specs.List.{range_with_len}
use Rattle.std.proofs.lemmas.List.FromFn.{length-map-range_with_len, get_or-map-range_with_len, fill_by_all}
use Rattle.std.proofs.lemmas.List.{get_or-take, length-take, take_at}
use Rattle.season.specs.declared.game.Game.{Game}
use Rattle.season.specs.declared.table.Sizes.{Sizes}
use Rattle.season.specs.Bytes.{game_at}
use Rattle.season.specs.Encoding.{Within, Same, encoded, match_of, table_of, table_front, table_in}
use Rattle.season.specs.Reading.{sizes_in, points_after, games_after}
use Rattle.season.specs.Refused.{given}
use Rattle.season.specs.Rows.{written}
use Rattle.season.specs.Table.{Table}
use Rattle.season.proofs.Taken.{games_of}

-- functions that agree below n make the same list
pub map_agree :
    {X : Type 0} (f g : ℕ → X) (n : ℕ) (d : X) → ((i : ℕ) → i < n → f i ≡ g i) →
    map f (range_with_len 0 n) ≡ map g (range_with_len 0 n)
map_agree f g n d same =
    fill_by_all g (map f (range_with_len 0 n)) n d (length-map-range_with_len f 0 n)
    (λ k l. get_or-map-range_with_len f 0 n k k d l (omega arith) ∙ same k l)

module _ {t u : Table} (same : Same t u) where
  pub same_back : Same u t
  same_back = record {
    teams = sym same.teams;
    points = λ i l. sym (same.points i (rw same.teams l));
    left = sym same.left;
  }

  pub same_on : {v : Table} → Same u v → Same t v
  same_on next = record {
    teams = same.teams ∙ next.teams;
    points = λ i l. same.points i l ∙ next.points i (rw same.teams at l);
    left = same.left ∙ next.left;
  }

  pub within_same : Within t → Within u
  within_same w = record {
    not_few = rw (← same.teams) w.not_few;
    not_many = rw (← same.teams) w.not_many;
    points_low = λ i l. let below : i < t.teams = rw same.teams l in rw (← same.points i below) (w.points_low i below);
    left_few = rw (← same.left) w.left_few;
    sound = record { inside = rw (← same.teams, ← same.left) w.sound.inside };
  }

  pub encoded_same : encoded t ≡ encoded u
  encoded_same =
      let points = map_agree t.points u.points t.teams 0 same.points in
      rw (points, same.teams, same.left)

-- lent memory to which a table was written holds that table
pub same_rows :
    (t : Table) (games : List Game) (m : ℕ) (old : List ℕ) (older : List Game) →
    length games ≡ m → map match_of games ≡ t.left →
    Same t (table_front (record { teams = t.teams; games = m }) (written t.points t.teams old) (games ++ drop m older))
same_rows t games m old older long is_left =
    let n = t.teams in
    let points_front = take_at (map t.points (range_with_len 0 n)) (drop n old) n (length-map-range_with_len t.points 0 n) in
    record {
      teams = sym (ap length points_front ∙ length-map-range_with_len t.points 0 n);
      points = λ i l. rw points_front (sym (get_or-map-range_with_len t.points 0 n i i 0 l (omega arith)));
      left = sym (ap (map match_of) (take_at games (drop m older) m long) ∙ is_left);
    }

-- the table that lent memory holds is the one that the two rows at its front hold
pub same_front :
    (s : Sizes) (points : List ℕ) (row : List Game) → s.teams ≤ length points → Same (table_front s points row) (table_of s points row)
same_front s points row l = record {
  teams = simp length-take (omega arith);
  points = λ i below. get_or-take s.teams points i 0 (omega (arith, length-take s.teams points));
  left = refl;
}

-- the table with which lent memory begins after a file was read
abbrev pub table_read : List ℕ → List ℕ → List Game → Table
table_read file old older =
    table_front (sizes_in file) (points_after (given (sizes_in file)) file old) (games_after (given (sizes_in file)) file older)

pub same_read : (file old : List ℕ) (older : List Game) → Same (table_in file) (table_read file old older)
same_read file old older =
    let g = game_at (games_of file) in
    let m = (sizes_in file).games in
    same_rows (table_in file) (map g (range_with_len 0 m)) m old older (length-map-range_with_len g 0 m)
    (map-map match_of g (range_with_len 0 m))
