-- What a file has passed that is taken.
use Rattle.std.proofs.Common.{◌≡◌, ℕ, ◌+◌, ◌-◌, ◌*◌, ◌%◌, ◌<◌, ◌≤◌, eqb, ltb, leb, ◌≢◌, List, length, arith}
use Rattle.std.proofs.lemmas.Bool.{ltb-false, leb-false, eqb-false, or_parts}
use Rattle.season.specs.declared.table.Sizes.{Sizes}
use Rattle.season.specs.Bytes.{number_at, game_at}
use Rattle.season.specs.Reading.{outcome, teams_in, points_in, games_in, sizes_in}
use Rattle.season.specs.Reading.{unserved, row_short, points_short, cut, above, wrong_length, absent, against_itself}
use Rattle.season.specs.Refused.{given}
use Rattle.season.proofs.Checks.{passed, passed_at}

-- the bytes of the games of a file
abbrev pub games_of : List ℕ → List ℕ
games_of file = games_in file (sizes_in file)

pub record Taken (file : List ℕ) (row points : ℕ) : Type 0 where
  pub two : 2 ≤ teams_in file
  pub sixty_four : teams_in file ≤ 64
  pub row_room : (sizes_in file).games ≤ row
  pub points_room : teams_in file ≤ points
  pub low : (i : ℕ) → i < teams_in file → number_at (points_in file) i ≤ 1000
  pub whole : length file ≡ 1 + 2 * teams_in file + 2 * (sizes_in file).games
  pub few : (sizes_in file).games ≤ 1024
  pub host_there : (k : ℕ) → k < (sizes_in file).games → (game_at (games_of file) k).host < teams_in file
  pub guest_there : (k : ℕ) → k < (sizes_in file).games → (game_at (games_of file) k).guest < teams_in file
  pub apart : (k : ℕ) → k < (sizes_in file).games → (game_at (games_of file) k).host ≢ (game_at (games_of file) k).guest

pub taken :
    (file : List ℕ) (row points : ℕ) (s : Sizes) → outcome file row points ≡ given s →
    (s ≡ sizes_in file) × Taken file row points
taken file row points s e =
    let z = sizes_in file in
    let teams = passed (unserved (teams_in file)) _ _ _ s e in
    let row_past = passed (row_short z row) _ _ _ s teams.1 in
    let points_past = passed (points_short z points) _ _ _ s row_past.1 in
    let not_cut = passed (cut file z) _ _ _ s points_past.1 in
    let not_above = passed_at (above (points_in file)) (teams_in file) _ _ s not_cut.1 in
    let length_right = passed (wrong_length file z) _ _ _ s not_above.1 in
    let not_absent = passed_at (absent (games_of file) (teams_in file)) z.games _ _ s length_right.1 in
    let not_against_itself = passed_at (against_itself (games_of file)) z.games _ _ s not_absent.1 in
    let teams_pass = or_parts (ltb (teams_in file) 2) (ltb 64 (teams_in file)) teams.0 in
    let whole_pass = or_parts (eqb ((length file - (1 + 2 * teams_in file)) % 2) 1) (ltb 1024 z.games) length_right.0 in
    let even = eqb-false ((length file - (1 + 2 * teams_in file)) % 2) 1 whole_pass.0 in
    let few = ltb-false 1024 z.games whole_pass.1 in
    let there = λ (k : ℕ) (l : k < z.games).
    or_parts (leb (teams_in file) (game_at (games_of file) k).host) (leb (teams_in file) (game_at (games_of file) k).guest)
    (not_absent.0 k l) in (
      cc,
      record {
        two = ltb-false _ _ teams_pass.0;
        sixty_four = ltb-false _ _ teams_pass.1;
        row_room = omega (arith, ltb-false _ _ row_past.0);
        points_room = ltb-false _ _ points_past.0;
        low = λ i l. ltb-false _ _ (not_above.0 i l);
        whole = omega (arith, ltb-false _ _ not_cut.0);
        few = few;
        host_there = λ k l. leb-false _ _ (there k l).0;
        guest_there = λ k l. leb-false _ _ (there k l).1;
        apart = λ k l. eqb-false _ _ (not_against_itself.0 k l);
      },
    )
