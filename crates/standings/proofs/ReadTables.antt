-- The table of a file, reckoned by memory that holds it.
use Rattle.std.proofs.Common.{◌≡◌, ℕ, ◌<◌, ◌≤◌, Bool, leb, List, ◌++◌, length, Decides, sym, ap, ◌∙◌}
use Rattle.std.proofs.lemmas.List.{length-map, length-take-le, take-append-le}
use Rattle.std.proofs.lemmas.Bool.{lt-leb}
use Rattle.std.proofs.lemmas.Bool.Decides.{Decides-at}
use Rattle.season.proofs.Checks.{pass}
use Rattle.season.proofs.ReadBack.{same_held}
use Rattle.season.proofs.Tables.{within_same}
use Rattle.season.specs.declared.game.Game.{Game}
use Rattle.season.specs.declared.table.Sizes.{Sizes}
use Rattle.season.specs.Encoding.{Holds, Same, Within, sizes_of, table_front, table_in}
use Rattle.season.specs.Reading.{outcome}
use Rattle.season.specs.Refused.{and_then, given}
use Rattle.season.specs.Table.{Table}
use Rattle.standings.proofs.SureFirst.{sure_decides, sure_same}
use Rattle.standings.specs.Asked.{unless_absent}
use Rattle.standings.specs.Sure.{AlwaysFirst, outcome_sure, sure}

-- the table of a file that was read into the front of memory
pub same_own :
    {file : List ℕ} {s : Sizes} {points : List ℕ} {row : List Game} → Holds file s points row → (more : List ℕ) (others : List Game) →
    Same (table_front s (points ++ more) (row ++ others)) (table_in file)
same_own {s = s} {points = points} {row = row} h more others =
    rw (take-append-le s.teams points more h.teams_there, take-append-le s.games row others h.games_there) (same_held h)

-- a table in front of memory that has room for it has the sizes that it is said to have
pub sizes_front :
    (s : Sizes) (points : List ℕ) (row : List Game) → s.teams ≤ length points → s.games ≤ length row →
    sizes_of (table_front s points row) ≡ s
sizes_front s points row teams_there games_there =
    let teams = length-take-le s.teams points teams_there in
    let games = length-map _ _ ∙ length-take-le s.games row games_there in
    λ i. record { teams = teams i; games = games i }

module _ (file : List ℕ) {t : Table} (same : Same t (table_in file)) where
  pub sure_read :
      Within t → (team : ℕ) (b : Bool) → team < t.teams → b ≡ sure t team →
      (b ≡ sure (table_in file) team) × Decides b (AlwaysFirst (table_in file) team)
  sure_read within team b l is_b =
      let there : team < (table_in file).teams = rw same.teams at l in
      let sound = (within_same same within).sound in
      let is = is_b ∙ sure_same same team l in
      (is, Decides-at b (sure (table_in file) team) is (sure_decides (table_in file) team sound there))

-- the answer where the file was taken and the team is there
pub sure_told :
    (file : List ℕ) (team : ℕ) (s : Sizes) (b : Bool) → given s ≡ outcome file 1024 64 → team < s.teams → b ≡ sure (table_in file) team →
    given b ≡ outcome_sure file team
sure_told file team s b taken l is_b =
    ap given is_b
    ∙ sym (pass (leb s.teams team) 9 0 _ (lt-leb _ _ l))
    ∙ ap (λ o. and_then o (λ s. unless_absent team s.teams (given (sure (table_in file) team)))) taken
