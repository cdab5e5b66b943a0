-- The answer of the reader is exact, by what it tells.
use Rattle.std.proofs.Common.{◌≡◌, ℕ, ◌<◌, ◌≤◌, Bool, true, false, List, length, get_or, Ok, Err, Result, IfOk, sym, ap, ◌∙◌, arith}
use Rattle.season.specs.declared.game.Game.{Game}
use Rattle.season.specs.declared.refusal.Refusal.{Refusal}
use Rattle.season.specs.declared.table.Sizes.{Sizes}
use Rattle.season.specs.Encoding.{Exact, Holds, sizes_of}
use Rattle.season.specs.Reading.{outcome, row_short, points_short, points_after, games_after}
use Rattle.season.specs.Refused.{given, refused, unless, told}
use Rattle.season.proofs.Encodes.{taken_encodes}
use Rattle.season.proofs.ReadBack.{read_back}
use Rattle.season.proofs.Tables.{same_read, same_front, within_same, encoded_same}
use Rattle.season.proofs.Taken.{taken}

-- where only memory can be short, only memory is
only_memory : {A : Type 0} (a b : Bool) (s : A) (number place : ℕ) →
    refused number place ≡ unless a 10 0 (unless b 10 1 (given s)) → number ≡ 10
only_memory true b s number place e = cc
only_memory false true s number place e = cc
only_memory false false s number place e = let z : ◌≡◌ {A = ℕ} 0 1 = cc in absurd (omega arith)

-- taken, lent memory begins with the table of the file
pub held :
    (file : List ℕ) (row points : ℕ) (r : Result Sizes Refusal) (old now : List ℕ) (older newer : List Game) →
    ((i : ℕ) → get_or file i 0 < 256) → told r ≡ outcome file row points →
    now ≡ points_after (told r) file old → newer ≡ games_after (told r) file older →
    points ≤ length now → row ≤ length newer → IfOk r (λ s. Holds file s now newer)
held file row points (Ok s) old now older newer bytes e is_points is_games points_long row_long =
    let h = taken file row points s (sym e) in
    let both = taken_encodes file row points s bytes (sym e) in
    let same = same_read file old older in
    record {
      teams_there = rw h.0 (omega (arith, h.1.points_room));
      games_there = rw h.0 (omega (arith, h.1.row_room));
      within = rw (is_points, is_games, h.0) (within_same same both.0);
      encodes = rw (is_points, is_games, h.0) (sym (encoded_same same) ∙ both.1);
    }
held file row points (Err f) old now older newer bytes e is_points is_games points_long row_long = tt

pub exact :
    (file : List ℕ) (row points : ℕ) (r : Result Sizes Refusal) (now : List ℕ) (newer : List Game) →
    told r ≡ outcome file row points → IfOk r (λ s. Holds file s now newer) → Exact file r now newer
exact file row points (Ok s) now newer e h =
    let same = same_front s now newer h.teams_there in
    (within_same same h.within, sym (encoded_same same) ∙ h.encodes)
exact file row points (Err f) now newer e h = λ t w same.
    let here = e ∙ sym (ap (λ b. outcome b row points) same) ∙ (read_back t w row points).0 in
    only_memory (row_short (sizes_of t) row) (points_short (sizes_of t) points) _ _ _ here
