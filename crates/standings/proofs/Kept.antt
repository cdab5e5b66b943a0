-- A loop that moves the games without a result to the front.
use Rattle.std.proofs.Common.{◌≡◌, ℕ, ◌+◌, ◌<◌, ◌≤◌, true, false, List, [], ◌∷◌, ◌++◌, map, length, get_or, take, drop, set, sym, refl, ap, ◌∙◌, append-nil, arith}
use Rattle.std.proofs.lemmas.List.{length-map, length_push, map_push}
use Rattle.season.proofs.Fronts.{front_more, past_front}
use Rattle.season.specs.declared.game.Game.{Game}
use Rattle.season.specs.Encoding.{match_of}
use Rattle.season.specs.Table.{Match}
use Rattle.standings.proofs.Matches.{few_before, unplayed_few, unplayed_turn}
use Rattle.standings.specs.Results.{byte_beside, game_of, is_result, unplayed}

-- what is read past the end of a row of games
abbrev blank : Game
blank = record { host = 0; guest = 0 }

-- the first k games of a row that have no result
abbrev pub left_before : List Game → List ℕ → ℕ → List Match
left_before old xs k = unplayed (map match_of (take k old)) xs

-- after k turns those games stand in front, and behind them what stood there
pub record Kept (old : List Game) (xs : List ℕ) (k left : ℕ) (games : List Game) : Type 0 where
  pub count : left ≡ length (left_before old xs k)
  pub row : games ≡ map game_of (left_before old xs k) ++ drop left old

pub kept_none : (old : List Game) (xs : List ℕ) → Kept old xs 0 0 old
unfolding unplayed
kept_none old xs = record { count = refl; row = refl }

module _ {old : List Game} {xs : List ℕ} {k left : ℕ} {games : List Game} (so_far : Kept old xs k left games) where
  pub kept_few : left ≤ k
  kept_few = omega (arith, unplayed_few (map match_of (take k old)) xs, few_before old k, so_far.count)

  module _ (l : k < length old) where
    abbrev here : Match
    here = match_of (get_or old k blank)

    pub kept_played : is_result (byte_beside xs k) ≡ true → Kept old xs (k + 1) left games
    kept_played played =
        let same : left_before old xs (k + 1) ≡ left_before old xs k =
        unplayed_turn old k blank l xs ∙ rw played (append-nil _) in
        record { count = rw same so_far.count; row = rw same so_far.row }

    pub kept_left :
        is_result (byte_beside xs k) ≡ false →
        Kept old xs (k + 1) (left + 1) (set games left (get_or games k blank))
    kept_left not_played =
        let more : left_before old xs (k + 1) ≡ left_before old xs k ++ here ∷ [] =
        unplayed_turn old k blank l xs ∙ rw not_played refl in
        let front = map game_of (left_before old xs k) in
        let long : length front ≡ left = length-map (left_before old xs k) game_of ∙ sym so_far.count in
        let read : get_or games k blank ≡ game_of here =
        rw so_far.row (past_front front old left long k blank kept_few) in
        record {
          count = rw (more, length_push) (ap (λ n. n + 1) so_far.count);
          row = rw (more, map_push, read, so_far.row) (front_more front old left long (game_of here) (omega (arith, kept_few)));
        }
