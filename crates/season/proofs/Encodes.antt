-- A file that is taken is the file of the table that is read, and that table is within the limits.
use Rattle.std.proofs.Common.{◌≡◌, ℕ, ◌+◌, ◌*◌, ◌/◌, ◌%◌, ◌<◌, ◌≤◌, List, map, length, get_or, take, sym, refl, ◌∙◌, arith}
use Rattle.std.specs.List.{range_with_len}
use Rattle.std.proofs.lemmas.List.FromFn.{length-map-range_with_len, get_or-map-range_with_len}
use Rattle.std.proofs.lemmas.List.{length-drop, get_or-drop, drop-drop, drop_more, take_all, take-append-drop}
use Rattle.season.specs.Bytes.{number_at, game_at}
use Rattle.season.specs.Encoding.{Within, TakenEncodes, points_bytes, match_bytes, encoded, match_of, table_in}
use Rattle.season.specs.Reading.{teams_in, points_in, sizes_in}
use Rattle.season.specs.Table.{Match}
use Rattle.season.proofs.Pairs.{pairs_read}
use Rattle.season.proofs.Taken.{Taken, taken, games_of}

module _ {file : List ℕ} {row points : ℕ} (h : Taken file row points) where
  left_at : (k : ℕ) (d : Match) → k < (sizes_in file).games → get_or (table_in file).left k d ≡ match_of (game_at (games_of file) k)
  left_at k d l = get_or-map-range_with_len (λ i. match_of (game_at (games_of file) i)) 0 (sizes_in file).games k k d l (omega arith)

  length-left : length (table_in file).left ≡ (sizes_in file).games
  length-left = length-map-range_with_len (λ i. match_of (game_at (games_of file) i)) 0 (sizes_in file).games

  pub within : Within (table_in file)
  within = record {
    not_few = h.two;
    not_many = h.sixty_four;
    points_low = h.low;
    left_few = rw length-left h.few;
    sound = record {
      inside = λ k d l.
          let k_there : k < (sizes_in file).games = rw length-left at l in
          rw (left_at k d k_there) (h.host_there k k_there, h.guest_there k k_there, h.apart k k_there);
    };
  }

  module _ (bytes : (i : ℕ) → get_or file i 0 < 256) where
    points_written :
        points_bytes (map (table_in file).points (range_with_len 0 (teams_in file)))
        ≡ take (2 * teams_in file) (points_in file)
    points_written =
        let byte : (i : ℕ) → get_or (points_in file) i 0 < 256 = λ i. rw (get_or-drop 1 file i 0) (bytes (1 + i)) in
        let long : 2 * teams_in file ≤ length (points_in file) = rw (length-drop 1 file) (omega (arith, h.whole)) in
        pairs_read (λ p. p % 256) (λ p. p / 256) (number_at (points_in file)) (points_in file) (teams_in file)
        (λ k. omega (arith, byte (2 * k))) (λ k. omega (arith, byte (2 * k))) long

    games_written : match_bytes (table_in file).left ≡ games_of file
    games_written =
        let long : length (games_of file) ≡ 2 * (sizes_in file).games =
        rw (length-drop (1 + 2 * teams_in file) file) (omega (arith, h.whole)) in
        let read = pairs_read (λ m. m.host) (λ m. m.guest)
        (λ k. match_of (game_at (games_of file) k)) (games_of file) (sizes_in file).games
        (λ k. refl) (λ k. refl) (omega (arith, long)) in
        let all = take_all (2 * (sizes_in file).games) (games_of file) (omega (arith, long)) in
        read ∙ all

    pub written_back : encoded (table_in file) ≡ file
    written_back =
        let head = drop_more file 0 0 (omega (arith, h.whole)) in
        let split = drop-drop (2 * teams_in file) 1 file in
        rw (points_written, games_written, ← split, take-append-drop) (sym head)

pub taken_encodes : TakenEncodes
taken_encodes file row points s bytes e =
    let h = (taken file row points s e).1 in (within h, written_back h bytes)
