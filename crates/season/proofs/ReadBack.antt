-- The file of a table within the limits passes every check, and the table read is that one.
use Rattle.std.proofs.Common.{◌≡◌, ℕ, suc, ◌+◌, ◌-◌, ◌*◌, ◌/◌, ◌%◌, ◌<◌, false, List, [], map, length, get_or, sym, refl, ap, ◌∙◌, subst, arith}
use Rattle.std.specs.List.{range_with_len}
use Rattle.std.proofs.lemmas.List.FromFn.{length-map-range_with_len, get_or-map-range_with_len, fill_by_all}
use Rattle.std.proofs.lemmas.List.{length-append, append-nil, drop_at}
use Rattle.std.proofs.lemmas.Bool.{le-ltb, lt-leb, ne_eqb, or_from}
use Rattle.season.specs.declared.game.Game.{Game}
use Rattle.season.specs.declared.table.Sizes.{Sizes}
use Rattle.season.specs.Bytes.{number_at, game_at}
use Rattle.season.specs.Encoding.{Within, Same, Holds, ReadBack, points_bytes, match_bytes, encoded}
use Rattle.season.specs.Encoding.{match_of, table_front, table_in, sizes_of}
use Rattle.season.specs.Reading.{outcome, checked, unless_short, points_in, games_in, sizes_in}
use Rattle.season.specs.Reading.{unserved, cut, above, wrong_length, absent, against_itself}
use Rattle.season.specs.Refused.{given}
use Rattle.season.specs.Table.{Match, Table}
use Rattle.season.proofs.Checks.{pass, pass_at}
use Rattle.season.proofs.Pairs.{length_pairs, pairs_even, pairs_odd}

abbrev none : Match
none = record { host = 0; guest = 0 }

module _ (t : Table) (w : Within t) where
  abbrev points_list : List ℕ
  points_list = map t.points (range_with_len 0 t.teams)

  length-points : length (points_bytes points_list) ≡ 2 * t.teams
  length-points = length_pairs (λ p. p % 256) (λ p. p / 256) points_list ∙ rw length-map-range_with_len

  length-file : length (encoded t) ≡ 1 + 2 * t.teams + 2 * length t.left
  length-file = rw length-append (omega (arith, length-points, length_pairs (λ m. m.host) (λ m. m.guest) t.left))

  sizes : sizes_in (encoded t) ≡ sizes_of t
  sizes =
      let e : (length (encoded t) - (1 + 2 * t.teams)) / 2 ≡ length t.left = omega (arith, length-file) in
      λ i. record { teams = t.teams; games = e i }

  games : games_in (encoded t) (sizes_of t) ≡ match_bytes t.left
  games =
      let s : 1 + 2 * t.teams ≡ suc (2 * t.teams) = omega arith in
      rw s (drop_at _ (match_bytes t.left) (2 * t.teams) length-points)

  points_at : (i : ℕ) → i < t.teams → number_at (points_in (encoded t)) i ≡ t.points i
  points_at i l =
      let long : i < length points_list = rw length-map-range_with_len l in
      let low = pairs_even (λ p. p % 256) (λ p. p / 256) points_list (match_bytes t.left) i 0 long in
      let high = pairs_odd (λ p. p % 256) (λ p. p / 256) points_list (match_bytes t.left) i 0 long in
      let here = get_or-map-range_with_len t.points 0 t.teams i i 0 l (omega arith) in
      omega (arith, low, high, here)

  abbrev game : ℕ → Game
  game k = game_at (games_in (encoded t) (sizes_of t)) k

  host_at : (k : ℕ) (d : Match) → k < length t.left → (game k).host ≡ (get_or t.left k d).host
  host_at k d l = rw games (rw append-nil at (pairs_even (λ m. m.host) (λ m. m.guest) t.left [] k d l))

  guest_at : (k : ℕ) (d : Match) → k < length t.left → (game k).guest ≡ (get_or t.left k d).guest
  guest_at k d l = rw games (rw append-nil at (pairs_odd (λ m. m.host) (λ m. m.guest) t.left [] k d l))

  not_unserved : unserved t.teams ≡ false
  not_unserved = or_from _ _ (le-ltb t.teams 2 w.not_few) (le-ltb 64 t.teams w.not_many)

  not_cut : cut (encoded t) (sizes_of t) ≡ false
  not_cut = le-ltb (length (encoded t)) (1 + 2 * t.teams) (omega (arith, length-file))

  not_above : (i : ℕ) → i < t.teams → above (points_in (encoded t)) i ≡ false
  not_above i l = le-ltb 1000 (number_at (points_in (encoded t)) i) (omega (arith, points_at i l, w.points_low i l))

  length_right : wrong_length (encoded t) (sizes_of t) ≡ false
  length_right =
      let even : (length (encoded t) - (1 + 2 * t.teams)) % 2 ≡ 0 = omega (arith, length-file) in
      or_from _ _ (ne_eqb _ 1 (omega (arith, even))) (le-ltb 1024 (length t.left) w.left_few)

  module _ (k : ℕ) (l : k < length t.left) where
    not_absent : absent (games_in (encoded t) (sizes_of t)) t.teams k ≡ false
    not_absent =
        let inside = w.sound.inside k none l in
        let host : (game k).host < t.teams = rw (host_at k none l) inside.0 in
        let guest : (game k).guest < t.teams = rw (guest_at k none l) inside.1 in
        or_from _ _ (lt-leb _ _ host) (lt-leb _ _ guest)

    not_against_itself : against_itself (games_in (encoded t) (sizes_of t)) k ≡ false
    not_against_itself = ne_eqb _ _ (rw (host_at k none l, guest_at k none l) (w.sound.inside k none l).2)

  passes : (row points : ℕ) → outcome (encoded t) row points ≡ unless_short (sizes_of t) row points (given (sizes_of t))
  passes row points =
      let s = sizes_of t in
      let rest = pass (cut (encoded t) s) 3 _ _ not_cut
      ∙ pass_at (above (points_in (encoded t))) t.teams 4 _ not_above
      ∙ pass (wrong_length (encoded t) s) 5 _ _ length_right
      ∙ pass_at (absent (games_in (encoded t) (sizes_of t)) t.teams) (length t.left) 6 _ not_absent
      ∙ pass_at (against_itself (games_in (encoded t) (sizes_of t))) (length t.left) 7 (given s) not_against_itself in
      ap (λ z. checked (encoded t) z row points) sizes
      ∙ pass (unserved t.teams) 2 0 _ not_unserved
      ∙ ap (unless_short s row points) rest

  same : Same t (table_in (encoded t))
  same =
      let count : length t.left ≡ (sizes_in (encoded t)).games = sym (ap (λ (s : Sizes). s.games) sizes) in
      let f : ℕ → Match = λ k. match_of (game k) in
      let read : (k : ℕ) → k < length t.left → get_or t.left k none ≡ f k =
      λ k l i. record { host = sym (host_at k none l) i; guest = sym (guest_at k none l) i } in
      record {
        teams = refl;
        points = λ i l. sym (points_at i l);
        left = fill_by_all f t.left (length t.left) none refl read ∙ ap (λ g. map f (range_with_len 0 g)) count;
      }

pub read_back : ReadBack
read_back t w row points = (passes t w row points, same t w)

-- the table with which lent memory begins is the table of the file
pub same_held :
    {file : List ℕ} {s : Sizes} {points : List ℕ} {row : List Game} → Holds file s points row →
    Same (table_front s points row) (table_in file)
same_held {file} {s} {points} {row} h =
    let t = table_front s points row in
    subst (λ bytes. Same t (table_in bytes)) h.encodes (read_back t h.within 0 0).1
