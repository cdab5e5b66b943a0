-- The matches of a sound table, one by one: each is of two different teams that are there.
use Rattle.std.proofs.Common.{ℕ, zero, suc, ◌<◌, Bool, true, false, ◌≢◌, List, [], ◌∷◌, length, get_or, arith}
use Rattle.season.specs.Plan.{pick}
use Rattle.season.specs.Table.{Match, Table, Sound}
use Rattle.standings.specs.Results.{is_result, unplayed}

-- a match of two different teams of n
abbrev pub FairMatch : ℕ → Match → Type 0
FairMatch n m = (m.host < n) × (m.guest < n) × (m.host ≢ m.guest)

abbrev pub Fair : ℕ → List Match → Type 0
Fair n [] = Unit {0}
Fair n (m ∷ ms) = FairMatch n m × Fair n ms

fair_at : (n : ℕ) (ms : List Match) → Fair n ms → (k : ℕ) (d : Match) → k < length ms → FairMatch n (get_or ms k d)
fair_at n [] f k d l = absurd (omega arith)
fair_at n (m ∷ ms) f zero d l = f.0
fair_at n (m ∷ ms) f (suc k) d l = fair_at n ms f.1 k d (omega arith)

fair_from : (n : ℕ) (ms : List Match) → ((k : ℕ) (d : Match) → k < length ms → FairMatch n (get_or ms k d)) → Fair n ms
fair_from n [] each = tt
fair_from n (m ∷ ms) each = (each zero m (omega arith), fair_from n ms (λ k d l. each (suc k) d (omega arith)))

pub fair : (t : Table) → Sound t → Fair t.teams t.left
fair t s = fair_from t.teams t.left s.inside

pub sound_from_fair : (t : Table) → Fair t.teams t.left → Sound t
sound_from_fair t f = record { inside = fair_at t.teams t.left f }

pub unplayed_fair : (n : ℕ) (ms : List Match) (xs : List ℕ) → Fair n ms → Fair n (unplayed ms xs)
unfolding unplayed
unplayed_fair n [] xs f = tt
unplayed_fair n (m ∷ ms) [] f = f
unplayed_fair n (m ∷ ms) (x ∷ xs) f = go (is_result x) f.0 (unplayed_fair n ms xs f.1)
  where
    go : (b : Bool) → FairMatch n m → Fair n (unplayed ms xs) → Fair n (pick b (unplayed ms xs) (m ∷ unplayed ms xs))
    go true here rest = rest
    go false here rest = (here, rest)
