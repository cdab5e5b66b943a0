-- Refusals by number and place, and what an answer tells that may be a refusal.
use Rattle.std.specs.Prelude.{◌≡◌, ℕ, Bool, true, false, cond, Ok, Err, Result}
use Rattle.season.specs.declared.refusal.Lent.TheVariants.{Row, Points, Flow}
use Rattle.season.specs.declared.refusal.Refusal.{Refusal}
use Rattle.season.specs.declared.refusal.Refusal.TheVariants.{PlanTeams, TableTeams, FileEnds, PointsAbove, GamesLength}
use Rattle.season.specs.declared.refusal.Refusal.TheVariants.{NoSuchTeam, AgainstItself, AuditPlan, AuditEnding, MemoryShort}

-- the number of the rule that applies
abbrev pub number_of : Refusal → ℕ
number_of PlanTeams = 1
number_of TableTeams = 2
number_of (FileEnds at) = 3
number_of (PointsAbove at) = 4
number_of (GamesLength at) = 5
number_of (NoSuchTeam at) = 6
number_of (AgainstItself at) = 7
number_of (AuditPlan at) = 8
number_of (AuditEnding at) = 9
number_of (MemoryShort lent) = 10

-- the place where it applies
abbrev pub place_of : Refusal → ℕ
place_of PlanTeams = 0
place_of TableTeams = 0
place_of (FileEnds at) = at
place_of (PointsAbove at) = at
place_of (GamesLength at) = at
place_of (NoSuchTeam at) = at
place_of (AgainstItself at) = at
place_of (AuditPlan at) = at
place_of (AuditEnding at) = at
place_of (MemoryShort Row) = 0
place_of (MemoryShort Points) = 1
place_of (MemoryShort Flow) = 2

-- number and place tell refusals apart, so that a contract by them pins the refusal
abbrev pub ToldApart : Type 0
ToldApart = (e f : Refusal) → number_of e ≡ number_of f → place_of e ≡ place_of f → e ≡ f

-- an answer: what was asked for, or the number and the place of a refusal
pub data Told (A : Type 0) : Type 0 where
  given : A → Told A
  refused : ℕ → ℕ → Told A

-- what a function tells that answers or refuses
abbrev pub told : {A : Type 0} → Result A Refusal → Told A
told (Ok a) = given a
told (Err e) = refused (number_of e) (place_of e)

-- whether something was given
abbrev pub is_given : {A : Type 0} → Told A → Bool
is_given (given a) = true
is_given (refused number place) = false

-- one check of a list: refused where it applies, else what the checks after it tell
abbrev pub unless : {A : Type 0} → Bool → ℕ → ℕ → Told A → Told A
unless applies number place after = cond applies (refused number place) after

-- one answer after another: what the second tells of what was given, or the refusal of the first
abbrev pub and_then : {A B : Type 0} → Told A → (A → Told B) → Told B
and_then (given a) next = next a
and_then (refused number place) next = refused number place
