-- The refusal of a number and a place, by which refusals are told apart.
use Rattle.std.proofs.Common.{◌≡◌, ℕ, cond, eqb, sym, refl, ap, ◌∙◌}
use Rattle.season.specs.declared.refusal.Lent.{Lent}
use Rattle.season.specs.declared.refusal.Lent.TheVariants.{Row, Points, Flow}
use Rattle.season.specs.declared.refusal.Refusal.{Refusal}
use Rattle.season.specs.declared.refusal.Refusal.TheVariants.{PlanTeams, TableTeams, FileEnds, PointsAbove, GamesLength}
use Rattle.season.specs.declared.refusal.Refusal.TheVariants.{NoSuchTeam, AgainstItself, AuditPlan, AuditEnding, MemoryShort}
use Rattle.season.specs.Refused.{number_of, place_of, ToldApart}

abbrev lent_at : ℕ → Lent
lent_at place = cond (eqb place 0) Row (cond (eqb place 1) Points Flow)

abbrev refusal_at : ℕ → ℕ → Refusal
refusal_at number at =
    cond (eqb number 1) PlanTeams
    (cond (eqb number 2) TableTeams
    (cond (eqb number 3) (FileEnds at)
    (cond (eqb number 4) (PointsAbove at)
    (cond (eqb number 5) (GamesLength at)
    (cond (eqb number 6) (NoSuchTeam at)
    (cond (eqb number 7) (AgainstItself at)
    (cond (eqb number 8) (AuditPlan at)
    (cond (eqb number 9) (AuditEnding at)
    (MemoryShort (lent_at at))))))))))

is_at : (e : Refusal) → e ≡ refusal_at (number_of e) (place_of e)
is_at PlanTeams = refl
is_at TableTeams = refl
is_at (FileEnds at) = refl
is_at (PointsAbove at) = refl
is_at (GamesLength at) = refl
is_at (NoSuchTeam at) = refl
is_at (AgainstItself at) = refl
is_at (AuditPlan at) = refl
is_at (AuditEnding at) = refl
is_at (MemoryShort Row) = refl
is_at (MemoryShort Points) = refl
is_at (MemoryShort Flow) = refl

pub told_apart : ToldApart
told_apart e f numbers places =
    is_at e
    ∙ ap (λ n. refusal_at n (place_of e)) numbers
    ∙ ap (λ p. refusal_at (number_of f) p) places
    ∙ sym (is_at f)
