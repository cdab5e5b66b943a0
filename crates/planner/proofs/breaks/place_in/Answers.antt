use Rattle.std.proofs.Common.{◌≡◌, ℕ, length, nat_eq, get_or, rules, ap, ◌∙◌}
use Rattle.std.proofs.lemmas.List.{get_or_default}
use borrow.Author.Tests.{tests}
use Rattle.season.proofs.First.{Found, found_in_row, place_found}
use Rattle.planner.proofs.breaks.place_in.Goals as goal

pub returns : goal.returns
returns c =
    let round = c.args.round.now in
    let is_team = λ (b : ℕ). nat_eq b c.args.team in
    let found : Found (λ k. is_team (get_or round k 0)) (length round) c.position.result =
    found_in_row _ (λ b said. said ≡ is_team b) _ round c.position.ensures.ran (cc)
    (λ x b q k. search (rules, tests)) (λ k d b l said. said ∙ ap is_team (get_or_default round k d 0 l)) in
    c.unwrap_or.ensures ∙ place_found found
