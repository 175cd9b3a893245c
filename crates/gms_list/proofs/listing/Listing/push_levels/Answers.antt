use Rattle.std.proofs.Common.{◌∙◌, ◌++◌, ap, sym, refl}
use Rattle.std.proofs.lemmas.List.{append-nil}
use Rattle.lp_core.specs.Numbers.{lp_numbers, end_numbers}
use Rattle.gms_list.specs.SolveText.{solution_text, solution_of}
use Rattle.gms_list.proofs.AppendedPieces.{reshaped}
use Rattle.gms_list.proofs.SolveLines.{levels_shown, levels_missing}
use Rattle.gms_list.proofs.listing.Listing.push_levels.Goals as goal

pub returns-in-Some : goal.returns-in-Some
returns-in-Some g c =
    reshaped _ _ _ _ c.push_solution.result
    (levels_shown g.F.ExactField.value (solution_text c.args.p.now.names c.args.p.now.labels g.F.ExactField.limit (lp_numbers g.F.ExactField.value c.args.s.now.lp.now) c.args.s.now.equations.now) c.args.s.now.settings.solprint c.solution.result (solution_of c.args.s.now.lp.now.objective (end_numbers g.F.ExactField.value c.args.end.now)) c.in-Some.solution c.if-not-s.false c.solution.ensures c.in-Some.is)
    c.push_solution.ensures

pub returns-in-None : goal.returns-in-None
returns-in-None g c =
    sym (append-nil c.args.self.now)
    ∙ ap (λ t. c.args.self.now ++ t) (levels_missing g.F.ExactField.value (solution_text c.args.p.now.names c.args.p.now.labels g.F.ExactField.limit (lp_numbers g.F.ExactField.value c.args.s.now.lp.now) c.args.s.now.equations.now) c.args.s.now.settings.solprint c.solution.result (solution_of c.args.s.now.lp.now.objective (end_numbers g.F.ExactField.value c.args.end.now)) refl c.if-not-s.false c.solution.ensures c.in-None.is)
