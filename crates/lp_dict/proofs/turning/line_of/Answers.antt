use Rattle.std.proofs.Common.{◌∙◌}
use Rattle.lp_dict.proofs.Parts.{are_there, are_apart, line_found}
use Rattle.lp_dict.proofs.turning.line_of.Goals as goal

pub line_of_parts-requires-clause-there : goal.line_of_parts-requires-clause-there
line_of_parts-requires-clause-there g c =
    are_there g.F.ExactField.value c.args.row.now c.args.width c.as_slice.result.now c.requires (c.as_slice.ensures.value ∙ c.in_ok-parts.ensures)

pub line_of_parts-requires-clause-apart : goal.line_of_parts-requires-clause-apart
line_of_parts-requires-clause-apart g c =
    are_apart g.F.ExactField.value c.args.row.now c.args.width c.as_slice.result.now c.requires (c.as_slice.ensures.value ∙ c.in_ok-parts.ensures)

pub returns : goal.returns
returns g c =
    line_found g.F.ExactField.value c.args.row.now c.args.width c.as_slice.result.now c.line_of_parts.result c.requires (c.as_slice.ensures.value ∙ c.in_ok-parts.ensures) c.line_of_parts.ensures.line c.line_of_parts.ensures.numbers
