use Rattle.std.proofs.Common.{rules}
use Rattle.std.specs.Prelude.{codes, decimal}
use Rattle.gms_command.proofs.PrintedLines.{eleven_pieces, made_text}
use Rattle.gms_command.proofs.command_line.generated_line.Goals as goal

pub returns : goal.returns
returns c =
    made_text c.format.result _ _ (eleven_pieces (codes "generated ") (decimal c.args.size) (codes " by ") (decimal c.args.size) (codes ", model status ") (decimal c.args.model_status) (codes ", objective ") c.args.objective.now (codes ", pivots ") (decimal c.args.pivots) (codes "\n")) (search rules)
