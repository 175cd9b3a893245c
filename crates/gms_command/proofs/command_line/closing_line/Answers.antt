use Rattle.std.proofs.Common.{rules}
use Rattle.std.specs.Prelude.{codes, decimal}
use Rattle.gms_command.proofs.PrintedLines.{seven_pieces, made_text}
use Rattle.gms_command.proofs.command_line.closing_line.Goals as goal

pub returns : goal.returns
returns c =
    made_text c.format.result _ _ (seven_pieces (codes "status ") (decimal c.args.status) (codes ", solves ") (decimal c.args.solves) (codes ", output ") c.args.output.now (codes "\n")) (search rules)
