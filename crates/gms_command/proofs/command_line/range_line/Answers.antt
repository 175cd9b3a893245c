use Rattle.std.proofs.Common.{rules, option_map}
use Rattle.std.specs.Prelude.{codes, unwrap_or}
use Rattle.gms_command.proofs.PrintedLines.{nine_pieces, made_text}
use Rattle.gms_command.proofs.command_line.range_line.Goals as goal

pub returns : goal.returns
returns c =
    made_text c.format.result _ _ (nine_pieces (codes "  ") c.args.what.now (codes " ") c.args.element.now (codes " from ") (unwrap_or (option_map (λ text. text.now) c.args.low) (codes "-INF")) (codes " to ") (unwrap_or (option_map (λ text. text.now) c.args.high) (codes "+INF")) (codes "\n")) (search rules)
