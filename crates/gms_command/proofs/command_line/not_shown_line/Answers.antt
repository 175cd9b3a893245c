use Rattle.std.proofs.Common.{◌∙◌, ◌++◌, sym, append_assoc, rules}
use Rattle.std.specs.Prelude.{codes}
use Rattle.gms_command.proofs.PrintedLines.{five_pieces, made_text}
use Rattle.gms_command.proofs.command_line.not_shown_line.Goals as goal

pub returns : goal.returns
returns c =
    let before = codes "  " ++ c.args.what.now ++ codes " " ++ c.args.element.now in
    made_text c.format.result _ _ (five_pieces (codes "  ") c.args.what.now (codes " ") c.args.element.now (codes " not shown\n") ∙ sym (append_assoc before (codes " not shown") (codes "\n"))) (search rules)
