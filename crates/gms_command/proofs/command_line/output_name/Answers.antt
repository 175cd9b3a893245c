use Rattle.std.proofs.Common.{◌≡◌, ◌-◌, false, drop, length, rules}
use Rattle.std.specs.Prelude.{codes}
use Rattle.std.specs.Str.{bytes_eq}
use Rattle.gms_command.proofs.PrintedLines.{lacks_ending}
use Rattle.gms_command.proofs.command_line.output_name.Goals as goal

pub returns-in-None : goal.returns-in-None
returns-in-None c =
    let e : bytes_eq (drop (length c.args.file.now - 4) c.args.file.now) (codes ".gms") ≡ false = lacks_ending c.args.file.now (codes ".gms") (length c.args.file.now - 4) c.in-None.ensures.cases in
    rw e (search rules)
