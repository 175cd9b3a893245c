use Rattle.std.proofs.Common.{◌∙◌}
use Rattle.gms_grammar.proofs.Tags.{same_tag}
use Rattle.gms_grammar.proofs.terminal.Terminal.is.Goals as goal

pub returns : goal.returns
returns c = c.eq.ensures ∙ same_tag c.args.self c.args.other
