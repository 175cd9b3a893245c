use Rattle.std.proofs.Common.{◌∙◌}
use Rattle.gms_grammar.proofs.Tags.{tag_among}
use Rattle.gms_grammar.proofs.terminal.Terminal.is_among.Goals as goal

pub returns : goal.returns
returns c = c.contains.ensures.value ∙ tag_among c.args.self c.args.kinds.now
