use Rattle.std.proofs.Common.{refl}
use Rattle.gms_grammar.specs.declared.terminal.Terminal.TheVariants.{Not}
use Rattle.gms_parse.proofs.Ends.{after_within}
use Rattle.gms_parse.proofs.Conditions.{not_got, not_none}
use Rattle.gms_parse.proofs.reader.Reader.not.Goals as goal

pub returns-in-Some-clause-within : goal.returns-in-Some-clause-within
returns-in-Some-clause-within c = after_within Not c.requires.ready c.in-Some.ensures refl

pub returns-in-Some-clause-read : goal.returns-in-Some-clause-read
returns-in-Some-clause-read c limit tables read_state s = not_got s c.in-Some.ensures

pub returns-in-None-clause-read : goal.returns-in-None-clause-read
returns-in-None-clause-read c limit tables read_state s = not_none s c.in-None.ensures
