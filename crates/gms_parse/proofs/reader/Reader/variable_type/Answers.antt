use Rattle.std.proofs.Common.{ap, ◌∙◌}
use Rattle.gms_parse.specs.Declarations.{variable_kind}
use Rattle.gms_parse.proofs.Declarations.{type_got, type_none}
use Rattle.gms_parse.proofs.reader.Reader.variable_type.Goals as goal

pub returns-in-Some : goal.returns-in-Some
returns-in-Some c limit tables read_state h = type_got c.variable_kind.result c.in-Some.ensures (c.variable_kind.ensures ∙ ap variable_kind c.text.ensures) h

pub returns-in-None : goal.returns-in-None
returns-in-None c limit tables read_state h = type_none c.in-None.ensures h
