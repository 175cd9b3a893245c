use Rattle.std.proofs.Common.{sym, ap, ◌∙◌, subst}
use Rattle.std.specs.Str.{IsAscii}
use Rattle.gms_lex.specs.TokenTexts.{unquoted}
use Rattle.gms_parse.proofs.Ranges.{label_spelled}
use Rattle.gms_parse.proofs.reader.Reader.label_text.Goals as goal

pub text-requires : goal.text-requires
text-requires c = c.requires.placed

pub ascii-requires : goal.ascii-requires
ascii-requires c = subst IsAscii (sym (c.unquoted.ensures ∙ ap unquoted c.text.ensures)) (label_spelled c.requires).0
