-- Without a keyword no statement begins.
use Rattle.std.proofs.Common.{take, sym, ap, ◌∙◌}
use Rattle.std.proofs.lemmas.Bool.{and_left}
use Rattle.std.specs.Prelude.{is_some}
use Rattle.gms_lex.specs.Keywords.{keyword_of}
use Rattle.gms_lex.proofs.keyword.begins_statement.Goals as goal

pub returns-else-is_some : goal.returns-else-is_some
returns-else-is_some c =
    let none =
    ap (λ n. is_some (keyword_of (take n c.args.text.now))) (sym c.label_length-length.ensures.value) ∙ ap is_some (sym c.keyword_of.ensures) ∙ sym c.is_some.ensures ∙ c.if-is_some.false in
    c.if-is_some.false ∙ sym (and_left _ _ none)
