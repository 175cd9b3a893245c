use Rattle.std.proofs.Common.{true, false, refl, sym, ap, ◌∙◌}
use Rattle.gms_grammar.specs.declared.terminal.Terminal.TheVariants.{Infinity, NotAvailable, YesNo}
use Rattle.gms_lex.specs.TokenTexts.{token_text}
use Rattle.gms_expressions.specs.InnerNodes.{view}
use Rattle.gms_ast.specs.Numbers.{in_numbers}
use Rattle.gms_expressions.proofs.Leaves.{tree_of-Number}
use Rattle.gms_expressions.proofs.Signs.{handed_on}
use Rattle.gms_expressions.proofs.Nexts.{refuses_lacking}
use Rattle.gms_expressions.proofs.Constants.{constant_got, constant_number, constant_refused, shows_word, tree_of-PlusInf, tree_of-Na, tree_of-Yes, tree_of-No}
use Rattle.gms_expressions.proofs.reader.Reader.constant.Goals as goal
use Rattle.gms_expressions.proofs.reader.Reader.constant.Goals.{in-Infinity, in-NotAvailable, in-YesNo, in-YesNo-2, in_default+in_ok-value-in_default}

pub returns-in_err-token : goal.returns-in_err-token
returns-in_err-token g c tables = handed_on _ _ c.from_residual.result _ c.from_residual.ensures.1 (refuses_lacking c.in_err-token.ensures)

pub returns-in_err-value-in_default : goal.returns-in_err-value-in_default
returns-in_err-value-in_default g c tables = handed_on _ _ c.from_residual-in_err-value-in_default.result _ c.from_residual-in_err-value-in_default.ensures.1
    (constant_refused tables c.next.result c.next.ensures c.in_ok-token.ensures c.in_default.not-Infinity c.in_default.not-NotAvailable c.in_default.not-YesNo c.in_err-value-in_default.ensures)

pub returns : goal.returns
returns g c tables =
    elim c.match-next.branch [
      | in-Infinity w ↦ constant_got tables c.next.result c.next.ensures c.in_ok-token.ensures Infinity w.in-Infinity.is refl c.match-next.constant (λ x. ap (view g.F.ExactField.value) w.constant-is ∙ ap (in_numbers g.F.ExactField.value) tree_of-PlusInf)
      | in-NotAvailable w ↦ constant_got tables c.next.result c.next.ensures c.in_ok-token.ensures NotAvailable w.in-NotAvailable.is refl c.match-next.constant (λ x. ap (view g.F.ExactField.value) w.constant-is ∙ ap (in_numbers g.F.ExactField.value) tree_of-Na)
      | in-YesNo w ↦ constant_got tables c.next.result c.next.ensures c.in_ok-token.ensures YesNo w.in-YesNo.is refl c.match-next.constant
          (λ x. ap (view g.F.ExactField.value) w.constant-is ∙ ap (in_numbers g.F.ExactField.value) tree_of-Yes ∙ sym (shows_word w.text.result.now (token_text c.args.self.now.source.now c.in_ok-token.token) w.is_yes.result true x w.text.ensures w.is_yes.ensures w.if-is_yes.true))
      | in-YesNo-2 w ↦ constant_got tables c.next.result c.next.ensures c.in_ok-token.ensures YesNo w.in-YesNo.is refl c.match-next.constant
          (λ x. ap (view g.F.ExactField.value) w.constant-is ∙ ap (in_numbers g.F.ExactField.value) tree_of-No ∙ sym (shows_word w.text.result.now (token_text c.args.self.now.source.now c.in_ok-token.token) w.is_yes.result false x w.text.ensures w.is_yes.ensures w.if-is_yes.false))
      | in_default+in_ok-value-in_default w ↦ constant_number tables c.next.result c.next.ensures c.in_ok-token.ensures w.in_default.not-Infinity w.in_default.not-NotAvailable w.in_default.not-YesNo w.in_ok-value-in_default.field-0 w.in_ok-value-in_default.ensures c.match-next.constant
          (ap (view g.F.ExactField.value) w.constant-is ∙ ap (in_numbers g.F.ExactField.value) (tree_of-Number w.in_ok-value-in_default.field-0))
    ]
