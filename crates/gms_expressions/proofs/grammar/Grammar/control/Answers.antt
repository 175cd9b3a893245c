use Rattle.std.proofs.Common.{refl, sym, ap, ◌∙◌, arith}
use Rattle.gms_grammar.specs.GamsGrammar.{Control}
use Rattle.gms_ast.specs.Trees.{over, over_where}
use Rattle.gms_expressions.specs.InnerNodes.{view}
use Rattle.gms_ast.specs.Numbers.{control_in_numbers}
use Rattle.gms_expressions.specs.InnerReadings.{seen_from}
use Rattle.gms_expressions.proofs.Signs.{handed_on}
use Rattle.gms_expressions.proofs.Steps.{refuses_the, refuses_first, refuses_second, refuses_some, refuses_memory}
use Rattle.gms_expressions.proofs.Sums.{leads_condition}
use Rattle.gms_expressions.proofs.Grows.{none_led}
use Rattle.gms_expressions.proofs.Alternatives.{control_alone, control_got, over_alone, over_with}
use Rattle.gms_expressions.proofs.Extending.{went_then, went_by}
use Rattle.gms_expressions.proofs.grammar.Grammar.control.Goals as goal

pub nested-requires : goal.nested-requires
nested-requires g c = c.requires.callable c.args.self.now.reader.unclosed _ _ _ _ (omega arith) c.requires.ready.few

pub returns-in_err-sets : goal.returns-in_err-sets
returns-in_err-sets g c = handed_on _ _ c.from_residual.result _ c.from_residual.ensures.1 (refuses_the Control (refuses_first (c.in_err-sets.ensures g.F.ExactField.limit)))

pub returns-then-not-is_next : goal.returns-then-not-is_next
returns-then-not-is_next g c = control_alone g.F.ExactField.value _ (c.in_ok-sets.ensures g.F.ExactField.limit) (none_led c.is_next.ensures c.if-not-is_next.true) (over_alone c.new-sets.result ∙ ap over c.new-sets.ensures)

pub returns-in_err-condition : goal.returns-in_err-condition
returns-in_err-condition g c = handed_on _ _ c.from_residual-in_err-condition.result _ c.from_residual-in_err-condition.ensures.1
    (refuses_the Control (refuses_second (c.in_ok-sets.ensures g.F.ExactField.limit).gives (refuses_some (leads_condition (seen_from c.args.self.now.reader c.in_ok-sets.next) ∙ sym c.is_next.ensures ∙ c.if-not-is_next.false)
    (c.requires.reads c.args.self.now.reader.unclosed _ _ _ _ _ _ (omega arith) c.requires.ready.few c.in_err-condition.ensures))))

pub returns-in_err-new : goal.returns-in_err-new
returns-in_err-new g c = handed_on _ _ c.from_residual-in_err-new.result _ c.from_residual-in_err-new.ensures.1 (refuses_memory (went_then (c.in_ok-sets.ensures g.F.ExactField.limit).gives (went_by (c.requires.reads c.args.self.now.reader.unclosed _ _ _ _ _ _ (omega arith) c.requires.ready.few c.in_ok-condition.ensures).gives)) refl)

pub returns : goal.returns
returns g c = control_got g.F.ExactField.value _ (c.in_ok-sets.ensures g.F.ExactField.limit) (sym c.is_next.ensures ∙ c.if-not-is_next.false)
    (c.requires.reads c.args.self.now.reader.unclosed _ _ _ _ _ _ (omega arith) c.requires.ready.few c.in_ok-condition.ensures)
    (ap (control_in_numbers g.F.ExactField.value) (over_with c.new-sets.result c.in_ok-new.field-0) ∙ ap (λ s. over_where s (view g.F.ExactField.value c.in_ok-new.field-0.value)) c.new-sets.ensures ∙ ap (λ e. over_where c.in_ok-sets.sets.items (view g.F.ExactField.value e)) c.in_ok-new.ensures.ok)
