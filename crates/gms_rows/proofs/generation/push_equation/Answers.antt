use Rattle.std.proofs.Common.{◌∙◌, map, sym, subst}
use Rattle.std.proofs.lemmas.List.Elements.{All-nil}
use Rattle.std.proofs.lemmas.Result.{on_ok_weaker}
use Rattle.gms_eval.proofs.Answering.{gives-same}
use Rattle.gms_rows.specs.InnerContracts.{definition_in, form_row_in, HaveOrder}
use Rattle.gms_rows.proofs.RowSequences.{equation-defined, equation-undefined}
use Rattle.gms_rows.proofs.generation.push_equation.Goals as goal

pub returns-in-Some-clause-rows : goal.returns-in-Some-clause-rows
returns-in-Some-clause-rows g c ds are =
    gives-same g.F.ExactField.value _ c.push_rows.result _ _ (equation-defined g.F.ExactField.value g.F.ExactField.limit c.args.store.now ds (map (form_row_in g.F.ExactField.value) c.args.rows.now.items) c.args.equation (definition_in c.in-Some.definition) (sym (are c.args.equation) ∙ c.in-Some.ensures)) c.push_rows.ensures.rows

pub returns-in-Some-clause-ordered : goal.returns-in-Some-clause-ordered
returns-in-Some-clause-ordered g c ds are =
    on_ok_weaker c.push_rows.result (subst (HaveOrder c.args.store.now) (sym (sym (are c.args.equation) ∙ c.in-Some.ensures))) c.push_rows.ensures.ordered

pub returns-in-None-clause-rows : goal.returns-in-None-clause-rows
returns-in-None-clause-rows g c ds are =
    equation-undefined g.F.ExactField.value g.F.ExactField.limit c.args.store.now ds (map (form_row_in g.F.ExactField.value) c.args.rows.now.items) c.args.equation (sym (are c.args.equation) ∙ c.in-None.ensures)

pub returns-in-None-clause-ordered : goal.returns-in-None-clause-ordered
returns-in-None-clause-ordered g c ds are =
    subst (HaveOrder c.args.store.now) (sym (sym (are c.args.equation) ∙ c.in-None.ensures)) (All-nil _)
