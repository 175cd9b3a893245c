use Rattle.std.proofs.Common.{[], ◌∷◌, ◌++◌, take, ap, sym, subst, ◌∙◌}
use Rattle.std.specs.Prelude.{flat_map}
use Rattle.std.specs.List.{All}
use Rattle.std.proofs.lemmas.List.{take_all}
use Rattle.std.proofs.lemmas.List.Elements.{All-more}
use Rattle.lp_form.specs.Affine.{IsForm}
use Rattle.gms_rows.specs.ProgramLp.{ordered_keys}
use Rattle.gms_rows.specs.declared.form_row.FormRow.{FormRow}
use Rattle.gms_rows.proofs.ColumnKeys.{keys-more, keys-rows, ordered-is}
use Rattle.gms_rows.proofs.columns.keys_of.Goals as goal

pub loop-row-preserved : goal.loop-row-preserved
loop-row-preserved g c = (
  c.in_ok-push_keys.ensures ∙ ap (λ keys. keys ++ c.keys.result.now) c.loop-row.invariant.0 ∙ ap (λ keys. record { symbol = c.args.objective; tuple = [] } ∷ keys) (ap (λ keys. flat_map (λ row. row.form.keys) (take c.loop-row.row-index c.args.rows.now) ++ keys) c.keys.ensures.keys ∙ keys-more c.args.rows.now c.loop-row.row-index c.row-item.result c.loop-row-test.true c.row-item.is),
  All-more (λ row. IsForm g.F.ExactField.value row.form) c.args.rows.now c.loop-row.row-index c.row-item.result c.loop-row-test.true c.loop-row.invariant.1 (subst (λ (row : FormRow _). IsForm g.F.ExactField.value row.form) c.row-item.is c.keys.ensures.form),
)

pub returns-clause-keys : goal.returns-clause-keys
returns-clause-keys g c =
    let every = take_all c.loop-row.row-index c.args.rows.now c.loop-row-test.false in
    let forms = subst (All (λ row. IsForm g.F.ExactField.value row.form)) every c.loop-row.invariant.1 in
    let keys = c.loop-row.invariant.0 ∙ ap (λ rows. record { symbol = c.args.objective; tuple = [] } ∷ flat_map (λ row. row.form.keys) rows) every ∙ ap (λ keys. record { symbol = c.args.objective; tuple = [] } ∷ keys) (sym (keys-rows g.F.ExactField.value c.args.rows.now forms)) in
    let once = c.in_ok-order_once.ensures in
    ordered-is c.loop-row.keys.items _ once.ordered once.same ∙ ap ordered_keys keys

pub returns-clause-forms : goal.returns-clause-forms
returns-clause-forms g c =
    subst (All (λ row. IsForm g.F.ExactField.value row.form)) (take_all c.loop-row.row-index c.args.rows.now c.loop-row-test.false) c.loop-row.invariant.1
