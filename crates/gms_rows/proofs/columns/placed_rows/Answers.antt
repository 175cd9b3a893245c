use Rattle.std.proofs.Common.{◌≡◌, [], ◌∷◌, ◌++◌, map, take, length, true, refl, ap, sym, subst, ◌∙◌}
use Rattle.std.specs.List.{All}
use Rattle.std.proofs.lemmas.List.{take_all, map_push}
use Rattle.std.proofs.lemmas.List.Elements.{All-get_or}
use Rattle.gq_number.specs.Number.{neg_ℚ}
use Rattle.lp_form.specs.declared.key.Key.{Key}
use Rattle.lp_core.specs.WellFormed.{AreRowEntries}
use Rattle.lp_core.specs.declared.program.Row.{Row}
use Rattle.lp_core.specs.Numbers.{row_numbers}
use Rattle.gms_rows.specs.declared.form_row.FormRow.{FormRow}
use Rattle.gms_rows.specs.ProgramLp.{placed}
use Rattle.gms_rows.specs.InnerContracts.{form_row_in, is_among}
use Rattle.gms_rows.proofs.Placing.{placed-AreEntries, placed-row, placed-more_rows, All-push}
use Rattle.gms_rows.proofs.columns.placed_rows.Goals as goal

pub loop-row-preserved : goal.loop-row-preserved
loop-row-preserved g c =
    let v = g.F.ExactField.value in
    let columns = c.args.keys.now in
    let row = c.row-item.result in
    let there : All (λ (key : Key). is_among columns key ≡ true) row.form.keys = subst (λ (r : FormRow _). All (λ (key : Key). is_among columns key ≡ true) r.form.keys) (sym c.row-item.is) (All-get_or (λ (r : FormRow _). All (λ (key : Key). is_among columns key ≡ true) r.form.keys) c.args.rows.now c.loop-row.row-index row c.loop-row-test.true c.requires.there) in
    let formed = c.in_ok-entries_of.ensures.form in
    let entries = c.new.ensures ∙ c.in_ok-entries_of.ensures.entries in
    let made : Row _ = record { key = c.in_ok-copy.field-0; sense = row.sense; right = c.neg.result; entries = c.new.result } in (
      ap (map (row_numbers v)) c.in_ok-push.ensures.items ∙ map_push (row_numbers v) c.loop-row.placed.items made ∙ ap (λ rows. rows ++ row_numbers v made ∷ []) c.loop-row.invariant.0 ∙ ap (λ r. map (placed columns) (map (form_row_in v) (take c.loop-row.row-index c.args.rows.now)) ++ r ∷ []) (placed-row v columns row made c.in_ok-copy.ensures refl (c.neg.ensures ∙ ap (λ x. neg_ℚ (v x)) c.offset.ensures) entries formed) ∙ sym (placed-more_rows v columns c.args.rows.now c.loop-row.row-index row c.loop-row-test.true c.row-item.is),
      subst (All (λ (r : Row _). AreRowEntries v (length columns) r.entries)) (sym c.in_ok-push.ensures.items) (All-push (λ (r : Row _). AreRowEntries v (length columns) r.entries) c.loop-row.placed.items made c.loop-row.invariant.1 (subst (AreRowEntries v (length columns)) (sym entries) (placed-AreEntries columns c.requires.ordered v row.form.keys row.form.numbers formed.ordered formed.not_zero there))),
    )

pub returns-clause-rows : goal.returns-clause-rows
returns-clause-rows g c =
    c.loop-row.invariant.0 ∙ ap (λ rows. map (placed c.args.keys.now) (map (form_row_in g.F.ExactField.value) rows)) (take_all c.loop-row.row-index c.args.rows.now c.loop-row-test.false)

pub returns-clause-entries : goal.returns-clause-entries
returns-clause-entries g c = c.loop-row.invariant.1
