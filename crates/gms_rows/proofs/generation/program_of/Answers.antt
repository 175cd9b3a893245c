use Rattle.std.proofs.Common.{[], map, length, Ok, refl, sym, ap, subst, ◌∙◌}
use Rattle.std.specs.List.{All}
use Rattle.gms_eval.proofs.Answering.{handed_on}
use Rattle.lp_core.specs.Numbers.{column_numbers, row_numbers, lp_numbers}
use Rattle.lp_core.specs.WellFormed.{AreRowEntries}
use Rattle.lp_core.specs.declared.program.Row.{Row}
use Rattle.gms_rows.specs.ProgramLp.{column_of, place_of_key, program_of, sized_program}
use Rattle.gms_rows.specs.InnerContracts.{form_row_in, is_among}
use Rattle.gms_rows.proofs.Programs.{keys-up, objective-there, rows-there, keys-few, program-rows, program-columns, program-shown, program-formed}
use Rattle.gms_rows.proofs.generation.program_of.Goals as goal

pub returns-in_err-check_size-clause-program : goal.returns-in_err-check_size-clause-program
returns-in_err-check_size-clause-program g c =
    handed_on g.F.ExactField.value (lp_numbers g.F.ExactField.value) c.from_residual-in_err-check_size.result c.in_err-check_size.field-0.0 (sized_program c.args.at (program_of c.args.store.now (map (form_row_in g.F.ExactField.value) c.args.rows.now) (record { symbol = c.args.objective; tuple = [] }) c.args.maximize)) c.from_residual-in_err-check_size.ensures.1 (c.in_err-check_size.ensures.stop (program_of c.args.store.now (map (form_row_in g.F.ExactField.value) c.args.rows.now) (record { symbol = c.args.objective; tuple = [] }) c.args.maximize) (program-rows g.F.ExactField.value c.args.store.now c.args.rows.now (record { symbol = c.args.objective; tuple = [] }) c.deref.result.now (c.deref.ensures.value ∙ c.in_ok-keys.ensures.keys) c.deref-2.result.now (ap (map (column_numbers g.F.ExactField.value)) c.deref-2.ensures.value ∙ c.in_ok-columns.ensures) c.args.maximize) (program-columns g.F.ExactField.value c.args.store.now c.args.rows.now (record { symbol = c.args.objective; tuple = [] }) c.deref.result.now (c.deref.ensures.value ∙ c.in_ok-keys.ensures.keys) c.deref-2.result.now (ap (map (column_numbers g.F.ExactField.value)) c.deref-2.ensures.value ∙ c.in_ok-columns.ensures) c.args.maximize))

pub placed_rows-requires-clause-ordered : goal.placed_rows-requires-clause-ordered
placed_rows-requires-clause-ordered g c = keys-up g.F.ExactField.value c.args.store.now c.args.rows.now (record { symbol = c.args.objective; tuple = [] }) c.deref-3.result.now (c.deref-3.ensures.value ∙ c.in_ok-keys.ensures.keys)

pub placed_rows-requires-clause-there : goal.placed_rows-requires-clause-there
placed_rows-requires-clause-there g c = rows-there g.F.ExactField.value c.args.store.now c.args.rows.now (record { symbol = c.args.objective; tuple = [] }) c.deref-3.result.now (c.deref-3.ensures.value ∙ c.in_ok-keys.ensures.keys) c.in_ok-keys.ensures.forms

pub placed_rows-requires-clause-few : goal.placed_rows-requires-clause-few
placed_rows-requires-clause-few g c = keys-few g.F.ExactField.value c.args.store.now c.args.rows.now (record { symbol = c.args.objective; tuple = [] }) c.deref-3.result.now (c.deref-3.ensures.value ∙ c.in_ok-keys.ensures.keys) c.deref-2.result.now (ap (map (column_numbers g.F.ExactField.value)) c.deref-2.ensures.value ∙ c.in_ok-columns.ensures ∙ ap (map (column_of c.args.store.now)) (c.deref.ensures.value ∙ sym c.deref-3.ensures.value)) c.args.maximize c.in_ok-check_size.ensures.columns

pub place_of-place-requires-clause-ordered : goal.place_of-place-requires-clause-ordered
place_of-place-requires-clause-ordered g c = keys-up g.F.ExactField.value c.args.store.now c.args.rows.now (record { symbol = c.args.objective; tuple = [] }) c.deref-4.result.now (c.deref-4.ensures.value ∙ c.in_ok-keys.ensures.keys)

pub place_of-place-requires-clause-there : goal.place_of-place-requires-clause-there
place_of-place-requires-clause-there g c =
    ap (is_among c.deref-4.result.now) (λ i. record { symbol = c.args.objective; tuple = c.new.ensures i }) ∙ objective-there g.F.ExactField.value c.args.store.now c.args.rows.now (record { symbol = c.args.objective; tuple = [] }) c.deref-4.result.now (c.deref-4.ensures.value ∙ c.in_ok-keys.ensures.keys)

pub place_of-place-requires-clause-few : goal.place_of-place-requires-clause-few
place_of-place-requires-clause-few g c = keys-few g.F.ExactField.value c.args.store.now c.args.rows.now (record { symbol = c.args.objective; tuple = [] }) c.deref-4.result.now (c.deref-4.ensures.value ∙ c.in_ok-keys.ensures.keys) c.deref-2.result.now (ap (map (column_numbers g.F.ExactField.value)) c.deref-2.ensures.value ∙ c.in_ok-columns.ensures ∙ ap (map (column_of c.args.store.now)) (c.deref.ensures.value ∙ sym c.deref-4.ensures.value)) c.args.maximize c.in_ok-check_size.ensures.columns

pub returns-clause-program : goal.returns-clause-program
returns-clause-program g c =
    c.in_ok-check_size.ensures.stop (program_of c.args.store.now (map (form_row_in g.F.ExactField.value) c.args.rows.now) (record { symbol = c.args.objective; tuple = [] }) c.args.maximize) (program-rows g.F.ExactField.value c.args.store.now c.args.rows.now (record { symbol = c.args.objective; tuple = [] }) c.deref-3.result.now (c.deref-3.ensures.value ∙ c.in_ok-keys.ensures.keys) c.deref-2.result.now (ap (map (column_numbers g.F.ExactField.value)) c.deref-2.ensures.value ∙ c.in_ok-columns.ensures ∙ ap (map (column_of c.args.store.now)) (c.deref.ensures.value ∙ sym c.deref-3.ensures.value)) c.args.maximize) (program-columns g.F.ExactField.value c.args.store.now c.args.rows.now (record { symbol = c.args.objective; tuple = [] }) c.deref-3.result.now (c.deref-3.ensures.value ∙ c.in_ok-keys.ensures.keys) c.deref-2.result.now (ap (map (column_numbers g.F.ExactField.value)) c.deref-2.ensures.value ∙ c.in_ok-columns.ensures ∙ ap (map (column_of c.args.store.now)) (c.deref.ensures.value ∙ sym c.deref-3.ensures.value)) c.args.maximize)
    ∙ ap Ok (program-shown g.F.ExactField.value c.args.store.now c.args.rows.now (record { symbol = c.args.objective; tuple = [] }) c.deref-3.result.now (c.deref-3.ensures.value ∙ c.in_ok-keys.ensures.keys) c.deref-2.result.now (ap (map (column_numbers g.F.ExactField.value)) c.deref-2.ensures.value ∙ c.in_ok-columns.ensures ∙ ap (map (column_of c.args.store.now)) (c.deref.ensures.value ∙ sym c.deref-3.ensures.value)) c.args.maximize (record { columns = c.new-2.result; rows = c.new-3.result; objective = c.place_of-place.result; maximize = c.args.maximize }) (c.new-2.ensures ∙ sym c.deref-2.ensures.value) (ap (map (row_numbers g.F.ExactField.value)) c.new-3.ensures ∙ c.in_ok-placed.ensures.rows) (c.place_of-place.ensures ∙ ap (place_of_key c.deref-4.result.now) (λ i. record { symbol = c.args.objective; tuple = c.new.ensures i }) ∙ ap (λ ks. place_of_key ks (record { symbol = c.args.objective; tuple = [] })) (c.deref-4.ensures.value ∙ sym c.deref-3.ensures.value)) refl)

pub returns-clause-formed : goal.returns-clause-formed
returns-clause-formed g c differ =
    program-formed g.F.ExactField.value c.args.store.now c.args.rows.now (record { symbol = c.args.objective; tuple = [] }) c.deref-3.result.now (c.deref-3.ensures.value ∙ c.in_ok-keys.ensures.keys) c.deref-2.result.now (ap (map (column_numbers g.F.ExactField.value)) c.deref-2.ensures.value ∙ c.in_ok-columns.ensures ∙ ap (map (column_of c.args.store.now)) (c.deref.ensures.value ∙ sym c.deref-3.ensures.value)) c.args.maximize (record { columns = c.new-2.result; rows = c.new-3.result; objective = c.place_of-place.result; maximize = c.args.maximize }) (c.new-2.ensures ∙ sym c.deref-2.ensures.value) (ap (map (row_numbers g.F.ExactField.value)) c.new-3.ensures ∙ c.in_ok-placed.ensures.rows) (c.place_of-place.ensures ∙ ap (place_of_key c.deref-4.result.now) (λ i. record { symbol = c.args.objective; tuple = c.new.ensures i }) ∙ ap (λ ks. place_of_key ks (record { symbol = c.args.objective; tuple = [] })) (c.deref-4.ensures.value ∙ sym c.deref-3.ensures.value)) refl differ (subst (All (λ (row : Row _). AreRowEntries g.F.ExactField.value (length c.deref-3.result.now) row.entries)) (sym c.new-3.ensures) c.in_ok-placed.ensures.entries) c.in_ok-check_size.ensures.rows c.in_ok-check_size.ensures.columns
