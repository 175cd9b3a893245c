use Rattle.std.proofs.Common.{sym, ap, ◌∙◌, map, arith}
use Rattle.lp_core.specs.Sums.{value_of_column}
use Rattle.lp_std.specs.Meaning.{standard_value}
use Rattle.lp_fraction_dict.proofs.Lists.{read_number}
use Rattle.lp_fraction_dict.proofs.Filling.{objective_goes}
use Rattle.lp_fraction_dict.proofs.first.objective_row.Goals as goal

pub loop-place-preserved : goal.loop-place-preserved
loop-place-preserved g c =
    let items = c.as_slice-coefficient-items.result.now in
    let z = c.coefficient-item.result in
    objective_goes (standard_value g.F.ExactField.value c.args.s.now) g.F.ExactField.value c.loop-place.made.items c.push_unless_zero-in-loop-place.new.row.items c.loop-place.place z c.loop-place.invariant
    (sym (ap (λ xs. value_of_column (map g.F.ExactField.value xs) c.loop-place.place) (sym c.as_slice-coefficient-items.ensures) ∙ read_number g.F.ExactField.value items c.loop-place.place z (omega arith) c.coefficient-item.is))
    c.in_ok-push_unless_zero-2.ensures
