use Rattle.std.proofs.Common.{◌≡◌, ◌+◌, length, Some, refl, ap, ◌∙◌, subst, arith}
use Rattle.std.specs.Prelude.{slice_get, slice_index_or}
use Rattle.lp_fraction_dict.proofs.Kept.{index_get}
use Rattle.lp_integer_dict.specs.Whole.{integer_dictionary as dictionary_of}
use Rattle.lp_dict.specs.InnerReading.{AreByVariable}
use Rattle.lp_dict.proofs.Finals.{variables_more}
use Rattle.lp_dict.proofs.last.by_variable.Goals as goal

pub loop-place-preserved : goal.loop-place-preserved
loop-place-preserved g c =
    let basic = c.basic-variable-items.result.now in
    let variable = slice_index_or basic c.loop-place.place 0 in
    let at : slice_get (dictionary_of c.args.rows.now).basic c.loop-place.place ≡ Some variable = subst (λ b. slice_get b c.loop-place.place ≡ Some variable) c.basic-variable-items.ensures (index_get basic c.loop-place.place variable 0 (omega arith) refl) in
    variables_more (dictionary_of c.args.rows.now) c.keeps.ensures.proper g.F.ExactField.value c.loop-place.list.items _ ((dictionary_of c.args.rows.now).variables + 1) c.args.column c.loop-place.place variable c.number_at.result c.loop-place.invariant at (let most = c.keeps.ensures.proper.there c.loop-place.place variable at in omega arith) c.number_at.ensures refl

pub returns : goal.returns
returns g c =
    let all : c.loop-place.place ≡ length c.basic-variable-items.result.now = omega arith in
    subst (λ n. AreByVariable g.F.ExactField.value (dictionary_of c.args.rows.now) ((dictionary_of c.args.rows.now).variables + 1) c.args.column n c.loop-place.list.items) (all ∙ ap length c.basic-variable-items.ensures) c.loop-place.invariant
