-- By the signs, and then by the magnitudes.
use Rattle.std.proofs.Common.{◌∙◌, sym, true, false}
use Rattle.gq_field.proofs.Compares.{compare_by_signs}
use Rattle.gq_field.proofs.compare.compare.Goals as goal

pub returns-in-true-true : goal.returns-in-true-true
returns-in-true-true c = c.compare_magnitudes.ensures ∙ sym (compare_by_signs c.args.x c.args.y true true (sym c.in-true-true.ensures) (sym c.in-true-true.ensures'))

pub returns-in-true-false : goal.returns-in-true-false
returns-in-true-false c = sym (compare_by_signs c.args.x c.args.y true false (sym c.in-true-false.ensures) (sym c.in-true-false.ensures'))

pub returns-in-false-true : goal.returns-in-false-true
returns-in-false-true c = sym (compare_by_signs c.args.x c.args.y false true (sym c.in-false-true.ensures) (sym c.in-false-true.ensures'))

pub returns-in-false-false : goal.returns-in-false-false
returns-in-false-false c = c.compare_magnitudes-in-false-false.ensures ∙ sym (compare_by_signs c.args.x c.args.y false false (sym c.in-false-false.ensures) (sym c.in-false-false.ensures'))
