use Rattle.std.proofs.Common.{◌≡◌, ◌≤◌, ◌==◌, ◌∙◌, ◌++◌, true, false, arith, ap}
use Rattle.std.proofs.lemmas.Bool.Decides.{nat_tests}
use Rattle.gms_fmt.proofs.Appending.{failed}
use Rattle.lp_core.specs.Numbers.{lp_numbers, column_numbers}
use Rattle.gms_list.specs.SolveText.{column_lines}
use Rattle.gms_list.proofs.AppendedPieces.{passed, none_left, taken_in, left_passed, left_none, left_taken, reshaped}
use Rattle.gms_list.proofs.listing.Listing.push_column_of.Goals as goal

pub returns-then-column-variable-clause-appended : goal.returns-then-column-variable-clause-appended
returns-then-column-variable-clause-appended g c =
    let differs : (c.args.column.now.key.symbol == c.args.variable) ≡ false = grind (arith, nat_tests) in passed c.args.self.now (column_lines c.args.p.now.names c.args.p.now.labels g.F.ExactField.limit (lp_numbers g.F.ExactField.value c.args.lp.now) (c.args.j, column_numbers g.F.ExactField.value c.args.column.now)) (c.args.column.now.key.symbol == c.args.variable) c.args.left differs

pub returns-then-column-variable-clause-left : goal.returns-then-column-variable-clause-left
returns-then-column-variable-clause-left g c =
    let differs : (c.args.column.now.key.symbol == c.args.variable) ≡ false = grind (arith, nat_tests) in left_passed (c.args.column.now.key.symbol == c.args.variable) c.args.left differs

pub returns-then-left-eq0-clause-appended : goal.returns-then-left-eq0-clause-appended
returns-then-left-eq0-clause-appended g c = let none : c.args.left ≡ 0 = grind (arith, nat_tests) in none_left c.args.self.now (column_lines c.args.p.now.names c.args.p.now.labels g.F.ExactField.limit (lp_numbers g.F.ExactField.value c.args.lp.now) (c.args.j, column_numbers g.F.ExactField.value c.args.column.now)) (c.args.column.now.key.symbol == c.args.variable) c.args.left none

pub returns-then-left-eq0-clause-left : goal.returns-then-left-eq0-clause-left
returns-then-left-eq0-clause-left g c = let none : c.args.left ≡ 0 = grind (arith, nat_tests) in left_none (c.args.column.now.key.symbol == c.args.variable) c.args.left none

pub returns-in_err-push_column-clause-appended : goal.returns-in_err-push_column-clause-appended
returns-in_err-push_column-clause-appended g c =
    let same : (c.args.column.now.key.symbol == c.args.variable) ≡ true = grind (arith, nat_tests) in
    let some : 1 ≤ c.args.left = grind (arith, nat_tests) in
    reshaped _ _ (column_lines c.args.p.now.names c.args.p.now.labels g.F.ExactField.limit (lp_numbers g.F.ExactField.value c.args.lp.now) (c.args.j, column_numbers g.F.ExactField.value c.args.column.now)) _ c.from_residual.result (taken_in (column_lines c.args.p.now.names c.args.p.now.labels g.F.ExactField.limit (lp_numbers g.F.ExactField.value c.args.lp.now) (c.args.j, column_numbers g.F.ExactField.value c.args.column.now)) (c.args.column.now.key.symbol == c.args.variable) c.args.left same some) (failed _ _ (column_lines c.args.p.now.names c.args.p.now.labels g.F.ExactField.limit (lp_numbers g.F.ExactField.value c.args.lp.now) (c.args.j, column_numbers g.F.ExactField.value c.args.column.now)) c.from_residual.result c.from_residual.ensures.0 c.in_err-push_column.ensures)

pub returns-clause-appended : goal.returns-clause-appended
returns-clause-appended g c =
    let same : (c.args.column.now.key.symbol == c.args.variable) ≡ true = grind (arith, nat_tests) in
    let some : 1 ≤ c.args.left = grind (arith, nat_tests) in
    c.in_ok-push_column.ensures ∙ ap (λ t. c.args.self.now ++ t) (taken_in (column_lines c.args.p.now.names c.args.p.now.labels g.F.ExactField.limit (lp_numbers g.F.ExactField.value c.args.lp.now) (c.args.j, column_numbers g.F.ExactField.value c.args.column.now)) (c.args.column.now.key.symbol == c.args.variable) c.args.left same some)

pub returns-clause-left : goal.returns-clause-left
returns-clause-left g c = let same : (c.args.column.now.key.symbol == c.args.variable) ≡ true = grind (arith, nat_tests) in left_taken (c.args.column.now.key.symbol == c.args.variable) c.args.left same
