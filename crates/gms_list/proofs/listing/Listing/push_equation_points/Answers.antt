use Rattle.std.proofs.Common.{◌≡◌, ◌==◌, ◌∙◌, ◌++◌, true, false, [], arith, sym, ap, codes, flat_map, length, map, ℕ}
use Rattle.std.proofs.lemmas.Bool.Decides.{nat_tests}
use Rattle.std.proofs.lemmas.List.{append-nil}
use Rattle.gq_number.specs.Number.{Number}
use Rattle.lp_core.specs.declared.program.Row.{Row}
use Rattle.lp_core.specs.Numbers.{lp_numbers}
use Rattle.gms_fmt.specs.ElementTexts.{label_in_table}
use Rattle.gms_list.specs.InnerSolves.{solution_in}
use Rattle.gms_list.specs.Amounts.{line_of}
use Rattle.gms_list.specs.SolveText.{row_point, rows_of_equation, longest_element}
use Rattle.gms_list.proofs.Counts.{rows_counted}
use Rattle.gms_list.proofs.AppendedPieces.{traversal, step, broke, last, untouched, chosen, other}
use Rattle.gms_list.proofs.Shapes.{headed_line}
use Rattle.gms_list.proofs.listing.Listing.push_equation_points.Goals as goal

pub returns-in_err-width : goal.returns-in_err-width
returns-in_err-width g c = untouched _ _ c.from_residual.result c.from_residual.ensures.0

pub returns-then-rows_of-eq0 : goal.returns-then-rows_of-eq0
returns-then-rows_of-eq0 g c =
    let counted : c.rows_of.result ≡ length (rows_of_equation c.args.p.now.names c.args.p.now.labels g.F.ExactField.limit (lp_numbers g.F.ExactField.value c.args.lp.now) c.args.equation) = (rows_counted c.args.p.now.names c.args.p.now.labels g.F.ExactField.limit g.F.ExactField.value c.args.lp.now c.args.equation _ _ c.as_slice.ensures c.rows_of.ensures) in
    let is : (c.rows_of.result == 0) ≡ true = grind (arith, nat_tests) in
    let none : (length (rows_of_equation c.args.p.now.names c.args.p.now.labels g.F.ExactField.limit (lp_numbers g.F.ExactField.value c.args.lp.now) c.args.equation) == 0) ≡ true = ap (λ n. n == 0) (sym counted) ∙ is in
    sym (append-nil c.args.self.now) ∙ ap (λ t. c.args.self.now ++ t) (chosen (length (rows_of_equation c.args.p.now.names c.args.p.now.labels g.F.ExactField.limit (lp_numbers g.F.ExactField.value c.args.lp.now) c.args.equation) == 0) [] (line_of (codes "EQU " ++ label_in_table c.args.p.now.names c.args.equation ++ codes " LOWER LEVEL UPPER MARGINAL") ++ flat_map (row_point c.args.p.now.names c.args.p.now.labels g.F.ExactField.limit (lp_numbers g.F.ExactField.value c.args.lp.now) (solution_in g.F.ExactField.value c.args.solution) (longest_element c.args.p.now.names c.args.p.now.labels g.F.ExactField.limit (lp_numbers g.F.ExactField.value c.args.lp.now) (map (λ (q : ℕ × Row Number). q.1.key) (rows_of_equation c.args.p.now.names c.args.p.now.labels g.F.ExactField.limit (lp_numbers g.F.ExactField.value c.args.lp.now) c.args.equation)))) (rows_of_equation c.args.p.now.names c.args.p.now.labels g.F.ExactField.limit (lp_numbers g.F.ExactField.value c.args.lp.now) c.args.equation)) none)

pub returns-in_err-push_head : goal.returns-in_err-push_head
returns-in_err-push_head g c =
    let counted : c.rows_of.result ≡ length (rows_of_equation c.args.p.now.names c.args.p.now.labels g.F.ExactField.limit (lp_numbers g.F.ExactField.value c.args.lp.now) c.args.equation) = (rows_counted c.args.p.now.names c.args.p.now.labels g.F.ExactField.limit g.F.ExactField.value c.args.lp.now c.args.equation _ _ c.as_slice.ensures c.rows_of.ensures) in
    let is : (c.rows_of.result == 0) ≡ false = grind (arith, nat_tests) in
    let some : (length (rows_of_equation c.args.p.now.names c.args.p.now.labels g.F.ExactField.limit (lp_numbers g.F.ExactField.value c.args.lp.now) c.args.equation) == 0) ≡ false = ap (λ n. n == 0) (sym counted) ∙ is in
    broke c.from_residual-in_err-push_head.result c.from_residual-in_err-push_head.ensures.0 _ _ (traversal _ (headed_line (codes "EQU ") (label_in_table c.args.p.now.names c.args.equation) (codes " LOWER LEVEL UPPER MARGINAL") (flat_map (row_point c.args.p.now.names c.args.p.now.labels g.F.ExactField.limit (lp_numbers g.F.ExactField.value c.args.lp.now) (solution_in g.F.ExactField.value c.args.solution) (longest_element c.args.p.now.names c.args.p.now.labels g.F.ExactField.limit (lp_numbers g.F.ExactField.value c.args.lp.now) (map (λ (q : ℕ × Row Number). q.1.key) (rows_of_equation c.args.p.now.names c.args.p.now.labels g.F.ExactField.limit (lp_numbers g.F.ExactField.value c.args.lp.now) c.args.equation)))) (rows_of_equation c.args.p.now.names c.args.p.now.labels g.F.ExactField.limit (lp_numbers g.F.ExactField.value c.args.lp.now) c.args.equation)) ∙ other (length (rows_of_equation c.args.p.now.names c.args.p.now.labels g.F.ExactField.limit (lp_numbers g.F.ExactField.value c.args.lp.now) c.args.equation) == 0) [] (line_of (codes "EQU " ++ label_in_table c.args.p.now.names c.args.equation ++ codes " LOWER LEVEL UPPER MARGINAL") ++ flat_map (row_point c.args.p.now.names c.args.p.now.labels g.F.ExactField.limit (lp_numbers g.F.ExactField.value c.args.lp.now) (solution_in g.F.ExactField.value c.args.solution) (longest_element c.args.p.now.names c.args.p.now.labels g.F.ExactField.limit (lp_numbers g.F.ExactField.value c.args.lp.now) (map (λ (q : ℕ × Row Number). q.1.key) (rows_of_equation c.args.p.now.names c.args.p.now.labels g.F.ExactField.limit (lp_numbers g.F.ExactField.value c.args.lp.now) c.args.equation)))) (rows_of_equation c.args.p.now.names c.args.p.now.labels g.F.ExactField.limit (lp_numbers g.F.ExactField.value c.args.lp.now) c.args.equation)) some)) c.in_err-push_head.ensures

pub returns : goal.returns
returns g c =
    let counted : c.rows_of.result ≡ length (rows_of_equation c.args.p.now.names c.args.p.now.labels g.F.ExactField.limit (lp_numbers g.F.ExactField.value c.args.lp.now) c.args.equation) = (rows_counted c.args.p.now.names c.args.p.now.labels g.F.ExactField.limit g.F.ExactField.value c.args.lp.now c.args.equation _ _ c.as_slice.ensures c.rows_of.ensures) in
    let is : (c.rows_of.result == 0) ≡ false = grind (arith, nat_tests) in
    let some : (length (rows_of_equation c.args.p.now.names c.args.p.now.labels g.F.ExactField.limit (lp_numbers g.F.ExactField.value c.args.lp.now) c.args.equation) == 0) ≡ false = ap (λ n. n == 0) (sym counted) ∙ is in
    last _ _ c.push_row_points.result (step _ _ (traversal _ (headed_line (codes "EQU ") (label_in_table c.args.p.now.names c.args.equation) (codes " LOWER LEVEL UPPER MARGINAL") _ ∙ ap (λ (w : ℕ). (line_of (codes "EQU " ++ label_in_table c.args.p.now.names c.args.equation ++ codes " LOWER LEVEL UPPER MARGINAL") ++ flat_map (row_point c.args.p.now.names c.args.p.now.labels g.F.ExactField.limit (lp_numbers g.F.ExactField.value c.args.lp.now) (solution_in g.F.ExactField.value c.args.solution) w) (rows_of_equation c.args.p.now.names c.args.p.now.labels g.F.ExactField.limit (lp_numbers g.F.ExactField.value c.args.lp.now) c.args.equation))) c.in_ok-width.ensures ∙ other (length (rows_of_equation c.args.p.now.names c.args.p.now.labels g.F.ExactField.limit (lp_numbers g.F.ExactField.value c.args.lp.now) c.args.equation) == 0) [] (line_of (codes "EQU " ++ label_in_table c.args.p.now.names c.args.equation ++ codes " LOWER LEVEL UPPER MARGINAL") ++ flat_map (row_point c.args.p.now.names c.args.p.now.labels g.F.ExactField.limit (lp_numbers g.F.ExactField.value c.args.lp.now) (solution_in g.F.ExactField.value c.args.solution) (longest_element c.args.p.now.names c.args.p.now.labels g.F.ExactField.limit (lp_numbers g.F.ExactField.value c.args.lp.now) (map (λ (q : ℕ × Row Number). q.1.key) (rows_of_equation c.args.p.now.names c.args.p.now.labels g.F.ExactField.limit (lp_numbers g.F.ExactField.value c.args.lp.now) c.args.equation)))) (rows_of_equation c.args.p.now.names c.args.p.now.labels g.F.ExactField.limit (lp_numbers g.F.ExactField.value c.args.lp.now) c.args.equation)) some)) c.in_ok-push_head.ensures) c.push_row_points.ensures
