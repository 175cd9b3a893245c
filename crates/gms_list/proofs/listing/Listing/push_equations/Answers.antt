use Rattle.std.proofs.Common.{◌≡◌, ◌==◌, ◌∙◌, ◌++◌, arith, get_or, sym, ap, flat_map, true, false}
use Rattle.std.proofs.lemmas.Bool.Decides.{nat_tests}
use Rattle.std.proofs.lemmas.List.{append-nil}
use Rattle.lp_core.specs.Numbers.{lp_numbers}
use Rattle.gms_list.proofs.AppendedPieces.{traversal, loop_step, loop_broke, loop_done, reshaped, map_same, same_at}
use Rattle.gms_list.specs.SolveText.{equation_text}
use Rattle.gms_list.proofs.Listed.{no_rows, some_rows}
use Rattle.gms_list.proofs.listing.Listing.push_equations.Goals as goal

pub loop-equation-init : goal.loop-equation-init
loop-equation-init g c = traversal _ (ap (λ ns. flat_map (equation_text c.args.p.now.names c.args.p.now.labels g.F.ExactField.limit (lp_numbers g.F.ExactField.value c.args.lp.now) c.args.most) ns) (map_same c.args.equations.now))

pub loop-equation-preserved : goal.loop-equation-preserved
loop-equation-preserved g c =
    loop_step (equation_text c.args.p.now.names c.args.p.now.labels g.F.ExactField.limit (lp_numbers g.F.ExactField.value c.args.lp.now) c.args.most) (λ n. n) c.args.equations.now c.loop-equation.equation-index (get_or c.args.equations.now c.loop-equation.equation-index 0) (omega arith) (same_at c.args.equations.now c.loop-equation.equation-index 0 _ (omega arith)) c.loop-equation.invariant c.in_ok-push_equation.ensures

pub returns-then-most-eq0 : goal.returns-then-most-eq0
returns-then-most-eq0 g c =
    let none : (c.args.most == 0) ≡ true = grind (arith, nat_tests) in
    sym (append-nil c.args.self.now) ∙ ap (λ t. c.args.self.now ++ t) (no_rows c.args.p.now.names c.args.p.now.labels g.F.ExactField.limit (lp_numbers g.F.ExactField.value c.args.lp.now) c.args.most c.args.equations.now none)

pub returns-in_err-push_equation : goal.returns-in_err-push_equation
returns-in_err-push_equation g c =
    let some : (c.args.most == 0) ≡ false = grind (arith, nat_tests) in
    reshaped _ _ _ _ c.from_residual.result (some_rows c.args.p.now.names c.args.p.now.labels g.F.ExactField.limit (lp_numbers g.F.ExactField.value c.args.lp.now) c.args.most c.args.equations.now some)
    (loop_broke (equation_text c.args.p.now.names c.args.p.now.labels g.F.ExactField.limit (lp_numbers g.F.ExactField.value c.args.lp.now) c.args.most) (λ n. n) c.args.equations.now c.loop-equation.equation-index (get_or c.args.equations.now c.loop-equation.equation-index 0) (omega arith) (same_at c.args.equations.now c.loop-equation.equation-index 0 _ (omega arith)) c.loop-equation.invariant c.from_residual.result c.from_residual.ensures.0 c.in_err-push_equation.ensures)

pub returns : goal.returns
returns g c =
    let some : (c.args.most == 0) ≡ false = grind (arith, nat_tests) in
    loop_done (equation_text c.args.p.now.names c.args.p.now.labels g.F.ExactField.limit (lp_numbers g.F.ExactField.value c.args.lp.now) c.args.most) (λ n. n) c.args.equations.now c.loop-equation.equation-index (omega arith) c.loop-equation.invariant
    ∙ ap (λ t. c.args.self.now ++ t) (some_rows c.args.p.now.names c.args.p.now.labels g.F.ExactField.limit (lp_numbers g.F.ExactField.value c.args.lp.now) c.args.most c.args.equations.now some)
