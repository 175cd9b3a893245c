use Rattle.std.proofs.Common.{◌≡◌, ◌==◌, ◌∙◌, ◌++◌, arith, get_or, sym, ap, flat_map, true, false}
use Rattle.std.proofs.lemmas.Bool.Decides.{nat_tests}
use Rattle.std.proofs.lemmas.List.{append-nil}
use Rattle.lp_core.specs.Numbers.{lp_numbers}
use Rattle.gms_list.specs.SolveText.{variable_text}
use Rattle.gms_list.proofs.Counts.{variables_are}
use Rattle.gms_list.proofs.Listed.{no_columns, some_columns}
use Rattle.gms_list.proofs.AppendedPieces.{traversal, loop_step, loop_broke, loop_done, map_same, same_at, untouched, reshaped}
use Rattle.gms_list.proofs.listing.Listing.push_variables.Goals as goal

pub returns-then-most-eq0 : goal.returns-then-most-eq0
returns-then-most-eq0 g c =
    let none : (c.args.most == 0) ≡ true = grind (arith, nat_tests) in
    sym (append-nil c.args.self.now) ∙ ap (λ t. c.args.self.now ++ t) (no_columns c.args.p.now.names c.args.p.now.labels g.F.ExactField.limit (lp_numbers g.F.ExactField.value c.args.lp.now) c.args.most none)

pub returns-in_err-variables : goal.returns-in_err-variables
returns-in_err-variables g c = untouched _ _ c.from_residual.result c.from_residual.ensures.0

pub loop-variable-init : goal.loop-variable-init
loop-variable-init g c = traversal _ (ap (λ ns. flat_map (variable_text c.args.p.now.names c.args.p.now.labels g.F.ExactField.limit (lp_numbers g.F.ExactField.value c.args.lp.now) c.args.most) ns) (map_same c.as_slice-each.result.now ∙ (c.as_slice-each.ensures.value ∙ variables_are c.args.p.now.names c.args.p.now.labels g.F.ExactField.limit g.F.ExactField.value c.args.lp.now _ _ c.as_slice.ensures c.in_ok-variables.ensures)))

pub loop-variable-preserved : goal.loop-variable-preserved
loop-variable-preserved g c =
    loop_step (variable_text c.args.p.now.names c.args.p.now.labels g.F.ExactField.limit (lp_numbers g.F.ExactField.value c.args.lp.now) c.args.most) (λ n. n) c.as_slice-each.result.now c.loop-variable.variable-index (get_or c.as_slice-each.result.now c.loop-variable.variable-index 0) (omega arith) (same_at c.as_slice-each.result.now c.loop-variable.variable-index 0 _ (omega arith)) c.loop-variable.invariant c.in_ok-push_variable.ensures

pub returns-in_err-push_variable : goal.returns-in_err-push_variable
returns-in_err-push_variable g c =
    let some : (c.args.most == 0) ≡ false = grind (arith, nat_tests) in
    reshaped _ _ _ _ c.from_residual-in_err-push_variable.result (some_columns c.args.p.now.names c.args.p.now.labels g.F.ExactField.limit (lp_numbers g.F.ExactField.value c.args.lp.now) c.args.most some)
    (loop_broke (variable_text c.args.p.now.names c.args.p.now.labels g.F.ExactField.limit (lp_numbers g.F.ExactField.value c.args.lp.now) c.args.most) (λ n. n) c.as_slice-each.result.now c.loop-variable.variable-index (get_or c.as_slice-each.result.now c.loop-variable.variable-index 0) (omega arith) (same_at c.as_slice-each.result.now c.loop-variable.variable-index 0 _ (omega arith)) c.loop-variable.invariant c.from_residual-in_err-push_variable.result c.from_residual-in_err-push_variable.ensures.0 c.in_err-push_variable.ensures)

pub returns : goal.returns
returns g c =
    let some : (c.args.most == 0) ≡ false = grind (arith, nat_tests) in
    loop_done (variable_text c.args.p.now.names c.args.p.now.labels g.F.ExactField.limit (lp_numbers g.F.ExactField.value c.args.lp.now) c.args.most) (λ n. n) c.as_slice-each.result.now c.loop-variable.variable-index (omega arith) c.loop-variable.invariant ∙ ap (λ t. c.args.self.now ++ t) (some_columns c.args.p.now.names c.args.p.now.labels g.F.ExactField.limit (lp_numbers g.F.ExactField.value c.args.lp.now) c.args.most some)
