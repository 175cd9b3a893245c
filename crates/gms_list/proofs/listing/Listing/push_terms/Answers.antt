use Rattle.std.proofs.Common.{◌≡◌, ◌<◌, ◌∙◌, ◌++◌, ap, refl, arith, length}
use Rattle.std.proofs.lemmas.Bool.Decides.{nat_tests}
use Rattle.lp_core.specs.Numbers.{lp_numbers}
use Rattle.gms_list.proofs.AppendedPieces.{traversal, loop_step, loop_broke, loop_done, reshaped}
use Rattle.gms_list.proofs.Terms.{no_terms, some_terms}
use Rattle.gms_list.specs.SolveText.{term_text}
use Rattle.gms_list.proofs.listing.Listing.push_terms.Goals as goal

pub returns-then-is_empty : goal.returns-then-is_empty
returns-then-is_empty g c =
    let none : length c.args.entries.now ≡ 0 = grind (arith, nat_tests) in
    reshaped _ _ _ _ c.push.result (no_terms c.args.p.now.names c.args.p.now.labels g.F.ExactField.limit (lp_numbers g.F.ExactField.value c.args.lp.now) g.F.ExactField.value c.args.entries.now none) c.push.ensures

pub loop-j-init : goal.loop-j-init
loop-j-init g c = traversal _ refl

pub loop-j-preserved : goal.loop-j-preserved
loop-j-preserved g c = loop_step (term_text c.args.p.now.names c.args.p.now.labels g.F.ExactField.limit (lp_numbers g.F.ExactField.value c.args.lp.now)) (λ e. (e.0, g.F.ExactField.value e.1)) c.args.entries.now c.loop-j.j-index c.loop-j-item.result (omega arith) c.loop-j-item.is c.loop-j.invariant c.in_ok-push_term.ensures

pub returns-in_err-push_term : goal.returns-in_err-push_term
returns-in_err-push_term g c =
    let some : 0 < length c.args.entries.now = omega arith in
    reshaped _ _ _ _ c.from_residual.result (some_terms c.args.p.now.names c.args.p.now.labels g.F.ExactField.limit (lp_numbers g.F.ExactField.value c.args.lp.now) g.F.ExactField.value c.args.entries.now some)
    (loop_broke (term_text c.args.p.now.names c.args.p.now.labels g.F.ExactField.limit (lp_numbers g.F.ExactField.value c.args.lp.now)) (λ e. (e.0, g.F.ExactField.value e.1)) c.args.entries.now c.loop-j.j-index c.loop-j-item.result (omega arith) c.loop-j-item.is c.loop-j.invariant c.from_residual.result c.from_residual.ensures.0 c.in_err-push_term.ensures)

pub returns : goal.returns
returns g c =
    let some : 0 < length c.args.entries.now = grind (arith, nat_tests) in
    loop_done (term_text c.args.p.now.names c.args.p.now.labels g.F.ExactField.limit (lp_numbers g.F.ExactField.value c.args.lp.now)) (λ e. (e.0, g.F.ExactField.value e.1)) c.args.entries.now c.loop-j.j-index (omega arith) c.loop-j.invariant ∙ ap (λ t. c.args.self.now ++ t) (some_terms c.args.p.now.names c.args.p.now.labels g.F.ExactField.limit (lp_numbers g.F.ExactField.value c.args.lp.now) g.F.ExactField.value c.args.entries.now some)
