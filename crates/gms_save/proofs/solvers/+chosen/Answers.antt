use Rattle.std.proofs.Common.{◌≡◌, ℕ, ◌+◌, ◌*◌, ◌<◌, ◌++◌, ◌∙◌, List, ap, sym, arith}
use denote.Param.Weighed.{most}
use Rattle.std.specs.Prelude.{flat_map}
use Rattle.std.proofs.lemmas.Result.{on_ok_weaker}
use Rattle.gq_frac.specs.declared.frac.Frac.{Frac}
use Rattle.gms_ast.specs.declared.word.Word.{Word}
use Rattle.gms_ast.specs.declared.program.Setting.{Setting}
use Rattle.gms_ast.specs.declared.program.Stmt.{Stmt, size-Stmt}
use Rattle.gms_save.specs.Saves.{option_solvers, solvers_in}
use Rattle.gms_save.proofs.Choosing.{chosen-Loop, chosen-Options, chosen-more}
use Rattle.gms_save.proofs.LoopDepths.{body-less_deep}
use Rattle.gms_save.proofs.solvers.+chosen.Goals as goal

pub push_chosen-loop-statement-preserved : goal.push_chosen-loop-statement-preserved
push_chosen-loop-statement-preserved t c =
    chosen-more solvers_in c.args.statements.now c.loop-statement.statement-index c.statement-item.result c.args.names.now.items _ _ c.loop-statement-test.true c.statement-item.is c.loop-statement.invariant c.in_ok-push_chosen_by.ensures

pub push_chosen_by-returns-in-Options : goal.push_chosen_by-returns-in-Options
push_chosen_by-returns-in-Options t c =
    let old = c.args.names.now.items in
    on_ok_weaker c.push_options.result (λ e. e ∙ ap (λ (settings : List (Word × Setting Frac)). old ++ flat_map option_solvers settings) c.as_slice.ensures ∙ ap (λ (names : List (List ℕ)). old ++ names) (sym (chosen-Options c.args.statement.now c.in-Options.settings c.in-Options.is))) c.push_options.ensures

pub push_chosen_by-returns-in-Loop : goal.push_chosen_by-returns-in-Loop
push_chosen_by-returns-in-Loop t c =
    let old = c.args.names.now.items in
    on_ok_weaker c.push_chosen.result (λ e. e ∙ ap (λ (statements : List (Stmt Frac)). old ++ flat_map solvers_in statements) c.deref.ensures.value ∙ ap (λ (names : List (List ℕ)). old ++ names) (sym (chosen-Loop c.args.statement.now c.in-Loop.control c.in-Loop.body c.in-Loop.is))) c.push_chosen.ensures

pub push_chosen_by-push_chosen-requires : goal.push_chosen_by-push_chosen-requires
push_chosen_by-push_chosen-requires t c =
    let less : most (size-Stmt Frac) c.in-Loop.body.items < size-Stmt Frac c.args.statement.now = body-less_deep c.args.statement.now c.in-Loop.control c.in-Loop.body c.in-Loop.is in
    let same = ap (most (size-Stmt Frac)) c.deref.ensures.value in
    let whole : 2 * size-Stmt Frac c.args.statement.now + 0 ≡ t = c.decreases in
    let falls : 2 * most (size-Stmt Frac) c.deref.result.now + 1 < t = omega arith in
    (falls, tt)
