use Rattle.std.proofs.Common.{◌≡◌, ◌∙◌, ◌+◌, ◌||◌, ap, sym, drop, get_or, true, false}
use Rattle.std.specs.List.{list_any}
use Rattle.std.specs.Str.{str_eq_ignore_ascii_case}
use Rattle.std.proofs.lemmas.List.{at_drop_more, drop_all}
use Rattle.gms_check.proofs.checker.Checker.has_solver.Goals as goal

pub loop-solver-preserved : goal.loop-solver-preserved
loop-solver-preserved g c =
    let name = c.args.name.now in
    let xs = c.args.self.now.solvers.now in
    let i = c.loop-solver.solver-index in
    let item = c.solver-item.result in
    let rest = list_any (str_eq_ignore_ascii_case name) (drop (i + 1) xs) in
    let apart : str_eq_ignore_ascii_case name (get_or xs i item) ≡ false = ap (λ s. str_eq_ignore_ascii_case name s) (sym c.solver-item.is) ∙ sym (c.is_same.ensures ∙ ap (str_eq_ignore_ascii_case name) c.as_slice.ensures) ∙ c.if-is_same.false in
    ap (λ b. b || rest) (sym apart) ∙ sym (at_drop_more (λ ys. list_any (str_eq_ignore_ascii_case name) ys) xs i item c.loop-solver-test.true) ∙ c.loop-solver.invariant

pub returns-then-is_same : goal.returns-then-is_same
returns-then-is_same g c =
    let name = c.args.name.now in
    let xs = c.args.self.now.solvers.now in
    let i = c.loop-solver.solver-index in
    let item = c.solver-item.result in
    let rest = list_any (str_eq_ignore_ascii_case name) (drop (i + 1) xs) in
    let here : str_eq_ignore_ascii_case name (get_or xs i item) ≡ true = ap (λ s. str_eq_ignore_ascii_case name s) (sym c.solver-item.is) ∙ sym (c.is_same.ensures ∙ ap (str_eq_ignore_ascii_case name) c.as_slice.ensures) ∙ c.if-is_same.true in
    ap (λ b. b || rest) (sym here) ∙ sym (at_drop_more (λ ys. list_any (str_eq_ignore_ascii_case name) ys) xs i item c.loop-solver-test.true) ∙ c.loop-solver.invariant

pub returns : goal.returns
returns g c =
    let name = c.args.name.now in
    sym (ap (λ ys. list_any (str_eq_ignore_ascii_case name) ys) (drop_all c.loop-solver.solver-index c.args.self.now.solvers.now c.loop-solver-test.false)) ∙ c.loop-solver.invariant
