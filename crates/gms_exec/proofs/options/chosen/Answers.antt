use Rattle.std.proofs.Common.{◌≡◌, ◌∙◌, [], true, false, ap, sym, map, unwrap_or}
use Rattle.gms_exec.specs.Options.{is_same_word, solver_set}
use Rattle.gms_exec.proofs.Chosen.{fails-more, first-there, first-nowhere}
use Rattle.gms_exec.proofs.options.chosen.Goals as goal

pub loop-place-preserved : goal.loop-place-preserved
loop-place-preserved g c =
    let says : is_same_word c.in-Name.word.text ((goal.LpSolver-dyn g (c.index-solvers-place.result.vtable, c.index-solvers-place.result.value)).name c.index-solvers-place.result.value) ≡ false = ap (λ word. is_same_word word ((goal.LpSolver-dyn g (c.index-solvers-place.result.vtable, c.index-solvers-place.result.value)).name c.index-solvers-place.result.value)) (sym c.as_slice.ensures) ∙ sym c.has_name.ensures ∙ c.if-has_name.false in
    fails-more (λ b. (goal.LpSolver-dyn g (b.vtable, b.value)).name b.value) (is_same_word c.in-Name.word.text) c.args.solvers.now [] c.loop-place.place c.index-solvers-place.result c.loop-place-test.true c.index-solvers-place.is says c.loop-place.invariant

pub returns-then-has_name : goal.returns-then-has_name
returns-then-has_name g c =
    let says : is_same_word c.in-Name.word.text ((goal.LpSolver-dyn g (c.index-solvers-place.result.vtable, c.index-solvers-place.result.value)).name c.index-solvers-place.result.value) ≡ true = ap (λ word. is_same_word word ((goal.LpSolver-dyn g (c.index-solvers-place.result.vtable, c.index-solvers-place.result.value)).name c.index-solvers-place.result.value)) (sym c.as_slice.ensures) ∙ sym c.has_name.ensures ∙ c.if-has_name.true in
    sym (ap (λ set. solver_set (map (λ b. (goal.LpSolver-dyn g (b.vtable, b.value)).name b.value) c.args.solvers.now) c.args.old set) c.in-Name.is
    ∙ ap (λ o. unwrap_or o c.args.old) (first-there (λ b. (goal.LpSolver-dyn g (b.vtable, b.value)).name b.value) (is_same_word c.in-Name.word.text) c.args.solvers.now [] c.loop-place.place c.index-solvers-place.result c.loop-place-test.true c.index-solvers-place.is says c.loop-place.invariant))

pub returns : goal.returns
returns g c =
    sym (ap (λ set. solver_set (map (λ b. (goal.LpSolver-dyn g (b.vtable, b.value)).name b.value) c.args.solvers.now) c.args.old set) c.in-Name.is
    ∙ ap (λ o. unwrap_or o c.args.old) (first-nowhere (λ b. (goal.LpSolver-dyn g (b.vtable, b.value)).name b.value) (is_same_word c.in-Name.word.text) c.args.solvers.now [] c.loop-place.place c.loop-place-test.false c.loop-place.invariant))
