use Rattle.std.proofs.Common.{map}
use Rattle.gms_exec.specs.Options.{after_option, after_options}
use Rattle.gms_exec.proofs.Folding.{fold-more}
use Rattle.gms_exec.proofs.options.after_options.Goals as goal

pub loop-word-preserved : goal.loop-word-preserved
loop-word-preserved g c =
    let v = g.F.ExactField.value in
    let names = map (λ b. (goal.LpSolver-dyn g (b.vtable, b.value)).name b.value) c.args.solvers.now in
    fold-more (after_option v names) (after_options v names c.args.settings c.args.options.now) c.loop-word.settings c.after_option-settings.result c.args.options.now c.loop-word.word-index c.loop-word-item.result c.loop-word-test.true c.loop-word-item.is c.after_option-settings.ensures c.loop-word.invariant
