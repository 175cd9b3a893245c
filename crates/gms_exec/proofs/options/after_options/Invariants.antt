use Rattle.std.proofs.Common.{◌≡◌, map, drop}
use Rattle.gms_exec.specs.Options.{after_options}
use Rattle.gms_exec.proofs.options.after_options.Given as goal

-- the remaining options lead from here to where all lead from the first settings
abbrev pub invariant-loop-word : goal.invariant-loop-word
invariant-loop-word g l =
    let names = map (λ b. (goal.LpSolver-dyn g (b.vtable, b.value)).name b.value) l.solvers in
    after_options g.F.ExactField.value names l.settings (drop l.word-index l.options) ≡ after_options g.F.ExactField.value names l.fn.settings l.options
