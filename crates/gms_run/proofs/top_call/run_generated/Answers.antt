use Rattle.std.proofs.Common.{ℕ, ap, ◌∙◌}
use Rattle.gms_gen.specs.Generator.{generated_model_text}
use Rattle.gms_command.specs.CommandLine.{asked_by}
use Rattle.gms_run.specs.Solving.{solving}
use Rattle.gms_run.proofs.Runs.{of_generated}
use Rattle.gms_run.proofs.top_call.run_generated.Goals as goal

pub returns-clause-ran : goal.returns-clause-ran
returns-clause-ran g c =
    of_generated c.run_source.result (solving (λ b. (goal.LpSolver-dyn g (b.vtable, b.value)).name b.value) (λ b. (goal.LpSolver-dyn g (b.vtable, b.value)).rule b.value) (λ b. (goal.LpSolver-dyn g (b.vtable, b.value)).paths b.value) c.args.solvers.now.items c.run_source.new.solvers.items c.run_source.new.run.progress.answers.items) (g.H.Host.meaning c.args.host.now) (g.H.Host.meaning c.run_source.new.host) (asked_by c.args.request) c.args.size c.as_bytes-source.result.now c.requires.named
    (c.as_bytes-source.ensures.value ∙ c.as_str.ensures.value ∙ c.in_ok-text.ensures ∙ ap (λ (seed : ℕ). generated_model_text seed c.args.size c.args.size) c.from.ensures) c.run_source.ensures.ran

pub returns-clause-counts : goal.returns-clause-counts
returns-clause-counts g c = c.run_source.ensures.counts
