use Rattle.std.proofs.Common.{◌^◌, ◌-◌, map, refl}
use Rattle.std.proofs.lemmas.Result.{on_ok_weaker}
use Rattle.gq_frac.specs.Frac.{frac_value}
use Rattle.gms_rows.specs.Rows.{equations_of}
use Rattle.gms_exec.proofs.SolveRuns.{extended-same, solves-of}
use Rattle.gms_exec.proofs.solving.solve_program.Goals as goal

pub returns-in_err-answer-clause-answers : goal.returns-in_err-answer-clause-answers
returns-in_err-answer-clause-answers g c = extended-same c.args.run.now.answers.items c.args.run.now.answers.items refl

pub returns-in_err-answer-clause-events : goal.returns-in_err-answer-clause-events
returns-in_err-answer-clause-events g c = extended-same c.args.run.now.events.items c.args.run.now.events.items refl

pub returns-in_err-put_answer-clause-answers : goal.returns-in_err-put_answer-clause-answers
returns-in_err-put_answer-clause-answers g c = extended-same c.args.run.now.answers.items c.args.run.now.answers.items refl

pub returns-in_err-put_answer-clause-events : goal.returns-in_err-put_answer-clause-events
returns-in_err-put_answer-clause-events g c = extended-same c.args.run.now.events.items c.args.run.now.events.items refl

pub returns-clause-solves : goal.returns-clause-solves
returns-clause-solves g c =
    let xs = c.args.solvers.now.items in
    let ys = c.solve_at.new.solvers.items in
    let settings = c.settings-settings.result in
    on_ok_weaker c.show_solve.result
    (λ shows. solves-of frac_value (2 ^ 127 - 1) (map (λ b. (goal.LpSolver-dyn g (b.vtable, b.value)).name b.value) xs) (map (λ b. (goal.LpSolver-dyn g (b.vtable, b.value)).rule b.value) xs) (map (λ b. (goal.LpSolver-dyn g (b.vtable, b.value)).paths b.value) xs) (map (λ b. (goal.LpSolver-dyn g (b.vtable, b.value)).paths b.value) ys)
    c.args.s.at.line c.args.s.model (equations_of c.args.program.now.statements.items c.args.s.model) c.args.s.objective c.args.lp
    (record { state = c.args.run.now.store; events = c.args.run.now.events.items; answers = c.args.run.now.answers.items })
    (record { state = c.put_answer.new.store; events = c.show_solve.new.events.items; answers = c.show_solve.new.answers.items })
    settings c.in_ok-answer.answer c.in_ok-answer.name.items c.settings-settings.ensures c.in_ok-answer.ensures.answer c.in_ok-answer.ensures.named c.in_ok-put_answer.ensures c.in_ok-answer.ensures.paths shows)
    c.show_solve.ensures.shows
