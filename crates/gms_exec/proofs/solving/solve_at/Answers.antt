use Rattle.std.proofs.Common.{◌≡◌, ◌∙◌, ◌++◌, ◌∷◌, ◌-◌, ◌^◌, ℕ, [], ap, sym, map, set, slice_get, get_or, option_map}
use Rattle.std.proofs.lemmas.List.{get_or-map}
use Rattle.std.proofs.lemmas.Result.{IfOk-weaker}
use Rattle.gq_frac.specs.Frac.{frac_value}
use Rattle.lp_slot.specs.Under.{IsAnswerUnder}
use Rattle.gms_exec.specs.InnerSolving.{AnswersAt, path_at}
use Rattle.gms_exec.proofs.OneSolver.{map-set, get-reading, paths-set}
use Rattle.gms_exec.proofs.solving.solve_at.Goals as goal

pub returns-clause-answer : goal.returns-clause-answer
returns-clause-answer g c =
    let xs = c.args.solvers.now.items in
    let old = c.index_mut.result.now in
    let rule = (goal.LpSolver-dyn g (old.vtable, old.value)).rule old.value in
    IfOk-weaker c.solve_one.result (λ r. IsAnswerUnder frac_value (2 ^ 127 - 1) c.args.lp.now c.args.iterlim rule r.0) (λ r. AnswersAt frac_value (2 ^ 127 - 1) (map (λ b. (goal.LpSolver-dyn g (b.vtable, b.value)).rule b.value) xs) c.args.place c.args.lp.now c.args.iterlim r.0)
    (λ r is_answer. record { rule = rule; chosen = get-reading (λ b. (goal.LpSolver-dyn g (b.vtable, b.value)).rule b.value) xs c.args.place old c.requires.there c.index_mut.ensures.value; is_answer = is_answer })
    c.solve_one.ensures.answer

pub returns-clause-named : goal.returns-clause-named
returns-clause-named g c =
    let xs = c.args.solvers.now.items in
    let old = c.index_mut.result.now in
    IfOk-weaker c.solve_one.result (λ r. r.1.items ≡ (goal.LpSolver-dyn g (old.vtable, old.value)).name old.value) (λ r. r.1.items ≡ get_or (map (λ b. (goal.LpSolver-dyn g (b.vtable, b.value)).name b.value) xs) c.args.place [])
    (λ r named. named ∙ ap (λ b. (goal.LpSolver-dyn g (b.vtable, b.value)).name b.value) c.index_mut.ensures.value ∙ sym (get_or-map (λ b. (goal.LpSolver-dyn g (b.vtable, b.value)).name b.value) xs c.args.place old [] c.requires.there))
    c.solve_one.ensures.named

pub returns-clause-names : goal.returns-clause-names
returns-clause-names g c =
    map-set (λ b. (goal.LpSolver-dyn g (b.vtable, b.value)).name b.value) c.args.solvers.now.items c.args.place c.solve_one.new.solver c.index_mut.result.now c.index_mut.ensures.value c.solve_one.ensures.name

pub returns-clause-rules : goal.returns-clause-rules
returns-clause-rules g c =
    map-set (λ b. (goal.LpSolver-dyn g (b.vtable, b.value)).rule b.value) c.args.solvers.now.items c.args.place c.solve_one.new.solver c.index_mut.result.now c.index_mut.ensures.value c.solve_one.ensures.rule

pub returns-clause-paths : goal.returns-clause-paths
returns-clause-paths g c =
    let xs = c.args.solvers.now.items in
    let old = c.index_mut.result.now in
    IfOk-weaker c.solve_one.result (λ r. (goal.LpSolver-dyn g (c.solve_one.new.solver.vtable, c.solve_one.new.solver.value)).paths c.solve_one.new.solver.value ≡ (goal.LpSolver-dyn g (old.vtable, old.value)).paths old.value ++ r.0.pivots ∷ []) (λ r. (k : ℕ) → slice_get (map (λ b. (goal.LpSolver-dyn g (b.vtable, b.value)).paths b.value) (set xs c.args.place c.solve_one.new.solver)) k ≡ option_map (λ before. before ++ path_at c.args.place r.0.pivots k) (slice_get (map (λ b. (goal.LpSolver-dyn g (b.vtable, b.value)).paths b.value) xs) k))
    (λ r extended k. paths-set (λ b. (goal.LpSolver-dyn g (b.vtable, b.value)).paths b.value) xs c.args.place c.solve_one.new.solver old r.0.pivots c.index_mut.ensures.value extended k)
    c.solve_one.ensures.paths
