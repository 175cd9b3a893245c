-- A run in two parts.
use Rattle.std.proofs.Common.{List, [], None, map, ap, ◌∙◌}
use Rattle.std.proofs.lemmas.List.{map-append}
use Rattle.std.proofs.lemmas.List.Sums.{fold-append}
use Rattle.gq_frac.specs.declared.frac.Frac.{Frac}
use Rattle.gq_frac.specs.Frac.{frac_value, frac_limit}
use Rattle.gms_ast.specs.declared.program.Stmt.{Stmt}
use Rattle.gms_exec.specs.Run.{Course, OfStatement, of_statement, in_sequence, while_it_runs}
use Rattle.gms_run.specs.Solving.{numbers_of}
use Rattle.gms_run.specs.Laws.{RunsJoin}

pub runs_join : RunsJoin
runs_join to_run solving first others =
    let f : Stmt Frac → OfStatement = of_statement frac_value frac_limit (record { program = to_run.program; solvers = solving.before.names }) in
    let start : Course = record { state = to_run.state; events = []; left = numbers_of solving.answers; taken = 0; halted = None } in
    ap (λ (ss : List OfStatement). in_sequence ss [] start) (map-append f first others)
    ∙ fold-append (λ course statement. while_it_runs (statement []) course) start (map f first) (map f others)
