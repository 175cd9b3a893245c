use Rattle.std.proofs.Common.{sym, subst, ◌∙◌}
use Rattle.gms_command.specs.CommandLine.{texts}
use Rattle.gms_run.specs.Statuses.{IsReadyFor}
use Rattle.gms25.proofs.Given.{Says, are_given, ends_given}
use Rattle.gms25.proofs.run_given.Goals as goal

pub returns-clause-ends : goal.returns-clause-ends
returns-clause-ends g c =
    ends_given c.args.args c.in_ok-words.words.items c.run_with_solvers.result (g.H.Host.meaning c.args.host.now) (g.H.Host.meaning c.run_with_solvers.new.host) c.in_ok-words.ensures
    (subst (λ ws. Says c.run_with_solvers.result (texts ws) (g.H.Host.meaning c.args.host.now) (g.H.Host.meaning c.run_with_solvers.new.host)) c.as_slice.ensures.value (record {
      run = c.run_with_solvers.ensures.run;
      counts = c.run_with_solvers.ensures.counts;
      no_fault = c.run_with_solvers.ensures.no_fault;
      usage = c.run_with_solvers.ensures.usage;
      complete = c.run_with_solvers.ensures.complete;
    }))

pub returns-clause-steady : goal.returns-clause-steady
returns-clause-steady g c = λ ready.
    c.run_with_solvers.ensures.steady (subst (λ ws. IsReadyFor (g.H.Host.meaning c.args.host.now) (texts ws)) (sym (c.as_slice.ensures.value ∙ are_given c.args.args c.in_ok-words.words.items c.in_ok-words.ensures)) ready)
