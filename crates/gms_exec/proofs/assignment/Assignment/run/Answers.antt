use Rattle.std.proofs.Common.{ap, sym, ◌∙◌, Ok}
use Rattle.gms_eval.proofs.Answering.{stops-then, then-value}
use Rattle.gms_exec.specs.Given.{after_given}
use Rattle.gms_exec.specs.InnerContracts.{all_given_in}
use Rattle.gms_exec.proofs.Assigning.{assigns-handed}
use Rattle.gms_exec.proofs.assignment.Assignment.run.Goals as goal

pub returns-in_err-given : goal.returns-in_err-given
returns-in_err-given g c =
    assigns-handed g.F.ExactField.value c.from_residual.result c.in_err-given.field-0.0 c.args.store.now _ c.from_residual.ensures.1 (stops-then g.F.ExactField.value c.in_err-given.field-0.0 _ (λ given. Ok (after_given c.args.self.now.target.now.suffix c.args.self.now.target.now.name given c.args.store.now)) c.in_err-given.ensures)

pub returns : goal.returns
returns g c =
    then-value _ (all_given_in g.F.ExactField.value c.in_ok-given.given.items) (λ given. Ok (after_given c.args.self.now.target.now.suffix c.args.self.now.target.now.name given c.args.store.now)) c.in_ok-given.ensures ∙ ap Ok (sym (c.in_ok-put_all.ensures ∙ ap (λ all. after_given c.args.self.now.target.now.suffix c.args.self.now.target.now.name (all_given_in g.F.ExactField.value all) c.args.store.now) c.as_slice-all.ensures.value))
