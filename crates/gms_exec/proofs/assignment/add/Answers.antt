use Rattle.std.proofs.Common.{ap, sym, ◌∙◌}
use Rattle.std.proofs.lemmas.List.{map_push}
use Rattle.gms_exec.specs.InnerContracts.{given_in, all_given_in, with_found, found_in}
use Rattle.gms_exec.proofs.assignment.add.Goals as goal

pub returns-in-None : goal.returns-in-None
returns-in-None g c = sym (ap (λ found. with_found (all_given_in g.F.ExactField.value c.args.all.now.items) (found_in g.F.ExactField.value found)) c.in-None.is)

pub returns-in_ok-push-in-Some : goal.returns-in_ok-push-in-Some
returns-in_ok-push-in-Some g c =
    ap (all_given_in g.F.ExactField.value) c.in_ok-push-in-Some.ensures.items ∙ map_push (λ given. (given.0, given_in g.F.ExactField.value given.1)) c.args.all.now.items c.in-Some.found ∙ sym (ap (λ found. with_found (all_given_in g.F.ExactField.value c.args.all.now.items) (found_in g.F.ExactField.value found)) c.in-Some.is)
