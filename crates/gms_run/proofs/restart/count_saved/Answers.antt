use Rattle.std.proofs.Common.{not, refl, arith}
use Rattle.std.proofs.lemmas.List.Filters.{length-filter_both}
use Rattle.gms_save.specs.JointErrors.{is_saved}
use Rattle.gms_run.proofs.restart.count_saved.Goals as goal

pub returns-clause-few : goal.returns-clause-few
returns-clause-few c =
    let both = length-filter_both (is_saved c.args.line) (λ s. not (is_saved c.args.line s)) (λ s. refl) c.args.statements.now in
    let same = c.count_above.ensures in
    omega (arith, both, same)
