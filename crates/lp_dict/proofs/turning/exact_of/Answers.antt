use Rattle.std.proofs.Common.{◌+◌, length, ap, ◌∙◌, subst}
use Rattle.lp_fraction_dict.specs.First.{IsFilled}
use Rattle.lp_fraction_dict.specs.Lines.{entries_of_rows}
use Rattle.lp_fraction_dict.specs.Tableau as exact
use Rattle.lp_integer_dict.specs.Whole.{integer_dictionary as dictionary_of}
use Rattle.lp_dict.proofs.Filled.{turned_is, turned_tableau}
use Rattle.lp_dict.proofs.turning.exact_of.Goals as goal

pub of_rows-requires : goal.of_rows-requires
of_rows-requires g c =
    let d = dictionary_of c.args.rows.now in
    let basic_is = c.in_ok-basic.ensures.items ∙ c.basic-variables.ensures in
    let objective_is = subst (λ k. IsFilled g.F.ExactField.value (d.numbers k) (d.variables + 2) c.in_ok-objective.objective.items) (ap length c.basic-variables.ensures) c.in_ok-objective.ensures in
    turned_tableau g.F.ExactField.value d c.keeps.ensures.past c.keeps.ensures.outside (exact.fraction_tableau c.variables.result c.in_ok-basic.basic.items (entries_of_rows c.in_ok-made.made.items) c.in_ok-objective.objective.items c.args.upcoming) c.variables.ensures basic_is c.in_ok-made.ensures objective_is c.keeps.ensures.proper c.requires.few c.keeps.ensures.sized

pub returns-clause-same : goal.returns-clause-same
returns-clause-same g c =
    let d = dictionary_of c.args.rows.now in
    let basic_is = c.in_ok-basic.ensures.items ∙ c.basic-variables.ensures in
    let objective_is = subst (λ k. IsFilled g.F.ExactField.value (d.numbers k) (d.variables + 2) c.in_ok-objective.objective.items) (ap length c.basic-variables.ensures) c.in_ok-objective.ensures in
    ap (exact.fraction_dictionary g.F.ExactField.value) c.of_rows.ensures
    ∙ turned_is g.F.ExactField.value d c.keeps.ensures.past c.keeps.ensures.outside (exact.fraction_tableau c.variables.result c.in_ok-basic.basic.items (entries_of_rows c.in_ok-made.made.items) c.in_ok-objective.objective.items c.args.upcoming) c.variables.ensures basic_is c.in_ok-made.ensures objective_is
