use Rattle.std.proofs.Common.{◌≡◌, subst}
use Rattle.lp_integer_dict.specs.Whole.{WholeTableau, integer_dictionary}
use Rattle.lp_integer_dict.proofs.Crowding.{tableau_same, whole_same, dictionary_same}
use Rattle.lp_integer_dict.proofs.whole.Whole.reduced.Goals as goal

pub invariant_of-same : goal.invariant_of-same
invariant_of-same c = whole_same (record { variables = c.self.inside.variables; basic = c.self.inside.basic.items; lines = c.self.inside.lines.items; deferred = c.self.inside.deferred; bound = c.self.inside.bound }) c.self.invariant c.reduce_lines.new.lines.items c.in_ok-reduce_lines.ensures

pub returns-clause-same : goal.returns-clause-same
returns-clause-same c =
    subst (λ (t : WholeTableau). integer_dictionary (tableau_same (record { variables = c.self.inside.variables; basic = c.self.inside.basic.items; lines = c.self.inside.lines.items; deferred = c.self.inside.deferred; bound = c.self.inside.bound }) c.self.invariant c.reduce_lines.new.lines.items c.in_ok-reduce_lines.ensures) ≡ integer_dictionary t) c.self.view_is (dictionary_same (record { variables = c.self.inside.variables; basic = c.self.inside.basic.items; lines = c.self.inside.lines.items; deferred = c.self.inside.deferred; bound = c.self.inside.bound }) c.self.invariant c.reduce_lines.new.lines.items c.in_ok-reduce_lines.ensures)
