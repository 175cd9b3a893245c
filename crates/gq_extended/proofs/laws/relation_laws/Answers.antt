-- The relations order all but NA.
use Rattle.std.proofs.Common.{true, false, ◌≡◌, sym, ◌∙◌}
use Rattle.gq_extended.proofs.RelationLaws.{equals_is, is_less_trans, at_most_either, opposite, between, na_less, less_na, na_at_most, at_most_na, lesser_is, greater_is}
use Rattle.gq_extended.proofs.laws.relation_laws.Goals as goal

pub returns-clause-equals : goal.returns-clause-equals
returns-clause-equals c = equals_is

pub returns-clause-transitive : goal.returns-clause-transitive
returns-clause-transitive c = is_less_trans

pub returns-clause-at_most : goal.returns-clause-at_most
returns-clause-at_most c = at_most_either

pub returns-clause-opposite : goal.returns-clause-opposite
returns-clause-opposite c = opposite

pub returns-clause-between : goal.returns-clause-between
returns-clause-between c = between

pub returns-clause-na_on_the_left : goal.returns-clause-na_on_the_left
returns-clause-na_on_the_left c = λ x. (λ e. (let f : true ≡ false = sym e ∙ na_less x in cc), λ e. (let f : true ≡ false = sym e ∙ na_at_most x in cc))

pub returns-clause-na_on_the_right : goal.returns-clause-na_on_the_right
returns-clause-na_on_the_right c = λ x. (λ e. (let f : true ≡ false = sym e ∙ less_na x in cc), λ e. (let f : true ≡ false = sym e ∙ at_most_na x in cc))

pub returns-clause-lesser : goal.returns-clause-lesser
returns-clause-lesser c = lesser_is

pub returns-clause-greater : goal.returns-clause-greater
returns-clause-greater c = greater_is
