use Rattle.std.proofs.Common.{ap, ◌∙◌}
use Rattle.lp_fraction_dict.proofs.Kept.{contains_get}
use Rattle.lp_integer_dict.specs.Whole.{integer_dictionary as dictionary_of}
use Rattle.lp_dict.proofs.reading.amount.Goals as goal

pub returns-in-Some-clause-basic : goal.returns-in-Some-clause-basic
returns-in-Some-clause-basic g c =
    λ k at. c.number_at.ensures ∙ ap (λ i. (dictionary_of c.args.rows.now).numbers i 0) (c.keeps.ensures.proper.distinct c.in-Some.place k c.args.v c.in-Some.ensures at)

pub returns-in-Some-clause-other : goal.returns-in-Some-clause-other
returns-in-Some-clause-other g c = λ none. absurd (none (contains_get c.args.rows.now.basic c.in-Some.place c.args.v c.in-Some.ensures))

pub returns-in-None-clause-basic : goal.returns-in-None-clause-basic
returns-in-None-clause-basic g c = λ k at. absurd (c.in-None.ensures (contains_get c.args.rows.now.basic k c.args.v at))
