use Rattle.std.proofs.Common.{ap, ◌∙◌}
use Rattle.lp_core.specs.Dictionary.{entry_at}
use Rattle.lp_integer_dict.specs.Whole.{integer_dictionary as dictionary_of}
use Rattle.lp_dict.proofs.Finals.{priced_is}
use Rattle.lp_dict.proofs.reading.coefficient.Goals as goal

pub returns-clause-priced : goal.returns-clause-priced
returns-clause-priced g c =
    λ k priced none. c.free_entry.ensures.free none ∙ ap (λ i. entry_at (dictionary_of c.args.rows.now) i c.args.v) (c.priced.ensures ∙ priced_is (dictionary_of c.args.rows.now) c.keeps.ensures.proper k priced)
