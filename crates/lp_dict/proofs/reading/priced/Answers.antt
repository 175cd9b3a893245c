use Rattle.std.proofs.Common.{length, sym, ap, ◌∙◌}
use Rattle.lp_integer_dict.specs.Whole.{integer_dictionary as dictionary_of}
use Rattle.lp_dict.proofs.Finals.{priced_of_place, priced_after}
use Rattle.lp_dict.proofs.reading.priced.Goals as goal

pub returns-in-Some : goal.returns-in-Some
returns-in-Some c = sym (priced_of_place (dictionary_of c.args.rows.now) c.keeps.ensures.proper c.in-Some.place c.in-Some.ensures)

pub returns-in-None : goal.returns-in-None
returns-in-None c = ap length c.basic.ensures ∙ sym (priced_after (dictionary_of c.args.rows.now) c.keeps.ensures.proper c.in-None.ensures)
