use Rattle.std.proofs.Common.{rules, ◌==◌}
use Rattle.std.specs.Prelude.{not}
use Rattle.std.proofs.lemmas.Fn.{filter_same}
use Rattle.lp_fraction_dict.specs.declared.row.Entry.{Entry}
use Rattle.lp_fraction_dict.proofs.exchange.forget_zero.Goals as goal

pub returns : goal.returns
returns g c = filter_same _ (λ (e : Entry _). not (e.column == 1)) _ (λ x b f' k. search rules) _ _ c.retain.ensures.filtered
