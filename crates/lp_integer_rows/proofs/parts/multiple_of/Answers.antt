use Rattle.std.proofs.Common.{◌<◌, sym, subst}
use Rattle.gq_number.proofs.Gcd.{gcd_pos}
use Rattle.lp_integer_rows.proofs.Filling.{multiple_found}
use Rattle.lp_integer_rows.proofs.parts.multiple_of.Goals as goal

pub nonzero_div-m : goal.nonzero_div-m
nonzero_div-m c = subst (λ g. 0 < g) (sym c.gcd-shared.ensures) (gcd_pos c.args.m c.args.d c.requires.second)

pub returns : goal.returns
returns c = multiple_found c.args.m c.args.d c.gcd-shared.result c.product_within.result c.requires.first c.requires.second c.gcd-shared.ensures c.product_within.ensures
