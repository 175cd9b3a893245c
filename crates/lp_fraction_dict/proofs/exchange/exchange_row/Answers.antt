use Rattle.std.proofs.Common.{ap, sym, ◌∙◌, arith}
use Rattle.lp_fraction_dict.specs.Rows.{number_in}
use Rattle.lp_fraction_dict.proofs.Exchanging.{stays_lessened}
use Rattle.lp_fraction_dict.proofs.exchange.exchange_row.Goals as goal

pub returns-then-is_zero : goal.returns-then-is_zero
returns-then-is_zero g c =
    λ high h o. (
      stays_lessened g.F.ExactField.value g.F.ExactField.limit high c.args.row.now.items (number_in g.F.ExactField.value c.args.row.now.items c.args.column) c.args.pivot_row.now (omega (arith, g.met.F.ExactField.limit_range.0)) g.met.F.ExactField.within
          (sym (ap (λ r. number_in g.F.ExactField.value r c.args.column) c.as_slice.ensures.value) ∙ sym c.number_at-factor.ensures ∙ c.is_zero.ensures.0 c.if-is_zero.true) h,
      tt,
    )
