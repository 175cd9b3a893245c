-- The other factor, with the sign of both.
use Rattle.std.proofs.Common.{arith}
use Rattle.gq_field.proofs.Fractions.{fits_yes, too_high, too_low, value_from_shows}
use Rattle.gq_field.proofs.Products.{product_with_unit}
use Rattle.gq_field.proofs.product.unit_product.Goals as goal
use Rattle.gq_field.proofs.product.unit_product.Goals.{then-y-limit-via-then-y-limit, then-y-limit-via-else-y-limit+then-y-limit-2}

pub returns-then-y-limit : goal.returns-then-y-limit
returns-then-y-limit c =
    let shown = product_with_unit c.args.unit c.args.y c.requires.magnitude c.requires.denominator in
    elim c.then-y-limit.branch [
      | then-y-limit-via-then-y-limit w ↦ too_high c.args.limit shown (omega arith)
      | then-y-limit-via-else-y-limit+then-y-limit-2 w ↦ too_low c.args.limit shown (omega arith)
    ]

pub returns : goal.returns
returns c =
    let shown = product_with_unit c.args.unit c.args.y c.requires.magnitude c.requires.denominator in
    (fits_yes c.args.limit shown (omega arith) (omega arith), value_from_shows _ _ shown)
