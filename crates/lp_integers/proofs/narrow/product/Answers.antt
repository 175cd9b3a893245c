-- The product of the stored numbers is that of the numbers.
use Rattle.std.specs.Int.{w64}
use Rattle.lp_integers.proofs.Lines.{product_fits, product_again}
use Rattle.lp_integers.proofs.narrow.product.Goals as goal

pub overflow_mul-result : goal.overflow_mul-result
overflow_mul-result c = product_fits w64 c.args.a c.args.n c.ranges.a c.ranges.n c.requires

pub returns : goal.returns
returns c = product_again w64 c.args.a c.args.n c.ranges.a c.ranges.n c.requires
