-- Where the divisor divides the number, it is what both share.
use Rattle.std.proofs.Common.{◌%◌, sym, ap, ◌∙◌}
use Rattle.gq_number.specs.Gcd.{gcd}
use Rattle.gq_number.proofs.Gcd.{gcd-mod, gcd-zero, gcd_comm}
use Rattle.lp_integers.proofs.common.shared_by.Goals as goal

pub returns-then-n-eq0 : goal.returns-then-n-eq0
returns-then-n-eq0 c = sym (ap (λ k. gcd k c.args.divisor) c.if-n-eq0.true ∙ gcd_comm 0 c.args.divisor ∙ gcd-zero c.args.divisor)

pub returns-then-rest-eq0 : goal.returns-then-rest-eq0
returns-then-rest-eq0 c = sym (gcd-mod c.args.n c.args.divisor ∙ ap (gcd c.args.divisor) c.if-rest-eq0.true ∙ gcd-zero c.args.divisor)

pub returns : goal.returns
returns c = c.gcd_of_words-2.ensures ∙ gcd_comm (c.args.n % c.args.divisor) c.args.divisor ∙ sym (gcd-mod c.args.n c.args.divisor)
