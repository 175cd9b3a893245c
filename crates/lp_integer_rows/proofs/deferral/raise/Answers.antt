use Rattle.std.proofs.Common.{rules, ◌≢◌, ◌<ℤ◌, pos, FitsSigned, refl, sym, ◌∙◌, subst, arith}
use Rattle.std.specs.Int.{w128}
use Rattle.std.proofs.lemmas.Int.{ints, to_z-of_z}
use Rattle.lp_integer_rows.specs.declared.line.Line.{Line}
use Rattle.lp_integer_rows.proofs.Putting.{raised_plain, raised_negated, above_zero}
use Rattle.lp_integer_rows.proofs.deferral.raise.Goals as goal

pub negate-requires : goal.negate-requires
negate-requires c = λ k.
    let within = c.requires.line.numbers_within k in
    let small = c.requires.line.small in
    omega arith

pub returns-then-number-lt0 : goal.returns-then-number-lt0
returns-then-number-lt0 c =
    let fits : FitsSigned w128 c.number_at-number.result = search rules in
    let is = to_z-of_z w128 c.number_at-number.result fits in
    let told = c.if-number-lt0.true in
    let below : c.number_at-number.result <ℤ pos 0 = omega (arith, ints) in
    let after : Line = record { numbers = c.negate.new.self; denominator = c.args.line.now.denominator; most = c.args.line.now.most; marks = c.args.line.now.marks; leading = c.of-line.result } in
    raised_negated c.args.line.now after c.requires.line c.negate.ensures.sized c.negate.ensures.numbers refl refl refl c.of-line.ensures (subst (λ z. z <ℤ pos 0) c.number_at-number.ensures below)

pub returns-else-number-lt0 : goal.returns-else-number-lt0
returns-else-number-lt0 c =
    let fits : FitsSigned w128 c.number_at-number.result = search rules in
    let is = to_z-of_z w128 c.number_at-number.result fits in
    let told = c.if-number-lt0.false in
    let some : c.number_at-number.result ≢ pos 0 = λ none. c.requires.some (sym c.number_at-number.ensures ∙ none) in
    let above : pos 0 <ℤ c.number_at-number.result = above_zero c.number_at-number.result (omega (arith, ints)) some in
    raised_plain c.args.line.now c.requires.line (subst (λ z. pos 0 <ℤ z) c.number_at-number.ensures above)
