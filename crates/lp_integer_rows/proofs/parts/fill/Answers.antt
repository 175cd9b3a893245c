use Rattle.std.proofs.Common.{rules, ◌<◌, ◌^◌, pos, nat_abs, FitsSigned, to_z, of_z, refl, sym, ap, ◌∙◌, subst, arith}
use Rattle.std.specs.Int.{w128}
use Rattle.std.specs.Prelude.{slice_index_or}
use Rattle.std.proofs.lemmas.Int.{to_z-of_z}
use Rattle.gq_number.specs.Number.{ratio}
use Rattle.lp_integer_rows.specs.Parts.{AreFilled}
use Rattle.lp_integer_rows.proofs.Plans.{index_get}
use Rattle.lp_integer_rows.proofs.Filling.{filled_more}
use Rattle.lp_integer_rows.proofs.parts.fill.Goals as goal

pub loop-i-preserved : goal.loop-i-preserved
loop-i-preserved c =
    let told = c.in-Some.ensures in
    let fits : FitsSigned w128 c.in-Some.number = search rules in
    let is = to_z-of_z w128 c.in-Some.number fits in
    filled_more c.args.parts.now c.args.multiple c.args.width c.loop-i.i c.loop-i.numbers.items (slice_index_or c.args.parts.now c.loop-i.i (record { column = 0; numerator = pos 0; denominator = 0 })) (to_z w128 (of_z w128 c.in-Some.number)) c.requires.there c.requires.apart c.loop-i.invariant (index_get c.args.parts.now c.loop-i.i (slice_index_or c.args.parts.now c.loop-i.i (record { column = 0; numerator = pos 0; denominator = 0 })) (record { column = 0; numerator = pos 0; denominator = 0 }) c.loop-i-test.true refl)
    (subst (λ z. nat_abs z < 2 ^ 127) (sym is) told.0) (ap (λ z. ratio z c.args.multiple) is ∙ told.1)

pub returns-in_default : goal.returns-in_default
returns-in_default c =
    record {
      at = c.loop-i.i;
      part = slice_index_or c.args.parts.now c.loop-i.i (record { column = 0; numerator = pos 0; denominator = 0 });
      there = index_get c.args.parts.now c.loop-i.i (slice_index_or c.args.parts.now c.loop-i.i (record { column = 0; numerator = pos 0; denominator = 0 })) (record { column = 0; numerator = pos 0; denominator = 0 }) c.loop-i-test.true refl;
      past = c.in_default.ensures;
    }

pub scaled-requires-clause-positive : goal.scaled-requires-clause-positive
scaled-requires-clause-positive c = (c.requires.there c.loop-i.i (slice_index_or c.args.parts.now c.loop-i.i (record { column = 0; numerator = pos 0; denominator = 0 })) (index_get c.args.parts.now c.loop-i.i (slice_index_or c.args.parts.now c.loop-i.i (record { column = 0; numerator = pos 0; denominator = 0 })) (record { column = 0; numerator = pos 0; denominator = 0 }) c.loop-i-test.true refl)).1

pub scaled-requires-clause-divides : goal.scaled-requires-clause-divides
scaled-requires-clause-divides c = c.requires.multiple.divides c.loop-i.i (slice_index_or c.args.parts.now c.loop-i.i (record { column = 0; numerator = pos 0; denominator = 0 })) c.loop-i-test.true (index_get c.args.parts.now c.loop-i.i (slice_index_or c.args.parts.now c.loop-i.i (record { column = 0; numerator = pos 0; denominator = 0 })) (record { column = 0; numerator = pos 0; denominator = 0 }) c.loop-i-test.true refl)

pub index_mut-requires : goal.index_mut-requires
index_mut-requires c =
    let sized = c.loop-i.invariant.sized in
    let less = (c.requires.there c.loop-i.i (slice_index_or c.args.parts.now c.loop-i.i (record { column = 0; numerator = pos 0; denominator = 0 })) (index_get c.args.parts.now c.loop-i.i (slice_index_or c.args.parts.now c.loop-i.i (record { column = 0; numerator = pos 0; denominator = 0 })) (record { column = 0; numerator = pos 0; denominator = 0 }) c.loop-i-test.true refl)).0 in
    omega (arith, c.loop-i.numbers.ok.0)

pub returns : goal.returns
returns c = subst (λ n. AreFilled c.args.parts.now c.args.multiple c.args.width n c.loop-i.numbers.items) (omega arith) c.loop-i.invariant
