use Rattle.std.proofs.Common.{◌≡◌, inl, inr, pos, sym, ap, ◌∙◌, refl, arith}
use Rattle.std.specs.Prelude.{slice_get, slice_index_or, Some}
use Rattle.std.proofs.lemmas.Bool.{cases_eq}
use Rattle.lp_integer_rows.specs.declared.parts.Part.{Part}
use Rattle.lp_integer_rows.proofs.Plans.{index_get, same_some, get_within}
use Rattle.lp_integer_rows.proofs.parts.marks_of.Goals as goal

abbrev none : Part
none = record { column = 0; numerator = pos 0; denominator = 0 }

pub loop-i-preserved : goal.loop-i-preserved
loop-i-preserved c = λ k j p less clear at.
    let part : Part = slice_index_or c.args.parts.now c.loop-i.i none in
    let there : slice_get c.args.parts.now c.loop-i.i ≡ Some part = index_get c.args.parts.now c.loop-i.i part none c.loop-i-test.true refl in
    elim (cases_eq j c.loop-i.i) [
      | inl same ↦
          let is : p ≡ part = same_some p part (sym at ∙ ap (slice_get c.args.parts.now) same ∙ there) in
          λ e. c.and_at-marks.ensures.column k clear (sym e ∙ ap (λ q. q.column) is)
      | inr other ↦ c.loop-i.invariant k j p (omega arith) (c.and_at-marks.ensures.own k clear) at
    ]

pub returns : goal.returns
returns c = λ k i p clear at. c.loop-i.invariant k i p (let less = get_within c.args.parts.now i p at in omega arith) clear at
