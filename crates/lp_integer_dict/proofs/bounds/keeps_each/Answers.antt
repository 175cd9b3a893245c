use Rattle.std.proofs.Common.{◌≡◌, ◌<◌, length, true≢false, refl, sym, ap, ap₂, ◌+◌, ◌*◌, ◌≤◌, ◌∙◌, subst, subst₂, arith}
use Rattle.std.specs.Prelude.{slice_index_or}
use Rattle.lp_integer_rows.specs.declared.line.Line.{Line}
use Rattle.lp_integer_rows.specs.declared.line.Factors.{Factors}
use Rattle.lp_integer_dict.specs.WithinBound.{zero_after}
use Rattle.lp_integer_rows.proofs.Plans.{index_get, same_some, get_within}
use Rattle.lp_integer_dict.proofs.RowsWithinBound.{none, at, plans_sized, bound_more}
use Rattle.lp_integer_dict.proofs.bounds.keeps_each.Goals as goal
use Rattle.lp_integer_dict.proofs.bounds.keeps_each.Goals.{else-i-leaving-via-then-i-leaving+else-not-fits, else-i-leaving-via-else-i-leaving}

pub magnitude_after-u-requires-clause-within_bound : goal.magnitude_after-u-requires-clause-within_bound
magnitude_after-u-requires-clause-within_bound c = (at c.requires.lines.0 _ c.requires.planned.0 c.args.place c.args.lines.now c.args.plans.now c.index-lines-place.result c.requires.lines.1 c.requires.lines.2 (c.requires.planned.1 c.index-lines-place.result (index_get c.args.lines.now c.args.place c.index-lines-place.result c.index-lines-place.result c.requires.within.0 (sym c.index-lines-place.is))) (index_get c.args.lines.now c.args.place c.index-lines-place.result c.index-lines-place.result c.requires.within.0 (sym c.index-lines-place.is)) c.args.leaving c.index-lines-leaving.result (slice_index_or c.args.plans.now c.args.leaving none) c.requires.within.1 c.index-lines-leaving.is refl).within_bound

pub bounds-plans-i : goal.bounds-plans-i
bounds-plans-i c = let sized = plans_sized c.requires.lines.0 _ c.requires.planned.0 c.args.place c.args.lines.now c.args.plans.now c.index-lines-place.result c.requires.lines.1 c.requires.lines.2 (c.requires.planned.1 c.index-lines-place.result (index_get c.args.lines.now c.args.place c.index-lines-place.result c.index-lines-place.result c.requires.within.0 (sym c.index-lines-place.is))) (index_get c.args.lines.now c.args.place c.index-lines-place.result c.index-lines-place.result c.requires.within.0 (sym c.index-lines-place.is)) in omega arith

pub bounds-plans-leaving : goal.bounds-plans-leaving
bounds-plans-leaving c = let sized = plans_sized c.requires.lines.0 _ c.requires.planned.0 c.args.place c.args.lines.now c.args.plans.now c.index-lines-place.result c.requires.lines.1 c.requires.lines.2 (c.requires.planned.1 c.index-lines-place.result (index_get c.args.lines.now c.args.place c.index-lines-place.result c.index-lines-place.result c.requires.within.0 (sym c.index-lines-place.is))) (index_get c.args.lines.now c.args.place c.index-lines-place.result c.index-lines-place.result c.requires.within.0 (sym c.index-lines-place.is)) in let within = c.requires.within.1 in omega arith

pub magnitude_after-u-requires-clause-line : goal.magnitude_after-u-requires-clause-line
magnitude_after-u-requires-clause-line c = (at c.requires.lines.0 _ c.requires.planned.0 c.args.place c.args.lines.now c.args.plans.now c.index-lines-place.result c.requires.lines.1 c.requires.lines.2 (c.requires.planned.1 c.index-lines-place.result (index_get c.args.lines.now c.args.place c.index-lines-place.result c.index-lines-place.result c.requires.within.0 (sym c.index-lines-place.is))) (index_get c.args.lines.now c.args.place c.index-lines-place.result c.index-lines-place.result c.requires.within.0 (sym c.index-lines-place.is)) c.args.leaving c.index-lines-leaving.result (slice_index_or c.args.plans.now c.args.leaving none) c.requires.within.1 c.index-lines-leaving.is refl).line

pub magnitude_after-u-requires-clause-pivot : goal.magnitude_after-u-requires-clause-pivot
magnitude_after-u-requires-clause-pivot c = (at c.requires.lines.0 _ c.requires.planned.0 c.args.place c.args.lines.now c.args.plans.now c.index-lines-place.result c.requires.lines.1 c.requires.lines.2 (c.requires.planned.1 c.index-lines-place.result (index_get c.args.lines.now c.args.place c.index-lines-place.result c.index-lines-place.result c.requires.within.0 (sym c.index-lines-place.is))) (index_get c.args.lines.now c.args.place c.index-lines-place.result c.index-lines-place.result c.requires.within.0 (sym c.index-lines-place.is)) c.args.place c.index-lines-place.result (slice_index_or c.args.plans.now c.args.place none) c.requires.within.0 c.index-lines-place.is refl).line

pub magnitude_after-u-requires-clause-within : goal.magnitude_after-u-requires-clause-within
magnitude_after-u-requires-clause-within c = (at c.requires.lines.0 _ c.requires.planned.0 c.args.place c.args.lines.now c.args.plans.now c.index-lines-place.result c.requires.lines.1 c.requires.lines.2 (c.requires.planned.1 c.index-lines-place.result (index_get c.args.lines.now c.args.place c.index-lines-place.result c.index-lines-place.result c.requires.within.0 (sym c.index-lines-place.is))) (index_get c.args.lines.now c.args.place c.index-lines-place.result c.index-lines-place.result c.requires.within.0 (sym c.index-lines-place.is)) c.args.leaving c.index-lines-leaving.result (slice_index_or c.args.plans.now c.args.leaving none) c.requires.within.1 c.index-lines-leaving.is refl).wide

pub magnitude_after-u-requires-clause-also_within : goal.magnitude_after-u-requires-clause-also_within
magnitude_after-u-requires-clause-also_within c = (at c.requires.lines.0 _ c.requires.planned.0 c.args.place c.args.lines.now c.args.plans.now c.index-lines-place.result c.requires.lines.1 c.requires.lines.2 (c.requires.planned.1 c.index-lines-place.result (index_get c.args.lines.now c.args.place c.index-lines-place.result c.index-lines-place.result c.requires.within.0 (sym c.index-lines-place.is))) (index_get c.args.lines.now c.args.place c.index-lines-place.result c.index-lines-place.result c.requires.within.0 (sym c.index-lines-place.is)) c.args.place c.index-lines-place.result (slice_index_or c.args.plans.now c.args.place none) c.requires.within.0 c.index-lines-place.is refl).wide

pub magnitude_after-zero-requires-clause-line : goal.magnitude_after-zero-requires-clause-line
magnitude_after-zero-requires-clause-line c = (at c.requires.lines.0 _ c.requires.planned.0 c.args.place c.args.lines.now c.args.plans.now c.index-lines-place.result c.requires.lines.1 c.requires.lines.2 (c.requires.planned.1 c.index-lines-place.result (index_get c.args.lines.now c.args.place c.index-lines-place.result c.index-lines-place.result c.requires.within.0 (sym c.index-lines-place.is))) (index_get c.args.lines.now c.args.place c.index-lines-place.result c.index-lines-place.result c.requires.within.0 (sym c.index-lines-place.is)) c.loop-i.i c.index-lines-i.result (slice_index_or c.args.plans.now c.loop-i.i none) (omega arith) c.index-lines-i.is refl).line

pub magnitude_after-zero-requires-clause-pivot : goal.magnitude_after-zero-requires-clause-pivot
magnitude_after-zero-requires-clause-pivot c = (at c.requires.lines.0 _ c.requires.planned.0 c.args.place c.args.lines.now c.args.plans.now c.index-lines-place.result c.requires.lines.1 c.requires.lines.2 (c.requires.planned.1 c.index-lines-place.result (index_get c.args.lines.now c.args.place c.index-lines-place.result c.index-lines-place.result c.requires.within.0 (sym c.index-lines-place.is))) (index_get c.args.lines.now c.args.place c.index-lines-place.result c.index-lines-place.result c.requires.within.0 (sym c.index-lines-place.is)) c.args.place c.index-lines-place.result (slice_index_or c.args.plans.now c.args.place none) c.requires.within.0 c.index-lines-place.is refl).line

pub magnitude_after-zero-requires-clause-within : goal.magnitude_after-zero-requires-clause-within
magnitude_after-zero-requires-clause-within c = (at c.requires.lines.0 _ c.requires.planned.0 c.args.place c.args.lines.now c.args.plans.now c.index-lines-place.result c.requires.lines.1 c.requires.lines.2 (c.requires.planned.1 c.index-lines-place.result (index_get c.args.lines.now c.args.place c.index-lines-place.result c.index-lines-place.result c.requires.within.0 (sym c.index-lines-place.is))) (index_get c.args.lines.now c.args.place c.index-lines-place.result c.index-lines-place.result c.requires.within.0 (sym c.index-lines-place.is)) c.loop-i.i c.index-lines-i.result (slice_index_or c.args.plans.now c.loop-i.i none) (omega arith) c.index-lines-i.is refl).wide

pub magnitude_after-zero-requires-clause-also_within : goal.magnitude_after-zero-requires-clause-also_within
magnitude_after-zero-requires-clause-also_within c = (at c.requires.lines.0 _ c.requires.planned.0 c.args.place c.args.lines.now c.args.plans.now c.index-lines-place.result c.requires.lines.1 c.requires.lines.2 (c.requires.planned.1 c.index-lines-place.result (index_get c.args.lines.now c.args.place c.index-lines-place.result c.index-lines-place.result c.requires.within.0 (sym c.index-lines-place.is))) (index_get c.args.lines.now c.args.place c.index-lines-place.result c.index-lines-place.result c.requires.within.0 (sym c.index-lines-place.is)) c.args.place c.index-lines-place.result (slice_index_or c.args.plans.now c.args.place none) c.requires.within.0 c.index-lines-place.is refl).wide

pub magnitude_after-zero-requires-clause-within_bound : goal.magnitude_after-zero-requires-clause-within_bound
magnitude_after-zero-requires-clause-within_bound c = (at c.requires.lines.0 _ c.requires.planned.0 c.args.place c.args.lines.now c.args.plans.now c.index-lines-place.result c.requires.lines.1 c.requires.lines.2 (c.requires.planned.1 c.index-lines-place.result (index_get c.args.lines.now c.args.place c.index-lines-place.result c.index-lines-place.result c.requires.within.0 (sym c.index-lines-place.is))) (index_get c.args.lines.now c.args.place c.index-lines-place.result c.index-lines-place.result c.requires.within.0 (sym c.index-lines-place.is)) c.loop-i.i c.index-lines-i.result (slice_index_or c.args.plans.now c.loop-i.i none) (omega arith) c.index-lines-i.is refl).within_bound

pub loop-i-preserved : goal.loop-i-preserved
loop-i-preserved c =
    let here = (at c.requires.lines.0 _ c.requires.planned.0 c.args.place c.args.lines.now c.args.plans.now c.index-lines-place.result c.requires.lines.1 c.requires.lines.2 (c.requires.planned.1 c.index-lines-place.result (index_get c.args.lines.now c.args.place c.index-lines-place.result c.index-lines-place.result c.requires.within.0 (sym c.index-lines-place.is))) (index_get c.args.lines.now c.args.place c.index-lines-place.result c.index-lines-place.result c.requires.within.0 (sym c.index-lines-place.is)) c.loop-i.i c.index-lines-i.result (slice_index_or c.args.plans.now c.loop-i.i none) (omega arith) c.index-lines-i.is refl) in
    bound_more c.loop-i.i c.args.leaving c.index-lines-place.result (slice_index_or c.args.plans.now c.args.leaving none) c.magnitude_after-u.result c.args.lines.now c.args.plans.now c.args.bound c.index-lines-i.result (slice_index_or c.args.plans.now c.loop-i.i none) c.loop-i.invariant here.there here.by
    (elim c.else-i-leaving.branch [
      | else-i-leaving-via-then-i-leaving+else-not-fits w ↦ λ other. subst (λ z. (slice_index_or c.args.plans.now c.loop-i.i none).most * c.magnitude_after-u.result + z * (slice_index_or c.args.plans.now c.args.leaving none).most ≤ c.args.bound) c.magnitude_after-zero.ensures.value (w.fits.ensures.0 w.if-not-fits.false)
      | else-i-leaving-via-else-i-leaving w ↦ λ other. absurd (other w.if-i-leaving.false)
    ])

pub returns : goal.returns
returns c = λ p l g p_at l_at g_at. (
  λ yes i x f other there by.
      let of_leaving = (at c.requires.lines.0 _ c.requires.planned.0 c.args.place c.args.lines.now c.args.plans.now c.index-lines-place.result c.requires.lines.1 c.requires.lines.2 (c.requires.planned.1 c.index-lines-place.result (index_get c.args.lines.now c.args.place c.index-lines-place.result c.index-lines-place.result c.requires.within.0 (sym c.index-lines-place.is))) (index_get c.args.lines.now c.args.place c.index-lines-place.result c.index-lines-place.result c.requires.within.0 (sym c.index-lines-place.is)) c.args.leaving c.index-lines-leaving.result (slice_index_or c.args.plans.now c.args.leaving none) c.requires.within.1 c.index-lines-leaving.is refl) in
      let p_is : c.index-lines-place.result ≡ p = same_some c.index-lines-place.result p (sym (index_get c.args.lines.now c.args.place c.index-lines-place.result c.index-lines-place.result c.requires.within.0 (sym c.index-lines-place.is)) ∙ p_at) in
      let l_is : c.index-lines-leaving.result ≡ l = same_some c.index-lines-leaving.result l (sym of_leaving.there ∙ l_at) in
      let g_is : slice_index_or c.args.plans.now c.args.leaving none ≡ g = same_some (slice_index_or c.args.plans.now c.args.leaving none) g (sym of_leaving.by ∙ g_at) in
      let u_is : c.magnitude_after-u.result ≡ zero_after l p g = c.magnitude_after-u.ensures.value ∙ ap₂ (λ (s t : Line). zero_after s t (slice_index_or c.args.plans.now c.args.leaving none)) l_is p_is ∙ ap (zero_after l p) g_is in
      let within : i < length c.args.lines.now = get_within c.args.lines.now i x there in
      let within_bound = c.loop-i.invariant i x f (omega arith) other there by in
      subst₂ (λ m (r : Factors). f.most * m + zero_after x p f * r.most ≤ c.args.bound) u_is g_is (subst (λ (t : Line). f.most * c.magnitude_after-u.result + zero_after x t f * (slice_index_or c.args.plans.now c.args.leaving none).most ≤ c.args.bound) p_is within_bound),
  λ keeps. refl,
)

pub returns-then-not-fits : goal.returns-then-not-fits
returns-then-not-fits c = λ p l g p_at l_at g_at. (
  λ yes. absurd (true≢false (sym yes)),
  λ keeps.
      let of_leaving = (at c.requires.lines.0 _ c.requires.planned.0 c.args.place c.args.lines.now c.args.plans.now c.index-lines-place.result c.requires.lines.1 c.requires.lines.2 (c.requires.planned.1 c.index-lines-place.result (index_get c.args.lines.now c.args.place c.index-lines-place.result c.index-lines-place.result c.requires.within.0 (sym c.index-lines-place.is))) (index_get c.args.lines.now c.args.place c.index-lines-place.result c.index-lines-place.result c.requires.within.0 (sym c.index-lines-place.is)) c.args.leaving c.index-lines-leaving.result (slice_index_or c.args.plans.now c.args.leaving none) c.requires.within.1 c.index-lines-leaving.is refl) in
      let here = (at c.requires.lines.0 _ c.requires.planned.0 c.args.place c.args.lines.now c.args.plans.now c.index-lines-place.result c.requires.lines.1 c.requires.lines.2 (c.requires.planned.1 c.index-lines-place.result (index_get c.args.lines.now c.args.place c.index-lines-place.result c.index-lines-place.result c.requires.within.0 (sym c.index-lines-place.is))) (index_get c.args.lines.now c.args.place c.index-lines-place.result c.index-lines-place.result c.requires.within.0 (sym c.index-lines-place.is)) c.loop-i.i c.index-lines-i.result (slice_index_or c.args.plans.now c.loop-i.i none) (omega arith) c.index-lines-i.is refl) in
      let p_is : c.index-lines-place.result ≡ p = same_some c.index-lines-place.result p (sym (index_get c.args.lines.now c.args.place c.index-lines-place.result c.index-lines-place.result c.requires.within.0 (sym c.index-lines-place.is)) ∙ p_at) in
      let l_is : c.index-lines-leaving.result ≡ l = same_some c.index-lines-leaving.result l (sym of_leaving.there ∙ l_at) in
      let g_is : slice_index_or c.args.plans.now c.args.leaving none ≡ g = same_some (slice_index_or c.args.plans.now c.args.leaving none) g (sym of_leaving.by ∙ g_at) in
      let u_is : c.magnitude_after-u.result ≡ zero_after l p g = c.magnitude_after-u.ensures.value ∙ ap₂ (λ (s t : Line). zero_after s t (slice_index_or c.args.plans.now c.args.leaving none)) l_is p_is ∙ ap (zero_after l p) g_is in
      let f : Factors = slice_index_or c.args.plans.now c.loop-i.i none in
      let x : Line = c.index-lines-i.result in
      let told : f.most * zero_after l p g + zero_after x p f * g.most ≤ c.args.bound = keeps c.loop-i.i x f c.if-i-leaving.true here.there here.by in
      let own : f.most * c.magnitude_after-u.result + zero_after x p f * (slice_index_or c.args.plans.now c.args.leaving none).most ≤ c.args.bound =
      subst₂ (λ m (r : Factors). f.most * m + zero_after x p f * r.most ≤ c.args.bound) (sym u_is) (sym g_is) told in
      let within_bound : f.most * c.magnitude_after-u.result + c.magnitude_after-zero.result * (slice_index_or c.args.plans.now c.args.leaving none).most ≤ c.args.bound =
      subst (λ z. f.most * c.magnitude_after-u.result + z * (slice_index_or c.args.plans.now c.args.leaving none).most ≤ c.args.bound) (sym (c.magnitude_after-zero.ensures.value ∙ ap (λ (t : Line). zero_after x t f) p_is)) own in
      absurd (true≢false (sym (c.fits.ensures.1 within_bound) ∙ c.if-not-fits.true)),
)
