use Rattle.std.proofs.Common.{◌≡◌, ◌<◌, ◌-◌, ◌^◌, length, inl, inr, true≢false, List, Some, sym, ap, ◌∙◌, subst, arith}
use Rattle.std.specs.Prelude.{slice_get, MatchOption}
use Rattle.lp_integer_rows.specs.declared.line.Line.{Line}
use Rattle.lp_integer_rows.specs.Form.{AreLines, ArePlanned, IsPlan, IsSomeCrowded, AreTurned}
use Rattle.lp_integer_dict.specs.WithinBound.{ExchangedStayWithin}
use Rattle.lp_integer_rows.proofs.Plans.{index_get}
use Rattle.lp_integer_dict.proofs.Sameness.{line_above, plan_of, same_are}
use Rattle.lp_integer_dict.proofs.Arriving.{by_copies, made_so}
use Rattle.lp_integer_dict.proofs.apart.made_apart.Goals as goal

pub plan_lines-requires-clause-lines : goal.plan_lines-requires-clause-lines
plan_lines-requires-clause-lines c =
    let there : slice_get c.args.lines.now c.args.place ≡ Some c.index-lines-place.result = index_get c.args.lines.now c.args.place c.index-lines-place.result c.index-lines-place.result c.requires.within.0 (sym c.index-lines-place.is) in
    (c.requires.lines.0, c.requires.lines.1, (c.requires.lines.1 c.args.place c.index-lines-place.result there).1, c.requires.lines.3)

pub plan_lines-requires-clause-pivot : goal.plan_lines-requires-clause-pivot
plan_lines-requires-clause-pivot c =
    (c.requires.lines.1 c.args.place c.index-lines-place.result (index_get c.args.lines.now c.args.place c.index-lines-place.result c.index-lines-place.result c.requires.within.0 (sym c.index-lines-place.is))).0

pub plan_lines-requires-clause-above : goal.plan_lines-requires-clause-above
plan_lines-requires-clause-above c =
    line_above c.requires.lines.0 c.args.lines.now c.args.place c.args.column c.index-lines-place.result c.requires.lines.1 (index_get c.args.lines.now c.args.place c.index-lines-place.result c.index-lines-place.result c.requires.within.0 (sym c.index-lines-place.is)) c.requires.above

pub plan_lines-requires-clause-bounded : goal.plan_lines-requires-clause-bounded
plan_lines-requires-clause-bounded c = λ i l at. let small = (c.requires.lines.1 i l at).0.small in omega arith

pub returns-in_default : goal.returns-in_default
returns-in_default c =
    let there : slice_get c.args.lines.now c.args.place ≡ Some c.index-lines-place.result = index_get c.args.lines.now c.args.place c.index-lines-place.result c.index-lines-place.result c.requires.within.0 (sym c.index-lines-place.is) in
    inl (c.index-lines-place.result, there, subst (λ o. MatchOption o (IsSomeCrowded (2 ^ 127 - 1) c.args.column c.args.place c.args.lines.now c.index-lines-place.result) (λ ps. ArePlanned (2 ^ 127 - 1) c.args.column c.args.place c.args.lines.now c.index-lines-place.result ps.items (length c.args.lines.now))) c.in_default.is c.in_ok-plans.ensures)

pub exchange_lines-requires-clause-within : goal.exchange_lines-requires-clause-within
exchange_lines-requires-clause-within c = subst (λ (ls : List Line). c.args.place < length ls) (sym c.in_ok-made.ensures) c.requires.within.0

pub exchange_lines-requires-clause-lines : goal.exchange_lines-requires-clause-lines
exchange_lines-requires-clause-lines c = (c.requires.lines.0, subst (AreLines c.requires.lines.0) (sym c.in_ok-made.ensures) c.requires.lines.1, c.requires.lines.3)

pub exchange_lines-requires-clause-planned : goal.exchange_lines-requires-clause-planned
exchange_lines-requires-clause-planned c =
    let there : slice_get c.args.lines.now c.args.place ≡ Some c.index-lines-place.result = index_get c.args.lines.now c.args.place c.index-lines-place.result c.index-lines-place.result c.requires.within.0 (sym c.index-lines-place.is) in
    let planned : ArePlanned (2 ^ 127 - 1) c.args.column c.args.place c.args.lines.now c.index-lines-place.result c.in-Some.plans.items (length c.args.lines.now) =
    subst (λ o. MatchOption o (IsSomeCrowded (2 ^ 127 - 1) c.args.column c.args.place c.args.lines.now c.index-lines-place.result) (λ ps. ArePlanned (2 ^ 127 - 1) c.args.column c.args.place c.args.lines.now c.index-lines-place.result ps.items (length c.args.lines.now))) c.in-Some.is c.in_ok-plans.ensures in (
      2 ^ 127 - 1,
      subst (λ (ls : List Line). (l : Line) → slice_get ls c.args.place ≡ Some l → IsPlan (2 ^ 127 - 1) c.args.column c.args.place ls l c.as_slice.result.now) (sym c.in_ok-made.ensures)
          (λ l at. subst (IsPlan (2 ^ 127 - 1) c.args.column c.args.place c.args.lines.now l) (sym c.as_slice.ensures.value) (plan_of (2 ^ 127 - 1) c.args.column c.args.place c.requires.lines.0 c.args.lines.now c.in-Some.plans.items c.index-lines-place.result c.requires.lines.1 there (omega arith) c.requires.above planned l at)),
    )

pub settle_lines-requires : goal.settle_lines-requires
settle_lines-requires c =
    (c.requires.lines.0, c.in_ok-exchange_lines.ensures.are_lines c.requires.lines.0 (subst (AreLines c.requires.lines.0) (sym c.in_ok-made.ensures) c.requires.lines.1))

pub exchanged_stay_within-requires-clause-lines : goal.exchanged_stay_within-requires-clause-lines
exchanged_stay_within-requires-clause-lines c =
    let before : AreLines c.requires.lines.0 c.exchange_lines.new.lines.items = c.in_ok-exchange_lines.ensures.are_lines c.requires.lines.0 (subst (AreLines c.requires.lines.0) (sym c.in_ok-made.ensures) c.requires.lines.1) in
    (c.requires.lines.0, subst (AreLines c.requires.lines.0) (sym c.as_slice-2.ensures.value) (same_are c.exchange_lines.new.lines.items c.settle_lines.new.lines.items c.in_ok-settle_lines.ensures.same c.requires.lines.0 before), c.requires.lines.2)

pub exchanged_stay_within-requires-clause-within : goal.exchanged_stay_within-requires-clause-within
exchanged_stay_within-requires-clause-within c =
    let sized : length c.settle_lines.new.lines.items ≡ length c.args.lines.now = c.in_ok-settle_lines.ensures.same.sized ∙ c.in_ok-exchange_lines.ensures.sized ∙ ap length c.in_ok-made.ensures in
    subst (λ (ls : List Line). c.args.leaving < length ls) (sym c.as_slice-2.ensures.value) (let within = c.requires.within.1 in omega arith)

pub returns : goal.returns
returns c =
    let turned : AreTurned c.args.column c.args.place c.as_slice.result.now c.args.lines.now c.exchange_lines.new.lines.items = subst (λ (ls : List Line). AreTurned c.args.column c.args.place c.as_slice.result.now ls c.exchange_lines.new.lines.items) c.in_ok-made.ensures c.in_ok-exchange_lines.ensures in
    by_copies c.args.bound c.args.column c.args.place c.args.leaving c.args.lines.now c.exchange_lines.new.lines.items c.settle_lines.new.lines.items c.as_slice.result.now turned c.in_ok-settle_lines.ensures.same
    (subst (ExchangedStayWithin c.args.bound c.args.place c.args.leaving) c.as_slice-2.ensures.value (c.exchanged_stay_within.ensures.0 c.if-not-exchanged_stay_within.false))

pub returns-then-not-exchanged_stay_within : goal.returns-then-not-exchanged_stay_within
returns-then-not-exchanged_stay_within c =
    let turned : AreTurned c.args.column c.args.place c.as_slice.result.now c.args.lines.now c.exchange_lines.new.lines.items = subst (λ (ls : List Line). AreTurned c.args.column c.args.place c.as_slice.result.now ls c.exchange_lines.new.lines.items) c.in_ok-made.ensures c.in_ok-exchange_lines.ensures in
    inr (
      c.settle_lines.new.lines.items,
      made_so c.args.bound c.args.column c.args.place c.args.leaving c.args.lines.now c.exchange_lines.new.lines.items c.settle_lines.new.lines.items c.as_slice.result.now turned c.in_ok-settle_lines.ensures.same c.in_ok-settle_lines.ensures.lowest,
      λ h. true≢false (sym (c.exchanged_stay_within.ensures.1 (subst (ExchangedStayWithin c.args.bound c.args.place c.args.leaving) (sym c.as_slice-2.ensures.value) h)) ∙ c.if-not-exchanged_stay_within.true),
    )
