use Rattle.std.proofs.Common.{rules, ◌<◌, length, sym, ◌∙◌, subst, arith}
use Rattle.std.specs.Int.{w128}
use Rattle.std.proofs.lemmas.Int.{to_z-of_z}
use Rattle.lp_integer_dict.specs.WithinBound.{IsNumberAbove}
use Rattle.lp_integer_rows.proofs.Plans.{index_get}
use Rattle.lp_integer_dict.proofs.Reading.{read_at_plain, read_at_pivot, read_at_other, pivot_within, ready}
use Rattle.lp_integer_dict.proofs.read.read_below.Goals as goal

pub returns-then-place-k-clause-number : goal.returns-then-place-k-clause-number
returns-then-place-k-clause-number c = (read_at_pivot c.args.lines.now c.args.deferred c.in-Some.k c.requires.lines.0 c.requires.lines.1 c.in-Some.is c.requires.lines.2 c.args.place c.args.column c.index-lines-k.result _ _ c.if-place-k.true c.index-lines-k.is c.read_pivot.ensures.numerator c.read_pivot.ensures.denominator).number

pub returns-then-place-k-clause-shared : goal.returns-then-place-k-clause-shared
returns-then-place-k-clause-shared c = (read_at_pivot c.args.lines.now c.args.deferred c.in-Some.k c.requires.lines.0 c.requires.lines.1 c.in-Some.is c.requires.lines.2 c.args.place c.args.column c.index-lines-k.result _ _ c.if-place-k.true c.index-lines-k.is c.read_pivot.ensures.numerator c.read_pivot.ensures.denominator).shared

pub returns-then-place-k-clause-within : goal.returns-then-place-k-clause-within
returns-then-place-k-clause-within c = (read_at_pivot c.args.lines.now c.args.deferred c.in-Some.k c.requires.lines.0 c.requires.lines.1 c.in-Some.is c.requires.lines.2 c.args.place c.args.column c.index-lines-k.result _ _ c.if-place-k.true c.index-lines-k.is c.read_pivot.ensures.numerator c.read_pivot.ensures.denominator).within

pub returns-then-place-k-clause-positive : goal.returns-then-place-k-clause-positive
returns-then-place-k-clause-positive c = (read_at_pivot c.args.lines.now c.args.deferred c.in-Some.k c.requires.lines.0 c.requires.lines.1 c.in-Some.is c.requires.lines.2 c.args.place c.args.column c.index-lines-k.result _ _ c.if-place-k.true c.index-lines-k.is c.read_pivot.ensures.numerator c.read_pivot.ensures.denominator).positive

pub read_above-requires-clause-line : goal.read_above-requires-clause-line
read_above-requires-clause-line c = (ready c.args.lines.now c.args.deferred c.in-Some.k c.requires.lines.0 c.requires.lines.1 c.in-Some.is c.requires.lines.2 c.args.place c.args.column c.index-lines-place.result c.index-lines-k.result c.if-place-k.false c.requires.within c.requires.lines.3 c.index-lines-place.is c.index-lines-k.is).line

pub read_above-requires-clause-pivot : goal.read_above-requires-clause-pivot
read_above-requires-clause-pivot c = (ready c.args.lines.now c.args.deferred c.in-Some.k c.requires.lines.0 c.requires.lines.1 c.in-Some.is c.requires.lines.2 c.args.place c.args.column c.index-lines-place.result c.index-lines-k.result c.if-place-k.false c.requires.within c.requires.lines.3 c.index-lines-place.is c.index-lines-k.is).pivot

pub read_above-requires-clause-within : goal.read_above-requires-clause-within
read_above-requires-clause-within c = (ready c.args.lines.now c.args.deferred c.in-Some.k c.requires.lines.0 c.requires.lines.1 c.in-Some.is c.requires.lines.2 c.args.place c.args.column c.index-lines-place.result c.index-lines-k.result c.if-place-k.false c.requires.within c.requires.lines.3 c.index-lines-place.is c.index-lines-k.is).within

pub read_above-requires-clause-sized : goal.read_above-requires-clause-sized
read_above-requires-clause-sized c = (ready c.args.lines.now c.args.deferred c.in-Some.k c.requires.lines.0 c.requires.lines.1 c.in-Some.is c.requires.lines.2 c.args.place c.args.column c.index-lines-place.result c.index-lines-k.result c.if-place-k.false c.requires.within c.requires.lines.3 c.index-lines-place.is c.index-lines-k.is).sized

pub read_above-requires-clause-zero : goal.read_above-requires-clause-zero
read_above-requires-clause-zero c = (ready c.args.lines.now c.args.deferred c.in-Some.k c.requires.lines.0 c.requires.lines.1 c.in-Some.is c.requires.lines.2 c.args.place c.args.column c.index-lines-place.result c.index-lines-k.result c.if-place-k.false c.requires.within c.requires.lines.3 c.index-lines-place.is c.index-lines-k.is).zero

pub read_above-requires-clause-within_bound : goal.read_above-requires-clause-within_bound
read_above-requires-clause-within_bound c = (ready c.args.lines.now c.args.deferred c.in-Some.k c.requires.lines.0 c.requires.lines.1 c.in-Some.is c.requires.lines.2 c.args.place c.args.column c.index-lines-place.result c.index-lines-k.result c.if-place-k.false c.requires.within c.requires.lines.3 c.index-lines-place.is c.index-lines-k.is).within_bound

pub returns-clause-positive : goal.returns-clause-positive
returns-clause-positive c = (read_at_other c.args.lines.now c.args.deferred c.in-Some.k c.requires.lines.0 c.requires.lines.1 c.in-Some.is c.requires.lines.2 c.args.place c.args.column c.index-lines-place.result c.index-lines-k.result _ _ c.if-place-k.false c.requires.within c.index-lines-place.is c.index-lines-k.is c.read_above.ensures.numerator c.read_above.ensures.denominator).positive

pub returns-clause-number : goal.returns-clause-number
returns-clause-number c = (read_at_other c.args.lines.now c.args.deferred c.in-Some.k c.requires.lines.0 c.requires.lines.1 c.in-Some.is c.requires.lines.2 c.args.place c.args.column c.index-lines-place.result c.index-lines-k.result _ _ c.if-place-k.false c.requires.within c.index-lines-place.is c.index-lines-k.is c.read_above.ensures.numerator c.read_above.ensures.denominator).number

pub returns-clause-shared : goal.returns-clause-shared
returns-clause-shared c = (read_at_other c.args.lines.now c.args.deferred c.in-Some.k c.requires.lines.0 c.requires.lines.1 c.in-Some.is c.requires.lines.2 c.args.place c.args.column c.index-lines-place.result c.index-lines-k.result _ _ c.if-place-k.false c.requires.within c.index-lines-place.is c.index-lines-k.is c.read_above.ensures.numerator c.read_above.ensures.denominator).shared

pub returns-clause-within : goal.returns-clause-within
returns-clause-within c = (read_at_other c.args.lines.now c.args.deferred c.in-Some.k c.requires.lines.0 c.requires.lines.1 c.in-Some.is c.requires.lines.2 c.args.place c.args.column c.index-lines-place.result c.index-lines-k.result _ _ c.if-place-k.false c.requires.within c.index-lines-place.is c.index-lines-k.is c.read_above.ensures.numerator c.read_above.ensures.denominator).within

pub read_own-requires-clause-line : goal.read_own-requires-clause-line
read_own-requires-clause-line c = (c.requires.lines.2.are_lines c.args.place c.index-lines-place.result (index_get c.args.lines.now c.args.place c.index-lines-place.result c.index-lines-place.result c.requires.within (sym c.index-lines-place.is))).0

pub read_own-requires-clause-within : goal.read_own-requires-clause-within
read_own-requires-clause-within c = let e = (c.requires.lines.2.are_lines c.args.place c.index-lines-place.result (index_get c.args.lines.now c.args.place c.index-lines-place.result c.index-lines-place.result c.requires.within (sym c.index-lines-place.is))).1 in let f = c.requires.lines.3 in omega arith

pub offset_bounds-lines-k : goal.offset_bounds-lines-k
offset_bounds-lines-k c = let less : c.in-Some.k < length c.args.lines.now = pivot_within c.args.lines.now c.args.deferred c.in-Some.k c.requires.lines.0 c.requires.lines.1 c.in-Some.is c.requires.lines.2 in search rules

pub bounds-lines-k : goal.bounds-lines-k
bounds-lines-k c = pivot_within c.args.lines.now c.args.deferred c.in-Some.k c.requires.lines.0 c.requires.lines.1 c.in-Some.is c.requires.lines.2

pub read_pivot-requires-clause-line : goal.read_pivot-requires-clause-line
read_pivot-requires-clause-line c = (c.requires.lines.2.are_lines c.in-Some.k c.index-lines-k.result (index_get c.args.lines.now c.in-Some.k c.index-lines-k.result c.index-lines-k.result (pivot_within c.args.lines.now c.args.deferred c.in-Some.k c.requires.lines.0 c.requires.lines.1 c.in-Some.is c.requires.lines.2) (sym c.index-lines-k.is))).0

pub read_pivot-requires-clause-within : goal.read_pivot-requires-clause-within
read_pivot-requires-clause-within c =
    let e = (c.requires.lines.2.are_lines c.in-Some.k c.index-lines-k.result (index_get c.args.lines.now c.in-Some.k c.index-lines-k.result c.index-lines-k.result (pivot_within c.args.lines.now c.args.deferred c.in-Some.k c.requires.lines.0 c.requires.lines.1 c.in-Some.is c.requires.lines.2) (sym c.index-lines-k.is))).1 in let f = c.requires.lines.3 in let w = c.requires.lines.2.wide in (omega arith, omega arith)

pub returns-in_default-clause-positive : goal.returns-in_default-clause-positive
returns-in_default-clause-positive c = (read_at_plain c.args.lines.now c.args.deferred c.requires.lines.0 c.requires.lines.1 c.args.place c.args.column c.index-lines-place.result _ _ c.in_default.is c.requires.lines.2 (index_get c.args.lines.now c.args.place c.index-lines-place.result c.index-lines-place.result c.requires.within (sym c.index-lines-place.is)) c.read_own.ensures.numerator c.read_own.ensures.denominator).positive

pub returns-in_default-clause-number : goal.returns-in_default-clause-number
returns-in_default-clause-number c = (read_at_plain c.args.lines.now c.args.deferred c.requires.lines.0 c.requires.lines.1 c.args.place c.args.column c.index-lines-place.result _ _ c.in_default.is c.requires.lines.2 (index_get c.args.lines.now c.args.place c.index-lines-place.result c.index-lines-place.result c.requires.within (sym c.index-lines-place.is)) c.read_own.ensures.numerator c.read_own.ensures.denominator).number

pub returns-in_default-clause-shared : goal.returns-in_default-clause-shared
returns-in_default-clause-shared c = (read_at_plain c.args.lines.now c.args.deferred c.requires.lines.0 c.requires.lines.1 c.args.place c.args.column c.index-lines-place.result _ _ c.in_default.is c.requires.lines.2 (index_get c.args.lines.now c.args.place c.index-lines-place.result c.index-lines-place.result c.requires.within (sym c.index-lines-place.is)) c.read_own.ensures.numerator c.read_own.ensures.denominator).shared

pub returns-in_default-clause-within : goal.returns-in_default-clause-within
returns-in_default-clause-within c = (read_at_plain c.args.lines.now c.args.deferred c.requires.lines.0 c.requires.lines.1 c.args.place c.args.column c.index-lines-place.result _ _ c.in_default.is c.requires.lines.2 (index_get c.args.lines.now c.args.place c.index-lines-place.result c.index-lines-place.result c.requires.within (sym c.index-lines-place.is)) c.read_own.ensures.numerator c.read_own.ensures.denominator).within

pub returns-then-place-k-clause-numerator : goal.returns-then-place-k-clause-numerator
returns-then-place-k-clause-numerator c = (read_at_pivot c.args.lines.now c.args.deferred c.in-Some.k c.requires.lines.0 c.requires.lines.1 c.in-Some.is c.requires.lines.2 c.args.place c.args.column c.index-lines-k.result _ _ c.if-place-k.true c.index-lines-k.is c.read_pivot.ensures.numerator c.read_pivot.ensures.denominator).named

pub returns-clause-numerator : goal.returns-clause-numerator
returns-clause-numerator c = (read_at_other c.args.lines.now c.args.deferred c.in-Some.k c.requires.lines.0 c.requires.lines.1 c.in-Some.is c.requires.lines.2 c.args.place c.args.column c.index-lines-place.result c.index-lines-k.result _ _ c.if-place-k.false c.requires.within c.index-lines-place.is c.index-lines-k.is c.read_above.ensures.numerator c.read_above.ensures.denominator).named

pub returns-in_default-clause-numerator : goal.returns-in_default-clause-numerator
returns-in_default-clause-numerator c = (read_at_plain c.args.lines.now c.args.deferred c.requires.lines.0 c.requires.lines.1 c.args.place c.args.column c.index-lines-place.result _ _ c.in_default.is c.requires.lines.2 (index_get c.args.lines.now c.args.place c.index-lines-place.result c.index-lines-place.result c.requires.within (sym c.index-lines-place.is)) c.read_own.ensures.numerator c.read_own.ensures.denominator).named

pub read_above-requires-clause-above : goal.read_above-requires-clause-above
read_above-requires-clause-above c =
    to_z-of_z w128 c.args.above c.ranges.above
    ∙ subst (λ o. IsNumberAbove o c.args.lines.now c.args.column c.args.above) c.in-Some.is c.requires.above c.index-lines-k.result
    (index_get c.args.lines.now c.in-Some.k c.index-lines-k.result c.index-lines-k.result (pivot_within c.args.lines.now c.args.deferred c.in-Some.k c.requires.lines.0 c.requires.lines.1 c.in-Some.is c.requires.lines.2) (sym c.index-lines-k.is))
