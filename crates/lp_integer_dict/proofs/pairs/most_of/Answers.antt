use Rattle.std.proofs.Common.{rules, ◌≡◌, ◌+◌, ◌*◌, ◌<◌, ◌^◌, nat_abs, sym, ap, ap₂, ◌∙◌, arith}
use Rattle.lp_integers.specs.Lines.{whole_at}
use Rattle.lp_integer_rows.specs.Form.{wholes}
use Rattle.lp_integer_dict.proofs.Pairing.{most_plain, most_own, most_other}
use Rattle.lp_integer_rows.proofs.Plans.{index_get}
use Rattle.lp_integer_dict.proofs.Reading.{pivot_within, ready}
use Rattle.lp_integer_dict.proofs.pairs.most_of.Goals as goal

pub returns-in_default : goal.returns-in_default
returns-in_default c = most_plain c.args.lines.now c.args.deferred c.args.place c.index-lines-place.result c.in_default.is (index_get c.args.lines.now c.args.place c.index-lines-place.result c.index-lines-place.result c.requires.within (sym c.index-lines-place.is))

pub bounds-lines-k : goal.bounds-lines-k
bounds-lines-k c = pivot_within c.args.lines.now c.args.deferred c.in-Some.k c.requires.lines.0 c.requires.lines.1 c.in-Some.is c.requires.lines.2

pub returns-then-place-k : goal.returns-then-place-k
returns-then-place-k c = most_own c.args.lines.now c.args.deferred c.in-Some.k c.args.place c.index-lines-k.result c.in-Some.is c.if-place-k.true (index_get c.args.lines.now c.in-Some.k c.index-lines-k.result c.index-lines-k.result (pivot_within c.args.lines.now c.args.deferred c.in-Some.k c.requires.lines.0 c.requires.lines.1 c.in-Some.is c.requires.lines.2) (sym c.index-lines-k.is))

pub magnitude_at-requires-clause-line : goal.magnitude_at-requires-clause-line
magnitude_at-requires-clause-line c = (ready c.args.lines.now c.args.deferred c.in-Some.k c.requires.lines.0 c.requires.lines.1 c.in-Some.is c.requires.lines.2 c.args.place 1 c.index-lines-place.result c.index-lines-k.result c.if-place-k.false c.requires.within c.requires.lines.2.wide c.index-lines-place.is c.index-lines-k.is).pivot

pub magnitude_at-requires-clause-within : goal.magnitude_at-requires-clause-within
magnitude_at-requires-clause-within c = let r = (ready c.args.lines.now c.args.deferred c.in-Some.k c.requires.lines.0 c.requires.lines.1 c.in-Some.is c.requires.lines.2 c.args.place 1 c.index-lines-place.result c.index-lines-k.result c.if-place-k.false c.requires.within c.requires.lines.2.wide c.index-lines-place.is c.index-lines-k.is) in let e = r.sized in let f = r.zero in omega arith

pub magnitude_at-requires-2-clause-line : goal.magnitude_at-requires-2-clause-line
magnitude_at-requires-2-clause-line c = (ready c.args.lines.now c.args.deferred c.in-Some.k c.requires.lines.0 c.requires.lines.1 c.in-Some.is c.requires.lines.2 c.args.place 1 c.index-lines-place.result c.index-lines-k.result c.if-place-k.false c.requires.within c.requires.lines.2.wide c.index-lines-place.is c.index-lines-k.is).line

pub magnitude_at-requires-2-clause-within : goal.magnitude_at-requires-2-clause-within
magnitude_at-requires-2-clause-within c = (ready c.args.lines.now c.args.deferred c.in-Some.k c.requires.lines.0 c.requires.lines.1 c.in-Some.is c.requires.lines.2 c.args.place 1 c.index-lines-place.result c.index-lines-k.result c.if-place-k.false c.requires.within c.requires.lines.2.wide c.index-lines-place.is c.index-lines-k.is).zero

pub overflow_mul-result : goal.overflow_mul-result
overflow_mul-result c =
    let within_bound = (ready c.args.lines.now c.args.deferred c.in-Some.k c.requires.lines.0 c.requires.lines.1 c.in-Some.is c.requires.lines.2 c.args.place 1 c.index-lines-place.result c.index-lines-k.result c.if-place-k.false c.requires.within c.requires.lines.2.wide c.index-lines-place.is c.index-lines-k.is).within_bound in
    let is : c.index-lines-place.result.most * c.magnitude_at.result ≡ c.index-lines-place.result.most * nat_abs (whole_at (wholes c.index-lines-k.result) 1) = ap (λ m. c.index-lines-place.result.most * m) c.magnitude_at.ensures.value in
    let small : c.index-lines-place.result.most * c.magnitude_at.result < 2 ^ 128 = omega arith in
    search rules

pub overflow_mul-result-2 : goal.overflow_mul-result-2
overflow_mul-result-2 c =
    let within_bound = (ready c.args.lines.now c.args.deferred c.in-Some.k c.requires.lines.0 c.requires.lines.1 c.in-Some.is c.requires.lines.2 c.args.place 1 c.index-lines-place.result c.index-lines-k.result c.if-place-k.false c.requires.within c.requires.lines.2.wide c.index-lines-place.is c.index-lines-k.is).within_bound in
    let is : c.magnitude_at-2.result * c.index-lines-k.result.most ≡ nat_abs (whole_at (wholes c.index-lines-place.result) 1) * c.index-lines-k.result.most = ap (λ m. m * c.index-lines-k.result.most) c.magnitude_at-2.ensures.value in
    let small : c.magnitude_at-2.result * c.index-lines-k.result.most < 2 ^ 128 = omega arith in
    search rules

pub overflow_add-result : goal.overflow_add-result
overflow_add-result c =
    let within_bound = (ready c.args.lines.now c.args.deferred c.in-Some.k c.requires.lines.0 c.requires.lines.1 c.in-Some.is c.requires.lines.2 c.args.place 1 c.index-lines-place.result c.index-lines-k.result c.if-place-k.false c.requires.within c.requires.lines.2.wide c.index-lines-place.is c.index-lines-k.is).within_bound in
    let first : c.index-lines-place.result.most * c.magnitude_at.result ≡ c.index-lines-place.result.most * nat_abs (whole_at (wholes c.index-lines-k.result) 1) = ap (λ m. c.index-lines-place.result.most * m) c.magnitude_at.ensures.value in
    let second : c.magnitude_at-2.result * c.index-lines-k.result.most ≡ nat_abs (whole_at (wholes c.index-lines-place.result) 1) * c.index-lines-k.result.most = ap (λ m. m * c.index-lines-k.result.most) c.magnitude_at-2.ensures.value in
    let small : c.index-lines-place.result.most * c.magnitude_at.result + c.magnitude_at-2.result * c.index-lines-k.result.most < 2 ^ 128 = omega arith in
    search rules

pub returns : goal.returns
returns c =
    ap₂ (λ u z. c.index-lines-place.result.most * u + z * c.index-lines-k.result.most) c.magnitude_at.ensures.value c.magnitude_at-2.ensures.value
    ∙ most_other c.args.lines.now c.args.deferred c.in-Some.k c.args.place c.index-lines-place.result c.index-lines-k.result c.in-Some.is c.if-place-k.false (index_get c.args.lines.now c.args.place c.index-lines-place.result c.index-lines-place.result c.requires.within (sym c.index-lines-place.is)) (index_get c.args.lines.now c.in-Some.k c.index-lines-k.result c.index-lines-k.result (pivot_within c.args.lines.now c.args.deferred c.in-Some.k c.requires.lines.0 c.requires.lines.1 c.in-Some.is c.requires.lines.2) (sym c.index-lines-k.is))
