use Rattle.std.proofs.Common.{rules, ◌≡◌, ◌<◌, ◌≤◌, pos, ◌*ℤ◌, ◌/◌, nat_abs, length, FitsSigned, to_z, of_z, Some, refl, sym, ap, ◌∙◌, subst, arith}
use Rattle.std.specs.Prelude.{slice_get}
use Rattle.std.specs.Int.{◌∣◌, w128}
use Rattle.std.proofs.lemmas.Int.{to_z-of_z}
use Rattle.std.proofs.lemmas.Nat.Gcd.{le_of_dvd}
use Rattle.lp_integer_rows.specs.Form.{wholes}
use Rattle.lp_integer_dict.specs.WithinBound.{AreWhole, line_denominator, row_number}
use Rattle.lp_integer_rows.proofs.Plans.{index_get}
use Rattle.lp_integer_dict.proofs.Pairing.{IsRow, rows_are}
use Rattle.lp_integer_dict.proofs.Lowest.{IsReckoned, lowest}
use Rattle.lp_integer_dict.proofs.pairs.measured_lowest.Goals as goal

pub divisor_of_row-divisor-requires-clause-lines : goal.divisor_of_row-divisor-requires-clause-lines
divisor_of_row-divisor-requires-clause-lines c =
    let there : slice_get c.args.lines.now c.args.place ≡ Some c.index-lines-place.result = index_get c.args.lines.now c.args.place c.index-lines-place.result c.index-lines-place.result c.requires.within (sym c.index-lines-place.is) in
    let width_is : c.requires.lines.0 ≡ c.len-width.result = sym (c.len-width.ensures ∙ ap (λ l. length (wholes l)) (sym c.index-lines-place.is) ∙ (c.requires.lines.2.are_lines c.args.place c.index-lines-place.result there).1) in
    let whole : AreWhole c.args.lines.now c.args.deferred c.len-width.result c.requires.lines.1 = subst (λ n. AreWhole c.args.lines.now c.args.deferred n c.requires.lines.1) width_is c.requires.lines.2 in
    (c.requires.lines.1, whole)

pub most_of_row-most-requires-clause-lines : goal.most_of_row-most-requires-clause-lines
most_of_row-most-requires-clause-lines c =
    let there : slice_get c.args.lines.now c.args.place ≡ Some c.index-lines-place.result = index_get c.args.lines.now c.args.place c.index-lines-place.result c.index-lines-place.result c.requires.within (sym c.index-lines-place.is) in
    let width_is : c.requires.lines.0 ≡ c.len-width.result = sym (c.len-width.ensures ∙ ap (λ l. length (wholes l)) (sym c.index-lines-place.is) ∙ (c.requires.lines.2.are_lines c.args.place c.index-lines-place.result there).1) in
    let whole : AreWhole c.args.lines.now c.args.deferred c.len-width.result c.requires.lines.1 = subst (λ n. AreWhole c.args.lines.now c.args.deferred n c.requires.lines.1) width_is c.requires.lines.2 in
    (c.requires.lines.1, whole)

pub returns : goal.returns
returns c =
    let there : slice_get c.args.lines.now c.args.place ≡ Some c.index-lines-place.result = index_get c.args.lines.now c.args.place c.index-lines-place.result c.index-lines-place.result c.requires.within (sym c.index-lines-place.is) in
    let width_is : c.requires.lines.0 ≡ c.len-width.result = sym (c.len-width.ensures ∙ ap (λ l. length (wholes l)) (sym c.index-lines-place.is) ∙ (c.requires.lines.2.are_lines c.args.place c.index-lines-place.result there).1) in
    let whole : AreWhole c.args.lines.now c.args.deferred c.len-width.result c.requires.lines.1 = subst (λ n. AreWhole c.args.lines.now c.args.deferred n c.requires.lines.1) width_is c.requires.lines.2 in
    let fits : FitsSigned w128 c.read-number.result.numerator = search rules in
    let number_is : to_z w128 (of_z w128 c.read-number.result.numerator) ≡ row_number c.args.deferred c.args.lines.now c.args.place c.args.column = to_z-of_z w128 c.read-number.result.numerator fits ∙ c.read-number.ensures.numerator in
    let quotient_fits : FitsSigned w128 c.quotient.result = search rules in
    let h : IsReckoned c.args.lines.now c.args.deferred c.len-width.result c.args.place c.divisor_of_row-divisor.result c.most_of_row-most.result =
    record {
      positive = c.divisor_of_row-divisor.ensures.positive;
      of_denominator = c.divisor_of_row-divisor.ensures.denominator;
      of_numbers = c.divisor_of_row-divisor.ensures.numbers;
      greatest = c.divisor_of_row-divisor.ensures.greatest;
      low = c.most_of_row-most.ensures.denominator;
      within = c.most_of_row-most.ensures.numbers;
      least = c.most_of_row-most.ensures.least;
    } in
    lowest c.args.lines.now c.args.deferred c.len-width.result c.requires.lines.1 c.args.place c.args.column c.divisor_of_row-divisor.result c.most_of_row-most.result whole c.requires.within h (record { number = to_z w128 (of_z w128 c.quotient.result); most = c.most_of_row-most.result / c.divisor_of_row-divisor.result })
    (ap (λ z. z *ℤ pos c.divisor_of_row-divisor.result) (to_z-of_z w128 c.quotient.result quotient_fits) ∙ c.quotient.ensures ∙ number_is) refl

pub quotient-requires-clause-small : goal.quotient-requires-clause-small
quotient-requires-clause-small c =
    let row : IsRow c.args.lines.now c.args.deferred c.requires.lines.1 c.args.place = rows_are c.args.lines.now c.args.deferred c.requires.lines.0 c.requires.lines.1 c.args.place c.requires.lines.2 c.requires.within in
    let below : c.divisor_of_row-divisor.result ≤ line_denominator c.args.deferred c.args.lines.now c.args.place = le_of_dvd row.positive c.divisor_of_row-divisor.ensures.denominator in
    let low = row.low in
    let high = row.high in
    let small = c.requires.lines.2.small in
    omega arith

pub quotient-requires-clause-divides : goal.quotient-requires-clause-divides
quotient-requires-clause-divides c =
    let there : slice_get c.args.lines.now c.args.place ≡ Some c.index-lines-place.result = index_get c.args.lines.now c.args.place c.index-lines-place.result c.index-lines-place.result c.requires.within (sym c.index-lines-place.is) in
    let width_is : c.requires.lines.0 ≡ c.len-width.result = sym (c.len-width.ensures ∙ ap (λ l. length (wholes l)) (sym c.index-lines-place.is) ∙ (c.requires.lines.2.are_lines c.args.place c.index-lines-place.result there).1) in
    let fits : FitsSigned w128 c.read-number.result.numerator = search rules in
    let number_is : to_z w128 (of_z w128 c.read-number.result.numerator) ≡ row_number c.args.deferred c.args.lines.now c.args.place c.args.column = to_z-of_z w128 c.read-number.result.numerator fits ∙ c.read-number.ensures.numerator in
    subst (λ n. c.divisor_of_row-divisor.result ∣ nat_abs n) (sym number_is)
    (c.divisor_of_row-divisor.ensures.numbers c.args.column (subst (λ n. c.args.column < n) width_is c.requires.lines.3))
