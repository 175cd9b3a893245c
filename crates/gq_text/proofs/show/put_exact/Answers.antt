-- The sign, the numerator and the denominator; what is so has one text.
use Rattle.std.proofs.Common.{◌≡◌, ℕ, ◌&&◌, nat_lt, pos, nat_abs, List, ◌++◌, ap, ◌∙◌, subst}
use Rattle.std.specs.Int.RustNames.{int_lt}
use mir.Val.{to_z, of_z}
use mir.Syntax.{w128}
use Rattle.gq_text.specs.Numeral.{IsNumeral, WithSign}
use Rattle.gq_text.specs.InnerAppends.{sign_text}
use Rattle.gq_text.proofs.Showings.{WithSign_from, with_own_sign, sign_alone, read_back, IsExactText_from}
use Rattle.gq_text.proofs.Exacts.{exact_is}
use Rattle.gq_text.proofs.show.put_exact.Goals as goal

pub returns-clause-exact : goal.returns-clause-exact
returns-clause-exact g c =
    let x = g.F.ExactField.value c.args.v in
    let n = c.parts-numerator.result.0 in
    let range = g.met.F.ExactField.limit_range in
    let same : to_z w128 (of_z w128 n) ≡ x.numerator = read_back g.F.ExactField.limit x n (g.met.F.ExactField.within c.args.v) range.1 c.parts-numerator.ensures.numerator in
    let negative = int_lt (to_z w128 (of_z w128 n)) (pos 0) in
    let sign = sign_text negative in
    let numeral = c.push_numeral.ensures.numeral.numeral in
    let prefix : c.push_sign.new.self ≡ sign = c.push_sign.ensures ∙ ap (λ (l : List ℕ). l ++ sign) c.clear.ensures in
    let layout : c.push_numeral.new.self ≡ sign ++ numeral = c.push_numeral.ensures.numeral.appended ∙ ap (λ (l : List ℕ). l ++ numeral) prefix in
    let is_negative : negative ≡ (int_lt x.numerator (pos 0) && nat_lt 0 (nat_abs x.numerator)) = ap (λ z. int_lt z (pos 0)) same ∙ sign_alone x.numerator in
    let magnitude : IsNumeral (nat_abs x.numerator) numeral = subst (λ m. IsNumeral m numeral) (c.unsigned_abs.ensures.value ∙ ap nat_abs same) c.push_numeral.ensures.numeral.is_numeral in
    let above : WithSign IsNumeral x.numerator c.push_numeral.new.self =
    subst (λ z. WithSign IsNumeral z c.push_numeral.new.self) (with_own_sign x.numerator) (WithSign_from IsNumeral x.numerator (nat_abs x.numerator) negative c.push_numeral.new.self numeral is_negative layout magnitude) in
    IsExactText_from x c.parts-numerator.result.1 c.push_numeral.new.self c.push_denominator.new.self c.parts-numerator.ensures.denominator above c.push_denominator.ensures

pub returns-clause-text : goal.returns-clause-text
returns-clause-text g c =
    exact_is g.F.ExactField.limit (g.F.ExactField.value c.args.v) c.push_denominator.new.self g.met.F.ExactField.limit_range.1 (g.met.F.ExactField.within c.args.v) (returns-clause-exact g c)
