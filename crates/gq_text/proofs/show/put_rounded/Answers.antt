-- The sign, the whole part and the decimals.
use Rattle.std.proofs.Common.{◌≡◌, ℕ, ◌+◌, ◌*◌, ◌^◌, ◌&&◌, nat_lt, pos, nat_abs, List, ◌++◌, true, false, refl, sym, ap, ap₂, ◌∙◌, subst}
use Rattle.std.proofs.lemmas.List.{append_assoc}
use Rattle.std.specs.Int.RustNames.{int_lt}
use mir.Val.{to_z, of_z}
use mir.Syntax.{w128}
use Rattle.gq_text.specs.Numeral.{WithSign}
use Rattle.gq_text.specs.Shown.{with_decimal_point, IsFixed}
use Rattle.gq_text.specs.InnerAppends.{sign_text}
use Rattle.gq_text.proofs.Literals.{tens_above}
use Rattle.gq_text.proofs.Showings.{rounded_units, units, IsFixed_from, WithSign_from, read_back, some_units}
use Rattle.gq_text.proofs.show.put_rounded.Goals as goal
use Rattle.gq_text.proofs.show.put_rounded.Goals.{then-numerator-lt0, else-numerator-lt0}

pub returns : goal.returns
returns g c =
    let x = g.F.ExactField.value c.args.v in
    let n = c.parts-numerator.result.0 in
    let whole = c.rounded-whole.result.0 in let fraction = c.rounded-whole.result.1 in
    let t = 10 ^ c.args.decimals in
    let range = g.met.F.ExactField.limit_range in
    let same : to_z w128 (of_z w128 n) ≡ x.numerator = read_back g.F.ExactField.limit x n (g.met.F.ExactField.within c.args.v) range.1 c.parts-numerator.ensures.numerator in
    let k = units (nat_abs x.numerator) t x.denominator in
    let units_are : whole * t + fraction ≡ k = c.rounded-whole.ensures.units ∙ ap₂ (λ a b. units a t b) (c.unsigned_abs.ensures.value ∙ ap nat_abs same) c.parts-numerator.ensures.denominator in
    let sign = sign_text c.if-numerator-lt0.push_sign in
    let numeral = c.push_numeral.ensures.numeral.numeral in
    let decimals = c.push_decimals.ensures.decimals in
    let prefix : c.push_sign.new.self ≡ sign = c.push_sign.ensures ∙ ap (λ (l : List ℕ). l ++ sign) c.clear.ensures in
    let layout : c.push_decimals.new.self ≡ sign ++ (numeral ++ with_decimal_point decimals) =
    c.push_decimals.ensures.appended ∙ ap (λ (l : List ℕ). l ++ with_decimal_point decimals) (c.push_numeral.ensures.numeral.appended ∙ ap (λ (l : List ℕ). l ++ numeral) prefix) ∙ append_assoc sign numeral (with_decimal_point decimals) in
    let negative : c.if-numerator-lt0.push_sign ≡ (int_lt x.numerator (pos 0) && nat_lt 0 k) = elim c.if-numerator-lt0.branch [
      | then-numerator-lt0 w ↦
          let below : int_lt x.numerator (pos 0) ≡ true = ap (λ z. int_lt z (pos 0)) (sym same) ∙ w.if-numerator-lt0.true in
          w.push_sign-is ∙ some_units whole fraction t k (tens_above c.args.decimals) units_are ∙ sym (ap (λ b. b && nat_lt 0 k) below)
      | else-numerator-lt0 w ↦
          let above : int_lt x.numerator (pos 0) ≡ false = ap (λ z. int_lt z (pos 0)) (sym same) ∙ w.if-numerator-lt0.false in
          w.push_sign-is ∙ w.if-numerator-lt0.false ∙ sym (ap (λ b. b && nat_lt 0 k) above)
    ] in
    let fixed : IsFixed c.args.decimals k (numeral ++ with_decimal_point decimals) =
    IsFixed_from numeral (numeral ++ with_decimal_point decimals) decimals c.args.decimals whole fraction k c.push_numeral.ensures.numeral.is_numeral c.push_decimals.ensures.are_digits c.push_decimals.ensures.places_are c.push_decimals.ensures.spells c.rounded-whole.ensures.fraction units_are refl in
    subst (λ z. WithSign (IsFixed c.args.decimals) z c.push_decimals.new.self) (sym (rounded_units x t (tens_above c.args.decimals)))
    (WithSign_from (IsFixed c.args.decimals) x.numerator k c.if-numerator-lt0.push_sign c.push_decimals.new.self (numeral ++ with_decimal_point decimals) negative layout fixed)
