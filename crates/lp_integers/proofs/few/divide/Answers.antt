use Rattle.std.proofs.Common.{rules, ◌<◌, ◌^◌, pos, nat_abs, ◌≡◌, ◌*ℤ◌, FitsSigned, to_z, of_z, w64, sym, ap, ◌∙◌, subst, arith}
use Rattle.std.specs.Int.{◌∣◌}
use Rattle.std.proofs.lemmas.Int.{to_z-of_z}
use Rattle.lp_integers.specs.declared.few.Word.{Word}
use Rattle.lp_integers.proofs.Each.{word_at, matched_none, matched_next, matched_more, matched_all}
use Rattle.lp_integers.proofs.few.divide.Goals as goal

pub loop-i-init : goal.loop-i-init
loop-i-init c = matched_none (λ x y. y *ℤ pos c.args.divisor ≡ x) c.args.words.now

pub quotient-number-requires-clause-divides : goal.quotient-number-requires-clause-divides
quotient-number-requires-clause-divides c =
    let w : Word = word_at c.loop-i.words c.loop-i.i in
    let fits : FitsSigned w64 w.number = search rules in
    let there = matched_next (λ x y. y *ℤ pos c.args.divisor ≡ x) c.args.words.now c.loop-i.words c.loop-i.i c.loop-i.invariant (omega arith) in
    let divides : c.args.divisor ∣ nat_abs (to_z w64 (of_z w64 w.number)) =
    subst (λ z. c.args.divisor ∣ nat_abs z) (sym (to_z-of_z w64 w.number fits)) (c.requires.divides c.loop-i.i w there) in
    subst (λ d. d ∣ nat_abs (to_z w64 (of_z w64 w.number))) (sym c.of-quick.ensures) divides

pub loop-i-preserved : goal.loop-i-preserved
loop-i-preserved c =
    let w : Word = word_at c.loop-i.words c.loop-i.i in
    let fits : FitsSigned w64 w.number = search rules in
    let fits_over : FitsSigned w64 c.quotient-number.result = record { sfits = c.quotient-number.type_inv } in
    let over : c.quotient-number.result *ℤ pos c.args.divisor ≡ to_z w64 (of_z w64 w.number) =
    subst (λ d. c.quotient-number.result *ℤ pos d ≡ to_z w64 (of_z w64 w.number)) c.of-quick.ensures c.quotient-number.ensures in
    matched_more (λ x y. y *ℤ pos c.args.divisor ≡ x) c.args.words.now c.loop-i.words c.loop-i.i (to_z w64 (of_z w64 c.quotient-number.result)) c.loop-i.invariant (omega arith)
    (ap (λ z. z *ℤ pos c.args.divisor) (to_z-of_z w64 c.quotient-number.result fits_over) ∙ over ∙ to_z-of_z w64 w.number fits)

pub returns : goal.returns
returns c = matched_all (λ x y. y *ℤ pos c.args.divisor ≡ x) c.args.words.now c.loop-i.words c.loop-i.i (omega arith) c.loop-i.invariant

pub bounds-words-i : goal.bounds-words-i
bounds-words-i c = subst (λ n. c.loop-i.i < n) (sym c.loop-i.auto.words) c.loop-i-test.true

pub quotient-number-requires-clause-positive : goal.quotient-number-requires-clause-positive
quotient-number-requires-clause-positive c = subst (λ n. 0 < n) (sym c.of-quick.ensures) c.requires.positive

pub quotient-number-requires-clause-small : goal.quotient-number-requires-clause-small
quotient-number-requires-clause-small c = subst (λ n. n < 2 ^ 63) (sym c.of-quick.ensures) c.requires.small
