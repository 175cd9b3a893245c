-- One more number is negated, which keeps its magnitude.
use Rattle.std.proofs.Common.{rules, pos, nat_abs, ◌≡◌, ◌<◌, ◌^◌, ◌-ℤ◌, neg_ℤ, FitsSigned, to_z, of_z, w64, sym, ap, ◌∙◌, subst, arith}
use Rattle.std.proofs.lemmas.Int.{to_z-of_z}
use Rattle.lp_integers.specs.declared.few.Word.{Word}
use Rattle.lp_integers.proofs.Lines.{negative, negative_below}
use Rattle.lp_integers.proofs.Each.{word_at, matched_none, matched_next, matched_more, matched_all}
use Rattle.lp_integers.proofs.few.negate.Goals as goal

pub loop-i-init : goal.loop-i-init
loop-i-init c = matched_none (λ x y. y ≡ neg_ℤ x) c.args.words.now

pub difference-number-requires : goal.difference-number-requires
difference-number-requires c =
    let w : Word = word_at c.loop-i.words c.loop-i.i in
    let fits : FitsSigned w64 w.number = search rules in
    let is : to_z w64 (of_z w64 w.number) ≡ w.number = to_z-of_z w64 w.number fits in
    let there = matched_next (λ x y. y ≡ neg_ℤ x) c.args.words.now c.loop-i.words c.loop-i.i c.loop-i.invariant (omega arith) in
    let small : nat_abs w.number < 2 ^ 63 = c.requires c.loop-i.i w there in
    subst (λ z. nat_abs (pos 0 -ℤ z) < 2 ^ 63) (sym is) (negative_below w.number (2 ^ 63) small)

pub loop-i-preserved : goal.loop-i-preserved
loop-i-preserved c =
    let w : Word = word_at c.loop-i.words c.loop-i.i in
    let fits : FitsSigned w64 w.number = search rules in
    let fits_negated : FitsSigned w64 c.difference-number.result = record { sfits = c.difference-number.type_inv } in
    matched_more (λ x y. y ≡ neg_ℤ x) c.args.words.now c.loop-i.words c.loop-i.i (to_z w64 (of_z w64 c.difference-number.result)) c.loop-i.invariant (omega arith)
    (to_z-of_z w64 c.difference-number.result fits_negated ∙ c.difference-number.ensures ∙ ap (λ z. pos 0 -ℤ z) (to_z-of_z w64 w.number fits) ∙ negative w.number)

pub returns : goal.returns
returns c = matched_all (λ x y. y ≡ neg_ℤ x) c.args.words.now c.loop-i.words c.loop-i.i (omega arith) c.loop-i.invariant
