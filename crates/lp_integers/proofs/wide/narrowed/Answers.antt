-- The number that is added is that of the list, in one word.
use Rattle.std.proofs.Common.{rules, ℤ, pos, ◌≡◌, ◌∷◌, ◌++◌, [], List, get_or, FitsSigned, to_z, of_z, w64, ◌∙◌, sym, ap, ap₂, subst, arith}
use Rattle.std.specs.Int.{w128}
use Rattle.std.proofs.lemmas.Int.{to_z-of_z, fits_signed_from_abs}
use Rattle.std.proofs.lemmas.List.{take_more, take_all}
use Rattle.std.proofs.lemmas.Result.{IfOk-from_err}
use Rattle.lp_integers.proofs.wide.narrowed.Goals as goal

pub overflow_cast-n : goal.overflow_cast-n
overflow_cast-n c =
    let n : ℤ = get_or c.args.numbers.now c.loop-n.n-index (pos 0) in
    let within = c.requires c.loop-n.n-index in
    let wide : FitsSigned w128 n = search rules in
    subst (FitsSigned w64) (sym (to_z-of_z w128 n wide)) (fits_signed_from_abs w64 n (omega arith))

pub loop-n-preserved : goal.loop-n-preserved
loop-n-preserved c =
    let n : ℤ = get_or c.args.numbers.now c.loop-n.n-index (pos 0) in
    let within = c.requires c.loop-n.n-index in
    let narrow : FitsSigned w64 n = fits_signed_from_abs w64 n (omega arith) in
    let wide : FitsSigned w128 n = search rules in
    let same : to_z w64 (of_z w64 (to_z w128 (of_z w128 n))) ≡ n = ap (λ z. to_z w64 (of_z w64 z)) (to_z-of_z w128 n wide) ∙ to_z-of_z w64 n narrow in
    c.in_ok-push.ensures.items ∙ ap₂ (λ (l : List ℤ) z. l ++ z ∷ []) c.loop-n.invariant same ∙ sym (take_more c.args.numbers.now c.loop-n.n-index (pos 0) c.loop-n-test.true)

pub returns : goal.returns
returns c = c.loop-n.invariant ∙ take_all c.loop-n.n-index c.args.numbers.now c.loop-n-test.false

pub returns-in_err-list : goal.returns-in_err-list
returns-in_err-list c = IfOk-from_err c.from_residual.result _ c.from_residual.ensures.0

pub loop-n-init : goal.loop-n-init
loop-n-init c = c.in_ok-list.ensures.items

pub bounds-numbers-n-index : goal.bounds-numbers-n-index
bounds-numbers-n-index c = c.loop-n-test.true

pub returns-in_err-push : goal.returns-in_err-push
returns-in_err-push c = IfOk-from_err c.from_residual-in_err-push.result _ c.from_residual-in_err-push.ensures.0
