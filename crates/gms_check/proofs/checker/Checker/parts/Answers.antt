use Rattle.std.proofs.Common.{◌∙◌, ap, refl, length, [], ◌∷◌}
use Rattle.gms_ast.specs.declared.declaration.Item.{Item}
use Rattle.gms_check.specs.InnerChecking.{faulted, seen}
use Rattle.gms_check.specs.Domains.{is_wrong_count}
use Rattle.gms_check.specs.Uses.{placing}
use Rattle.gms_check.specs.declared.error.ErrorKind.TheVariants.{WrongArity}
use Rattle.gms_check.proofs.Noting.{noted-by, noted-mapped, not-not}
use Rattle.gms_check.proofs.checker.Checker.parts.Goals as goal

pub loop-item-preserved : goal.loop-item-preserved
loop-item-preserved g c =
    let value = g.F.ExactField.value in
    let s = seen c.loop-item.self in
    let item = c.item-item.result in
    let expected = c.args.expected in
    noted-mapped value [] (λ (item : Item _). (item.at, placing expected (length item.parts))) c.args.items.now c.loop-item.item-index item (seen c.args.self.now) s (seen c.require.new.self) c.loop-item-test.true c.item-item.is c.loop-item.invariant
    (noted-by value s _ item.at (placing expected (length item.parts)) ((is_wrong_count expected (length item.parts), WrongArity) ∷ []) refl
    (c.require.ensures ∙ ap (λ b. faulted s item.at ((b, WrongArity) ∷ [])) (not-not c.is_wrong_count-miscounted.result ∙ c.is_wrong_count-miscounted.ensures ∙ ap (is_wrong_count expected) c.len.ensures)))
