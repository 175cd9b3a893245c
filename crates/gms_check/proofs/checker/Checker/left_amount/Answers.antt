use Rattle.std.proofs.Common.{◌≡◌, ◌∙◌, ap, refl, List, ℕ, Bool, [], ◌∷◌, not}
use Rattle.gms_ast.specs.TreeView.{tree_of}
use Rattle.gms_check.specs.InnerChecking.{Checking, faulted, known_of, noted, seen}
use Rattle.gms_check.specs.Kinds.{is_target_amount}
use Rattle.gms_check.specs.Contexts.{as_number}
use Rattle.gms_check.specs.Uses.{shifting, uses}
use Rattle.gms_check.specs.declared.error.ErrorKind.TheVariants.{WrongKind}
use Rattle.gms_check.proofs.Noting.{noted-by, noted-then}
use Rattle.gms_check.proofs.checker.Checker.left_amount.Goals as goal

pub returns : goal.returns
returns g c =
    let value = g.F.ExactField.value in
    let s = seen c.args.self.now in
    let at = c.args.at in
    let tree = tree_of c.args.amount.now in
    let after = seen c.require.new.self in
    let first : seen c.require.new.self ≡ noted value s ((at, shifting tree) ∷ []) = noted-by value s after at (shifting tree) ((not (is_target_amount (known_of value s) tree), WrongKind) ∷ []) refl (c.require.ensures ∙ ap (λ (b : Bool). faulted s at ((not b, WrongKind) ∷ [])) c.is_target_amount-occurs.ensures) in
    let controlled : after.controlled ≡ s.controlled = ap (λ (u : Checking). u.controlled) first in
    noted-then value s after _ ((at, shifting tree) ∷ []) (uses as_number at s.controlled tree) first
    (c.in_ok-_variable.ensures.noted ∙ ap (λ (sets : List ℕ). noted value after (uses as_number at sets tree)) controlled)
