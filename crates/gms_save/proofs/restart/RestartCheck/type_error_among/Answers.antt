use Rattle.std.proofs.Common.{◌∙◌, ap, Bool, List, []}
use Rattle.std.specs.Prelude.{if◌then◌else◌}
use Rattle.std.proofs.lemmas.List.{take_all}
use Rattle.gq_frac.specs.declared.frac.Frac.{Frac}
use Rattle.gms_ast.specs.declared.declaration.Decl.{Decl}
use Rattle.gms_check.specs.Errors.{first_error}
use Rattle.gms_save.specs.JointErrors.{names_at, restarts_at}
use Rattle.gms_save.specs.InnerRestartChecks.{variable_in}
use Rattle.gms_save.proofs.Restarts.{first-next}
use Rattle.gms_save.proofs.restart.RestartCheck.type_error_among.Goals as goal

pub returns-then-not-gives_type : goal.returns-then-not-gives_type
returns-then-not-gives_type c =
    ap (λ (b : Bool). first_error (restarts_at (variable_in c.args.self.now.saved) (if b then names_at c.args.items.now else []))) c.if-not-gives_type.ensures

pub loop-item-preserved : goal.loop-item-preserved
loop-item-preserved c =
    first-next (variable_in c.args.self.now.saved) (λ (item : Decl _). (item.named.at, item.named.name)) c.args.items.now c.loop-item.item-index c.item-item.result c.loop-item.first c.sooner-first.result c.type_error_at.result c.loop-item-test.true c.item-item.is c.loop-item.invariant c.type_error_at.ensures c.sooner-first.ensures

pub returns : goal.returns
returns c =
    c.loop-item.invariant
    ∙ ap (λ (items : List (Decl Frac)). first_error (restarts_at (variable_in c.args.self.now.saved) (names_at items))) (take_all c.loop-item.item-index c.args.items.now c.loop-item-test.false)
    ∙ ap (λ (b : Bool). first_error (restarts_at (variable_in c.args.self.now.saved) (if b then names_at c.args.items.now else []))) c.if-not-gives_type.ensures
