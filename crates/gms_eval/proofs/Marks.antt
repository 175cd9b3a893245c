-- The marks and the answers of the parts of each kind of chain.
use Rattle.std.proofs.Common.{◌≡◌, ℕ, Bool, Option, None, Err, unwrap_or, option_map, refl, ap, ◌∙◌, subst, Some}
use Rattle.gms_labels.specs.declared.place.Place.{Place}
use Rattle.gq_number.specs.Number.{Number}
use Rattle.gq_extended.specs.Extended.{Extended}
use Rattle.gq_extended.specs.declared.extended.Ext.{Ext}
use Rattle.gq_extended.specs.Meaning.{extended}
use Rattle.gms_ast.specs.declared.expression.RelOp.{RelOp}
use Rattle.gms_ast.specs.declared.expression.Expr.{Expr}
use Rattle.gms_ast.specs.Trees as tree
use Rattle.gms_store.specs.State.{State}
use Rattle.gms_eval.specs.declared.stop.StopKind.{StopKind}
use Rattle.gms_eval.specs.declared.stop.ExecStopOrMemory.{ExecStopOrMemory}
use Rattle.gms_eval.specs.declared.stop.ExecStopOrMemory.TheVariants.{Memory, Fault as Stop}
use Rattle.gms_eval.specs.Bindings.{Pairs}
use Rattle.gms_eval.specs.Faults.{Answer, Fault, nothing}
use Rattle.gms_eval.specs.Gives.{ShowsStop, Shows}
use Rattle.gms_eval.proofs.NodeValues.{of_expr}

module _ {F : Type 0} where
  abbrev pub signed_mark : Place × Bool × Expr F → tree.Mark
  signed_mark p = tree.signed p.0 p.1

  abbrev pub placed_mark : Place × Expr F → tree.Mark
  placed_mark p = tree.placed p.0

  abbrev pub related_mark : RelOp × Expr F → tree.Mark
  related_mark p = tree.related p.0

  abbrev pub plain_mark : Expr F → tree.Mark
  plain_mark p = tree.plain

  abbrev pub chosen_mark : Bool × Expr F → tree.Mark
  chosen_mark p = tree.chosen p.0

  module _ (v : F → Number) (limit : ℕ) (state : State) (b : Pairs) where
    abbrev pub signed_answer : Place × Bool × Expr F → Answer Extended
    signed_answer p = of_expr v limit state b p.2

    abbrev pub placed_answer : Place × Expr F → Answer Extended
    placed_answer p = of_expr v limit state b p.1

    abbrev pub related_answer : RelOp × Expr F → Answer Extended
    related_answer p = of_expr v limit state b p.1

    abbrev pub chosen_answer : Bool × Expr F → Answer Extended
    chosen_answer p = of_expr v limit state b p.1

-- the value so far, or else another
pub value_or : {F : Type 0} (v : F → Number) (o : Option (Ext F)) (z : Ext F) → extended v z ≡ nothing → extended v (unwrap_or o z) ≡ unwrap_or (option_map (extended v) o) nothing
value_or v None z e = e
value_or v (Some x) z e = refl

-- a stop that shows a fault stops an answer that is it
pub stops-shown : {F A : Type 0} (v : F → Number) (stop : ExecStopOrMemory F) (fault : Fault) (a : Answer A) → a ≡ Err fault → Shows v stop fault → ShowsStop v stop a
stops-shown v Memory fault a e s = tt
stops-shown v (Stop stop) fault a e s = e ∙ ap Err s

-- a stop whose operands are 0 shows a fault without operands
pub shows-nothing : {F : Type 0} (v : F → Number) (stop : ExecStopOrMemory F) (kind : StopKind) (at : Place) (binding : Pairs) (count : ℕ) (x y : Extended) → x ≡ nothing → y ≡ nothing → Shows v stop (record { kind = kind; at = at; binding = binding; left = x; right = y; count = count }) → Shows v stop (record { kind = kind; at = at; binding = binding; left = nothing; right = nothing; count = count })
shows-nothing v stop kind at binding count x y e f s =
    subst (λ z. Shows v stop (record { kind = kind; at = at; binding = binding; left = nothing; right = z; count = count })) f (subst (λ z. Shows v stop (record { kind = kind; at = at; binding = binding; left = z; right = y; count = count })) e s)
