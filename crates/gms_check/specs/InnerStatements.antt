-- What an act of a statement uses, and which acts are no declarations of names or models.
use Rattle.std.specs.Prelude.{Bool, true, false}
use Rattle.gms_ast.specs.declared.program.Act.{Act, fold-Act}
use Rattle.gms_ast.specs.declared.program.Act.TheVariants.{Declare, Model}
use Rattle.gms_check.specs.StatementUses.{UsesOfAct, UsesOfStatement, act_uses_step, statement_uses_step}

module _ {F : Type 0} where
  -- what an act uses, by what is declared, the place of its statement and the sets that are
  -- controlled
  abbrev pub act_uses : Act F → UsesOfAct F
  act_uses = fold-Act F (UsesOfAct F) (UsesOfStatement F) act_uses_step statement_uses_step

  -- whether an act is no declaration of names or models
  abbrev pub is_action : Act F → Bool
  is_action (Declare kind items) = false
  is_action (Model models) = false
  is_action act = true
