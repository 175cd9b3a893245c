-- Sets and controls, made of what was read of their parts.
use Rattle.std.proofs.Common.{◌≡◌, ℕ, Bool, true, false, if◌then◌else◌, List, [], ◌∷◌, Vec, Result, Ok, Err, Some, None, Box, refl, sym, ap, ap₂, ◌∙◌, arith}
use Rattle.std.specs.declared.alloc.Global.{Global}
use Rattle.gq_number.specs.Number.{Number}
use Rattle.gms_ast.specs.declared.expression.Expr.{Expr}
use Rattle.gms_ast.specs.declared.expression.Control.{Control as ControlNode, roll-Control}
use Rattle.gms_ast.specs.declared.expression.Expr.TheFolds.{fold-roll-Control}
use Rattle.gms_ast.specs.Trees.{Tree as Syntax, Indices, Control as Over, over, over_where}
use Rattle.gms_ast.specs.TreeView.{tree_step, index_step, control_step, tree_of, control_tree}
use Rattle.gms_grammar.specs.declared.terminal.Terminal.TheVariants.{Name, Suffix, LeftParen, Dollar}
use Rattle.gms_grammar.specs.Grammar.{the, ◌∣◌, right}
use Rattle.gms_grammar.specs.Reading.{leads}
use Rattle.gms_grammar.specs.Terminals.{is, is_terminal_among}
use Rattle.gms_grammar.specs.GamsGrammar.{Control, Condition, NameList, productions, token, name, bracketed}
use Rattle.gms_grammar.specs.GamsLookAhead.{look_ahead}
use Rattle.gms_expressions.specs.declared.fault.SyntaxFaultOrMemory.{SyntaxFaultOrMemory}
use Rattle.gms_expressions.specs.declared.reader.Reader.{Reader}
use Rattle.gms_expressions.specs.declared.reader.Tables.{Tables}
use Rattle.gms_expressions.specs.ExpressionTrees.{condition as condition_in_tree}
use Rattle.gms_ast.specs.Numbers.{control_in_numbers}
use Rattle.gms_expressions.specs.InnerNodes.{view}
use Rattle.gms_expressions.specs.InnerReadings.{Seen, Derivation, GamsPart, Sense, IsGot, IsAnswer, IsMeant, AreSets, IsControl, seen_from}
use Rattle.gms_expressions.proofs.TokenKinds.{also, leads_by_kind}
use Rattle.gms_expressions.proofs.Steps.{got_by, gives_both, gives_the, gives_none, gives_some, gives_right, refuses_right}
use Rattle.gms_expressions.proofs.Nexts.{earlier}
use Rattle.gms_expressions.proofs.Sums.{leads_condition}

off : {b : Bool} → (if b then false else true) ≡ true → b ≡ false
off {b = false} h = refl
off {b = true} h = cc

-- where a parenthesis opens there is no name
pub no_name : (ts : List Seen) → leads productions look_ahead (token LeftParen) ts ≡ true → leads productions look_ahead name ts ≡ false
no_name ts h = leads_by_kind name ts refl ∙ off (also (is LeftParen) (λ k. if is_terminal_among (Name ∷ Suffix ∷ []) k then false else true) refl _ (sym (leads_by_kind (token LeftParen) ts refl) ∙ h))

-- what was read or refused as the second alternative
pub right_answer : {T : Type 0} (limit : ℕ) {Means : Sense → Derivation → T → Type 0} (p q : GamsPart) (reader : Reader) (at : ℕ) (old new : Tables) (r : Result (T × ℕ) SyntaxFaultOrMemory) → leads productions look_ahead p (seen_from reader at) ≡ false →
    leads productions look_ahead q (seen_from reader at) ≡ true → IsAnswer limit Means q reader at old new r → (Says : Sense → Derivation → T → Type 0) → ((sense : Sense) (tree : Derivation) (x : T) → Means sense tree x → Says sense (right tree) x) → IsAnswer limit Says (p ∣ q) reader at old new r
right_answer limit p q reader at old new (Ok b) k l got Says says = got_by (gives_right k l got.gives) (λ sense s. says sense got.tree b.0 (got.means sense s)) got.further
right_answer limit p q reader at old new (Err e) k l refuses Says says = refuses_right k l refuses

-- the controls that the reader makes
pub over_alone : {F : Type 0} (sets : List ℕ) → control_tree (roll-Control F (record { sets = sets; condition = None })) ≡ over sets
over_alone {F} sets = fold-roll-Control F (Syntax F) (Indices F → Indices F) (Over F) tree_step index_step control_step (record { sets = sets; condition = None })

pub over_with : {F : Type 0} (sets : List ℕ) (e : Box (Expr F) Global) → control_tree (roll-Control F (record { sets = sets; condition = Some e })) ≡ over_where sets (tree_of e.value)
over_with {F} sets e = fold-roll-Control F (Syntax F) (Indices F → Indices F) (Over F) tree_step index_step control_step (record { sets = sets; condition = Some e })

module _ {F : Type 0} (value : F → Number) {limit : ℕ} {reader : Reader} {at next : ℕ} {old middle : Tables} {sets : Vec ℕ Global} (control : ControlNode F) where
  -- sets without a condition
  pub control_alone : IsGot limit (AreSets reader.source.now) (name ∣ bracketed (the NameList)) reader at old middle sets next → leads productions look_ahead (token Dollar) (seen_from reader next) ≡ false → control_tree control ≡ over sets.items →
      IsGot limit (IsControl value reader.source.now) (the Control) reader at old middle control next
  control_alone got unled is = got_by (gives_the Control (gives_both got.gives (gives_none (leads_condition (seen_from reader next) ∙ unled)))) (λ sense s. ap (control_in_numbers value) is ∙ ap over (got.means sense s)) got.further

  -- sets with a condition
  pub control_got : {new : Tables} {following : ℕ} {e : Expr F} → IsGot limit (AreSets reader.source.now) (name ∣ bracketed (the NameList)) reader at old middle sets next → leads productions look_ahead (token Dollar) (seen_from reader next) ≡ true →
      IsGot limit (IsMeant value reader.source.now condition_in_tree) (the Condition) reader next middle new e following → control_in_numbers value (control_tree control) ≡ over_where sets.items (view value e) → IsGot limit (IsControl value reader.source.now) (the Control) reader at old new control following
  control_got got led cond is = got_by (gives_the Control (gives_both got.gives (gives_some (leads_condition (seen_from reader next) ∙ led) cond.gives)))
      (λ sense s. is ∙ ap₂ over_where (got.means sense (earlier cond.gives s)) (cond.means sense s).is) (let f = got.further in let g = cond.further in omega arith)
