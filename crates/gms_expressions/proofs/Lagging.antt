-- Lags, made of what was read of their amounts.
use Rattle.std.proofs.Common.{◌≡◌, ℕ, [], ◌∷◌, Box, refl, ap, ap₂, ◌∙◌, arith}
use Rattle.std.specs.declared.alloc.Global.{Global}
use Rattle.gq_number.specs.Number.{Number}
use Rattle.gms_labels.specs.declared.place.Place.{Place}
use Rattle.gms_lex.specs.declared.token.Token.{Token}
use Rattle.gms_ast.specs.declared.expression.Expr.{Expr}
use Rattle.gms_ast.specs.declared.expression.LagOp.{LagOp}
use Rattle.gms_ast.specs.Trees.{lagged}
use Rattle.gms_grammar.specs.declared.terminal.Terminal.TheVariants.{Sign, Circular}
use Rattle.gms_grammar.specs.Grammar.{the}
use Rattle.gms_grammar.specs.Terminals.{is_terminal_among}
use Rattle.gms_grammar.specs.GamsGrammar.{Lag, LagAmount}
use Rattle.gms_expressions.specs.declared.reader.Reader.{Reader}
use Rattle.gms_expressions.specs.declared.reader.Tables.{Tables}
use Rattle.gms_expressions.specs.ExpressionTrees.{lag_op_of, lag_amount, place_in}
use Rattle.gms_expressions.specs.InnerNodes.{view}
use Rattle.gms_expressions.specs.InnerReadings.{IsGot, IsMeant, IsNext, IsLag}
use Rattle.gms_expressions.proofs.Steps.{got_by, gives_both, gives_the}
use Rattle.gms_expressions.proofs.Nexts.{gives_next}

-- a lag
pub lag_got : {F : Type 0} (value : F → Number) {limit : ℕ} {reader : Reader} {at following next : ℕ} {old new : Tables} {operator : Token} {e : Expr F} (op : LagOp) (place : Place) (amount : Box (Expr F) Global) (n : IsNext (is_terminal_among (Sign ∷ Circular ∷ [])) reader at operator following)
    (got : IsGot limit (IsMeant value reader.source.now lag_amount) (the LagAmount) reader following old new e next) → op ≡ lag_op_of operator.kind → place ≡ place_in got.tree → amount.value ≡ e →
    IsGot limit (IsLag value reader.source.now) (the Lag) reader at old new (op, place, amount) next
lag_got value {reader = reader} {old = old} {operator = operator} {e = e} op place amount n got op_is place_is same = got_by (gives_the Lag (gives_both (gives_next old n refl) got.gives))
    (λ sense s name rest. ap₂ (λ f p. lagged name f p (view value amount.value) rest) op_is place_is
    ∙ ap (λ x. lagged name (lag_op_of operator.kind) (place_in got.tree) (view value x) rest) same
    ∙ ap (λ t. lagged name (lag_op_of operator.kind) (place_in got.tree) t rest) (got.means sense s).is)
    (let f = got.further in let g = n.further in omega arith)
