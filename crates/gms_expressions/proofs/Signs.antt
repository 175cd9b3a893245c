-- Operands after a sign or `not`, and what a refused step passes on.
use Rattle.std.proofs.Common.{◌≡◌, ℕ, Bool, true, false, cond, Result, Ok, Err, sym, ap, ◌∙◌, arith}
use Rattle.std.specs.Result.{IsErrAnd, MatchResult}
use Rattle.std.proofs.lemmas.Result.{err_from_is_err_and}
use Rattle.gq_number.specs.Number.{Number}
use Rattle.gms_ast.specs.declared.expression.Expr.{Expr}
use Rattle.gms_ast.specs.Trees.{Tree as Syntax, negated, not_so}
use Rattle.gms_grammar.specs.declared.terminal.Terminal.TheVariants.{Sign, Not}
use Rattle.gms_lex.specs.declared.token.Token.{Token}
use Rattle.gms_grammar.specs.declared.terminal.Terminal.{Terminal}
use Rattle.gms_grammar.specs.Reading.{leads}
use Rattle.gms_grammar.specs.GamsLookAhead.{look_ahead}
use Rattle.gms_grammar.specs.Grammar.{one, the, ◌·◌, ◌∣◌, opt, leaf, pair, left, right, node}
use Rattle.gms_grammar.specs.GamsGrammar.{Nonterminal, productions, token}
use Rattle.gms_expressions.specs.declared.reader.Reader.{Reader}
use Rattle.gms_expressions.specs.declared.reader.Tables.{Tables}
use Rattle.gms_expressions.specs.ExpressionTrees.{with_sign, negated_by}
use Rattle.gms_expressions.specs.InnerNodes.{view}
use Rattle.gms_expressions.specs.InnerReadings.{GamsPart, Meaning, Sense, IsGot, IsMeant, IsSigned, IsNegated, IsNext, seen_from}
use Rattle.gms_expressions.proofs.Steps.{got_by, gives_both, gives_the, gives_left, gives_right}
use Rattle.gms_expressions.proofs.TokenKinds.{is_plain, implies}
use Rattle.gms_expressions.proofs.Nexts.{gives_next}
use Rattle.gms_expressions.proofs.Chains.{in_sense}

-- a refusal that a step hands on
pub handed_on : {T E : Type 0} (P : T → Type 0) (Q : E → Type 0) (r : Result T E) (e : E) → IsErrAnd r (λ y. y ≡ e) → Q e → MatchResult r P Q
handed_on P Q r e h q = let p = err_from_is_err_and r h in rw (p.1, p.2) q

-- an answer, by what its parts are
pub answered : {T E : Type 0} {P P' : T → Type 0} {Q Q' : E → Type 0} (r : Result T E) → MatchResult r P Q → ((x : T) → P x → P' x) → ((e : E) → Q e → Q' e) → MatchResult r P' Q'
answered (Ok x) m p q = p x m
answered (Err e) m p q = q e m

module _ {F : Type 0} {value : F → Number} {limit : ℕ} {reader : Reader} {at start : ℕ} {old new : Tables} {sub : GamsPart} {inner whole : Meaning (Syntax Number)} {operand e : Expr F} {next : ℕ} where
  -- after a sign, or none
  pub signed_got : {minus : Bool} (s : IsSigned reader at minus start) (got : IsGot limit (IsMeant value reader.source.now inner) sub reader start old new operand next) →
      view value e ≡ cond minus (negated (view value operand)) (view value operand) → ((sense : Sense) → in_sense reader.source.now whole sense (pair s.tree got.tree) ≡ with_sign s.tree (in_sense reader.source.now inner sense got.tree)) →
      IsGot limit (IsMeant value reader.source.now whole) (opt (token Sign) · sub) reader at old new e next
  signed_got s got is shape = got_by (gives_both (s.gives limit old) got.gives) (λ sense k. record { is = is ∙ sym (s.means (view value operand)) ∙ ap (with_sign s.tree) (got.means sense k).is ∙ sym (shape sense) })
      (let f = got.further in let g = s.further in omega arith)

  -- after `not`, or none
  pub negated_got : {not : Bool} (s : IsNegated reader at not start) (got : IsGot limit (IsMeant value reader.source.now inner) sub reader start old new operand next) →
      view value e ≡ cond not (not_so (view value operand)) (view value operand) → ((sense : Sense) → in_sense reader.source.now whole sense (pair s.tree got.tree) ≡ negated_by s.tree (in_sense reader.source.now inner sense got.tree)) →
      IsGot limit (IsMeant value reader.source.now whole) (opt (token Not) · sub) reader at old new e next
  negated_got s got is shape = got_by (gives_both (s.gives limit old) got.gives) (λ sense k. record { is = is ∙ sym (s.means (view value operand)) ∙ ap (negated_by s.tree) (got.means sense k).is ∙ sym (shape sense) })
      (let f = got.further in let g = s.further in omega arith)

module _ {F : Type 0} {value : F → Number} {limit : ℕ} {reader : Reader} {at : ℕ} {old new : Tables} {inner whole : Meaning (Syntax Number)} {e : Expr F} {next : ℕ} where
  -- what was read of a production is a nonterminal's
  pub got_the : (n : Nonterminal) (got : IsGot limit (IsMeant value reader.source.now inner) (productions n) reader at old new e next) → ((sense : Sense) → in_sense reader.source.now whole sense (node got.tree) ≡ in_sense reader.source.now inner sense got.tree) →
      IsGot limit (IsMeant value reader.source.now whole) (the n) reader at old new e next
  got_the n got shape = got_by (gives_the n got.gives) (λ sense k. record { is = (got.means sense k).is ∙ sym (shape sense) }) got.further

  -- what was read after a token
  pub got_after : {test : Terminal → Bool} {sub : GamsPart} {start : ℕ} {t : Token} (n : IsNext test reader at t start) → implies test is_plain ≡ true → (got : IsGot limit (IsMeant value reader.source.now inner) sub reader start old new e next) →
      ((sense : Sense) → in_sense reader.source.now whole sense (pair (leaf (n.kind, t)) got.tree) ≡ in_sense reader.source.now inner sense got.tree) → IsGot limit (IsMeant value reader.source.now whole) (one test · sub) reader at old new e next
  got_after {t = t} n plain got shape = got_by (gives_both (gives_next old n plain) got.gives) (λ sense k. record { is = (got.means sense k).is ∙ sym (shape sense) }) (let f = got.further in let g = n.further in omega arith)

  -- what was read of one alternative
  pub got_left : {p q : GamsPart} → leads productions look_ahead p (seen_from reader at) ≡ true → (got : IsGot limit (IsMeant value reader.source.now inner) p reader at old new e next) →
      ((sense : Sense) → in_sense reader.source.now whole sense (left got.tree) ≡ in_sense reader.source.now inner sense got.tree) → IsGot limit (IsMeant value reader.source.now whole) (p ∣ q) reader at old new e next
  got_left led got shape = got_by (gives_left led got.gives) (λ sense k. record { is = (got.means sense k).is ∙ sym (shape sense) }) got.further

  pub got_right : {p q : GamsPart} → leads productions look_ahead p (seen_from reader at) ≡ false → leads productions look_ahead q (seen_from reader at) ≡ true → (got : IsGot limit (IsMeant value reader.source.now inner) q reader at old new e next) →
      ((sense : Sense) → in_sense reader.source.now whole sense (right got.tree) ≡ in_sense reader.source.now inner sense got.tree) → IsGot limit (IsMeant value reader.source.now whole) (p ∣ q) reader at old new e next
  got_right unled led got shape = got_by (gives_right unled led got.gives) (λ sense k. record { is = (got.means sense k).is ∙ sym (shape sense) }) got.further
