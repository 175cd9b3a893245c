-- Conditions of statements.
use Rattle.std.proofs.Common.{◌≡◌, ℕ, Bool, true, false, cond, Some, None, refl, sym, ap, ◌∙◌, arith}
use Rattle.gq_number.specs.Number.{Number}
use Rattle.gms_ast.specs.declared.expression.Expr.{Expr}
use Rattle.gms_ast.specs.Trees.{not_so}
use Rattle.gms_ast.specs.StatementView.{shown_tree}
use Rattle.gms_lex.specs.declared.token.Token.{Token}
use Rattle.gms_grammar.specs.declared.terminal.Terminal.TheVariants.{Not, Dollar}
use Rattle.gms_grammar.specs.Grammar.{the, ◌·◌, opt}
use Rattle.gms_grammar.specs.Reading.{leads}
use Rattle.gms_grammar.specs.Terminals.{is}
use Rattle.gms_grammar.specs.GamsGrammar.{Condition, Primary, productions, token}
use Rattle.gms_grammar.specs.GamsLookAhead.{look_ahead}
use Rattle.gms_expressions.specs.ExpressionTrees.{negated_by}
use Rattle.gms_parse.specs.declared.fault.SourceFaultOrMemory.{SourceFaultOrMemory}
use Rattle.gms_parse.specs.declared.reader.Reader.{Reader}
use Rattle.gms_parse.specs.declared.reader.Tables.{Tables}
use Rattle.gms_parse.specs.ReadStates.{ReaderState}
use Rattle.gms_parse.specs.InnerReadings.{Refuses, Starts, StaysOpen, Tableless, IsNext, IsGot, seen_from}
use Rattle.gms_parse.specs.InnerMeanings.{IsNot, IsOperand, IsGuard, IsCondition}
use Rattle.gms_parse.proofs.Steps.{got_by, gives_both, gives_the, gives_none, gives_some, refuses_the, refuses_second, refuses_some}
use Rattle.gms_parse.proofs.Nexts.{past, led_next, gives_exact, plain_stays, plain_starts, stays_same, stays_then, earlier, optionless_on, tableless_on}
pub use Rattle.gms_expressions.proofs.Sums.{leads_condition}

-- a name may follow a part of an expression if it may precede it
pub open_starts : {reader : Reader} {old new : Tables} {w v : ReaderState} → Starts reader old w → StaysOpen reader new w v → Starts reader new v
open_starts s o = record { has = o.stays.has; undotted = o.undotted; optionless = optionless_on o.stays.keyword s.optionless }

module _ {limit : ℕ} {reader : Reader} {at : ℕ} {tables : Tables} {w : ReaderState} (s : Starts reader tables w) where
  pub not_got : {t : Token} {following : ℕ} → IsNext (is Not) reader at t following → IsGot limit IsNot (StaysOpen reader tables w) (opt (token Not)) reader at tables w true following
  not_got {t} {following} n = got_by (gives_some (led_next n) (gives_exact n refl)) (record { stays = plain_stays reader w Not t following refl s.has; undotted = refl }) (λ sense m operand. refl) (let g = n.further in omega arith)

  pub not_none : leads productions look_ahead (token Not) (seen_from reader at) ≡ false → IsGot limit IsNot (StaysOpen reader tables w) (opt (token Not)) reader at tables w false at
  not_none unled = got_by (gives_none unled) (record { stays = stays_same s.has; undotted = s.undotted }) (λ sense m operand. refl) (omega arith)

-- an operand after `not`, or after none
pub guard_got : {F : Type 0} (value : F → Number) {limit : ℕ} {reader : Reader} {at start next : ℕ} {old new : Tables} {w : ReaderState} {not : Bool} {operand e : Expr F} → Starts reader old w →
    (g : IsGot limit IsNot (StaysOpen reader old w) (opt (token Not)) reader at old w not start) → IsGot limit (IsOperand value reader.source.now) (StaysOpen reader new g.following) (the Primary) reader start new g.following operand next →
    shown_tree value e ≡ cond not (not_so (shown_tree value operand)) (shown_tree value operand) → IsGot limit (IsGuard value reader.source.now) (StaysOpen reader new w) (opt (token Not) · the Primary) reader at new w e next
guard_got value {operand = operand} s g p shown = got_by (gives_both g.gives p.gives) (record { stays = stays_then g.leaves.stays p.leaves.stays; undotted = p.leaves.undotted })
    (λ sense m. shown ∙ sym (g.means sense (earlier p.gives g.leaves.stays.has.holds p.leaves.stays.has.holds m) (shown_tree value operand)) ∙ ap (negated_by g.tree) (p.means sense m)) (let a = g.further in let b = p.further in omega arith)

pub condition_none : {F : Type 0} (value : F → Number) {limit : ℕ} {reader : Reader} {at : ℕ} {old : Tables} {w : ReaderState} → Starts reader old w → leads productions look_ahead (token Dollar) (seen_from reader at) ≡ false →
    IsGot limit (IsCondition value reader.source.now) (StaysOpen reader old w) (opt (the Condition)) reader at old w None at
condition_none value {reader = reader} {at = at} {w = w} s unled = got_by (gives_none (leads_condition (seen_from reader at) ∙ unled)) (record { stays = stays_same s.has; undotted = s.undotted }) (λ sense m. refl) (omega arith)

module _ {reader : Reader} {at : ℕ} {old : Tables} {w : ReaderState} {t : Token} {following : ℕ} (s : Starts reader old w) (n : IsNext (is Dollar) reader at t following) where
  -- after the dollar
  pub dollar_starts : Starts reader old (past reader w Dollar t following)
  dollar_starts = plain_starts reader w Dollar t following refl refl s.has s.optionless

  pub dollar_tableless : Tableless w → Tableless (past reader w Dollar t following)
  dollar_tableless h = tableless_on (plain_stays reader w Dollar t following refl s.has).keyword h

  pub condition_got : {F : Type 0} (value : F → Number) {limit : ℕ} {new : Tables} {e : Expr F} {next : ℕ} → IsGot limit (IsGuard value reader.source.now) (StaysOpen reader new (past reader w Dollar t following)) (opt (token Not) · the Primary) reader following new (past reader w Dollar t following) e next →
      IsGot limit (IsCondition value reader.source.now) (StaysOpen reader new w) (opt (the Condition)) reader at new w (Some e) next
  condition_got value got = got_by (gives_some (leads_condition (seen_from reader at) ∙ led_next n) (gives_the Condition (gives_both (gives_exact n refl) got.gives)))
      (record { stays = stays_then (plain_stays reader w Dollar t following refl s.has) got.leaves.stays; undotted = got.leaves.undotted }) (λ sense m. ap Some (got.means sense m)) (let a = n.further in let b = got.further in omega arith)

  pub condition_refused : {limit : ℕ} {e : SourceFaultOrMemory} → Refuses limit reader.source.now (opt (token Not) · the Primary) (past reader w Dollar t following) (seen_from reader following) e → Refuses limit reader.source.now (opt (the Condition)) w (seen_from reader at) e
  condition_refused r = refuses_some (leads_condition (seen_from reader at) ∙ led_next n) (refuses_the Condition (refuses_second (gives_exact n refl) r))
