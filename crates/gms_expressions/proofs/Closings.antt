-- Parts in parentheses.
use Rattle.std.proofs.Common.{◌≡◌, ℕ, ◌+◌, Bool, false, List, Vec, Result, Ok, Err, refl, sym, ◌∙◌, subst, arith}
use Rattle.std.specs.Result.{MatchResult}
use Rattle.std.specs.declared.alloc.Global.{Global}
use Rattle.gq_number.specs.Number.{Number}
use Rattle.gms_lex.specs.declared.token.Token.{Token}
use Rattle.gms_ast.specs.declared.expression.Expr.{Expr}
use Rattle.gms_ast.specs.Trees.{Mark, Tree as Syntax}
use Rattle.gms_ast.specs.TreeView.{parts_of}
use Rattle.gms_grammar.specs.declared.terminal.Terminal.{Terminal}
use Rattle.gms_grammar.specs.declared.terminal.Terminal.TheVariants.{LeftParen, RightParen, Comma}
use Rattle.gms_grammar.specs.Grammar.{the, leaf, pair}
use Rattle.gms_grammar.specs.Reading.{leads}
use Rattle.gms_grammar.specs.Terminals.{is}
use Rattle.gms_grammar.specs.GamsGrammar.{Expression, ExpressionList, productions, token, bracketed}
use Rattle.gms_grammar.specs.GamsLookAhead.{look_ahead}
use Rattle.gms_expressions.specs.declared.fault.SyntaxFaultOrMemory.{SyntaxFaultOrMemory}
use Rattle.gms_expressions.specs.declared.reader.Reader.{Reader}
use Rattle.gms_expressions.specs.declared.reader.Tables.{Tables}
use Rattle.gms_expressions.specs.ExpressionTrees.{arguments}
use Rattle.gms_expressions.specs.InnerNodes.{plain_views}
use Rattle.gms_expressions.specs.InnerReadings.{Seen, Derivation, GamsPart, Refuses, Sense, IsGot, IsAnswer, IsNext, IsLacking, IsBefore, IsOpened, inside, seen_from, read_state_of}
use Rattle.gms_expressions.proofs.Steps.{got_by, refuses_second}
use Rattle.gms_expressions.proofs.Nexts.{gives_bracketed, refuses_unclosed, gives_next, leads_next, unled_next}
use Rattle.gms_expressions.proofs.Loops.{loop_got, loop_refuses}
use Rattle.gms_expressions.proofs.Lists.{Arguments}
use Rattle.gms_expressions.proofs.Chains.{in_sense, parts_before_all}

-- a token is as well next inside parentheses
pub next_inside : {test : Terminal → Bool} {reader : Reader} {at following : ℕ} {t : Token} (unclosed : ℕ) → IsNext test reader at t following → IsNext test (inside reader unclosed) at t following
next_inside unclosed n = record { kind = n.kind; passes = n.passes; kind_is = n.kind_is; is = n.is; placed = n.placed; within = n.within; further = n.further }

-- a part in parentheses was read, or its end is refused
pub closing_answer : {T : Type 0} {limit : ℕ} {Means : Sense → Derivation → T → Type 0} {p : GamsPart} {reader : Reader} {at start : ℕ} {inner : Reader} {old new : Tables} {x : T} {next : ℕ} (r : Result (T × ℕ) SyntaxFaultOrMemory) (o : IsOpened reader at inner start) →
    IsGot limit Means p (inside reader (reader.unclosed + 1)) start old new x next → MatchResult r (λ b. IsBefore RightParen reader next x b.0 b.1) (λ e. IsLacking (is RightParen) reader next e) →
    (Says : Sense → Derivation → T → Type 0) → ((sense : Sense) (tree : Derivation) (l m : Seen) → Means sense tree x → Says sense (pair (leaf l) (pair tree (leaf m))) x) → IsAnswer limit Says (bracketed p) reader at old new r
closing_answer {next = next} (Ok b) o got before Says says = got_by (gives_bracketed o got.gives before.next)
    (λ sense s. subst (λ y. Says sense (pair (leaf (LeftParen, o.token)) (pair got.tree (leaf (RightParen, before.token)))) y) (sym before.is) (says sense got.tree _ _ (got.means sense s)))
    (let f = got.further in let n = o.next.further in let m = before.next.further in omega arith)
closing_answer (Err e) o got lacking Says says = refuses_unclosed o got.gives lacking

module _ {F : Type 0} (value : F → Number) {limit : ℕ} {reader : Reader} {start : ℕ} {old new : Tables} {at : ℕ} where
  -- arguments, as a list means them
  pub arguments_got : (v : Vec (Expr F) Global) → Arguments limit (plain_views value v.items) reader start old new at → leads productions look_ahead (token Comma) (seen_from reader at) ≡ false →
      IsGot limit (λ sense tree (args : Vec (Expr F) Global). parts_of (plain_views value args.items) ≡ in_sense reader.source.now arguments sense tree) (the ExpressionList) reader start old new v at
  arguments_got v l unled = loop_got l.looping (unled_next (is Comma) (the Expression) (seen_from reader at) unled) _ v (λ sense tree h. sym (h ∙ parts_before_all (plain_views value v.items)))

pub arguments_refuses : {limit : ℕ} {views : List (Mark × Syntax Number)} {reader : Reader} {start : ℕ} {old new : Tables} {at : ℕ} → Arguments limit views reader start old new at → {following : ℕ} {t : Token} {last : Tables} {e : SyntaxFaultOrMemory} → IsNext (is Comma) reader at t following →
    Refuses limit reader.source.now (the Expression) last (read_state_of reader.unclosed new) (seen_from reader following) e → Refuses limit reader.source.now (the ExpressionList) last (read_state_of reader.unclosed old) (seen_from reader start) e
arguments_refuses {new = new} l next r = loop_refuses l.looping (leads_next (the Expression) next) (refuses_second (gives_next new next refl) r)
