-- What reads inside further parentheses, and what a reader asks of it.
use Rattle.std.proofs.Common.{ℕ, ◌+◌, ◌≤◌, Result, sym, subst, arith}
use Rattle.std.specs.Borrow.{MutBor}
use Rattle.gq_number.specs.Number.{Number}
use Rattle.gms_ast.specs.declared.expression.Expr.{Expr}
use Rattle.gms_grammar.specs.Grammar.{the}
use Rattle.gms_expressions.specs.declared.fault.SyntaxFaultOrMemory.{SyntaxFaultOrMemory}
use Rattle.gms_expressions.specs.declared.reader.Reader.{Reader}
use Rattle.gms_expressions.specs.declared.reader.Tables.{Tables}
use Rattle.gms_expressions.specs.declared.grammar.Inner.{Inner}
use Rattle.gms_expressions.specs.InnerReadings.{CanReadFrom, CanRead, CanReadHere, IsReady, IsOpened, IsExpression, inside, meaning_of, nonterminal_of}

-- a reader is as ready inside parentheses, where there are not too many
pub ready_inside : {reader : Reader} (unclosed : ℕ) → unclosed ≤ 100 → IsReady reader → IsReady (inside reader unclosed)
ready_inside unclosed few r = record { placed = r.placed; end = r.end; few = few }

module _ {F M : Type 0} {limit : ℕ} {value : F → Number} {reader : Reader} {pre : Reader → MutBor Tables → ℕ → Inner → M → Type 0}
    {post : Reader → MutBor Tables → ℕ → Inner → M → Result (Expr F × ℕ) SyntaxFaultOrMemory → MutBor Tables → Type 0} where
  -- what reading requires one parenthesis deeper
  pub deeper_from : {least : ℕ} (most : ℕ) (unclosed : ℕ) → unclosed ≤ 100 → least ≤ most → CanReadFrom limit value least reader pre post → CanReadFrom limit value most (inside reader unclosed) pre post
  deeper_from most unclosed few up c = record {
    ready = ready_inside unclosed few c.ready;
    callable = λ n tables at what field low high. c.callable n tables at what field (omega arith) high;
    reads = λ n old new at what field result low high p. c.reads n old new at what field result (omega arith) high p;
  }

  module _ {at start : ℕ} {inner : Reader} where
    -- inside the parenthesis that opens
    pub here_inside : CanRead limit value reader pre post → IsOpened reader at inner start → CanReadHere limit value inner pre post
    here_inside c o = let within_bound = o.within_bound in subst (λ (r : Reader). CanReadHere limit value r pre post) (sym o.inner_is) (deeper_from (reader.unclosed + 1) (reader.unclosed + 1) (omega arith) (omega arith) c)

    pub deeper_inside : CanRead limit value reader pre post → IsOpened reader at inner start → CanRead limit value inner pre post
    deeper_inside c o = let within_bound = o.within_bound in subst (λ (r : Reader). CanRead limit value r pre post) (sym o.inner_is) (deeper_from (reader.unclosed + 1 + 1) (reader.unclosed + 1) (omega arith) (omega arith) c)

    pub ready_opened : CanRead limit value reader pre post → IsOpened reader at inner start → IsReady inner
    ready_opened c o = (deeper_inside c o).ready

    pub callable_inside : CanRead limit value reader pre post → IsOpened reader at inner start → (tables : MutBor Tables) (from : ℕ) (what : Inner) (field : M) → pre inner tables from what field
    callable_inside c o tables from what field = let within_bound = o.within_bound in subst (λ (r : Reader). pre r tables from what field) (sym o.inner_is) (c.callable (reader.unclosed + 1) tables from what field (omega arith) (omega arith))

    pub reads_inside : CanRead limit value reader pre post → IsOpened reader at inner start → {old new : MutBor Tables} {from : ℕ} {what : Inner} {field : M} {result : Result (Expr F × ℕ) SyntaxFaultOrMemory} → post inner old from what field result new →
        IsExpression limit value (meaning_of what) (the (nonterminal_of what)) (inside reader (reader.unclosed + 1)) from old.now new.now result
    reads_inside c o {old} {new} {from} {what} {field} {result} p = let within_bound = o.within_bound in c.reads (reader.unclosed + 1) old new from what field result (omega arith) (omega arith) (subst (λ (r : Reader). post r old from what field result new) o.inner_is p)
