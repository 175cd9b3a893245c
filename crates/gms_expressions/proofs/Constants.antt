-- Constants: numbers, infinities, what is not available, and `yes` and `no`.
use Rattle.std.proofs.Common.{◌≡◌, ℕ, Bool, true, if◌then◌else◌, List, [], ◌∷◌, refl, sym, ap, ◌∙◌, arith}
use Rattle.std.specs.Prelude.{codes}
use Rattle.gq_number.specs.Number.{Number as Rational}
use Rattle.gms_lex.specs.declared.token.Token.{Token}
use Rattle.gms_lex.specs.TokenTexts.{token_text}
use Rattle.gms_ast.specs.declared.expression.Expr.{Expr, PlusInf, Na, Yes, No}
use Rattle.gms_ast.specs.declared.expression.Expr.TheOpen.{Expr-F}
use Rattle.gms_ast.specs.declared.expression.Expr.TheFolds.{fold-roll-Expr}
use Rattle.gms_ast.specs.declared.expression.Expr.TheVariants.{rolls-PlusInf, rolls-Na, rolls-Yes, rolls-No}
use Rattle.gms_ast.specs.Trees.{Tree, Indices, Control, number as number_node, plus_infinity, not_available, yes, no}
use Rattle.gms_ast.specs.TreeView.{tree_step, index_step, control_step, tree_of}
use Rattle.gms_grammar.specs.declared.terminal.Terminal.{Terminal}
use Rattle.gms_grammar.specs.declared.terminal.Terminal.TheVariants.{Number, Infinity, NotAvailable, YesNo}
use Rattle.gms_grammar.specs.Terminals.{is_terminal_among}
use Rattle.gms_grammar.specs.GamsGrammar.{any_of}
use Rattle.gms_expressions.specs.Valuations.{number_meant}
use Rattle.gms_expressions.proofs.Valued.{number_in_is}
use Rattle.gms_expressions.specs.declared.fault.SyntaxFaultOrMemory.{SyntaxFaultOrMemory}
use Rattle.gms_expressions.specs.declared.reader.Reader.{Reader}
use Rattle.gms_expressions.specs.declared.reader.Tables.{Tables}
use Rattle.gms_expressions.specs.InnerNodes.{view}
use Rattle.gms_expressions.specs.ExpressionTrees.{constant_in, constant_of, is_word}
use Rattle.gms_expressions.specs.InnerReadings.{Refuses, IsGot, IsNext, IsMeant, IsValue, IsOutOfRange, kind_of, seen_from, read_state_of}
use Rattle.gms_expressions.proofs.TokenKinds.{is_plain}
use Rattle.gms_expressions.proofs.ReadStates.{plain_after, plain_sound}
use Rattle.gms_expressions.proofs.Steps.{got_by, gives_one}
use Rattle.gms_expressions.proofs.Nexts.{kind_next}
use Rattle.gms_expressions.proofs.Entering.{number_gives, number_refused}

abbrev constants : List Terminal
constants = Number ∷ Infinity ∷ NotAvailable ∷ YesNo ∷ []

-- a constant of no other kind is a number
number_left : (kind : Terminal) → is_terminal_among constants kind ≡ true → (kind ≡ Infinity → ⊥) → (kind ≡ NotAvailable → ⊥) → (kind ≡ YesNo → ⊥) → kind ≡ Number
number_left Number h a b c = refl
number_left Infinity h a b c = absurd (a refl)
number_left NotAvailable h a b c = absurd (b refl)
number_left YesNo h a b c = absurd (c refl)
number_left _ h a b c = cc

-- whether a word is `yes` is what it shows
pub shows_word : (shown text : List ℕ) (is_yes b : Bool) (x : Rational) → shown ≡ text → is_yes ≡ is_word shown (codes "yes") → is_yes ≡ b → constant_of YesNo text x ≡ (if b then yes else no)
shows_word shown text is_yes b x same e h = ap (λ (b : Bool). if b then yes else no) (ap (λ (t : List ℕ). is_word t (codes "yes")) (sym same) ∙ sym e ∙ h)

module _ {F : Type 0} where
  pub tree_of-PlusInf : tree_of {F = F} PlusInf ≡ plus_infinity
  tree_of-PlusInf = ap (tree_of {F = F}) (sym rolls-PlusInf) ∙ fold-roll-Expr F (Tree F) (Indices F → Indices F) (Control F) tree_step index_step control_step Expr-F.PlusInf

  pub tree_of-Na : tree_of {F = F} Na ≡ not_available
  tree_of-Na = ap (tree_of {F = F}) (sym rolls-Na) ∙ fold-roll-Expr F (Tree F) (Indices F → Indices F) (Control F) tree_step index_step control_step Expr-F.Na

  pub tree_of-Yes : tree_of {F = F} Yes ≡ yes
  tree_of-Yes = ap (tree_of {F = F}) (sym rolls-Yes) ∙ fold-roll-Expr F (Tree F) (Indices F → Indices F) (Control F) tree_step index_step control_step Expr-F.Yes

  pub tree_of-No : tree_of {F = F} No ≡ no
  tree_of-No = ap (tree_of {F = F}) (sym rolls-No) ∙ fold-roll-Expr F (Tree F) (Indices F → Indices F) (Control F) tree_step index_step control_step Expr-F.No

module _ {reader : Reader} {at following : ℕ} {token : Token} (tables : Tables) (kind : Terminal) (next : kind ≡ kind_of (seen_from reader at)) (n : IsNext (is_terminal_among constants) reader at token following) where
  there : n.kind ≡ kind
  there = sym (kind_next n) ∙ sym next

  -- a constant that is no number
  pub constant_got : {limit : ℕ} {F : Type 0} {value : F → Rational} (other : Terminal) → kind ≡ other → is_plain other ≡ true → (e : Expr F) → ((x : Rational) → view value e ≡ constant_of other (token_text reader.source.now token) x) →
      IsGot limit (IsMeant value reader.source.now constant_in) (any_of constants) reader at tables tables e following
  constant_got {limit = limit} other is plain e shows =
      let k : is_plain n.kind ≡ true = ap is_plain (there ∙ is) ∙ plain in
      got_by (gives_one n.is n.passes (plain_sound limit reader.source.now (read_state_of reader.unclosed tables) n.kind token k) (sym (plain_after reader.source.now reader.unclosed tables n.kind token k)))
      (λ sense s. record { is = shows (number_meant (token_text reader.source.now token)) ∙ ap (λ t. constant_of t (token_text reader.source.now token) (number_meant (token_text reader.source.now token))) (sym (there ∙ is)) })
      (let g = n.further in omega arith)

  module _ (not_infinity : kind ≡ Infinity → ⊥) (not_na : kind ≡ NotAvailable → ⊥) (not_yes : kind ≡ YesNo → ⊥) where
    is_number : n.kind ≡ Number
    is_number = there ∙ number_left kind (ap (is_terminal_among constants) (sym there) ∙ n.passes) not_infinity not_na not_yes

    number_there : seen_from reader at ≡ (Number, token) ∷ seen_from reader following
    number_there = n.is ∙ ap (λ t. (t, token) ∷ seen_from reader following) is_number

    -- a number among the constants
    pub constant_number : {limit : ℕ} {F : Type 0} {value : F → Rational} (v : F) → IsValue limit value (token_text reader.source.now token) v → (e : Expr F) → view value e ≡ number_node (value v) →
        IsGot limit (IsMeant value reader.source.now constant_in) (any_of constants) reader at tables tables e following
    constant_number {value = value} v within e is = got_by (number_gives reader at following tables (value v) number_there refl within.0 within.1)
        (λ sense s. record { is = is ∙ ap number_node (sym (number_in_is (token_text reader.source.now token) (value v) within.0)) }) (let g = n.further in omega arith)

    -- which is out of range
    pub constant_refused : {limit : ℕ} {e : SyntaxFaultOrMemory} → IsOutOfRange limit reader.source.now token e → Refuses limit reader.source.now (any_of constants) tables (read_state_of reader.unclosed tables) (seen_from reader at) e
    constant_refused o = number_refused reader at following tables number_there refl o
