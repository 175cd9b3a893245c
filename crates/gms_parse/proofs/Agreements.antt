-- The tokens of an expression leave the same names, labels and parentheses, and have the same
-- faults, whether they are read as those of an expression or as those of a program.
use Rattle.std.proofs.Math.Bool.{or-false, and-false}
use Rattle.std.proofs.Common.{◌≡◌, ℕ, ◌<◌, Bool, true, false, not, ◌&&◌, ◌||◌, ◌==◌, cond, List, [], ◌∷◌, refl, sym, ap, ap₂, ◌∙◌, subst, arith}
use Rattle.gms_labels.specs.Labels.{entered, IsFullFor}
use Rattle.gms_lex.specs.TokenTexts.{token_text, unquoted}
use Rattle.gms_grammar.specs.declared.terminal.Terminal.{Terminal}
use Rattle.gms_grammar.specs.declared.terminal.Terminal.TheVariants.{Name, Suffix, Function, OrdCard, FoldOp, Infinity, NotAvailable, YesNo, Not, And, Or, RelationWord, Number, Text, Power, Relation, Circular, Sign, Star, Slash, Equals, LeftParen, RightParen, Comma, Dot, Dollar, Using, Display, Abort, Option, Table, Label, TableLine}
use Rattle.gms_grammar.specs.Terminals.{is, is_terminal_among}
use Rattle.gms_grammar.specs.Rules as rules
use Rattle.gms_expressions.specs.declared.fault.SyntaxFault.{SyntaxFault}
use Rattle.gms_expressions.specs.Outcomes as inner
use Rattle.gms_expressions.proofs.TokenKinds.{also}
use Rattle.gms_parse.specs.declared.fault.SourceFault.{SourceFault}
use Rattle.gms_parse.specs.Faults.{source_fault}
use Rattle.gms_parse.specs.Tables.{labels_of_lines}
use Rattle.gms_table.specs.WordLabels.{all_entered}
use Rattle.gms_parse.specs.ReadStates.{KindedToken, ReaderState, kind_ahead, last_kind, is_index, is_name, ExceedsTable, range_start, list_labels, lines_with, new_labels, reader_after, reader_after_all, IsFaulty, deep, out_of_range, many_names, many_labels, in_table, without_lines, AreTokensFaultless}
use Rattle.gms_parse.specs.InnerReadings.{Optionless, Tableless}
use Rattle.std.proofs.lemmas.Bool.{not-true, eqb-true}
use Rattle.gms_grammar.proofs.Basics.{not_true}
use Rattle.gms_parse.proofs.TokenKinds.{same_kind, begins}
use Rattle.gms_parse.proofs.StateLemmas.{keyword_after, bound_for_none}
use Rattle.gms_parse.proofs.Ranges.{full_of, lacks_append}
use Rattle.gms_parse.proofs.Alphabet.{AllPass}
use Rattle.gms_parse.proofs.Depths.{TextsAbove}

-- the kinds of the tokens of expressions
abbrev pub is_inner : Terminal → Bool
is_inner = is_terminal_among
    (Name ∷ Suffix ∷ Function ∷ OrdCard ∷ FoldOp ∷ Infinity ∷ NotAvailable ∷ YesNo ∷ Not ∷ And ∷ Or ∷ RelationWord ∷ Number ∷ Text ∷ Power ∷ Relation ∷ Circular ∷ Sign ∷ Star ∷ Slash ∷ Equals ∷ LeftParen ∷ RightParen ∷ Comma ∷ Dot ∷ Dollar ∷ [])

-- two states agree
pub record Agrees (w : ReaderState) (x : inner.ExpressionState) : Type 0 where
  pub open_count : w.open_count ≡ x.open_count
  pub names : w.names ≡ x.names
  pub labels : w.labels ≡ x.labels
  pub dotted : is_terminal_among (Dot ∷ Using ∷ []) (last_kind w.before) ≡ x.dotted
  pub optionless : Optionless w
  pub tableless : Tableless w

-- ---- one token

dot_or_using : (kind : Terminal) → is_inner kind ≡ true → is_terminal_among (Dot ∷ Using ∷ []) kind ≡ is Dot kind
dot_or_using Name h = refl
dot_or_using Dot h = refl
dot_or_using Using h = cc
dot_or_using _ h = refl

inner_keyword : (w : ReaderState) (source : List ℕ) (t : KindedToken) (ahead : Terminal) → is_inner t.0 ≡ true → ((reader_after source w t ahead).keyword ≡ w.keyword) × ((reader_after source w t ahead).level ≡ w.level)
inner_keyword w source t ahead h = keyword_after source w t ahead (not-true (begins t.0) (also is_inner (λ k. not (begins k)) refl t.0 h))

-- a name is one for both
same_name : (w : ReaderState) (x : inner.ExpressionState) (kind : Terminal) → Agrees w x → is_name w kind ≡ inner.is_name_token x kind
same_name w x kind a = ap (λ b. is_terminal_among (Name ∷ Suffix ∷ []) kind && not b) (ap₂ (λ b c. b || c) a.dotted a.optionless ∙ or-false x.dotted)

-- a text inside deep enough parentheses is an index
deep_index : (w : ReaderState) (kind : Terminal) → (kind ≡ Text → w.level < w.open_count) → is_index w kind ≡ is Text kind
deep_index w Text h = let l = h refl in ap not (ap (λ b. is_terminal_among (Display ∷ Abort ∷ []) w.keyword && b) (not_true (w.open_count == w.level) (λ e. let k = eqb-true w.open_count w.level e in omega (arith, l, k))) ∙ and-false _)
deep_index w _ h = refl

-- the labels that a token of an expression enters
same_new : (source : List ℕ) (w : ReaderState) (t : KindedToken) (ahead : Terminal) → is_inner t.0 ≡ true → (t.0 ≡ Text → w.level < w.open_count) → new_labels source w t ahead ≡ cond (is Text t.0) (unquoted (token_text source t.1) ∷ []) []
same_new source w t ahead h d =
    let lines : List (List ℕ) = labels_of_lines source (lines_with source w.before t) in
    let listed : List (List ℕ) = list_labels source (range_start w.before) ahead t.1 in
    ap (λ b. cond b (unquoted (token_text source t.1) ∷ []) (cond (is Label t.0) listed (cond (is TableLine t.0 && not (is TableLine ahead)) lines []))) (deep_index w t.0 d) ∙ others t.0 h (unquoted (token_text source t.1) ∷ []) listed lines (not (is TableLine ahead))
  where
    others : (kind : Terminal) → is_inner kind ≡ true → (text : List (List ℕ)) (a b : List (List ℕ)) (c : Bool) → cond (is Text kind) text (cond (is Label kind) a (cond (is TableLine kind && c) b [])) ≡ cond (is Text kind) text []
    others Label h text a b c = cc
    others TableLine h text a b c = cc
    others _ h text a b c = refl

-- ---- labels that are full

entered_by : (b : Bool) (labels : List (List ℕ)) (text : List ℕ) → all_entered labels (cond b (text ∷ []) []) ≡ cond b (entered labels text) labels
entered_by true labels text = refl
entered_by false labels text = refl

module _ (limit : ℕ) (source : List ℕ) where
  same_labels : (w : ReaderState) (x : inner.ExpressionState) (t : KindedToken) (ahead : Terminal) → is_inner t.0 ≡ true → (t.0 ≡ Text → w.level < w.open_count) → Agrees w x →
      (reader_after source w t ahead).labels ≡ (inner.state_after_token source x t).labels
  same_labels w x t ahead h d a =
      ap (all_entered w.labels) (same_new source w t ahead h d) ∙ entered_by (is Text t.0) w.labels (unquoted (token_text source t.1)) ∙ ap (λ ls. cond (is Text t.0) (entered ls (unquoted (token_text source t.1))) ls) a.labels

  -- a fault for one is one for the other
  pub fault_inside : (w : ReaderState) (x : inner.ExpressionState) (t : KindedToken) (ahead : Terminal) → is_inner t.0 ≡ true → (t.0 ≡ Text → w.level < w.open_count) → Agrees w x → (fault : SourceFault) → IsFaulty limit source w t ahead fault →
      (found : SyntaxFault) × inner.IsFaultyInExpression limit source x t found
  fault_inside w x t ahead h d a fault (deep e k) = (_, inner.deep e (let o = a.open_count in omega (arith, k, o)))
  fault_inside w x t ahead h d a fault (out_of_range e k) = (_, inner.out_of_range e k)
  fault_inside w x t ahead h d a fault (many_names n k) =
      (_, inner.many_names (sym (same_name w x t.0 a) ∙ n) (subst (λ (ns : List (List ℕ)). IsFullFor ns (token_text source t.1)) a.names k))
  fault_inside w x t ahead h d a fault (many_labels n k) = go (is Text t.0) refl
    where
      text : List ℕ
      text = unquoted (token_text source t.1)

      new_are : new_labels source w t ahead ≡ cond (is Text t.0) (text ∷ []) []
      new_are = same_new source w t ahead h d

      go : (b : Bool) → is Text t.0 ≡ b → (found : SyntaxFault) × inner.IsFaultyInExpression limit source x t found
      go true e =
          let lacks : ExceedsTable w.labels (text ∷ []) = subst (λ (ls : List (List ℕ)). ExceedsTable w.labels ls) (new_are ∙ ap (λ b. cond b (text ∷ []) []) e) k in
          (_, inner.many_labels (sym (same_kind Text t.0 e)) (subst (λ (ls : List (List ℕ)). IsFullFor ls text) a.labels (full_of w.labels text lacks)))
      go false e = absurd (bound_for_none w.labels (new_labels source w t ahead) (new_are ∙ ap (λ b. cond b (text ∷ []) []) e) k)
  fault_inside w x t ahead h d a fault (in_table e k f) = let n : is_inner t.0 ≡ false = ap is_inner e in cc
  fault_inside w x t ahead h d a fault (without_lines e k f) = let n : is Table w.keyword ≡ true = ap (is Table) k in let m = a.tableless in cc

  pub fault_outside : (w : ReaderState) (x : inner.ExpressionState) (t : KindedToken) (ahead : Terminal) → is_inner t.0 ≡ true → (t.0 ≡ Text → w.level < w.open_count) → Agrees w x → (found : SyntaxFault) → inner.IsFaultyInExpression limit source x t found →
      IsFaulty limit source w t ahead (source_fault found)
  fault_outside w x t ahead h d a found (inner.deep e k) = deep e (let o = a.open_count in omega (arith, k, o))
  fault_outside w x t ahead h d a found (inner.out_of_range e k) = out_of_range e k
  fault_outside w x t ahead h d a found (inner.many_names n k) = many_names (same_name w x t.0 a ∙ n) (subst (λ (ns : List (List ℕ)). IsFullFor ns (token_text source t.1)) (sym a.names) k)
  fault_outside w x t ahead h d a found (inner.many_labels e k) =
      let text : List ℕ = unquoted (token_text source t.1) in
      let there : is Text t.0 ≡ true = ap (is Text) e in
      let new_are : new_labels source w t ahead ≡ text ∷ [] = same_new source w t ahead h d ∙ ap (λ b. cond b (text ∷ []) []) there in
      many_labels (ap (is TableLine) e) (subst (λ (ls : List (List ℕ)). ExceedsTable w.labels ls) (sym new_are) (lacks_append w.labels [] text [] (subst (λ (ls : List (List ℕ)). IsFullFor ls text) (sym a.labels) k)))

  -- a sound token leaves states that agree
  agrees_on : (w : ReaderState) (x : inner.ExpressionState) (t : KindedToken) (ahead : Terminal) → is_inner t.0 ≡ true → (t.0 ≡ Text → w.level < w.open_count) → Agrees w x →
      Agrees (reader_after source w t ahead) (inner.state_after_token source x t)
  agrees_on w x t ahead h d a =
      let k = inner_keyword w source t ahead h in
      record {
        open_count = ap (λ n. inner.open_after n t.0) a.open_count;
        names = ap₂ (λ b ns. cond b (entered ns (token_text source t.1)) ns) (same_name w x t.0 a) a.names;
        labels = same_labels w x t ahead h d a;
        dotted = dot_or_using t.0 h;
        optionless = ap (is Option) k.0 ∙ a.optionless;
        tableless = ap (is Table) k.0 ∙ a.tableless;
      }

  -- tokens that are sound for one are so for the other, and leave states that agree
  pub record Agreed (w : ReaderState) (x : inner.ExpressionState) (ts : List KindedToken) (ahead : Terminal) : Type 0 where
    pub sound : AreTokensFaultless limit source w ts ahead
    pub agrees : Agrees (reader_after_all source w ts ahead) (inner.state_after_tokens source x ts ahead)
    pub keyword : (reader_after_all source w ts ahead).keyword ≡ w.keyword
    pub level : (reader_after_all source w ts ahead).level ≡ w.level

  pub agree : (w : ReaderState) (x : inner.ExpressionState) (ts : List KindedToken) (ahead : Terminal) → AllPass is_inner ts → TextsAbove w.level w.open_count ts → Agrees w x → rules.AreFaultless (inner.syntax_rule (limit, source)) x ts ahead → Agreed w x ts ahead
  agree w x [] ahead h d a s = record { sound = tt; agrees = a; keyword = refl; level = refl }
  agree w x (t ∷ ts) ahead h d a s =
      let k = inner_keyword w source t (kind_ahead ts ahead) h.0 in
      let on = agree (reader_after source w t (kind_ahead ts ahead)) (inner.state_after_token source x t) ts ahead h.1 (subst (λ (l : ℕ). TextsAbove l (inner.open_after w.open_count t.0) ts) (sym k.1) d.1) (agrees_on w x t (kind_ahead ts ahead) h.0 d.0 a) s.1 in
      record {
        sound = (λ fault f. let g = fault_inside w x t (kind_ahead ts ahead) h.0 d.0 a fault f in s.0 g.0 g.1, on.sound);
        agrees = on.agrees;
        keyword = on.keyword ∙ k.0;
        level = on.level ∙ k.1;
      }
