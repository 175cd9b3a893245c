-- A source has one program or one first fault.
use Rattle.std.proofs.Common.{◌≡◌, ℕ, ◌≤◌, true, false, List, [], ◌∷◌, ◌++◌, length, Ok, Err, refl, sym, ap, ap₂, ◌∙◌, subst, append-nil, arith, ◌⊎◌, inl, inr}
use Rattle.gq_number.specs.Number.{Number as Rational}
use Rattle.gms_ast.specs.StatementTrees.{Statements}
use Rattle.gms_lex.specs.declared.token.Token.{Token}
use Rattle.gms_lex.specs.Tokens.{most_source_bytes}
use Rattle.gms_lex.proofs.AnswerLemmas.{means_only}
use Rattle.gms_grammar.specs.declared.terminal.Terminal.{Terminal}
use Rattle.gms_grammar.specs.declared.terminal.Terminal.TheVariants.{LeftParen, RightParen, Number, TableLine, End}
use Rattle.gms_grammar.specs.Grammar.{the, yield, Stops}
use Rattle.gms_grammar.specs.Terminals.{is}
use Rattle.gms_grammar.specs.GamsGrammar.{Program, productions}
use Rattle.gms_grammar.proofs.Basics.{after_same}
use Rattle.gms_grammar.proofs.Stopping.{stops_once}
use Rattle.gms_grammar.proofs.Language.{gams_unique}
use Rattle.gms_grammar.specs.Rules as rules
use Rattle.gms_grammar.proofs.FirstFaults.{no_first, one_refused}
use Rattle.gms_expressions.specs.Outcomes.{kinded_tokens}
use Rattle.gms_parse.specs.declared.fault.SourceError.TheVariants.{Syntax, Table}
use Rattle.gms_expressions.specs.declared.fault.SyntaxError.TheVariants.{Depth, Number as OutOfRange, TooManyLabels}
use Rattle.gms_table.specs.declared.fault.TableError.TheVariants.{NoHeading}
use Rattle.gms_parse.specs.declared.fault.SourceFault.{SourceFault}
use Rattle.gms_parse.specs.Faults.{lexical_fault}
use Rattle.gms_parse.specs.Programs.{statements_of}
use Rattle.gms_parse.specs.Outcomes.{ProgramView, HasProgram, IsProgramOf, IsSourceFault, IsNoProgram, RequiresMore}
use Rattle.gms_parse.specs.Tables.{IsTableLineFault}
use Rattle.gms_parse.specs.ReadStates.{KindedToken, ReaderState, start, kind_of, is_name, table_name, ExceedsTable, lines_with, new_labels, reader_after_all, source_rule, IsFaulty, deep, out_of_range, many_names, many_labels, in_table, without_lines, AreTokensFaultless}
use Rattle.gms_parse.specs.InnerReadings.{Derivation}
use Rattle.gms_parse.proofs.Alphabet.{pass_rest}
use Rattle.gms_parse.proofs.EndTokens.{begins_other, is_other}
use Rattle.gms_parse.proofs.StateLemmas.{bound_for_none}
use Rattle.gms_parse.proofs.TableFaults.{one_line_fault}

-- programs with the same names, labels and statements have the same view
same_view : (one other : ProgramView) → one.names ≡ other.names → one.labels ≡ other.labels → one.statements ≡ other.statements → one ≡ other
same_view one other names labels statements =
    ap₂ (λ (x : List (List ℕ) × List (List ℕ)) (s : Statements Rational). record { names = x.0; labels = x.1; statements = s }) (ap₂ (λ (a : List (List ℕ)) (b : List (List ℕ)). (a, b)) names labels) statements

module _ (limit : ℕ) (source : List ℕ) where
  -- ---- programs

  -- the tokens cease to begin a program at the end
  pub program_stops : {tokens : List KindedToken} {names labels : List (List ℕ)} {statements : Statements Rational} (p : IsProgramOf limit source tokens names labels statements) → Stops productions (the Program) tokens (yield p.tree) ((End, p.end) ∷ [])
  program_stops p = record {
    parts = p.tokens_are;
    begins = record { further = []; derives = record { tree = p.tree; is_tree = p.is_tree; yields = sym (append-nil (yield p.tree)) } };
    ends = λ b.
        let last = pass_rest is_other (yield p.tree) ((End, p.end) ∷ []) (begins_other (yield p.tree ++ (End, p.end) ∷ []) b) in
        let no : is_other End ≡ true = last.0 in
        cc;
  }

  -- two programs of the same tokens have the same view
  one_view : (tokens : List KindedToken) (one other : ProgramView) → IsProgramOf limit source tokens one.names one.labels one.statements → IsProgramOf limit source tokens other.names other.labels other.statements → one ≡ other
  one_view tokens one other p q =
      let yields = stops_once productions (the Program) tokens (yield p.tree) ((End, p.end) ∷ []) (yield q.tree) ((End, q.end) ∷ []) (program_stops p) (program_stops q) in
      let trees : p.tree ≡ q.tree = gams_unique Program p.tree q.tree p.is_tree q.is_tree yields in
      let names : one.names ≡ other.names = p.names_are ∙ ap (λ (t : Derivation). (reader_after_all source start (yield t) End).names) trees ∙ sym q.names_are in
      let labels : one.labels ≡ other.labels = p.labels_are ∙ ap (λ (t : Derivation). (reader_after_all source start (yield t) End).labels) trees ∙ sym q.labels_are in
      let statements : one.statements ≡ other.statements =
      p.statements_are
      ∙ ap (λ (ns : List (List ℕ)). statements_of source ns one.labels p.tree) names
      ∙ ap (λ (ls : List (List ℕ)). statements_of source other.names ls p.tree) labels
      ∙ ap (λ (t : Derivation). statements_of source other.names other.labels t) trees
      ∙ sym q.statements_are in
      same_view one other names labels statements

  -- two programs of a source have the same view
  pub one_program : (one other : ProgramView) → HasProgram limit source one → HasProgram limit source other → one ≡ other
  one_program one other p q =
      let are : Ok p.tokens ≡ Ok q.tokens = means_only source (Ok p.tokens) (Ok q.tokens) p.are_tokens q.are_tokens in
      let same : q.tokens ≡ p.tokens = cc in
      one_view (kinded_tokens source p.tokens) one other p.is (subst (λ (ts : List Token). IsProgramOf limit source (kinded_tokens source ts) other.names other.labels other.statements) same q.is)

  -- ---- a program and a fault

  -- tokens that are a program up to the end have no fault
  no_fault : (tokens : List KindedToken) (names labels : List (List ℕ)) (statements : Statements Rational) (fault : SourceFault) → IsProgramOf limit source tokens names labels statements → IsNoProgram limit source tokens fault → ⊥
  no_fault tokens names labels statements fault p none = by_cause none.cause
    where
      prefix : yield p.tree ≡ none.prefix
      prefix = stops_once productions (the Program) tokens (yield p.tree) ((End, p.end) ∷ []) none.prefix none.rest (program_stops p) none.stops

      rest : (End, p.end) ∷ [] ≡ none.rest
      rest = after_same (yield p.tree) ((End, p.end) ∷ []) none.rest (sym p.tokens_are ∙ none.stops.parts ∙ ap (λ w. w ++ none.rest) (sym prefix))

      ahead : kind_of none.rest ≡ End
      ahead = ap kind_of (sym rest)

      by_cause : rules.IsFirstFaulty source_rule (limit, source) start none.prefix (kind_of none.rest) fault ⊎ rules.IsUnexpectedByRule source_rule (limit, source) (RequiresMore none.prefix none.rest) start none.prefix none.rest fault → ⊥
      by_cause (inl first) =
          no_first source_rule (limit, source) start none.prefix (kind_of none.rest) fault first
          (subst (λ (k : Terminal). AreTokensFaultless limit source start none.prefix k) (sym ahead) (subst (λ (w : List KindedToken). AreTokensFaultless limit source start w End) prefix p.are_sound))
      by_cause (inr unexpected) = unexpected.needs ahead (record { tree = p.tree; is_tree = p.is_tree; yields = prefix })

  -- a source that has a program has no fault
  pub program_or_fault : (view : ProgramView) (fault : SourceFault) → HasProgram limit source view → IsSourceFault limit source fault → ⊥
  program_or_fault view fault p (inl too) = let few : length source ≤ most_source_bytes = p.short in omega (arith, few, too.0)
  program_or_fault view fault p (inr (inl lexical)) =
      let one : Ok p.tokens ≡ Err lexical.lexical = means_only source (Ok p.tokens) (Err lexical.lexical) p.are_tokens lexical.is_first in
      cc
  program_or_fault view fault p (inr (inr syntactic)) =
      let one : Ok p.tokens ≡ Ok syntactic.tokens = means_only source (Ok p.tokens) (Ok syntactic.tokens) p.are_tokens syntactic.are_tokens in
      let same : syntactic.tokens ≡ p.tokens = cc in
      no_fault (kinded_tokens source p.tokens) view.names view.labels view.statements fault p.is (subst (λ (ts : List Token). IsNoProgram limit source (kinded_tokens source ts) fault) same syntactic.refused)

  -- ---- faults

  -- what the fault of a token of this kind is
  abbrev Tells : ReaderState → Terminal → Token → SourceFault → Type 0
  Tells read_state LeftParen token fault = fault ≡ record { error = Syntax Depth; at = token.at }
  Tells read_state Number token fault = fault ≡ record { error = Syntax OutOfRange; at = token.at }
  Tells read_state TableLine token fault =
      IsTableLineFault limit source (table_name read_state.before) read_state.labels (lines_with source read_state.before (TableLine, token)) fault
  Tells read_state RightParen token fault = fault ≡ record { error = Table NoHeading; at = table_name read_state.before }
  Tells read_state _ token fault = fault ≡ record { error = Syntax TooManyLabels; at = token.at }

  names_tell : (read_state : ReaderState) (kind : Terminal) (token : Token) → is_name read_state kind ≡ true → Tells read_state kind token (record { error = Syntax TooManyLabels; at = token.at })
  names_tell read_state LeftParen token h = absurd cc
  names_tell read_state Number token h = absurd cc
  names_tell read_state TableLine token h = absurd cc
  names_tell read_state RightParen token h = absurd cc
  names_tell read_state _ token h = refl

  labels_tell : (read_state : ReaderState) (kind : Terminal) (token : Token) (ahead : Terminal) → is TableLine kind ≡ false → ExceedsTable read_state.labels (new_labels source read_state (kind, token) ahead) → Tells read_state kind token (record { error = Syntax TooManyLabels; at = token.at })
  labels_tell read_state LeftParen token ahead h l = absurd (bound_for_none read_state.labels (new_labels source read_state (LeftParen, token) ahead) refl l)
  labels_tell read_state Number token ahead h l = absurd (bound_for_none read_state.labels (new_labels source read_state (Number, token) ahead) refl l)
  labels_tell read_state RightParen token ahead h l = absurd (bound_for_none read_state.labels (new_labels source read_state (RightParen, token) ahead) refl l)
  labels_tell read_state TableLine token ahead h l = absurd cc
  labels_tell read_state _ token ahead h l = refl

  tells : {fault : SourceFault} (read_state : ReaderState) (kind : Terminal) (token : Token) (ahead : Terminal) → IsFaulty limit source read_state (kind, token) ahead fault → Tells read_state kind token fault
  tells read_state kind token ahead (deep e d) = subst (λ (k : Terminal). Tells read_state k token (record { error = Syntax Depth; at = token.at })) (sym e) refl
  tells read_state kind token ahead (out_of_range e d) = subst (λ (k : Terminal). Tells read_state k token (record { error = Syntax OutOfRange; at = token.at })) (sym e) refl
  tells read_state kind token ahead (many_names n d) = names_tell read_state kind token n
  tells read_state kind token ahead (many_labels n d) = labels_tell read_state kind token ahead n d
  tells read_state kind token ahead (in_table {fault} e d f) =
      subst (λ (k : Terminal). Tells read_state k token fault) (sym e)
      (subst (λ (k : Terminal). IsTableLineFault limit source (table_name read_state.before) read_state.labels (lines_with source read_state.before (k, token)) fault) e f)
  tells read_state kind token ahead (without_lines e d f) = subst (λ (k : Terminal). Tells read_state k token (record { error = Table NoHeading; at = table_name read_state.before })) (sym e) refl

  one_told : (read_state : ReaderState) (kind : Terminal) (token : Token) (one other : SourceFault) → Tells read_state kind token one → Tells read_state kind token other → one ≡ other
  one_told read_state TableLine token one other h k =
      one_line_fault limit source (table_name read_state.before) read_state.labels (lines_with source read_state.before (TableLine, token)) one other h k
  one_told read_state LeftParen token one other h k = h ∙ sym k
  one_told read_state Number token one other h k = h ∙ sym k
  one_told read_state RightParen token one other h k = h ∙ sym k
  one_told read_state _ token one other h k = h ∙ sym k

  -- a source has one first fault
  pub one_fault : (one other : SourceFault) → IsSourceFault limit source one → IsSourceFault limit source other → one ≡ other
  one_fault one other (inl a) (inl b) = a.1 ∙ sym b.1
  one_fault one other (inl a) (inr (inl b)) = absurd (let few : length source ≤ most_source_bytes = b.short in omega (arith, few, a.0))
  one_fault one other (inl a) (inr (inr b)) = absurd (let few : length source ≤ most_source_bytes = b.short in omega (arith, few, a.0))
  one_fault one other (inr (inl a)) (inl b) = absurd (let few : length source ≤ most_source_bytes = a.short in omega (arith, few, b.0))
  one_fault one other (inr (inr a)) (inl b) = absurd (let few : length source ≤ most_source_bytes = a.short in omega (arith, few, b.0))
  one_fault one other (inr (inl a)) (inr (inl b)) =
      let are : Err a.lexical ≡ Err b.lexical = means_only source (Err a.lexical) (Err b.lexical) a.is_first b.is_first in
      let same : a.lexical ≡ b.lexical = cc in
      a.is ∙ ap lexical_fault same ∙ sym b.is
  one_fault one other (inr (inl a)) (inr (inr b)) =
      let are : Err a.lexical ≡ Ok b.tokens = means_only source (Err a.lexical) (Ok b.tokens) a.is_first b.are_tokens in
      absurd cc
  one_fault one other (inr (inr a)) (inr (inl b)) =
      let are : Ok a.tokens ≡ Err b.lexical = means_only source (Ok a.tokens) (Err b.lexical) a.are_tokens b.is_first in
      absurd cc
  one_fault one other (inr (inr a)) (inr (inr b)) =
      let are : Ok a.tokens ≡ Ok b.tokens = means_only source (Ok a.tokens) (Ok b.tokens) a.are_tokens b.are_tokens in
      let same : b.tokens ≡ a.tokens = cc in
      one_refused source_rule (limit, source) (λ read_state token ahead one other h k. one_told read_state token.0 token.1 one other (tells read_state token.0 token.1 ahead h) (tells read_state token.0 token.1 ahead k)) Program start (kinded_tokens source a.tokens) one other a.refused (subst (λ (ts : List Token). IsNoProgram limit source (kinded_tokens source ts) other) same b.refused)
