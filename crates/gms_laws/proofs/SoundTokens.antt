-- Tokens without a fault, computed, and the program that they are.
use Rattle.std.proofs.lemmas.Bool.{and_parts}
use Rattle.std.proofs.Common.{◌≡◌, ℕ, ◌+◌, ◌^◌, ◌<◌, ◌≤◌, ◌&&◌, ◌||◌, Bool, true, false, not, nat_lt, nat_le, List, [], ◌∷◌, ◌++◌, length, refl, sym, ap, ◌∙◌, subst, arith, ltb-true, leb-true, eqb-true, length-append}
use Rattle.std.specs.Prelude.{is_some, if◌then◌else◌}
use Rattle.std.specs.List.{list_all}
use Rattle.std.proofs.lemmas.List.Elements.{All-head}
use Rattle.std.proofs.lemmas.List.Folds.{list_all-append}
use Rattle.gms_labels.specs.Labels.{entered, place_of, most_labels}
use Rattle.gms_grammar.specs.Lines.{code_text}
use Rattle.gms_grammar.specs.declared.lexeme.Lexeme.{Lexeme}
use Rattle.gms_lex.specs.declared.mode.Mode.TheVariants.{Code}
use Rattle.gms_lex.specs.declared.token.Token.{Token}
use Rattle.gms_lex.specs.TokenTexts.{token_text}
use Rattle.gms_lex.specs.Tokens.{most_source_bytes}
use Rattle.gms_table.specs.WordLabels.{all_entered}
use Rattle.gms_grammar.specs.declared.terminal.Terminal.{Terminal}
use Rattle.gms_grammar.specs.declared.terminal.Terminal.TheVariants.{LeftParen, RightParen, Number, Table, TableLine, End}
use Rattle.gms_grammar.specs.Grammar.{the, DerivationTree, yield, IsTree}
use Rattle.gms_grammar.specs.GamsGrammar.{Program, productions}
use Rattle.gms_grammar.specs.Rules.{kind_ahead}
use Rattle.gms_grammar.specs.Terminals.{is}
use Rattle.gms_expressions.specs.Outcomes.{kinded_tokens}
use Rattle.gms_expressions.proofs.TokenKinds.{same_number}
use Rattle.gms_parse.specs.declared.fault.SourceFault.{SourceFault}
use Rattle.gms_parse.specs.Outcomes.{ProgramView, IsTableOf, HaveItems, HasProgram}
use Rattle.gms_parse.specs.Programs.{statements_of}
use Rattle.gms_parse.specs.ReadStates.{KindedToken, ReaderState, start, reader_after, reader_after_all, new_labels, ExceedsTable, IsFaulty, deep, out_of_range, many_names, many_labels, in_table, without_lines, AreTokensFaultless}
use Rattle.gms_laws.proofs.SourcePieces.{Make, tokens_by, has_sound_lines, are_tokens}
use Rattle.gms_laws.proofs.ShortNumerals.{is_short, short_means, right}

abbrev pub is_no : Terminal → KindedToken → Bool
is_no kind token = not (is kind token.0)

-- after the tokens so far this one has no fault
abbrev pub is_sound : List ℕ → ReaderState → KindedToken → Terminal → Bool
is_sound source read_state token ahead =
    (is_no LeftParen token || nat_lt read_state.open_count 100)
    && ((is_no Number token || is_short (token_text source token.1))
    && (nat_lt (length read_state.names) most_labels
    && (nat_lt (length read_state.labels + length (new_labels source read_state token ahead)) most_labels
    && (is_no TableLine token && (is_no RightParen token || not (is Table read_state.keyword))))))

-- What the test says.
record Sound (source : List ℕ) (read_state : ReaderState) (token : KindedToken) (ahead : Terminal) : Type 0 where
  parens : (is_no LeftParen token || nat_lt read_state.open_count 100) ≡ true
  number : (is_no Number token || is_short (token_text source token.1)) ≡ true
  names : length read_state.names < most_labels
  labels : length read_state.labels + length (new_labels source read_state token ahead) < most_labels
  no_line : is_no TableLine token ≡ true
  no_head : (is_no RightParen token || not (is Table read_state.keyword)) ≡ true

parts : (source : List ℕ) (read_state : ReaderState) (token : KindedToken) (ahead : Terminal) → is_sound source read_state token ahead ≡ true → Sound source read_state token ahead
parts source read_state token ahead h =
    let h1 = right (is_no LeftParen token || nat_lt read_state.open_count 100) _ h in
    let h2 = right (is_no Number token || is_short (token_text source token.1)) _ h1 in
    let h3 = right (nat_lt (length read_state.names) most_labels) _ h2 in
    let h4 = right (nat_lt (length read_state.labels + length (new_labels source read_state token ahead)) most_labels) _ h3 in
    record {
      parens = (and_parts (is_no LeftParen token || nat_lt read_state.open_count 100) _ h).0;
      number = (and_parts (is_no Number token || is_short (token_text source token.1)) _ h1).0;
      names = ltb-true (length read_state.names) most_labels ((and_parts (nat_lt (length read_state.names) most_labels) _ h2).0);
      labels = ltb-true (length read_state.labels + length (new_labels source read_state token ahead)) most_labels ((and_parts (nat_lt (length read_state.labels + length (new_labels source read_state token ahead)) most_labels) _ h3).0);
      no_line = (and_parts (is_no TableLine token) _ h4).0;
      no_head = right (is_no TableLine token) _ h4;
    }

other : (kind found : Terminal) (b : Bool) → found ≡ kind → is kind kind ≡ true → (not (is kind found) || b) ≡ true → b ≡ true
other kind found b e same h =
    let here : is kind found ≡ true = ap (is kind) e ∙ same in
    subst (λ (t : Bool). (not t || b) ≡ true) here h

no_other : (kind found : Terminal) → found ≡ kind → is kind kind ≡ true → not (is kind found) ≡ true → ⊥
no_other kind found e same h =
    let here : is kind found ≡ true = ap (is kind) e ∙ same in
    let no : not true ≡ true = subst (λ (t : Bool). not t ≡ true) here h in
    cc

entered_by : (b : Bool) (texts : List (List ℕ)) (text : List ℕ) → length (if b then texts else texts ++ text ∷ []) ≤ length texts + 1
entered_by true texts text = omega arith
entered_by false texts text = omega (arith, length-append texts (text ∷ []))

all_few : (labels texts : List (List ℕ)) → length (all_entered labels texts) ≤ length labels + length texts
all_few labels [] = omega arith
all_few labels (text ∷ texts) = omega (arith, all_few (entered labels text) texts, entered_by (is_some (place_of labels text)) labels text)

no_lack : (labels texts : List (List ℕ)) → length labels + length texts < most_labels → ExceedsTable labels texts → ⊥
no_lack labels texts h l =
    let long : length texts ≡ length (l.before ++ l.text ∷ l.following) = ap length l.parts in
    omega (arith, h, long, length-append l.before (l.text ∷ l.following), all_few labels l.before, l.full.1)

-- ---- the tests

-- no token is a line of a table
abbrev pub has_no_table : List KindedToken → Bool
has_no_table tokens = list_all (is_no TableLine) tokens

-- only the end is left
abbrev pub is_end : List KindedToken → Bool
is_end [] = false
is_end (token ∷ []) = is End token.0
is_end (token ∷ (next ∷ tokens)) = false

pub record Ended (rest : List KindedToken) : Type 0 where
  pub end : Token
  pub is : rest ≡ (End, end) ∷ []

pub ended : (rest : List KindedToken) → is_end rest ≡ true → Ended rest
ended [] h = absurd (cc)
ended (token ∷ []) h =
    let kind : End ≡ token.0 = same_number End token.0 (eqb-true _ _ h) in
    record { end = token.1; is = ap (λ (t : Terminal). (t, token.1) ∷ []) (sym kind) }
ended (token ∷ (next ∷ tokens)) h = absurd (cc)

module _ (source : List ℕ) where
  -- none of the tokens has a fault
  abbrev pub all_sound : ReaderState → List KindedToken → Terminal → Bool
  all_sound read_state [] ahead = true
  all_sound read_state (token ∷ tokens) ahead =
      is_sound source read_state token (kind_ahead tokens ahead) && all_sound (reader_after source read_state token (kind_ahead tokens ahead)) tokens ahead

  -- how the program of a derivation is kinded_tokens
  abbrev pub view_of : DerivationTree KindedToken → ProgramView
  view_of tree =
      let read_state = reader_after_all source start (yield tree) End in
      record { names = read_state.names; labels = read_state.labels; statements = statements_of source read_state.names read_state.labels tree }

  -- The tests that a source with this derivation passes.
  abbrev pub passes : DerivationTree KindedToken → List KindedToken → Bool
  passes tree rest = is_end rest && (has_no_table (yield tree) && all_sound start (yield tree) End)

module _ (limit : ℕ) (wide : 10 ^ 9 ≤ limit) (source : List ℕ) where
  faultless : (read_state : ReaderState) (token : KindedToken) (ahead : Terminal) → Sound source read_state token ahead → (fault : SourceFault) → IsFaulty limit source read_state token ahead fault → ⊥
  faultless read_state token ahead s _ (deep e le) =
      let few : read_state.open_count < 100 = ltb-true read_state.open_count 100 (other LeftParen token.0 (nat_lt read_state.open_count 100) e refl s.parens) in
      omega (arith, few, le)
  faultless read_state token ahead s _ (out_of_range e none) =
      let m = short_means limit wide (token_text source token.1) (other Number token.0 (is_short (token_text source token.1)) e refl s.number) in
      none m.0 m.1 m.2
  faultless read_state token ahead s _ (many_names e full) = omega (arith, s.names, full.1)
  faultless read_state token ahead s _ (many_labels e lacks) = no_lack read_state.labels (new_labels source read_state token ahead) s.labels lacks
  faultless read_state token ahead s _ (in_table e f g) = no_other TableLine token.0 e refl s.no_line
  faultless read_state token ahead s _ (without_lines e keyword f) =
      no_other Table read_state.keyword keyword refl (other RightParen token.0 (not (is Table read_state.keyword)) e refl s.no_head)

  -- ---- tokens

  sound_all : (read_state : ReaderState) (tokens : List KindedToken) (ahead : Terminal) → all_sound source read_state tokens ahead ≡ true → AreTokensFaultless limit source read_state tokens ahead
  sound_all read_state [] ahead h = tt
  sound_all read_state (token ∷ tokens) ahead h =
      let here = is_sound source read_state token (kind_ahead tokens ahead) in
      let next = reader_after source read_state token (kind_ahead tokens ahead) in (
        faultless read_state token (kind_ahead tokens ahead) (parts source read_state token (kind_ahead tokens ahead) ((and_parts here (all_sound source next tokens ahead) h).0)),
        sound_all next tokens ahead (right here (all_sound source next tokens ahead) h),
      )

  -- ---- the program

  no_items : (labels : List (List ℕ)) (tokens : List KindedToken) → has_no_table tokens ≡ true → HaveItems limit source labels tokens
  no_items labels tokens none = λ lines k. absurd (by lines k)
    where
      by : (lines : List KindedToken) → IsTableOf tokens lines → ⊥
      by [] k = k.some refl
      by (line ∷ lines) k =
          let test = is_no TableLine in
          let all : list_all test ((k.before ++ (line ∷ lines)) ++ k.following) ≡ true = subst (λ (ts : List KindedToken). list_all test ts ≡ true) k.parts none in
          let prefix : list_all test (k.before ++ (line ∷ lines)) ≡ true = (and_parts _ (list_all test k.following) (sym (list_all-append test (k.before ++ (line ∷ lines)) k.following) ∙ all)).0 in
          let following : list_all test (line ∷ lines) ≡ true = right (list_all test k.before) _ (sym (list_all-append test k.before (line ∷ lines)) ∙ prefix) in
          no_other TableLine line.0 (All-head (λ (token : KindedToken). token.0 ≡ TableLine) line lines k.are_lines) refl ((and_parts (test line) _ following).0)

  pub has_program : (pieces : List Lexeme) (tree : DerivationTree KindedToken) (rest : List KindedToken) → nat_le (length source) most_source_bytes ≡ true → has_sound_lines source ≡ true → Make Code (code_text source) pieces → IsTree productions (the Program) tree × (kinded_tokens source (tokens_by source pieces) ≡ yield tree ++ rest) → passes source tree rest ≡ true → HasProgram limit source (view_of source tree)
  has_program pieces tree rest short lines make read h =
      let e = ended rest ((and_parts (is_end rest) _ h).0) in
      let others = right (is_end rest) _ h in
      let sound = sound_all start (yield tree) End (right (has_no_table (yield tree)) _ others) in
      let read_state = reader_after_all source start (yield tree) End in
      record {
        short = leb-true (length source) most_source_bytes short;
        tokens = tokens_by source pieces;
        are_tokens = are_tokens source pieces lines make;
        is = record {
          tree = tree;
          end = e.end;
          tokens_are = read.1 ∙ ap (λ (us : List KindedToken). yield tree ++ us) e.is;
          is_tree = read.0;
          are_sound = sound;
          names_are = refl;
          labels_are = refl;
          tables = no_items read_state.labels (yield tree) ((and_parts (has_no_table (yield tree)) _ others).0);
          statements_are = refl;
        };
      }
