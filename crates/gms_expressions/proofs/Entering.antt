-- Names and labels that are entered, and numbers.
use Rattle.std.proofs.Common.{◌≡◌, ℕ, Bool, true, false, List, [], ◌∷◌, Some, refl, sym, ap, ◌∙◌, subst, arith}
use Rattle.gq_number.specs.Number.{Number as Rational}
use Rattle.gq_text.specs.Decimal.{MeansNumber}
use Rattle.gq_text.specs.Literal.{FitsLiteral}
use Rattle.gms_labels.specs.Labels.{place_of, entered, IsFullFor}
use Rattle.gms_lex.specs.declared.token.Token.{Token}
use Rattle.gms_lex.specs.TokenTexts.{token_text, unquoted}
use Rattle.gms_grammar.specs.declared.terminal.Terminal.{Terminal}
use Rattle.gms_grammar.specs.declared.terminal.Terminal.TheVariants.{Name, Suffix, Text, Number}
use Rattle.gms_grammar.specs.Grammar.{one, leaf}
use Rattle.gms_grammar.specs.Terminals.{is, is_terminal_among}
use Rattle.gms_grammar.specs.GamsGrammar.{name, token}
use Rattle.gms_expressions.proofs.Valued.{number_in_is}
use Rattle.gms_expressions.specs.declared.fault.SyntaxFault.{SyntaxFault}
use Rattle.gms_expressions.specs.declared.fault.SyntaxError.TheVariants.{TooManyLabels}
use Rattle.gms_expressions.specs.declared.fault.SyntaxFaultOrMemory.{SyntaxFaultOrMemory}
use Rattle.gms_expressions.specs.declared.fault.SyntaxFaultOrMemory.TheVariants.{Fault}
use Rattle.gms_expressions.specs.declared.reader.Reader.{Reader}
use Rattle.gms_expressions.specs.declared.reader.Tables.{Tables}
use Rattle.gms_ast.specs.declared.expression.Expr.{Expr}
use Rattle.gms_ast.specs.Trees.{number as number_node}
use Rattle.gms_expressions.specs.InnerNodes.{view}
use Rattle.gms_expressions.specs.ExpressionTrees.{or_0, number_tree}
use Rattle.gms_expressions.specs.Outcomes.{ExpressionState, state_after_token, is_name_token, IsFaultyInExpression, deep, out_of_range, many_names, many_labels}
use Rattle.gms_expressions.specs.InnerReadings.{Gives, Went, Refuses, IsGot, IsName, IsLabel, IsNext, IsMeant, IsValue, IsOutOfRange, seen_from, read_state_of}
use Rattle.gms_labels.specs.declared.fault.LabelFault.{LabelFault}
use Rattle.gms_labels.specs.declared.fault.LabelFault.TheVariants as label_fault
use Rattle.gms_expressions.specs.Faults.{not_entered}
use Rattle.gms_expressions.proofs.Steps.{got_by, gives_one, takes_next, refuses_token, refuses_memory}
use Rattle.gms_expressions.proofs.Extending.{went_same, went_are}
use Rattle.gms_expressions.proofs.Nexts.{exact}

abbrev is_named : Terminal → Bool
is_named = is_terminal_among (Name ∷ Suffix ∷ [])

same_read_state : (unclosed : ℕ) (new : Tables) (names labels : List (List ℕ)) → new.names ≡ names → new.labels ≡ labels →
    read_state_of unclosed new ≡ record { open_count = unclosed; names = names; labels = labels; dotted = false }
same_read_state unclosed new names labels e f =
    ap (λ (ns : List (List ℕ)). read_state_of unclosed (record { names = ns; labels = new.labels })) e ∙ ap (λ (ls : List (List ℕ)). read_state_of unclosed (record { names = names; labels = ls })) f

name_after : (source : List ℕ) (unclosed : ℕ) (old new : Tables) (kind : Terminal) (token : Token) → is_named kind ≡ true → new.names ≡ entered old.names (token_text source token) → new.labels ≡ old.labels →
    read_state_of unclosed new ≡ state_after_token source (read_state_of unclosed old) (kind, token)
name_after source unclosed old new Name token h e f = same_read_state unclosed new _ _ e f
name_after source unclosed old new Suffix token h e f = same_read_state unclosed new _ _ e f
name_after source unclosed old new _ token h e f = cc

name_sound : (limit : ℕ) (source : List ℕ) (w : ExpressionState) (kind : Terminal) (token : Token) → is_named kind ≡ true → (IsFullFor w.names (token_text source token) → ⊥) → (fault : SyntaxFault) → IsFaultyInExpression limit source w (kind, token) fault → ⊥
name_sound limit source w kind token h within_bound fault (deep e d) = let f : is_named kind ≡ false = ap is_named e in cc
name_sound limit source w kind token h within_bound fault (out_of_range e d) = let f : is_named kind ≡ false = ap is_named e in cc
name_sound limit source w kind token h within_bound fault (many_names n full) = within_bound full
name_sound limit source w kind token h within_bound fault (many_labels e d) = let f : is_named kind ≡ false = ap is_named e in cc

-- it is a name if no dot precedes it
name_there : (unclosed : ℕ) (tables : Tables) (kind : Terminal) → is_named kind ≡ true → is_name_token (read_state_of unclosed tables) kind ≡ true
name_there unclosed tables Name h = refl
name_there unclosed tables Suffix h = refl
name_there unclosed tables _ h = cc

module _ {limit : ℕ} {reader : Reader} {at following : ℕ} {token : Token} (old : Tables) (n : IsNext is_named reader at token following) where
  -- a name was entered, and has this number
  pub name_got : (new : Tables) (number : ℕ) → new.names ≡ entered old.names (token_text reader.source.now token) → new.labels ≡ old.labels → (IsFullFor old.names (token_text reader.source.now token) → ⊥) →
      place_of new.names (token_text reader.source.now token) ≡ Some number → IsGot limit (IsName reader.source.now) name reader at old new (number, token.at) following
  name_got new number e f within_bound place = got_by (gives_one n.is n.passes (name_sound limit reader.source.now (read_state_of reader.unclosed old) n.kind token n.passes within_bound) (name_after reader.source.now reader.unclosed old new n.kind token n.passes e f))
      (λ sense s. (sym (ap or_0 (s.names (token_text reader.source.now token) number place)), refl)) (let g = n.further in omega arith)

  -- the table of names is full for a new name
  pub name_refused : {last : Tables} {e : SyntaxFaultOrMemory} → IsFullFor old.names (token_text reader.source.now token) → e ≡ Fault (record { error = TooManyLabels; at = token.at }) → Went (read_state_of reader.unclosed old) last → Refuses limit reader.source.now name last (read_state_of reader.unclosed old) (seen_from reader at) e
  name_refused full is went = refuses_token went (takes_next n.is n.passes) (many_names (name_there reader.unclosed old n.kind n.passes) full) is

  -- the same for a text that is the token's
  pub name_entered : (text : List ℕ) → text ≡ token_text reader.source.now token → (new : Tables) (number : ℕ) → new.names ≡ entered old.names text → new.labels ≡ old.labels → (IsFullFor old.names text → ⊥) →
      place_of new.names text ≡ Some number → IsGot limit (IsName reader.source.now) name reader at old new (number, token.at) following
  name_entered text same new number e f within_bound place =
      name_got new number (e ∙ ap (entered old.names) same) f (λ full. within_bound (subst (λ (x : List ℕ). IsFullFor old.names x) (sym same) full)) (ap (place_of new.names) (sym same) ∙ place)

  pub name_not_entered : (text : List ℕ) → text ≡ token_text reader.source.now token → (fault : LabelFault) (e : SyntaxFaultOrMemory) → (fault ≡ label_fault.Full → IsFullFor old.names text) → e ≡ not_entered fault token.at →
      (new : Tables) → new.names ≡ old.names → new.labels ≡ old.labels → Refuses limit reader.source.now name new (read_state_of reader.unclosed old) (seen_from reader at) e
  name_not_entered text same label_fault.Full e full is new f g = name_refused (subst (λ (x : List ℕ). IsFullFor old.names x) same (full refl)) is (went_are old new f g)
  name_not_entered text same label_fault.Memory e full is new f g = refuses_memory (went_are old new f g) is

module _ {limit : ℕ} {reader : Reader} {at following : ℕ} {quoted : Token} (old : Tables) (n : IsNext (is Text) reader at quoted following) where
  label_sound : (IsFullFor old.labels (unquoted (token_text reader.source.now quoted)) → ⊥) → (fault : SyntaxFault) → IsFaultyInExpression limit reader.source.now (read_state_of reader.unclosed old) (Text, quoted) fault → ⊥
  label_sound within_bound fault (deep e d) = cc
  label_sound within_bound fault (out_of_range e d) = cc
  label_sound within_bound fault (many_names n d) = cc
  label_sound within_bound fault (many_labels e full) = within_bound full

  -- a label was entered, and has this number
  pub label_got : (new : Tables) (number : ℕ) → new.names ≡ old.names → new.labels ≡ entered old.labels (unquoted (token_text reader.source.now quoted)) → (IsFullFor old.labels (unquoted (token_text reader.source.now quoted)) → ⊥) →
      place_of new.labels (unquoted (token_text reader.source.now quoted)) ≡ Some number → IsGot limit (IsLabel reader.source.now) (token Text) reader at old new number following
  label_got new number e f within_bound place = got_by (gives_one (exact n) refl (label_sound within_bound) (same_read_state reader.unclosed new _ _ e f)) (λ sense s. sym (ap or_0 (s.labels (unquoted (token_text reader.source.now quoted)) number place)))
      (let g = n.further in omega arith)

  pub label_refused : {last : Tables} {e : SyntaxFaultOrMemory} → IsFullFor old.labels (unquoted (token_text reader.source.now quoted)) → e ≡ Fault (record { error = TooManyLabels; at = quoted.at }) → Went (read_state_of reader.unclosed old) last → Refuses limit reader.source.now (token Text) last (read_state_of reader.unclosed old) (seen_from reader at) e
  label_refused full is went = refuses_token went (takes_next (exact n) refl) (many_labels refl full) is

  pub label_entered : (text : List ℕ) → text ≡ unquoted (token_text reader.source.now quoted) → (new : Tables) (number : ℕ) → new.names ≡ old.names → new.labels ≡ entered old.labels text → (IsFullFor old.labels text → ⊥) →
      place_of new.labels text ≡ Some number → IsGot limit (IsLabel reader.source.now) (token Text) reader at old new number following
  label_entered text same new number e f within_bound place =
      label_got new number e (f ∙ ap (entered old.labels) same) (λ full. within_bound (subst (λ (x : List ℕ). IsFullFor old.labels x) (sym same) full)) (ap (place_of new.labels) (sym same) ∙ place)

  pub label_not_entered : (text : List ℕ) → text ≡ unquoted (token_text reader.source.now quoted) → (fault : LabelFault) (e : SyntaxFaultOrMemory) → (fault ≡ label_fault.Full → IsFullFor old.labels text) → e ≡ not_entered fault quoted.at →
      (new : Tables) → new.names ≡ old.names → new.labels ≡ old.labels → Refuses limit reader.source.now (token Text) new (read_state_of reader.unclosed old) (seen_from reader at) e
  label_not_entered text same label_fault.Full e full is new f g = label_refused (subst (λ (x : List ℕ). IsFullFor old.labels x) same (full refl)) is (went_are old new f g)
  label_not_entered text same label_fault.Memory e full is new f g = refuses_memory (went_are old new f g) is

-- a number that is within its range has no error
number_sound : (limit : ℕ) (source : List ℕ) (unclosed : ℕ) (tables : Tables) (numeral : Token) (x : Rational) → MeansNumber (token_text source numeral) x → FitsLiteral limit x → (fault : SyntaxFault) → IsFaultyInExpression limit source (read_state_of unclosed tables) (Number, numeral) fault → ⊥
number_sound limit source unclosed tables numeral x means fits fault (deep e d) = cc
number_sound limit source unclosed tables numeral x means fits fault (out_of_range e none) = none x means fits
number_sound limit source unclosed tables numeral x means fits fault (many_names n d) = cc
number_sound limit source unclosed tables numeral x means fits fault (many_labels e d) = cc

-- a number was read, where it may stand
pub number_gives : {limit : ℕ} {test : Terminal → Bool} {numeral : Token} (reader : Reader) (at following : ℕ) (tables : Tables) (x : Rational) → seen_from reader at ≡ (Number, numeral) ∷ seen_from reader following → test Number ≡ true →
    MeansNumber (token_text reader.source.now numeral) x → FitsLiteral limit x → Gives limit reader.source.now (one test) (read_state_of reader.unclosed tables) (seen_from reader at) (leaf (Number, numeral)) (read_state_of reader.unclosed tables) (seen_from reader following)
number_gives {limit = limit} {numeral = numeral} reader at following tables x there h means fits = gives_one there h (number_sound limit reader.source.now reader.unclosed tables numeral x means fits) refl

-- a number is out of range
pub number_refused : {limit : ℕ} {test : Terminal → Bool} {numeral : Token} {e : SyntaxFaultOrMemory} (reader : Reader) (at following : ℕ) (tables : Tables) → seen_from reader at ≡ (Number, numeral) ∷ seen_from reader following → test Number ≡ true →
    IsOutOfRange limit reader.source.now numeral e → Refuses limit reader.source.now (one test) tables (read_state_of reader.unclosed tables) (seen_from reader at) e
number_refused {limit = limit} reader at following tables there h o = refuses_token (went_same tables) (takes_next there h) (out_of_range refl o.none_fits) o.is

-- a number, as an expression
pub number_got : {F : Type 0} {value : F → Rational} {limit : ℕ} (reader : Reader) (at following : ℕ) {numeral : Token} (tables : Tables) (v : F) → IsNext (is Number) reader at numeral following → IsValue limit value (token_text reader.source.now numeral) v →
    (e : Expr F) → view value e ≡ number_node (value v) → IsGot limit (IsMeant value reader.source.now number_tree) (token Number) reader at tables tables e following
number_got {value = value} reader at following {numeral = numeral} tables v n within e is = got_by (number_gives reader at following tables (value v) (exact n) refl within.0 within.1)
    (λ sense s. record { is = is ∙ ap number_node (sym (number_in_is (token_text reader.source.now numeral) (value v) within.0)) }) (let g = n.further in omega arith)
