-- What the functions of a reader promise each other: which part of the grammar they read at a place
-- in the tokens, its meaning and the state after its tokens, or why it is refused. A predictive
-- reader decides by one token, as gms_grammar states it.
use Rattle.std.specs.Prelude.{◌≡◌, ◌⊎◌, ℕ, ◌+◌, ◌<◌, ◌≤◌, Bool, true, false, ◌&&◌, ◌||◌, List, [], ◌∷◌, ◌++◌, length, map, drop, Some, Result, MatchResult, All, string_bytes, string_len}
use Rattle.gms_labels.specs.declared.place.Place.{Place}
use Rattle.gms_labels.specs.Labels.{place_of, entered, IsFullFor}
use Rattle.gms_lex.specs.declared.token.Token.{Token}
use Rattle.gms_lex.specs.Places.{place_of_byte as place_at}
use Rattle.gms_lex.specs.TokenTexts.{IsPlaced, token_text}
use Rattle.gms_lex.specs.Tokens.{IsTokens}
use Rattle.gq_number.specs.Number.{Number}
use Rattle.gq_text.specs.Literal.{FitsLiteral}
use Rattle.gq_text.specs.Decimal.{MeansNumber}
use Rattle.gms_grammar.specs.declared.terminal.Terminal.{Terminal}
use Rattle.gms_grammar.specs.declared.terminal.Terminal.TheVariants as terminal
use Rattle.gms_grammar.specs.Grammar.{Part, one, the, DerivationTree}
use Rattle.gms_grammar.specs.Reading.{leads}
use Rattle.gms_grammar.specs.Rules as rules
use Rattle.gms_grammar.specs.Terminals.{is, is_terminal_among}
use Rattle.gms_grammar.specs.GamsGrammar.{Nonterminal, Program, productions, token, name}
use Rattle.gms_grammar.specs.GamsLookAhead.{look_ahead}
use Rattle.gms_expressions.specs.Words.{terminal_of}
use Rattle.gms_expressions.specs.Outcomes.{kinded_tokens}
use Rattle.gms_parse.specs.declared.fault.SourceError.TheVariants.{Syntax, Table}
use Rattle.gms_expressions.specs.declared.fault.SyntaxError.TheVariants.{Number as OutOfRange, TooManyLabels}
use Rattle.gms_table.specs.declared.fault.TableError.TheVariants.{NoHeading}
use Rattle.gms_parse.specs.declared.fault.SourceFault.{SourceFault}
use Rattle.gms_parse.specs.declared.fault.SourceFaultOrMemory.{SourceFaultOrMemory}
use Rattle.gms_parse.specs.declared.fault.SourceFaultOrMemory.TheVariants.{Fault, Memory}
use Rattle.gms_parse.specs.declared.reader.Reader.{Reader}
use Rattle.gms_parse.specs.declared.reader.Tables.{Tables}
use Rattle.gms_table.specs.declared.entry.TableLine.{TableLine}
use Rattle.gms_parse.specs.ReadStates.{KindedToken, ReaderState, start, last_kind, ends_statement, table_name, unexpected, source_rule}
pub use Rattle.gms_parse.specs.ReadStates.{kind_of}

-- a tree of the grammar
abbrev pub Derivation : Type 0
Derivation = DerivationTree KindedToken

-- a part of the grammar
abbrev pub GamsPart : Type 0
GamsPart = Part Terminal Nonterminal

-- a part was read: its tree, and the state after its tokens
abbrev pub Gives : ℕ → List ℕ → GamsPart → ReaderState → List KindedToken → Derivation → ReaderState → List KindedToken → Type 0
Gives limit source part read_state tokens tree following rest = rules.IsPartRead source_rule (limit, source) part read_state tokens tree following rest

-- within a part the next token is unexpected, and none before it has a fault
abbrev pub IsStuck : ℕ → List ℕ → GamsPart → ReaderState → List KindedToken → SourceFault → Type 0
IsStuck limit source part read_state tokens fault = rules.IsStuck source_rule (limit, source) part read_state tokens fault

-- within a part a token has a fault, and none before it has one
abbrev pub IsWrong : ℕ → List ℕ → GamsPart → ReaderState → List KindedToken → SourceFault → Type 0
IsWrong limit source part read_state tokens fault = rules.IsWrong source_rule (limit, source) part read_state tokens fault

-- why a part was not read; out of memory has no cause in it
abbrev pub Refuses : ℕ → List ℕ → GamsPart → ReaderState → List KindedToken → SourceFaultOrMemory → Type 0
Refuses limit source part read_state tokens refusal = rules.Refuses source_rule (limit, source) part read_state tokens refusal

-- the names, the labels and the numbers of the whole program
pub record Sense : Type 0 where
  pub names : List (List ℕ)
  pub labels : List (List ℕ)

-- these are the names, labels and numbers of a program whose tables so far are `tables`
pub record IsSense (tables : Tables) (sense : Sense) : Type 0 where
  pub names : (text : List ℕ) (n : ℕ) → place_of tables.names text ≡ Some n → place_of sense.names text ≡ Some n
  pub labels : (text : List ℕ) (n : ℕ) → place_of tables.labels text ≡ Some n → place_of sense.labels text ≡ Some n

-- the tokens from a place on
abbrev pub seen_from : Reader → ℕ → List KindedToken
seen_from reader at = kinded_tokens reader.source.now (drop at reader.tokens.now)

-- a reader of the tokens of its source
pub record IsReady (reader : Reader) : Type 0 where
  pub tokens : IsTokens reader.source.now reader.tokens.now
  pub placed : All (IsPlaced reader.source.now) reader.tokens.now
  pub end : reader.end ≡ place_at reader.source.now (length reader.source.now)
  pub few : reader.unclosed ≤ 100

-- ---- what precedes a part

-- a reader's tables and its count of open parentheses are those of the state after the tokens so
-- far
pub record Holds (reader : Reader) (tables : Tables) (read_state : ReaderState) : Type 0 where
  pub open_count : read_state.open_count ≡ reader.unclosed
  pub names : read_state.names ≡ tables.names
  pub labels : read_state.labels ≡ tables.labels

-- a reader agrees with the state within a statement: no parenthesis of an outer statement was
-- closed
pub record Has (reader : Reader) (tables : Tables) (read_state : ReaderState) : Type 0 where
  pub holds : Holds reader tables read_state
  pub level : read_state.level ≤ read_state.open_count

-- the last token is no dot and no `using`
abbrev pub Undotted : ReaderState → Type 0
Undotted read_state = is_terminal_among (terminal.Dot ∷ terminal.Using ∷ []) (last_kind read_state.before) ≡ false

-- the last token is no `*`
abbrev pub Starless : ReaderState → Type 0
Starless read_state = is terminal.Star (last_kind read_state.before) ≡ false

-- a word that comes next is no name of the program: the word after `using`, or a word of options
abbrev pub Nameless : ReaderState → Type 0
Nameless read_state = (is_terminal_among (terminal.Dot ∷ terminal.Using ∷ []) (last_kind read_state.before) || is terminal.Option read_state.keyword) ≡ true

-- the statement changes no options
abbrev pub Optionless : ReaderState → Type 0
Optionless read_state = is terminal.Option read_state.keyword ≡ false

-- the statement is no table
abbrev pub Tableless : ReaderState → Type 0
Tableless read_state = is terminal.Table read_state.keyword ≡ false

-- a name may begin here
pub record Starts (reader : Reader) (tables : Tables) (read_state : ReaderState) : Type 0 where
  pub has : Has reader tables read_state
  pub undotted : Undotted read_state
  pub optionless : Optionless read_state

-- within a statement, after a part that keeps the parentheses
pub record Stays (reader : Reader) (tables : Tables) (read_state following : ReaderState) : Type 0 where
  pub has : Has reader tables following
  pub keyword : following.keyword ≡ read_state.keyword
  pub level : following.level ≡ read_state.level

-- such a state, where a name may come next
pub record StaysOpen (reader : Reader) (tables : Tables) (read_state following : ReaderState) : Type 0 where
  pub stays : Stays reader tables read_state following
  pub undotted : Undotted following

-- after a statement of a loop
pub record Ends (reader : Reader) (tables : Tables) (following : ReaderState) : Type 0 where
  pub holds : Holds reader tables following
  pub tableless : Tableless following

-- ---- what a reader answers

-- a part was read at a place, and the result is what its derivation means
pub record IsGot {T : Type 0} (limit : ℕ) (Means : Sense → Derivation → T → Type 0) (Leaves : ReaderState → Type 0) (part : GamsPart) (reader : Reader) (at : ℕ) (new : Tables) (read_state : ReaderState) (x : T) (next : ℕ) : Type 0 where
  pub tree : Derivation
  pub following : ReaderState
  pub gives : Gives limit reader.source.now part read_state (seen_from reader at) tree following (seen_from reader next)
  pub leaves : Leaves following
  pub means : (sense : Sense) → IsSense new sense → Means sense tree x
  pub further : at ≤ next

-- a part was read at a place, or was refused
abbrev pub IsAnswer : {T : Type 0} → ℕ → (Sense → Derivation → T → Type 0) → (ReaderState → Type 0) → GamsPart → Reader → ℕ → Tables → ReaderState → Result (T × ℕ) SourceFaultOrMemory → Type 0
IsAnswer limit Means Leaves part reader at new read_state result =
    MatchResult result (λ r. IsGot limit Means Leaves part reader at new read_state r.0 r.1)
    (λ e. Refuses limit reader.source.now part read_state (seen_from reader at) e)

-- of a part that begins with a name
abbrev pub AnswersName : {T : Type 0} → ℕ → (Sense → Derivation → T → Type 0) → GamsPart → Reader → ℕ → Tables → Tables → Result (T × ℕ) SourceFaultOrMemory → Type 0
AnswersName limit Means part reader at old new result =
    (read_state : ReaderState) → Starts reader old read_state → IsAnswer limit Means (Stays reader new read_state) part reader at new read_state result

-- of a part that may have parentheses, in a statement that is no table
abbrev pub AnswersPart : {T : Type 0} → ℕ → (Sense → Derivation → T → Type 0) → GamsPart → Reader → ℕ → Tables → Tables → Result (T × ℕ) SourceFaultOrMemory → Type 0
AnswersPart limit Means part reader at old new result =
    (read_state : ReaderState) → Starts reader old read_state → Tableless read_state → IsAnswer limit Means (Stays reader new read_state) part reader at new read_state result

-- of an expression or a part of one
abbrev pub AnswersFormula : {T : Type 0} → ℕ → (Sense → Derivation → T → Type 0) → GamsPart → Reader → ℕ → Tables → Tables → Result (T × ℕ) SourceFaultOrMemory → Type 0
AnswersFormula limit Means part reader at old new result =
    (read_state : ReaderState) → Starts reader old read_state → Tableless read_state → IsAnswer limit Means (StaysOpen reader new read_state) part reader at new read_state result

-- of a part of a list of data
abbrev pub AnswersData : {T : Type 0} → ℕ → (Sense → Derivation → T → Type 0) → GamsPart → Reader → ℕ → Tables → Tables → Result (T × ℕ) SourceFaultOrMemory → Type 0
AnswersData limit Means part reader at old new result =
    (read_state : ReaderState) → Has reader old read_state → Starless read_state → Tableless read_state → IsAnswer limit Means (Stays reader new read_state) part reader at new read_state result

-- of a part without names, labels and parentheses
abbrev pub AnswersPlain : {T : Type 0} → ℕ → (Sense → Derivation → T → Type 0) → GamsPart → Reader → ℕ → Result (T × ℕ) SourceFaultOrMemory → Type 0
AnswersPlain limit Means part reader at result =
    (tables : Tables) (read_state : ReaderState) → Has reader tables read_state → IsAnswer limit Means (Stays reader tables read_state) part reader at tables read_state result

-- of a word, or what an option is set to, which is no name
abbrev pub AnswersWord : {T : Type 0} → ℕ → (Sense → Derivation → T → Type 0) → GamsPart → Reader → ℕ → Result (T × ℕ) SourceFaultOrMemory → Type 0
AnswersWord limit Means part reader at result =
    (tables : Tables) (read_state : ReaderState) → Has reader tables read_state → Nameless read_state → IsAnswer limit Means (Stays reader tables read_state) part reader at tables read_state result

-- of a text or symbol that is shown
abbrev pub AnswersShown : {T : Type 0} → ℕ → (Sense → Derivation → T → Type 0) → GamsPart → Reader → ℕ → Tables → Tables → Result (T × ℕ) SourceFaultOrMemory → Type 0
AnswersShown limit Means part reader at old new result =
    (read_state : ReaderState) → Starts reader old read_state → is_terminal_among (terminal.Display ∷ terminal.Abort ∷ []) read_state.keyword ≡ true → read_state.level ≡ read_state.open_count →
    IsAnswer limit Means (Stays reader new read_state) part reader at new read_state result

-- of a statement that a loop may have, which begins with a keyword
abbrev pub AnswersAct : {T : Type 0} → ℕ → (Sense → Derivation → T → Type 0) → GamsPart → Reader → ℕ → Tables → Tables → Result (T × ℕ) SourceFaultOrMemory → Type 0
AnswersAct limit Means part reader at old new result =
    (read_state : ReaderState) → Holds reader old read_state → IsAnswer limit Means (Ends reader new) part reader at new read_state result

-- of the statements of a loop
abbrev pub AnswersInner : {T : Type 0} → ℕ → (Sense → Derivation → T → Type 0) → GamsPart → Reader → ℕ → Tables → Tables → Result (T × ℕ) SourceFaultOrMemory → Type 0
AnswersInner limit Means part reader at old new result =
    (read_state : ReaderState) → Starts reader old read_state → Tableless read_state → IsAnswer limit Means (Ends reader new) part reader at new read_state result

-- of a statement that begins with a keyword
abbrev pub AnswersStatement : {T : Type 0} → ℕ → (Sense → Derivation → T → Type 0) → GamsPart → Reader → ℕ → Tables → Tables → Result (T × ℕ) SourceFaultOrMemory → Type 0
AnswersStatement limit Means part reader at old new result =
    (read_state : ReaderState) → Holds reader old read_state → IsAnswer limit Means (Holds reader new) part reader at new read_state result

-- of a part that has names after its first token
abbrev pub AnswersNamed : {T : Type 0} → ℕ → (Sense → Derivation → T → Type 0) → GamsPart → Reader → ℕ → Tables → Tables → Result (T × ℕ) SourceFaultOrMemory → Type 0
AnswersNamed limit Means part reader at old new result =
    (read_state : ReaderState) → Has reader old read_state → Optionless read_state → IsAnswer limit Means (Stays reader new read_state) part reader at new read_state result

-- of a part that may have parentheses and follows a name, in a statement that is no table
abbrev pub AnswersAfter : {T : Type 0} → ℕ → (Sense → Derivation → T → Type 0) → GamsPart → Reader → ℕ → Tables → Tables → Result (T × ℕ) SourceFaultOrMemory → Type 0
AnswersAfter limit Means part reader at old new result =
    (read_state : ReaderState) → Has reader old read_state → Optionless read_state → Tableless read_state → IsAnswer limit Means (Stays reader new read_state) part reader at new read_state result

-- of a list of data, if any
abbrev pub AnswersList : {T : Type 0} → ℕ → (Sense → Derivation → T → Type 0) → GamsPart → Reader → ℕ → Tables → Tables → Result (T × ℕ) SourceFaultOrMemory → Type 0
AnswersList limit Means part reader at old new result =
    (read_state : ReaderState) → Has reader old read_state → Tableless read_state → IsAnswer limit Means (Stays reader new read_state) part reader at new read_state result

-- a table ends after its domain
abbrev pub ends_head : ReaderState → List KindedToken → Bool
ends_head read_state rest = is terminal.Table read_state.keyword && ends_statement (kind_of rest)

-- of a domain: it has a fault if it ends the head of a table without lines
abbrev pub AnswersDomain : {T : Type 0} → ℕ → (Sense → Derivation → T → Type 0) → GamsPart → Reader → ℕ → Tables → Tables → Result (T × ℕ) SourceFaultOrMemory → Type 0
AnswersDomain limit Means part reader at old new result =
    (read_state : ReaderState) → Has reader old read_state → Optionless read_state →
    MatchResult result
    (λ r. (ends_head read_state (seen_from reader r.1) ≡ false → IsGot limit Means (Stays reader new read_state) part reader at new read_state r.0 r.1)
    × (ends_head read_state (seen_from reader r.1) ≡ true → is terminal.Table (last_kind read_state.before) ≡ false → Refuses limit reader.source.now part read_state (seen_from reader at) (Fault (record { error = Table NoHeading; at = table_name read_state.before }))))
    (λ e. Refuses limit reader.source.now part read_state (seen_from reader at) e)

-- of a declaration that begins with this keyword
abbrev pub AnswersDeclaration : {T : Type 0} → Terminal → ℕ → (Sense → Derivation → T → Type 0) → GamsPart → Reader → ℕ → Tables → Tables → Result (T × ℕ) SourceFaultOrMemory → Type 0
AnswersDeclaration keyword limit Means part reader at old new result =
    is_terminal_among (terminal.Set ∷ terminal.Parameter ∷ terminal.Scalar ∷ terminal.Variable ∷ terminal.Equation ∷ []) keyword ≡ true → AnswersAct limit Means part reader at old new result

-- a whole program was read, up to the end of the tokens
pub record IsWhole {T : Type 0} (limit : ℕ) (Means : Sense → Derivation → T → Type 0) (reader : Reader) (new : Tables) (x : T) : Type 0 where
  pub next : ℕ
  pub got : IsGot limit Means (Holds reader new) (the Program) reader 0 new start x next
  pub at_end : kind_of (seen_from reader next) ≡ terminal.End

-- a token other than the end follows a program, and is unexpected
pub record IsOver (limit : ℕ) (source : List ℕ) (tokens : List KindedToken) (fault : SourceFault) : Type 0 where
  pub tree : Derivation
  pub following : ReaderState
  pub rest : List KindedToken
  pub gives : Gives limit source (the Program) start tokens tree following rest
  pub other : kind_of rest ≡ terminal.End → ⊥
  pub is : fault ≡ unexpected source rest

-- why the tokens are no program
pub record RefusesWhole (limit : ℕ) (reader : Reader) (refusal : SourceFaultOrMemory) : Type 0 where
  pub why : (fault : SourceFault) → refusal ≡ Fault fault →
      (IsStuck limit reader.source.now (the Program) start (seen_from reader 0) fault ⊎ IsWrong limit reader.source.now (the Program) start (seen_from reader 0) fault) ⊎ IsOver limit reader.source.now (seen_from reader 0) fault

-- ---- single tokens

-- this is the next token
pub record IsAt (reader : Reader) (at : ℕ) (token : Token) : Type 0 where
  pub is : seen_from reader at ≡ (terminal_of token.kind (token_text reader.source.now token), token) ∷ seen_from reader (at + 1)
  pub placed : IsPlaced reader.source.now token
  pub within : at < length reader.tokens.now

-- the next token passes a test, and `following` is the place after it
pub record IsNext (test : Terminal → Bool) (reader : Reader) (at : ℕ) (token : Token) (following : ℕ) : Type 0 where
  pub kind : Terminal
  pub passes : test kind ≡ true
  pub kind_is : kind ≡ terminal_of token.kind (token_text reader.source.now token)
  pub is : seen_from reader at ≡ (kind, token) ∷ seen_from reader following
  pub placed : IsPlaced reader.source.now token
  pub within : at < length reader.tokens.now
  pub further : at < following

-- the refusal of an unexpected token
abbrev pub unexpected_at : Reader → ℕ → SourceFaultOrMemory
unexpected_at reader at = Fault (unexpected reader.source.now (seen_from reader at))

-- the next token does not pass a test, and this is its refusal
pub record IsLacking (test : Terminal → Bool) (reader : Reader) (at : ℕ) (refusal : SourceFaultOrMemory) : Type 0 where
  pub not_led : leads productions look_ahead (one test) (seen_from reader at) ≡ false
  pub is : refusal ≡ unexpected_at reader at

-- the next token is of this kind, and this is the place after it
pub record IsPassed (kind : Terminal) (reader : Reader) (at : ℕ) (following : ℕ) : Type 0 where
  pub token : Token
  pub next : IsNext (is kind) reader at token following

-- the next token is of one of these kinds, and this is the place after it
pub record IsPassedAny (kinds : List Terminal) (reader : Reader) (at : ℕ) (following : ℕ) : Type 0 where
  pub token : Token
  pub next : IsNext (is_terminal_among kinds) reader at token following

-- a further item of a declaration is next: after a comma, or after a line end that a name follows
abbrev pub IsFurther : Reader → ℕ → ℕ → Type 0
IsFurther reader at following =
    IsPassed terminal.Comma reader at following ⊎ (IsPassed terminal.Break reader at following × (leads productions look_ahead name (seen_from reader following) ≡ true))

-- no further item is next
abbrev pub IsNotFurther : Reader → ℕ → Type 0
IsNotFurther reader at =
    (leads productions look_ahead (token terminal.Comma) (seen_from reader at) ≡ false) × ((leads productions look_ahead (token terminal.Break) (seen_from reader at) ≡ false) ⊎ ((following : ℕ) × IsPassed terminal.Break reader at following × (leads productions look_ahead name (seen_from reader following) ≡ false)))

-- the place after the last item, and after the line end there
abbrev pub IsAfterLast : Reader → ℕ → ℕ → Type 0
IsAfterLast reader at following =
    ((leads productions look_ahead (token terminal.Break) (seen_from reader at) ≡ false) × (following ≡ at)) ⊎ (IsPassed terminal.Break reader at following × (leads productions look_ahead name (seen_from reader following) ≡ false))

-- the lines of a table, each with its number and its text
pub record IsLines (reader : Reader) (at : ℕ) (lines : List TableLine) (next : ℕ) : Type 0 where
  pub seen_lines : List KindedToken
  pub are_lines : All (λ line. line.0 ≡ terminal.TableLine) seen_lines
  pub is : seen_from reader at ≡ seen_lines ++ seen_from reader next
  pub none_after : leads productions look_ahead (token terminal.TableLine) (seen_from reader next) ≡ false
  pub texts : map {B = ℕ × List ℕ} (λ line. (line.line, string_bytes line.text)) lines ≡ map {B = ℕ × List ℕ} (λ line. (line.1.at.line, token_text reader.source.now line.1)) seen_lines
  pub short : All (λ line. string_len line.text ≤ 32768) lines
  pub further : at ≤ next

-- the reader inside `unclosed` parentheses
abbrev pub inside : Reader → ℕ → Reader
inside reader unclosed = record reader { unclosed = unclosed }

-- a parenthesis opens, and this reader continues inside it from here
pub record IsOpened (reader : Reader) (at : ℕ) (inner : Reader) (following : ℕ) : Type 0 where
  pub token : Token
  pub next : IsNext (is terminal.LeftParen) reader at token following
  pub within_bound : reader.unclosed < 100
  pub inner_is : inner ≡ inside reader (reader.unclosed + 1)

-- no parenthesis opens, or one too many does
pub record IsUnopened (reader : Reader) (at : ℕ) (refusal : SourceFaultOrMemory) : Type 0 where
  pub refuses : (limit : ℕ) (tables : Tables) (read_state : ReaderState) → Holds reader tables read_state →
      Refuses limit reader.source.now (token terminal.LeftParen) read_state (seen_from reader at) refusal

-- a text was entered in a table, and has this number
pub record IsEntered (old new : List (List ℕ)) (text : List ℕ) (n : ℕ) : Type 0 where
  pub table : new ≡ entered old text
  pub within_bound : IsFullFor old text → ⊥
  pub place : place_of new text ≡ Some n

-- the table is full for a text, or out of memory
pub record IsNotEntered (old : List (List ℕ)) (text : List ℕ) (at : Place) (refusal : SourceFaultOrMemory) : Type 0 where
  pub why : (refusal ≡ Memory) ⊎ ((refusal ≡ Fault (record { error = Syntax TooManyLabels; at = at })) × IsFullFor old text)

-- the value of a number, which is within its range
abbrev pub IsValue : {F : Type 0} → ℕ → (F → Number) → List ℕ → F → Type 0
IsValue limit value text v = MeansNumber text (value v) × FitsLiteral limit (value v)

-- the refusal of a number that is out of range
pub record IsTooLarge (limit : ℕ) (source : List ℕ) (token : Token) (refusal : SourceFaultOrMemory) : Type 0 where
  pub is : refusal ≡ Fault (record { error = Syntax OutOfRange; at = token.at })
  pub none_fits : (x : Number) → MeansNumber (token_text source token) x → FitsLiteral limit x → ⊥
