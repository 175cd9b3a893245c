-- What the functions of a reader promise each other: which part of the grammar they read at a place
-- in the tokens, and what it means, or why it is refused. A predictive reader decides by one token,
-- as gms_grammar states it.
use Rattle.std.specs.Prelude.{◌≡◌, ℕ, ◌+◌, ◌<◌, ◌≤◌, Bool, true, false, if◌then◌else◌, List, ◌∷◌, length, drop, map, Some, Vec, Box, Result, MatchResult, All}
use Rattle.std.specs.Borrow.{MutBor}
use Rattle.std.specs.declared.alloc.Global.{Global}
use Rattle.gms_labels.specs.declared.place.Place.{Place}
use Rattle.gms_labels.specs.Labels.{place_of}
use Rattle.gms_lex.specs.declared.token.Token.{Token}
use Rattle.gms_lex.specs.Places.{place_of_byte as place_at}
use Rattle.gms_lex.specs.TokenTexts.{IsPlaced, token_text}
use Rattle.gq_number.specs.Number.{Number}
use Rattle.gq_text.specs.Literal.{FitsLiteral}
use Rattle.gq_text.specs.Decimal.{MeansNumber}
use Rattle.gms_ast.specs.declared.expression.Suffix.{Suffix}
use Rattle.gms_ast.specs.declared.expression.LagOp.{LagOp}
use Rattle.gms_ast.specs.declared.expression.Expr.{Expr}
use Rattle.gms_ast.specs.declared.expression.Index.{Index as IndexNode}
use Rattle.gms_ast.specs.declared.expression.Control.{Control as ControlNode}
use Rattle.gms_ast.specs.declared.program.Target.{Target as TargetNode}
use Rattle.gms_ast.specs.Trees.{Tree as Syntax, reference, negated, not_so, Indices, lagged}
use Rattle.gms_ast.specs.TreeView.{parts_of, indices_of, index_tree, control_tree}
use Rattle.gms_grammar.specs.declared.terminal.Terminal.{Terminal}
use Rattle.gms_grammar.specs.declared.terminal.Terminal.TheVariants.{LeftParen, Sign, Not}
use Rattle.gms_grammar.specs.Grammar.{Part, one, the, opt, DerivationTree}
use Rattle.gms_grammar.specs.Reading.{leads}
use Rattle.gms_grammar.specs.Terminals.{is}
use Rattle.gms_grammar.specs.GamsGrammar.{Nonterminal, Expression, Condition, productions, token}
use Rattle.gms_grammar.specs.GamsLookAhead.{look_ahead}
use Rattle.gms_grammar.specs.Rules as rules
pub use Rattle.gms_grammar.specs.Rules.{kind_of}
use Rattle.gms_expressions.specs.declared.fault.SyntaxError.TheVariants.{Number as OutOfRange}
use Rattle.gms_expressions.specs.declared.fault.SyntaxFaultOrMemory.{SyntaxFaultOrMemory}
use Rattle.gms_expressions.specs.declared.fault.SyntaxFaultOrMemory.TheVariants.{Fault}
use Rattle.gms_expressions.specs.declared.reader.Reader.{Reader}
use Rattle.gms_expressions.specs.declared.reader.Tables.{Tables}
use Rattle.gms_expressions.specs.declared.grammar.Inner.{Inner}
use Rattle.gms_expressions.specs.declared.grammar.Inner.TheVariants as inner_part
use Rattle.gms_expressions.specs.ExpressionTrees.{expression, condition, control, bracketed_arguments, optional_indices, target as target_of, index as index_of, lag as lag_of, suffix_in, name_in, label_in, names_in, sets_in, token_of, with_sign, negated_by}
use Rattle.gms_expressions.specs.Words.{terminal_of}
use Rattle.gms_expressions.specs.Outcomes.{ExpressionState, syntax_rule, kinded_tokens, unexpected_token}
use Rattle.gms_expressions.specs.Calls.{IsTablePrefix}
use Rattle.gms_ast.specs.Numbers.{indices_in_numbers, control_in_numbers}
use Rattle.gms_expressions.specs.InnerNodes.{view, plain_views}

-- a token as the grammar views it
abbrev pub Seen : Type 0
Seen = Terminal × Token

-- a tree of the grammar
abbrev pub Derivation : Type 0
Derivation = DerivationTree Seen

-- a part of the grammar
abbrev pub GamsPart : Type 0
GamsPart = Part Terminal Nonterminal

-- a part was read: its tree, and the state after its tokens
abbrev pub Gives : ℕ → List ℕ → GamsPart → ExpressionState → List Seen → Derivation → ExpressionState → List Seen → Type 0
Gives limit source part read_state tokens tree following rest = rules.IsPartRead syntax_rule (limit, source) part read_state tokens tree following rest

-- the tables extend the names and labels of a state
abbrev pub Went : ExpressionState → Tables → Type 0
Went read_state tables = IsTablePrefix read_state.names tables.names × IsTablePrefix read_state.labels tables.labels

-- Why a part was not read, and the tables then; out of memory has no cause in it.
pub record Refuses (limit : ℕ) (source : List ℕ) (part : GamsPart) (tables : Tables) (read_state : ExpressionState) (tokens : List Seen) (refusal : SyntaxFaultOrMemory) : Type 0 where
  pub why : rules.Refuses syntax_rule (limit, source) part read_state tokens refusal
  pub went : Went read_state tables

-- the names and the labels of the whole program
pub record Sense : Type 0 where
  pub names : List (List ℕ)
  pub labels : List (List ℕ)

-- these are the names and labels of a program whose tables so far are `tables`
pub record IsSense (tables : Tables) (sense : Sense) : Type 0 where
  pub names : (text : List ℕ) (n : ℕ) → place_of tables.names text ≡ Some n → place_of sense.names text ≡ Some n
  pub labels : (text : List ℕ) (n : ℕ) → place_of tables.labels text ≡ Some n → place_of sense.labels text ≡ Some n

-- the tokens from a place on
abbrev pub seen_from : Reader → ℕ → List Seen
seen_from reader at = kinded_tokens reader.source.now (drop at reader.tokens.now)

-- the state in which `unclosed` parentheses are open, and these are the tables
abbrev pub read_state_of : ℕ → Tables → ExpressionState
read_state_of unclosed tables = record { open_count = unclosed; names = tables.names; labels = tables.labels; dotted = false }

-- a part was read at a place, and the result is what its derivation means
pub record IsGot {T : Type 0} (limit : ℕ) (Means : Sense → Derivation → T → Type 0) (part : GamsPart) (reader : Reader) (at : ℕ) (old new : Tables) (x : T) (following : ℕ) : Type 0 where
  pub tree : Derivation
  pub gives : Gives limit reader.source.now part (read_state_of reader.unclosed old) (seen_from reader at) tree (read_state_of reader.unclosed new) (seen_from reader following)
  pub means : (sense : Sense) → IsSense new sense → Means sense tree x
  pub further : at ≤ following

-- a part was read at a place, or was refused
abbrev pub IsAnswer : {T : Type 0} → ℕ → (Sense → Derivation → T → Type 0) → GamsPart → Reader → ℕ → Tables → Tables → Result (T × ℕ) SyntaxFaultOrMemory → Type 0
IsAnswer limit Means part reader at old new result =
    MatchResult result (λ r. IsGot limit Means part reader at old new r.0 r.1)
    (λ e. Refuses limit reader.source.now part new (read_state_of reader.unclosed old) (seen_from reader at) e)

-- what a derivation means in a source, by its names and its labels
abbrev pub Meaning : Type 0 → Type 0
Meaning X = List ℕ → List (List ℕ) → List (List ℕ) → Derivation → X

-- an expression is what a derivation means
pub record IsMeant {F : Type 0} (value : F → Number) (source : List ℕ) (meaning : Meaning (Syntax Number)) (sense : Sense) (tree : Derivation) (e : Expr F) : Type 0 where
  pub is : view value e ≡ meaning source sense.names sense.labels tree

-- an expression was read at a place, or was refused
abbrev pub IsExpression : {F : Type 0} → ℕ → (F → Number) → Meaning (Syntax Number) → GamsPart → Reader → ℕ → Tables → Tables → Result (Expr F × ℕ) SyntaxFaultOrMemory → Type 0
IsExpression limit value meaning part reader at old new result = IsAnswer limit (IsMeant value reader.source.now meaning) part reader at old new result

-- this is the next token
pub record IsAt (reader : Reader) (at : ℕ) (token : Token) : Type 0 where
  pub is : seen_from reader at ≡ (terminal_of token.kind (token_text reader.source.now token), token) ∷ seen_from reader (at + 1)
  pub placed : IsPlaced reader.source.now token
  pub within : at < length reader.tokens.now

-- the next token passes a test, and `following` is the place after it
pub record IsNext (test : Terminal → Bool) (reader : Reader) (at : ℕ) (token : Token) (following : ℕ) : Type 0 where
  pub kind : Terminal
  pub passes : test kind ≡ true
  pub kind_is : kind ≡ terminal_of token.kind (token_text reader.source.now token)
  pub is : seen_from reader at ≡ (kind, token) ∷ seen_from reader following
  pub placed : IsPlaced reader.source.now token
  pub within : at < length reader.tokens.now
  pub further : at < following

-- the refusal of an unexpected token
abbrev pub unexpected_at : Reader → ℕ → SyntaxFaultOrMemory
unexpected_at reader at = Fault (unexpected_token reader.source.now (seen_from reader at))

-- the next token does not pass a test, and this is its refusal
pub record IsLacking (test : Terminal → Bool) (reader : Reader) (at : ℕ) (refusal : SyntaxFaultOrMemory) : Type 0 where
  pub not_led : leads productions look_ahead (one test) (seen_from reader at) ≡ false
  pub is : refusal ≡ unexpected_at reader at

-- a token of this kind follows a part
pub record IsBefore {T : Type 0} (kind : Terminal) (reader : Reader) (at : ℕ) (part : T) (same : T) (following : ℕ) : Type 0 where
  pub token : Token
  pub next : IsNext (is kind) reader at token following
  pub is : same ≡ part

-- a reader of the tokens of its source
pub record IsReady (reader : Reader) : Type 0 where
  pub placed : All (IsPlaced reader.source.now) reader.tokens.now
  pub end : reader.end ≡ place_at reader.source.now (length reader.source.now)
  pub few : reader.unclosed ≤ 100

-- the reader inside `unclosed` parentheses
abbrev pub inside : Reader → ℕ → Reader
inside reader unclosed = record reader { unclosed = unclosed }

-- a parenthesis opens, and this reader continues inside it from here
pub record IsOpened (reader : Reader) (at : ℕ) (inner : Reader) (following : ℕ) : Type 0 where
  pub token : Token
  pub next : IsNext (is LeftParen) reader at token following
  pub within_bound : reader.unclosed < 100
  pub inner_is : inner ≡ inside reader (reader.unclosed + 1)

-- no parenthesis opens, or one too many does
pub record IsUnopened (reader : Reader) (at : ℕ) (refusal : SyntaxFaultOrMemory) : Type 0 where
  pub refuses : (limit : ℕ) (tables : Tables) → Refuses limit reader.source.now (token LeftParen) tables (read_state_of reader.unclosed tables) (seen_from reader at) refusal

-- an optional sign was read
pub record IsSigned (reader : Reader) (at : ℕ) (minus : Bool) (following : ℕ) : Type 0 where
  pub tree : Derivation
  pub gives : (limit : ℕ) (tables : Tables) →
      Gives limit reader.source.now (opt (token Sign)) (read_state_of reader.unclosed tables) (seen_from reader at) tree (read_state_of reader.unclosed tables) (seen_from reader following)
  pub means : (operand : Syntax Number) → with_sign tree operand ≡ (if minus then negated operand else operand)
  pub further : at ≤ following

-- an optional `not` was read
pub record IsNegated (reader : Reader) (at : ℕ) (not : Bool) (following : ℕ) : Type 0 where
  pub tree : Derivation
  pub gives : (limit : ℕ) (tables : Tables) →
      Gives limit reader.source.now (opt (token Not)) (read_state_of reader.unclosed tables) (seen_from reader at) tree (read_state_of reader.unclosed tables) (seen_from reader following)
  pub means : (operand : Syntax Number) → negated_by tree operand ≡ (if not then not_so operand else operand)
  pub further : at ≤ following

-- a suffix, if any
abbrev pub IsSuffix : List ℕ → Sense → Derivation → Suffix → Type 0
IsSuffix source sense tree suffix = suffix ≡ suffix_in source sense.names sense.labels tree

-- the number of a name, and its place
abbrev pub IsName : List ℕ → Sense → Derivation → ℕ × Place → Type 0
IsName source sense tree name = (name.0 ≡ name_in source sense.names sense.labels tree) × (name.1 ≡ (token_of tree).at)

-- the number of a label
abbrev pub IsLabel : List ℕ → Sense → Derivation → ℕ → Type 0
IsLabel source sense tree label = label ≡ label_in source sense.names sense.labels tree

-- the numbers of the names of a list
abbrev pub AreNames : List ℕ → Sense → Derivation → Vec ℕ Global → Type 0
AreNames source sense tree names = names.items ≡ names_in source sense.names sense.labels tree

-- the numbers of the sets of a control
abbrev pub AreSets : List ℕ → Sense → Derivation → Vec ℕ Global → Type 0
AreSets source sense tree sets = sets.items ≡ sets_in source sense.names sense.labels tree

-- the value of a number, which is within its range
abbrev pub IsValue : {F : Type 0} → ℕ → (F → Number) → List ℕ → F → Type 0
IsValue limit value text v = MeansNumber text (value v) × FitsLiteral limit (value v)

-- the refusal of a number that is out of range
pub record IsOutOfRange (limit : ℕ) (source : List ℕ) (token : Token) (refusal : SyntaxFaultOrMemory) : Type 0 where
  pub is : refusal ≡ Fault (record { error = OutOfRange; at = token.at })
  pub none_fits : (x : Number) → MeansNumber (token_text source token) x → FitsLiteral limit x → ⊥

-- the arguments of a call
abbrev pub AreArguments : {F : Type 0} → (F → Number) → List ℕ → Sense → Derivation → Vec (Expr F) Global → Type 0
AreArguments value source sense tree args = parts_of (plain_views value args.items) ≡ bracketed_arguments source sense.names sense.labels tree

-- a control
abbrev pub IsControl : {F : Type 0} → (F → Number) → List ℕ → Sense → Derivation → ControlNode F → Type 0
IsControl value source sense tree sets = control_in_numbers value (control_tree sets) ≡ control source sense.names sense.labels tree

-- what a reference refers to
abbrev pub IsTarget : {F : Type 0} → (F → Number) → List ℕ → Sense → Derivation → TargetNode F → Type 0
IsTarget value source sense tree target =
    reference target.at target.name target.suffix (indices_in_numbers value (indices_of (map index_tree target.indices))) ≡ target_of source sense.names sense.labels tree

-- the indices of a reference
abbrev pub AreIndices : {F : Type 0} → (F → Number) → List ℕ → Sense → Derivation → Vec (IndexNode F) Global → Type 0
AreIndices value source sense tree indices = indices_in_numbers value (indices_of (map index_tree indices.items)) ≡ optional_indices source sense.names sense.labels tree

-- an index, before any others
abbrev pub IsIndex : {F : Type 0} → (F → Number) → List ℕ → Sense → Derivation → IndexNode F → Type 0
IsIndex {F} value source sense tree index = (rest : Indices F) → indices_in_numbers value (index_tree index rest) ≡ index_of source sense.names sense.labels tree (indices_in_numbers value rest)

-- a lag of a name, before other indices
abbrev pub IsLag : {F : Type 0} → (F → Number) → List ℕ → Sense → Derivation → LagOp × Place × Box (Expr F) Global → Type 0
IsLag value source sense tree lag = (name : ℕ) (rest : Indices Number) → lagged name lag.0 lag.1 (view value lag.2.value) rest ≡ lag_of source sense.names sense.labels name tree rest

-- the nonterminal that is read by itself inside parentheses
abbrev pub nonterminal_of : Inner → Nonterminal
nonterminal_of inner_part.Expression = Expression
nonterminal_of inner_part.Condition = Condition

-- what the derivation of that nonterminal means
abbrev pub meaning_of : Inner → Meaning (Syntax Number)
meaning_of inner_part.Expression source names labels tree = expression source names labels tree
meaning_of inner_part.Condition source names labels tree = condition source names labels tree

-- What the function that reads inside parentheses must satisfy: it may be called if at least
-- `least` parentheses are open, and reads what `what` names.
pub record CanReadFrom {F M : Type 0} (limit : ℕ) (value : F → Number) (least : ℕ) (reader : Reader) (pre : Reader → MutBor Tables → ℕ → Inner → M → Type 0)
    (post : Reader → MutBor Tables → ℕ → Inner → M → Result (Expr F × ℕ) SyntaxFaultOrMemory → MutBor Tables → Type 0) : Type 0 where
  pub ready : IsReady reader
  pub callable : (unclosed : ℕ) (tables : MutBor Tables) (at : ℕ) (what : Inner) (field : M) → least ≤ unclosed → unclosed ≤ 100 → pre (inside reader unclosed) tables at what field
  pub reads : (unclosed : ℕ) (old new : MutBor Tables) (at : ℕ) (what : Inner) (field : M) (result : Result (Expr F × ℕ) SyntaxFaultOrMemory) →
      least ≤ unclosed → unclosed ≤ 100 → post (inside reader unclosed) old at what field result new →
      IsExpression limit value (meaning_of what) (the (nonterminal_of what)) (inside reader unclosed) at old.now new.now result

-- the function that reads inside parentheses may be called with more parentheses open than at
-- present
abbrev pub CanRead : {F M : Type 0} → ℕ → (F → Number) → Reader → (Reader → MutBor Tables → ℕ → Inner → M → Type 0) → (Reader → MutBor Tables → ℕ → Inner → M → Result (Expr F × ℕ) SyntaxFaultOrMemory → MutBor Tables → Type 0) → Type 0
CanRead limit value reader pre post = CanReadFrom limit value (reader.unclosed + 1) reader pre post

-- the function that reads inside parentheses may be called with as many parentheses open as at
-- present
abbrev pub CanReadHere : {F M : Type 0} → ℕ → (F → Number) → Reader → (Reader → MutBor Tables → ℕ → Inner → M → Type 0) → (Reader → MutBor Tables → ℕ → Inner → M → Result (Expr F × ℕ) SyntaxFaultOrMemory → MutBor Tables → Type 0) → Type 0
CanReadHere limit value reader pre post = CanReadFrom limit value reader.unclosed reader pre post
