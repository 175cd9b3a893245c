-- The result of parsing a source: its program, or its first fault (GAMS User's Guide, "GAMS
-- Programs", and "GAMS Output", compilation errors).
use Rattle.std.specs.Prelude.{◌≡◌, ◌≢◌, ◌⊎◌, ℕ, ◌<◌, ◌≤◌, List, [], ◌∷◌, ◌++◌, length, All}
use Rattle.gms_lex.specs.declared.token.Token.{Token}
use Rattle.gms_lex.specs.declared.fault.LexFault.{LexFault}
use Rattle.gms_lex.specs.Tokens.{IsTokens, most_source_bytes, IsLexFault as IsLexicalFault}
use Rattle.gq_number.specs.Number.{Number}
use Rattle.gms_grammar.specs.declared.terminal.Terminal.TheVariants as terminal
use Rattle.gms_grammar.specs.Grammar.{the, DerivationTree, yield, IsTree, Derives}
use Rattle.gms_grammar.specs.Rules as rules
use Rattle.gms_grammar.specs.GamsGrammar.{Program, productions}
use Rattle.gms_ast.specs.declared.program.Program.{Program as ProgramNode}
use Rattle.gms_expressions.specs.Outcomes.{kinded_tokens}
use Rattle.gms_parse.specs.declared.fault.SourceError.TheVariants.{TooLong}
use Rattle.gms_parse.specs.declared.fault.SourceFault.{SourceFault}
use Rattle.gms_parse.specs.declared.fault.SourceFaultOrMemory.{SourceFaultOrMemory}
use Rattle.gms_parse.specs.declared.fault.SourceFaultOrMemory.TheVariants.{Memory, Fault}
use Rattle.gms_parse.specs.Faults.{lexical_fault}
use Rattle.gms_ast.specs.StatementTrees.{Statements}
use Rattle.gms_ast.specs.StatementView.{statements_view}
use Rattle.gms_parse.specs.Programs.{statements_of}
use Rattle.gms_parse.specs.Tables.{AreTableItems, items_given}
use Rattle.gms_parse.specs.ReadStates.{KindedToken, start, kind_ahead, kind_of, reader_after_all, source_rule, AreTokensFaultless}

-- The view of a program, wherever its parts are stored: its names, its labels, and the trees of its
-- statements.
pub record ProgramView : Type 0 where
  pub names : List (List ℕ)
  pub labels : List (List ℕ)
  pub statements : Statements Number

-- the view of a program over a field, where `value_of` gives the numbers that the field's values
-- mean
abbrev pub program_view : {F : Type 0} → (F → Number) → ProgramNode F → ProgramView
program_view value_of program =
    record { names = program.names; labels = program.labels; statements = statements_view value_of program.statements.items }

-- `lines` are all the lines of a table among the tokens: adjacent lines, with no line directly
-- before or after them.
pub record IsTableOf (tokens lines : List KindedToken) : Type 0 where
  pub before : List KindedToken
  pub following : List KindedToken
  pub parts : tokens ≡ before ++ lines ++ following
  pub are_lines : All (λ token. token.0 ≡ terminal.TableLine) lines
  pub some : lines ≢ []
  pub none_before : (others : List KindedToken) (token : KindedToken) → before ≡ others ++ token ∷ [] → token.0 ≢ terminal.TableLine
  pub none_after : kind_ahead following terminal.End ≢ terminal.TableLine

-- The prefix of a source requires another token after it: if only the source's end follows, then
-- the prefix is no program.
abbrev pub RequiresMore : List KindedToken → List KindedToken → Type 0
RequiresMore prefix rest = kind_of rest ≡ terminal.End → Derives productions (the Program) prefix → ⊥

module _ (limit : ℕ) (source : List ℕ) where
  -- each table among the tokens has items, and they are those that the lines of the table give,
  -- where `labels` are all labels of the source, and `limit` is the limit of the size of numbers
  abbrev pub HaveItems : List (List ℕ) → List KindedToken → Type 0
  HaveItems labels tokens = (lines : List KindedToken) → IsTableOf tokens lines → AreTableItems limit source labels lines (items_given source labels lines)

  -- The grammar derives the tokens before the last, the end, as a program. None of them has a
  -- fault; `limit` is the limit of the size of numbers. `names` and `labels` are those of the
  -- reader's state after them. Each table has items. `statements` are those that the derivation
  -- means: each number is the one that its text means, and each table has the items that its lines
  -- give.
  pub record IsProgramOf (tokens : List KindedToken) (names labels : List (List ℕ)) (statements : Statements Number) : Type 0 where
    pub tree : DerivationTree KindedToken
    pub end : Token
    pub tokens_are : tokens ≡ yield tree ++ (terminal.End, end) ∷ []
    pub is_tree : IsTree productions (the Program) tree
    pub are_sound : AreTokensFaultless limit source start (yield tree) terminal.End
    pub names_are : names ≡ (reader_after_all source start (yield tree) terminal.End).names
    pub labels_are : labels ≡ (reader_after_all source start (yield tree) terminal.End).labels
    pub tables : HaveItems labels (yield tree)
    pub statements_are : statements ≡ statements_of source names labels tree

  -- The tokens are no program, or a faulty one, and this is the first fault: that of a token in the
  -- longest prefix that begins a program or, if none of these has a fault, that of the next token,
  -- which is unexpected. The end of the source is unexpected only if the prefix is no program.
  abbrev pub IsNoProgram : List KindedToken → SourceFault → Type 0
  IsNoProgram tokens fault = rules.IsRefusedByRule source_rule (limit, source) RequiresMore Program start tokens fault

  -- The source has too many bytes, and the fault is TooLong at its start.
  abbrev pub IsTooLong : SourceFault → Type 0
  IsTooLong fault = (most_source_bytes < length source) × (fault ≡ record { error = TooLong; at = record { line = 1; column = 1 } })

  -- The source is short enough, and the fault is its first lexical fault.
  pub record IsLexical (fault : SourceFault) : Type 0 where
    pub short : length source ≤ most_source_bytes
    pub lexical : LexFault
    pub is_first : IsLexicalFault source lexical
    pub is : fault ≡ lexical_fault lexical

  -- The source is short enough and has tokens. They are no program, or a faulty one, and the fault
  -- is their first one.
  pub record IsSyntactic (fault : SourceFault) : Type 0 where
    pub short : length source ≤ most_source_bytes
    pub tokens : List Token
    pub are_tokens : IsTokens source tokens
    pub refused : IsNoProgram (kinded_tokens source tokens) fault

  -- the source has this fault, in its length, its bytes or its tokens
  abbrev pub IsSourceFault : SourceFault → Type 0
  IsSourceFault fault = IsTooLong fault ⊎ (IsLexical fault ⊎ IsSyntactic fault)

  -- the result in place of a program is right: the fault of the source, or out of memory
  abbrev pub IsSourceRefusal : SourceFaultOrMemory → Type 0
  IsSourceRefusal (Fault fault) = IsSourceFault fault
  IsSourceRefusal Memory = Unit {0}

  -- The source has a program with this view.
  pub record HasProgram (view : ProgramView) : Type 0 where
    pub short : length source ≤ most_source_bytes
    pub tokens : List Token
    pub are_tokens : IsTokens source tokens
    pub is : IsProgramOf (kinded_tokens source tokens) view.names view.labels view.statements

  -- the program is that of the source, where `value_of` gives the numbers that the field's values
  -- mean
  abbrev pub IsProgram : {F : Type 0} → (F → Number) → ProgramNode F → Type 0
  IsProgram value_of program = HasProgram (program_view value_of program)
