-- The tests of a source: of its pieces, of the derivation of its tokens, and of its statements.
use Rattle.std.proofs.Common.{ℕ, zero, suc, ◌&&◌, Bool, true, false, List, length, Option, Some, None}
use Rattle.gms_grammar.specs.Lines.{code_text}
use Rattle.gms_grammar.specs.declared.lexeme.Lexeme.{Lexeme}
use Rattle.gms_lex.specs.declared.mode.Mode.TheVariants.{Code}
use Rattle.gms_grammar.specs.Grammar.{the}
use Rattle.gms_grammar.specs.GamsGrammar.{Program, productions}
use Rattle.gms_grammar.specs.GamsLookAhead.{look_ahead}
use Rattle.gms_parse.specs.ReadStates.{KindedToken}
use Rattle.gms_gen.specs.Generator.{generated_model_text}
use Rattle.gms_laws.proofs.FaultlessStatements.{has_no_error}
use Rattle.gms_laws.proofs.SourcePieces.{pieces_in}
use Rattle.gms_laws.proofs.SourcePrograms.{inner, all_seen, view_by, is_whole, is_plain}
use Rattle.gms_laws.proofs.TextedTokens.{Texted}
use Rattle.gms_laws.proofs.TakenTrees.{Taken, read_part}

-- the tests that tokens and their derivation pass
abbrev pub by_tree : List (List ℕ) → List ℕ → List Texted → Taken KindedToken → Bool
by_tree solvers source ts None = false
by_tree solvers source ts (Some found) = is_whole source ts found.1 && has_no_error solvers (view_by source ts found.0)

abbrev pub by_tokens : List (List ℕ) → List ℕ → List Texted → Bool
by_tokens solvers source ts = by_tree solvers source ts (read_part productions look_ahead (length source) (the Program) (all_seen source ts))

abbrev pub by_pieces : List (List ℕ) → List ℕ → Option (List Lexeme) → Bool
by_pieces solvers source None = false
by_pieces solvers source (Some pieces) = by_tokens solvers source (inner source pieces)

-- the tests that a source passes
abbrev pub accepts : List (List ℕ) → List ℕ → Bool
accepts solvers source = is_plain source && by_pieces solvers source (pieces_in (length source) Code (code_text source))

-- the model of a size passes them
abbrev pub is_accepted : List (List ℕ) → ℕ → Bool
is_accepted solvers size = accepts solvers (generated_model_text size size size)

-- the models of this many sizes above one pass them
abbrev pub all_accepted : List (List ℕ) → ℕ → ℕ → Bool
all_accepted solvers above zero = true
all_accepted solvers above (suc n) = is_accepted solvers (suc above) && all_accepted solvers (suc above) n
