-- A source that passes the tests is accepted.
use Rattle.std.proofs.lemmas.Bool.{and_parts}
use Rattle.std.proofs.Common.{◌≡◌, ℕ, ◌^◌, ◌-◌, ◌≤◌, true, List, length, Option, Some, None, refl, leb-true}
use Rattle.gms_grammar.specs.Lines.{code_text}
use Rattle.gms_grammar.specs.declared.lexeme.Lexeme.{Lexeme}
use Rattle.gms_lex.specs.declared.mode.Mode.TheVariants.{Code}
use Rattle.gms_grammar.specs.Grammar.{the}
use Rattle.gms_grammar.specs.GamsGrammar.{Program, productions}
use Rattle.gms_grammar.specs.GamsLookAhead.{look_ahead}
use Rattle.gms_parse.specs.ReadStates.{KindedToken}
use Rattle.gms_laws.specs.Accepted.{IsAcceptedSource}
use Rattle.gms_laws.proofs.FaultlessStatements.{has_no_error, no_errors}
use Rattle.gms_laws.proofs.SourcePieces.{Make, pieces_in, made}
use Rattle.gms_laws.proofs.ShortNumerals.{right}
use Rattle.gms_laws.proofs.SourcePrograms.{inner, all_seen, view_by, is_whole, is_plain, program_by}
use Rattle.gms_laws.proofs.TakenTrees.{Taken, read_part, IsTaken, taken}
use Rattle.gms_laws.proofs.SourceTests.{by_tree, by_pieces, accepts}
use Rattle.gq_frac.specs.Frac.{frac_limit}

wide : 10 ^ 9 ≤ frac_limit
wide = leb-true (10 ^ 9) (2 ^ 127 - 1) refl

module _ (solvers : List (List ℕ)) (source : List ℕ) (plain : is_plain source ≡ true) where
  accepted_tree : (pieces : List Lexeme) → Make Code (code_text source) pieces → (found : Taken KindedToken) → IsTaken productions look_ahead (the Program) (all_seen source (inner source pieces)) found → by_tree solvers source (inner source pieces) found ≡ true → IsAcceptedSource solvers source
  accepted_tree pieces make None t h = absurd (cc)
  accepted_tree pieces make (Some found) t h =
      let ts = inner source pieces in
      let view = view_by source ts found.0 in
      record {
        view = view;
        has_program = program_by frac_limit wide source plain pieces make found.0 found.1 t ((and_parts (is_whole source ts found.1) (has_no_error solvers view) h).0);
        no_error = no_errors solvers view (right (is_whole source ts found.1) (has_no_error solvers view) h);
      }

  accepted_pieces : (o : Option (List Lexeme)) → pieces_in (length source) Code (code_text source) ≡ o → by_pieces solvers source o ≡ true → IsAcceptedSource solvers source
  accepted_pieces None e h = absurd (cc)
  accepted_pieces (Some pieces) e h =
      let tokens = all_seen source (inner source pieces) in
      accepted_tree pieces (made (length source) Code (code_text source) pieces e) (read_part productions look_ahead (length source) (the Program) tokens)
      (taken productions look_ahead (length source) (the Program) tokens) h

-- a source that passes them is accepted
pub accepted : (solvers : List (List ℕ)) (source : List ℕ) → accepts solvers source ≡ true → IsAcceptedSource solvers source
accepted solvers source h =
    let pieces = pieces_in (length source) Code (code_text source) in
    accepted_pieces solvers source ((and_parts (is_plain source) (by_pieces solvers source pieces) h).0) pieces refl (right (is_plain source) (by_pieces solvers source pieces) h)
