-- The error of each statement, where another one of it may come first.
use Rattle.gms_check.proofs.Faultless.{none-right}
use Rattle.std.proofs.Common.{◌≡◌, ◌<◌, ◌≤◌, ◌+◌, ℕ, zero, suc, List, [], ◌∷◌, ◌++◌, length, get_or, set, take, refl, sym, ap, ◌∙◌, Option, Some, None, arith, add-one}
use Rattle.std.specs.Prelude.{flat_map, is_none, option_to_list}
use mathlib.Core.Path.{fun_ext}
use Rattle.std.proofs.lemmas.List.{take_all}
use Rattle.gq_number.specs.Number.{Number}
use Rattle.gms_ast.specs.declared.program.Program.{Program}
use Rattle.gms_ast.specs.declared.program.Stmt.{Stmt}
use Rattle.gms_check.specs.declared.error.CompileError.{CompileError}
use Rattle.gms_check.specs.CompileErrors.{each_error, known_after, statement_error, statement_errors}
use Rattle.gms_check.specs.Errors.{sooner}
use Rattle.gms_check.specs.Loaded.{IsAccepted}
use Rattle.gms_check.specs.Past.{Past}
use Rattle.gms_save.specs.JointErrors.{HasNoErrors, each_sooner, restart_error}

-- ---- statement by statement

each-none : {X : Type 0} (other : X → Option CompileError) (errors : List (Option CompileError)) → each_sooner other errors [] ≡ errors
each-none other [] = refl
each-none other (error ∷ errors) = refl

more : {X : Type 0} (other : X → Option CompileError) (errors : List (Option CompileError)) (xs : List X) (i : ℕ) (x : X) → i < length xs → x ≡ get_or xs i x → each_sooner other errors (take (suc i) xs) ≡ set (each_sooner other errors (take i xs)) i (sooner (get_or (each_sooner other errors (take i xs)) i None) (other x))
more other errors [] i x within is = absurd (omega arith)
more other [] (y ∷ xs) i x within is = refl
more other (error ∷ errors) (y ∷ xs) zero x within is =
    ap (λ z. sooner error (other z) ∷ each_sooner other errors []) (sym is) ∙ ap (λ (es : List (Option CompileError)). sooner error (other x) ∷ es) (each-none other errors)
more other (error ∷ errors) (y ∷ xs) (suc i) x within is =
    ap (λ (es : List (Option CompileError)). sooner error (other y) ∷ es) (more other errors xs i x (omega arith) is)

-- before the first, one more, and after the last
pub each-first : {X : Type 0} (other : X → Option CompileError) (errors : List (Option CompileError)) (xs : List X) → errors ≡ each_sooner other errors (take 0 xs)
each-first other errors xs = sym (each-none other errors)

pub each-more : {X : Type 0} (other : X → Option CompileError) (errors : List (Option CompileError)) (xs : List X) (i : ℕ) (x : X) (now next : List (Option CompileError)) (own found : Option CompileError) → i < length xs → x ≡ get_or xs i x → now ≡ each_sooner other errors (take i xs) → found ≡ other x → own ≡ sooner (get_or now i None) found → next ≡ set now i own → next ≡ each_sooner other errors (take (i + 1) xs)
each-more other errors xs i x now next own found within is so_far finds first put =
    put
    ∙ ap (set now i) (first ∙ ap (sooner (get_or now i None)) finds)
    ∙ ap (λ (es : List (Option CompileError)). set es i (sooner (get_or es i None) (other x))) so_far
    ∙ sym (more other errors xs i x within is)
    ∙ ap (λ n. each_sooner other errors (take n xs)) (sym (add-one i))

pub each-all : {X : Type 0} (other : X → Option CompileError) (errors : List (Option CompileError)) (xs : List X) (i : ℕ) (now : List (Option CompileError)) → length xs ≤ i → now ≡ each_sooner other errors (take i xs) → now ≡ each_sooner other errors xs
each-all other errors xs i now past so_far = so_far ∙ ap (each_sooner other errors) (take_all i xs past)

-- the same of two that are the same for each
pub each-same : {X : Type 0} (one other : X → Option CompileError) (errors : List (Option CompileError)) (xs : List X) → ((x : X) → one x ≡ other x) → each_sooner one errors xs ≡ each_sooner other errors xs
each-same {X} one other errors xs same = ap (λ (f : X → Option CompileError). each_sooner f errors xs) (fun_ext same)

-- it has as many errors as there were
pub each-length : {X : Type 0} (other : X → Option CompileError) (errors : List (Option CompileError)) (xs : List X) → length (each_sooner other errors xs) ≡ length errors
each-length other [] xs = refl
each-length other (error ∷ errors) [] = refl
each-length other (error ∷ errors) (x ∷ xs) = ap suc (each-length other errors xs)

-- if no error is found, there was none before
none-before : {X : Type 0} (other : X → Option CompileError) (errors : List (Option CompileError)) (xs : List X) → flat_map option_to_list (each_sooner other errors xs) ≡ [] → flat_map option_to_list errors ≡ []
none-before other [] xs e = refl
none-before other (error ∷ errors) [] e = e
none-before other (None ∷ errors) (x ∷ xs) e =
    none-before other errors xs (none-right (option_to_list (other x)) (flat_map option_to_list (each_sooner other errors xs)) e)
none-before other (Some error ∷ errors) (x ∷ xs) e = absurd cc

module _ {F : Type 0} (value : F → Number) where
  -- a check has one for each statement
  past-length : (program : Program F) (solvers : List (List ℕ)) (past : Past F) (statements : List (Stmt F)) → length (each_error value program solvers past statements) ≡ length statements
  past-length program solvers past [] = refl
  past-length program solvers past (statement ∷ rest) =
      ap suc (past-length program solvers (past ++ (statement, is_none (statement_error (known_after value program solvers past) statement)) ∷ []) rest)

  pub errors-length : (program : Program F) (solvers : List (List ℕ)) → length (statement_errors value program solvers) ≡ length program.statements.items
  errors-length program solvers = past-length program solvers [] program.statements.items

  -- a joint program without errors is an accepted one
  pub accepted : (joint : Program F) (from : ℕ) → HasNoErrors value joint from → IsAccepted value joint
  accepted joint from none =
      (none.0, none-before (restart_error from joint) (statement_errors value joint none.0) joint.statements.items none.1)
