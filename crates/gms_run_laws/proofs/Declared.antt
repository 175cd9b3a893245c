-- What is declared before a statement of a program is declared in the state in which it begins.
use Rattle.std.proofs.Common.{◌≡◌, ℕ, Bool, true, false, not, List, ◌∷◌, length, sym, ap, ◌∙◌, subst, inl, inr}
use Rattle.std.specs.List.{fold}
use Rattle.std.proofs.lemmas.List.{map-append}
use Rattle.std.proofs.lemmas.List.Sums.{fold-append}
use Rattle.gq_number.specs.Number.{Number}
use Rattle.gms_ast.specs.declared.program.Program.{Program}
use Rattle.gms_ast.specs.declared.program.Stmt.{Stmt}
use Rattle.gms_store.specs.Declarations.{blank_state, is_undeclared}
use Rattle.gms_store.specs.State.{Symbol, symbol_at}
use Rattle.gms_check.specs.Checked.{FollowsIn}
use Rattle.gms_check.specs.Loaded.{loaded, sound}
use Rattle.gms_check.specs.Past.{after_statement, state_after}
use Rattle.gms_check.proofs.Growing.{IsLater, Grows, grows-past}
use Rattle.gms_check.proofs.IndexSetsStay.{blank-fits}
use Rattle.gms_run_laws.specs.Agreeing.{declares}

later-declared : (old new : Symbol) → IsLater old new → not (is_undeclared old.content) ≡ true → not (is_undeclared new.content) ≡ true
later-declared old new (inl none) is = absurd (let e : ◌≡◌ {A = Bool} false true = sym (ap not none) ∙ is in let z : ⊥ = cc in z)
later-declared old new (inr after) is = ap not after.declared

module _ {F : Type 0} (value : F → Number) (program : Program F) where
  pub declared-later : (before : List (Stmt F)) (statement : Stmt F) → FollowsIn program before statement → (n : ℕ) → declares (state_after value (length program.names) (sound before)) n ≡ true → declares (loaded value program) n ≡ true
  declared-later before statement occurs n is =
      let rest : List (Stmt F) = statement ∷ occurs.0 in
      let blank = blank_state (length program.names) in
      let now = state_after value (length program.names) (sound before) in
      let fits = (grows-past value (sound before) blank n (blank-fits (length program.names) n)).0 in
      let grows : Grows now (loaded value program) = subst (Grows now) (sym (ap (λ (all : List (Stmt F)). fold (after_statement value) blank (sound all)) occurs.1 ∙ ap (fold (after_statement value) blank) (map-append {B = Stmt F × Bool} (λ (s : Stmt F). (s, true)) before rest) ∙ fold-append (after_statement value) blank (sound before) (sound rest))) (grows-past value (sound rest) now) in
      later-declared (symbol_at now n) (symbol_at (loaded value program) n) (grows n fits).1 is
