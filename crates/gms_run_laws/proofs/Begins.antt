-- A program that continues a saved one begins with all that the saved one begins with.
use Rattle.std.proofs.lemmas.Bool.{not-false, not-true}
use Rattle.std.proofs.Common.{◌≡◌, ℕ, ◌≤◌, Bool, true, false, List, ◌++◌, length, refl, sym, ap₂, ◌∙◌, subst}
use Rattle.gq_number.specs.Number.{Number}
use Rattle.gms_ast.specs.declared.program.Stmt.{Stmt}
use Rattle.gms_store.specs.declared.settings.Settings.{Settings}
use Rattle.gms_store.specs.Declarations.{is_undeclared}
use Rattle.gms_store.specs.Overlays.{chosen, overlaid_symbols}
use Rattle.gms_store.specs.State.{State, Symbol, symbol_at}
use Rattle.gms_check.specs.Loaded.{IsAccepted, loaded, sound}
use Rattle.gms_check.specs.Past.{state_after}
use Rattle.gms_exec.specs.Run.{World}
use Rattle.gms_run_laws.specs.Agreeing.{declares, HasAll}
use Rattle.gms_run_laws.proofs.Changing.{read, over-at, over-length, same-lists, chosen-declared, chosen-undeclared}
use Rattle.gms_run_laws.proofs.TidyLoaded.{loaded-well}
use Rattle.gms_run_laws.specs.Extensions.{DeclaresItsOwn, TypesNone}
use Rattle.gms_run_laws.proofs.Keeping.{Keeps, keep-following}
use Rattle.gms_run_laws.proofs.Padding.{padded-after}

-- a state has all of another, if it has the other's symbol for each name that the other declares,
-- and its settings
has-all : (state other : State) → length other.symbols ≤ length state.symbols → state.settings ≡ other.settings → ((n : ℕ) → declares other n ≡ true → symbol_at state n ≡ symbol_at other n) → HasAll state other
has-all state other many settings keeps = record {
  many = many;
  same = sym (ap₂ (λ (ss : List Symbol) (s : Settings). record { symbols = ss; settings = s }) (same-lists state.symbols (overlaid_symbols state.symbols other.symbols) (sym (over-length state.symbols other.symbols)) each) settings);
}
  where
    each : (n : ℕ) → read state.symbols n ≡ read (overlaid_symbols state.symbols other.symbols) n
    each n = by (declares other n) refl ∙ sym (over-at state.symbols other.symbols n many)
      where
        by : (d : Bool) → declares other n ≡ d → read state.symbols n ≡ chosen (read state.symbols n) (read other.symbols n)
        by true is = keeps n is ∙ sym (chosen-declared (read state.symbols n) (read other.symbols n) (not-true (is_undeclared (read other.symbols n).content) is))
        by false none = sym (chosen-undeclared (read state.symbols n) (read other.symbols n) (not-false (is_undeclared (read other.symbols n).content) none))

module _ {F : Type 0} (v : F → Number) (saved joint : World F) (firsts others : List (Stmt F)) (accepted : IsAccepted v joint.program) where
  -- The joint program begins with all that the saved one begins with, where its first statements
  -- lead to the same states.
  pub begins-with : length saved.program.names ≤ length joint.program.names → DeclaresItsOwn saved.program → joint.program.statements.items ≡ firsts ++ others → ((count : ℕ) → state_after v count (sound firsts) ≡ state_after v count (sound saved.program.statements.items)) → TypesNone (loaded v saved.program) others → HasAll (loaded v joint.program) (loaded v saved.program)
  begins-with few own statements states types =
      let first = loaded v saved.program in
      let more = length joint.program.names in
      let padded = padded-after (length saved.program.names) v more few saved.program.statements.items own in
      let keeps = keep-following first v joint.program accepted firsts others statements types (subst (Keeps first) (sym (states more)) (record { kept = λ n is. padded.same n; many = padded.few })) in
      has-all (loaded v joint.program) first keeps.many ((loaded-well v joint.program).settings ∙ sym (loaded-well v saved.program).settings) keeps.kept
