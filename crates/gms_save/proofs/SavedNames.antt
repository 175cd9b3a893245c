-- A state is a saved one if at each name of its program it has what a saved one may have there; the
-- solver of its settings is free.
use Rattle.std.proofs.Common.{◌≡◌, ℕ, zero, suc, ◌+◌, ◌<◌, ◌≤◌, Bool, true, false, ◌&&◌, List, [], ◌∷◌, ◌++◌, length, map, replicate, slice_get, refl, sym, ap, ◌∙◌, subst, Option, None, Some, unwrap_or, arith, codes}
use Rattle.std.specs.Prelude.{nat_lt}
use Rattle.std.proofs.lemmas.Bool.{ltb-true, lt-ltb}
use Rattle.std.proofs.lemmas.Bool.Decides.{nat_tests}
use Rattle.std.proofs.lemmas.List.Elements.{All-nil, All-weaker}
use Rattle.gq_frac.specs.declared.frac.Frac.{Frac}
use Rattle.gq_frac.specs.Frac.{frac_value, frac_limit}
use Rattle.gms_ast.specs.declared.program.Program.{Program}
use Rattle.gms_tuple.specs.TupleSet.{has}
use Rattle.gms_tuple.proofs.Ordered.{ordered-nil}
use Rattle.gms_store.specs.declared.settings.Settings.{Settings}
use Rattle.gms_store.specs.State.{Content, undeclared, alias_of, set_of, parameter_of, variable_of, equation_of, model_with, Symbol, State, no_symbol, absent, alias_target, given_in, members_in, members_of, symbol_at, with_settings}
use Rattle.gms_store.specs.Declarations.{declared_state, is_alias}
use Rattle.gms_store.proofs.Views.{no_difference}
use Rattle.gms_scope.specs.DynamicSets.{dynamic_sets}
use Rattle.gms_scope.specs.Facts.{marked, with_marks}
use Rattle.gms_check.specs.Loaded.{loaded}
use Rattle.gms_check.specs.Past.{is_among}
use Rattle.gms_check.proofs.PastFacts.{occurs-first}
use Rattle.gms_save_text.specs.SavedState.{saved_line, part, parts_from, settings_line, state_text}
use Rattle.gms_save_text.specs.Validity.{IsGivenWell, are_in_range, declared_symbols, emptied, is_solver_name, fits_domain}
use Rattle.gms_save.specs.Saves.{with_solver}
use Rattle.gms_save.specs.InnerRestoreSteps.{IsSavedAt, IsSavedIn}
use Rattle.gms_save.proofs.LoadedNames.{blanked, declared-count, loaded-declares, same-at}

-- ---- names that a program does not have

past-end : (xs : List Symbol) (n : ℕ) → length (map blanked xs) ≤ n → unwrap_or (slice_get xs n) no_symbol ≡ no_symbol
past-end [] n past = refl
past-end (x ∷ xs) zero past = absurd (omega arith)
past-end (x ∷ xs) (suc n) past = past-end xs n (omega arith)

nothing-past : (state : State) (n : ℕ) → length (declared_symbols state) ≤ n → symbol_at state n ≡ no_symbol
nothing-past state n past = past-end state.symbols n past

-- an undeclared name has no data
none-well : (limit labels : ℕ) (state : State) → IsGivenWell limit labels state no_symbol
none-well limit labels state =
    record { ordered = ordered-nil; few = All-nil _; occur = All-nil _; fit = λ t. refl; differs = λ t. sym (no_difference (absent undeclared)); statuses = refl }

-- ---- aliases

keeps-alias : (c : Content) → is_alias (emptied c) ≡ is_alias c
keeps-alias undeclared = refl
keeps-alias (alias_of base) = refl
keeps-alias (set_of members) = refl
keeps-alias (parameter_of entries) = refl
keeps-alias (variable_of t entries) = refl
keeps-alias (equation_of entries) = refl
keeps-alias (model_with m s) = refl

-- an alias in one of two states that declare the same is one in the other
pub alias-too : (a b : State) (n : ℕ) (is : Bool) → declared_symbols a ≡ declared_symbols b → is_alias (symbol_at a n).content ≡ is → is_alias (symbol_at b n).content ≡ is
alias-too a b n is e f =
    sym (keeps-alias (symbol_at b n).content) ∙ ap (λ (s : Symbol). is_alias s.content) (sym (same-at a b n e)) ∙ keeps-alias (symbol_at a n).content ∙ f

-- an alias has no members
pub alias-members : (c : Content) → is_alias c ≡ true → members_in c ≡ []
alias-members undeclared e = refl
alias-members (alias_of base) e = refl
alias-members (set_of members) e = absurd cc
alias-members (parameter_of entries) e = refl
alias-members (variable_of t entries) e = refl
alias-members (equation_of entries) e = refl
alias-members (model_with m s) e = refl

-- the members of a name that is no alias
pub own-members : (state : State) (n : ℕ) → is_alias (symbol_at state n).content ≡ false → members_of state n ≡ members_in (symbol_at state n).content
own-members state n e = by (symbol_at state n).content refl e
  where
    here : (c : Content) → (symbol_at state n).content ≡ c → alias_target n c ≡ n → members_of state n ≡ members_in (symbol_at state n).content
    here c is own = ap (λ (m : ℕ). members_in (symbol_at state m).content) (ap (alias_target n) is ∙ own)

    by : (c : Content) → (symbol_at state n).content ≡ c → is_alias c ≡ false → members_of state n ≡ members_in (symbol_at state n).content
    by undeclared is e = here undeclared is refl
    by (alias_of base) is e = absurd cc
    by (set_of members) is e = here (set_of members) is refl
    by (parameter_of entries) is e = here (parameter_of entries) is refl
    by (variable_of t entries) is e = here (variable_of t entries) is refl
    by (equation_of entries) is e = here (equation_of entries) is refl
    by (model_with m s) is e = here (model_with m s) is refl

-- ---- all names

-- the sets that a program assigns, as they are marked
abbrev pub marks_of : Program Frac → List Bool
marks_of program = with_marks (replicate (length program.names) false) (dynamic_sets program)

-- a name of a program is marked where it is assigned
marked-is : (program : Program Frac) (n : ℕ) → n < length program.names → marked (marks_of program) n ≡ is_among (dynamic_sets program) n
marked-is program n below =
    (occurs-first frac_value program).dynamic n ∙ ap (λ (b : Bool). b && is_among (dynamic_sets program) n) (lt-ltb n (length program.names) below)

module _ (program : Program Frac) (state first : State) (marks : List Bool) (labels : ℕ) (names : ℕ) (solver : List ℕ) (declares : declared_symbols state ≡ declared_symbols (declared_state program)) (first_is : first ≡ loaded frac_value program) (marks_are : marks ≡ marks_of program) (labels_are : labels ≡ length program.labels) (names_are : names ≡ length program.names) where
  -- the data declare what the state does
  pub same-declares : declared_symbols state ≡ declared_symbols first
  same-declares = declares ∙ sym (loaded-declares frac_value program) ∙ sym (ap declared_symbols first_is)

  state-past : (n : ℕ) → length program.names ≤ n → symbol_at state n ≡ no_symbol
  state-past n past = nothing-past state n (let size = ap length declares ∙ declared-count program in omega (arith, size, past))

  first-past : (n : ℕ) → length program.names ≤ n → symbol_at (loaded frac_value program) n ≡ no_symbol
  first-past n past =
      nothing-past (loaded frac_value program) n (let size = ap length (loaded-declares frac_value program) ∙ declared-count program in omega (arith, size, past))

  -- what a saved state has at each name
  module _ (all : (n : ℕ) → n < names → IsSavedAt labels (marked marks) first state n) where
    at-name : (n : ℕ) → n < length program.names → IsSavedAt labels (marked marks) first state n
    at-name n below = all n (omega (arith, names_are, below))

    given-at : (n : ℕ) → IsGivenWell frac_limit (length program.labels) state (symbol_at state n)
    given-at n = by (nat_lt n (length program.names)) refl
      where
        by : (b : Bool) → nat_lt n (length program.names) ≡ b → IsGivenWell frac_limit (length program.labels) state (symbol_at state n)
        by true e = subst (λ (count : ℕ). IsGivenWell frac_limit count state (symbol_at state n)) labels_are (at-name n (ltb-true n (length program.names) e)).given
        by false e =
            let past : length program.names ≤ n = grind (arith, nat_tests) in
            subst (IsGivenWell frac_limit (length program.labels) state) (sym (state-past n past)) (none-well frac_limit (length program.labels) state)

    static-at : (n : ℕ) → is_among (dynamic_sets program) n ≡ false → members_in (symbol_at state n).content ≡ members_in (symbol_at (loaded frac_value program) n).content
    static-at n fixed = by (nat_lt n (length program.names)) refl
      where
        by : (b : Bool) → nat_lt n (length program.names) ≡ b → members_in (symbol_at state n).content ≡ members_in (symbol_at (loaded frac_value program) n).content
        by true e =
            let below = ltb-true n (length program.names) e in
            (at-name n below).static (ap (λ (ms : List Bool). marked ms n) marks_are ∙ marked-is program n below ∙ fixed) ∙ ap (λ (s : State). members_in (symbol_at s n).content) first_is
        by false e =
            let past : length program.names ≤ n = grind (arith, nat_tests) in
            ap (λ (s : Symbol). members_in s.content) (state-past n past ∙ sym (first-past n past))

    pub saved-from-names : are_in_range state.settings ≡ true → is_solver_name solver ≡ true → IsSavedIn program state solver
    saved-from-names ranges named = record { declares = declares; given = given-at; static = static-at; ranges = ranges; named = named }

  -- and the other way round
  pub names-from-saved : IsSavedIn program state solver → (n : ℕ) → n < names → IsSavedAt labels (marked marks) first state n
  names-from-saved saved n within =
      let below : n < length program.names = omega (arith, names_are, within) in
      record {
        given = subst (λ (count : ℕ). IsGivenWell frac_limit count state (symbol_at state n)) (sym labels_are) (saved.given n);
        static = λ fixed. saved.static n (sym (ap (λ (ms : List Bool). marked ms n) marks_are ∙ marked-is program n below) ∙ fixed) ∙ ap (λ (s : State). members_in (symbol_at s n).content) (sym first_is);
      }

-- ---- settings

module _ (labels : ℕ) (state : State) (settings : Settings) where
  occurs-settled : (domain : List (Option ℕ)) (tuple : List ℕ) → fits_domain labels state domain tuple ≡ fits_domain labels (with_settings state settings) domain tuple
  occurs-settled [] [] = refl
  occurs-settled [] (label ∷ tuple) = refl
  occurs-settled (set ∷ domain) [] = refl
  occurs-settled (None ∷ domain) (label ∷ tuple) = ap (λ (b : Bool). nat_lt label labels && b) (occurs-settled domain tuple)
  occurs-settled (Some set ∷ domain) (label ∷ tuple) =
      ap (λ (b : Bool). nat_lt label labels && (has (members_of state set) (label ∷ []) && b)) (occurs-settled domain tuple)

  given-settled : (limit : ℕ) (symbol : Symbol) → IsGivenWell limit labels state symbol → IsGivenWell limit labels (with_settings state settings) symbol
  given-settled limit symbol well = record {
    ordered = well.ordered;
    few = well.few;
    occur = All-weaker (λ t. fits_domain labels state symbol.domain t ≡ true) (λ t. fits_domain labels (with_settings state settings) symbol.domain t ≡ true) (λ t e. sym (occurs-settled symbol.domain t) ∙ e) (given_in symbol.content) well.occur;
    fit = well.fit;
    differs = well.differs;
    statuses = well.statuses;
  }

-- a saved state is one with other settings in their ranges
saved-settled : (program : Program Frac) (state : State) (settings : Settings) (solver : List ℕ) → are_in_range settings ≡ true → IsSavedIn program state solver → IsSavedIn program (with_settings state settings) solver
saved-settled program state settings solver ranges saved = record {
  declares = saved.declares;
  given = λ n. given-settled (length program.labels) state settings frac_limit (symbol_at state n) (saved.given n);
  static = saved.static;
  ranges = ranges;
  named = saved.named;
}

-- and one with the solver of any place
pub saved-placed : (program : Program Frac) (state : State) (place : ℕ) (solver : List ℕ) → IsSavedIn program state solver → IsSavedIn program (with_solver state place) solver
saved-placed program state place solver saved =
    saved-settled program state (with_solver state place).settings solver saved.ranges saved

parts-settled : (state : State) (settings : Settings) (n : ℕ) (names : List (List ℕ)) → parts_from (with_settings state settings) n names ≡ parts_from state n names
parts-settled state settings n [] = refl
parts-settled state settings n (name ∷ names) = ap (λ (text : List ℕ). part name (symbol_at state n).content ++ text) (parts-settled state settings (n + 1) names)

-- the text of a state says nothing of the place of its solver
pub text-placed : (names : List (List ℕ)) (state : State) (place : ℕ) (solver : List ℕ) → state_text names (with_solver state place) solver ≡ state_text names state solver
text-placed names state place solver =
    ap (λ (parts : List ℕ). settings_line state.settings solver ++ (parts ++ saved_line (codes "end"))) (parts-settled state (with_solver state place).settings 0 names)
