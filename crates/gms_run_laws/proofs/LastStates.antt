-- Each state of a run declares what the first did, keeps its data tidy, leaves alone the sets that
-- are not assigned, and has settings in range.
use Rattle.std.proofs.Common.{◌≡◌, ℕ, Bool, true, false, ◌&&◌, ◌==◌, cond, if◌then◌else◌, List, [], ◌∷◌, length, pos, negsuc, ℤ, refl, sym, ap, ◌∙◌, subst, inl, inr}
use Rattle.std.specs.Prelude.{nat_le, codes}
use Rattle.std.specs.List.{fold}
use Rattle.std.proofs.Math.Seq.{map-set_same}
use Rattle.std.proofs.lemmas.Bool.{both_ways, and_from, and_parts}
use Rattle.gq_number.specs.Number.{Number}
use Rattle.gms_ast.specs.declared.expression.Suffix.{Suffix}
use Rattle.gms_ast.specs.declared.program.Setting.{Setting}
use Rattle.gms_ast.specs.declared.program.Setting.TheVariants as setting
use Rattle.gms_ast.specs.declared.word.Word.{Word}
use Rattle.gms_store.specs.declared.settings.Settings.{Settings}
use Rattle.gms_store.specs.State.{State, Attributes, Content, undeclared, alias_of, set_of, parameter_of, variable_of, equation_of, model_with, Symbol, no_symbol, symbol_at, symbol_of, base_of, members_in, with_symbol, with_content, if_fits, with_attributes, with_statuses, with_settings, after_attributes, after_statuses}
use Rattle.gms_check.proofs.Outlines.{read-at}
use Rattle.gms_save_text.specs.Validity.{emptied, declared_symbols, are_statuses, are_in_range}
use Rattle.lp_core.specs.declared.answer.End.{End}
use Rattle.gms_store.specs.declared.status.SolveStatus.{SolveStatus}
use Rattle.gms_store.specs.declared.status.SolveStatus.TheVariants as status
use Rattle.gms_store.specs.Statuses.{model_number, solver_number}
use Rattle.gms_event.specs.Endings.{solve_status}
use Rattle.lp_core.specs.declared.program.Lp.{Lp}
use Rattle.gms_exec.specs.Given.{AllGiven, with_given, fitting, after_given}
use Rattle.gms_exec.specs.Options.{is_same_word, whole_magnitude, is_from_zero, is_count, count_set, after_option, after_options}
use Rattle.gms_exec.specs.Solved.{Point, with_point, statuses_of, points_of, after_end}
use Rattle.gms_exec.proofs.Levels.{fits-either}
use Rattle.gms_exec.proofs.Staying.{Stays, stays-itself, stays-both, stays-given, stays-end, members-put, members-statuses}
use Rattle.gms_exec.proofs.Symbols.{at-after}
use Rattle.gms_run_laws.specs.LastStates.{IsTidy, IsLater}
use Rattle.gms_run_laws.proofs.Tidying.{tidy-given, tidy-put, tidy-statuses}

-- ---- one name changed

-- a symbol of which nothing is given
abbrev blanked : Symbol → Symbol
blanked symbol = with_content symbol (emptied symbol.content)

-- every name is tidy
abbrev pub AreTidy : State → Type 0
AreTidy state = (n : ℕ) → IsTidy (symbol_at state n)

module _ (state : State) (name : ℕ) (new : Symbol) where
  tidy-with : IsTidy new → AreTidy state → AreTidy (with_symbol state name new)
  tidy-with tidy all n = elim (at-after state name new n) [
    | inl same ↦ subst IsTidy (sym same) (all n)
    | inr changed ↦ subst IsTidy (sym changed.1) tidy
  ]

  declares-with : blanked new ≡ blanked (symbol_of state name) → declared_symbols (with_symbol state name new) ≡ declared_symbols state
  declares-with same =
      map-set_same blanked state.symbols (base_of state name) new no_symbol (same ∙ ap blanked (read-at state.symbols (base_of state name)))

  members-with : members_in new.content ≡ members_in (symbol_of state name).content → (n : ℕ) → members_in (symbol_at (with_symbol state name new) n).content ≡ members_in (symbol_at state n).content
  members-with same n = elim (at-after state name new n) [
    | inl still ↦ ap (λ (s : Symbol). members_in s.content) still
    | inr changed ↦ ap (λ (s : Symbol). members_in s.content) changed.1 ∙ same ∙ ap (λ m. members_in (symbol_at state m).content) (sym changed.0)
  ]

  -- another name than the one that changed
  members-other : (n : ℕ) → (n ≡ base_of state name → ⊥) → members_in (symbol_at (with_symbol state name new) n).content ≡ members_in (symbol_at state n).content
  members-other n other = elim (at-after state name new n) [
    | inl still ↦ ap (λ (s : Symbol). members_in s.content) still
    | inr changed ↦ absurd (other changed.0)
  ]

-- ---- contents of the same declaration

blank-given : (kind : Suffix) (all : AllGiven) (content : Content) → emptied (with_given kind all content) ≡ emptied content
blank-given kind all undeclared = refl
blank-given kind all (alias_of base) = refl
blank-given kind all (set_of members) = refl
blank-given kind all (parameter_of entries) = refl
blank-given kind all (variable_of type entries) = refl
blank-given kind all (equation_of entries) = refl
blank-given kind all (model_with m s) = refl

blank-put : (content : Content) (t : List ℕ) (a : Attributes) → emptied (with_attributes content t a) ≡ emptied content
blank-put undeclared t a = refl
blank-put (alias_of base) t a = refl
blank-put (set_of members) t a = refl
blank-put (parameter_of entries) t a = refl
blank-put (variable_of type entries) t a = refl
blank-put (equation_of entries) t a = refl
blank-put (model_with m s) t a = refl

blank-statuses : (content : Content) (model solver : ℕ) → emptied (with_statuses content model solver) ≡ emptied content
blank-statuses undeclared model solver = refl
blank-statuses (alias_of base) model solver = refl
blank-statuses (set_of members) model solver = refl
blank-statuses (parameter_of entries) model solver = refl
blank-statuses (variable_of type entries) model solver = refl
blank-statuses (equation_of entries) model solver = refl
blank-statuses (model_with m s) model solver = refl

blank-content : (symbol : Symbol) (content : Content) → emptied content ≡ emptied symbol.content → blanked (with_content symbol content) ≡ blanked symbol
blank-content symbol content same = ap (λ (c : Content). with_content symbol c) same

blank-fitted : (symbol : Symbol) (t : List ℕ) (content : Content) → emptied content ≡ emptied symbol.content → blanked (if_fits symbol t content) ≡ blanked symbol
blank-fitted symbol t content same = by (length t == length symbol.domain)
  where
    by : (b : Bool) → blanked (cond b (with_content symbol content) symbol) ≡ blanked symbol
    by true = blank-content symbol content same
    by false = refl

-- ---- settings

record AreWithin (s : Settings) : Type 0 where
  limrow : nat_le s.limrow 2147483647 ≡ true
  limcol : nat_le s.limcol 2147483647 ≡ true
  iterlim : nat_le s.iterlim 2147483647 ≡ true
  decimals : nat_le s.decimals 8 ≡ true

within-range : (s : Settings) → are_in_range s ≡ true → AreWithin s
within-range s e =
    let one = and_parts (nat_le s.limrow 2147483647) (nat_le s.limcol 2147483647 && (nat_le s.iterlim 2147483647 && nat_le s.decimals 8)) e in
    let two = and_parts (nat_le s.limcol 2147483647) (nat_le s.iterlim 2147483647 && nat_le s.decimals 8) one.1 in
    let three = and_parts (nat_le s.iterlim 2147483647) (nat_le s.decimals 8) two.1 in
    record { limrow = one.0; limcol = two.0; iterlim = three.0; decimals = three.1 }

range-within : (s : Settings) → AreWithin s → are_in_range s ≡ true
range-within s w =
    and_from (nat_le s.limrow 2147483647) (nat_le s.limcol 2147483647 && (nat_le s.iterlim 2147483647 && nat_le s.decimals 8)) w.limrow
    (and_from (nat_le s.limcol 2147483647) (nat_le s.iterlim 2147483647 && nat_le s.decimals 8) w.limcol
    (and_from (nat_le s.iterlim 2147483647) (nat_le s.decimals 8) w.iterlim w.decimals))

either-way : {A : Type 0} (P : A → Type 0) (b : Bool) (x y : A) → P x → P y → P (if b then x else y)
either-way P true x y p q = p
either-way P false x y p q = q

module _ {F : Type 0} (v : F → Number) where
  size-within : (most : ℕ) (n : ℤ) → is_from_zero most n ≡ true → nat_le (whole_magnitude n) most ≡ true
  size-within most (pos n) e = e
  size-within most (negsuc n) e = absurd (cc)

  count-within : (most old : ℕ) (set : Setting F) → nat_le old most ≡ true → nat_le (count_set v most old set) most ≡ true
  count-within most old (setting.Name word) within = within
  count-within most old (setting.Number at x) within = by (is_count most (v x)) refl
    where
      by : (b : Bool) → is_count most (v x) ≡ b → nat_le (cond b (whole_magnitude (v x).numerator) old) most ≡ true
      by true e = size-within most (v x).numerator (and_parts ((v x).denominator == 1) (is_from_zero most (v x).numerator) e).1
      by false e = within

  within-option : (solvers : List (List ℕ)) (s : Settings) (word : Word) (set : Setting F) → AreWithin s → AreWithin (after_option v solvers s (word, set))
  within-option solvers s word set w =
      either-way AreWithin (is_same_word (codes "limrow") word.text) _ _ (record { limrow = count-within 2147483647 s.limrow set w.limrow; limcol = w.limcol; iterlim = w.iterlim; decimals = w.decimals })
      (either-way AreWithin (is_same_word (codes "limcol") word.text) _ _ (record { limrow = w.limrow; limcol = count-within 2147483647 s.limcol set w.limcol; iterlim = w.iterlim; decimals = w.decimals })
      (either-way AreWithin (is_same_word (codes "iterlim") word.text) _ _ (record { limrow = w.limrow; limcol = w.limcol; iterlim = count-within 2147483647 s.iterlim set w.iterlim; decimals = w.decimals })
      (either-way AreWithin (is_same_word (codes "decimals") word.text) _ _ (record { limrow = w.limrow; limcol = w.limcol; iterlim = w.iterlim; decimals = count-within 8 s.decimals set w.decimals })
      (either-way AreWithin (is_same_word (codes "solprint") word.text) _ _ (record { limrow = w.limrow; limcol = w.limcol; iterlim = w.iterlim; decimals = w.decimals })
      (either-way AreWithin (is_same_word (codes "lp") word.text) _ _ (record { limrow = w.limrow; limcol = w.limcol; iterlim = w.iterlim; decimals = w.decimals }) w)))))

  within-options : (solvers : List (List ℕ)) (options : List (Word × Setting F)) (s : Settings) → AreWithin s → AreWithin (after_options v solvers s options)
  within-options solvers [] s w = w
  within-options solvers (option ∷ options) s w =
      within-options solvers options (after_option v solvers s option) (within-option solvers s option.0 option.1 w)

-- ---- each step of a run

each-listed : (status : SolveStatus) → are_statuses (model_number status) (solver_number status) ≡ true
each-listed status.Unsolved = refl
each-listed status.Optimal = refl
each-listed status.Unbounded = refl
each-listed status.Infeasible = refl
each-listed status.Intermediate = refl
each-listed status.Feasible = refl
each-listed status.Unanswered = refl

statuses-listed : (end : End Number) → are_statuses (statuses_of end).0 (statuses_of end).1 ≡ true
statuses-listed end = each-listed (solve_status end)

module _ (first : State) (is_assigned : ℕ → Bool) where
  -- What is kept of the first state.
  pub record Lasts (state : State) : Type 0 where
    pub stays : Stays first state
    pub later : IsLater first is_assigned state

  -- names that may be assigned
  abbrev pub MayBe : ℕ → Type 0
  MayBe name = is_assigned (base_of first name) ≡ true

  pub lasts-given : (s : State) (kind : Suffix) (name : ℕ) (all : AllGiven) → MayBe name → Lasts s → Lasts (after_given kind name all s)
  lasts-given s kind name all may lasts =
      let symbol = symbol_of s name in
      let new = with_content symbol (with_given kind (fitting symbol all) symbol.content) in
      record {
        stays = stays-both first s (after_given kind name all s) lasts.stays (stays-given kind name all s);
        later = record {
          declares = declares-with s name new (blank-content symbol (with_given kind (fitting symbol all) symbol.content) (blank-given kind (fitting symbol all) symbol.content)) ∙ lasts.later.declares;
          given = tidy-with s name new (tidy-given symbol kind all (lasts.later.given (base_of s name))) lasts.later.given;
          static = λ n none. members-other s name new n (λ same. both_ways (is_assigned n) none (ap is_assigned (same ∙ (lasts.stays name).alike name) ∙ may)) ∙ lasts.later.static n none;
          ranges = lasts.later.ranges;
        };
      }

  put-later : (s : State) (name : ℕ) (t : List ℕ) (a : Attributes) → IsLater first is_assigned s → IsLater first is_assigned (after_attributes s name t a)
  put-later s name t a later =
      let symbol = symbol_of s name in
      let content = with_attributes symbol.content t a in
      let new = if_fits symbol t content in
      record {
        declares = declares-with s name new (blank-fitted symbol t content (blank-put symbol.content t a)) ∙ later.declares;
        given = tidy-with s name new (tidy-put symbol t a (later.given (base_of s name))) later.given;
        static = λ n none. members-with s name new (fits-either (λ c. members_in c ≡ members_in symbol.content) symbol t content refl (members-put symbol.content t a)) n ∙ later.static n none;
        ranges = later.ranges;
      }

  points-later : (points : List Point) (s : State) → IsLater first is_assigned s → IsLater first is_assigned (fold with_point s points)
  points-later [] s later = later
  points-later (point ∷ points) s later =
      points-later points (with_point s point) (put-later s point.key.symbol point.key.tuple _ later)

  statuses-later : (s : State) (name model solver : ℕ) → are_statuses model solver ≡ true → IsLater first is_assigned s → IsLater first is_assigned (after_statuses s name model solver)
  statuses-later s name model solver are later =
      let symbol = symbol_of s name in
      let content = with_statuses symbol.content model solver in
      let new = with_content symbol content in
      record {
        declares = declares-with s name new (blank-content symbol content (blank-statuses symbol.content model solver)) ∙ later.declares;
        given = tidy-with s name new (tidy-statuses symbol model solver are (later.given (base_of s name))) later.given;
        static = λ n none. members-with s name new (members-statuses symbol.content model solver) n ∙ later.static n none;
        ranges = later.ranges;
      }

  pub lasts-end : (s : State) (model : ℕ) (lp : Lp Number) (end : End Number) → Lasts s → Lasts (after_end s model lp end)
  lasts-end s model lp end lasts = record {
    stays = stays-both first s (after_end s model lp end) lasts.stays (stays-end s model lp end);
    later = points-later (points_of lp end) (after_statuses s model (statuses_of end).0 (statuses_of end).1) (statuses-later s model (statuses_of end).0 (statuses_of end).1 (statuses-listed end) lasts.later);
  }

  pub lasts-options : {F : Type 0} (v : F → Number) (solvers : List (List ℕ)) (s : State) (options : List (Word × Setting F)) → Lasts s → Lasts (with_settings s (after_options v solvers s.settings options))
  lasts-options v solvers s options lasts =
      let new = after_options v solvers s.settings options in
      record {
        stays = stays-both first s (with_settings s new) lasts.stays (λ n. stays-itself s n);
        later = record {
          declares = lasts.later.declares;
          given = lasts.later.given;
          static = lasts.later.static;
          ranges = range-within new (within-options v solvers options s.settings (within-range s.settings lasts.later.ranges));
        };
      }

  pub lasts-first : AreTidy first → are_in_range first.settings ≡ true → Lasts first
  lasts-first tidy ranges = record {
    stays = stays-itself first;
    later = record { declares = refl; given = tidy; static = λ n none. refl; ranges = ranges };
  }
