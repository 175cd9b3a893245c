-- Data of names stay in their domains: after an assignment, an answer, and options.
use Rattle.std.proofs.Common.{◌≡◌, ℕ, Bool, true, false, ◌==◌, cond, List, [], ◌∷◌, length, refl, sym, ◌∙◌, subst, inl, inr}
use Rattle.std.specs.List.{fold}
use Rattle.gq_number.specs.Number.{Number}
use Rattle.gms_ast.specs.declared.expression.Suffix.{Suffix}
use Rattle.gms_ast.specs.declared.program.Setting.{Setting}
use Rattle.gms_ast.specs.declared.word.Word.{Word}
use Rattle.gms_tuple.specs.TupleSet.{has}
use Rattle.gms_store.specs.State.{State, Content, undeclared, alias_of, set_of, parameter_of, variable_of, equation_of, model_with, Symbol, symbol_at, symbol_of, alias_target, base_of, given_in, with_symbol, with_content, if_fits, with_attributes, with_statuses, with_settings, attributes_of, with_level, with_marginal}
use Rattle.lp_core.specs.declared.answer.End.{End}
use Rattle.lp_core.specs.declared.program.Lp.{Lp}
use Rattle.gms_exec.specs.Given.{AllGiven, with_given, fitting, after_given}
use Rattle.gms_exec.specs.Options.{after_options}
use Rattle.gms_exec.specs.Solved.{Point, with_point, statuses_of, points_of, after_end}
use Rattle.gms_exec.proofs.Levels.{following-fitted, fits-either}
use Rattle.gms_exec.proofs.Symbols.{at-after, base-after}
use Rattle.gms_run_laws.proofs.Points.{ArePut, end-put}
use Rattle.gms_run_laws.proofs.RowElements.{IsOver}
use Rattle.gms_run_laws.proofs.LastStates.{Lasts, MayBe, lasts-given, lasts-end, lasts-options}
use Rattle.gms_restart.proofs.Fitting.{Context}
use Rattle.gms_restart.proofs.Homes.{occurs_few}
use Rattle.gms_restart.proofs.Passing.{occurs_key}
use Rattle.gms_restart.proofs.Writing.{AreGiven, given-has, put-has, statuses-has}

following-statuses : (content : Content) (model solver n : ℕ) → alias_target n (with_statuses content model solver) ≡ alias_target n content
following-statuses undeclared model solver n = refl
following-statuses (alias_of base) model solver n = refl
following-statuses (set_of members) model solver n = refl
following-statuses (parameter_of entries) model solver n = refl
following-statuses (variable_of type entries) model solver n = refl
following-statuses (equation_of entries) model solver n = refl
following-statuses (model_with m s) model solver n = refl

module _ (count : ℕ) (first : State) (assigned : ℕ → Bool) where
  -- a tuple is in the domain that a name has at first
  abbrev Occur : ℕ → List ℕ → Type 0
  Occur n t = occurs_few count first (symbol_at first n).domain t ≡ true

  -- all that is given does
  abbrev AllOccur : State → Type 0
  AllOccur state = (n : ℕ) (t : List ℕ) → has (given_in (symbol_at state n).content) t ≡ true → Occur n t

  -- What each state of the run keeps.
  pub record Kept (state : State) : Type 0 where
    pub lasts : Lasts first assigned state
    pub occur : AllOccur state

  pub context-of : (state : State) → Kept state → Context count first assigned state
  context-of state kept = record { stays = kept.lasts.stays; occur = kept.occur; static = kept.lasts.later.static }

  -- ---- one name changed

  occur-with : (s : State) (name : ℕ) (new : Symbol) → ((t : List ℕ) → has (given_in new.content) t ≡ true → Occur (base_of s name) t) → AllOccur s → AllOccur (with_symbol s name new)
  occur-with s name new own old n t there = elim (at-after s name new n) [
    | inl same ↦ old n t (subst (λ (x : Symbol). has (given_in x.content) t ≡ true) same there)
    | inr changed ↦ subst (λ m. Occur m t) (sym changed.0) (own t (subst (λ (x : Symbol). has (given_in x.content) t ≡ true) changed.1 there))
  ]

  -- ---- an assignment

  fitting-are : (P : List ℕ → Type 0) (symbol : Symbol) (all : AllGiven) → AreGiven P all → AreGiven P (fitting symbol all)
  fitting-are P symbol [] are = tt
  fitting-are P symbol (given ∷ all) are = by (length given.0 == length symbol.domain) (fitting-are P symbol all are.1)
    where
      by : (b : Bool) → AreGiven P (fitting symbol all) → AreGiven P (cond b (given ∷ fitting symbol all) (fitting symbol all))
      by true rest = (are.0, rest)
      by false rest = rest

  pub kept-given : (s : State) (kind : Suffix) (name : ℕ) (all : AllGiven) → MayBe first assigned name → AreGiven (λ t. occurs_key count first (record { symbol = name; tuple = t }) ≡ true) all → Kept s → Kept (after_given kind name all s)
  kept-given s kind name all may are kept =
      let symbol = symbol_of s name in
      let base : base_of s name ≡ base_of first name = (kept.lasts.stays name).alike name in
      let own : AreGiven (Occur (base_of s name)) all = subst (λ m. AreGiven (Occur m) all) (sym base) are in
      record {
        lasts = lasts-given first assigned s kind name all may kept.lasts;
        occur = occur-with s name (with_content symbol (with_given kind (fitting symbol all) symbol.content)) (given-has (Occur (base_of s name)) kind (fitting symbol all) symbol.content (fitting-are (Occur (base_of s name)) symbol all own) (kept.occur (base_of s name))) kept.occur;
      }

  -- ---- an answer

  -- names stand for what they stood for at first
  abbrev Based : State → Type 0
  Based s = (n : ℕ) → base_of s n ≡ base_of first n

  points-occur : (points : List Point) (s : State) → ArePut (occurs_key count first) points → Based s → AllOccur s → AllOccur (fold with_point s points)
  points-occur [] s are based all = all
  points-occur (point ∷ points) s are based all =
      let name = point.key.symbol in
      let t = point.key.tuple in
      let a = with_marginal (with_level (attributes_of s name t) point.level) point.marginal in
      let symbol = symbol_of s name in
      let new = if_fits symbol t (with_attributes symbol.content t a) in
      let own : Occur (base_of s name) t = subst (λ m. Occur m t) (sym (based name)) are.0 in
      let P : Content → Type 0 = λ content. (u : List ℕ) → has (given_in content) u ≡ true → Occur (base_of s name) u in
      points-occur points (with_point s point) are.1 (λ n. base-after s name new (λ m. following-fitted symbol t a m) n ∙ based n)
      (occur-with s name new (fits-either P symbol t (with_attributes symbol.content t a) (all (base_of s name)) (put-has (Occur (base_of s name)) t a symbol.content own (all (base_of s name)))) all)

  pub kept-end : (s : State) (model : ℕ) (lp : Lp Number) (end : End Number) → IsOver (occurs_key count first) lp → Kept s → Kept (after_end s model lp end)
  kept-end s model lp end over kept =
      let symbol = symbol_of s model in
      let statuses = statuses_of end in
      let new = with_content symbol (with_statuses symbol.content statuses.0 statuses.1) in
      record {
        lasts = lasts-end first assigned s model lp end kept.lasts;
        occur = points-occur (points_of lp end) (with_symbol s model new) (end-put (occurs_key count first) lp over end) (λ n. base-after s model new (λ m. following-statuses symbol.content statuses.0 statuses.1 m) n ∙ (kept.lasts.stays n).alike n)
            (occur-with s model new (statuses-has (Occur (base_of s model)) statuses.0 statuses.1 symbol.content (kept.occur (base_of s model))) kept.occur);
      }

  -- ---- options

  pub kept-options : {F : Type 0} (v : F → Number) (solvers : List (List ℕ)) (s : State) (options : List (Word × Setting F)) → Kept s → Kept (with_settings s (after_options v solvers s.settings options))
  kept-options v solvers s options kept = record { lasts = lasts-options first assigned v solvers s options kept.lasts; occur = kept.occur }
