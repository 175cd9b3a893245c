-- States of which one has all that the other declares stay so where one name changes in both.
use Rattle.std.proofs.Common.{◌≡◌, ℕ, zero, suc, ◌<◌, ◌≤◌, Bool, true, false, not, ◌==◌, cond, List, [], ◌∷◌, length, set, slice_get, Option, unwrap_or, refl, sym, ap, ap₂, ◌∙◌, subst, inl, inr, arith}
use Rattle.std.specs.List.{fold}
use Rattle.std.proofs.lemmas.Bool.{both_ways, cases_lt, eqb-true, eq-eqb, not-false, not-true}
use Rattle.std.proofs.lemmas.List.{length-set}
use Rattle.std.proofs.lemmas.Option.{slice_get_past}
use Rattle.gq_number.specs.Number.{Number}
use Rattle.gms_ast.specs.declared.expression.Suffix.{Suffix}
use Rattle.gms_store.specs.declared.settings.Settings.{Settings}
use Rattle.gms_store.specs.Declarations.{is_undeclared}
use Rattle.gms_store.specs.Overlays.{chosen, overlaid_symbols, overlaid}
use Rattle.gms_store.specs.State.{State, Attributes, Content, undeclared, alias_of, set_of, parameter_of, variable_of, equation_of, model_with, Symbol, no_symbol, symbol_at, alias_target, base_of, symbol_of, with_symbol, with_content, if_fits, with_attributes, with_statuses, attributes_in, with_level, with_marginal, after_statuses, with_settings}
use Rattle.lp_core.specs.declared.answer.End.{End}
use Rattle.lp_core.specs.declared.program.Lp.{Lp}
use Rattle.gms_exec.specs.Given.{AllGiven, with_given, fitting, after_given}
use Rattle.gms_exec.specs.Solved.{Point, with_point, statuses_of, points_of, after_end}
use Rattle.gms_exec.proofs.Assigned.{following-given}
use Rattle.gms_exec.proofs.Levels.{following-fitted}
use Rattle.gms_exec.proofs.Symbols.{at-after}
use Rattle.gms_run_laws.specs.Agreeing.{AgreeOn, declares, IsClosed, HasAll}
use Rattle.gms_run_laws.proofs.FormKeys.{of_name}
use Rattle.gms_run_laws.proofs.Points.{ArePut, end-put}
use Rattle.gms_run_laws.proofs.RowElements.{IsOver}

-- ---- lists of symbols

-- the symbol of a number; without one, the empty symbol
abbrev pub read : List Symbol → ℕ → Symbol
read symbols n = unwrap_or (slice_get symbols n) no_symbol

set-here : (xs : List Symbol) (i : ℕ) (s : Symbol) → i < length xs → read (set xs i s) i ≡ s
set-here [] i s within = absurd (omega arith)
set-here (x ∷ xs) zero s within = refl
set-here (x ∷ xs) (suc i) s within = set-here xs i s (omega arith)

pub over-at : (xs ys : List Symbol) (n : ℕ) → length ys ≤ length xs → read (overlaid_symbols xs ys) n ≡ chosen (read xs n) (read ys n)
over-at [] [] n many = refl
over-at [] (y ∷ ys) n many = absurd (omega arith)
over-at (x ∷ xs) [] n many = refl
over-at (x ∷ xs) (y ∷ ys) zero many = refl
over-at (x ∷ xs) (y ∷ ys) (suc n) many = over-at xs ys n (omega arith)

pub over-length : (xs ys : List Symbol) → length (overlaid_symbols xs ys) ≡ length xs
over-length [] ys = refl
over-length (x ∷ xs) [] = refl
over-length (x ∷ xs) (y ∷ ys) = ap suc (over-length xs ys)

pub same-lists : (xs ys : List Symbol) → length xs ≡ length ys → ((n : ℕ) → read xs n ≡ read ys n) → xs ≡ ys
same-lists [] [] many same = refl
same-lists [] (y ∷ ys) many same = absurd (omega arith)
same-lists (x ∷ xs) [] many same = absurd (omega arith)
same-lists (x ∷ xs) (y ∷ ys) many same =
    ap₂ (λ (s : Symbol) (ss : List Symbol). s ∷ ss) (same zero) (same-lists xs ys (omega arith) (λ n. same (suc n)))

-- ---- what is declared

pub within : (state : State) (n : ℕ) → declares state n ≡ true → n < length state.symbols
within state n is = elim (cases_lt n (length state.symbols)) [
  | inl below ↦ below
  | inr past ↦ absurd (let e : ◌≡◌ {A = Bool} false true = sym (ap (λ (o : Option Symbol). not (is_undeclared (unwrap_or o no_symbol).content)) (slice_get_past state.symbols n past)) ∙ is in let z : ⊥ = cc in z)
]

pub chosen-declared : (x y : Symbol) → is_undeclared y.content ≡ false → chosen x y ≡ y
chosen-declared x y is = ap (λ (b : Bool). cond b x y) is

pub chosen-undeclared : (x y : Symbol) → is_undeclared y.content ≡ true → chosen x y ≡ x
chosen-undeclared x y is = ap (λ (b : Bool). cond b x y) is

-- ---- one name changed

-- a change of another name leaves a name unchanged
elsewhere : (state : State) (name : ℕ) (new : Symbol) (n : ℕ) → (n ≡ base_of state name → ⊥) → symbol_at (with_symbol state name new) n ≡ symbol_at state n
elsewhere state name new n apart = elim (at-after state name new n) [
  | inl same ↦ same
  | inr changed ↦ absurd (apart changed.0)
]

-- What a change of a symbol keeps: whether it is declared, and the set that it stands for.
pub record IsChange (f : Symbol → Symbol) : Type 0 where
  pub declared : (s : Symbol) → is_undeclared (f s).content ≡ is_undeclared s.content
  pub alike : (s : Symbol) (m : ℕ) → alias_target m (f s).content ≡ alias_target m s.content

module _ (first base : State) where
  -- A state has the symbols of another for each name that the first state declares, and for every
  -- other name the symbol that it began with.
  pub record Over (a b : State) : Type 0 where
    pub same : (n : ℕ) → declares first n ≡ true → symbol_at b n ≡ symbol_at a n
    pub rest : (n : ℕ) → declares first n ≡ false → symbol_at b n ≡ symbol_at base n
    pub declared : (n : ℕ) → declares a n ≡ declares first n
    pub alike : (n m : ℕ) → alias_target m (symbol_at a n).content ≡ alias_target m (symbol_at first n).content
    pub settings : b.settings ≡ a.settings
    pub many : length b.symbols ≡ length base.symbols
    pub count : length a.symbols ≡ length first.symbols

  module _ (closed : IsClosed first) where
    module _ (a b : State) (over : Over a b) where
      base-declared : (n : ℕ) → declares first n ≡ true → declares first (base_of a n) ≡ true
      base-declared n is = ap (declares first) (over.alike n n) ∙ closed n is

      base-same : (n : ℕ) → declares first n ≡ true → base_of b n ≡ base_of a n
      base-same n is = ap (λ (s : Symbol). alias_target n s.content) (over.same n is)

      -- so they agree on what it declares
      pub over-agree : AgreeOn (declares first) a b
      over-agree = record {
        own = over.same;
        occurs = λ n is. ap (symbol_at b) (base-same n is) ∙ over.same (base_of a n) (base-declared n is);
      }

      module _ (name : ℕ) (is : declares first name ≡ true) (f : Symbol → Symbol) (change : IsChange f) where
        abbrev new_a : Symbol
        new_a = f (symbol_of a name)

        abbrev new_b : Symbol
        new_b = f (symbol_of b name)

        here-a : symbol_at (with_symbol a name new_a) (base_of a name) ≡ new_a
        here-a = set-here a.symbols (base_of a name) new_a (within a (base_of a name) (over.declared (base_of a name) ∙ base-declared name is))

        here-b : symbol_at (with_symbol b name new_b) (base_of b name) ≡ new_b
        here-b =
            set-here b.symbols (base_of b name) new_b (within b (base_of b name) (ap (λ (s : Symbol). not (is_undeclared s.content)) (over-agree.occurs name is) ∙ over.declared (base_of a name) ∙ base-declared name is))

        -- what a change of a symbol keeps is kept of each name
        kept : {X : Type 0} (what : ℕ → Symbol → X) → ((n : ℕ) (s : Symbol) → what n (f s) ≡ what n s) → (n : ℕ) → what n (symbol_at (with_symbol a name new_a) n) ≡ what n (symbol_at a n)
        kept what keeps n = elim (at-after a name new_a n) [
          | inl still ↦ ap (what n) still
          | inr changed ↦ ap (what n) changed.1 ∙ keeps n (symbol_of a name) ∙ ap (λ m. what n (symbol_at a m)) (sym changed.0)
        ]

        same-after : (n : ℕ) → declares first n ≡ true → symbol_at (with_symbol b name new_b) n ≡ symbol_at (with_symbol a name new_a) n
        same-after n there = by (n == base_of a name) refl
          where
            by : (c : Bool) → (n == base_of a name) ≡ c → symbol_at (with_symbol b name new_b) n ≡ symbol_at (with_symbol a name new_a) n
            by true e =
                let at : n ≡ base_of a name = eqb-true n (base_of a name) e in
                ap (symbol_at (with_symbol b name new_b)) (at ∙ sym (base-same name is))
                ∙ here-b
                ∙ ap f (over-agree.occurs name is)
                ∙ sym (ap (symbol_at (with_symbol a name new_a)) at ∙ here-a)
            by false e =
                let apart : n ≡ base_of a name → ⊥ = λ at. both_ways (n == base_of a name) e (eq-eqb n (base_of a name) at) in
                elsewhere b name new_b n (λ at. apart (at ∙ base-same name is)) ∙ over.same n there ∙ sym (elsewhere a name new_a n apart)

        -- and they stay so where a name that is declared changes in both alike
        pub over-change : Over (with_symbol a name new_a) (with_symbol b name new_b)
        over-change = record {
          same = same-after;
          rest = λ n none. elsewhere b name new_b n (λ at. both_ways (declares first n) none (ap (declares first) (at ∙ base-same name is) ∙ base-declared name is)) ∙ over.rest n none;
          declared = λ n. kept (λ m s. not (is_undeclared s.content)) (λ m s. ap not (change.declared s)) n ∙ over.declared n;
          alike = λ n m. kept (λ k s. alias_target m s.content) (λ k s. change.alike s m) n ∙ over.alike n m;
          settings = over.settings;
          many = length-set b.symbols (base_of b name) new_b ∙ over.many;
          count = length-set a.symbols (base_of a name) new_a ∙ over.count;
        }

    -- ---- what statements change

    undeclared-given : (kind : Suffix) (all : AllGiven) (content : Content) → is_undeclared (with_given kind all content) ≡ is_undeclared content
    undeclared-given kind all undeclared = refl
    undeclared-given kind all (alias_of base) = refl
    undeclared-given kind all (set_of members) = refl
    undeclared-given kind all (parameter_of entries) = refl
    undeclared-given kind all (variable_of type entries) = refl
    undeclared-given kind all (equation_of entries) = refl
    undeclared-given kind all (model_with m s) = refl

    pub over-given : (a b : State) (kind : Suffix) (name : ℕ) (all : AllGiven) → declares first name ≡ true → Over a b → Over (after_given kind name all a) (after_given kind name all b)
    over-given a b kind name all is over =
        over-change a b over name is (λ s. with_content s (with_given kind (fitting s all) s.content)) (record {
          declared = λ s. undeclared-given kind (fitting s all) s.content;
          alike = λ s m. following-given kind (fitting s all) s.content m;
        })

    undeclared-statuses : (content : Content) (model solver : ℕ) → is_undeclared (with_statuses content model solver) ≡ is_undeclared content
    undeclared-statuses undeclared model solver = refl
    undeclared-statuses (alias_of base) model solver = refl
    undeclared-statuses (set_of members) model solver = refl
    undeclared-statuses (parameter_of entries) model solver = refl
    undeclared-statuses (variable_of type entries) model solver = refl
    undeclared-statuses (equation_of entries) model solver = refl
    undeclared-statuses (model_with m s) model solver = refl

    following-statuses : (content : Content) (model solver m : ℕ) → alias_target m (with_statuses content model solver) ≡ alias_target m content
    following-statuses undeclared model solver m = refl
    following-statuses (alias_of base) model solver m = refl
    following-statuses (set_of members) model solver m = refl
    following-statuses (parameter_of entries) model solver m = refl
    following-statuses (variable_of type entries) model solver m = refl
    following-statuses (equation_of entries) model solver m = refl
    following-statuses (model_with k s) model solver m = refl

    over-statuses : (a b : State) (name model solver : ℕ) → declares first name ≡ true → Over a b → Over (after_statuses a name model solver) (after_statuses b name model solver)
    over-statuses a b name model solver is over =
        over-change a b over name is (λ s. with_content s (with_statuses s.content model solver)) (record {
          declared = λ s. undeclared-statuses s.content model solver;
          alike = λ s m. following-statuses s.content model solver m;
        })

    undeclared-put : (content : Content) (t : List ℕ) (x : Attributes) → is_undeclared (with_attributes content t x) ≡ is_undeclared content
    undeclared-put undeclared t x = refl
    undeclared-put (alias_of base) t x = refl
    undeclared-put (set_of members) t x = refl
    undeclared-put (parameter_of entries) t x = refl
    undeclared-put (variable_of type entries) t x = refl
    undeclared-put (equation_of entries) t x = refl
    undeclared-put (model_with m s) t x = refl

    undeclared-fitted : (s : Symbol) (t : List ℕ) (x : Attributes) → is_undeclared (if_fits s t (with_attributes s.content t x)).content ≡ is_undeclared s.content
    undeclared-fitted s t x = by (length t == length s.domain)
      where
        by : (b : Bool) → is_undeclared (cond b (with_content s (with_attributes s.content t x)) s).content ≡ is_undeclared s.content
        by true = undeclared-put s.content t x
        by false = refl

    -- a level and a marginal put at an element
    abbrev put : Point → Symbol → Symbol
    put point s =
        if_fits s point.key.tuple (with_attributes s.content point.key.tuple (with_marginal (with_level (attributes_in s.content point.key.tuple) point.level) point.marginal))

    put-change : (point : Point) → IsChange (put point)
    put-change point = record {
      declared = λ s. undeclared-fitted s point.key.tuple (with_marginal (with_level (attributes_in s.content point.key.tuple) point.level) point.marginal);
      alike = λ s m. following-fitted s point.key.tuple (with_marginal (with_level (attributes_in s.content point.key.tuple) point.level) point.marginal) m;
    }

    over-points : (those : List Point) → ArePut (of_name (declares first)) those → (a b : State) → Over a b → Over (fold with_point a those) (fold with_point b those)
    over-points [] all a b over = over
    over-points (point ∷ those) all a b over =
        over-points those all.1 (with_point a point) (with_point b point) (over-change a b over point.key.symbol all.0 (put point) (put-change point))

    pub over-end : (a b : State) (model : ℕ) (lp : Lp Number) (end : End Number) → declares first model ≡ true → IsOver (of_name (declares first)) lp → Over a b → Over (after_end a model lp end) (after_end b model lp end)
    over-end a b model lp end is keys over =
        over-points (points_of lp end) (end-put (of_name (declares first)) lp keys end) (after_statuses a model (statuses_of end).0 (statuses_of end).1) (after_statuses b model (statuses_of end).0 (statuses_of end).1) (over-statuses a b model (statuses_of end).0 (statuses_of end).1 is over)

    pub over-settings : (a b : State) (settings : Settings) → Over a b → Over (with_settings a settings) (with_settings b settings)
    over-settings a b settings over = record {
      same = over.same;
      rest = over.rest;
      declared = over.declared;
      alike = over.alike;
      settings = refl;
      many = over.many;
      count = over.count;
    }

  -- ---- where it begins, and how it ends

  pub over-first : HasAll base first → Over first base
  over-first has = record {
    same = λ n is. sym (ap (λ (s : State). symbol_at s n) has.same) ∙ over-at base.symbols first.symbols n has.many ∙ chosen-declared (symbol_at base n) (symbol_at first n) (not-true (is_undeclared (symbol_at first n).content) is);
    rest = λ n none. refl;
    declared = λ n. refl;
    alike = λ n m. refl;
    settings = sym (ap (λ (s : State). s.settings) has.same);
    many = refl;
    count = refl;
  }

  pub over-is : HasAll base first → (a b : State) → Over a b → b ≡ overlaid base a
  over-is has a b over =
      ap₂ (λ (ss : List Symbol) (settings : Settings). record { symbols = ss; settings = settings }) (same-lists b.symbols (overlaid_symbols base.symbols a.symbols) (over.many ∙ sym (over-length base.symbols a.symbols)) each) over.settings
    where
      few : length a.symbols ≤ length base.symbols
      few = subst (λ n. n ≤ length base.symbols) (sym over.count) has.many

      each : (n : ℕ) → read b.symbols n ≡ read (overlaid_symbols base.symbols a.symbols) n
      each n = by (declares first n) refl ∙ sym (over-at base.symbols a.symbols n few)
        where
          by : (d : Bool) → declares first n ≡ d → read b.symbols n ≡ chosen (read base.symbols n) (read a.symbols n)
          by true is =
              over.same n is ∙ sym (chosen-declared (read base.symbols n) (read a.symbols n) (not-true (is_undeclared (read a.symbols n).content) (over.declared n ∙ is)))
          by false none =
              over.rest n none ∙ sym (chosen-undeclared (read base.symbols n) (read a.symbols n) (not-false (is_undeclared (read a.symbols n).content) (over.declared n ∙ none)))
