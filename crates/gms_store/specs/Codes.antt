-- Codes of states and of their parts, which tell different states apart: the code of a type maps
-- each value to a tuple, a sum or a list that determines it.
use Rattle.std.specs.Prelude.{◌≡◌, ◌⊎◌, ℕ, zero, suc, ℤ, Bool, List, Option, refl}
use mathlib.Core.Logic.{inl, inr}
use mathlib.Core.Path.{ap}
use Rattle.std.specs.Coded.{Coded, code_by, coded×, coded⊎, coded_ℕ, coded_ℤ, coded_bool, coded_list, coded_option}
use base.Stored.{coded_via, coded_unit}
use Rattle.std.specs.FinMap as finite
use Rattle.gq_number.specs.Number.{Number}
use Rattle.gq_number.proofs.Means.{number_from_parts}
use Rattle.gq_extended.specs.Extended as extended
use Rattle.gms_store.specs.declared.kind.VariableType.{VariableType}
use Rattle.gms_store.specs.declared.kind.VariableType.TheVariants.{Free, Positive, Negative, Discrete}
use Rattle.gms_store.specs.declared.settings.Settings.{Settings}
use Rattle.gms_store.specs.State.{Entries, Attributes, Content, undeclared, alias_of, set_of, parameter_of, variable_of, equation_of, model_with, Symbol, State}

-- the one-to-one encoding (`Coded`) of a number, by its numerator and its denominator, which
-- determine it
abbrev pub number_code : Coded Number
number_code = coded_via (coded× coded_ℤ coded_ℕ) (λ (x : Number). (x.numerator, x.denominator)) same_parts
  where
    same_parts : (x y : Number) → ◌≡◌ {A = ℤ × ℕ} (x.numerator, x.denominator) (y.numerator, y.denominator) → x ≡ y
    same_parts x y e = number_from_parts x y (ap (λ (p : ℤ × ℕ). p.0) e) (ap (λ (p : ℤ × ℕ). p.1) e)

-- the one-to-one encoding (`Coded`) of an extended number, by one case of a sum: of a number by the
-- first case, with its own encoding; of the others by the second case, with 0 for plus infinity, 1
-- for minus infinity and 2 for NA
abbrev pub extended_code : Coded extended.Extended
extended_code = code_by (Number ⊎ ℕ) (coded⊎ number_code coded_ℕ) to from back
  where
    to : extended.Extended → Number ⊎ ℕ
    to (extended.number x) = inl x
    to extended.plus_infinity = inr 0
    to extended.minus_infinity = inr 1
    to extended.na = inr 2

    from : Number ⊎ ℕ → extended.Extended
    from (inl x) = extended.number x
    from (inr zero) = extended.plus_infinity
    from (inr (suc zero)) = extended.minus_infinity
    from (inr (suc (suc n))) = extended.na

    back : (x : extended.Extended) → from (to x) ≡ x
    back (extended.number x) = refl
    back extended.plus_infinity = refl
    back extended.minus_infinity = refl
    back extended.na = refl

-- the one-to-one encoding (`Coded`) of attributes, by the two bounds, the level and the marginal
abbrev pub attributes_code : Coded Attributes
attributes_code =
    code_by (Option Number × (Option Number × (Number × Number))) (coded× (coded_option number_code) (coded× (coded_option number_code) (coded× number_code number_code)))
    (λ a. (a.lower, (a.upper, (a.level, a.marginal)))) (λ p. record { lower = p.0; upper = p.1.0; level = p.1.1.0; marginal = p.1.1.1 }) (λ _. refl)

-- the one-to-one encoding (`Coded`) of a variable's type, by a number from 0 to 3
abbrev pub type_code : Coded VariableType
type_code = code_by ℕ coded_ℕ to from back
  where
    to : VariableType → ℕ
    to Free = 0
    to Positive = 1
    to Negative = 2
    to Discrete = 3

    from : ℕ → VariableType
    from zero = Free
    from (suc zero) = Positive
    from (suc (suc zero)) = Negative
    from (suc (suc (suc n))) = Discrete

    back : (t : VariableType) → from (to t) ≡ t
    back Free = refl
    back Positive = refl
    back Negative = refl
    back Discrete = refl

-- the one-to-one encoding (`Coded`) of a finite map from tuples, from the encoding of its values
abbrev pub entries_code : {X : Type 0} → Coded X → Coded (Entries X)
entries_code x = finite.code (coded_list coded_ℕ) x

-- the data of each kind of content, as a sum with one case for each kind, in this order: nothing
-- for an undeclared name, the number of the set of an alias, the members of a set, the entries of a
-- parameter, the type and the entries of a variable, the entries of an equation, and the numbers of
-- the two statuses of a model, its own and the solver's
abbrev Parts : Type 0
Parts =
    Unit {0} ⊎ (ℕ ⊎ (List (List ℕ) ⊎ (Entries extended.Extended ⊎ ((VariableType × Entries Attributes) ⊎ (Entries Attributes ⊎ (ℕ × ℕ))))))

-- the one-to-one encoding (`Coded`) of what a name denotes, by the kind of content and the data of
-- this kind (`Parts`)
abbrev pub content_code : Coded Content
content_code =
    code_by Parts (coded⊎ coded_unit (coded⊎ coded_ℕ (coded⊎ (coded_list (coded_list coded_ℕ)) (coded⊎ (entries_code extended_code) (coded⊎ (coded× type_code (entries_code attributes_code)) (coded⊎ (entries_code attributes_code) (coded× coded_ℕ coded_ℕ))))))) to from back
  where
    to : Content → Parts
    to undeclared = inl tt
    to (alias_of base) = inr (inl base)
    to (set_of members) = inr (inr (inl members))
    to (parameter_of entries) = inr (inr (inr (inl entries)))
    to (variable_of type entries) = inr (inr (inr (inr (inl (type, entries)))))
    to (equation_of entries) = inr (inr (inr (inr (inr (inl entries)))))
    to (model_with model solver) = inr (inr (inr (inr (inr (inr (model, solver))))))

    from : Parts → Content
    from (inl _) = undeclared
    from (inr (inl base)) = alias_of base
    from (inr (inr (inl members))) = set_of members
    from (inr (inr (inr (inl entries)))) = parameter_of entries
    from (inr (inr (inr (inr (inl p))))) = variable_of p.0 p.1
    from (inr (inr (inr (inr (inr (inl entries)))))) = equation_of entries
    from (inr (inr (inr (inr (inr (inr p)))))) = model_with p.0 p.1

    back : (content : Content) → from (to content) ≡ content
    back undeclared = refl
    back (alias_of base) = refl
    back (set_of members) = refl
    back (parameter_of entries) = refl
    back (variable_of type entries) = refl
    back (equation_of entries) = refl
    back (model_with model solver) = refl

-- the one-to-one encoding (`Coded`) of a symbol, by its domain and its content
abbrev pub symbol_code : Coded Symbol
symbol_code =
    code_by (List (Option ℕ) × Content) (coded× (coded_list (coded_option coded_ℕ)) content_code) (λ s. (s.domain, s.content)) (λ p. record { domain = p.0; content = p.1 }) (λ _. refl)

-- the one-to-one encoding (`Coded`) of settings, by their six values
abbrev pub settings_code : Coded Settings
settings_code =
    code_by (ℕ × (ℕ × (ℕ × (ℕ × (Bool × ℕ))))) (coded× coded_ℕ (coded× coded_ℕ (coded× coded_ℕ (coded× coded_ℕ (coded× coded_bool coded_ℕ)))))
    (λ s. (s.limrow, (s.limcol, (s.iterlim, (s.decimals, (s.solprint, s.solver)))))) (λ p. record { limrow = p.0; limcol = p.1.0; iterlim = p.1.1.0; decimals = p.1.1.1.0; solprint = p.1.1.1.1.0; solver = p.1.1.1.1.1 }) (λ _. refl)

-- the one-to-one encoding (`Coded`) of a state, by its symbols and its settings
abbrev pub state_code : Coded State
state_code =
    code_by (List Symbol × Settings) (coded× (coded_list symbol_code) settings_code) (λ s. (s.symbols, s.settings)) (λ p. record { symbols = p.0; settings = p.1 }) (λ _. refl)
