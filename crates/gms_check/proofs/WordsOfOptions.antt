-- Which option a word is, and what it may be set to.
use Rattle.std.proofs.Common.{◌≡◌, ◌∙◌, ◌==◌, ◌||◌, ℕ, Bool, true, false, List, ◌++◌, length, refl, sym, ap, eq-eqb, if◌then◌else◌}
use Rattle.std.specs.Prelude.{codes}
use Rattle.std.specs.Str.{str_eq_ignore_ascii_case, str_to_ascii_lowercase}
use Rattle.std.proofs.lemmas.List.{length-map}
use Rattle.std.proofs.lemmas.List.Folds.{list_any-append}
use Rattle.std.proofs.lemmas.Slice.Eq.{bytes_eq-Decides}
use Rattle.gq_number.specs.Number.{Number}
use Rattle.gms_ast.specs.declared.program.Setting.{Setting}
use Rattle.gms_check.specs.declared.option.OptionWord.{OptionWord}
use Rattle.gms_check.specs.declared.option.OptionWord.TheVariants.{Count, Decimals, Switch, Solver, Ignored, Unknown}
use Rattle.gms_check.specs.InnerOptionKinds.{is_known_option, is_within, kind_of_word, names_solver}
use Rattle.gms_check.specs.OptionWords.{counts, ignored, is_count_up_to, is_in_range, is_one_of, is_option, is_switch, is_worded, other_options}

-- an option by the questions on its word
abbrev kinds : Bool → Bool → Bool → Bool → Bool → OptionWord
kinds a b c d e = if a then Count else if b then Decimals else if c then Switch else if d then Solver else if e then Ignored else Unknown

-- ---- ranges

module _ {F : Type 0} (value : F → Number) (setting : Setting F) where
  within-kinds : (a b c d e : Bool) → is_within value (kinds a b c d e) setting ≡ (if a then is_count_up_to value 2147483647 setting else if b then is_count_up_to value 8 setting else if c then is_switch setting else if d then is_worded setting else true)
  within-kinds true b c d e = refl
  within-kinds false true c d e = refl
  within-kinds false false true d e = refl
  within-kinds false false false true e = refl
  within-kinds false false false false true = refl
  within-kinds false false false false false = refl

  pub within-range : (word : List ℕ) → is_within value (kind_of_word word) setting ≡ is_in_range value word setting
  within-range word =
      within-kinds (is_one_of counts word) (str_eq_ignore_ascii_case word (codes "decimals")) (str_eq_ignore_ascii_case word (codes "solprint")) (str_eq_ignore_ascii_case word (codes "lp")) (is_one_of ignored word)

-- ---- words that are options

known-kinds : (a b c d e : Bool) → is_known_option (kinds a b c d e) ≡ ((a || (b || (c || (d || false)))) || e)
known-kinds true b c d e = refl
known-kinds false true c d e = refl
known-kinds false false true d e = refl
known-kinds false false false true e = refl
known-kinds false false false false true = refl
known-kinds false false false false false = refl

pub known-option : (word : List ℕ) → is_known_option (kind_of_word word) ≡ is_option word
known-option word =
    known-kinds (is_one_of counts word) (str_eq_ignore_ascii_case word (codes "decimals")) (str_eq_ignore_ascii_case word (codes "solprint")) (str_eq_ignore_ascii_case word (codes "lp")) (is_one_of ignored word)
    ∙ sym (list_any-append (str_eq_ignore_ascii_case word) (counts ++ other_options) ignored ∙ ap (λ (b : Bool). b || is_one_of ignored word) (list_any-append (str_eq_ignore_ascii_case word) counts other_options))

-- ---- the option for the solver

-- a word is not the same as two words of different lengths
apart : (word a b : List ℕ) → str_eq_ignore_ascii_case word a ≡ true → (length a == length b) ≡ false → str_eq_ignore_ascii_case word b ≡ false
apart word a b is differ = by (str_eq_ignore_ascii_case word b) refl
  where
    long : (x : List ℕ) → str_eq_ignore_ascii_case word x ≡ true → length word ≡ length x
    long x e =
        sym (length-map word _) ∙ ap length ((bytes_eq-Decides (str_to_ascii_lowercase word) (str_to_ascii_lowercase x)).0 e) ∙ length-map x _

    by : (t : Bool) → str_eq_ignore_ascii_case word b ≡ t → str_eq_ignore_ascii_case word b ≡ false
    by false e = e
    by true e = absurd (let same = eq-eqb (length a) (length b) (sym (long a is) ∙ long b e) in cc)

none-of : (x y z : Bool) → x ≡ false → y ≡ false → z ≡ false → (x || (y || (z || false))) ≡ false
none-of x y z e f g = ap (λ t. t || (y || (z || false))) e ∙ ap (λ t. t || (z || false)) f ∙ ap (λ t. t || false) g

solver-kinds : (a b c d e : Bool) → (d ≡ true → a ≡ false) → (d ≡ true → b ≡ false) → (d ≡ true → c ≡ false) → names_solver (kinds a b c d e) ≡ d
solver-kinds true b c true e p q r = absurd (let f = p refl in cc)
solver-kinds true b c false e p q r = refl
solver-kinds false true c true e p q r = absurd (let f = q refl in cc)
solver-kinds false true c false e p q r = refl
solver-kinds false false true true e p q r = absurd (let f = r refl in cc)
solver-kinds false false true false e p q r = refl
solver-kinds false false false true e p q r = refl
solver-kinds false false false false true p q r = refl
solver-kinds false false false false false p q r = refl

-- the word is `lp`, which is none of the others
pub for-solver : (word : List ℕ) → names_solver (kind_of_word word) ≡ str_eq_ignore_ascii_case word (codes "lp")
for-solver word =
    solver-kinds (is_one_of counts word) (str_eq_ignore_ascii_case word (codes "decimals")) (str_eq_ignore_ascii_case word (codes "solprint")) (str_eq_ignore_ascii_case word (codes "lp")) (is_one_of ignored word) (λ e. none-of (str_eq_ignore_ascii_case word (codes "limrow")) (str_eq_ignore_ascii_case word (codes "limcol")) (str_eq_ignore_ascii_case word (codes "iterlim")) (apart word (codes "lp") (codes "limrow") e refl) (apart word (codes "lp") (codes "limcol") e refl) (apart word (codes "lp") (codes "iterlim") e refl)) (λ e. apart word (codes "lp") (codes "decimals") e refl) (λ e. apart word (codes "lp") (codes "solprint") e refl)
