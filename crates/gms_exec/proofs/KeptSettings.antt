-- Options keep settings within their ranges.
use Rattle.std.proofs.Common.{◌≡◌, ℕ, ◌<◌, ◌≤◌, Bool, true, false, List, [], ◌∷◌, length, refl, cond, Some, None, unwrap_or, pos, negsuc}
use Rattle.std.specs.Prelude.{codes, nat_lt}
use Rattle.std.specs.List.{position, position_or_len}
use Rattle.std.proofs.lemmas.Bool.{ltb-true, leb-true, and_parts}
use Rattle.gq_number.specs.Number.{Number}
use Rattle.gms_ast.specs.declared.word.Word.{Word}
use Rattle.gms_ast.specs.declared.program.Setting.{Setting}
use Rattle.gms_ast.specs.declared.program.Setting.TheVariants as setting
use Rattle.gms_store.specs.declared.settings.Settings.{Settings}
use Rattle.gms_exec.specs.Options.{is_same_word, whole_magnitude, is_from_zero, is_count, count_set, solver_set, after_option, after_options}
use Rattle.gms_exec.specs.Stepping.{AreValidSettings}

either : {A : Type 0} (P : A → Type 0) (b : Bool) (x y : A) → P x → P y → P (cond b x y)
either P true x y first second = first
either P false x y first second = second

-- a first place is one of the list
position-within : {A : Type 0} (p : A → Bool) (xs : List A) (old : ℕ) → old < length xs → unwrap_or (position p xs) old < length xs
position-within p xs old within = by (nat_lt (position_or_len p xs) (length xs)) refl
  where
    by : (b : Bool) → nat_lt (position_or_len p xs) (length xs) ≡ b → unwrap_or (cond b (Some (position_or_len p xs)) None) old < length xs
    by true e = ltb-true (position_or_len p xs) (length xs) e
    by false e = within

module _ {F : Type 0} (value : F → Number) where
  size-within : (most : ℕ) (x : Number) → is_count most x ≡ true → whole_magnitude x.numerator ≤ most
  size-within most x e = by x.numerator (and_parts _ _ e).1
    where
      by : (n : _) → is_from_zero most n ≡ true → whole_magnitude n ≤ most
      by (pos n) e = leb-true n most e
      by (negsuc n) e = absurd cc

  count-within : (most old : ℕ) (set : Setting F) → old ≤ most → count_set value most old set ≤ most
  count-within most old (setting.Name word) within = within
  count-within most old (setting.Number at x) within = by (is_count most (value x)) refl
    where
      by : (b : Bool) → is_count most (value x) ≡ b → cond b (whole_magnitude (value x).numerator) old ≤ most
      by true e = size-within most (value x) e
      by false e = within

  solver-within : (solvers : List (List ℕ)) (old : ℕ) (set : Setting F) → old < length solvers → solver_set solvers old set < length solvers
  solver-within solvers old (setting.Number at x) within = within
  solver-within solvers old (setting.Name word) within = position-within (is_same_word word.text) solvers old within

  module _ (solvers : List (List ℕ)) where
    kept-option : (s : Settings) (word : Word) (set : Setting F) → AreValidSettings (length solvers) s → AreValidSettings (length solvers) (after_option value solvers s (word, set))
    kept-option s word set kept =
        either (AreValidSettings (length solvers)) (is_same_word (codes "limrow") word.text) _ _ (record { decimals = kept.decimals; chosen = kept.chosen })
        (either (AreValidSettings (length solvers)) (is_same_word (codes "limcol") word.text) _ _ (record { decimals = kept.decimals; chosen = kept.chosen })
        (either (AreValidSettings (length solvers)) (is_same_word (codes "iterlim") word.text) _ _ (record { decimals = kept.decimals; chosen = kept.chosen })
        (either (AreValidSettings (length solvers)) (is_same_word (codes "decimals") word.text) _ _ (record { decimals = count-within 8 s.decimals set kept.decimals; chosen = kept.chosen })
        (either (AreValidSettings (length solvers)) (is_same_word (codes "solprint") word.text) _ _ (record { decimals = kept.decimals; chosen = kept.chosen })
        (either (AreValidSettings (length solvers)) (is_same_word (codes "lp") word.text) _ _ (record { decimals = kept.decimals; chosen = λ some. solver-within solvers s.solver set (kept.chosen some) }) kept)))))

    -- the settings after options
    pub kept-options : (options : List (Word × Setting F)) (s : Settings) → AreValidSettings (length solvers) s → AreValidSettings (length solvers) (after_options value solvers s options)
    kept-options [] s kept = kept
    kept-options (option ∷ options) s kept = kept-options options (after_option value solvers s option) (kept-option s option.0 option.1 kept)
