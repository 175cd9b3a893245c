use Rattle.std.proofs.Common.{◌≡◌, ◌∙◌, ◌++◌, ◌∷◌, ℕ, Bool, true, false, ◌&&◌, List, Option, codes, refl}
use Rattle.gq_number.specs.Number.{Number}
use Rattle.gq_field.specs.Fits.{fits}
use Rattle.gq_text.specs.ExactText.{exact_text}
use Rattle.gms_store.specs.State.{Attributes, attributes_fit, bound_fits}
use Rattle.gms_save_text.specs.SavedState.{bound_text, attributes_text, saved_line}
use Rattle.gms_save_text.proofs.Finding.{handed_on}
use Rattle.gms_save_text.proofs.Lines.{four_items}
use Rattle.gms_save_text.proofs.values.attributes_line.Goals as goal

-- the four of them fit
record FitAll (limit : ℕ) (a : Attributes) : Type 0 where
  pub lower : bound_fits limit a.lower ≡ true
  pub upper : bound_fits limit a.upper ≡ true
  pub level : fits limit a.level ≡ true
  pub marginal : fits limit a.marginal ≡ true

fit_all : (limit : ℕ) (a : Attributes) → attributes_fit limit a ≡ true → FitAll limit a
fit_all limit a h = by (bound_fits limit a.lower) (bound_fits limit a.upper) (fits limit a.level) (fits limit a.marginal) refl refl refl refl h
  where
    by : (p q r s : Bool) → bound_fits limit a.lower ≡ p → bound_fits limit a.upper ≡ q → fits limit a.level ≡ r → fits limit a.marginal ≡ s → (p && (q && (r && s))) ≡ true → FitAll limit a
    by true true true true e f i j h = record { lower = e; upper = f; level = i; marginal = j }
    by true true true false e f i j h = absurd cc
    by true true false s e f i j h = absurd cc
    by true false r s e f i j h = absurd cc
    by false q r s e f i j h = absurd cc

attributes_are : (a : Attributes) (l u : Option Number) (v m : Number) → l ≡ a.lower → u ≡ a.upper → v ≡ a.level → m ≡ a.marginal → record { lower = l; upper = u; level = v; marginal = m } ≡ a
attributes_are a l u v m e f i j = rw (e, f, i, j) refl

-- the text after the first three
abbrev after_level : Attributes → List ℕ → List ℕ
after_level a rest = exact_text a.marginal ++ 10 ∷ rest

abbrev after_upper : Attributes → List ℕ → List ℕ
after_upper a rest = exact_text a.level ++ 32 ∷ after_level a rest

abbrev after_lower : Attributes → List ℕ → List ℕ
after_lower a rest = bound_text (codes "+INF") a.upper ++ 32 ∷ after_upper a rest

-- the line, item by item
line : (a : Attributes) (rest : List ℕ) → saved_line (attributes_text a) ++ rest ≡ bound_text (codes "-INF") a.lower ++ 32 ∷ after_lower a rest
line a rest = four_items (bound_text (codes "-INF") a.lower) (bound_text (codes "+INF") a.upper) (exact_text a.level) (exact_text a.marginal) rest

pub returns-in_err-level : goal.returns-in_err-level
returns-in_err-level g c a rest fit is =
    let all = fit_all g.F.ExactField.limit a fit in
    let first = c.in_ok-lower.ensures a.lower (after_lower a rest) all.lower (is ∙ line a rest) in
    let second = c.in_ok-upper.ensures a.upper (after_upper a rest) all.upper first.1 in
    handed_on _ _ _ _ c.from_residual-in_err-level.ensures.1 (c.in_err-level.ensures a.level (after_level a rest) all.level second.1)

pub returns-in_err-marginal : goal.returns-in_err-marginal
returns-in_err-marginal g c a rest fit is =
    let all = fit_all g.F.ExactField.limit a fit in
    let first = c.in_ok-lower.ensures a.lower (after_lower a rest) all.lower (is ∙ line a rest) in
    let second = c.in_ok-upper.ensures a.upper (after_upper a rest) all.upper first.1 in
    let third = c.in_ok-level.ensures a.level (after_level a rest) all.level second.1 in
    handed_on _ _ _ _ c.from_residual-in_err-marginal.ensures.1 (c.in_err-marginal.ensures a.marginal rest all.marginal third.1)

pub returns : goal.returns
returns g c a rest fit is =
    let all = fit_all g.F.ExactField.limit a fit in
    let first = c.in_ok-lower.ensures a.lower (after_lower a rest) all.lower (is ∙ line a rest) in
    let second = c.in_ok-upper.ensures a.upper (after_upper a rest) all.upper first.1 in
    let third = c.in_ok-level.ensures a.level (after_level a rest) all.level second.1 in
    let fourth = c.in_ok-marginal.ensures a.marginal rest all.marginal third.1 in
    (attributes_are a _ _ _ _ first.0 second.0 third.0 fourth.0, fourth.1)
