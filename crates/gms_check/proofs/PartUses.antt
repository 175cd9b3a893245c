-- What the parts of a node use, one part after another, and its steps.
use mathlib.Core.Bool.{or-false}
use Rattle.std.proofs.Common.{◌≡◌, ◌<◌, ◌+◌, ℕ, Bool, ◌||◌, List, [], ◌∷◌, ◌++◌, map, length, take, get_or, refl, sym, ap, ◌∙◌, append_assoc, arith}
use Rattle.std.specs.Prelude.{flat_map}
use Rattle.std.specs.List.{list_any}
use Rattle.std.proofs.lemmas.List.{append-nil, length-take-le, take_more}
use Rattle.std.proofs.lemmas.List.Folds.{list_any-append}
use Rattle.gms_labels.specs.declared.place.Place.{Place}
use Rattle.gms_ast.specs.Trees.{Mark, Tree, Parts}
use Rattle.gms_ast.specs.TreeView.{parts_of}
use Rattle.gms_check.specs.declared.contexts.Context.{Context}
use Rattle.gms_check.specs.Kinds.{part_count}
use Rattle.gms_check.specs.Linearity.{has_variable, have_variable}
use Rattle.gms_check.specs.Past.{Known}
use Rattle.gms_check.specs.Contexts.{as_part}
use Rattle.gms_check.specs.Uses.{Uses, later_steps, operation_of, part_uses, place_by_mark, stepping, steps, uses}

-- whether one of a list has a property, with one more
pub any-more : {X : Type 0} (p : X → Bool) (xs : List X) (i : ℕ) (x : X) → i < length xs → x ≡ get_or xs i x → list_any p (take (i + 1) xs) ≡ (list_any p (take i xs) || p x)
any-more p xs i x l is =
    ap (list_any p) (take_more xs i x l ∙ ap (λ y. take i xs ++ y ∷ []) (sym is)) ∙ list_any-append p (take i xs) (x ∷ []) ∙ ap (λ b. list_any p (take i xs) || b) (or-false (p x))

module _ {F : Type 0} {X : Type 0} (mark : X → Mark) (tree : X → Tree F) where
  abbrev listed : List X → Parts F
  listed xs = parts_of (map (λ x. (mark x, tree x)) xs)

  -- the parts of a node, in sequence
  pub uses-parts : (context : Context) (around : Place) (controlled : List ℕ) (xs : List X) → part_uses context around controlled (parts_of (map (λ x. (mark x, tree x)) xs)) ≡ flat_map (λ x. uses context (place_by_mark (mark x) around) controlled (tree x)) xs
  uses-parts context around controlled [] = refl
  uses-parts context around controlled (x ∷ xs) =
      ap (λ more. uses context (place_by_mark (mark x) around) controlled (tree x) ++ more) (uses-parts context around controlled xs)

  -- whether some part has variables
  pub any-parts : (known : Known F) (xs : List X) → have_variable known (parts_of (map (λ x. (mark x, tree x)) xs)) ≡ list_any (λ x. has_variable known (tree x)) xs
  any-parts known [] = refl
  any-parts known (x ∷ xs) = ap (λ b. has_variable known (tree x) || b) (any-parts known xs)

  -- how many parts there are
  pub count-parts : (xs : List X) → part_count (parts_of (map (λ x. (mark x, tree x)) xs)) ≡ length xs
  count-parts [] = refl
  count-parts (x ∷ xs) = let same = count-parts xs in ap (λ n. n + 1) same ∙ omega arith

  later-append : (context : Context) (around : Place) (earlier : List (Tree F)) (xs : List X) (y : X) → later_steps context around earlier (listed (xs ++ y ∷ [])) ≡ later_steps context around earlier (listed xs) ++ (place_by_mark (mark y) around, stepping context (operation_of (mark y)) (earlier ++ map tree xs) (tree y)) ∷ []
  later-append context around earlier [] y =
      ap (λ (before : List (Tree F)). (place_by_mark (mark y) around, stepping context (operation_of (mark y)) before (tree y)) ∷ []) (sym (append-nil earlier))
  later-append context around earlier (x ∷ xs) y =
      ap (λ (more : Uses F). (place_by_mark (mark x) around, stepping context (operation_of (mark x)) earlier (tree x)) ∷ more) (later-append context around (earlier ++ tree x ∷ []) xs y ∙ ap (λ (before : List (Tree F)). later_steps context around (earlier ++ tree x ∷ []) (listed xs) ++ (place_by_mark (mark y) around, stepping context (operation_of (mark y)) before (tree y)) ∷ []) (append_assoc earlier (tree x ∷ []) (map tree xs)))

  step-append : (context : Context) (around : Place) (xs : List X) (y : X) → 0 < length xs → steps context around (listed (xs ++ y ∷ [])) ≡ steps context around (listed xs) ++ (place_by_mark (mark y) around, stepping context (operation_of (mark y)) (map tree xs) (tree y)) ∷ []
  step-append context around [] y some = absurd (omega arith)
  step-append context around (x ∷ xs) y some = later-append context around (tree x ∷ []) xs y

  -- one more part after others: one more step
  pub steps-more : (context : Context) (around : Place) (xs : List X) (i : ℕ) (x : X) → 0 < i → i < length xs → x ≡ get_or xs i x → steps context around (parts_of (map (λ x. (mark x, tree x)) (take (i + 1) xs))) ≡ steps context around (parts_of (map (λ x. (mark x, tree x)) (take i xs))) ++ (place_by_mark (mark x) around, stepping context (operation_of (mark x)) (map tree (take i xs)) (tree x)) ∷ []
  steps-more context around xs i x some l is =
      let counted = length-take-le i xs (omega arith) in
      ap (λ ys. steps context around (listed ys)) (take_more xs i x l ∙ ap (λ y. take i xs ++ y ∷ []) (sym is)) ∙ step-append context around (take i xs) x (omega arith)

  alone : (context : Context) (around : Place) (xs : List X) (y : X) → length xs ≡ 0 → steps context around (listed (xs ++ y ∷ [])) ≡ steps context around (listed xs)
  alone context around [] y none = refl
  alone context around (x ∷ xs) y none = absurd (omega arith)

  -- the first part: no step
  pub steps-first : (context : Context) (around : Place) (xs : List X) (i : ℕ) (x : X) → i ≡ 0 → i < length xs → x ≡ get_or xs i x → steps context around (parts_of (map (λ x. (mark x, tree x)) (take (i + 1) xs))) ≡ steps context around (parts_of (map (λ x. (mark x, tree x)) (take i xs)))
  steps-first context around xs i x none l is =
      let counted = length-take-le i xs (omega arith) in
      ap (λ ys. steps context around (listed ys)) (take_more xs i x l ∙ ap (λ y. take i xs ++ y ∷ []) (sym is)) ∙ alone context around (take i xs) x (counted ∙ none)

  -- parts that have places
  module _ (a b : Place) (same : (x : X) → place_by_mark (mark x) a ≡ place_by_mark (mark x) b) where
    pub uses-anywhere : (context : Context) (controlled : List ℕ) (xs : List X) → part_uses context a controlled (parts_of (map (λ x. (mark x, tree x)) xs)) ≡ part_uses context b controlled (parts_of (map (λ x. (mark x, tree x)) xs))
    uses-anywhere context controlled [] = refl
    uses-anywhere context controlled (x ∷ xs) =
        ap (λ at. uses context at controlled (tree x) ++ part_uses context a controlled (listed xs)) (same x) ∙ ap (λ more. uses context (place_by_mark (mark x) b) controlled (tree x) ++ more) (uses-anywhere context controlled xs)

    later-anywhere : (context : Context) (earlier : List (Tree F)) (xs : List X) → later_steps context a earlier (listed xs) ≡ later_steps context b earlier (listed xs)
    later-anywhere context earlier [] = refl
    later-anywhere context earlier (x ∷ xs) =
        ap (λ (at : Place). (at, stepping context (operation_of (mark x)) earlier (tree x)) ∷ later_steps context a (earlier ++ tree x ∷ []) (listed xs)) (same x) ∙ ap (λ (more : Uses F). (place_by_mark (mark x) b, stepping context (operation_of (mark x)) earlier (tree x)) ∷ more) (later-anywhere context (earlier ++ tree x ∷ []) xs)

    steps-anywhere : (context : Context) (xs : List X) → steps context a (listed xs) ≡ steps context b (listed xs)
    steps-anywhere context [] = refl
    steps-anywhere context (x ∷ xs) = later-anywhere context (tree x ∷ []) xs

    -- the parts of a product or a power, and its steps
    pub all-anywhere : (context : Context) (controlled : List ℕ) (xs : List X) → part_uses (as_part context) a controlled (parts_of (map (λ x. (mark x, tree x)) xs)) ++ steps context a (parts_of (map (λ x. (mark x, tree x)) xs)) ≡ part_uses (as_part context) b controlled (parts_of (map (λ x. (mark x, tree x)) xs)) ++ steps context b (parts_of (map (λ x. (mark x, tree x)) xs))
    all-anywhere context controlled xs =
        ap (λ (more : Uses F). more ++ steps context a (listed xs)) (uses-anywhere (as_part context) controlled xs) ∙ ap (λ (more : Uses F). part_uses (as_part context) b controlled (listed xs) ++ more) (steps-anywhere context xs)
