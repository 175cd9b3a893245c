-- The parts of a product or a power and its steps, which are checked alternately.
use Rattle.std.proofs.Common.{◌≡◌, ◌<◌, ◌≤◌, ◌+◌, arith, ℕ, Bool, true, false, not, ◌&&◌, ◌||◌, List, [], ◌∷◌, ◌++◌, map, take, length, get_or, refl, sym, ap, ◌∙◌, if◌then◌else◌}
use Rattle.std.specs.Prelude.{flat_map}
use Rattle.std.specs.List.{list_any}
use Rattle.std.proofs.lemmas.Grind.{flat_map-append}
use Rattle.std.proofs.lemmas.List.{append-nil, take_more}
use Rattle.gq_number.specs.Number.{Number}
use Rattle.gms_labels.specs.declared.place.Place.{Place}
use Rattle.gms_ast.specs.Trees.{Mark, signed, Tree}
use Rattle.gms_ast.specs.TreeView.{parts_of}
use Rattle.gms_check.specs.declared.error.ErrorKind.TheVariants.{WrongKind, Nonlinear}
use Rattle.gms_check.specs.declared.expression.Operation.{Operation}
use Rattle.gms_check.specs.declared.expression.Operation.TheVariants.{Multiplies, Divides, Raises}
use Rattle.gms_check.specs.declared.contexts.Context.{Context}
use Rattle.gms_check.specs.InnerChecking.{Checking, faulted, known_of, noted}
use Rattle.gms_check.specs.Linearity.{has_variable}
use Rattle.gms_check.specs.InnerPartLists.{in_no_place, step_curved, step_faults, step_wrong}
use Rattle.gms_check.specs.Contexts.{as_part}
use Rattle.gms_check.specs.Uses.{Uses, multiplies, divides, raises, operation_of, place_by_mark, stepping, steps, uses}
use Rattle.gms_check.proofs.Noting.{chain-2, noted-by, noted-turned}
use Rattle.gms_check.proofs.PartUses.{steps-first, steps-more}

-- ---- the errors of a step

-- a step by its two errors
pub step-by : (at : Place) (s t u : Checking) (context : Context) (operation : Operation) (earlier right occurs linear : Bool) → t ≡ faulted s at ((not occurs, WrongKind) ∷ []) → u ≡ faulted t at ((context.variables && not linear, Nonlinear) ∷ []) → not occurs ≡ step_wrong context operation → not linear ≡ step_curved operation earlier right → u ≡ faulted s at (step_faults context operation earlier right)
step-by at s t u context operation earlier right occurs linear e f wrong curved =
    chain-2 at s t u (not occurs, WrongKind) (context.variables && not linear, Nonlinear) e f ∙ ap (λ (b : Bool). faulted s at ((b, WrongKind) ∷ (context.variables && not linear, Nonlinear) ∷ [])) wrong ∙ ap (λ (b : Bool). faulted s at ((step_wrong context operation, WrongKind) ∷ (context.variables && b, Nonlinear) ∷ [])) curved ∙ whole operation
  where
    whole : (operation : Operation) → faulted s at ((step_wrong context operation, WrongKind) ∷ (context.variables && step_curved operation earlier right, Nonlinear) ∷ []) ≡ faulted s at (step_faults context operation earlier right)
    whole Multiplies = refl
    whole Divides = refl
    whole Raises = refl

any-map : {X Y : Type 0} (p : Y → Bool) (f : X → Y) (xs : List X) → list_any p (map f xs) ≡ list_any (λ x. p (f x)) xs
any-map p f [] = refl
any-map p f (x ∷ xs) = ap (λ b. p (f x) || b) (any-map p f xs)

module _ {F : Type 0} (value : F → Number) where
  module _ (c t : Checking) (at : Place) (context : Context) (earlier : List (Tree F)) (right : Tree F) where
    stepped : Operation → (e r : Bool) → e ≡ list_any (has_variable (known_of value c)) earlier → r ≡ has_variable (known_of value c) right → (operation : Operation) → t ≡ faulted c at (step_faults context operation e r) → t ≡ faulted c at (step_faults context operation (list_any (has_variable (known_of value c)) earlier) (has_variable (known_of value c) right))
    stepped _ e r before here operation step =
        step ∙ ap (λ (b : Bool). faulted c at (step_faults context operation b r)) before ∙ ap (λ (b : Bool). faulted c at (step_faults context operation (list_any (has_variable (known_of value c)) earlier) b)) here

    -- a step of a product, with its mark
    pub step-signed : (part_at : Place) (divides : Bool) (operation : Operation) (e r : Bool) → operation ≡ (if divides then Divides else Multiplies) → e ≡ list_any (has_variable (known_of value c)) earlier → r ≡ has_variable (known_of value c) right → t ≡ faulted c at (step_faults context operation e r) → t ≡ noted value c ((at, stepping context (operation_of (signed part_at divides)) earlier right) ∷ [])
    step-signed part_at true operation e r is before here step =
        noted-by value c t at (stepping context divides earlier right) (step_faults context Divides (list_any (has_variable (known_of value c)) earlier) (has_variable (known_of value c) right)) refl (stepped Divides e r before here Divides (step ∙ ap (λ (o : Operation). faulted c at (step_faults context o e r)) is))
    step-signed part_at false operation e r is before here step =
        noted-by value c t at (stepping context multiplies earlier right) (step_faults context Multiplies (list_any (has_variable (known_of value c)) earlier) (has_variable (known_of value c) right)) refl (stepped Multiplies e r before here Multiplies (step ∙ ap (λ (o : Operation). faulted c at (step_faults context o e r)) is))

    -- a step of a power
    pub step-raised : (e r : Bool) → e ≡ list_any (has_variable (known_of value c)) earlier → r ≡ has_variable (known_of value c) right → t ≡ faulted c at (step_faults context Raises e r) → t ≡ noted value c ((at, stepping context raises earlier right) ∷ [])
    step-raised e r before here step =
        noted-by value c t at (stepping context raises earlier right) (step_faults context Raises (list_any (has_variable (known_of value c)) earlier) (has_variable (known_of value c) right)) refl (stepped Raises e r before here Raises step)

-- ---- a part and its step

no-less : (i : ℕ) → i ≤ 0 → i ≡ 0
no-less i none = omega arith

module _ {F : Type 0} {X : Type 0} (value : F → Number) (mark : X → Mark) (tree : X → Tree F) (context : Context) (controlled : List ℕ) where
  -- what one part uses
  abbrev part_use : X → Uses F
  part_use x = uses (as_part context) (place_by_mark (mark x) in_no_place) controlled (tree x)

  -- the steps between parts
  abbrev steps_of : List X → Uses F
  steps_of xs = steps context in_no_place (parts_of (map (λ x. (mark x, tree x)) xs))

  module _ (xs : List X) (i : ℕ) (x : X) (s now after next : Checking) (l : i < length xs) (is : x ≡ get_or xs i x) (noted_now : now ≡ noted value s (flat_map part_use (take i xs) ++ steps_of (take i xs))) (part : after ≡ noted value now (part_use x)) where
    parts-more : flat_map part_use (take i xs) ++ part_use x ≡ flat_map part_use (take (i + 1) xs)
    parts-more =
        ap (λ (more : Uses F). flat_map part_use (take i xs) ++ more) (sym (append-nil (part_use x))) ∙ sym (flat_map-append part_use (take i xs) (x ∷ [])) ∙ ap (flat_map part_use) (sym (take_more xs i x l ∙ ap (λ y. take i xs ++ y ∷ []) (sym is)))

    -- a part, with what its step uses
    turn : (zs : Uses F) → next ≡ noted value after zs → steps_of (take (i + 1) xs) ≡ steps_of (take i xs) ++ zs → next ≡ noted value s (flat_map part_use (take (i + 1) xs) ++ steps_of (take (i + 1) xs))
    turn zs step so =
        noted-turned value s now after next (flat_map part_use (take i xs)) (steps_of (take i xs)) (part_use x) zs noted_now part step ∙ ap (λ (parts : Uses F). noted value s (parts ++ (steps_of (take i xs) ++ zs))) parts-more ∙ ap (λ (more : Uses F). noted value s (flat_map part_use (take (i + 1) xs) ++ more)) (sym so)

    -- the first part
    pub turn-first : i ≤ 0 → next ≡ noted value after [] → next ≡ noted value s (flat_map (λ x. uses (as_part context) (place_by_mark (mark x) in_no_place) controlled (tree x)) (take (i + 1) xs) ++ steps context in_no_place (parts_of (map (λ x. (mark x, tree x)) (take (i + 1) xs))))
    turn-first none step =
        turn [] step (steps-first mark tree context in_no_place xs i x (no-less i none) l is ∙ sym (append-nil (steps_of (take i xs))))

    -- a part after others
    pub turn-more : 0 < i → next ≡ noted value after ((place_by_mark (mark x) in_no_place, stepping context (operation_of (mark x)) (map tree (take i xs)) (tree x)) ∷ []) → next ≡ noted value s (flat_map (λ x. uses (as_part context) (place_by_mark (mark x) in_no_place) controlled (tree x)) (take (i + 1) xs) ++ steps context in_no_place (parts_of (map (λ x. (mark x, tree x)) (take (i + 1) xs))))
    turn-more some step =
        turn ((place_by_mark (mark x) in_no_place, stepping context (operation_of (mark x)) (map tree (take i xs)) (tree x)) ∷ []) step (steps-more mark tree context in_no_place xs i x some l is)

    -- whether an operand before has variables
    pub before-mapped : (known_now : known_of value now ≡ known_of value s) (earlier : Bool) → earlier ≡ list_any (λ x. has_variable (known_of value s) (tree x)) (take i xs) → earlier ≡ list_any (has_variable (known_of value after)) (map tree (take i xs))
    before-mapped known_now earlier e =
        e ∙ sym (any-map (has_variable (known_of value s)) tree (take i xs)) ∙ ap (λ known. list_any (has_variable known) (map tree (take i xs))) (sym known_now ∙ sym (ap (λ (u : Checking). known_of value u) part))
