-- What statements assign, in sequence.
use Rattle.std.proofs.Common.{◌≡◌, ◌<◌, ℕ, ◌+◌, List, [], ◌∷◌, ◌++◌, length, map, take, get_or, refl, sym, ap, ◌∙◌, append_assoc, Vec}
use Rattle.std.specs.declared.alloc.Global.{Global}
use Rattle.std.specs.Prelude.{flat_map, Bool}
use Rattle.std.proofs.lemmas.List.{take_more, map-append}
use Rattle.gms_ast.specs.declared.program.Stmt.{Stmt, out-Stmt}
use Rattle.gms_ast.specs.declared.program.Act.{Loop, fold-Act}
use Rattle.gms_ast.specs.declared.program.Act.TheFolds.{fold-roll-Act, fold_out-Stmt}
use Rattle.gms_ast.specs.declared.program.Act.TheVariants.{rolls-Loop}
use Rattle.gms_ast.specs.declared.expression.Control.{Control}
use Rattle.gms_scope.specs.DynamicSets.{assigned_names, assigned_step}
use Rattle.gms_ast.specs.declared.program.Act.TheOpen.{Act-F, Stmt-F}
use Rattle.gms_scope.specs.Facts.{with_marks}

flat-map : {X : Type 0} (f : X → List ℕ) (xs : List X) → flat_map (λ names. names) (map f xs) ≡ flat_map f xs
flat-map f [] = refl
flat-map f (x ∷ xs) = ap (λ zs. f x ++ zs) (flat-map f xs)

module _ {F : Type 0} where
  -- a loop assigns what its statements do
  pub assigned-Loop : (s : Stmt F) (control : Control F) (body : Vec (Stmt F) Global) → (out-Stmt F s).act ≡ Loop control body → assigned_names s ≡ flat_map assigned_names body.items
  assigned-Loop s control body e =
      fold_out-Stmt F (List ℕ) (List ℕ) assigned_step (λ (s : Stmt-F F (List ℕ) (List ℕ)). s.act) s ∙ ap (fold-Act F (List ℕ) (List ℕ) assigned_step (λ (s : Stmt-F F (List ℕ) (List ℕ)). s.act)) (e ∙ sym (rolls-Loop control body)) ∙ fold-roll-Act F (List ℕ) (List ℕ) assigned_step (λ (s : Stmt-F F (List ℕ) (List ℕ)). s.act) (Act-F.Loop control body) ∙ flat-map assigned_names body.items

flat_map-append : {X : Type 0} (f : X → List ℕ) (xs ys : List X) → flat_map f (xs ++ ys) ≡ flat_map f xs ++ flat_map f ys
flat_map-append f [] ys = refl
flat_map-append f (x ∷ xs) ys = ap (λ zs. f x ++ zs) (flat_map-append f xs ys) ∙ sym (append_assoc (f x) (flat_map f xs) (flat_map f ys))

marks-append : (marks : List Bool) (xs ys : List ℕ) → with_marks marks (xs ++ ys) ≡ with_marks (with_marks marks xs) ys
marks-append marks [] ys = refl
marks-append marks (x ∷ xs) ys = marks-append _ xs ys

-- one statement more
pub marks-step : {X : Type 0} (base : ℕ → ℕ) (f : X → List ℕ) (xs : List X) (i : ℕ) (x : X) (first old new : List Bool) → i < length xs → x ≡ get_or xs i x → old ≡ with_marks first (map base (flat_map f (take i xs))) → new ≡ with_marks old (map base (f x)) → new ≡ with_marks first (map base (flat_map f (take (i + 1) xs)))
marks-step base f xs i x first old new l is so step =
    step ∙ ap (λ m. with_marks m (map base (f x))) so ∙ sym (marks-append first (map base (flat_map f (take i xs))) (map base (f x))) ∙ ap (with_marks first) (sym (map-append base (flat_map f (take i xs)) (f x)) ∙ ap (map base) (whole ∙ ap (flat_map f) (sym (take_more xs i x l ∙ ap (λ y. take i xs ++ y ∷ []) (sym is)))))
  where
    nothing : (ys : List ℕ) → ys ≡ ys ++ []
    nothing [] = refl
    nothing (y ∷ ys) = ap (λ zs. y ∷ zs) (nothing ys)

    whole : flat_map f (take i xs) ++ f x ≡ flat_map f (take i xs ++ x ∷ [])
    whole = ap (λ zs. flat_map f (take i xs) ++ zs) (nothing (f x)) ∙ sym (flat_map-append f (take i xs) (x ∷ []))
