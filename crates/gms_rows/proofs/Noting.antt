-- Names that are marked, and statements that are noted, by the numbers of names.
use mathlib.Core.Bool.{or-false, or-true}
use Rattle.std.proofs.Common.{◌≡◌, ℕ, zero, suc, ◌<◌, Bool, true, false, ◌||◌, ◌==◌, if◌then◌else◌, List, [], ◌∷◌, ◌++◌, map, set, take, get_or, ◌+◌, length, Option, Some, None, refl, sym, ap, subst, ◌∙◌, append-nil, Bor}
use Rattle.std.specs.Prelude.{slice_index_or, is_some}
use Rattle.std.proofs.lemmas.Bool.{eqb-true, eqb-false}
use Rattle.std.proofs.lemmas.List.{get_or-set_same, get_or-set_other, take_more}
use Rattle.std.proofs.lemmas.List.Concat.{flat_map-append}
use Rattle.std.proofs.lemmas.List.Folds.{list_any-append}
use Rattle.gms_ast.specs.declared.program.Stmt.{Stmt}
use Rattle.gms_rows.specs.Rows.{Definition, defined_at, definition_of, definitions}
use Rattle.gms_rows.specs.InnerContracts.{AreMarked, AreNoted, found_in, is_in, noted_by, with_once}
use Rattle.gms_rows.specs.declared.equations.Definition.{Definition as OwnDefinition}

-- appending the default element leaves reads with that default unchanged
pub same-more : {X : Type 0} (xs : List X) (x : X) (n : ℕ) → slice_index_or (xs ++ x ∷ []) n x ≡ slice_index_or xs n x
same-more [] x zero = refl
same-more [] x (suc n) = refl
same-more (y ∷ ys) x zero = refl
same-more (y ∷ ys) x (suc n) = same-more ys x n

-- ---- marks

-- a list that reads the same has the same marks
pub marked-same : (marks old : List Bool) (names : List ℕ) → ((n : ℕ) → slice_index_or marks n false ≡ slice_index_or old n false) → AreMarked old names → AreMarked marks names
marked-same marks old names same marked n = same n ∙ marked n

-- a marked name is among the names
pub once-marked : (marks old : List Bool) (names : List ℕ) (name : ℕ) (there : Bool) → ((n : ℕ) → slice_index_or marks n false ≡ slice_index_or old n false) → AreMarked old names → slice_index_or marks name false ≡ there → (if there then names else names ++ name ∷ []) ≡ with_once names name
once-marked marks old names name there same marked is =
    ap (λ b. if b then names else names ++ name ∷ []) (sym is ∙ same name ∙ marked name)

pub marked-more : (marks old : List Bool) (names : List ℕ) (name : ℕ) → name < length marks → ((n : ℕ) → slice_index_or marks n false ≡ slice_index_or old n false) → AreMarked old names → AreMarked (set marks name true) (names ++ name ∷ [])
marked-more marks old names name there same marked n = by (name == n) refl
  where
    more : is_in (names ++ name ∷ []) n ≡ (is_in names n || ((name == n) || false))
    more = list_any-append (λ m. m == n) names (name ∷ [])

    by : (b : Bool) → (name == n) ≡ b → slice_index_or (set marks name true) n false ≡ is_in (names ++ name ∷ []) n
    by true e =
        ap (λ k. slice_index_or (set marks name true) k false) (sym (eqb-true name n e))
        ∙ get_or-set_same marks name true false there
        ∙ sym (more ∙ ap (λ b. is_in names n || (b || false)) e ∙ or-true (is_in names n))
    by false e =
        get_or-set_other marks name n true false (λ s. eqb-false name n e (sym s))
        ∙ same n
        ∙ marked n
        ∙ sym (more ∙ ap (λ b. is_in names n || (b || false)) e ∙ or-false (is_in names n))

-- ---- definitions

-- the first list, if it is not empty, or else the second
abbrev first : {X : Type 0} → List X → List X → List X
first [] ys = ys
first (x ∷ xs) ys = x ∷ xs

first-nil : {X : Type 0} (xs : List X) → first xs [] ≡ xs
first-nil [] = refl
first-nil (x ∷ xs) = refl

module _ {F : Type 0} where
  of-both : (name : ℕ) (ds es : List (Definition F)) → definition_of (ds ++ es) name ≡ first (definition_of ds name) (definition_of es name)
  of-both name [] es = refl
  of-both name (d ∷ ds) es = by (d.equation == name) (of-both name ds es)
    where
      by : (b : Bool) → definition_of (ds ++ es) name ≡ first (definition_of ds name) (definition_of es name) → (if b then d ∷ [] else definition_of (ds ++ es) name) ≡ first (if b then d ∷ [] else definition_of ds name) (definition_of es name)
      by true rest = refl
      by false rest = rest

  -- what defines one name defines no other
  unlike : (ds : List (Definition F)) (name n : ℕ) → map (λ (d : Definition F). d.equation) ds ≡ name ∷ [] → (name == n) ≡ false → definition_of ds n ≡ []
  unlike [] name n e apart = absurd (cc)
  unlike (d ∷ []) name n e apart =
      let is : d.equation ≡ name = cc in
      ap (λ b. if b then d ∷ [] else []) (ap (λ m. m == n) is ∙ apart)
  unlike (d ∷ x ∷ ds) name n e apart = absurd (cc)

  empty : (ds : List (Definition F)) → map (λ (d : Definition F). d.equation) ds ≡ [] → ds ≡ []
  empty [] e = refl
  empty (d ∷ ds) e = absurd (cc)

  module _ (noted : List (Option (Bor (Stmt F)))) (before : List (Definition F)) (are : AreNoted noted before) where
    -- a statement that defines nothing
    pub noted-nothing : (more : List (Definition F)) → [] ≡ map (λ (d : Definition F). d.equation) more → AreNoted noted (before ++ more)
    noted-nothing more e = subst (AreNoted noted) (sym (ap (λ ds. before ++ ds) (empty more (sym e)) ∙ append-nil before)) are

    -- a statement that defines what is defined before
    pub noted-again : (more : List (Definition F)) (name : ℕ) (found : Option (OwnDefinition F)) → name ∷ [] ≡ map (λ (d : Definition F). d.equation) more → noted_by (slice_index_or noted name None) name ≡ found_in found → is_some found ≡ true → AreNoted noted (before ++ more)
    noted-again more name None e is there n = absurd (cc)
    noted-again more name (Some d) e is there n = are n ∙ sym (of-both n before more ∙ by (name == n) refl)
      where
        by : (b : Bool) → (name == n) ≡ b → first (definition_of before n) (definition_of more n) ≡ definition_of before n
        by true same =
            let here = ap (definition_of before) (sym (eqb-true name n same)) ∙ sym (are name) ∙ is in
            ap (λ xs. first xs (definition_of more n)) here ∙ sym here
        by false apart = ap (first (definition_of before n)) (unlike more name n (sym e) apart) ∙ first-nil (definition_of before n)

    -- a statement that is the first to define a name
    pub noted-new : (wide : List (Option (Bor (Stmt F)))) (s : Bor (Stmt F)) (name : ℕ) (found : Option (OwnDefinition F)) → name < length wide → ((n : ℕ) → slice_index_or wide n None ≡ slice_index_or noted n None) → name ∷ [] ≡ map (λ (d : Definition F). d.equation) (defined_at s.now.at s.now.act) → noted_by (slice_index_or noted name None) name ≡ found_in found → is_some found ≡ false → AreNoted (set wide name (Some s)) (before ++ defined_at s.now.at s.now.act)
    noted-new wide s name (Some d) there same e is none n = absurd (cc)
    noted-new wide s name None there same e is none n = by (name == n) refl ∙ sym (of-both n before (defined_at s.now.at s.now.act))
      where
        by : (b : Bool) → (name == n) ≡ b → noted_by (slice_index_or (set wide name (Some s)) n None) n ≡ first (definition_of before n) (definition_of (defined_at s.now.at s.now.act) n)
        by true one =
            let is_name = eqb-true name n one in
            let here = ap (definition_of before) (sym is_name) ∙ sym (are name) ∙ is in
            ap (λ o. noted_by o n) (ap (λ k. slice_index_or (set wide name (Some s)) k None) (sym is_name) ∙ get_or-set_same wide name (Some s) None there)
            ∙ sym (ap (λ xs. first xs (definition_of (defined_at s.now.at s.now.act) n)) here)
        by false apart =
            ap (λ o. noted_by o n) (get_or-set_other wide name n (Some s) None (λ eq. eqb-false name n apart (sym eq)) ∙ same n)
            ∙ are n
            ∙ sym (ap (first (definition_of before n)) (unlike (defined_at s.now.at s.now.act) name n (sym e) apart) ∙ first-nil (definition_of before n))

-- the definitions of one more statement
pub definitions-more : {F : Type 0} (statements : List (Stmt F)) (i : ℕ) (s : Stmt F) → i < length statements → s ≡ get_or statements i s → definitions (take (i + 1) statements) ≡ definitions (take i statements) ++ defined_at s.at s.act
definitions-more statements i s here is =
    ap definitions (take_more statements i s here ∙ ap (λ z. take i statements ++ z ∷ []) (sym is))
    ∙ flat_map-append (λ (s : Stmt _). defined_at s.at s.act) (take i statements) (s ∷ [])
    ∙ ap (λ ds. definitions (take i statements) ++ ds) (append-nil (defined_at s.at s.act))
