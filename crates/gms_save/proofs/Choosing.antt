-- What solvers statements choose, in sequence, and the first solver of a name.
use Rattle.std.proofs.Common.{◌≡◌, ℕ, ◌+◌, ◌<◌, ◌≤◌, Bool, true, false, List, [], ◌∷◌, ◌++◌, length, map, take, get_or, refl, sym, ap, ◌∙◌, cond, Some, None, Vec, arith, below_more}
use Rattle.std.specs.Prelude.{flat_map, nat_lt}
use Rattle.std.specs.List.{position}
use Rattle.std.specs.declared.alloc.Global.{Global}
use Rattle.std.proofs.lemmas.Bool.Decides.{nat_tests}
use Rattle.std.proofs.lemmas.List.{flat_map_more, get_or-map, take_more}
use Rattle.std.proofs.lemmas.List.Sums.{position_or_len_is}
use Rattle.std.proofs.Math.ListN.{length-map}
use Rattle.gq_frac.specs.declared.frac.Frac.{Frac}
use Rattle.gms_ast.specs.declared.expression.Control.{Control}
use Rattle.gms_ast.specs.declared.word.Word.{Word}
use Rattle.gms_ast.specs.declared.program.Act.{Act, Loop, fold-Act}
use Rattle.gms_ast.specs.declared.program.Act.TheFolds.{fold-roll-Act, fold_out-Stmt}
use Rattle.gms_ast.specs.declared.program.Act.TheOpen.{Act-F, Stmt-F}
use Rattle.gms_ast.specs.declared.program.Act.TheVariants.{Options, rolls-Loop, rolls-Options}
use Rattle.gms_ast.specs.declared.program.Setting.{Setting}
use Rattle.gms_ast.specs.declared.program.Stmt.{Stmt}
use Rattle.gms_save.specs.Saves.{option_solvers, solvers_in, solvers_step}

-- ---- statements

-- names of solvers
abbrev Names : Type 0
Names = List (List ℕ)

flat-map : {X : Type 0} (f : X → Names) (xs : List X) → flat_map (λ names. names) (map f xs) ≡ flat_map f xs
flat-map f [] = refl
flat-map f (x ∷ xs) = ap (λ zs. f x ++ zs) (flat-map f xs)

-- what an act chooses
abbrev chosen_by : Act Frac → Names
chosen_by = fold-Act Frac Names Names solvers_step (λ (s : Stmt-F Frac Names Names). s.act)

-- what a statement chooses is what its act does
by-act : (s : Stmt Frac) (act : Act Frac) → s.act ≡ act → solvers_in s ≡ chosen_by act
by-act s act e = fold_out-Stmt Frac Names Names solvers_step (λ (s : Stmt-F Frac Names Names). s.act) s ∙ ap chosen_by e

-- a loop chooses what its statements do
pub chosen-Loop : (s : Stmt Frac) (control : Control Frac) (body : Vec (Stmt Frac) Global) → s.act ≡ Loop control body → solvers_in s ≡ flat_map solvers_in body.items
chosen-Loop s control body e =
    by-act s (Loop control body) e ∙ ap chosen_by (sym (rolls-Loop control body)) ∙ fold-roll-Act Frac Names Names solvers_step (λ (s : Stmt-F Frac Names Names). s.act) (Act-F.Loop control body) ∙ flat-map solvers_in body.items

-- options choose what each does
pub chosen-Options : (s : Stmt Frac) (settings : List (Word × Setting Frac)) → s.act ≡ Options settings → solvers_in s ≡ flat_map option_solvers settings
chosen-Options s settings e =
    by-act s (Options settings) e ∙ ap chosen_by (sym (rolls-Options settings)) ∙ fold-roll-Act Frac Names Names solvers_step (λ (s : Stmt-F Frac Names Names). s.act) (Act-F.Options settings)

-- one more of what chooses
pub chosen-more : {X : Type 0} (f : X → Names) (xs : List X) (i : ℕ) (x : X) (first old new : Names) → i < length xs → x ≡ get_or xs i x → old ≡ first ++ flat_map f (take i xs) → new ≡ old ++ f x → new ≡ first ++ flat_map f (take (i + 1) xs)
chosen-more f xs i x first old new within is so_far step =
    step ∙ ap (λ names. names ++ f x) so_far ∙ flat_map_more f first (take i xs) x ∙ ap (λ ys. first ++ flat_map f ys) (sym (take_more xs i x within ∙ ap (λ y. take i xs ++ y ∷ []) (sym is)))

-- ---- the first solver of a name

module _ {A : Type 0} (p : A → Bool) (xs : List A) (d : A) where
  below-test : (i n : ℕ) → i < n → nat_lt i n ≡ true
  below-test i n h = grind (arith, nat_tests)

  above-test : (i n : ℕ) → n ≤ i → nat_lt i n ≡ false
  above-test i n h = grind (arith, nat_tests)

  -- the first place at which the test passes, where it fails at all places before it
  position-there : (i : ℕ) → i < length xs → ((k : ℕ) → k < i → p (get_or xs k d) ≡ false) → p (get_or xs i d) ≡ true → position p xs ≡ Some i
  position-there i within fails passes =
      let at_most : i ≤ length xs = omega arith in
      ap (λ n. cond (nat_lt n (length xs)) (Some n) None) (position_or_len_is p xs i d at_most fails (λ _. passes)) ∙ ap (λ b. cond b (Some i) None) (below-test i (length xs) within)

  -- no place is found if the test passes nowhere
  position-nowhere : (i : ℕ) → i ≡ length xs → ((k : ℕ) → k < i → p (get_or xs k d) ≡ false) → position p xs ≡ None
  position-nowhere i all fails =
      let at_most : i ≤ length xs = omega arith in
      let beyond : length xs ≤ i = omega arith in
      ap (λ n. cond (nat_lt n (length xs)) (Some n) None) (position_or_len_is p xs i d at_most fails (λ within. absurd (omega arith))) ∙ ap (λ b. cond b (Some i) None) (above-test i (length xs) beyond)

module _ {S A : Type 0} (f : S → A) (p : A → Bool) (xs : List S) (d : A) where
  -- what a test says of the element at a place
  test-here : (i : ℕ) (s : S) (t : Bool) → i < length xs → s ≡ get_or xs i s → p (f s) ≡ t → p (get_or (map f xs) i d) ≡ t
  test-here i s t within is e = ap p (get_or-map f xs i s d within ∙ ap f (sym is)) ∙ e

  -- one place more at which the test fails
  pub fails-more : (i : ℕ) (s : S) → i < length xs → s ≡ get_or xs i s → p (f s) ≡ false → ((k : ℕ) → k < i → p (get_or (map f xs) k d) ≡ false) → (k : ℕ) → k < i + 1 → p (get_or (map f xs) k d) ≡ false
  fails-more i s within is e before = below_more (λ k. p (get_or (map f xs) k d) ≡ false) i before (test-here i s false within is e)

  -- the first place at which the test passes
  pub first-there : (i : ℕ) (s : S) → i < length xs → s ≡ get_or xs i s → p (f s) ≡ true → ((k : ℕ) → k < i → p (get_or (map f xs) k d) ≡ false) → position p (map f xs) ≡ Some i
  first-there i s within is e before =
      let inside : i < length (map f xs) = rw length-map within in
      position-there p (map f xs) d i inside before (test-here i s true within is e)

  -- no place is found
  pub first-nowhere : (i : ℕ) → length xs ≤ i → ((k : ℕ) → k < i → p (get_or (map f xs) k d) ≡ false) → position p (map f xs) ≡ None
  first-nowhere i beyond before =
      let all : length (map f xs) ≤ i = rw length-map beyond in
      position-nowhere p (map f xs) d (length (map f xs)) refl (λ k within. before k (omega arith))
