-- The sets of a left side, and its elements with their values, in sequence.
use Rattle.std.proofs.Common.{◌≡◌, ℕ, ◌+◌, ◌<◌, ◌≤◌, ◌==◌, Bool, true, false, not, ◌&&◌, ◌||◌, List, [], ◌∷◌, ◌++◌, map, filter, drop, get_or, length, cond, Option, Some, None, is_none, Ok, Err, Box, refl, sym, ap, ◌∙◌, append-nil, append_assoc}
use Rattle.std.specs.declared.alloc.Global.{Global}
use Rattle.std.specs.List.{list_any}
use Rattle.std.proofs.lemmas.Bool.{eqb-true, eq-eqb, false_from_ne_true}
use Rattle.std.proofs.lemmas.List.{at_drop_more, at_drop_all}
use Rattle.std.proofs.lemmas.List.Elements.{filter_agree}
use Rattle.std.proofs.lemmas.List.Folds.{list_any-append}
use Rattle.gms_labels.specs.declared.place.Place.{Place}
use Rattle.gq_number.specs.Number.{Number}
use Rattle.gms_ast.specs.declared.expression.LagOp.{LagOp}
use Rattle.gms_ast.specs.declared.expression.Expr.{Expr}
use Rattle.gms_ast.specs.declared.expression.Index.{Index, Label, Set}
use Rattle.gms_ast.specs.declared.expression.Index.TheVariants.{rolls-Label, rolls-Set}
use Rattle.gms_ast.specs.declared.expression.Expr.TheOpen.{Index-F}
use Rattle.gms_ast.specs.declared.expression.Expr.TheFolds.{fold-roll-Index, fold_out-Index}
use Rattle.gms_ast.specs.Trees as tree
use Rattle.gms_ast.specs.TreeView.{indices_of, tree_step, index_step, control_step, index_tree}
use Rattle.gms_store.specs.State.{State}
use Rattle.gms_eval.specs.declared.stop.ExecStopOrMemory.{ExecStopOrMemory}
use Rattle.gms_eval.specs.declared.stop.ExecStopOrMemory.TheVariants.{Memory, Fault as Stop}
use Rattle.gms_eval.specs.Nodes.{in_order}
use Rattle.gms_eval.specs.Bindings.{Pairs, label_of}
use Rattle.gms_eval.specs.Faults.{Answer, Fault, ◌and_then◌}
use Rattle.gms_eval.specs.Gives.{fault_of, ShowsStop}
use Rattle.gms_eval.proofs.Answering.{and_then_assoc}
use Rattle.gms_rows.specs.Rows.{sets_among, distinct_numbers}
use Rattle.gms_exec.specs.Assignment.{newly_controlled, given_elements}
use Rattle.gms_exec.specs.Given.{Given, AllGiven}
use Rattle.gms_exec.specs.InnerContracts.{first_set, after_others, noted, with_found}

-- ---- the sets of indices

-- a set before others, if there is one
abbrev pub before_others : Option ℕ → List ℕ → List ℕ
before_others None sets = sets
before_others (Some set) sets = set ∷ sets

-- the set of a label, and that of a set
pub first-Label : (F : Type 0) (n : ℕ) → first_set (index_tree {F = F} (Label n) tree.no_index) ≡ None
first-Label F n =
    ap (λ i. first_set (index_tree {F = F} i tree.no_index)) (sym (rolls-Label n)) ∙ ap (λ f. first_set (f tree.no_index)) (fold-roll-Index F (tree.Tree F) (tree.Indices F → tree.Indices F) (tree.Control F) tree_step index_step control_step (Index-F.Label n))

pub first-Set : (F : Type 0) (n : ℕ) (lag : Option (LagOp × Place × Box (Expr F) Global)) → first_set (index_tree {F = F} (Set n lag) tree.no_index) ≡ Some n
first-Set F n None =
    ap (λ i. first_set (index_tree {F = F} i tree.no_index)) (sym (rolls-Set n None)) ∙ ap (λ f. first_set (f tree.no_index)) (fold-roll-Index F (tree.Tree F) (tree.Indices F → tree.Indices F) (tree.Control F) tree_step index_step control_step (Index-F.Set n None))
first-Set F n (Some lag) =
    ap (λ i. first_set (index_tree {F = F} i tree.no_index)) (sym (rolls-Set n (Some lag))) ∙ ap (λ f. first_set (f tree.no_index)) (fold-roll-Index F (tree.Tree F) (tree.Indices F → tree.Indices F) (tree.Control F) tree_step index_step control_step (Index-F.Set n (Some lag)))

step-sets : {F : Type 0} (index : Index-F F (tree.Tree F) (tree.Indices F → tree.Indices F) (tree.Control F)) (rest : tree.Indices F) → sets_among (index_step index rest) ≡ before_others (first_set (index_step index tree.no_index)) (sets_among rest)
step-sets (Index-F.Label n) rest = refl
step-sets (Index-F.Set name None) rest = refl
step-sets (Index-F.Set name (Some lag)) rest = refl

-- the sets of an index and of those after it
pub sets-index : {F : Type 0} (index : Index F) (rest : tree.Indices F) → sets_among (index_tree index rest) ≡ before_others (first_set (index_tree index tree.no_index)) (sets_among rest)
sets-index {F} index rest =
    rw (fold_out-Index F (tree.Tree F) (tree.Indices F → tree.Indices F) (tree.Control F) tree_step index_step control_step index) (step-sets _ rest)

-- ---- distinct sets

filter-filter : (p q : ℕ → Bool) (xs : List ℕ) → filter p (filter q xs) ≡ filter (λ x. q x && p x) xs
filter-filter p q [] = refl
filter-filter p q (x ∷ xs) = by (filter-filter p q xs) (q x) (p x) refl refl
  where
    by : filter p (filter q xs) ≡ filter (λ x. q x && p x) xs → (b c : Bool) → q x ≡ b → p x ≡ c → filter p (cond b (x ∷ filter q xs) (filter q xs)) ≡ cond (b && c) (x ∷ filter (λ x. q x && p x) xs) (filter (λ x. q x && p x) xs)
    by rest true true e f = ap (λ c. cond c (x ∷ filter p (filter q xs)) (filter p (filter q xs))) f ∙ ap (λ ys. x ∷ ys) rest
    by rest true false e f = ap (λ c. cond c (x ∷ filter p (filter q xs)) (filter p (filter q xs))) f ∙ rest
    by rest false c e f = rest

-- whether a set may be appended to those noted
abbrev is_new : Pairs → List ℕ → ℕ → Bool
is_new b done n = is_none (label_of b n) && not (list_any (λ one. one == n) done)

-- the sets that are noted, and those that will be
abbrev pub noting : Pairs → List ℕ → List ℕ → List ℕ
noting b done sets = done ++ filter (is_new b done) (distinct_numbers sets)

pub noting-start : {N : Type 0} (b : Pairs) (indices : tree.Indices N) → newly_controlled b indices ≡ noting b [] (sets_among indices)
noting-start b indices = filter_agree (λ n. is_none (label_of b n)) (is_new b []) (λ n. and-true (is_none (label_of b n))) (distinct_numbers (sets_among indices))
  where
    and-true : (b : Bool) → b ≡ (b && true)
    and-true true = refl
    and-true false = refl

-- a set that is new, also after one that was noted
new-following : (b : Pairs) (done : List ℕ) (n m : ℕ) → (not (m == n) && is_new b done m) ≡ is_new b (done ++ n ∷ []) m
new-following b done n m =
    by (is_none (label_of b m)) (m == n) (n == m) (list_any (λ one. one == m) done) (same n m) ∙ sym (ap (λ c. is_none (label_of b m) && not c) (list_any-append (λ one. one == m) done (n ∷ [])))
  where
    same : (n m : ℕ) → (m == n) ≡ (n == m)
    same n m = go (m == n) (n == m) refl refl
      where
        go : (b c : Bool) → (m == n) ≡ b → (n == m) ≡ c → b ≡ c
        go true true e f = refl
        go false false e f = refl
        go true false e f = sym (sym f ∙ eq-eqb n m (sym (eqb-true m n e)))
        go false true e f = sym e ∙ eq-eqb m n (sym (eqb-true n m f))

    by : (l e f a : Bool) → e ≡ f → (not e && (l && not a)) ≡ (l && not (a || (f || false)))
    by true true true true _ = refl
    by true true true false _ = refl
    by true false false true _ = refl
    by true false false false _ = refl
    by false true true a _ = refl
    by false false false a _ = refl
    by l true false a e = absurd cc
    by l false true a e = absurd cc

-- a set that is not new is left
old-left : (b : Pairs) (done : List ℕ) (n m : ℕ) → is_new b done n ≡ false → (not (m == n) && is_new b done m) ≡ is_new b done m
old-left b done n m old = by (m == n) refl
  where
    by : (e : Bool) → (m == n) ≡ e → (not e && is_new b done m) ≡ is_new b done m
    by true e = sym (ap (is_new b done) (eqb-true m n e) ∙ old)
    by false e = refl

-- what is noted of a set, by whether it is new
noted-new : (b : Pairs) (done : List ℕ) (n : ℕ) → noted b done (Some n) ≡ cond (is_new b done n) (done ++ n ∷ []) done
noted-new b done n = by (is_none (label_of b n)) (list_any (λ one. one == n) done)
  where
    by : (free there : Bool) → cond free (cond there done (done ++ n ∷ [])) done ≡ cond (free && not there) (done ++ n ∷ []) done
    by true true = refl
    by true false = refl
    by false there = refl

-- one more set
noting-set : (b : Pairs) (done : List ℕ) (n : ℕ) (sets : List ℕ) → noting b done (n ∷ sets) ≡ noting b (noted b done (Some n)) sets
noting-set b done n sets = by (is_new b done n) refl ∙ ap (λ done. noting b done sets) (sym (noted-new b done n))
  where
    by : (c : Bool) → is_new b done n ≡ c → done ++ cond c (n ∷ filter (is_new b done) (filter (λ m. not (m == n)) (distinct_numbers sets))) (filter (is_new b done) (filter (λ m. not (m == n)) (distinct_numbers sets))) ≡ noting b (cond c (done ++ n ∷ []) done) sets
    by true e =
        ap (λ xs. done ++ n ∷ xs) (filter-filter (is_new b done) (λ m. not (m == n)) (distinct_numbers sets) ∙ filter_agree (λ m. not (m == n) && is_new b done m) (is_new b (done ++ n ∷ [])) (new-following b done n) (distinct_numbers sets))
        ∙ sym (append_assoc done (n ∷ []) (filter (is_new b (done ++ n ∷ [])) (distinct_numbers sets)))
    by false e =
        ap (λ xs. done ++ xs) (filter-filter (is_new b done) (λ m. not (m == n)) (distinct_numbers sets) ∙ filter_agree (λ m. not (m == n) && is_new b done m) (is_new b done) (λ m. old-left b done n m e) (distinct_numbers sets))

noting-others : (b : Pairs) (done : List ℕ) (set : Option ℕ) (sets : List ℕ) → noting b done (before_others set sets) ≡ noting b (noted b done set) sets
noting-others b done None sets = refl
noting-others b done (Some n) sets = noting-set b done n sets

module _ {F : Type 0} (b : Pairs) (indices : List (Index F)) where
  -- the sets of the indices from here on
  abbrev sets_from : List (Index F) → List ℕ
  sets_from xs = sets_among (indices_of (map index_tree xs))

  -- one more index
  pub noting-more : (whole done next : List ℕ) (i : ℕ) (x : Index F) (set : Option ℕ) → i < length indices → x ≡ get_or indices i x → whole ≡ noting b done (sets_from (drop i indices)) → set ≡ first_set (index_tree x tree.no_index) → next ≡ noted b done set → whole ≡ noting b next (sets_from (drop (i + 1) indices))
  noting-more whole done next i x set l at so is e =
      so
      ∙ at_drop_more (λ xs. noting b done (sets_from xs)) indices i x l
      ∙ ap (λ z. noting b done (sets_from (z ∷ drop (i + 1) indices))) (sym at)
      ∙ ap (noting b done) (sets-index x (indices_of (map index_tree (drop (i + 1) indices))))
      ∙ ap (λ set. noting b done (before_others set (sets_from (drop (i + 1) indices)))) (sym is)
      ∙ noting-others b done set (sets_from (drop (i + 1) indices))
      ∙ ap (λ done. noting b done (sets_from (drop (i + 1) indices))) (sym e)

  -- no index is left
  pub noting-end : (whole done : List ℕ) (i : ℕ) → length indices ≤ i → whole ≡ noting b done (sets_from (drop i indices)) → done ≡ whole
  noting-end whole done i l so = sym (so ∙ at_drop_all (λ xs. noting b done (sets_from xs)) indices i l ∙ append-nil done)

-- what is noted of a set that is controlled, and of one that is not
pub noted-controlled : (b : Pairs) (done : List ℕ) (n label : ℕ) → Some label ≡ label_of b n → done ≡ noted b done (Some n)
noted-controlled b done n label e = ap (λ o. cond (is_none o) (after_others done n) done) e

pub noted-free : (b : Pairs) (done next : List ℕ) (n : ℕ) → None ≡ label_of b n → next ≡ after_others done n → next ≡ noted b done (Some n)
noted-free b done next n e put = put ∙ ap (λ o. cond (is_none o) (after_others done n) done) e

-- ---- one of some sets

module _ (set : ℕ) (sets : List ℕ) (i : ℕ) where
  -- whether a set is one of those from here on
  abbrev any_from : List ℕ → Bool
  any_from xs = list_any (λ one. one == set) xs

  pub any-here : i < length sets → any_from sets ≡ any_from (drop i sets) → get_or sets i 0 ≡ set → true ≡ any_from sets
  any-here l so e = sym (so ∙ at_drop_more any_from sets i 0 l ∙ ap (λ b. b || any_from (drop (i + 1) sets)) (eq-eqb (get_or sets i 0) set e))

  pub any-later : i < length sets → any_from sets ≡ any_from (drop i sets) → (get_or sets i 0 ≡ set → ⊥) → any_from sets ≡ any_from (drop (i + 1) sets)
  any-later l so other =
      so ∙ at_drop_more any_from sets i 0 l ∙ ap (λ b. b || any_from (drop (i + 1) sets)) (false_from_ne_true (get_or sets i 0 == set) (λ e. other (eqb-true (get_or sets i 0) set e)))

  pub any-end : length sets ≤ i → any_from sets ≡ any_from (drop i sets) → false ≡ any_from sets
  any-end all so = sym (so ∙ at_drop_all any_from sets i all)

-- ---- elements with what they are given

module _ {F : Type 0} (v : F → Number) (limit : ℕ) (state : State) {X : Type 0} (answer : X → Answer (Option (List ℕ × Given))) where
  -- the elements that are found, and those that will be
  abbrev pub finding : AllGiven → List X → Answer AllGiven
  finding done xs = in_order (map answer xs) and_then λ given. Ok (done ++ given_elements v limit state given)

  pub finding-start : (xs : List X) → (in_order (map answer xs) and_then λ given. Ok (given_elements v limit state given)) ≡ finding [] xs
  finding-start xs = refl

  one_more : (done : AllGiven) (x : X) (xs : List X) (found : Option (List ℕ × Given)) → answer x ≡ Ok found → finding done (x ∷ xs) ≡ finding (with_found done found) xs
  one_more done x xs found e =
      ap (λ a. (a and_then λ y. in_order (map answer xs) and_then λ ys. Ok (y ∷ ys)) and_then λ given. Ok (done ++ given_elements v limit state given)) e
      ∙ and_then_assoc (in_order (map answer xs)) (λ ys. Ok (found ∷ ys)) (λ given. Ok (done ++ given_elements v limit state given))
      ∙ there found (in_order (map answer xs))
    where
      there : (found : Option (List ℕ × Given)) (a : Answer (List (Option (List ℕ × Given)))) → (a and_then λ ys. Ok (done ++ given_elements v limit state (found ∷ ys))) ≡ (a and_then λ ys. Ok (with_found done found ++ given_elements v limit state ys))
      there None a = refl
      there (Some one) (Ok ys) = ap Ok (sym (append_assoc done (one ∷ []) (given_elements v limit state ys)))
      there (Some one) (Err fault) = refl

  next_one : (done : AllGiven) (xs : List X) (i : ℕ) (x : X) → i < length xs → x ≡ get_or xs i x → finding done (drop i xs) ≡ finding done (x ∷ drop (i + 1) xs)
  next_one done xs i x l at =
      at_drop_more (finding done) xs i x l ∙ ap (λ z. finding done (z ∷ drop (i + 1) xs)) (sym at)

  pub finding-more : (whole : Answer AllGiven) (done next : AllGiven) (xs : List X) (i : ℕ) (x : X) (found : Option (List ℕ × Given)) → whole ≡ finding done (drop i xs) → i < length xs → x ≡ get_or xs i x → answer x ≡ Ok found → next ≡ with_found done found → whole ≡ finding next (drop (i + 1) xs)
  finding-more whole done next xs i x found so l at e is =
      so ∙ next_one done xs i x l at ∙ one_more done x (drop (i + 1) xs) found e ∙ ap (λ done. finding done (drop (i + 1) xs)) (sym is)

  finding-fault : (done : AllGiven) (xs : List X) (i : ℕ) (x : X) (fault : Fault) → i < length xs → x ≡ get_or xs i x → answer x ≡ Err fault → finding done (drop i xs) ≡ Err fault
  finding-fault done xs i x fault l at e =
      next_one done xs i x l at
      ∙ ap (λ a. (a and_then λ y. in_order (map answer (drop (i + 1) xs)) and_then λ ys. Ok (y ∷ ys)) and_then λ given. Ok (done ++ given_elements v limit state given)) e

  pub finding-end : (whole : Answer AllGiven) (done : AllGiven) (xs : List X) (i : ℕ) → whole ≡ finding done (drop i xs) → length xs ≤ i → whole ≡ Ok done
  finding-end whole done xs i so all = so ∙ at_drop_all (finding done) xs i all ∙ ap Ok (append-nil done)

  pub finding-stops : (stop : ExecStopOrMemory F) (whole : Answer AllGiven) (done : AllGiven) (xs : List X) (i : ℕ) (x : X) → whole ≡ finding done (drop i xs) → i < length xs → x ≡ get_or xs i x → ShowsStop v stop (answer x) → ShowsStop v stop whole
  finding-stops Memory whole done xs i x so l at s = tt
  finding-stops (Stop stop) whole done xs i x so l at s = so ∙ finding-fault done xs i x (fault_of v stop) l at s
