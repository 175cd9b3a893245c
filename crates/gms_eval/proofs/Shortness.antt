-- A bound on the traversal of a condition, from those of its factors.
use mathlib.Core.Bool.{and-false, and-true}
use Rattle.std.proofs.Common.{◌≡◌, ◌⊎◌, inl, inr, ℕ, ◌+◌, ◌-◌, ◌<◌, ◌≤◌, Bool, true, false, ◌&&◌, List, [], ◌∷◌, ◌++◌, take, drop, get_or, length, Option, Some, None, Vec, Box, refl, sym, ap, subst, ◌∙◌, arith}
use Rattle.std.specs.declared.alloc.Global.{Global}
use Rattle.std.proofs.lemmas.List.{take_more, take-append-drop, at_drop_more}
use Rattle.gms_labels.specs.declared.place.Place.{Place}
use Rattle.gms_ast.specs.declared.expression.Suffix.{Suffix}
use Rattle.gms_ast.specs.declared.expression.Suffix.TheVariants as suffix
use Rattle.gms_ast.specs.declared.expression.Index.{Index}
use Rattle.gms_ast.specs.declared.expression.Control.{Control as ControlNode}
use Rattle.gms_ast.specs.declared.expression.Expr.{Expr, Number, Ref, And, Guard, out-Expr, roll-Expr, roll-out-Expr}
use Rattle.gms_ast.specs.declared.expression.Expr.TheOpen.{Expr-F}
use Rattle.gms_ast.specs.declared.expression.Expr.TheFolds.{fold-roll-Expr}
use Rattle.gms_ast.specs.declared.expression.Expr.TheVariants.{rolls-Number, rolls-Ref, rolls-And, rolls-Guard}
use Rattle.gms_ast.specs.Trees as tree
use Rattle.gms_ast.specs.TreeView.{tree_step, index_step, control_step, tree_of}
use Rattle.gms_ast.proofs.TreeEquations.{tree_of-Ref, tree_of-And, tree_of-Guard}
use Rattle.gms_store.specs.State.{State}
use Rattle.gms_eval.specs.Bindings.{Pairs}
use Rattle.gms_eval.specs.InnerLeading.{steps_of, IsBounded, Leading, IsShort, IsBareReference, later_traversal, indices_tree, parts_tree}
use Rattle.gms_eval.specs.Leaders.{without_lags, is_bare, never_fails, none_fails, MayLead, OneMayLead, LastMayLead, reach}
use Rattle.gms_eval.specs.declared.traversals.Traversal.{Traversal}
use Rattle.gms_eval.specs.declared.leading.Scan.{Scan}
use Rattle.gms_eval.proofs.Reaching.{count-indices}

not_both : {A : Type 0} (b : Bool) → b ≡ true → b ≡ false → A
not_both true h g = absurd cc
not_both false h g = absurd cc

module _ {F : Type 0} where
  tree-Number : (n : F) → tree_of (Number n) ≡ tree.number n
  tree-Number n = ap tree_of (sym (rolls-Number n)) ∙ fold-roll-Expr F (tree.Tree F) (tree.Indices F → tree.Indices F) (tree.Control F) tree_step index_step control_step (Expr-F.Number n)

  -- any other condition may fail, and no reference leads it
  abbrev pub IsClosed : tree.Tree F → Type 0
  IsClosed t = (never_fails t ≡ false) × ((name : ℕ) (indices : tree.Indices F) → MayLead name indices t → ⊥)

  pub other-closed : (e : Expr F) → ((n : F) → e ≡ Number n → ⊥) → ((at : Place) (name : ℕ) (sfx : Suffix) (indices : Vec (Index F) Global) → e ≡ Ref at name sfx indices → ⊥) → ((parts : Vec (Expr F) Global) → e ≡ And parts → ⊥) → ((operand : Box (Expr F) Global) (guards : Vec (Expr F) Global) → e ≡ Guard operand guards → ⊥) → IsClosed (tree_of e)
  other-closed e no_number no_ref no_and no_guard = by (out-Expr F e) (roll-out-Expr F e)
    where
      seen : (x : Expr-F F (Expr F) (Index F) (ControlNode F)) (t : tree.Tree F) → roll-Expr F x ≡ e → tree_of (roll-Expr F x) ≡ t → IsClosed t → IsClosed (tree_of e)
      seen x t is q closed = subst IsClosed (sym (ap tree_of (sym is) ∙ q)) closed

      by : (x : Expr-F F (Expr F) (Index F) (ControlNode F)) → roll-Expr F x ≡ e → IsClosed (tree_of e)
      by (Expr-F.Number n) is = absurd (no_number n (sym is ∙ rolls-Number n))
      by (Expr-F.Ref at name sfx indices) is = absurd (no_ref at name sfx indices (sym is ∙ rolls-Ref at name sfx indices))
      by (Expr-F.And parts) is = absurd (no_and parts (sym is ∙ rolls-And parts))
      by (Expr-F.Guard x y) is = absurd (no_guard x y (sym is ∙ rolls-Guard x y))
      by Expr-F.PlusInf is = seen Expr-F.PlusInf _ is (fold-roll-Expr F (tree.Tree F) (tree.Indices F → tree.Indices F) (tree.Control F) tree_step index_step control_step Expr-F.PlusInf) (refl, λ n i m. m)
      by Expr-F.Na is = seen Expr-F.Na _ is (fold-roll-Expr F (tree.Tree F) (tree.Indices F → tree.Indices F) (tree.Control F) tree_step index_step control_step Expr-F.Na) (refl, λ n i m. m)
      by Expr-F.Yes is = seen Expr-F.Yes _ is (fold-roll-Expr F (tree.Tree F) (tree.Indices F → tree.Indices F) (tree.Control F) tree_step index_step control_step Expr-F.Yes) (refl, λ n i m. m)
      by Expr-F.No is = seen Expr-F.No _ is (fold-roll-Expr F (tree.Tree F) (tree.Indices F → tree.Indices F) (tree.Control F) tree_step index_step control_step Expr-F.No) (refl, λ n i m. m)
      by (Expr-F.Ord place name) is = seen (Expr-F.Ord place name) _ is (fold-roll-Expr F (tree.Tree F) (tree.Indices F → tree.Indices F) (tree.Control F) tree_step index_step control_step (Expr-F.Ord place name)) (refl, λ n i m. m)
      by (Expr-F.Card place name) is = seen (Expr-F.Card place name) _ is (fold-roll-Expr F (tree.Tree F) (tree.Indices F → tree.Indices F) (tree.Control F) tree_step index_step control_step (Expr-F.Card place name)) (refl, λ n i m. m)
      by (Expr-F.Call place function args) is = seen (Expr-F.Call place function args) _ is (fold-roll-Expr F (tree.Tree F) (tree.Indices F → tree.Indices F) (tree.Control F) tree_step index_step control_step (Expr-F.Call place function args)) (refl, λ n i m. m)
      by (Expr-F.Fold place op control body) is = seen (Expr-F.Fold place op control body) _ is (fold-roll-Expr F (tree.Tree F) (tree.Indices F → tree.Indices F) (tree.Control F) tree_step index_step control_step (Expr-F.Fold place op control body)) (refl, λ n i m. m)
      by (Expr-F.Neg x) is = seen (Expr-F.Neg x) _ is (fold-roll-Expr F (tree.Tree F) (tree.Indices F → tree.Indices F) (tree.Control F) tree_step index_step control_step (Expr-F.Neg x)) (refl, λ n i m. m)
      by (Expr-F.Plus x) is = seen (Expr-F.Plus x) _ is (fold-roll-Expr F (tree.Tree F) (tree.Indices F → tree.Indices F) (tree.Control F) tree_step index_step control_step (Expr-F.Plus x)) (refl, λ n i m. m)
      by (Expr-F.Times x) is = seen (Expr-F.Times x) _ is (fold-roll-Expr F (tree.Tree F) (tree.Indices F → tree.Indices F) (tree.Control F) tree_step index_step control_step (Expr-F.Times x)) (refl, λ n i m. m)
      by (Expr-F.Power parts) is = seen (Expr-F.Power parts) _ is (fold-roll-Expr F (tree.Tree F) (tree.Indices F → tree.Indices F) (tree.Control F) tree_step index_step control_step (Expr-F.Power parts)) (refl, λ n i m. m)
      by (Expr-F.Relate parts) is = seen (Expr-F.Relate parts) _ is (fold-roll-Expr F (tree.Tree F) (tree.Indices F → tree.Indices F) (tree.Control F) tree_step index_step control_step (Expr-F.Relate parts)) (refl, λ n i m. m)
      by (Expr-F.Not x) is = seen (Expr-F.Not x) _ is (fold-roll-Expr F (tree.Tree F) (tree.Indices F → tree.Indices F) (tree.Control F) tree_step index_step control_step (Expr-F.Not x)) (refl, λ n i m. m)
      by (Expr-F.Or parts) is = seen (Expr-F.Or parts) _ is (fold-roll-Expr F (tree.Tree F) (tree.Indices F → tree.Indices F) (tree.Control F) tree_step index_step control_step (Expr-F.Or parts)) (refl, λ n i m. m)

  -- ---- what a condition is

  pub number-safe : (e : Expr F) (n : F) → e ≡ Number n → true ≡ never_fails (tree_of e)
  number-safe e n is = sym (ap never_fails (ap tree_of is ∙ tree-Number n))

  pub number-none : (e : Expr F) (n : F) → e ≡ Number n → (name : ℕ) (indices : tree.Indices F) → MayLead name indices (tree_of e) → ⊥
  number-none e n is name indices may = subst (MayLead name indices) (ap tree_of is ∙ tree-Number n) may

  module _ (e : Expr F) (at : Place) (other : ℕ) (sfx : Suffix) (those : Vec (Index F) Global) (is : e ≡ Ref at other sfx those) where
    tree-is : tree_of e ≡ tree.reference at other sfx (indices_tree those.items)
    tree-is = ap tree_of is ∙ tree_of-Ref at other sfx those

    not-bare : (s : Suffix) (indices : tree.Indices F) → (s ≡ suffix.None → ⊥) → is_bare s indices ≡ false
    not-bare suffix.None indices off = absurd (off refl)
    not-bare suffix.Lo indices off = refl
    not-bare suffix.Up indices off = refl
    not-bare suffix.L indices off = refl
    not-bare suffix.M indices off = refl
    not-bare suffix.Fx indices off = refl
    not-bare suffix.ModelStat indices off = refl
    not-bare suffix.SolveStat indices off = refl

    -- a reference with a suffix
    pub suffix-closed : (sfx ≡ suffix.None → ⊥) → IsClosed (tree_of e)
    suffix-closed off =
        subst IsClosed (sym tree-is) (not-bare sfx (indices_tree those.items) off, λ name indices may. not_both (is_bare sfx (indices_tree those.items)) may.0 (not-bare sfx (indices_tree those.items) off))

    -- and one without
    tree-plain : sfx ≡ suffix.None → tree_of e ≡ tree.reference at other suffix.None (indices_tree those.items)
    tree-plain none = tree-is ∙ ap (λ s. tree.reference at other s (indices_tree those.items)) none

    pub plain-safe : (indices : List (Index F)) (safe : Bool) → sfx ≡ suffix.None → indices ≡ those.items → safe ≡ without_lags (indices_tree indices) → safe ≡ never_fails (tree_of e)
    plain-safe indices safe none same told =
        told ∙ ap (λ those. without_lags (indices_tree those)) same ∙ sym (ap never_fails (tree-plain none))

    pub plain-leads : (indices : List (Index F)) → sfx ≡ suffix.None → indices ≡ those.items → (name : ℕ) (i : tree.Indices F) → MayLead name i (tree_of e) → IsBareReference other (indices_tree indices) name i
    plain-leads indices none same name i may =
        subst (λ those. IsBareReference other (indices_tree those) name i) (sym same) (subst (MayLead name i) (tree-plain none) may)

  module _ (e : Expr F) (parts : Vec (Expr F) Global) (is : e ≡ And parts) (those : List (Expr F)) (same : those ≡ parts.items) where
    tree-and : tree_of e ≡ tree.all_of (parts_tree those)
    tree-and = ap tree_of is ∙ tree_of-And parts ∙ ap (λ ps. tree.all_of (parts_tree ps)) (sym same)

    pub and-safe : (safe : Bool) → safe ≡ none_fails (parts_tree those) → safe ≡ never_fails (tree_of e)
    and-safe safe told = told ∙ sym (ap never_fails tree-and)

    pub and-leads : (name : ℕ) (i : tree.Indices F) → MayLead name i (tree_of e) → OneMayLead name i (parts_tree those)
    and-leads name i may = subst (MayLead name i) tree-and may

  module _ (e : Expr F) (operand : Box (Expr F) Global) (guards : Vec (Expr F) Global) (is : e ≡ Guard operand guards) (those : List (Expr F)) (same : those ≡ guards.items) where
    tree-guard : tree_of e ≡ tree.guarded (tree_of operand.value) (parts_tree those)
    tree-guard = ap tree_of is ∙ tree_of-Guard operand guards ∙ ap (λ gs. tree.guarded (tree_of operand.value) (parts_tree gs)) (sym same)

    -- where a guard may fail, no factor of what it guards leads
    pub guard-unsafe : (safe : Bool) → safe ≡ false → safe ≡ none_fails (parts_tree those) → safe ≡ never_fails (tree_of e)
    guard-unsafe safe unsafe told =
        unsafe ∙ sym (ap never_fails tree-guard ∙ ap (λ v. v && never_fails (tree_of operand.value)) (sym told ∙ unsafe))

    pub guard-unsafe_leads : (safe : Bool) → safe ≡ false → safe ≡ none_fails (parts_tree those) → (name : ℕ) (i : tree.Indices F) → MayLead name i (tree_of e) → LastMayLead name i (parts_tree those)
    guard-unsafe_leads safe unsafe told name i may =
        let here : MayLead name i (tree.guarded (tree_of operand.value) (parts_tree those)) = subst (MayLead name i) tree-guard may in
        elim here [
          | inl last ↦ last
          | inr following ↦ not_both (none_fails (parts_tree those)) following.0 (sym told ∙ unsafe)
        ]

    module _ (under : Expr F) (at : under ≡ operand.value) where
      pub guard-safe : (first second : Bool) → first ≡ true → first ≡ none_fails (parts_tree those) → second ≡ never_fails (tree_of under) → second ≡ never_fails (tree_of e)
      guard-safe first second sure told later =
          later
          ∙ ap (λ x. never_fails (tree_of x)) at
          ∙ ap (λ v. v && never_fails (tree_of operand.value)) (sym sure ∙ told)
          ∙ sym (ap never_fails tree-guard)

      pub guard-leads : (name : ℕ) (i : tree.Indices F) → MayLead name i (tree_of e) → LastMayLead name i (parts_tree those) ⊎ MayLead name i (tree_of under)
      guard-leads name i may =
          let here : MayLead name i (tree.guarded (tree_of operand.value) (parts_tree those)) = subst (MayLead name i) tree-guard may in
          elim here [
            | inl last ↦ inl last
            | inr following ↦ inr (subst (λ x. MayLead name i (tree_of x)) (sym at) following.1)
          ]

  -- ---- conditions in sequence

  -- one more, after those that never fail
  more-safe : (xs : List (Expr F)) (x : Expr F) → none_fails (parts_tree xs) ≡ true → none_fails (parts_tree (xs ++ x ∷ [])) ≡ never_fails (tree_of x)
  more-safe [] x sure = and-true (never_fails (tree_of x))
  more-safe (y ∷ xs) x sure =
      let both = both-true (never_fails (tree_of y)) (none_fails (parts_tree xs)) sure in
      ap (λ v. v && none_fails (parts_tree (xs ++ x ∷ []))) both.0 ∙ more-safe xs x both.1
    where
      both-true : (a b : Bool) → (a && b) ≡ true → (a ≡ true) × (b ≡ true)
      both-true true b h = (refl, h)
      both-true false b h = absurd cc

  more-leads : (name : ℕ) (i : tree.Indices F) (xs : List (Expr F)) (x : Expr F) → OneMayLead name i (parts_tree (xs ++ x ∷ [])) → OneMayLead name i (parts_tree xs) ⊎ MayLead name i (tree_of x)
  more-leads name i [] x (inl may) = inr may
  more-leads name i [] x (inr later) = absurd later.1
  more-leads name i (y ∷ xs) x (inl may) = inl (inl may)
  more-leads name i (y ∷ xs) x (inr later) =
      elim (more-leads name i xs x later.1) [ inl one ↦ inl (inr (later.0, one)) | inr may ↦ inr may ]

  module _ (parts : List (Expr F)) (k : ℕ) (part : Expr F) (l : k < length parts) (at : part ≡ get_or parts k part) where
    taken : take (k + 1) parts ≡ take k parts ++ part ∷ []
    taken = take_more parts k part l ∙ ap (λ p. take k parts ++ p ∷ []) (sym at)

    pub part-safe : (first second result : Bool) → first ≡ true → first ≡ none_fails (parts_tree (take k parts)) → second ≡ never_fails (tree_of part) → result ≡ second → result ≡ none_fails (parts_tree (take (k + 1) parts))
    part-safe first second result sure told later is =
        is
        ∙ later
        ∙ sym (more-safe (take k parts) part (sym told ∙ sure))
        ∙ sym (ap (λ ps. none_fails (parts_tree ps)) taken)

    pub part-leads : (name : ℕ) (i : tree.Indices F) → OneMayLead name i (parts_tree (take (k + 1) parts)) → OneMayLead name i (parts_tree (take k parts)) ⊎ MayLead name i (tree_of part)
    part-leads name i may = more-leads name i (take k parts) part (subst (λ ps. OneMayLead name i (parts_tree ps)) taken may)

  -- after one that may fail
  beginning-fails : (xs ys : List (Expr F)) → none_fails (parts_tree xs) ≡ false → none_fails (parts_tree (xs ++ ys)) ≡ false
  beginning-fails [] ys off = not_both true refl off
  beginning-fails (x ∷ xs) ys off = by (beginning-fails xs ys) (never_fails (tree_of x)) off
    where
      by : (none_fails (parts_tree xs) ≡ false → none_fails (parts_tree (xs ++ ys)) ≡ false) → (b : Bool) → (b && none_fails (parts_tree xs)) ≡ false → (b && none_fails (parts_tree (xs ++ ys))) ≡ false
      by rest true other = rest other
      by rest false other = refl

  beginning-leads : (name : ℕ) (i : tree.Indices F) (xs ys : List (Expr F)) → none_fails (parts_tree xs) ≡ false → OneMayLead name i (parts_tree (xs ++ ys)) → OneMayLead name i (parts_tree xs)
  beginning-leads name i [] ys off may = not_both true refl off
  beginning-leads name i (x ∷ xs) ys off (inl may) = inl may
  beginning-leads name i (x ∷ xs) ys off (inr later) =
      inr (later.0, beginning-leads name i xs ys (ap (λ v. v && none_fails (parts_tree xs)) (sym later.0) ∙ off) later.1)

  module _ (parts : List (Expr F)) (k : ℕ) where
    pub parts-unsafe : (safe : Bool) → safe ≡ false → safe ≡ none_fails (parts_tree (take k parts)) → safe ≡ none_fails (parts_tree parts)
    parts-unsafe safe unsafe told =
        unsafe ∙ sym (ap (λ ps. none_fails (parts_tree ps)) (sym (take-append-drop k parts)) ∙ beginning-fails (take k parts) (drop k parts) (sym told ∙ unsafe))

    pub parts-unsafe_leads : (safe : Bool) → safe ≡ false → safe ≡ none_fails (parts_tree (take k parts)) → (name : ℕ) (i : tree.Indices F) → OneMayLead name i (parts_tree parts) → OneMayLead name i (parts_tree (take k parts))
    parts-unsafe_leads safe unsafe told name i may =
        beginning-leads name i (take k parts) (drop k parts) (sym told ∙ unsafe) (subst (λ ps. OneMayLead name i (parts_tree ps)) (sym (take-append-drop k parts)) may)

  -- ---- guards

  module _ (guards : List (Expr F)) (p : ℕ) (guard : Expr F) (some : 0 < p) (within : p ≤ length guards) (at : guard ≡ get_or guards (p - 1) guard) where
    guard-at : parts_tree (drop (p - 1) guards) ≡ tree.part tree.plain (tree_of guard) (parts_tree (drop p guards))
    guard-at =
        let n : p - 1 + 1 ≡ p = omega arith in
        at_drop_more (λ gs. parts_tree gs) guards (p - 1) guard (omega arith)
        ∙ ap (λ g. tree.part tree.plain (tree_of g) (parts_tree (drop (p - 1 + 1) guards))) (sym at)
        ∙ ap (λ k. tree.part tree.plain (tree_of guard) (parts_tree (drop k guards))) n

    pub guard-more : (first second result : Bool) → first ≡ true → first ≡ none_fails (parts_tree (drop p guards)) → second ≡ never_fails (tree_of guard) → result ≡ second → result ≡ none_fails (parts_tree (drop (p - 1) guards))
    guard-more first second result sure told later is =
        is
        ∙ later
        ∙ sym (and-true (never_fails (tree_of guard)))
        ∙ ap (λ v. never_fails (tree_of guard) && v) (sym sure ∙ told)
        ∙ sym (ap none_fails guard-at)

    pub guard-more_leads : (name : ℕ) (i : tree.Indices F) → LastMayLead name i (parts_tree (drop (p - 1) guards)) → LastMayLead name i (parts_tree (drop p guards)) ⊎ MayLead name i (tree_of guard)
    guard-more_leads name i may =
        let here : LastMayLead name i (tree.part tree.plain (tree_of guard) (parts_tree (drop p guards))) = subst (LastMayLead name i) guard-at may in
        elim here [ inl last ↦ inl last | inr following ↦ inr following.1 ]

  following-fails : (xs ys : List (Expr F)) → none_fails (parts_tree ys) ≡ false → none_fails (parts_tree (xs ++ ys)) ≡ false
  following-fails [] ys off = off
  following-fails (x ∷ xs) ys off = ap (λ v. never_fails (tree_of x) && v) (following-fails xs ys off) ∙ and-false (never_fails (tree_of x))

  following-leads : (name : ℕ) (i : tree.Indices F) (xs ys : List (Expr F)) → none_fails (parts_tree ys) ≡ false → LastMayLead name i (parts_tree (xs ++ ys)) → LastMayLead name i (parts_tree ys)
  following-leads name i [] ys off may = may
  following-leads name i (x ∷ xs) ys off (inl last) = following-leads name i xs ys off last
  following-leads name i (x ∷ xs) ys off (inr first) = not_both (none_fails (parts_tree (xs ++ ys))) first.0 (following-fails xs ys off)

  module _ (guards : List (Expr F)) (p : ℕ) where
    pub guards-unsafe : (safe : Bool) → safe ≡ false → safe ≡ none_fails (parts_tree (drop p guards)) → safe ≡ none_fails (parts_tree guards)
    guards-unsafe safe unsafe told =
        unsafe ∙ sym (ap (λ gs. none_fails (parts_tree gs)) (sym (take-append-drop p guards)) ∙ following-fails (take p guards) (drop p guards) (sym told ∙ unsafe))

    pub guards-unsafe_leads : (safe : Bool) → safe ≡ false → safe ≡ none_fails (parts_tree (drop p guards)) → (name : ℕ) (i : tree.Indices F) → LastMayLead name i (parts_tree guards) → LastMayLead name i (parts_tree (drop p guards))
    guards-unsafe_leads safe unsafe told name i may =
        following-leads name i (take p guards) (drop p guards) (sym told ∙ unsafe) (subst (λ gs. LastMayLead name i (parts_tree gs)) (sym (take-append-drop p guards)) may)

comes-both : (first second : Option Traversal) (bound one two : ℕ) → two ≤ one → IsBounded bound one first → IsBounded one two second → IsBounded bound two (later_traversal first second)
comes-both None None bound one two le a c = omega (arith, le, a, c)
comes-both (Some traversal) None bound one two le a c = omega (arith, le, a, c)
comes-both first (Some traversal) bound one two le a c = c

-- ---- how short a traversal is

module _ {F : Type 0} (state : State) (b : Pairs) (sets : List ℕ) where
  -- where fewer references lead
  pub short-fewer : (bound : ℕ) (one other : Leading F) (scan : Scan) → ((name : ℕ) (i : tree.Indices F) → other name i → one name i) → IsShort state b sets bound one scan → IsShort state b sets bound other scan
  short-fewer bound one other scan fewer s =
      record { below = s.below; comes = s.comes; fewest = λ name i leads. s.fewest name i (fewer name i leads) }

  -- where none leads
  pub short-none : (bound : ℕ) (leading : Leading F) (scan : Scan) → scan.bound ≡ bound → scan.traversal ≡ None → ((name : ℕ) (i : tree.Indices F) → leading name i → ⊥) → IsShort state b sets bound leading scan
  short-none bound leading scan same none off =
      record {
        below = omega (arith, same);
        comes = subst (IsBounded bound scan.bound) (sym none) (let le : bound ≤ scan.bound = omega (arith, same) in le);
        fewest = λ name i leads. absurd (off name i leads);
      }

  -- two conditions, of which the second is examined with the bound of the first
  pub short-both : (bound : ℕ) (one other both : Leading F) (first second result : Scan) → result.bound ≡ second.bound → result.traversal ≡ later_traversal first.traversal second.traversal → ((name : ℕ) (i : tree.Indices F) → both name i → one name i ⊎ other name i) → IsShort state b sets bound one first → IsShort state b sets first.bound other second → IsShort state b sets bound both result
  short-both bound one other both first second result same_bound same_traversal parts s t =
      record {
        below = omega (arith, same_bound, s.below, t.below);
        comes = subst (IsBounded bound result.bound) (sym same_traversal) (subst (λ n. IsBounded bound n (later_traversal first.traversal second.traversal)) (sym same_bound) (comes-both first.traversal second.traversal bound first.bound second.bound t.below s.comes t.comes));
        fewest = λ name i leads. elim (parts name i leads) [
          | inl here ↦ omega (arith, same_bound, t.below, s.fewest name i here)
          | inr there ↦ omega (arith, same_bound, t.fewest name i there)
        ];
      }

  module _ (bound name : ℕ) (indices : List (Index F)) (scan : Scan) where
    few : (other : ℕ) (i : tree.Indices F) → IsBareReference name (indices_tree indices) other i → length indices ≤ 10
    few other i h = omega (arith, h.1, count-indices indices)

    reach-same : (other : ℕ) (i : tree.Indices F) → IsBareReference name (indices_tree indices) other i → reach state b sets name (indices_tree indices) ≡ reach state b sets other i
    reach-same other i h = ap (λ n. reach state b sets n (indices_tree indices)) h.2 ∙ ap (reach state b sets other) h.3

    -- a reference by which a traversal goes
    pub short-traversal : (traversal : Traversal) → scan.traversal ≡ Some traversal → scan.bound ≡ steps_of traversal → steps_of traversal < bound → (length indices ≤ 10 → steps_of traversal ≡ reach state b sets name (indices_tree indices)) → IsShort state b sets bound (IsBareReference name (indices_tree indices)) scan
    short-traversal traversal there same shorter is =
        record {
          below = omega (arith, same, shorter);
          comes = subst (IsBounded bound scan.bound) (sym there) (let le : steps_of traversal ≤ scan.bound = omega (arith, same) in le);
          fewest = λ other i h. omega (arith, same, is (few other i h), reach-same other i h);
        }

    -- and one that it does not
    pub short-no_traversal : scan.traversal ≡ None → scan.bound ≡ bound → (length indices ≤ 10 → bound ≤ reach state b sets name (indices_tree indices)) → IsShort state b sets bound (IsBareReference name (indices_tree indices)) scan
    short-no_traversal none same le =
        record {
          below = omega (arith, same);
          comes = subst (IsBounded bound scan.bound) (sym none) (let more : bound ≤ scan.bound = omega (arith, same) in more);
          fewest = λ other i h. omega (arith, same, le (few other i h), reach-same other i h);
        }

    -- a reference with a lag leads no traversal
    pub lagged-none : without_lags (indices_tree indices) ≡ false → (other : ℕ) (i : tree.Indices F) → IsBareReference name (indices_tree indices) other i → ⊥
    lagged-none lags other i h = not_both (without_lags (indices_tree indices)) h.0 lags
