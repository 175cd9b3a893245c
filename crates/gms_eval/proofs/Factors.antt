-- What is known of a condition that is a number or a reference, and that a traversal led by a
-- factor finds all elements.
use Rattle.std.proofs.Common.{◌≡◌, ℕ, Bool, true, false, ◌&&◌, List, Option, Some, None, Ok, Err, Result, Vec, Box, IfOk, is_ok, refl, sym, ap, subst, ◌∙◌}
use Rattle.std.specs.declared.alloc.Global.{Global}
use Rattle.std.proofs.lemmas.Result.{IfOk-weaker}
use Rattle.std.specs.declared.alloc.AllocError.{AllocError}
use Rattle.gms_labels.specs.declared.place.Place.{Place}
use Rattle.gq_number.specs.Number.{Number}
use Rattle.std.specs.List.{All}
use Rattle.gms_ast.specs.TreeView.{tree_of}
use Rattle.gms_ast.specs.declared.expression.Suffix.{Suffix}
use Rattle.gms_ast.specs.declared.expression.Suffix.TheVariants as suffix
use Rattle.gms_ast.specs.declared.expression.Index.{Index}
use Rattle.gms_ast.specs.declared.expression.Expr.{Expr, Ref, And, Guard}
use Rattle.gms_store.specs.State.{State}
use Rattle.gms_tuple.specs.TupleOrder.{IsOrdered}
use Rattle.gms_tuple.specs.TupleSet.{has}
use Rattle.gms_eval.specs.Bindings.{Pairs, controlled}
use Rattle.gms_eval.specs.Domain.{elements, those_where, IsSimple}
use Rattle.gms_eval.specs.Holds.{holds}
use Rattle.gms_eval.specs.declared.traversals.Traversal.{Traversal}
use Rattle.gms_eval.specs.Faults.{Answer, ◌and_then◌}
use Rattle.gms_eval.specs.InnerLeading.{traversed, both, Leads, IsScan, plain_so, tuple_answer, entry_holds, expression_holds, all_hold_in_turn, guards_hold}
use Rattle.gms_eval.specs.References.{entry_or_zero}
use Rattle.gms_eval.specs.Value.{when_so}
use Rattle.gms_eval.specs.declared.leading.Scan.{Scan}
use Rattle.gms_eval.proofs.NodeValues.{value-Ref}
use Rattle.gms_eval.proofs.Scanning.{scan-follows, scan-And, scan-Guard, scan-Guard_unsafe}
use Rattle.gms_eval.proofs.Simple.{elements-ordered}
use Rattle.gms_eval.proofs.Thinning.{traversal-thinned}

module _ {F : Type 0} (v : F → Number) (limit : ℕ) (state : State) (binding : Pairs) (sets : List ℕ) where
  so-entry : (b : Pairs) (at : Place) (name : ℕ) (a : Answer (Option (List ℕ))) → when_so (a and_then entry_or_zero limit state b at name suffix.None) ≡ (a and_then λ tuple. Ok (plain_so state name tuple))
  so-entry b at name (Ok None) = refl
  so-entry b at name (Ok (Some tuple)) = refl
  so-entry b at name (Err fault) = refl

  holds-Ref : (at : Place) (name : ℕ) (indices : Vec (Index F) Global) (b : Pairs) → expression_holds v limit state (Ref at name suffix.None indices) b ≡ entry_holds v limit state name indices.items b
  holds-Ref at name indices b =
      ap when_so (value-Ref v limit state b at name suffix.None indices) ∙ so-entry b at name (tuple_answer v limit state indices.items b)

  -- a reference without a suffix
  pub scan-Ref : (at : Place) (name : ℕ) (indices : Vec (Index F) Global) (scan : Scan) → IsScan state binding sets (entry_holds v limit state name indices.items) scan → IsScan state binding sets (expression_holds v limit state (Ref at name suffix.None indices)) scan
  scan-Ref at name indices scan known =
      scan-follows state binding sets (entry_holds v limit state name indices.items) (expression_holds v limit state (Ref at name suffix.None indices)) scan (λ b ok. ap is_ok (holds-Ref at name indices b) ∙ ok) (λ b e. holds-Ref at name indices b ∙ e) known

  -- the same of what the code has read of a condition

  pub known-Ref : (e : Expr F) (at : Place) (name : ℕ) (sfx : Suffix) (indices : Vec (Index F) Global) (those : List (Index F)) (r : Result Scan AllocError) → e ≡ Ref at name sfx indices → sfx ≡ suffix.None → those ≡ indices.items → IfOk r (λ scan. IsScan state binding sets (entry_holds v limit state name those) scan) → IfOk r (λ scan. IsScan state binding sets (expression_holds v limit state e) scan)
  known-Ref e at name sfx indices those r is none same known =
      IfOk-weaker r (λ scan. IsScan state binding sets (entry_holds v limit state name those) scan) (λ scan. IsScan state binding sets (expression_holds v limit state e) scan) (λ scan k. subst (λ e. IsScan state binding sets (expression_holds v limit state e) scan) (sym (is ∙ ap (λ s. Ref at name s indices) none)) (scan-Ref at name indices scan (subst (λ those. IsScan state binding sets (entry_holds v limit state name those) scan) same k))) known

  pub known-And : (e : Expr F) (parts : Vec (Expr F) Global) (those : List (Expr F)) (r : Result Scan AllocError) → e ≡ And parts → those ≡ parts.items → IfOk r (λ scan. IsScan state binding sets (all_hold_in_turn v limit state those) scan) → IfOk r (λ scan. IsScan state binding sets (expression_holds v limit state e) scan)
  known-And e parts those r is same known =
      IfOk-weaker r (λ scan. IsScan state binding sets (all_hold_in_turn v limit state those) scan) (λ scan. IsScan state binding sets (expression_holds v limit state e) scan) (λ scan k. subst (λ e. IsScan state binding sets (expression_holds v limit state e) scan) (sym is) (scan-And v limit state binding sets scan parts (subst (λ those. IsScan state binding sets (all_hold_in_turn v limit state those) scan) same k))) known

  module _ (e : Expr F) (operand : Box (Expr F) Global) (guards : Vec (Expr F) Global) (those : List (Expr F)) (scan : Scan) (is : e ≡ Guard operand guards) (same : those ≡ guards.items) where
    pub known-Guard_unsafe : scan.safe ≡ false → IsScan state binding sets (guards_hold v limit state those) scan → IsScan state binding sets (expression_holds v limit state e) scan
    known-Guard_unsafe unsafe k =
        subst (λ e. IsScan state binding sets (expression_holds v limit state e) scan) (sym is) (scan-Guard_unsafe v limit state binding sets scan operand guards unsafe (subst (λ those. IsScan state binding sets (guards_hold v limit state those) scan) same k))

    pub known-Guard : (under : Expr F) → under ≡ operand.value → IsScan state binding sets (λ b. both (guards_hold v limit state those b) (expression_holds v limit state under b)) scan → IsScan state binding sets (expression_holds v limit state e) scan
    known-Guard under at k =
        subst (λ e. IsScan state binding sets (expression_holds v limit state e) scan) (sym is) (scan-Guard v limit state binding sets scan operand guards (subst (λ those. IsScan state binding sets (λ b. both (guards_hold v limit state those b) (expression_holds v limit state operand.value b)) scan) same (subst (λ under. IsScan state binding sets (λ b. both (guards_hold v limit state those b) (expression_holds v limit state under b)) scan) at k)))

  -- a traversal that leads visits all elements at which the condition may hold
  pub led : (e : Expr F) (traversal : Traversal) (found : List (List ℕ)) → All (IsSimple state) sets → IsOrdered found → ((t : List ℕ) → has found t ≡ (has (traversed state traversal) t && has (elements state sets) t)) → Leads state binding sets (expression_holds v limit state e) traversal → those_where (λ element. holds v limit state (controlled binding sets element) (tree_of e)) found ≡ those_where (λ element. holds v limit state (controlled binding sets element) (tree_of e)) (elements state sets)
  led e traversal found simple ordered members leads =
      traversal-thinned (λ element. holds v limit state (controlled binding sets element) (tree_of e)) (elements state sets) found (elements-ordered state sets simple) ordered (λ t there. second (has (traversed state traversal) t) (has (elements state sets) t) (sym (members t) ∙ there)) (λ x there out. leads.needed x there (first (has (traversed state traversal) x) (has (elements state sets) x) there (sym (members x) ∙ out)))
    where
      second : (a b : Bool) → (a && b) ≡ true → b ≡ true
      second true b e = e
      second false b e = absurd cc

      first : (a b : Bool) → b ≡ true → (a && b) ≡ false → a ≡ false
      first true b there out = there_not b there out
        where
          there_not : (b : Bool) → b ≡ true → b ≡ false → true ≡ false
          there_not b there out = sym there ∙ out
      first false b there out = refl

  -- a domain found by a traversal of other elements at which the condition may hold
  pub by-others : (e same : Expr F) (whole : Answer (List (List ℕ))) (all among : List (List ℕ)) → same ≡ e → whole ≡ those_where (λ element. holds v limit state (controlled binding sets element) (tree_of e)) all → those_where (λ element. holds v limit state (controlled binding sets element) (tree_of e)) among ≡ those_where (λ element. holds v limit state (controlled binding sets element) (tree_of e)) all → whole ≡ those_where (λ element. holds v limit state (controlled binding sets element) (tree_of same)) among
  by-others e same whole all among is so thinner =
      so
      ∙ sym thinner
      ∙ ap (λ x. those_where (λ element. holds v limit state (controlled binding sets element) (tree_of x)) among) (sym is)
