-- What is known of a condition from what is known of its factors, which are evaluated in sequence.
use Rattle.std.proofs.Common.{◌≡◌, ℕ, ◌+◌, ◌-◌, ◌<◌, ◌≤◌, Bool, true, false, not, List, [], ◌∷◌, ◌++◌, map, fold, take, drop, get_or, length, Option, Some, None, Ok, Err, Vec, Box, IsOk, IfSome, is_ok, if◌then◌else◌, refl, sym, ap, subst, ◌∙◌, arith}
use Rattle.std.proofs.lemmas.List.{take_more, take_all, take-append-drop, at_drop_more}
use Rattle.std.proofs.lemmas.List.Sums.{fold_push, fold-append}
use Rattle.std.specs.declared.alloc.Global.{Global}
use Rattle.gq_number.specs.Number.{Number, whole}
use Rattle.gq_extended.specs.Extended.{Extended}
use Rattle.gms_ast.specs.declared.expression.Expr.{Expr, And, Guard}
use Rattle.gms_ast.specs.Trees as tree
use Rattle.gms_store.specs.State.{State}
use Rattle.gms_eval.specs.Nodes.{Marked, joined, chain, all_step, each_holds, is_so, truth}
use Rattle.gms_eval.specs.Bindings.{Pairs, controlled}
use Rattle.gms_eval.specs.Faults.{Answer, Fault, nothing, ◌and_then◌}
use Rattle.gms_eval.specs.InnerLeading.{Condition, both, each_in_turn, Leads, IsScan, expression_holds, all_hold_in_turn, guards_hold}
use Rattle.gms_eval.specs.Value.{when_so}
use Rattle.gms_eval.specs.declared.leading.Scan.{Scan}
use Rattle.gms_eval.specs.declared.traversals.Traversal.{Traversal}
use Rattle.gms_eval.proofs.Guards.{holds-start, one-fails}
use Rattle.gms_eval.proofs.NodeValues.{of_expr, value-And, value-Guard}
use Rattle.gms_eval.proofs.Zeros.{whole_zero}

pub nothing_not_so : is_so nothing ≡ false
nothing_not_so = ap not whole_zero

-- ---- two conditions

both-false : (b : Answer Bool) → both (Ok false) b ≡ Ok false
both-false b = refl

pub first-false : (a b : Answer Bool) → a ≡ Ok false → both a b ≡ Ok false
first-false a b e = ap (λ a. both a b) e

-- where the first has no fault and the second does not hold, both do not
pub second-false : (a b : Answer Bool) → IsOk a → b ≡ Ok false → both a b ≡ Ok false
second-false (Ok true) b ok e = e
second-false (Ok false) b ok e = refl
second-false (Err fault) b ok e = absurd cc

pub both-ok : (a b : Answer Bool) → IsOk a → IsOk b → IsOk (both a b)
both-ok (Ok true) b ok other = other
both-ok (Ok false) b ok other = refl
both-ok (Err fault) b ok other = absurd cc

-- ---- scans

module _ (state : State) (binding : Pairs) (sets : List ℕ) where
  -- a condition that fails where another fails, and has a fault only where the other has one, has
  -- the same scan
  pub scan-follows : (one other : Condition) (scan : Scan) → ((b : Pairs) → IsOk (one b) → IsOk (other b)) → ((b : Pairs) → one b ≡ Ok false → other b ≡ Ok false) → IsScan state binding sets one scan → IsScan state binding sets other scan
  scan-follows one other scan ok fails known =
      record {
        safe = λ so b. ok b (known.safe so b);
        leads = traversal-follows scan.traversal known.leads;
      }
    where
      traversal-follows : (traversal : Option Traversal) → IfSome traversal (λ w. Leads state binding sets one w) → IfSome traversal (λ w. Leads state binding sets other w)
      traversal-follows None l = l
      traversal-follows (Some w) l =
          record { few = l.few; range = l.range; within = l.within; counted = l.counted; needed = λ x long out. fails (controlled binding sets x) (l.needed x long out) }

  -- of a scan in which a fault is possible, only that the condition fails where the other does
  pub scan-unsafe : (one other : Condition) (scan : Scan) → scan.safe ≡ false → ((b : Pairs) → one b ≡ Ok false → other b ≡ Ok false) → IsScan state binding sets one scan → IsScan state binding sets other scan
  scan-unsafe one other scan unsafe fails known =
      record {
        safe = λ so. absurd (let f : false ≡ true = sym unsafe ∙ so in cc);
        leads = traversal-follows scan.traversal known.leads;
      }
    where
      traversal-follows : (traversal : Option Traversal) → IfSome traversal (λ w. Leads state binding sets one w) → IfSome traversal (λ w. Leads state binding sets other w)
      traversal-follows None l = l
      traversal-follows (Some w) l =
          record { few = l.few; range = l.range; within = l.within; counted = l.counted; needed = λ x long out. fails (controlled binding sets x) (l.needed x long out) }

  -- without a traversal, nothing is known of a condition that may have a fault
  pub scan-nothing : (one : Condition) (scan : Scan) → scan.safe ≡ false → scan.traversal ≡ None → IsScan state binding sets one scan
  scan-nothing one scan unsafe none =
      record {
        safe = λ so. absurd (let f : false ≡ true = sym unsafe ∙ so in cc);
        leads = subst (λ traversal. IfSome traversal (λ w. Leads state binding sets one w)) (sym none) tt;
      }

  -- without a traversal, a condition that never has a fault
  pub scan-safe : (one : Condition) (scan : Scan) → scan.traversal ≡ None → ((b : Pairs) → IsOk (one b)) → IsScan state binding sets one scan
  scan-safe one scan none ok =
      record {
        safe = λ so b. ok b;
        leads = subst (λ traversal. IfSome traversal (λ w. Leads state binding sets one w)) (sym none) tt;
      }

  -- the traversal of the second condition serves, where the first has no fault
  pub scan-second : (one other : Condition) (first second result : Scan) (traversal : Traversal) → first.safe ≡ true → second.traversal ≡ Some traversal → result.safe ≡ second.safe → result.traversal ≡ Some traversal → IsScan state binding sets one first → IsScan state binding sets other second → IsScan state binding sets (λ b. both (one b) (other b)) result
  scan-second one other first second result traversal sure has_traversal same_safe same_traversal known later =
      let l : Leads state binding sets other traversal = subst (λ w. IfSome w (λ w. Leads state binding sets other w)) has_traversal later.leads in
      record {
        safe = λ so b. both-ok (one b) (other b) (known.safe sure b) (later.safe (sym same_safe ∙ so) b);
        leads = subst (λ w. IfSome w (λ w. Leads state binding sets (λ b. both (one b) (other b)) w)) (sym same_traversal) (record { few = l.few; range = l.range; within = l.within; counted = l.counted; needed = λ x long out. second-false (one (controlled binding sets x)) (other (controlled binding sets x)) (known.safe sure (controlled binding sets x)) (l.needed x long out) });
      }

  -- and else that of the first
  pub scan-first : (one other : Condition) (first second result : Scan) → first.safe ≡ true → result.safe ≡ second.safe → result.traversal ≡ first.traversal → IsScan state binding sets one first → IsScan state binding sets other second → IsScan state binding sets (λ b. both (one b) (other b)) result
  scan-first one other first second result sure same_safe same_traversal known later =
      record {
        safe = λ so b. both-ok (one b) (other b) (known.safe sure b) (later.safe (sym same_safe ∙ so) b);
        leads = subst (λ w. IfSome w (λ w. Leads state binding sets (λ b. both (one b) (other b)) w)) (sym same_traversal) (traversal-first first.traversal known.leads);
      }
    where
      traversal-first : (traversal : Option Traversal) → IfSome traversal (λ w. Leads state binding sets one w) → IfSome traversal (λ w. Leads state binding sets (λ b. both (one b) (other b)) w)
      traversal-first None l = l
      traversal-first (Some w) l =
          record { few = l.few; range = l.range; within = l.within; counted = l.counted; needed = λ x long out. first-false (one (controlled binding sets x)) (other (controlled binding sets x)) (l.needed x long out) }

-- ---- conditions in sequence

stays-false : (answers : List (Answer Bool)) → fold both (Ok false) answers ≡ Ok false
stays-false [] = refl
stays-false (a ∷ answers) = stays-false answers

stays-fault : (fault : Fault) (answers : List (Answer Bool)) → fold both (Err fault) answers ≡ Err fault
stays-fault fault [] = refl
stays-fault fault (a ∷ answers) = stays-fault fault answers

both-true : (a : Answer Bool) → both (Ok true) a ≡ a
both-true a = refl

truth-so : (b : Bool) → is_so (truth b) ≡ b
unfolding whole
truth-so true = refl
truth-so false = nothing_not_so

-- `and` after a value holds where each later part does
and-after : (x : Extended) (parts : Marked) → when_so (joined all_step (Ok nothing) (Some x) parts) ≡ fold both (Ok (is_so x)) (map (λ part. when_so part.1) parts)
and-after x [] = refl
and-after x (part ∷ parts) = by (λ y. and-after y parts) (is_so x) part.1
  where
    by : ((y : Extended) → when_so (joined all_step (Ok nothing) (Some y) parts) ≡ fold both (Ok (is_so y)) (map (λ part. when_so part.1) parts)) → (b : Bool) (a : Answer Extended) → when_so ((if b then a and_then (λ y. Ok (truth (is_so y))) else Ok (truth false)) and_then λ y. joined all_step (Ok nothing) (Some y) parts) ≡ fold both (both (Ok b) (when_so a)) (map (λ part. when_so part.1) parts)
    by rest true (Ok y) =
        rest (truth (is_so y)) ∙ ap (λ b. fold both (Ok b) (map (λ part. when_so part.1) parts)) (truth-so (is_so y))
    by rest true (Err fault) = sym (stays-fault fault (map (λ part. when_so part.1) parts))
    by rest false a =
        rest (truth false) ∙ ap (λ b. fold both (Ok b) (map (λ part. when_so part.1) parts)) nothing_not_so

and-false : (parts : Marked) → each_in_turn (map (λ part. when_so part.1) parts) ≡ Ok false → when_so (chain all_step parts) ≡ Ok false
and-false [] e = absurd cc
and-false (part ∷ parts) e = by part.1 e
  where
    by : (a : Answer Extended) → fold both (both (Ok true) (when_so a)) (map (λ part. when_so part.1) parts) ≡ Ok false → when_so (a and_then λ x. joined all_step (Ok nothing) (Some x) parts) ≡ Ok false
    by (Ok x) e = and-after x parts ∙ e
    by (Err fault) e = absurd (let f : Err fault ≡ Ok false = sym (stays-fault fault (map (λ part. when_so part.1) parts)) ∙ e in cc)

and-ok : (parts : Marked) → IsOk (each_in_turn (map (λ part. when_so part.1) parts)) → IsOk (when_so (chain all_step parts))
and-ok [] e = refl
and-ok (part ∷ parts) e = by part.1 e
  where
    by : (a : Answer Extended) → is_ok (fold both (both (Ok true) (when_so a)) (map (λ part. when_so part.1) parts)) ≡ true → is_ok (when_so (a and_then λ x. joined all_step (Ok nothing) (Some x) parts)) ≡ true
    by (Ok x) e = ap is_ok (and-after x parts) ∙ e
    by (Err fault) e = absurd (let f : false ≡ true = sym (ap is_ok (stays-fault fault (map (λ part. when_so part.1) parts))) ∙ e in cc)

-- ---- nodes of the program

module _ {F : Type 0} (v : F → Number) (limit : ℕ) (state : State) where
  marked-part : (b : Pairs) (parts : List (Expr F)) → map (λ (part : tree.Mark × Answer Extended). when_so part.1) (map (λ p. (tree.plain, of_expr v limit state b p)) parts) ≡ map (λ p. expression_holds v limit state p b) parts
  marked-part b [] = refl
  marked-part b (p ∷ parts) = ap (λ rest. expression_holds v limit state p b ∷ rest) (marked-part b parts)

  -- `and`
  module _ (parts : Vec (Expr F) Global) where
    holds-And : (b : Pairs) → expression_holds v limit state (And parts) b ≡ when_so (chain all_step (map (λ p. (tree.plain, of_expr v limit state b p)) parts.items))
    holds-And b = ap when_so (value-And v limit state b parts)

    pub And-false : (b : Pairs) → all_hold_in_turn v limit state parts.items b ≡ Ok false → expression_holds v limit state (And parts) b ≡ Ok false
    And-false b e =
        holds-And b
        ∙ and-false (map (λ p. (tree.plain, of_expr v limit state b p)) parts.items) (ap each_in_turn (marked-part b parts.items) ∙ e)

    pub And-ok : (b : Pairs) → IsOk (all_hold_in_turn v limit state parts.items b) → IsOk (expression_holds v limit state (And parts) b)
    And-ok b ok =
        ap is_ok (holds-And b)
        ∙ and-ok (map (λ p. (tree.plain, of_expr v limit state b p)) parts.items) (ap (λ answers. is_ok (each_in_turn answers)) (marked-part b parts.items) ∙ ok)

  -- what is under guards
  module _ (operand : Box (Expr F) Global) (guards : Vec (Expr F) Global) where
    under : (hold : Answer Bool) (x : Answer Extended) → when_so (hold and_then λ h. if h then x else Ok nothing) ≡ both hold (when_so x)
    under (Ok true) x = refl
    under (Ok false) x = ap Ok nothing_not_so
    under (Err fault) x = refl

    pub holds-Guard : (b : Pairs) → expression_holds v limit state (Guard operand guards) b ≡ both (guards_hold v limit state guards.items b) (expression_holds v limit state operand.value b)
    holds-Guard b =
        ap when_so (value-Guard v limit state b operand guards)
        ∙ under (each_holds (map (of_expr v limit state b) guards.items)) (of_expr v limit state b operand.value)

  -- ---- the parts so far

  -- one more part
  pub parts-more : (parts : List (Expr F)) (i : ℕ) (part : Expr F) (b : Pairs) → i < length parts → part ≡ get_or parts i part → all_hold_in_turn v limit state (take (i + 1) parts) b ≡ both (all_hold_in_turn v limit state (take i parts) b) (expression_holds v limit state part b)
  parts-more parts i part b l at =
      ap (λ ps. all_hold_in_turn v limit state ps b) (take_more parts i part l ∙ ap (λ p. take i parts ++ p ∷ []) (sym at))
      ∙ ap (fold both (Ok true)) (map-push (take i parts))
      ∙ fold_push both (Ok true) (map (λ p. expression_holds v limit state p b) (take i parts)) (expression_holds v limit state part b)
    where
      map-push : (ps : List (Expr F)) → map (λ p. expression_holds v limit state p b) (ps ++ part ∷ []) ≡ map (λ p. expression_holds v limit state p b) ps ++ expression_holds v limit state part b ∷ []
      map-push [] = refl
      map-push (p ∷ ps) = ap (λ rest. expression_holds v limit state p b ∷ rest) (map-push ps)

  -- where the parts so far do not hold, all do not
  pub parts-false : (parts : List (Expr F)) (i : ℕ) (b : Pairs) → all_hold_in_turn v limit state (take i parts) b ≡ Ok false → all_hold_in_turn v limit state parts b ≡ Ok false
  parts-false parts i b e =
      ap (λ ps. all_hold_in_turn v limit state ps b) (sym (take-append-drop i parts))
      ∙ ap (fold both (Ok true)) (map-both (take i parts))
      ∙ fold-append both (Ok true) (map (λ p. expression_holds v limit state p b) (take i parts)) (map (λ p. expression_holds v limit state p b) (drop i parts))
      ∙ ap (λ a. fold both a (map (λ p. expression_holds v limit state p b) (drop i parts))) e
      ∙ stays-false (map (λ p. expression_holds v limit state p b) (drop i parts))
    where
      map-both : (ps : List (Expr F)) → map (λ p. expression_holds v limit state p b) (ps ++ drop i parts) ≡ map (λ p. expression_holds v limit state p b) ps ++ map (λ p. expression_holds v limit state p b) (drop i parts)
      map-both [] = refl
      map-both (p ∷ ps) = ap (λ rest. expression_holds v limit state p b ∷ rest) (map-both ps)

  -- the scan of the parts so far and one more
  pub scan-part : (binding : Pairs) (sets : List ℕ) (parts : List (Expr F)) (i : ℕ) (part : Expr F) (scan : Scan) → i < length parts → part ≡ get_or parts i part → IsScan state binding sets (λ b. both (all_hold_in_turn v limit state (take i parts) b) (expression_holds v limit state part b)) scan → IsScan state binding sets (all_hold_in_turn v limit state (take (i + 1) parts)) scan
  scan-part binding sets parts i part scan l at known =
      scan-follows state binding sets (λ b. both (all_hold_in_turn v limit state (take i parts) b) (expression_holds v limit state part b)) (all_hold_in_turn v limit state (take (i + 1) parts)) scan (λ b ok. ap is_ok (parts-more parts i part b l at) ∙ ok) (λ b e. parts-more parts i part b l at ∙ e) known

  -- that of all parts
  pub scan-parts : (binding : Pairs) (sets : List ℕ) (parts : List (Expr F)) (i : ℕ) (scan : Scan) → length parts ≤ i → IsScan state binding sets (all_hold_in_turn v limit state (take i parts)) scan → IsScan state binding sets (all_hold_in_turn v limit state parts) scan
  scan-parts binding sets parts i scan all known =
      subst (λ ps. IsScan state binding sets (all_hold_in_turn v limit state ps) scan) (take_all i parts all) known

  -- that of all parts, of which one may have a fault
  pub scan-parts_unsafe : (binding : Pairs) (sets : List ℕ) (parts : List (Expr F)) (i : ℕ) (scan : Scan) → scan.safe ≡ false → IsScan state binding sets (all_hold_in_turn v limit state (take i parts)) scan → IsScan state binding sets (all_hold_in_turn v limit state parts) scan
  scan-parts_unsafe binding sets parts i scan unsafe known =
      scan-unsafe state binding sets (all_hold_in_turn v limit state (take i parts)) (all_hold_in_turn v limit state parts) scan unsafe (λ b e. parts-false parts i b e) known

  -- ---- the guards so far

  guards-more : (guards : List (Expr F)) (p : ℕ) (guard : Expr F) (b : Pairs) → 0 < p → p ≤ length guards → guard ≡ get_or guards (p - 1) guard → guards_hold v limit state (drop (p - 1) guards) b ≡ both (guards_hold v limit state (drop p guards) b) (expression_holds v limit state guard b)
  guards-more guards p guard b some within at =
      let n : p - 1 + 1 ≡ p = omega arith in
      at_drop_more (λ gs. guards_hold v limit state gs b) guards (p - 1) guard (omega arith)
      ∙ ap (λ g. guards_hold v limit state (g ∷ drop (p - 1 + 1) guards) b) (sym at)
      ∙ ap (λ k. guards_hold v limit state (guard ∷ drop k guards) b) n

  -- the scan of the guards so far and one more
  pub scan-guard : (binding : Pairs) (sets : List ℕ) (guards : List (Expr F)) (p : ℕ) (guard : Expr F) (scan : Scan) → 0 < p → p ≤ length guards → guard ≡ get_or guards (p - 1) guard → IsScan state binding sets (λ b. both (guards_hold v limit state (drop p guards) b) (expression_holds v limit state guard b)) scan → IsScan state binding sets (guards_hold v limit state (drop (p - 1) guards)) scan
  scan-guard binding sets guards p guard scan some within at known =
      scan-follows state binding sets (λ b. both (guards_hold v limit state (drop p guards) b) (expression_holds v limit state guard b)) (guards_hold v limit state (drop (p - 1) guards)) scan (λ b ok. ap is_ok (guards-more guards p guard b some within at) ∙ ok) (λ b e. guards-more guards p guard b some within at ∙ e) known

  -- before the last guard none is evaluated
  pub scan-no_guard : (binding : Pairs) (sets : List ℕ) (guards : List (Expr F)) (scan : Scan) → scan.traversal ≡ None → IsScan state binding sets (guards_hold v limit state (drop (length guards) guards)) scan
  scan-no_guard binding sets guards scan none =
      scan-safe state binding sets (guards_hold v limit state (drop (length guards) guards)) scan none (λ b. ap is_ok (holds-start (of_expr v limit state b) guards))

  -- that of all guards
  pub scan-guards : (binding : Pairs) (sets : List ℕ) (guards : List (Expr F)) (p : ℕ) (scan : Scan) → p ≡ 0 → IsScan state binding sets (guards_hold v limit state (drop p guards)) scan → IsScan state binding sets (guards_hold v limit state guards) scan
  scan-guards binding sets guards p scan none known =
      subst (λ k. IsScan state binding sets (guards_hold v limit state (drop k guards)) scan) none known

  -- that of all guards, of which one may have a fault
  pub scan-guards_unsafe : (binding : Pairs) (sets : List ℕ) (guards : List (Expr F)) (p : ℕ) (scan : Scan) → scan.safe ≡ false → IsScan state binding sets (guards_hold v limit state (drop p guards)) scan → IsScan state binding sets (guards_hold v limit state guards) scan
  scan-guards_unsafe binding sets guards p scan unsafe known =
      scan-unsafe state binding sets (guards_hold v limit state (drop p guards)) (guards_hold v limit state guards) scan unsafe (λ b e. one-fails (of_expr v limit state b) guards p false refl e) known

  -- ---- what a condition is

  module _ (binding : Pairs) (sets : List ℕ) (scan : Scan) where
    pub scan-And : (parts : Vec (Expr F) Global) → IsScan state binding sets (all_hold_in_turn v limit state parts.items) scan → IsScan state binding sets (expression_holds v limit state (And parts)) scan
    scan-And parts known =
        scan-follows state binding sets (all_hold_in_turn v limit state parts.items) (expression_holds v limit state (And parts)) scan (And-ok parts) (And-false parts) known

    pub scan-Guard : (operand : Box (Expr F) Global) (guards : Vec (Expr F) Global) → IsScan state binding sets (λ b. both (guards_hold v limit state guards.items b) (expression_holds v limit state operand.value b)) scan → IsScan state binding sets (expression_holds v limit state (Guard operand guards)) scan
    scan-Guard operand guards known =
        scan-follows state binding sets (λ b. both (guards_hold v limit state guards.items b) (expression_holds v limit state operand.value b)) (expression_holds v limit state (Guard operand guards)) scan (λ b ok. ap is_ok (holds-Guard operand guards b) ∙ ok) (λ b e. holds-Guard operand guards b ∙ e) known

    pub scan-Guard_unsafe : (operand : Box (Expr F) Global) (guards : Vec (Expr F) Global) → scan.safe ≡ false → IsScan state binding sets (guards_hold v limit state guards.items) scan → IsScan state binding sets (expression_holds v limit state (Guard operand guards)) scan
    scan-Guard_unsafe operand guards unsafe known =
        scan-unsafe state binding sets (guards_hold v limit state guards.items) (expression_holds v limit state (Guard operand guards)) scan unsafe (λ b e. holds-Guard operand guards b ∙ first-false (guards_hold v limit state guards.items b) (expression_holds v limit state operand.value b) e) known
