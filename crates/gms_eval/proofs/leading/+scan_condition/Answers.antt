use Rattle.std.proofs.Common.{◌∙◌, drop, take, refl, sym, arith}
use Rattle.std.proofs.lemmas.Bool.{not-true, not-false}
use Rattle.std.proofs.lemmas.Result.{IfOk-weaker}
use Rattle.gms_ast.specs.TreeView.{tree_of}
use Rattle.gms_eval.specs.InnerLeading.{IsBareReference, indices_tree, parts_tree, expression_holds, all_hold_in_turn, guards_hold}
use Rattle.gms_eval.specs.Leaders.{MayLead, OneMayLead, LastMayLead}
use Rattle.gms_eval.proofs.Factors.{known-Ref, known-And, known-Guard, known-Guard_unsafe}
use Rattle.gms_eval.proofs.Scanning.{scan-part, scan-parts_unsafe, scan-guard, scan-guards_unsafe}
use Rattle.gms_eval.proofs.Shortness.{other-closed, number-safe, number-none, suffix-closed, plain-safe, plain-leads, and-safe, and-leads, guard-unsafe, guard-unsafe_leads, guard-safe, guard-leads, part-safe, part-leads, parts-unsafe, parts-unsafe_leads, guard-more, guard-more_leads, guards-unsafe, guards-unsafe_leads, short-fewer, short-none, short-both}
use Rattle.gms_eval.proofs.leading.+scan_condition.Goals as goal

-- ---- a condition

pub scan_condition-returns-in-Number-clause-safe : goal.scan_condition-returns-in-Number-clause-safe
scan_condition-returns-in-Number-clause-safe g t c = number-safe c.args.condition.now c.in-Number.field-0 c.in-Number.is

pub scan_condition-returns-in-Number-clause-short : goal.scan_condition-returns-in-Number-clause-short
scan_condition-returns-in-Number-clause-short g t c =
    λ below small. short-none c.args.store.now c.args.b.now c.args.sets.now c.args.bound (λ name indices. MayLead name indices (tree_of c.args.condition.now)) _ refl refl (number-none c.args.condition.now c.in-Number.field-0 c.in-Number.is)

pub scan_condition-returns-in_default-suffix-clause-safe : goal.scan_condition-returns-in_default-suffix-clause-safe
scan_condition-returns-in_default-suffix-clause-safe g t c =
    sym (suffix-closed c.args.condition.now c.in-Ref.at c.in-Ref.name c.in-Ref.suffix c.in-Ref.indices c.in-Ref.is c.in_default-suffix.not-None).0

pub scan_condition-returns-in_default-suffix-clause-short : goal.scan_condition-returns-in_default-suffix-clause-short
scan_condition-returns-in_default-suffix-clause-short g t c =
    λ below small. short-none c.args.store.now c.args.b.now c.args.sets.now c.args.bound (λ name indices. MayLead name indices (tree_of c.args.condition.now)) _ refl refl (suffix-closed c.args.condition.now c.in-Ref.at c.in-Ref.name c.in-Ref.suffix c.in-Ref.indices c.in-Ref.is c.in_default-suffix.not-None).1

pub scan_condition-returns-in_default-clause-safe : goal.scan_condition-returns-in_default-clause-safe
scan_condition-returns-in_default-clause-safe g t c =
    sym (other-closed c.args.condition.now c.in_default.not-Number c.in_default.not-Ref c.in_default.not-And c.in_default.not-Guard).0

pub scan_condition-returns-in_default-clause-short : goal.scan_condition-returns-in_default-clause-short
scan_condition-returns-in_default-clause-short g t c =
    λ below small. short-none c.args.store.now c.args.b.now c.args.sets.now c.args.bound (λ name indices. MayLead name indices (tree_of c.args.condition.now)) _ refl refl (other-closed c.args.condition.now c.in_default.not-Number c.in_default.not-Ref c.in_default.not-And c.in_default.not-Guard).1

pub scan_condition-returns-then-not-first : goal.scan_condition-returns-then-not-first
scan_condition-returns-then-not-first g t c =
    let first = c.in_ok-first-in-Guard.first in
    let unsafe = not-true first.safe c.if-not-first.true in
    record {
      known = known-Guard_unsafe g.F.ExactField.value g.F.ExactField.limit c.args.store.now c.args.b.now c.args.sets.now c.args.condition.now c.in-Guard.operand c.in-Guard.guards c.deref-in-Guard.result.now first c.in-Guard.is c.deref-in-Guard.ensures.value unsafe c.in_ok-first-in-Guard.ensures.known;
      safe = guard-unsafe c.args.condition.now c.in-Guard.operand c.in-Guard.guards c.in-Guard.is c.deref-in-Guard.result.now c.deref-in-Guard.ensures.value first.safe unsafe c.in_ok-first-in-Guard.ensures.safe;
      short = λ below small. short-fewer c.args.store.now c.args.b.now c.args.sets.now c.args.bound (λ name indices. LastMayLead name indices (parts_tree c.deref-in-Guard.result.now)) (λ name indices. MayLead name indices (tree_of c.args.condition.now)) first (guard-unsafe_leads c.args.condition.now c.in-Guard.operand c.in-Guard.guards c.in-Guard.is c.deref-in-Guard.result.now c.deref-in-Guard.ensures.value first.safe unsafe c.in_ok-first-in-Guard.ensures.safe) (c.in_ok-first-in-Guard.ensures.short below small);
    }

pub scan_condition-returns-in-None : goal.scan_condition-returns-in-None
scan_condition-returns-in-None g t c =
    let r = c.scan_reference.result in
    let e = c.args.condition.now in
    record {
      known = known-Ref g.F.ExactField.value g.F.ExactField.limit c.args.store.now c.args.b.now c.args.sets.now e c.in-Ref.at c.in-Ref.name c.in-Ref.suffix c.in-Ref.indices c.deref.result.now r c.in-Ref.is c.in-None.is c.deref.ensures.value c.scan_reference.ensures.known;
      safe = IfOk-weaker r _ _ (λ scan told. plain-safe e c.in-Ref.at c.in-Ref.name c.in-Ref.suffix c.in-Ref.indices c.in-Ref.is c.deref.result.now scan.safe c.in-None.is c.deref.ensures.value told) c.scan_reference.ensures.safe;
      short = IfOk-weaker r _ _ (λ scan told below small. short-fewer c.args.store.now c.args.b.now c.args.sets.now c.args.bound (IsBareReference c.in-Ref.name (indices_tree c.deref.result.now)) (λ name indices. MayLead name indices (tree_of e)) scan (plain-leads e c.in-Ref.at c.in-Ref.name c.in-Ref.suffix c.in-Ref.indices c.in-Ref.is c.deref.result.now c.in-None.is c.deref.ensures.value) (told below small)) c.scan_reference.ensures.short;
    }

pub scan_condition-returns-in-And : goal.scan_condition-returns-in-And
scan_condition-returns-in-And g t c =
    let r = c.scan_parts.result in
    let e = c.args.condition.now in
    record {
      known = known-And g.F.ExactField.value g.F.ExactField.limit c.args.store.now c.args.b.now c.args.sets.now e c.in-And.parts c.deref-in-And.result.now r c.in-And.is c.deref-in-And.ensures.value c.scan_parts.ensures.known;
      safe = IfOk-weaker r _ _ (λ scan told. and-safe e c.in-And.parts c.in-And.is c.deref-in-And.result.now c.deref-in-And.ensures.value scan.safe told) c.scan_parts.ensures.safe;
      short = IfOk-weaker r _ _ (λ scan told below small. short-fewer c.args.store.now c.args.b.now c.args.sets.now c.args.bound (λ name indices. OneMayLead name indices (parts_tree c.deref-in-And.result.now)) (λ name indices. MayLead name indices (tree_of e)) scan (and-leads e c.in-And.parts c.in-And.is c.deref-in-And.result.now c.deref-in-And.ensures.value) (told below small)) c.scan_parts.ensures.short;
    }

pub scan_condition-returns-in_ok-second-in-Guard : goal.scan_condition-returns-in_ok-second-in-Guard
scan_condition-returns-in_ok-second-in-Guard g t c =
    let e = c.args.condition.now in
    let first = c.in_ok-first-in-Guard.first in
    let second = c.in_ok-second-in-Guard.second in
    let sure = not-false first.safe c.if-not-first.false in
    record {
      known = known-Guard g.F.ExactField.value g.F.ExactField.limit c.args.store.now c.args.b.now c.args.sets.now e c.in-Guard.operand c.in-Guard.guards c.deref-in-Guard.result.now c.and.result c.in-Guard.is c.deref-in-Guard.ensures.value c.deref-in-Guard-2.result.now c.deref-in-Guard-2.ensures (c.and.ensures.known sure c.args.store.now c.args.b.now c.args.sets.now (guards_hold g.F.ExactField.value g.F.ExactField.limit c.args.store.now c.deref-in-Guard.result.now) (expression_holds g.F.ExactField.value g.F.ExactField.limit c.args.store.now c.deref-in-Guard-2.result.now) c.in_ok-first-in-Guard.ensures.known c.in_ok-second-in-Guard.ensures.known);
      safe = c.and.ensures.safe ∙ guard-safe e c.in-Guard.operand c.in-Guard.guards c.in-Guard.is c.deref-in-Guard.result.now c.deref-in-Guard.ensures.value c.deref-in-Guard-2.result.now c.deref-in-Guard-2.ensures first.safe second.safe sure c.in_ok-first-in-Guard.ensures.safe c.in_ok-second-in-Guard.ensures.safe;
      short = λ below small. let one = c.in_ok-first-in-Guard.ensures.short below small in short-both c.args.store.now c.args.b.now c.args.sets.now c.args.bound (λ name indices. LastMayLead name indices (parts_tree c.deref-in-Guard.result.now)) (λ name indices. MayLead name indices (tree_of c.deref-in-Guard-2.result.now)) (λ name indices. MayLead name indices (tree_of e)) first second c.and.result c.and.ensures.bound c.and.ensures.traversal (guard-leads e c.in-Guard.operand c.in-Guard.guards c.in-Guard.is c.deref-in-Guard.result.now c.deref-in-Guard.ensures.value c.deref-in-Guard-2.result.now c.deref-in-Guard-2.ensures) one (c.in_ok-second-in-Guard.ensures.short (omega (arith, one.below, below)) small);
    }

-- ---- guards

pub scan_guards-returns-then-not-first : goal.scan_guards-returns-then-not-first
scan_guards-returns-then-not-first g t c =
    let first = c.loop-place.first in
    let unsafe = not-true first.safe c.if-not-first.true in
    record {
      known = scan-guards_unsafe g.F.ExactField.value g.F.ExactField.limit c.args.store.now c.args.b.now c.args.sets.now c.args.guards.now c.loop-place.place first unsafe c.loop-place.invariant.known;
      safe = guards-unsafe c.args.guards.now c.loop-place.place first.safe unsafe c.loop-place.invariant.safe;
      short = λ below small. short-fewer c.args.store.now c.args.b.now c.args.sets.now c.args.bound (λ name indices. LastMayLead name indices (parts_tree (drop c.loop-place.place c.args.guards.now))) (λ name indices. LastMayLead name indices (parts_tree c.args.guards.now)) first (guards-unsafe_leads c.args.guards.now c.loop-place.place first.safe unsafe c.loop-place.invariant.safe) (c.loop-place.invariant.short below small);
    }

pub scan_guards-loop-place-preserved : goal.scan_guards-loop-place-preserved
scan_guards-loop-place-preserved g t c =
    let first = c.loop-place.first in
    let second = c.in_ok-second.second in
    let sure = not-false first.safe c.if-not-first.false in
    record {
      known = scan-guard g.F.ExactField.value g.F.ExactField.limit c.args.store.now c.args.b.now c.args.sets.now c.args.guards.now c.loop-place.place c.index-guards-place.result c.and-first.result (omega arith) (omega arith) c.index-guards-place.is (c.and-first.ensures.known sure c.args.store.now c.args.b.now c.args.sets.now (guards_hold g.F.ExactField.value g.F.ExactField.limit c.args.store.now (drop c.loop-place.place c.args.guards.now)) (expression_holds g.F.ExactField.value g.F.ExactField.limit c.args.store.now c.index-guards-place.result) c.loop-place.invariant.known c.in_ok-second.ensures.known);
      safe = guard-more c.args.guards.now c.loop-place.place c.index-guards-place.result (omega arith) (omega arith) c.index-guards-place.is first.safe second.safe c.and-first.result.safe sure c.loop-place.invariant.safe c.in_ok-second.ensures.safe c.and-first.ensures.safe;
      short = λ below small. let one = c.loop-place.invariant.short below small in short-both c.args.store.now c.args.b.now c.args.sets.now c.args.bound (λ name indices. LastMayLead name indices (parts_tree (drop c.loop-place.place c.args.guards.now))) (λ name indices. MayLead name indices (tree_of c.index-guards-place.result)) _ first second c.and-first.result c.and-first.ensures.bound c.and-first.ensures.traversal (guard-more_leads c.args.guards.now c.loop-place.place c.index-guards-place.result (omega arith) (omega arith) c.index-guards-place.is) one (c.in_ok-second.ensures.short (omega (arith, one.below, below)) small);
    }

-- ---- parts

pub scan_parts-returns-then-not-known : goal.scan_parts-returns-then-not-known
scan_parts-returns-then-not-known g t c =
    let first = c.loop-part.known in
    let unsafe = not-true first.safe c.if-not-known.true in
    record {
      known = scan-parts_unsafe g.F.ExactField.value g.F.ExactField.limit c.args.store.now c.args.b.now c.args.sets.now c.args.parts.now c.loop-part.part-index first unsafe c.loop-part.invariant.known;
      safe = parts-unsafe c.args.parts.now c.loop-part.part-index first.safe unsafe c.loop-part.invariant.safe;
      short = λ below small. short-fewer c.args.store.now c.args.b.now c.args.sets.now c.args.bound (λ name indices. OneMayLead name indices (parts_tree (take c.loop-part.part-index c.args.parts.now))) (λ name indices. OneMayLead name indices (parts_tree c.args.parts.now)) first (parts-unsafe_leads c.args.parts.now c.loop-part.part-index first.safe unsafe c.loop-part.invariant.safe) (c.loop-part.invariant.short below small);
    }

pub scan_parts-loop-part-preserved : goal.scan_parts-loop-part-preserved
scan_parts-loop-part-preserved g t c =
    let first = c.loop-part.known in
    let second = c.in_ok-second.second in
    let sure = not-false first.safe c.if-not-known.false in
    record {
      known = scan-part g.F.ExactField.value g.F.ExactField.limit c.args.store.now c.args.b.now c.args.sets.now c.args.parts.now c.loop-part.part-index c.part-item.result c.and-known.result c.loop-part-test.true c.part-item.is (c.and-known.ensures.known sure c.args.store.now c.args.b.now c.args.sets.now (all_hold_in_turn g.F.ExactField.value g.F.ExactField.limit c.args.store.now (take c.loop-part.part-index c.args.parts.now)) (expression_holds g.F.ExactField.value g.F.ExactField.limit c.args.store.now c.part-item.result) c.loop-part.invariant.known c.in_ok-second.ensures.known);
      safe = part-safe c.args.parts.now c.loop-part.part-index c.part-item.result c.loop-part-test.true c.part-item.is first.safe second.safe c.and-known.result.safe sure c.loop-part.invariant.safe c.in_ok-second.ensures.safe c.and-known.ensures.safe;
      short = λ below small. let one = c.loop-part.invariant.short below small in short-both c.args.store.now c.args.b.now c.args.sets.now c.args.bound (λ name indices. OneMayLead name indices (parts_tree (take c.loop-part.part-index c.args.parts.now))) (λ name indices. MayLead name indices (tree_of c.part-item.result)) _ first second c.and-known.result c.and-known.ensures.bound c.and-known.ensures.traversal (part-leads c.args.parts.now c.loop-part.part-index c.part-item.result c.loop-part-test.true c.part-item.is) one (c.in_ok-second.ensures.short (omega (arith, one.below, below)) small);
    }
