-- One more label: it is too small, or the other labels come after it.
use Rattle.std.proofs.Common.{◌≡◌, ◌<◌, ◌≤◌, ◌+◌, ◌∙◌, ℕ, true, false, List, Option, None, if◌then◌else◌, drop, length, get_or, sym, ap, arith}
use Rattle.std.specs.Prelude.{nat_lt}
use Rattle.std.proofs.lemmas.Bool.Decides.{nat_tests}
use Rattle.std.proofs.lemmas.List.{drop_more}
use Rattle.gms_scope.specs.Data.{least_after}
use Rattle.gms_scope.proofs.Ascents.{drop_end}
use Rattle.gms_scope.proofs.data.least_after.Goals as goal

at_label : (labels : List ℕ) (i least x : ℕ) → i < length labels → x ≡ get_or labels i 0 → least_after least (drop i labels) ≡ (if nat_lt x least then None else least_after (x + 1) (drop (i + 1) labels))
at_label labels i least x l is = ap (least_after least) (drop_more labels i 0 l) ∙ ap (λ y. if nat_lt y least then None else least_after (y + 1) (drop (i + 1) labels)) (sym is)

is_less : (x least : ℕ) → x < least → nat_lt x least ≡ true
is_less x least l = grind (arith, nat_tests)

is_not_less : (x least : ℕ) → least ≤ x → nat_lt x least ≡ false
is_not_less x least l = grind (arith, nat_tests)

too_small : (labels : List ℕ) (i least x : ℕ) (total : Option ℕ) → i < length labels → x ≡ get_or labels i 0 → x < least → least_after least (drop i labels) ≡ total → None ≡ total
too_small labels i least x total l is less so =
    sym (ap (λ b. if b then None else least_after (x + 1) (drop (i + 1) labels)) (is_less x least less)) ∙ sym (at_label labels i least x l is) ∙ so

large_enough : (labels : List ℕ) (i least x : ℕ) (total : Option ℕ) → i < length labels → x ≡ get_or labels i 0 → least ≤ x → least_after least (drop i labels) ≡ total → least_after (x + 1) (drop (i + 1) labels) ≡ total
large_enough labels i least x total l is from so =
    sym (ap (λ b. if b then None else least_after (x + 1) (drop (i + 1) labels)) (is_not_less x least from)) ∙ sym (at_label labels i least x l is) ∙ so

pub returns-then-label-least : goal.returns-then-label-least
returns-then-label-least c =
    too_small c.args.labels.now c.loop-label.label-index c.loop-label.least c.from-label.result (least_after c.args.least c.args.labels.now) c.loop-label-test.true c.from-label.ensures c.if-label-least.true c.loop-label.invariant

pub loop-label-preserved : goal.loop-label-preserved
loop-label-preserved c =
    large_enough c.args.labels.now c.loop-label.label-index c.loop-label.least c.from-label.result (least_after c.args.least c.args.labels.now) c.loop-label-test.true c.from-label.ensures c.if-label-least.false c.loop-label.invariant

pub returns : goal.returns
returns c = sym (ap (least_after c.loop-label.least) (drop_end c.args.labels.now c.loop-label.label-index c.loop-label-test.false)) ∙ c.loop-label.invariant
