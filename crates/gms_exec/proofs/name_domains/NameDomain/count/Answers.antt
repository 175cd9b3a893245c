use Rattle.std.proofs.Common.{◌∙◌, ap, sym, refl, ◌*◌, min, length, None, lit≤, arith}
use Rattle.gms_exec.specs.Showing.{labels_at}
use Rattle.gms_exec.proofs.Positions.{counted-start, counted-more, counted-end, elements-few, elements-many}
use Rattle.gms_exec.proofs.name_domains.NameDomain.count.Goals as goal

pub returns-then-self-gt-MOST_LABELS : goal.returns-then-self-gt-MOST_LABELS
returns-then-self-gt-MOST_LABELS g c = elements-many c.args.self.now.labels c.args.self.now.store.now c.args.self.now.positions.now 18446744073709551615 c.if-self-gt-MOST_LABELS.true

pub loop-position-init : goal.loop-position-init
loop-position-init g c = (counted-start (labels_at c.args.self.now.labels c.args.self.now.store.now) 18446744073709551615 c.args.self.now.positions.now, lit≤ tt)

pub loop-position-preserved : goal.loop-position-preserved
loop-position-preserved g c =
    (counted-more (labels_at c.args.self.now.labels c.args.self.now.store.now) _ c.loop-position.count c.saturating_mul-count.result 18446744073709551615 c.args.self.now.positions.now c.loop-position.position-index None _ c.loop-position-test.true refl c.loop-position.invariant.0 (c.saturating_mul-count.ensures ∙ ap (λ k. min (c.loop-position.count * k) 18446744073709551615) c.count_at-labels.ensures), omega (arith, c.saturating_mul-count.ensures))

pub returns : goal.returns
returns g c =
    sym (ap (λ those. min (length those) 18446744073709551615) (elements-few c.args.self.now.labels c.args.self.now.store.now c.args.self.now.positions.now c.if-self-gt-MOST_LABELS.false) ∙ c.loop-position.invariant.0 ∙ counted-end (labels_at c.args.self.now.labels c.args.self.now.store.now) c.loop-position.count 18446744073709551615 c.args.self.now.positions.now c.loop-position.position-index c.loop-position-test.false c.loop-position.invariant.1)
