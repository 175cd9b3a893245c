use Rattle.std.proofs.Common.{◌+◌, ◌≤◌, length, length-take, arith, subst, sym}
use Rattle.gms_host.proofs.Counting.{reading_more, reading_none}
use Rattle.gms_run.proofs.Transfers.{ReadSoFar, read_more, read_end, read_full, read_start, reads_on}
use Rattle.gms_run.proofs.transfer.read_most.Goals as goal

pub loop-buffer-init : goal.loop-buffer-init
loop-buffer-init g c =
    let old = g.H.Host.meaning c.args.host.now in
    subst (λ xs. ReadSoFar (c.args.most + 1) old old xs) (sym c.new-source.ensures.items) (read_start (c.args.most + 1) old)

pub read-requires-clause-open : goal.read-requires-clause-open
read-requires-clause-open g c = reads_on (c.args.most + 1) _ _ _ c.loop-buffer.invariant c.requires.open

pub loop-buffer-preserved : goal.loop-buffer-preserved
loop-buffer-preserved g c =
    let few : length c.read.new.into + length c.loop-buffer.source.items ≤ c.args.most + 1 = omega (arith, c.read.auto.into, length-take c.min-within_bound.result c.loop-buffer.buffer) in
    read_more (c.args.most + 1) _ _ _ c.loop-buffer.source.items c.extend_from_slice.new.self.items c.read.new.into _ c.in_ok-count.count c.loop-buffer.invariant c.in_ok-count.ensures.count c.in_ok-count.ensures.outside c.in_ok-count.ensures.counts c.in_ok-extend_from_slice.ensures.items few

pub returns-then-count-eq0-clause-outside : goal.returns-then-count-eq0-clause-outside
returns-then-count-eq0-clause-outside g c =
    read_end (c.args.most + 1) (g.H.Host.meaning c.args.host.now) (g.H.Host.meaning c.loop-buffer.host) (g.H.Host.meaning c.read.new.self) c.loop-buffer.source c.read.new.into c.in_ok-count.count c.loop-buffer.invariant c.in_ok-count.ensures.outside c.if-count-eq0.true

pub returns-then-count-eq0-clause-counts : goal.returns-then-count-eq0-clause-counts
returns-then-count-eq0-clause-counts g c =
    reading_more tt (λ t. t) c.loop-buffer.invariant.counts (reading_more c.in_ok-count.count (λ t. t) c.in_ok-count.ensures.counts (reading_none c.loop-buffer.source (Unit {0}) _))

pub returns-clause-outside : goal.returns-clause-outside
returns-clause-outside g c =
    let full : c.args.most + 1 ≤ length c.loop-buffer.source.items = omega arith in
    read_full (c.args.most + 1) _ _ c.loop-buffer.source c.loop-buffer.invariant full

pub returns-clause-counts : goal.returns-clause-counts
returns-clause-counts g c = reading_more tt (λ t. t) c.loop-buffer.invariant.counts (reading_none c.loop-buffer.source (Unit {0}) _)
