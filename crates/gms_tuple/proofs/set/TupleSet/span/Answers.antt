use Rattle.std.proofs.Common.{◌≡◌, ◌∙◌, ◌+◌, true, false, sym, ap, subst, slice_range}
use Rattle.std.specs.List.{count_by}
use Rattle.gms_tuple.specs.TupleOrder.{IsOrdered}
use Rattle.gms_tuple.specs.TupleSet.{is_within, count_before, count_with}
use Rattle.gms_tuple.proofs.Forks.{count-within, count-through}
use Rattle.gms_tuple.proofs.Spans.{IsSpan-counted}
use Rattle.gms_tuple.proofs.set.TupleSet.span.Goals as goal

pub returns-clause-upto : goal.returns-clause-upto
returns-clause-upto c =
    let from : c.count.result ≡ count_before c.args.self.now c.args.prefix.now = c.count.ensures ∙ ap (count_by (is_within false c.args.prefix.now)) c.self.view_is ∙ count-within c.args.self.now c.args.prefix.now in
    c.count-2.ensures ∙ ap (count_by (is_within true c.args.prefix.now)) c.self.view_is ∙ count-through c.args.self.now c.args.prefix.now ∙ ap (λ n. n + count_with c.args.self.now c.args.prefix.now) (sym from)

pub returns-clause-range : goal.returns-clause-range
returns-clause-range c =
    let from : c.count.result ≡ count_before c.args.self.now c.args.prefix.now = c.count.ensures ∙ ap (count_by (is_within false c.args.prefix.now)) c.self.view_is ∙ count-within c.args.self.now c.args.prefix.now in
    let upto : c.count-2.result ≡ count_before c.args.self.now c.args.prefix.now + count_with c.args.self.now c.args.prefix.now = c.count-2.ensures ∙ ap (count_by (is_within true c.args.prefix.now)) c.self.view_is ∙ count-through c.args.self.now c.args.prefix.now in
    let span = IsSpan-counted c.args.self.now c.args.prefix.now (subst IsOrdered c.self.view_is c.self.invariant) in
    ap (λ n. slice_range c.args.self.now n c.count-2.result) from ∙ ap (λ n. slice_range c.args.self.now (count_before c.args.self.now c.args.prefix.now) n) upto ∙ span.range
