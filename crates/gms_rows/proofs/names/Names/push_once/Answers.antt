use Rattle.std.proofs.Common.{◌∙◌, ap, sym, true, false}
use Rattle.std.proofs.lemmas.List.{get_or_default}
use Rattle.gms_rows.specs.InnerContracts.{with_once}
use Rattle.gms_rows.proofs.Noting.{once-marked}
use Rattle.gms_rows.proofs.names.Names.push_once.Goals as goal

pub returns-then-index : goal.returns-then-index
returns-then-index c =
    once-marked c.reach.new.list.items c.self.inside.marks.items c.self.inside.names.items c.args.name true c.in_ok-reach.ensures.same c.self.invariant (get_or_default c.reach.new.list.items c.args.name false c.index.result.now c.in_ok-reach.ensures.there ∙ sym c.index.ensures ∙ c.if-index.true)
    ∙ ap (λ names. with_once names c.args.name) c.self.view_is

pub returns : goal.returns
returns c =
    c.in_ok-push.ensures.items ∙ once-marked c.reach.new.list.items c.self.inside.marks.items c.self.inside.names.items c.args.name false c.in_ok-reach.ensures.same c.self.invariant (get_or_default c.reach.new.list.items c.args.name false c.index.result.now c.in_ok-reach.ensures.there ∙ sym c.index.ensures ∙ c.if-index.false)
    ∙ ap (λ names. with_once names c.args.name) c.self.view_is
