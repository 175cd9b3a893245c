use Rattle.std.proofs.Common.{◌∙◌, ap, subst, arith}
use Rattle.gms_ast.specs.TreeView.{tree_of}
use Rattle.gms_eval.specs.Bindings.{controlled}
use Rattle.gms_eval.specs.Domain.{those_where}
use Rattle.gms_eval.specs.Holds.{holds}
use Rattle.gms_eval.specs.InnerLeading.{Leads, IsBounded, expression_holds}
use Rattle.gms_eval.proofs.Entries.{at-some}
use Rattle.gms_eval.proofs.Factors.{led}
use Rattle.gms_eval.proofs.Fewest.{found-most}
use Rattle.gms_eval.proofs.leading.candidates.Goals as goal

pub returns-clause-value : goal.returns-clause-value
returns-clause-value g c =
    ap (those_where (λ element. holds g.F.ExactField.value g.F.ExactField.limit c.args.store.now (controlled c.args.b.now c.args.sets.now element) (tree_of c.args.condition.now))) c.in_ok-listed.ensures
    ∙ led g.F.ExactField.value g.F.ExactField.limit c.args.store.now c.args.b.now c.args.sets.now c.args.condition.now c.in-Some.traversal c.in_ok-found.found (c.are_simple.ensures.simple c.if-not-are_simple.false) c.in_ok-found.ensures.ordered c.in_ok-found.ensures.members (at-some (λ traversal. Leads c.args.store.now c.args.b.now c.args.sets.now (expression_holds g.F.ExactField.value g.F.ExactField.limit c.args.store.now c.args.condition.now) traversal) c.in_ok-scan.scan.traversal c.in-Some.traversal c.in-Some.is c.in_ok-scan.ensures.known.leads)

pub returns-clause-fewest : goal.returns-clause-fewest
returns-clause-fewest g c =
    λ small simple name indices may.
    let scan = c.in_ok-scan.scan in
    let traversal = c.in-Some.traversal in
    let leads = at-some (λ traversal. Leads c.args.store.now c.args.b.now c.args.sets.now (expression_holds g.F.ExactField.value g.F.ExactField.limit c.args.store.now c.args.condition.now) traversal) scan.traversal traversal c.in-Some.is c.in_ok-scan.ensures.known.leads in
    let short = c.in_ok-scan.ensures.short (omega (arith, c.requires)) (omega (arith, c.requires, small)) in
    let comes = subst (IsBounded c.args.size scan.bound) c.in-Some.is short.comes in
    let found = found-most c.args.store.now c.args.sets.now traversal c.in_ok-found.found c.in_ok-listed.field-0.items leads.counted c.in_ok-listed.ensures c.in_ok-found.ensures.ordered c.in_ok-found.ensures.members in
    omega (arith, found, comes, short.fewest name indices may)
