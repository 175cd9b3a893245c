use Rattle.std.proofs.Common.{ap, sym, ◌∙◌, length}
use Rattle.std.proofs.lemmas.List.FromFn.{length-range_with_len}
use Rattle.gms_exec.specs.Showing.{labels_at}
use Rattle.gms_exec.proofs.Positions.{count-set}
use Rattle.gms_exec.proofs.name_domains.NameDomain.count_at.Goals as goal

pub returns-in-Some : goal.returns-in-Some
returns-in-Some g c =
    count-set c.args.self.now.labels c.args.self.now.store.now c.args.position c.in-Some.set c.len.result c.members.result.now c.in-Some.is c.len.ensures.len c.members.ensures.value

pub returns-in-None : goal.returns-in-None
returns-in-None g c =
    sym (ap (λ p. length (labels_at c.args.self.now.labels c.args.self.now.store.now p)) c.in-None.is ∙ length-range_with_len 0 c.args.self.now.labels)
