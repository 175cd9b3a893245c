use Rattle.std.proofs.Common.{◌≡◌, ap, sym, ◌∙◌, ◌<◌, ◌+◌, length, map, get_or, arith}
use Rattle.std.proofs.lemmas.List.{length-map}
use Rattle.std.proofs.lemmas.List.FromFn.{length-range_with_len, get_or-range_with_len}
use Rattle.gms_store.specs.State.{members_of}
use Rattle.gms_eval.specs.Lag.{label_of_element}
use Rattle.gms_exec.specs.Showing.{labels_at}
use Rattle.gms_exec.proofs.name_domains.NameDomain.label_at.Goals as goal

pub label_of-requires : goal.label_of-requires
label_of-requires g c =
    let n = ap (λ p. length (labels_at c.args.self.now.labels c.args.self.now.store.now p)) c.in-Some.is ∙ length-map (members_of c.args.self.now.store.now c.in-Some.set) label_of_element ∙ ap length (sym c.members.ensures.value) in
    omega (arith, c.requires, n)

pub returns-in-Some : goal.returns-in-Some
returns-in-Some g c =
    c.label_of.ensures ∙ ap (λ members. get_or (map label_of_element members) c.args.number 0) c.members.ensures.value ∙ ap (λ p. get_or (labels_at c.args.self.now.labels c.args.self.now.store.now p) c.args.number 0) (sym c.in-Some.is)

pub label_numbered-requires : goal.label_numbered-requires
label_numbered-requires g c =
    let n = ap (λ p. length (labels_at c.args.self.now.labels c.args.self.now.store.now p)) c.in-None.is ∙ length-range_with_len 0 c.args.self.now.labels in
    omega (arith, c.requires, n)

pub returns-in-None : goal.returns-in-None
returns-in-None g c =
    let n = ap (λ p. length (labels_at c.args.self.now.labels c.args.self.now.store.now p)) c.in-None.is ∙ length-range_with_len 0 c.args.self.now.labels in
    let below : c.args.number < c.args.self.now.labels = omega (arith, c.requires, n) in
    let at : get_or (labels_at c.args.self.now.labels c.args.self.now.store.now c.args.position) c.args.number 0 ≡ 0 + c.args.number = ap (λ p. get_or (labels_at c.args.self.now.labels c.args.self.now.store.now p) c.args.number 0) c.in-None.is ∙ get_or-range_with_len 0 c.args.self.now.labels c.args.number 0 below in
    omega (arith, at, c.label_numbered.ensures)
