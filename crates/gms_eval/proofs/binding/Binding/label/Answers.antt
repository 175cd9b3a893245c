use Rattle.std.proofs.Common.{◌∙◌, ap, sym, ℕ, ◌+◌, drop, get_or, Some, if◌then◌else◌, eq-eqb, ne_eqb}
use Rattle.std.proofs.lemmas.List.{at_drop_more, at_drop_all}
use Rattle.gms_eval.specs.Bindings.{Pairs, label_of}
use Rattle.gms_eval.proofs.binding.Binding.label.Goals as goal

pub loop-name-init : goal.loop-name-init
loop-name-init c = ap (λ pairs. label_of pairs c.args.set) (sym (c.deref-name-items.ensures.value ∙ c.self.view_is))

pub returns-then-name-set : goal.returns-then-name-set
returns-then-name-set c =
    let items : Pairs = c.deref-name-items.result.now in
    let pair : ℕ × ℕ = get_or items c.loop-name.name-index (0, 0) in
    sym (c.loop-name.invariant ∙ at_drop_more (λ pairs. label_of pairs c.args.set) items c.loop-name.name-index (0, 0) c.loop-name-test.true ∙ ap (λ b. if b then Some pair.1 else label_of (drop (c.loop-name.name-index + 1) items) c.args.set) (eq-eqb pair.0 c.args.set c.if-name-set.true))

pub loop-name-preserved : goal.loop-name-preserved
loop-name-preserved c =
    let items : Pairs = c.deref-name-items.result.now in
    let pair : ℕ × ℕ = get_or items c.loop-name.name-index (0, 0) in
    c.loop-name.invariant
    ∙ at_drop_more (λ pairs. label_of pairs c.args.set) items c.loop-name.name-index (0, 0) c.loop-name-test.true
    ∙ ap (λ b. if b then Some pair.1 else label_of (drop (c.loop-name.name-index + 1) items) c.args.set) (ne_eqb pair.0 c.args.set c.if-name-set.false)

pub returns : goal.returns
returns c =
    sym (c.loop-name.invariant ∙ at_drop_all (λ pairs. label_of pairs c.args.set) c.deref-name-items.result.now c.loop-name.name-index c.loop-name-test.false)
