use Rattle.std.proofs.Common.{ap, ◌∙◌, length, map, arith}
use Rattle.std.specs.Prelude.{slice_set}
use Rattle.std.proofs.lemmas.List.{take_at, length-map}
use Rattle.gq_number.specs.Number.{neg_ℚ}
use Rattle.lp_fraction_dict.proofs.Lists.{changes_made}
use Rattle.lp_fraction_dict.proofs.last.changes.Goals as goal

pub returns : goal.returns
returns g c =
    let negated = c.negate.ensures ∙ ap (map (λ x. neg_ℚ (g.F.ExactField.value x))) c.as_mut_slice.ensures.value in
    let sized = ap length negated in
    let before = length-map c.negate.new.list g.F.ExactField.value in
    let after = length-map c.args.numbers.items (λ x. neg_ℚ (g.F.ExactField.value x)) in
    changes_made g.F.ExactField.value c.args.numbers.items c.negate.new.list _ c.args.enter c.one.result negated (ap (λ l. slice_set l c.args.enter c.one.result) (take_at c.negate.new.list _ c.args.numbers.len (omega (arith, c.args.numbers.ok.0)))) c.one.ensures c.requires
