use Rattle.std.proofs.Common.{string_bytes, ◌∙◌}
use Rattle.std.proofs.lemmas.Result.{on_ok_weaker}
use Rattle.gms_command.proofs.Says.{optimum_text}
use Rattle.gms_command.proofs.solves.push_optimum.Goals as goal

pub returns : goal.returns
returns g c =
    on_ok_weaker c.push_costs.result
    (optimum_text g.F.ExactField.value c.args.names.now c.args.labels.now g.F.ExactField.limit c.args.solve c.args.lp.now c.args.answer.now.pivots c.in_ok-found.found.rights c.in_ok-found.found.costs c.as_slice-rights.result.now c.as_slice-costs.result.now c.as_slice.result.now c.as_slice-2.result.now
    (string_bytes c.args.text.now) c.as_str.result.now (string_bytes c.push_str.new.self) (string_bytes c.push_rights.new.text) (string_bytes c.push_costs.new.text)
    c.in_ok-found.ensures.entries c.as_slice-rights.ensures c.as_slice-costs.ensures c.as_slice.ensures c.as_slice-2.ensures (c.as_str.ensures.value ∙ c.in_ok-head.ensures) c.in_ok-push_str.ensures.bytes c.in_ok-push_rights.ensures)
    c.push_costs.ensures
