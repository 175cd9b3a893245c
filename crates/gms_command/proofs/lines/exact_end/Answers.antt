use Rattle.std.proofs.Common.{option_map, Some, ap, sym, ◌∙◌}
use Rattle.lp_core.specs.Feasible.{bound_value}
use Rattle.gq_text.specs.ExactText.{exact_text}
use Rattle.gms_command.proofs.lines.exact_end.Goals as goal

pub returns-in-Some : goal.returns-in-Some
returns-in-Some g c =
    ap Some (c.as_str.ensures ∙ c.put_exact.ensures.text) ∙ ap (λ end. option_map exact_text (bound_value g.F.ExactField.value end)) (sym c.in-Some.is)
