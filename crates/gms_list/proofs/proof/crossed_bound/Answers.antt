use Rattle.std.proofs.Common.{◌≡◌, ◌∙◌, ap, sym, string_bytes, flat_map}
use Rattle.std.specs.Prelude.{option_to_list}
use Rattle.std.proofs.lemmas.Result.{IfOk-weaker}
use Rattle.lp_core.specs.Feasible.{bound_value}
use Rattle.gms_list.specs.SolveText.{crossed_text}
use Rattle.gms_list.proofs.Shapes.{crossed_part}
use Rattle.gms_list.proofs.proof.crossed_bound.Goals as goal

pub returns-in-Some : goal.returns-in-Some
returns-in-Some g c =
    IfOk-weaker c.format.result _ (λ text. string_bytes text ≡ flat_map crossed_text (option_to_list (bound_value g.F.ExactField.value c.args.x)))
    (λ text e. crossed_part _ _ _ e c.exact-number.ensures ∙ ap (λ x. flat_map crossed_text (option_to_list (bound_value g.F.ExactField.value x))) (sym c.in-Some.is)) c.format.ensures.ok
