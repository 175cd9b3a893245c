use Rattle.std.proofs.Common.{rules}
use Rattle.gms_grammar.specs.GamsGrammar.{Sides}
use Rattle.gms_expressions.proofs.Signs.{handed_on}
use Rattle.gms_parse.proofs.Steps.{refuses_the, refuses_first, refuses_second}
use Rattle.gms_parse.proofs.Nexts.{tableless_on}
use Rattle.gms_parse.proofs.Conditions.{open_starts}
use Rattle.gms_parse.proofs.Assigning.{relation_got, mapped}
use Rattle.gms_parse.proofs.reader.Reader.relation.Goals as goal

pub returns-in_err-left : goal.returns-in_err-left
returns-in_err-left g c read_state s other = handed_on _ _ c.from_residual.result _ c.from_residual.ensures.1 (refuses_the Sides (refuses_first (c.in_err-left.ensures read_state s other)))

pub returns : goal.returns
returns g c read_state s other =
    let l = c.in_ok-left.ensures read_state s other in
    mapped _ (λ x. (record { left_at = c.place-left_at.result; left = c.in_ok-left.left; side = x.0.0; right_at = x.0.1; right = x.0.2 }, x.1)) c.related-related.result c.map.result (c.related-related.ensures l.following (open_starts s l.leaves) (tableless_on l.leaves.stays.keyword other)) c.map.ensures.cases
    (λ x y k. search rules) (λ x got. relation_got g.F.ExactField.value c.place-left_at.ensures l got) (λ e r. refuses_the Sides (refuses_second l.gives r))
