use Rattle.std.proofs.Common.{refl}
use Rattle.gms_grammar.specs.declared.terminal.Terminal.TheVariants.{Sense}
use Rattle.gms_expressions.proofs.Signs.{handed_on}
use Rattle.gms_parse.proofs.Ends.{after_within}
use Rattle.gms_parse.proofs.Steps.{refuses_first, refuses_second}
use Rattle.gms_parse.proofs.Nexts.{gives_exact, plain_starts, kind_stays, tableless_on, refuses_lacking}
use Rattle.gms_parse.proofs.Assigning.{related_got}
use Rattle.gms_parse.proofs.reader.Reader.related.Goals as goal

pub returns-in_err-sense : goal.returns-in_err-sense
returns-in_err-sense g c read_state s other = handed_on _ _ c.from_residual.result _ c.from_residual.ensures.1 (refuses_first (refuses_lacking c.in_err-sense.ensures))

pub expression-requires-clause-within : goal.expression-requires-clause-within
expression-requires-clause-within g c = after_within Sense c.requires c.in_ok-sense.ensures refl

pub returns-in_err-right : goal.returns-in_err-right
returns-in_err-right g c read_state s other =
    let n = c.in_ok-sense.ensures in
    let k = kind_stays Sense n refl s.has in
    handed_on _ _ c.from_residual-in_err-right.result _ c.from_residual-in_err-right.ensures.1
    (refuses_second (gives_exact {kind = Sense} n refl) (c.in_err-right.ensures _ (plain_starts c.args.self.now read_state Sense c.in_ok-sense.sense c.in_ok-sense.following refl refl s.has s.optionless) (tableless_on k.keyword other)))

pub returns : goal.returns
returns g c read_state s other =
    let n = c.in_ok-sense.ensures in
    let k = kind_stays Sense n refl s.has in
    related_got g.F.ExactField.value s.has n c.side_of.ensures c.place.ensures
    (c.in_ok-right.ensures _ (plain_starts c.args.self.now read_state Sense c.in_ok-sense.sense c.in_ok-sense.following refl refl s.has s.optionless) (tableless_on k.keyword other))
