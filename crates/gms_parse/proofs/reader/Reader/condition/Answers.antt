use Rattle.std.proofs.Common.{refl}
use Rattle.gms_grammar.specs.declared.terminal.Terminal.TheVariants.{Dollar}
use Rattle.gms_expressions.proofs.Signs.{handed_on}
use Rattle.gms_parse.proofs.Ends.{after_within}
use Rattle.gms_parse.proofs.Conditions.{condition_none, condition_got, condition_refused, dollar_starts, dollar_tableless}
use Rattle.gms_parse.proofs.reader.Reader.condition.Goals as goal

pub returns-in_default : goal.returns-in_default
returns-in_default g c read_state s other = condition_none g.F.ExactField.value s c.in_default.ensures

pub guard-requires-clause-within : goal.guard-requires-clause-within
guard-requires-clause-within g c = after_within Dollar c.requires c.in-Some.ensures refl

pub returns-in_err-operand : goal.returns-in_err-operand
returns-in_err-operand g c read_state s other =
    handed_on _ _ c.from_residual.result _ c.from_residual.ensures.1 (condition_refused s c.in-Some.ensures (c.in_err-operand.ensures _ (dollar_starts s c.in-Some.ensures) (dollar_tableless s c.in-Some.ensures other)))

pub returns : goal.returns
returns g c read_state s other = condition_got s c.in-Some.ensures g.F.ExactField.value (c.in_ok-operand.ensures _ (dollar_starts s c.in-Some.ensures) (dollar_tableless s c.in-Some.ensures other))
