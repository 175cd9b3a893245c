use Rattle.lp_std.proofs.Answered.{are_sized, end_is, end_fits, end_stops, end_proved}
use Rattle.lp_core.specs.Steps.{steps_back}
use Rattle.lp_std.specs.Last.{last_value}
use Rattle.lp_std.proofs.recovery.recover.Goals as goal

pub led_back-requires-clause-sized : goal.led_back-requires-clause-sized
led_back-requires-clause-sized g c =
    are_sized g.F.ExactField.value c.args.lp.now c.requires.well_formed c.args.s.now c.requires.form.1 c.args.dict.now c.requires.last

pub returns-clause-end : goal.returns-clause-end
returns-clause-end g c = end_is g.F.ExactField.value g.F.ExactField.limit c.args.lp.now c.args.dict.now.kind (last_value g.F.ExactField.value c.args.dict.now) c.led_back.result c.led_back.ensures

pub returns-clause-all_fit : goal.returns-clause-all_fit
returns-clause-all_fit g c = end_fits g.F.ExactField.value g.F.ExactField.limit c.args.lp.now c.args.dict.now.kind (last_value g.F.ExactField.value c.args.dict.now) c.led_back.result c.led_back.ensures

pub returns-clause-proved : goal.returns-clause-proved
returns-clause-proved g c =
    end_proved g.F.ExactField.value c.args.lp.now c.requires.well_formed c.args.s.now c.requires.form.1 c.requires.form.0 c.args.dict.now c.requires.last (steps_back g.F.ExactField.value g.F.ExactField.limit c.args.lp.now c.args.dict.now.kind (last_value g.F.ExactField.value c.args.dict.now)) c.led_back.result c.led_back.ensures

pub returns-clause-stop : goal.returns-clause-stop
returns-clause-stop g c = end_stops g.F.ExactField.value g.F.ExactField.limit c.args.lp.now c.args.dict.now.kind (last_value g.F.ExactField.value c.args.dict.now) c.led_back.result c.led_back.ensures
