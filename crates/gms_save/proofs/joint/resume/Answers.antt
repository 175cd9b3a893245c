use Rattle.gq_frac.specs.Frac.{frac_value}
use Rattle.gms_save.proofs.Joints.{accepted}
use Rattle.gms_save.proofs.joint.resume.Goals as goal

pub load-requires : goal.load-requires
load-requires c = accepted frac_value c.args.joint.now c.args.from c.requires
