use Rattle.gms_save.specs.InnerRestartChecks.{fixed_by}
use Rattle.gms_save.proofs.Restarts.{first-where}
use Rattle.gms_save.proofs.restart.RestartCheck.target_error_at.Goals as goal

pub returns : goal.returns
returns c =
    first-where (fixed_by c.args.self.now) c.args.target.now.at c.args.target.now.name c.is_fixed.result c.error_where.result c.error_where.ensures c.is_fixed.ensures
