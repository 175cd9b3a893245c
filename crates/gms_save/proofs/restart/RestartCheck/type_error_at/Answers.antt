use Rattle.gms_save.specs.InnerRestartChecks.{variable_in}
use Rattle.gms_save.proofs.Restarts.{first-where}
use Rattle.gms_save.proofs.restart.RestartCheck.type_error_at.Goals as goal

pub returns : goal.returns
returns c =
    first-where (variable_in c.args.self.now.saved) c.args.named.at c.args.named.name c.is_saved_variable.result c.error_where.result c.error_where.ensures c.is_saved_variable.ensures
