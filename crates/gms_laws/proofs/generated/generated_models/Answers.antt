use Rattle.gms_laws.proofs.GeneratedSizes.{generated}
use Rattle.gms_laws.proofs.generated.generated_models.Goals as goal

pub returns : goal.returns
returns c = generated
