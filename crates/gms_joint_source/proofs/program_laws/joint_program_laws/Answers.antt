-- What the program of a joint source begins with.
use Rattle.gms_joint_source.proofs.ProgramPrefixes.{is_prefix}
use Rattle.gms_joint_source.proofs.program_laws.joint_program_laws.Goals as goal

pub returns : goal.returns
returns c = record { prefix = is_prefix }
