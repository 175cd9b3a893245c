use Rattle.gms_command.proofs.PlainWords.{is_file}
use Rattle.gms_command.proofs.Parts.{by_parts}
use Rattle.gms_command.proofs.Forms.{out, save, restart, ranges, generate, empty, beside_generate, twice}
use Rattle.gms_command.proofs.RequestedSizes.{requested_within}
use Rattle.gms_command.proofs.laws.argument_laws.Goals as goal

pub returns-clause-parts : goal.returns-clause-parts
returns-clause-parts c = by_parts

pub returns-clause-file : goal.returns-clause-file
returns-clause-file c = is_file

pub returns-clause-out : goal.returns-clause-out
returns-clause-out c = out

pub returns-clause-save : goal.returns-clause-save
returns-clause-save c = save

pub returns-clause-restart : goal.returns-clause-restart
returns-clause-restart c = restart

pub returns-clause-ranges : goal.returns-clause-ranges
returns-clause-ranges c = ranges

pub returns-clause-generate : goal.returns-clause-generate
returns-clause-generate c = generate

pub returns-clause-sizes : goal.returns-clause-sizes
returns-clause-sizes c = requested_within

pub returns-clause-empty : goal.returns-clause-empty
returns-clause-empty c = empty

pub returns-clause-beside_generate : goal.returns-clause-beside_generate
returns-clause-beside_generate c = beside_generate

pub returns-clause-twice : goal.returns-clause-twice
returns-clause-twice c = twice
