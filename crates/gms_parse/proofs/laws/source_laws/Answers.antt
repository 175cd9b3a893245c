-- Each source has one program or one first fault.
use Rattle.gms_parse.proofs.OneReading.{one_program, one_fault, program_or_fault}
use Rattle.gms_parse.proofs.ProgramThere.{program_there}
use Rattle.gms_parse.proofs.laws.source_laws.Goals as goal

pub returns : goal.returns
returns c = record {
  one_program = one_program;
  one_fault = one_fault;
  not_both = program_or_fault;
  not_neither = λ limit source none. let p = program_there limit source none in (p.view, p.has);
}
