-- The plain forms of productions.
use Rattle.gms_grammar.proofs.Plain.{body_derives, items_derive, sets, parameters, scalars, plain, models}
use Rattle.gms_grammar.proofs.PlainProgram.{program_derives}
use Rattle.gms_grammar.proofs.PlainNamed.{named_derives}
use Rattle.gms_grammar.proofs.laws.plain_laws.Goals as goal

pub returns : goal.returns
returns g c = record {
  program = program_derives;
  named = named_derives;
  body = body_derives;
  sets = items_derive sets;
  parameters = items_derive parameters;
  scalars = items_derive scalars;
  variables = items_derive plain;
  models = items_derive models;
}
