use Rattle.std.proofs.Common.{◌∙◌, ap}
use Rattle.gms_store.specs.Declarations.{blank_state}
use Rattle.gms_check.proofs.loading.load.Goals as goal

pub load_statements-requires-clause-blank : goal.load_statements-requires-clause-blank
load_statements-requires-clause-blank g c = c.in_ok-store.ensures ∙ ap blank_state c.len.ensures.len
