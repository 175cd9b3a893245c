use Rattle.std.proofs.Common.{◌≡◌, Some, None, ap, sym, ◌∙◌, option_map}
use Rattle.gms_host.proofs.Counting.{writing_none}
use Rattle.gms_command.specs.CommandLine.{asked_by}
use Rattle.gms_run.specs.Listings.{save_file}
use Rattle.gms_run.proofs.Runs.{saves_file, saves_none}
use Rattle.gms_run.proofs.closing.write_save.Goals as goal

pub returns-in-Some-clause-outside : goal.returns-in-Some-clause-outside
returns-in-Some-clause-outside g c =
    let named : save_file c.args.status (asked_by c.args.request) ≡ Some c.in-Some.file.now = sym c.save_file.ensures ∙ ap (option_map (λ file. file.now)) c.in-Some.is in
    saves_file c.write_file.result c.args.status (asked_by c.args.request) _ _ c.in-Some.file.now c.args.bytes.now named c.write_file.ensures.outside

pub returns-in-None-clause-outside : goal.returns-in-None-clause-outside
returns-in-None-clause-outside g c =
    let none : save_file c.args.status (asked_by c.args.request) ≡ None = sym c.save_file.ensures ∙ ap (option_map (λ file. file.now)) c.in-None.is in
    saves_none c.args.status (asked_by c.args.request) _ c.args.bytes.now none

pub returns-in-None-clause-counts : goal.returns-in-None-clause-counts
returns-in-None-clause-counts g c = writing_none _ _
