use Rattle.std.proofs.Common.{◌≡◌, ◌∙◌, true, [], sym, ap}
use Rattle.clap.specs.Simple.{App}
use Rattle.clap.specs.Words.{app_of, is_simple, is_simple_and_free, fault_of, matches_of, takes}
use Rattle.gms_command.specs.CommandLine.{gams25, texts}
use Rattle.gms_command.proofs.Faultless.{takes_faultless, rows_found, none_found}
use Rattle.gms_command.proofs.command_line.found_in.Goals as goal

pub returns-in-Ok : goal.returns-in-Ok
returns-in-Ok c =
    let is : app_of c.in_ok-command.command ≡ gams25 = c.in_ok-command.ensures in
    let free : is_simple_and_free (app_of c.in_ok-command.command) ≡ true = ap is_simple_and_free is in
    let simple : is_simple (app_of c.in_ok-command.command) ≡ true = ap is_simple is in
    let none : fault_of gams25 (texts c.args.words.now) ≡ [] = sym (ap (λ (a : App). fault_of a (texts c.args.words.now)) is) ∙ c.in-Ok.ensures.kinds free in
    let rows = (c.in-Ok.ensures.matches simple).0 ∙ ap (λ (a : App). matches_of a (texts c.args.words.now)) is in
    rows_found (texts c.args.words.now) _ (takes_faultless (texts c.args.words.now) none) rows

pub returns : goal.returns
returns c =
    let is : app_of c.in_ok-command.command ≡ gams25 = c.in_ok-command.ensures in
    none_found (texts c.args.words.now) (λ taken. c.in_default.not-OutOfMemory (c.kind.ensures ∙ c.in-Err.ensures.passes (ap (λ (a : App). takes a (texts c.args.words.now)) is ∙ taken)))
