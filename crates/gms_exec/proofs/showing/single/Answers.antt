use Rattle.std.proofs.Common.{◌∙◌, ap, ◌++◌, ◌∷◌, []}
use Rattle.gms_exec.specs.Showing.{entries_shown}
use Rattle.gms_exec.specs.InnerContracts.{entries_in}
use Rattle.gms_exec.proofs.showing.single.Goals as goal

pub returns : goal.returns
returns g c =
    c.in_ok-add.ensures ∙ ap (λ items. entries_in g.F.ExactField.value items ++ entries_shown c.args.store.now c.args.name c.args.suffix (c.new-t.result ∷ [])) c.new-entries.ensures.items ∙ ap (λ t. entries_shown c.args.store.now c.args.name c.args.suffix (t ∷ [])) c.new-t.ensures
