use Rattle.std.proofs.Common.{ap, ◌∙◌}
use Rattle.gms_store.specs.Declarations.{kind_in}
use Rattle.gms_store.specs.State.{symbol_at, symbol_of}
use Rattle.gms_exec.proofs.Assigning.{kind-set, kind-other}
use Rattle.gms_exec.proofs.assignment.is_set.Goals as goal

pub returns-in-Set : goal.returns-in-Set
returns-in-Set g c =
    kind-set (symbol_of c.args.store.now c.args.name).content c.kind_of-kind.result (c.kind_of-kind.ensures ∙ ap (λ n. kind_in (symbol_at c.args.store.now n).content) c.base.ensures) c.in-Set.is

pub returns-in_default : goal.returns-in_default
returns-in_default g c =
    kind-other (symbol_of c.args.store.now c.args.name).content c.kind_of-kind.result (c.kind_of-kind.ensures ∙ ap (λ n. kind_in (symbol_at c.args.store.now n).content) c.base.ensures) c.in_default.not-Set
