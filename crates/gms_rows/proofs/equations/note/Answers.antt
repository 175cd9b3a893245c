use Rattle.std.proofs.Common.{◌∙◌, ap, sym}
use Rattle.std.specs.Prelude.{slice_index_or, None}
use Rattle.gms_rows.specs.InnerContracts.{noted_by}
use Rattle.gms_rows.proofs.Noting.{noted-nothing, noted-again, noted-new}
use Rattle.gms_rows.proofs.equations.note.Goals as goal

pub returns-in_default : goal.returns-in_default
returns-in_default g c before are =
    noted-nothing c.args.noted.now.items before are _ c.in_default.ensures

pub returns-then-is_some : goal.returns-then-is_some
returns-then-is_some g c before are =
    noted-again c.args.noted.now.items before are _ c.in-Some.name c.noted_definition.result c.in-Some.ensures (ap (λ xs. noted_by (slice_index_or xs c.in-Some.name None) c.in-Some.name) (sym c.as_slice.ensures.value) ∙ c.noted_definition.ensures) (sym c.is_some.ensures ∙ c.if-is_some.true)

pub returns : goal.returns
returns g c before are =
    noted-new c.args.noted.now.items before are c.reach.new.list.items c.args.statement c.in-Some.name c.noted_definition.result c.in_ok-reach.ensures.there c.in_ok-reach.ensures.same c.in-Some.ensures (ap (λ xs. noted_by (slice_index_or xs c.in-Some.name None) c.in-Some.name) (sym c.as_slice.ensures.value) ∙ c.noted_definition.ensures) (sym c.is_some.ensures ∙ c.if-is_some.false)
