use Rattle.std.proofs.Common.{◌∙◌, ◌∷◌, [], ap, length, arith}
use Rattle.std.specs.Prelude.{slice_index_or}
use Rattle.std.proofs.lemmas.List.{length-append}
use Rattle.gms_rows.proofs.Noting.{same-more}
use Rattle.gms_rows.proofs.names.reach.Goals as goal

pub loop-preserved : goal.loop-preserved
loop-preserved g c = (
  omega (arith, ap length c.in_ok-push.ensures.items, length-append c.loop.list.items (c.args.same ∷ []), c.loop.invariant.0),
  λ n. ap (λ xs. slice_index_or xs n c.args.same) c.in_ok-push.ensures.items ∙ same-more c.loop.list.items c.args.same n ∙ c.loop.invariant.1 n,
)
