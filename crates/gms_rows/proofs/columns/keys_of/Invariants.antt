use Rattle.std.proofs.Common.{◌≡◌, [], ◌∷◌, take}
use Rattle.std.specs.Prelude.{flat_map}
use Rattle.std.specs.List.{All}
use Rattle.lp_form.specs.Affine.{IsForm}
use Rattle.gms_rows.proofs.columns.keys_of.Given as goal

abbrev pub invariant-loop-row : goal.invariant-loop-row
invariant-loop-row g l =
    (l.keys.items ≡ record { symbol = l.objective; tuple = [] } ∷ flat_map (λ row. row.form.keys) (take l.row-index l.rows))
    × All (λ row. IsForm g.F.ExactField.value row.form) (take l.row-index l.rows)
