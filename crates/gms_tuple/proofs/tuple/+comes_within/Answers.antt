use Rattle.std.proofs.Common.{◌≡◌, ℕ, Bool, true, false, List, [], ◌∷◌, length, refl, arith}
use Rattle.gms_tuple.specs.TupleSet.{is_within}
use Rattle.gms_tuple.proofs.tuple.+comes_within.Goals as goal

-- every list of labels begins with no labels
no-prefix : (through : Bool) (prefix labels : List ℕ) → length prefix ≡ 0 → through ≡ is_within through prefix labels
no-prefix true [] [] none = refl
no-prefix true [] (x ∷ labels) none = refl
no-prefix false [] [] none = refl
no-prefix false [] (x ∷ labels) none = refl
no-prefix through (y ∷ prefix) labels none = absurd (omega (arith, none))

pub returns-in_default : goal.returns-in_default
returns-in_default t c = no-prefix c.args.through c.args.prefix.now c.args.labels.now c.in_default.ensures.cases
