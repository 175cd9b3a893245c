-- The view of a sum.
use Rattle.lp_form.specs.Affine.{Affine}
use Rattle.lp_form.specs.declared.sum.Kept.{Kept}
use Rattle.lp_form.specs.declared.sum.Kept.TheVariants.{List, Map}

-- the affine form that a stored sum represents: the form itself if it is stored as one (`List`), or
-- the entries of the map as a form (`Map`)
abbrev pub shown : {F : Type 0} → Kept F → Affine F
shown (List form) = form
shown (Map entries) = entries
