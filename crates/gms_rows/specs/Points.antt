-- The value of a form at a point, which gives each element of a variable a number (Chvatal, "Linear
-- Programming", chapter 1).
use Rattle.std.specs.FinMap as finite
use Rattle.gq_number.specs.Number.{Number, ◌+ℚ◌, ◌*ℚ◌}
use Rattle.gq_number.specs.Sums.{sum_by_ℚ}
use Rattle.lp_form.specs.declared.key.Key.{Key}
use Rattle.gms_rows.specs.Forms.{Form, number_of_key}

-- the value of a form at a point: the constant, plus the number of each element times the number
-- that the point gives the element
abbrev pub form_at : (Key → Number) → Form → Number
form_at point form = form.constant +ℚ sum_by_ℚ (λ key. number_of_key form key *ℚ point key) (finite.keys form.numbers)
