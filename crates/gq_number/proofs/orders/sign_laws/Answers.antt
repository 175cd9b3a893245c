-- The rules of signs.
use Rattle.gq_number.proofs.Signs.{sign-above, sign-zero, sign-below, *ℚ-zero-<ℚ, *ℚ_above-below, *ℚ_below-below, /ℚ-zero-<ℚ, /ℚ_above-below}
use Rattle.gq_number.proofs.orders.sign_laws.Goals as goal

pub returns-clause-above : goal.returns-clause-above
returns-clause-above c = sign-above

pub returns-clause-at_zero : goal.returns-clause-at_zero
returns-clause-at_zero c = sign-zero

pub returns-clause-below : goal.returns-clause-below
returns-clause-below c = sign-below

pub returns-clause-like_signs : goal.returns-clause-like_signs
returns-clause-like_signs c = *ℚ-zero-<ℚ

pub returns-clause-unlike_signs : goal.returns-clause-unlike_signs
returns-clause-unlike_signs c = *ℚ_above-below

pub returns-clause-both_below : goal.returns-clause-both_below
returns-clause-both_below c = *ℚ_below-below

pub returns-clause-quotient_like : goal.returns-clause-quotient_like
returns-clause-quotient_like c = /ℚ-zero-<ℚ

pub returns-clause-quotient_unlike : goal.returns-clause-quotient_unlike
returns-clause-quotient_unlike c = /ℚ_above-below
