-- A text is taken apart in one way.
use Rattle.gq_text.proofs.Splits as splits
use Rattle.gq_text.proofs.Slashes as slashes
use Rattle.gq_text.proofs.Nearness as nearness
use Rattle.gq_text.proofs.laws.reading_laws.Goals as goal

pub returns-clause-one_number : goal.returns-clause-one_number
returns-clause-one_number c text x y m n = splits.one_number text x y m n

pub returns-clause-one_signed : goal.returns-clause-one_signed
returns-clause-one_signed c text x y m n = slashes.one_signed text x y m n

pub returns-clause-one_quotient : goal.returns-clause-one_quotient
returns-clause-one_quotient c text x y m n = slashes.one_quotient text x y m n

pub returns-clause-one_power : goal.returns-clause-one_power
returns-clause-one_power c m n e f h k same = nearness.one_power m n e f h k same
