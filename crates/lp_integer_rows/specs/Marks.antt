-- Marks on the columns of a row that may have a number other than 0, and the row's first two
-- numbers.
use Rattle.std.specs.Prelude.{◌≡◌, ℕ, ◌%◌, ℤ, pos, List}
use Rattle.std.specs.Int.{bit_at}
use Rattle.lp_integer_rows.specs.declared.marks.Marks.{Marks}
use Rattle.lp_integer_rows.specs.declared.leading.Leading.{Leading}
use Rattle.lp_integers.specs.Lines.{whole_at}

-- column c has no mark; columns with the same remainder by 128 share one mark
abbrev pub IsClear : Marks → ℕ → Type 0
IsClear marks c = bit_at marks.bits (c % 128) ≡ 0

-- at each column without a mark, a bit of `marks` (`IsClear`), the number is 0
abbrev pub AreMarked : List ℤ → Marks → Type 0
AreMarked numbers marks = (c : ℕ) → IsClear marks c → whole_at numbers c ≡ pos 0

-- The constant and the number of variable 0 that `l` stores are those of the list `numbers`, at its
-- columns 0 and 1.
pub record AreLeading (numbers : List ℤ) (l : Leading) : Type 0 where
  pub constant : l.constant ≡ whole_at numbers 0
  pub zero : l.zero ≡ whole_at numbers 1
