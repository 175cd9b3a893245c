-- Names of solvers: GAMS User's Guide, "The Option Statement", by whose `lp` a source chooses one.
use Rattle.std.specs.Prelude.{ℕ, ◌≤◌, ◌==◌, ◌||◌, Bool, false, List, [], ◌∷◌, length, codes, IsTrue, not}
use Rattle.std.specs.List.{list_all}
use Rattle.std.specs.Char.{is_ascii_alphabetic, is_ascii_alphanumeric}
use Rattle.std.specs.Str.{str_eq_ignore_ascii_case}

-- whether the text begins with a letter
abbrev pub begins_with_letter : List ℕ → Bool
begins_with_letter [] = false
begins_with_letter (byte ∷ bytes) = is_ascii_alphabetic byte

-- whether the byte is a letter, a digit or `_`, which is byte 95
abbrev pub is_solver_name_byte : ℕ → Bool
is_solver_name_byte byte = is_ascii_alphanumeric byte || byte == 95

-- A solver's name: a letter, then letters, digits and `_`, at most 63 bytes. No solver is named
-- `none`, in any letter case: that word denotes a list without solvers.
pub record IsSolverName (name : List ℕ) : Type 0 where
  pub letter : IsTrue (begins_with_letter name)
  pub plain : IsTrue (list_all is_solver_name_byte name)
  pub short : length name ≤ 63
  pub not_none : IsTrue (not (str_eq_ignore_ascii_case name (codes "none")))
