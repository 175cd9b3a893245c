-- The context of an expression, and so what may occur in it (GAMS User's Guide, "Data
-- Manipulation", assignment statements and dollar conditions; "Equations"). A set may be an operand
-- of `$` and of the words of logic; this is the project's own choice.
use Rattle.std.specs.Prelude.{Bool, true, false, if◌then◌else◌}
use Rattle.gms_ast.specs.declared.expression.Suffix.{Suffix}
use Rattle.gms_ast.specs.declared.expression.Suffix.TheVariants as suffix
use Rattle.gms_store.specs.declared.kind.SymbolKind.{SymbolKind}
use Rattle.gms_store.specs.declared.kind.SymbolKind.TheVariants as kind
use Rattle.gms_check.specs.declared.contexts.Context.{Context}

-- the context of what has to be a number: the right side of an assignment to a parameter or an
-- attribute, an operand of a relation, the amount of a lag. No variables without suffix may occur,
-- no sets, and neither `yes` nor `no` (`membership`)
abbrev pub as_number : Context
as_number = record { numbers = true; variables = false; sets = false; membership = false }

-- the context of one side of an equation: a number, in which variables may occur, but no sets, and
-- neither `yes` nor `no` (`membership`)
abbrev pub as_side : Context
as_side = record { numbers = true; variables = true; sets = false; membership = false }

-- the context of a condition, of an operand of `and`, `or` and `xor`, and, except on the right side
-- of an assignment to a set, of the operand of `not`: numbers and sets may occur, but no variables
-- without suffix, and neither `yes` nor `no` (`membership`)
abbrev pub as_condition : Context
as_condition = record { numbers = true; variables = false; sets = true; membership = false }

-- the context of the right side of an assignment to a set: sets, `yes` and `no`
abbrev pub as_members : Context
as_members = record { numbers = false; variables = false; sets = true; membership = true }

-- the context of an operand of a sum, a product, a power or a minus sign, in an expression with the
-- context `at`: the same, but sets may occur only where `yes` and `no` may, that is, on the right
-- side of an assignment to a set
abbrev pub as_part : Context → Context
as_part at = record { numbers = at.numbers; variables = at.variables; sets = at.membership; membership = at.membership }

-- the context of the left operand of `$` in an expression with the context `at`: the same, and sets
-- may occur too
abbrev pub as_guarded : Context → Context
as_guarded at = record { numbers = at.numbers; variables = at.variables; sets = true; membership = at.membership }

-- the context of an argument of a function, or of the body of a `sum` or another fold, in an
-- expression with the context `at`: a number, in which variables may occur if they may in the
-- expression, but no sets, and neither `yes` nor `no` (`membership`)
abbrev pub as_inner : Context → Context
as_inner at = record { numbers = true; variables = at.variables; sets = false; membership = false }

-- the context of the operand of `not` in an expression with the context `at`: `at` itself where
-- `yes` and `no` may occur, that is, on the right side of an assignment to a set, otherwise that of
-- a condition
abbrev pub as_denied : Context → Context
as_denied at = if at.membership then at else as_condition

-- whether a symbol of this kind, with this suffix, may occur in the context `at`. A variable
-- without suffix always may here: in a wrong context it has another error, Endogenous
abbrev pub may_occur : Context → SymbolKind → Suffix → Bool
may_occur at kind.Set suffix.None = at.sets
may_occur at kind.Parameter suffix.None = at.numbers
may_occur at kind.Variable suffix.None = true
may_occur at kind.Variable suffix.Lo = at.numbers
may_occur at kind.Variable suffix.Up = at.numbers
may_occur at kind.Variable suffix.L = at.numbers
may_occur at kind.Variable suffix.M = at.numbers
may_occur at kind.Equation suffix.L = at.numbers
may_occur at kind.Equation suffix.M = at.numbers
may_occur at kind.Model suffix.ModelStat = at.numbers
may_occur at kind.Model suffix.SolveStat = at.numbers
may_occur at kind suffix = false

-- whether an assignment to a symbol of this kind, with this suffix, is possible
abbrev pub may_be_assigned : SymbolKind → Suffix → Bool
may_be_assigned kind.Set suffix.None = true
may_be_assigned kind.Parameter suffix.None = true
may_be_assigned kind.Variable suffix.Lo = true
may_be_assigned kind.Variable suffix.Up = true
may_be_assigned kind.Variable suffix.L = true
may_be_assigned kind.Variable suffix.M = true
may_be_assigned kind.Variable suffix.Fx = true
may_be_assigned kind suffix = false
