-- When an assignment assigns to no element twice (GAMS User's Guide, "Data Manipulations with
-- Parameters", indexed assignments; "Sets as Sequences: Ordered Sets", lags and leads in
-- assignments).
use Rattle.std.specs.Prelude.{◌≡◌, ℕ, Bool, true, false, List}
use Rattle.std.specs.List.{IsDistinct}
use Rattle.gms_ast.specs.declared.expression.Suffix.TheVariants as suffix
use Rattle.gms_ast.specs.Trees as tree
use Rattle.gms_tuple.specs.TupleOrder.{same_tuple}
use Rattle.gms_store.specs.State.{State}
use Rattle.gms_eval.specs.Domain.{IsSimple}
use Rattle.gms_exec.specs.Given.{Given, AllGiven}

-- whether the amount of a lag is a number, or a name without indices and suffix, and so does not
-- depend on the labels of controlled sets
abbrev pub is_constant_lag : {F : Type 0} → tree.Tree F → Bool
is_constant_lag (tree.number n) = true
is_constant_lag (tree.reference at name suffix.None tree.no_index) = true
is_constant_lag e = false

-- The indices are as in a left side of an accepted program: the members of each set among them have
-- one label each and are distinct and in ascending order, and the amount of each lag is a number,
-- or a name without indices and suffix.
abbrev pub AreLeft : {F : Type 0} → State → tree.Indices F → Type 0
AreLeft state tree.no_index = Unit {0}
AreLeft state (tree.label label rest) = AreLeft state rest
AreLeft state (tree.set set rest) = IsSimple state set × AreLeft state rest
AreLeft state (tree.lagged set op at amount rest) = IsSimple state set × ((is_constant_lag amount ≡ true) × AreLeft state rest)

-- no element occurs twice among those to which something is assigned
abbrev pub IsOnce : AllGiven → Type 0
IsOnce all = IsDistinct (λ (a : List ℕ × Given) (b : List ℕ × Given). same_tuple a.0 b.0) all
