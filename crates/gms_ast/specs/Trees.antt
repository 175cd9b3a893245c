-- Trees of expressions as contracts compare them: what an expression is, wherever its parts are
-- stored.
use Rattle.std.specs.Prelude.{ℕ, Bool, List}
use Rattle.gms_labels.specs.declared.place.Place.{Place}
use Rattle.gms_ast.specs.declared.expression.Suffix.{Suffix}
use Rattle.gms_ast.specs.declared.expression.FoldOp.{FoldOp}
use Rattle.gms_ast.specs.declared.expression.LagOp.{LagOp}
use Rattle.gms_ast.specs.declared.expression.Function.{Function}
use Rattle.gms_ast.specs.declared.expression.RelOp.{RelOp}

-- What a node of an expression records of a part besides its tree. A place is that of the part's
-- first character in the source. A flag or a relation is of the operator before the part; the first
-- part of a node has none, so its flag or relation has no meaning.
pub data Mark : Type 0 where
  -- nothing
  plain : Mark
  -- its place, in a power
  placed : Place → Mark
  -- its place, and a flag: in a sum whether it is subtracted, in a product whether it divides
  signed : Place → Bool → Mark
  -- the relation before the part
  related : RelOp → Mark
  -- in a choice, whether `xor` and not `or` joins the part to those before it
  chosen : Bool → Mark

mutual
  -- An expression over numbers of N. A ℕ is the number of a name; a place is that of the node's
  -- first character in the source. `place_in_set` is `ord`, and `size_of_set` is `card`.
  -- `fold_over` joins the values of its tree over sets, as GAMS `sum` and `smax` do. `one_of` is a
  -- choice by `or` and `xor`. `guarded` is an operand and its `$` conditions.
  pub data Tree (N : Type 0) : Type 0 where
    number : N → Tree N
    plus_infinity : Tree N
    not_available : Tree N
    yes : Tree N
    no : Tree N
    reference : Place → ℕ → Suffix → Indices N → Tree N
    place_in_set : Place → ℕ → Tree N
    size_of_set : Place → ℕ → Tree N
    call : Place → Function → Parts N → Tree N
    fold_over : Place → FoldOp → Control N → Tree N → Tree N
    negated : Tree N → Tree N
    sum : Parts N → Tree N
    product : Parts N → Tree N
    power : Parts N → Tree N
    relation : Parts N → Tree N
    not_so : Tree N → Tree N
    all_of : Parts N → Tree N
    one_of : Parts N → Tree N
    guarded : Tree N → Parts N → Tree N

  -- Parts of a node in order. Each is a tree with a mark: what the node records of it besides, as
  -- whether it is subtracted.
  pub data Parts (N : Type 0) : Type 0 where
    no_part : Parts N
    part : Mark → Tree N → Parts N → Parts N

  -- Indices of a reference in order: a label or a set, each by its number. A set may have a lag,
  -- with the place of the lag's amount and the amount.
  pub data Indices (N : Type 0) : Type 0 where
    no_index : Indices N
    label : ℕ → Indices N → Indices N
    set : ℕ → Indices N → Indices N
    lagged : ℕ → LagOp → Place → Tree N → Indices N → Indices N

  -- The sets of a fold or a loop, by the numbers of their names, without a condition or with one.
  pub data Control (N : Type 0) : Type 0 where
    over : List ℕ → Control N
    over_where : List ℕ → Tree N → Control N
