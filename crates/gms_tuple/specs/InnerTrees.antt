-- The tuples of a balanced tree: from left to right, and at each fork their number.
use Rattle.std.specs.Prelude.{◌≡◌, ◌<◌, ℕ, List, [], ◌++◌, length}
use Rattle.gms_tuple.specs.declared.tree.Fork.{Fork as ForkOf}
use Rattle.gms_tuple.specs.declared.tree.Node.{Node}
use Rattle.gms_tuple.specs.declared.tree.Node.TheVariants.{Leaf, Fork}

-- the tuples of a fork: those on the left, its own, those on the right
abbrev pub listed : ForkOf → List (List ℕ)
listed fork = fork.left ++ (fork.own.items ++ fork.right)

-- the tuples of a node
abbrev pub tuples : Node → List (List ℕ)
tuples Leaf = []
tuples (Fork fork) = listed fork.value

-- a fork has the number of its tuples, and at least one is in the fork itself
abbrev pub IsFork : ForkOf → Type 0
IsFork fork = (fork.size ≡ length (listed fork)) × (0 < length fork.own.items)

-- the invariant of a node
abbrev pub IsCounted : Node → Type 0
IsCounted Leaf = Unit {0}
IsCounted (Fork fork) = IsFork fork.value

-- a fork of one block
abbrev pub IsSingle : ForkOf → Type 0
IsSingle fork = (fork.left ≡ []) × (fork.right ≡ []) × (fork.size ≡ length fork.own.items)
