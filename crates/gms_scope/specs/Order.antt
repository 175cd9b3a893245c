-- The names that are declared, each a node at its index in the order of declarations, with the path
-- from each to the sets that it is below.
use Rattle.std.specs.Prelude.{◌≡◌, ◌<◌, ◌≤◌, ℕ, zero, suc, Bool, true, false, ◌==◌, ◌&&◌, ◌||◌, nat_lt, List, [], ◌∷◌, length, map, Option, Some, None, slice_index_or, if◌then◌else◌}
use Rattle.gms_scope.specs.declared.order.Node.{Node}
use Rattle.gms_scope.specs.Entries.{DeclarationList}
use Rattle.gms_scope.specs.declared.order.Order.{Order}

-- the names of nodes, in order; a node is one declaration of a name
abbrev pub names_of_nodes : List Node → List ℕ
names_of_nodes nodes = map (λ (node : Node). node.name) nodes

-- the view of a node, one declaration of a name: the name, with `below`, the domain set of a
-- one-dimensional set, or None
abbrev pub entry_of_node : Node → ℕ × Option ℕ
entry_of_node node = (node.name, node.below)

-- the list of declarations that nodes give: of each its name, with its domain set, if any
abbrev pub entries_of_nodes : List Node → DeclarationList
entries_of_nodes nodes = map entry_of_node nodes

-- the position of a name, from 1, after one more name is inserted before the list; 0, for a name
-- that the list lacks, remains 0
abbrev pub later : ℕ → ℕ
later zero = zero
later (suc n) = suc (suc n)

-- the position of a name in a list of names, from 1; 0 if the list lacks it
abbrev pub order_of : List ℕ → ℕ → ℕ
order_of [] name = 0
order_of (first ∷ names) name = if first == name then 1 else later (order_of names name)

-- the node at the index `place`, from 0; past the last one a node of name 0 without a domain set:
-- no set is above it (`depth`), and its indices of nodes above it are `place` itself
abbrev pub node_at : List Node → ℕ → Node
node_at nodes place = slice_index_or nodes place (record { name = 0; below = None; depth = 0; above = place; far = place })

-- whether the node at the index `other` is that at `place`, or is reached from it by at most `n`
-- moves, each from a node to that at its `above`, the first declaration of its domain set, at an
-- earlier index
abbrev pub is_under_within : ℕ → List Node → ℕ → ℕ → Bool
is_under_within zero nodes place other = place == other
is_under_within (suc n) nodes place other =
    (place == other) || (nat_lt (node_at nodes place).above place && is_under_within n nodes (node_at nodes place).above other)

-- whether the node at the index `other` is that at `place`, or is reached from it by moves, each
-- from a node to that at its `above`, the first declaration of its domain set, at an earlier index
abbrev pub is_under : List Node → ℕ → ℕ → Bool
is_under nodes place other = is_under_within place nodes place other

-- `above` is the index of the node directly above that at `place`, where `names` are the names of
-- the nodes, in order: the first node of its domain set `name`, at an earlier index; or `place`
-- itself if it has no domain set
abbrev pub IsAbove : List ℕ → Option ℕ → ℕ → ℕ → Type 0
IsAbove names None place above = above ≡ place
IsAbove names (Some name) place above = (order_of names name ≡ suc above) × (above < place)

-- What holds of the node at the index `place`. Its index `above` is that of the first node of its
-- domain set (`below`), at an earlier index, or `place` itself if it has no domain set. Its index
-- `far` is that of the node at `above` or of a node above that one.
pub record IsNodeStep (nodes : List Node) (place : ℕ) (node : Node) : Type 0 where
  pub above : node.above ≤ place
  pub below : IsAbove (names_of_nodes nodes) node.below place node.above
  pub far : node.far ≤ node.above
  pub under : is_under nodes node.above node.far ≡ true

-- `first` has for each name the position, from 1, of its first declaration (a node), or 0 if there
-- is none. A node has its one domain set, if any, in `below`. Its index `above` is that of the
-- first node of this set, or its own if there is none, and its index `far` is that of the node at
-- `above` or of one above that node (`IsNodeStep`).
pub record IsOrder (order : Order) : Type 0 where
  pub places : (name : ℕ) → slice_index_or order.first.items name 0 ≡ order_of (names_of_nodes order.nodes.items) name
  pub steps : (place : ℕ) → place < length order.nodes.items → IsNodeStep order.nodes.items place (node_at order.nodes.items place)

-- whether the first of two positions is before the second in the order of declarations. Positions
-- are from 1; 0, for a name that is not declared, is before none, and every other position is
-- before 0
abbrev pub is_earlier : ℕ → ℕ → Bool
is_earlier zero other = false
is_earlier (suc order) zero = true
is_earlier (suc order) (suc other) = nat_lt order other

-- the first position of a name in a list, from 1 (0 if the list lacks it), after one more name was
-- appended to `last` names: it is unchanged, except that it becomes the last if it was 0 and the
-- appended name is the name (`same`)
abbrev pub new_order : ℕ → Bool → ℕ → ℕ
new_order zero true last = suc last
new_order zero false last = zero
new_order (suc order) same last = suc order
