-- Which elements the right side of an assignment to a set makes members (GAMS User's Guide,
-- "Dynamic Sets").
use Rattle.std.specs.Prelude.{ℕ, Bool, true, false, not, ◌&&◌, ◌||◌, List, [], ◌∷◌, Ok, if◌then◌else◌}
use Rattle.gq_number.specs.Number.{Number}
use Rattle.gms_ast.specs.Trees.{Mark, signed}
use Rattle.gms_ast.specs.Trees as tree
use Rattle.gms_store.specs.State.{State}
use Rattle.gms_eval.specs.Nodes.{unmarked, each_holds}
use Rattle.gms_eval.specs.Bindings.{Pairs}
use Rattle.gms_eval.specs.Faults.{Answer, ◌and_then◌}
use Rattle.gms_eval.specs.Holds.{holds}
use Rattle.gms_eval.specs.Value.{values}

-- a step that joins the operands of a set expression: from the mark of the next operand, which has
-- the operator before it, whether the element is in the result so far, and whether it is in that
-- operand, to whether it is in the next result
abbrev pub MembershipJoin : Type 0
MembershipJoin = Mark → Bool → Bool → Bool

-- the step of a sum, for one element: after `+` it is in the next result if it is in the result so
-- far or in the operand; after `-`, if it is in the result so far and not in the operand
abbrev pub in_sum : MembershipJoin
in_sum (signed at true) x y = x && not y
in_sum mark x y = x || y

-- the step of a product: the element is in the next result if it is in the result so far and in the
-- operand
abbrev pub in_product : MembershipJoin
in_product mark x y = x && y

-- the result so far joined with these operands, from the left; or the first fault of an operand
abbrev pub joined_membership : MembershipJoin → Bool → List (Mark × Answer Bool) → Answer Bool
joined_membership join so_far [] = Ok so_far
joined_membership join so_far (part ∷ parts) = part.1 and_then λ x. joined_membership join (join part.0 so_far x) parts

module _ {F : Type 0} (number_of : F → Number) (limit : ℕ) (state : State) (binding : Pairs) where
  abbrev mutual
    -- Whether the right side of an assignment to a set makes the element of a binding a member, or
    -- the first fault. A sum is the union, after `-` the difference (`in_sum`); a product is the
    -- intersection, and `not` the complement. An operand whose guards do not all hold gives false,
    -- and a unary `-` has no effect. Any other expression makes the element a member if it holds as
    -- a condition; in an accepted program it is a reference to a set.
    pub membership : tree.Tree F → Answer Bool
    membership tree.yes = Ok true
    membership tree.no = Ok false
    membership (tree.negated operand) = membership operand
    membership (tree.not_so operand) = membership operand and_then λ x. Ok (not x)
    membership (tree.sum parts) = joined_membership in_sum false (memberships parts)
    membership (tree.product parts) = joined_membership in_product true (memberships parts)
    membership (tree.guarded operand guards) =
        each_holds (unmarked (values number_of limit state binding guards)) and_then λ hold. if hold then membership operand else Ok false
    membership other = holds number_of limit state binding other

    -- for each operand of a sum or a product, whether it makes the element a member (`membership`),
    -- or its fault, with the operand's mark, which has the operator before the operand
    pub memberships : tree.Parts F → List (Mark × Answer Bool)
    memberships tree.no_part = []
    memberships (tree.part mark part rest) = (mark, membership part) ∷ memberships rest
