-- What is read after an assignment: at each element what was assigned to it, or else its old value.
use Rattle.std.specs.Prelude.{ℕ, Bool, List, reverse, find, Option, Some, None, option_map}
use Rattle.gq_extended.specs.Extended.{Extended}
use Rattle.gms_tuple.specs.TupleOrder.{same_tuple}
use Rattle.gms_ast.specs.declared.expression.Suffix.{Suffix}
use Rattle.gms_store.specs.State.{Attributes}
use Rattle.gms_exec.specs.Given.{AllGiven, values_given, members_given, with_attribute}

-- the second component of the last pair whose first is the tuple `t`; None if there is none
abbrev pub last_at : {A : Type 0} → List (List ℕ × A) → List ℕ → Option A
last_at {A} pairs t = option_map (λ (p : List ℕ × A). p.1) (find (λ (p : List ℕ × A). same_tuple p.0 t) (reverse pairs))

-- the value that is assigned to an element, the last if there are several; None if no value is
abbrev pub given_value : AllGiven → List ℕ → Option Extended
given_value all t = last_at (values_given all) t

-- whether an element becomes a member, by the last assignment to it; None if no membership is
-- assigned to it
abbrev pub membership_at : AllGiven → List ℕ → Option Bool
membership_at all t = last_at (members_given all) t

-- the attributes of an element with the attributes `a` after a value, if any, was assigned with
-- this suffix
abbrev pub attributes_with : Suffix → Attributes → Option Extended → Attributes
attributes_with suffix a None = a
attributes_with suffix a (Some x) = with_attribute suffix a x
