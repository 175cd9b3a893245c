-- Numbers of indices, and indices and labels against the domains of names (GAMS User's Guide, "Set
-- Definition", domain checking; "Dynamic Sets"). A dynamic set is no domain; this is the project's
-- own choice.
use Rattle.std.specs.Prelude.{ℕ, Bool, true, false, not, ◌||◌, ◌==◌, ◌+◌, nat_lt, List, [], length, Option}
use Rattle.gms_ast.specs.Trees.{Indices, no_index, label, set, lagged}
use Rattle.gms_store.specs.Declarations.{positions_of}
use Rattle.gms_set.specs.declared.fault.SetError.TheVariants.{Outside}
use Rattle.gms_check.specs.Uses.{Use, reading, controlling, assigning, defining, naming, bounding, placing, failing}
use Rattle.gms_check.specs.Past.{Known, is_dynamic}
use Rattle.gms_scope.specs.Names.{positions}
use Rattle.gms_check.specs.IndexList.{have_unfit_label, have_unfit_set}

-- whether `count`, a number of indices or positions, is not the expected one, or over 10
abbrev pub is_wrong_count : ℕ → ℕ → Bool
is_wrong_count expected count = not (count == expected) || nat_lt 10 count

module _ {F : Type 0} where
  -- how many indices a reference or a left side has
  abbrev pub index_count : Indices F → ℕ
  index_count no_index = 0
  index_count (label n rest) = index_count rest + 1
  index_count (set name rest) = index_count rest + 1
  index_count (lagged name op at amount rest) = index_count rest + 1

  -- WrongArity: the number of indices of a reference or a left side, or the number of positions of
  -- an item of data (2 for `a.b`), is not the number of positions of its name, or is over 10; a
  -- fold or a loop controls more than 10 sets; a name is declared with more than 10 positions
  abbrev pub wrong_arity : Known F → Use F → Bool
  wrong_arity known (reading context controlled name suffix indices) = is_wrong_count (length (positions known.state name)) (index_count indices)
  wrong_arity known (assigning name suffix indices) = is_wrong_count (length (positions known.state name)) (index_count indices)
  wrong_arity known (defining name indices) = is_wrong_count (length (positions known.state name)) (index_count indices)
  wrong_arity known (controlling controlled sets) = nat_lt 10 (length sets)
  wrong_arity known (naming kind name domain) = nat_lt 10 (length (positions_of kind domain))
  wrong_arity known (placing expected count) = is_wrong_count expected count
  wrong_arity known used = false

  -- whether some set among the indices of `name` may not be at its position, where `domain` has a
  -- set: it is neither that set nor below it by domain sets, or that set is not one-dimensional or
  -- not declared before `name`
  abbrev pub has_unfit_set : Known F → ℕ → List (Option ℕ) → Indices F → Bool
  has_unfit_set known name domain indices = have_unfit_set known.state known.declared known.above name domain indices

  -- whether some label among the indices of `name` may not be at its position, where `domain` has a
  -- set: it is no member of that set, or that set is not one-dimensional or not declared before
  -- `name`
  abbrev pub has_unfit_label : Known F → ℕ → List (Option ℕ) → Indices F → Bool
  has_unfit_label known name domain indices = have_unfit_label known.state known.declared name domain indices

  -- DomainOfSet: an index is a set that does not fit its position: the index is neither the set of
  -- the position nor below this set by domain sets, or the set of the position is not
  -- one-dimensional or not declared before the name that has the index
  abbrev pub domain_of_set : Known F → Use F → Bool
  domain_of_set known (reading context controlled name suffix indices) = has_unfit_set known name (positions known.state name) indices
  domain_of_set known (assigning name suffix indices) = has_unfit_set known name (positions known.state name) indices
  domain_of_set known (defining name indices) = has_unfit_set known name (positions known.state name) indices
  domain_of_set known used = false

  -- DomainOfLabel: an index is a label that the set of its position does not have, or that set is
  -- not one-dimensional or not declared before the name that has the index; or an element of data
  -- has a label that the set of its position does not have (`Outside`)
  abbrev pub domain_of_label : Known F → Use F → Bool
  domain_of_label known (reading context controlled name suffix indices) = has_unfit_label known name (positions known.state name) indices
  domain_of_label known (assigning name suffix indices) = has_unfit_label known name (positions known.state name) indices
  domain_of_label known (defining name indices) = has_unfit_label known name (positions known.state name) indices
  domain_of_label known (failing Outside) = true
  domain_of_label known used = false

  -- DynamicDomain: a domain has a set that some statement of the program assigns
  abbrev pub dynamic_domain : Known F → Use F → Bool
  dynamic_domain known (bounding name) = is_dynamic known name
  dynamic_domain known used = false
