-- What has no error names what is declared alone.
use Rattle.std.proofs.Common.{◌≡◌, ℕ, Bool, false, not, List, [], ◌∷◌, ◌++◌, Option, Some, None, ap}
use Rattle.std.specs.List.{list_any}
use Rattle.gms_labels.specs.declared.place.Place.{Place}
use Rattle.gms_ast.specs.Trees as tree
use Rattle.gms_scope.specs.Names.{has_no_declaration}
use Rattle.gms_check.specs.declared.error.ErrorKind.TheVariants.{UnknownName}
use Rattle.gms_check.specs.declared.contexts.Context.{Context}
use Rattle.gms_check.specs.Past.{Known}
use Rattle.gms_check.specs.Contexts.{as_number, as_condition, as_part, as_inner, as_guarded, as_denied}
use Rattle.gms_check.specs.Uses.{place_by_mark, index_sets, sets_of_control, steps, uses, part_uses, amount_uses, control_uses, shift_uses, condition_uses}
use Rattle.gms_check.proofs.NoErrors.{AreClean, clean-left, clean-right}
use Rattle.gms_check.proofs.Soundness.{neither-first, neither-second}
use Rattle.gms_run_laws.specs.Agreeing.{declares}
use Rattle.gms_run_laws.specs.Names.{Each, names_in_tree, part_names, index_names, control_names, condition_names}
use Rattle.gms_run_laws.proofs.Eaches.{each-both}

module _ {F : Type 0} (known : Known F) where
  -- the names that are declared
  abbrev test : ℕ → Bool
  test = declares known.state

  pub none-unknown : (ns : List ℕ) → list_any (has_no_declaration known.state) ns ≡ false → Each test ns
  none-unknown [] none = tt
  none-unknown (n ∷ ns) none =
      (ap not (neither-first (has_no_declaration known.state n) (list_any (has_no_declaration known.state) ns) none), none-unknown ns (neither-second (has_no_declaration known.state n) (list_any (has_no_declaration known.state) ns) none))

  mutual
    pub names-clean : (e : tree.Tree F) (context : Context) (at : Place) (around : List ℕ) → AreClean known (uses context at around e) → Each test (names_in_tree e)
    names-clean (tree.number n) context at around clean = tt
    names-clean tree.plus_infinity context at around clean = tt
    names-clean tree.not_available context at around clean = tt
    names-clean tree.yes context at around clean = tt
    names-clean tree.no context at around clean = tt
    names-clean (tree.reference place name suffix indices) context at around clean =
        let all = none-unknown (name ∷ index_sets indices) (clean.0 UnknownName) in (all.0, indices-clean indices around all.1 clean.1)
    names-clean (tree.place_in_set place set) context at around clean = none-unknown (set ∷ []) (clean.0 UnknownName)
    names-clean (tree.size_of_set place set) context at around clean = none-unknown (set ∷ []) (clean.0 UnknownName)
    names-clean (tree.call place function args) context at around clean = parts-clean args (as_inner context) place around clean.1
    names-clean (tree.fold_over place op control body) context at around clean =
        each-both test (control_names control) (names_in_tree body) (control-clean control place around (clean-left known (control_uses place around control) (uses (as_inner context) place (around ++ sets_of_control control) body) clean.1))
        (names-clean body (as_inner context) place (around ++ sets_of_control control) (clean-right known (control_uses place around control) (uses (as_inner context) place (around ++ sets_of_control control) body) clean.1))
    names-clean (tree.negated operand) context at around clean = names-clean operand (as_part context) at around clean
    names-clean (tree.sum parts) context at around clean = parts-clean parts (as_part context) at around clean
    names-clean (tree.product parts) context at around clean =
        parts-clean parts (as_part context) at around (clean-left known (part_uses (as_part context) at around parts) (steps context at parts) clean)
    names-clean (tree.power parts) context at around clean =
        parts-clean parts (as_part context) at around (clean-left known (part_uses (as_part context) at around parts) (steps context at parts) clean)
    names-clean (tree.relation parts) context at around clean = parts-clean parts as_number at around clean.1
    names-clean (tree.not_so operand) context at around clean = names-clean operand (as_denied context) at around clean
    names-clean (tree.all_of parts) context at around clean = parts-clean parts as_condition at around clean.1
    names-clean (tree.one_of parts) context at around clean = parts-clean parts as_condition at around clean.1
    names-clean (tree.guarded operand guards) context at around clean =
        each-both test (names_in_tree operand) (part_names guards) (names-clean operand (as_guarded context) at around (clean-left known (uses (as_guarded context) at around operand) (part_uses as_condition at around guards) clean))
        (parts-clean guards as_condition at around (clean-right known (uses (as_guarded context) at around operand) (part_uses as_condition at around guards) clean))

    parts-clean : (parts : tree.Parts F) (context : Context) (at : Place) (around : List ℕ) → AreClean known (part_uses context at around parts) → Each test (part_names parts)
    parts-clean tree.no_part context at around clean = tt
    parts-clean (tree.part mark e rest) context at around clean =
        each-both test (names_in_tree e) (part_names rest) (names-clean e context (place_by_mark mark at) around (clean-left known (uses context (place_by_mark mark at) around e) (part_uses context at around rest) clean))
        (parts-clean rest context at around (clean-right known (uses context (place_by_mark mark at) around e) (part_uses context at around rest) clean))

    indices-clean : (indices : tree.Indices F) (around : List ℕ) → Each test (index_sets indices) → AreClean known (amount_uses around indices) → Each test (index_names indices)
    indices-clean tree.no_index around all clean = tt
    indices-clean (tree.label n rest) around all clean = indices-clean rest around all clean
    indices-clean (tree.set name rest) around all clean = (all.0, indices-clean rest around all.1 clean)
    indices-clean (tree.lagged name op at amount rest) around all clean = (
      all.0,
      each-both test (names_in_tree amount) (index_names rest) (names-clean amount as_number at around (clean-left known (uses as_number at around amount) (amount_uses around rest) clean))
          (indices-clean rest around all.1 (clean-right known (uses as_number at around amount) (amount_uses around rest) clean)),
    )

    pub control-clean : (control : tree.Control F) (at : Place) (around : List ℕ) → AreClean known (control_uses at around control) → Each test (control_names control)
    control-clean (tree.over sets) at around clean = none-unknown sets (clean.0 UnknownName)
    control-clean (tree.over_where sets condition) at around clean =
        each-both test sets (names_in_tree condition) (none-unknown sets (clean.0 UnknownName)) (names-clean condition as_condition at (around ++ sets) clean.1)

  -- the indices of a left side
  pub left-clean : (indices : tree.Indices F) (around : List ℕ) → Each test (index_sets indices) → AreClean known (shift_uses around indices) → Each test (index_names indices)
  left-clean tree.no_index around all clean = tt
  left-clean (tree.label n rest) around all clean = left-clean rest around all clean
  left-clean (tree.set name rest) around all clean = (all.0, left-clean rest around all.1 clean)
  left-clean (tree.lagged name op at amount rest) around all clean = (
    all.0,
    each-both test (names_in_tree amount) (index_names rest) (names-clean amount as_number at around (clean-left known (uses as_number at around amount) (shift_uses around rest) clean.1))
        (left-clean rest around all.1 (clean-right known (uses as_number at around amount) (shift_uses around rest) clean.1)),
  )

  -- a condition, if there is one
  pub condition-clean : (condition : Option (tree.Tree F)) (at : Place) (around : List ℕ) → AreClean known (condition_uses at around condition) → Each test (condition_names condition)
  condition-clean None at around clean = tt
  condition-clean (Some condition) at around clean = names-clean condition as_condition at around clean
