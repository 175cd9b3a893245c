-- The view of the store: its numbers of the field `F` are replaced by the numbers that they mean.
use Rattle.std.specs.Prelude.{map, option_map}
use Rattle.std.specs.FinMap as finite
use Rattle.gq_number.specs.Number.{Number}
use Rattle.gq_extended.specs.Meaning.{extended}
use Rattle.gms_store.specs.declared.attributes.Attributes as own
use Rattle.gms_store.specs.declared.content.Content as kept
use Rattle.gms_store.specs.declared.content.Content.TheVariants as variant
use Rattle.gms_store.specs.State.{Entries, Attributes, Content, undeclared, alias_of, set_of, parameter_of, variable_of, equation_of, model_with}

-- a finite map with `f` applied to each of its values
abbrev pub entries_mapped : {X Y : Type 0} → (X → Y) → Entries X → Entries Y
entries_mapped f entries = finite.from_entries (map (λ e. (e.0, f e.1)) (finite.entries entries))

module _ {F : Type 0} (value : F → Number) where
  -- the attributes of an element, with each number of the field `F` replaced by the number that it
  -- means (`value`)
  abbrev pub attributes_shown : own.Attributes F → Attributes
  attributes_shown a =
      record { lower = option_map value a.lower; upper = option_map value a.upper; level = value a.level; marginal = value a.marginal }

  -- what a name denotes, with each number of the field `F` in its data replaced by the number that
  -- it means (`value`)
  abbrev pub content_shown : kept.Content F → Content
  content_shown variant.Undeclared = undeclared
  content_shown (variant.Alias base) = alias_of base
  content_shown (variant.Set members) = set_of members
  content_shown (variant.Parameter entries) = parameter_of (entries_mapped (extended value) entries)
  content_shown (variant.Variable type entries) = variable_of type (entries_mapped attributes_shown entries)
  content_shown (variant.Equation entries) = equation_of (entries_mapped attributes_shown entries)
  content_shown (variant.Model model solver) = model_with model solver
