-- What a `display` or an `abort` shows of its items (GAMS User's Guide, "The Display Statement").
-- That it shows the bounds of a variable over all elements of its domain, and how many these may
-- be, is this project's own rule.
use Rattle.std.specs.Prelude.{ℕ, pos, min, nat_le, length, Bool, true, not, List, [], ◌∷◌, map, filter, Option, Some, None, Ok, if◌then◌else◌, ◌==◌}
use Rattle.std.specs.List.{range_with_len}
use Rattle.gq_number.specs.Number.{whole}
use Rattle.gq_extended.specs.Extended.{Extended, number}
use Rattle.gms_ast.specs.declared.word.Named.{Named}
use Rattle.gms_ast.specs.declared.program.Show.{Show}
use Rattle.gms_ast.specs.declared.program.Show.TheVariants as show
use Rattle.gms_ast.specs.declared.expression.Suffix.{Suffix}
use Rattle.gms_ast.specs.declared.expression.Suffix.TheVariants as suffix
use Rattle.gms_tuple.specs.Products.{tuple_product}
use Rattle.gms_store.specs.declared.kind.SymbolKind.TheVariants.{Undeclared}
use Rattle.gms_store.specs.State.{State, symbol_at, symbol_of, attributes_of, given_of, statuses_in}
use Rattle.gms_store.specs.Declarations.{kind_in}
use Rattle.gms_eval.specs.Nodes.{is_so, in_order}
use Rattle.gms_eval.specs.Bindings.{Pairs}
use Rattle.gms_eval.specs.Domain.{labels_of, sized}
use Rattle.gms_eval.specs.Faults.{Answer, nothing, ◌and_then◌}
use Rattle.gms_eval.specs.References.{plain_value, lower_value, upper_value}
use Rattle.gms_event.specs.Events.{Shown}

-- the number of a status as a value. It is capped at 127: no status is above that, and each type of
-- numbers that the project calculates with has all integers up to 127
abbrev pub status_shown : ℕ → Extended
status_shown status = number (whole (pos (min status 127)))

-- the value that is shown of a name with this suffix at a tuple; 0 for `Fx`
abbrev pub value_shown : State → ℕ → Suffix → List ℕ → Extended
value_shown state name suffix.None t = plain_value state name (symbol_of state name).content t
value_shown state name suffix.Lo t = lower_value (attributes_of state name t).lower
value_shown state name suffix.Up t = upper_value (attributes_of state name t).upper
value_shown state name suffix.L t = number (attributes_of state name t).level
value_shown state name suffix.M t = number (attributes_of state name t).marginal
value_shown state name suffix.Fx t = nothing
value_shown state name suffix.ModelStat t = status_shown (statuses_in (symbol_of state name).content).0
value_shown state name suffix.SolveStat t = status_shown (statuses_in (symbol_of state name).content).1

-- whether a suffix is that of a bound
abbrev pub is_bound : Suffix → Bool
is_bound suffix.Lo = true
is_bound suffix.Up = true
is_bound other = not true

-- the labels that may occur at a position: those of its set, or without a set all labels of the
-- program, of which there are `labels`
abbrev pub labels_at : ℕ → State → Option ℕ → List ℕ
labels_at labels state None = range_with_len 0 labels
labels_at labels state (Some set) = labels_of state set

-- the elements of a domain in a program with `labels` labels. An element has at most 10 labels, so
-- a domain with more positions, which no accepted program has, has none
abbrev pub elements_at : ℕ → State → List (Option ℕ) → List (List ℕ)
elements_at labels state positions = if nat_le (length positions) 10 then tuple_product (map (labels_at labels state) positions) else []

-- whether a name has positions
abbrev pub is_indexed : State → ℕ → Bool
is_indexed state name = not (length (symbol_of state name).domain == 0)

-- The tuples whose values a display or an abort may show of a name, in a program with `labels`
-- labels. With the suffix of a bound: all elements of the name's domain, or the fault DomainSize,
-- with `binding`, if these are more than 16,777,216. Otherwise: for a name without positions the
-- empty tuple; for any other name the tuples with data, that is, the members of a set, or those at
-- which the name keeps an entry.
abbrev pub tuples_looked_at : ℕ → State → Pairs → Named → Suffix → Answer (List (List ℕ))
tuples_looked_at labels state binding named suffix =
    if is_bound suffix then sized named.at binding (elements_at labels state (symbol_of state named.name).domain) else
    Ok (if is_indexed state named.name then given_of state named.name else [] ∷ [])

-- the values of a name with this suffix at these tuples, in order; if the name has positions, those
-- that are 0 are left out
abbrev pub entries_shown : State → ℕ → Suffix → List (List ℕ) → List (List ℕ × Extended)
entries_shown state name suffix tuples =
    filter (λ entry. if is_indexed state name then is_so entry.1 else true) (map (λ t. (t, value_shown state name suffix t)) tuples)

-- What is shown of an item, a text or a name with a suffix, in a program with `labels` labels. If
-- the suffix is `lo` or `up` and the name's domain has more than 16,777,216 elements, the fault
-- DomainSize, which lists the sets and labels of `binding`.
abbrev pub shown_of : ℕ → State → Pairs → Show → Answer Shown
shown_of labels state binding (show.Text word) =
    Ok (record { text = word.text; name = None; kind = Undeclared; suffix = suffix.None; indexed = not true; entries = []; decimals = state.settings.decimals })
shown_of labels state binding (show.Symbol named suffix) =
    tuples_looked_at labels state binding named suffix and_then λ tuples. Ok (record {
      text = [];
      name = Some named.name;
      kind = kind_in (symbol_at state named.name).content;
      suffix = suffix;
      indexed = is_indexed state named.name;
      entries = entries_shown state named.name suffix tuples;
      decimals = state.settings.decimals;
    })

-- what is shown of the items, in order, in a program with `labels` labels; or the first fault,
-- with `binding`
abbrev pub all_shown : ℕ → State → Pairs → List Show → Answer (List Shown)
all_shown labels state binding items = in_order (map (shown_of labels state binding) items)
