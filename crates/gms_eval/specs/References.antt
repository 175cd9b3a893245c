-- What a reference reads (GAMS User's Guide, "Data Manipulations with Parameters", "Variables",
-- "Model and Solve Statements").
use Rattle.std.specs.Prelude.{ℕ, ◌+◌, nat_le, List, [], ◌∷◌, length, Option, Some, None, unwrap_or, option_map, option_and_then, ok_or, Ok, if◌then◌else◌}
use Rattle.gms_labels.specs.declared.place.Place.{Place}
use Rattle.gms_tuple.specs.TupleSet.{has, place_of_tuple}
use Rattle.gq_number.specs.Number.{Number}
use Rattle.gq_extended.specs.Extended.{Extended, number, plus_infinity, minus_infinity}
use Rattle.gms_ast.specs.declared.expression.LagOp.{LagOp}
use Rattle.gms_ast.specs.declared.expression.Suffix.{Suffix}
use Rattle.gms_ast.specs.declared.expression.Suffix.TheVariants as suffix
use Rattle.gms_store.specs.State.{State, Content, set_of, symbol_of, members_of, value_of, attributes_of, statuses_in}
use Rattle.gms_eval.specs.Nodes.{truth, count_value}
use Rattle.gms_eval.specs.Bindings.{Pairs, label_of}
use Rattle.gms_eval.specs.Faults.{Answer, nothing, faulted, ◌and_then◌}
use Rattle.gms_eval.specs.Lag.{lagged_label, whole_number}
use Rattle.gms_eval.specs.declared.stop.StopKind.TheVariants.{LagNotWhole}

-- ---- indices

-- the label that a lead or a lag `op` of this amount reaches from the label of its set
-- (`lagged_label`); None if it reaches none, or if the set has no label. An amount that is no
-- integer is a fault
abbrev pub reached_label : State → Pairs → ℕ → LagOp → Place → Extended → Answer (Option ℕ)
reached_label state binding set op at amount =
    ok_or (whole_number amount) (faulted LagNotWhole at binding amount nothing) and_then λ places. Ok (option_and_then (λ label. lagged_label (members_of state set) op places label) (label_of binding set))

-- the labels, if every one exists; None if one does not
abbrev pub all_there : List (Option ℕ) → Option (List ℕ)
all_there [] = Some []
all_there (None ∷ rest) = None
all_there (Some label ∷ rest) = option_map (λ labels. label ∷ labels) (all_there rest)

-- the tuple of these labels; None if one does not exist or they are more than 10
abbrev pub tuple_of : List (Option ℕ) → Option (List ℕ)
tuple_of labels = if nat_le (length labels) 10 then all_there labels else None

-- the position, from 1, of a set's label among the members of the set; 0 if the set has no label in
-- the binding, or one that is not a member
abbrev pub place_in_set : State → Pairs → ℕ → ℕ
place_in_set state binding set =
    unwrap_or (option_map (λ place. place + 1) (option_and_then (λ label. place_of_tuple (members_of state set) (label ∷ [])) (label_of binding set))) 0

-- ---- entries

-- the value of a lower bound; minus infinity if there is none
abbrev pub lower_value : Option Number → Extended
lower_value None = minus_infinity
lower_value (Some x) = number x

-- the value of an upper bound; infinity if there is none
abbrev pub upper_value : Option Number → Extended
upper_value None = plus_infinity
upper_value (Some x) = number x

-- the value of a name without a suffix, whose content is `content`, at a tuple: of a set 1 at its
-- members and 0 elsewhere; of a parameter its value there; of any other name 0
abbrev pub plain_value : State → ℕ → Content → List ℕ → Extended
plain_value state name (set_of members) tuple = truth (has members tuple)
plain_value state name content tuple = value_of state name tuple

module _ (limit : ℕ) (state : State) (binding : Pairs) where
  -- the value of the name at a tuple: without a suffix its value there, with one the bound, level,
  -- marginal or status number that the suffix denotes; 0 for `.fx`. A status number over the limit
  -- of the size of numbers is a fault at the place `at`
  abbrev pub read_entry : Place → ℕ → Suffix → List ℕ → Answer Extended
  read_entry at name suffix.None tuple = Ok (plain_value state name (symbol_of state name).content tuple)
  read_entry at name suffix.Lo tuple = Ok (lower_value (attributes_of state name tuple).lower)
  read_entry at name suffix.Up tuple = Ok (upper_value (attributes_of state name tuple).upper)
  read_entry at name suffix.L tuple = Ok (number (attributes_of state name tuple).level)
  read_entry at name suffix.M tuple = Ok (number (attributes_of state name tuple).marginal)
  read_entry at name suffix.Fx tuple = Ok nothing
  read_entry at name suffix.ModelStat tuple = count_value limit binding at (statuses_in (symbol_of state name).content).0
  read_entry at name suffix.SolveStat tuple = count_value limit binding at (statuses_in (symbol_of state name).content).1

  -- the value of a reference at the tuple of its indices; 0 if its indices have no tuple (None)
  abbrev pub entry_or_zero : Place → ℕ → Suffix → Option (List ℕ) → Answer Extended
  entry_or_zero at name suffix None = Ok nothing
  entry_or_zero at name suffix (Some tuple) = read_entry at name suffix tuple
