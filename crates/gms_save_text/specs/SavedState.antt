-- The text of a saved state (GAMS User's Guide, "Save and Restart"). The form is this project's
-- own: a line ends with a line feed, the items of a line are separated by one blank, numbers are
-- decimal digits without a needless zero, and names are as they were first written.
use Rattle.std.specs.Prelude.{ℕ, ◌+◌, Bool, true, false, List, [], ◌∷◌, ◌++◌, length, flat_map, Option, Some, None, codes, decimal}
use Rattle.gq_number.specs.Number.{Number}
use Rattle.gq_extended.specs.Extended.{Extended, number, plus_infinity, minus_infinity, na}
use Rattle.gq_text.specs.ExactText.{exact_text}
use Rattle.gms_store.specs.declared.settings.Settings.{Settings}
use Rattle.gms_store.specs.State.{Attributes, Content, undeclared, alias_of, set_of, parameter_of, variable_of, equation_of, model_with, State, symbol_at, value_in, attributes_in, given_in}

-- a line: a text followed by a line feed
abbrev pub saved_line : List ℕ → List ℕ
saved_line text = text ++ 10 ∷ []

-- ---- entries

-- the text of a tuple: the numbers of its labels, each followed by a blank
abbrev pub tuple_text : List ℕ → List ℕ
tuple_text tuple = flat_map (λ label. decimal label ++ codes " ") tuple

-- the text of a value: an exact number, or a word for any other value
abbrev pub value_text : Extended → List ℕ
value_text (number x) = exact_text x
value_text plus_infinity = codes "+INF"
value_text minus_infinity = codes "-INF"
value_text na = codes "NA"

-- the text of a bound: an exact number, or for an infinite bound (None) the given word, -INF or
-- +INF
abbrev pub bound_text : List ℕ → Option Number → List ℕ
bound_text none None = none
bound_text none (Some x) = exact_text x

-- the text of an element's lower bound, upper bound, level and marginal, with blanks between them
abbrev pub attributes_text : Attributes → List ℕ
attributes_text a =
    bound_text (codes "-INF") a.lower ++ (codes " " ++ (bound_text (codes "+INF") a.upper ++ (codes " " ++ (exact_text a.level ++ (codes " " ++ exact_text a.marginal)))))

-- the text after the tuple of an entry: a dot for a set, the value of a parameter, the attributes
-- of a variable or an equation
abbrev pub given_text : Content → List ℕ → List ℕ
given_text (set_of members) tuple = codes "."
given_text (parameter_of entries) tuple = value_text (value_in (parameter_of entries) tuple)
given_text content tuple = attributes_text (attributes_in content tuple)

-- the line of the entry that a content has at a tuple
abbrev pub entry_line : Content → List ℕ → List ℕ
entry_line content tuple = saved_line (tuple_text tuple ++ given_text content tuple)

-- the lines of the entries of a content, in the order of tuples
abbrev pub entry_lines : Content → List ℕ
entry_lines content = flat_map (entry_line content) (given_in content)

-- ---- names

-- the first line for a name that can have entries: the word for its kind, the name, and the number
-- of its entries
abbrev pub head_line : List ℕ → List ℕ → Content → List ℕ
head_line word name content = saved_line (word ++ (name ++ (codes " " ++ decimal (length (given_in content)))))

-- the lines for a name with this content; none if it is not declared
abbrev pub part : List ℕ → Content → List ℕ
part name undeclared = []
part name (alias_of base) = saved_line (codes "alias " ++ name)
part name (set_of members) = head_line (codes "set ") name (set_of members) ++ entry_lines (set_of members)
part name (parameter_of entries) = head_line (codes "parameter ") name (parameter_of entries) ++ entry_lines (parameter_of entries)
part name (variable_of type entries) = head_line (codes "variable ") name (variable_of type entries) ++ entry_lines (variable_of type entries)
part name (equation_of entries) = head_line (codes "equation ") name (equation_of entries) ++ entry_lines (equation_of entries)
part name (model_with model solver) = saved_line (codes "model " ++ (name ++ (codes " " ++ (decimal model ++ (codes " " ++ decimal solver)))))

-- the lines for these names, in order, where the first one has the number n
abbrev pub parts_from : State → ℕ → List (List ℕ) → List ℕ
parts_from state n [] = []
parts_from state n (name ∷ names) = part name (symbol_at state n).content ++ parts_from state (n + 1) names

-- ---- the whole text

-- the word for a switch: `on` or `off`
abbrev pub switch_text : Bool → List ℕ
switch_text true = codes "on"
switch_text false = codes "off"

-- the line of the settings, with the name of the solver in place of its index
abbrev pub settings_line : Settings → List ℕ → List ℕ
settings_line settings solver =
    saved_line (codes "settings " ++ (decimal settings.limrow ++ (codes " " ++ (decimal settings.limcol ++ (codes " " ++ (decimal settings.iterlim ++ (codes " " ++ (decimal settings.decimals ++ (codes " " ++ (switch_text settings.solprint ++ (codes " " ++ solver)))))))))))

-- the line with the length of the source, followed by the source and a line feed
abbrev pub source_text : List ℕ → List ℕ
source_text source = saved_line (codes "source " ++ decimal (length source)) ++ saved_line source

-- the text of a save after the source: the line of the settings, in which `solver` is the name of
-- the solver, the lines for each name, and the line `end`
abbrev pub state_text : List (List ℕ) → State → List ℕ → List ℕ
state_text names state solver = settings_line state.settings solver ++ (parts_from state 0 names ++ saved_line (codes "end"))

-- the text of the save of a state, for a program with this source and these names; `solver` is the
-- name of the chosen solver
abbrev pub saved_text : List ℕ → List (List ℕ) → State → List ℕ → List ℕ
saved_text source names state solver = saved_line (codes "gams25 save 1") ++ (source_text source ++ state_text names state solver)
