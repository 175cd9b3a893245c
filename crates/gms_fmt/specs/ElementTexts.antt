-- Texts of elements (GAMS User's Guide, "GAMS Output"). Names and labels are as they were first
-- written.
use Rattle.std.specs.Prelude.{ℕ, List, [], ◌∷◌, ◌++◌, map, slice_index_or, codes}

-- the text with the number n in a table of names or labels; empty if the table has no such number
abbrev pub label_in_table : List (List ℕ) → ℕ → List ℕ
label_in_table table n = slice_index_or table n []

-- the texts in order, with the text `between` between each and the next
abbrev pub joined_by : List ℕ → List (List ℕ) → List ℕ
joined_by between [] = []
joined_by between (text ∷ []) = text
joined_by between (text ∷ next ∷ texts) = text ++ between ++ joined_by between (next ∷ texts)

-- the labels of a tuple with dots between them: `a.b`. The tuple has the number of each label in
-- the table `labels`
abbrev pub dotted_text : List (List ℕ) → List ℕ → List ℕ
dotted_text labels t = joined_by (codes ".") (map (label_in_table labels) t)

-- the labels of a tuple in parentheses: `(a,b)`; empty if there are none. The tuple has the number
-- of each label in the table `labels`
abbrev pub in_parentheses : List (List ℕ) → List ℕ → List ℕ
in_parentheses labels [] = []
in_parentheses labels (label ∷ t) = codes "(" ++ joined_by (codes ",") (map (label_in_table labels) (label ∷ t)) ++ codes ")"

-- the text of an element: `x` or `x(a,b)`. Its name is given by the number in the table `names`,
-- and each label of its tuple by the number in the table `labels`
abbrev pub element_text : List (List ℕ) → List (List ℕ) → ℕ → List ℕ → List ℕ
element_text names labels name t = label_in_table names name ++ in_parentheses labels t
