-- The words that begin statements, and the kinds of words (GAMS User's Guide, "GAMS Programs" and
-- "Language Items", reserved words).
use Rattle.std.specs.Prelude.{ℕ, if◌then◌else◌, List, [], ◌∷◌, Option, Some, None, codes}
use Rattle.gms_grammar.specs.ControlWords.{is_word_among}
use Rattle.gms_grammar.specs.declared.terminal.Terminal.{Terminal}
use Rattle.gms_grammar.specs.declared.terminal.Terminal.TheVariants.{Abort, Alias, Display, Equation, Loop, Model, Option as OptionWord, Parameter, Scalar, Set, Solve, Table, Variable, VariableType}

-- a kind of tokens, with the words that are of this kind
abbrev pub Words : Type 0
Words = Terminal × List (List ℕ)

-- the words that begin statements
abbrev pub statement_words : List Words
statement_words =
    (Abort, codes "abort" ∷ []) ∷
    (Alias, codes "alias" ∷ []) ∷
    (Display, codes "display" ∷ []) ∷
    (Equation, codes "equation" ∷ codes "equations" ∷ []) ∷
    (Loop, codes "loop" ∷ []) ∷
    (Model, codes "model" ∷ codes "models" ∷ []) ∷
    (OptionWord, codes "option" ∷ codes "options" ∷ []) ∷
    (Parameter, codes "parameter" ∷ codes "parameters" ∷ []) ∷
    (Scalar, codes "scalar" ∷ codes "scalars" ∷ []) ∷
    (Set, codes "set" ∷ codes "sets" ∷ []) ∷
    (Solve, codes "solve" ∷ []) ∷
    (Table, codes "table" ∷ []) ∷
    (Variable, codes "variable" ∷ codes "variables" ∷ []) ∷
    (VariableType, codes "free" ∷ codes "positive" ∷ codes "negative" ∷ codes "binary" ∷ codes "integer" ∷ codes "sos1" ∷ codes "sos2" ∷ []) ∷
    []

-- the kind to which a word belongs, letter case ignored, by these lists of words; None if it is in
-- none
abbrev pub kind_among : List ℕ → List Words → Option Terminal
kind_among word [] = None
kind_among word (words ∷ others) = if is_word_among word words.1 then Some words.0 else kind_among word others
