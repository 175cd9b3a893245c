-- Which tests of the grammar pass names, and which texts of indices.
use Rattle.std.proofs.Common.{◌≡◌, Bool, true, ◌&&◌, [], ◌∷◌}
use Rattle.gms_grammar.specs.declared.terminal.Terminal.{Terminal}
use Rattle.gms_grammar.specs.declared.terminal.Terminal.TheVariants.{Name, Suffix, Text}
use Rattle.gms_grammar.specs.Terminals.{is, is_terminal_among}
use Rattle.gms_expressions.proofs.TokenKinds.{implies}

-- a token that passes the test is a name, and each name passes it
abbrev pub IsNameTest : (Terminal → Bool) → Type 0
IsNameTest test = (test Name ≡ true) × (implies test (is_terminal_among (Name ∷ Suffix ∷ [])) ≡ true)

abbrev pub is_name_test : (Terminal → Bool) → Bool
is_name_test test = test Name && implies test (is_terminal_among (Name ∷ Suffix ∷ []))

-- a token that passes the test is a text of an index
abbrev pub IsTextTest : (Terminal → Bool) → Type 0
IsTextTest test = (test Text ≡ true) × (implies test (is Text) ≡ true)

abbrev pub is_text_test : (Terminal → Bool) → Bool
is_text_test test = test Text && implies test (is Text)
