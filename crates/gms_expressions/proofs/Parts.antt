-- What a tree means as a part of another: inside a nonterminal, and as the second of two
-- alternatives.
use Rattle.gms_grammar.specs.Grammar.{right, node}
use Rattle.gms_expressions.specs.InnerReadings.{Meaning}

abbrev pub in_node : {X : Type 0} → Meaning X → Meaning X
in_node meaning source names labels tree = meaning source names labels (node tree)

abbrev pub in_right : {X : Type 0} → Meaning X → Meaning X
in_right meaning source names labels tree = meaning source names labels (right tree)
