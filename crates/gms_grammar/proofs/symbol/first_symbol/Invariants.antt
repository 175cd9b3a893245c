use Rattle.std.proofs.Common.{◌≡◌, drop, find}
use Rattle.gms_grammar.specs.Symbols.{written_symbol, begins_with_word}
use Rattle.gms_grammar.proofs.symbol.first_symbol.Given as goal

-- the text begins with none of the symbols so far
abbrev pub invariant-loop-symbol : goal.invariant-loop-symbol
invariant-loop-symbol l = find (λ s. begins_with_word l.text (written_symbol s)) l.symbols ≡ find (λ s. begins_with_word l.text (written_symbol s)) (drop l.symbol-index l.symbols)
