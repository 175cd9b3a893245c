use Rattle.std.proofs.Common.{◌-◌, length}
use Rattle.gms_table.specs.InnerShown.{seen_all}
use Rattle.gms_table.proofs.WordLemmas.{WordsSoFar}
use Rattle.gms_table.proofs.word.words_of.Given as goal

abbrev pub invariant-loop-words : goal.invariant-loop-words
invariant-loop-words l = WordsSoFar l.number l.line (seen_all l.words.items) l.start l.column

abbrev pub decreases-loop-words : goal.decreases-loop-words
decreases-loop-words l = length l.line - l.start
