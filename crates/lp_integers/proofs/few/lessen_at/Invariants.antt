use Rattle.std.proofs.Common.{length, map}
use Rattle.lp_integers.specs.declared.few.Word.{Word}
use Rattle.lp_integers.specs.Lines.{AreLessenedAt}
use Rattle.lp_integers.specs.Words.{spread_out}
use Rattle.lp_integers.proofs.few.lessen_at.Given as goal

abbrev pub invariant-loop-i : goal.invariant-loop-i
invariant-loop-i l =
    AreLessenedAt l.b l.initial.numbers (spread_out (length l.initial.numbers) l.words) l.numbers (map (λ (w : Word). w.place) l.words) l.i l.least l.most
