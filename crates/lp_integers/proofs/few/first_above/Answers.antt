use Rattle.std.proofs.Common.{rules, ◌≤◌, pos, FitsSigned, w64, arith}
use Rattle.std.specs.Prelude.{◌<ℤ◌}
use Rattle.std.proofs.lemmas.Int.{ints, to_z-of_z}
use Rattle.lp_integers.specs.declared.few.Word.{Word}
use Rattle.lp_integers.proofs.Each.{word_at, word_there, each_more}
use Rattle.lp_integers.proofs.Picking.{first_place, no_first}
use Rattle.lp_integers.proofs.few.first_above.Goals as goal
use Rattle.lp_integers.proofs.few.first_above.Goals.{else-word-gt0-via-then-word-gt0+else-word-start, else-word-gt0-via-else-word-gt0}

pub returns-then-word-start : goal.returns-then-word-start
returns-then-word-start c =
    let w : Word = word_at c.args.words.now c.loop-word.word-index in
    let fits : FitsSigned w64 w.number = search rules in
    let is = to_z-of_z w64 w.number fits in
    let told = c.if-word-gt0.true in
    let above : pos 0 <ℤ w.number = omega (arith, ints) in
    first_place c.args.words.now c.requires.0 c.requires.1 c.requires.2 c.args.start c.loop-word.word-index w (word_there c.args.words.now c.loop-word.word-index (omega arith)) c.if-word-start.true above c.loop-word.invariant

pub loop-word-preserved : goal.loop-word-preserved
loop-word-preserved c =
    let w : Word = word_at c.args.words.now c.loop-word.word-index in
    let fits : FitsSigned w64 w.number = search rules in
    let is = to_z-of_z w64 w.number fits in
    let here : c.args.start ≤ w.place → ¬ (pos 0 <ℤ w.number) =
    elim c.else-word-gt0.branch [
      | else-word-gt0-via-then-word-gt0+else-word-start v ↦ λ from above. let none = v.if-word-start.false in absurd (omega arith)
      | else-word-gt0-via-else-word-gt0 v ↦ λ from above. let none = v.if-word-gt0.false in absurd (omega (arith, ints))
    ] in
    each_more (λ v. c.args.start ≤ v.place → ¬ (pos 0 <ℤ v.number)) c.args.words.now c.loop-word.word-index w (word_there c.args.words.now c.loop-word.word-index (omega arith)) c.loop-word.invariant here

pub returns : goal.returns
returns c = no_first c.args.words.now c.requires.0 c.requires.1 c.requires.2 c.args.start (λ j v less there from. c.loop-word.invariant j v (omega arith) there from)
