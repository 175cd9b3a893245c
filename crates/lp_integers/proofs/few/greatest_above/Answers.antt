use Rattle.std.proofs.Common.{rules, ◌+◌, ◌≤◌, ℕ, ℤ, Option, Some, FitsSigned, to_z, w64, sym, subst, subst₂, arith}
use Rattle.std.specs.Prelude.{◌<ℤ◌}
use Rattle.std.proofs.lemmas.Int.{ints, to_z-of_z}
use Rattle.lp_integers.specs.declared.few.Word.{Word}
use Rattle.lp_integers.proofs.Each.{word_at, word_there}
use Rattle.lp_integers.proofs.Picking.{IsBestOf, better, no_better, best_place}
use Rattle.lp_integers.proofs.few.greatest_above.Goals as goal
use Rattle.lp_integers.proofs.few.greatest_above.Goals.{then-word-most+then-word-start, else-word-most, else-word-most-via-then-word-most+else-word-start, else-word-most-via-else-word-most}

pub loop-word-preserved : goal.loop-word-preserved
loop-word-preserved c =
    let word : Word = word_at c.args.words.now c.loop-word.word-index in
    let there = word_there c.args.words.now c.loop-word.word-index c.loop-word-test.true in
    let fits : FitsSigned w64 word.number = search rules in
    let is = to_z-of_z w64 word.number fits in
    let most : ℤ = to_z w64 c.loop-word.most-bits in
    elim c.if-word-most.branch [
      | then-word-most+then-word-start w ↦
          let told = w.if-word-most.true in
          let more : most <ℤ word.number = omega (arith, ints) in
          subst₂ (λ (m : ℤ) (o : Option ℕ). IsBestOf c.args.words.now c.args.start (c.loop-word.word-index + 1) m o) (sym w.most-is) (sym w.best-is)
          (subst (λ z. IsBestOf c.args.words.now c.args.start (c.loop-word.word-index + 1) z (Some word.place)) (sym is)
          (better c.args.words.now c.requires.0 c.requires.1 c.requires.2 c.args.start c.loop-word.word-index word there most c.loop-word.best c.loop-word.invariant more w.if-word-start.true))
      | else-word-most w ↦
          let here : c.args.start ≤ word.place → ¬ (most <ℤ word.number) =
          elim w.else-word-most.branch [
            | else-word-most-via-then-word-most+else-word-start v ↦ λ from above. let none = v.if-word-start.false in absurd (omega arith)
            | else-word-most-via-else-word-most v ↦ λ from above. let none = v.if-word-most.false in absurd (omega (arith, ints))
          ] in
          subst₂ (λ (m : ℤ) (o : Option ℕ). IsBestOf c.args.words.now c.args.start (c.loop-word.word-index + 1) m o) (sym w.most-is) (sym w.best-is)
          (no_better c.args.words.now c.requires.0 c.requires.1 c.requires.2 c.args.start c.loop-word.word-index word there most c.loop-word.best c.loop-word.invariant here)
    ]

pub returns : goal.returns
returns c =
    best_place c.args.words.now c.requires.0 c.requires.1 c.requires.2 c.args.start c.loop-word.word-index c.loop-word-test.false (to_z w64 c.loop-word.most-bits) c.loop-word.best c.loop-word.invariant
