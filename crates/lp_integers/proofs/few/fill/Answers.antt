use Rattle.std.proofs.Common.{rules, ◌<◌, ℤ, length, length-set, FitsSigned, to_z, of_z, w64, refl, sym, ◌∙◌, subst, arith}
use Rattle.std.proofs.lemmas.Int.{to_z-of_z}
use Rattle.lp_integers.specs.declared.few.Word.{Word}
use Rattle.lp_integers.specs.Words.{AreWords}
use Rattle.lp_integers.proofs.Each.{word_at, word_place, filled_more}
use Rattle.lp_integers.proofs.few.fill.Goals as goal

pub loop-i-init : goal.loop-i-init
loop-i-init c = (refl, c.requires.zeros)

pub loop-i-preserved : goal.loop-i-preserved
loop-i-preserved c =
    let w : Word = word_at c.args.words.now c.loop-i.i in
    let fits : FitsSigned w64 w.number = search rules in
    let h : AreWords c.requires.words.0 0 (length c.loop-i.list) c.args.words.now = subst (λ n. AreWords c.requires.words.0 0 n c.args.words.now) (sym c.loop-i.invariant.0) c.requires.words.1 in
    let v : ℤ = to_z w64 (of_z w64 w.number) in (
      length-set c.loop-i.list w.place v ∙ c.loop-i.invariant.0,
      filled_more c.loop-i.list c.args.words.now c.requires.words.0 c.loop-i.i v h (omega arith) (to_z-of_z w64 w.number fits) c.loop-i.invariant.1,
    )

pub offset_bounds-list-word : goal.offset_bounds-list-word
offset_bounds-list-word c =
    let told = word_place (length c.args.list.now) c.args.words.now c.requires.words.0 c.loop-i.i c.requires.words.1 c.loop-i-test.true in
    let inside = told.0 in
    let sized = c.loop-i.invariant.0 in
    let here : (word_at c.args.words.now c.loop-i.i).place < length c.loop-i.list = omega arith in
    search rules

pub bounds-list-word : goal.bounds-list-word
bounds-list-word c =
    let told = word_place (length c.args.list.now) c.args.words.now c.requires.words.0 c.loop-i.i c.requires.words.1 c.loop-i-test.true in
    let inside = told.0 in
    let sized = c.loop-i.invariant.0 in
    omega arith

pub bounds-words-i : goal.bounds-words-i
bounds-words-i c = c.loop-i-test.true

pub returns-clause-sized : goal.returns-clause-sized
returns-clause-sized c = c.loop-i.invariant.0
