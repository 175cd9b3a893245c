-- One heading more was read.
use Rattle.std.proofs.Common.{List, suc, take, drop, get_or, [], ◌∷◌, ◌++◌, refl, sym, ap, subst, arith}
use Rattle.std.proofs.lemmas.List.{take_all}
use Rattle.std.proofs.lemmas.Result.{err_from_is_err_and}
use Rattle.gms_table.specs.declared.heading.Heading.{Heading}
use Rattle.gms_table.specs.Words as words
use Rattle.gms_table.specs.InnerShown.{seen, seen_all}
use Rattle.gms_table.proofs.LabelLemmas.{GoesOn-refl, GoesOn-trans}
use Rattle.gms_table.proofs.RowLemmas.{HeadingsSoFar, headings_none, headings_more, headings_refused, no_word, seen_all-more, seen_all-split}
use Rattle.gms_table.proofs.heading.read_headings.Goals as goal

pub loop-word-init : goal.loop-word-init
loop-word-init c = record {
  read = λ limit labels before progress. headings_none limit labels before c.args.table.now c.in_ok-headings.headings.items c.in_ok-headings.ensures.items progress;
  extended = GoesOn-refl c.args.table.now;
}

pub loop-word-preserved : goal.loop-word-preserved
loop-word-preserved c = record {
  read = λ limit labels before progress.
      subst (λ (ws : List words.Word). HeadingsSoFar limit labels before ws c.enter.new.table c.push.new.self.items) (sym (seen_all-more c.args.words.now c.loop-word.word-index c.loop-word-test.true))
      (subst (λ (hs : List Heading). HeadingsSoFar limit labels before (seen_all (take c.loop-word.word-index c.args.words.now) ++ seen (get_or c.args.words.now c.loop-word.word-index no_word) ∷ []) c.enter.new.table hs) (sym c.in_ok-push.ensures.items)
      (headings_more limit labels before (seen_all (take c.loop-word.word-index c.args.words.now)) (seen (get_or c.args.words.now c.loop-word.word-index no_word)) c.loop-word.table c.enter.new.table c.loop-word.headings.items _ (c.loop-word.invariant.read limit labels before progress) refl refl c.in_ok-labels.ensures.entered));
  extended = GoesOn-trans c.args.table.now c.loop-word.table c.enter.new.table c.loop-word.invariant.extended c.in_ok-labels.ensures.extended;
}

pub returns-in_err-labels-clause-read : goal.returns-in_err-labels-clause-read
returns-in_err-labels-clause-read c = λ limit labels before progress.
    let p = err_from_is_err_and c.from_residual-in_err-labels.result c.from_residual-in_err-labels.ensures.1 in
    rw (p.1, p.2) (headings_refused limit labels before (seen_all (take c.loop-word.word-index c.args.words.now)) (seen (get_or c.args.words.now c.loop-word.word-index no_word)) (seen_all (drop (suc c.loop-word.word-index) c.args.words.now)) (seen_all c.args.words.now) c.loop-word.table c.enter.new.table c.loop-word.headings.items c.in_err-labels.field-0.0 (seen_all-split c.args.words.now c.loop-word.word-index c.loop-word-test.true) (c.loop-word.invariant.read limit labels before progress) c.in_err-labels.ensures.entered)

pub returns-in_err-labels-clause-extended : goal.returns-in_err-labels-clause-extended
returns-in_err-labels-clause-extended c = GoesOn-trans c.args.table.now c.loop-word.table c.enter.new.table c.loop-word.invariant.extended c.in_err-labels.ensures.extended

pub returns-in_err-push-clause-read : goal.returns-in_err-push-clause-read
returns-in_err-push-clause-read c = λ limit labels before progress.
    let p = err_from_is_err_and c.from_residual-in_err-push.result c.from_residual-in_err-push.ensures.1 in
    rw (p.1, p.2) tt

pub returns-in_err-push-clause-extended : goal.returns-in_err-push-clause-extended
returns-in_err-push-clause-extended c = GoesOn-trans c.args.table.now c.loop-word.table c.enter.new.table c.loop-word.invariant.extended c.in_ok-labels.ensures.extended

pub returns-in_err-headings-clause-read : goal.returns-in_err-headings-clause-read
returns-in_err-headings-clause-read c = λ limit labels before progress.
    let p = err_from_is_err_and c.from_residual.result c.from_residual.ensures.1 in
    rw (p.1, p.2) tt

pub returns-clause-read : goal.returns-clause-read
returns-clause-read c = λ limit labels before progress.
    let all = ap seen_all (take_all c.loop-word.word-index c.args.words.now (omega arith)) in
    let so_far = subst (λ (ws : List words.Word). HeadingsSoFar limit labels before ws c.loop-word.table c.loop-word.headings.items) all (c.loop-word.invariant.read limit labels before progress) in
    (so_far.progress, so_far.are)

pub returns-clause-extended : goal.returns-clause-extended
returns-clause-extended c = c.loop-word.invariant.extended
