-- One more field was read.
use Rattle.gms_table.specs.InnerShown.{seen_all}
use Rattle.gms_table.proofs.WordLemmas.{next_field, words_last, words_spaced, words_more}
use Rattle.gms_table.proofs.word.words_of.Goals as goal

pub returns-then-start-line-clause-words : goal.returns-then-start-line-clause-words
returns-then-start-line-clause-words c =
    let so_far = c.loop-words.invariant in
    let next = next_field c.args.number c.args.line.now (seen_all c.loop-words.words.items) c.loop-words.start c.loop-words.column c.field_length.result c.column_after_bytes-end.result (seen_all c.push_word.new.words.items) c.field_length.ensures.value c.column_after_bytes-end.ensures.value c.column_after_bytes-end.ensures.grows c.column_after_bytes-end.ensures.within c.in_ok-push_word.ensures in
    words_last c.args.number c.args.line.now (seen_all c.loop-words.words.items) c.loop-words.start c.loop-words.column _ c.column_after_bytes-end.result (seen_all c.push_word.new.words.items) so_far next c.if-start-line.true

pub returns-then-start-line-clause-spaced : goal.returns-then-start-line-clause-spaced
returns-then-start-line-clause-spaced c =
    let so_far = c.loop-words.invariant in
    let next = next_field c.args.number c.args.line.now (seen_all c.loop-words.words.items) c.loop-words.start c.loop-words.column c.field_length.result c.column_after_bytes-end.result (seen_all c.push_word.new.words.items) c.field_length.ensures.value c.column_after_bytes-end.ensures.value c.column_after_bytes-end.ensures.grows c.column_after_bytes-end.ensures.within c.in_ok-push_word.ensures in
    words_spaced c.args.number c.args.line.now (seen_all c.loop-words.words.items) c.loop-words.start c.loop-words.column _ c.column_after_bytes-end.result (seen_all c.push_word.new.words.items) so_far next

pub loop-words-preserved : goal.loop-words-preserved
loop-words-preserved c =
    let so_far = c.loop-words.invariant in
    let next = next_field c.args.number c.args.line.now (seen_all c.loop-words.words.items) c.loop-words.start c.loop-words.column c.field_length.result c.column_after_bytes-end.result (seen_all c.push_word.new.words.items) c.field_length.ensures.value c.column_after_bytes-end.ensures.value c.column_after_bytes-end.ensures.grows c.column_after_bytes-end.ensures.within c.in_ok-push_word.ensures in
    words_more c.args.number c.args.line.now (seen_all c.loop-words.words.items) c.loop-words.start c.loop-words.column _ c.column_after_bytes-end.result (seen_all c.push_word.new.words.items) so_far next c.column_after-column.result c.if-start-line.false c.column_after-column.ensures
