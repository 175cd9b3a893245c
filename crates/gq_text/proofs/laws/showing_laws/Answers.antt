-- What is shown has one text, and reads back.
use Rattle.gq_text.proofs.Numerals as numerals
use Rattle.gq_text.proofs.Texts as texts
use Rattle.gq_text.proofs.Nearness as nearness
use Rattle.gq_text.proofs.laws.showing_laws.Goals as goal

pub returns-clause-one_numeral : goal.returns-clause-one_numeral
returns-clause-one_numeral c n s t h k = numerals.one_numeral n s t h k

pub returns-clause-one_exact : goal.returns-clause-one_exact
returns-clause-one_exact c x s t h k = texts.one_exact x s t h k

pub returns-clause-one_rounded : goal.returns-clause-one_rounded
returns-clause-one_rounded c d x s t h k = texts.one_rounded d x s t h k

pub returns-clause-exact_reads_back : goal.returns-clause-exact_reads_back
returns-clause-exact_reads_back c x text h = texts.exact_reads_back x text h

pub returns-clause-fixed_reads : goal.returns-clause-fixed_reads
returns-clause-fixed_reads c d n text h = texts.fixed_reads d n text h

pub returns-clause-rounded_near : goal.returns-clause-rounded_near
returns-clause-rounded_near c d x text h = nearness.rounded_near' d x text h

pub returns-clause-rounded_only : goal.returns-clause-rounded_only
returns-clause-rounded_only c d x y n text f m h = nearness.rounded_only d x y n text f m h
