use Rattle.std.proofs.Common.{refl}
use Rattle.gms_grammar.specs.GamsGrammar.{Range}
use Rattle.gms_expressions.proofs.Signs.{handed_on}
use Rattle.gms_parse.proofs.Spelled.{label_token}
use Rattle.gms_parse.proofs.Steps.{refuses_the, refuses_first, refuses_memory}
use Rattle.gms_parse.proofs.Nexts.{refuses_lacking}
use Rattle.gms_parse.proofs.Ranges.{label_spelled, label_got, label_not_entered, range_got, range_refused, range_unfinished}
use Rattle.gms_parse.proofs.reader.Reader.add_range.Goals as goal

pub returns-in_err-first : goal.returns-in_err-first
returns-in_err-first c limit read_state h clean other = handed_on _ _ c.from_residual.result _ c.from_residual.ensures.1 (refuses_the Range (refuses_first (refuses_lacking c.in_err-first.ensures)))

pub label_text-requires : goal.label_text-requires
label_text-requires c = label_token c.in_ok-first.ensures

pub returns-in_err-text : goal.returns-in_err-text
returns-in_err-text c limit read_state h clean other = absurd c.in_err-text.ensures

pub entered-requires : goal.entered-requires
entered-requires c = rw c.in_ok-text.ensures ((label_spelled (label_token c.in_ok-first.ensures)).1)

pub returns-in_err-entered : goal.returns-in_err-entered
returns-in_err-entered c limit read_state h clean other = handed_on _ _ c.from_residual-in_err-entered.result _ c.from_residual-in_err-entered.ensures.1
    (label_not_entered h clean c.in_ok-first.ensures c.in_default.ensures c.in_ok-text.text.now c.in_ok-text.ensures c.in_err-entered.ensures)

pub returns-in_err-push : goal.returns-in_err-push
returns-in_err-push c limit read_state h clean other = handed_on _ _ c.from_residual-in_err-push.result _ c.from_residual-in_err-push.ensures.1 (refuses_memory refl)

pub returns-in_default : goal.returns-in_default
returns-in_default c limit read_state h clean other = label_got h clean c.in_ok-first.ensures c.args.part.now (record { labels = c.push.new.self; bad_range = c.args.part.now.bad_range }) (record { names = c.args.tables.now.names; labels = c.entered.new.table }) c.in_ok-entered.field-0 _ c.in_default.ensures c.in_ok-text.text.now c.in_ok-text.ensures c.in_ok-entered.ensures refl refl c.in_ok-push.ensures.items refl

pub returns-in_err-last : goal.returns-in_err-last
returns-in_err-last c limit read_state h clean other = handed_on _ _ c.from_residual-in_err-last.result _ c.from_residual-in_err-last.ensures.1 (range_unfinished h clean c.in_ok-first.ensures c.in-Some.ensures c.in_err-last.ensures)

pub add_members-requires-clause-first : goal.add_members-requires-clause-first
add_members-requires-clause-first c = label_token c.in_ok-first.ensures

pub add_members-requires-clause-last : goal.add_members-requires-clause-last
add_members-requires-clause-last c = label_token c.in_ok-last.ensures

pub returns-in_err-add_members : goal.returns-in_err-add_members
returns-in_err-add_members c limit read_state h clean other = handed_on _ _ c.from_residual-in_err-add_members.result _ c.from_residual-in_err-add_members.ensures.1 (range_refused h clean c.in_ok-first.ensures c.in-Some.ensures c.in_ok-last.ensures c.in_err-add_members.ensures.range)

pub returns : goal.returns
returns c limit read_state h clean other = range_got h clean c.in_ok-first.ensures c.in-Some.ensures c.in_ok-last.ensures c.args.part.now c.add_members.new.part c.add_members.new.tables c.in_ok-add_members.ensures.range c.in_ok-add_members.ensures.names
