use Rattle.std.proofs.Common.{◌++◌, ◌∙◌, sym}
use Rattle.gms_store.specs.State.{symbol_at}
use Rattle.gms_save_text.specs.SavedState.{entry_lines, head_line, part}
use Rattle.gms_save_text.specs.Reading.{kind_word}
use Rattle.gms_save_text.proofs.Finding.{on_success}
use Rattle.gms_save_text.proofs.Past.{past_as, past_both}
use Rattle.gms_save_text.proofs.Sorts.{entries_part}
use Rattle.gms_save_text.proofs.comparing.Comparison.part.Goals as goal

pub returns-in_ok-head-in_default : goal.returns-in_ok-head-in_default
returns-in_ok-head-in_default g c =
    let name = c.args.name.now in
    let content = (symbol_at c.args.store.now c.args.number).content in
    let kind = c.kind_of.result in
    let own = sym c.is_alias.ensures ∙ c.if-is_alias.false in
    let head = head_line (kind_word kind) name content in
    let whole = sym (entries_part name content kind own (sym c.kind_of.ensures) c.in_default.not-Undeclared c.in_default.not-Model) in
    on_success c.entries.result _ _ (λ last. past_as (head ++ entry_lines content) (part name content) c.args.self.now.left c.entries.new.self.left whole (past_both head (entry_lines content) c.args.self.now.left c.head.new.self.left c.entries.new.self.left c.in_ok-head-in_default.ensures last)) c.entries.ensures
