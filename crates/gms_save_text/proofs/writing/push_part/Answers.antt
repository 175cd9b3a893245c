use Rattle.std.proofs.Common.{◌≡◌, ◌∙◌, ◌++◌, List, ℕ, length, codes, decimal, sym, ap, ap₂}
use Rattle.std.proofs.lemmas.List.{append-nil}
use Rattle.gms_store.specs.State.{Content, Symbol, model_with, symbol_at, given_in, statuses_in}
use Rattle.gms_save_text.specs.SavedState.{saved_line, entry_lines, head_line, part}
use Rattle.gms_save_text.specs.Reading.{kind_word}
use Rattle.gms_save_text.proofs.Finding.{on_success}
use Rattle.gms_save_text.proofs.Pieces.{piece_after}
use Rattle.gms_save_text.proofs.Sorts.{alias_line, undeclared_part, model_content, entries_part, has_entries, own_symbol}
use Rattle.gms_save_text.proofs.writing.push_part.Goals as goal

pub returns-then-is_alias : goal.returns-then-is_alias
returns-then-is_alias g c =
    let name = c.args.name.now in
    let old = c.args.into.now.items in
    let alias = sym c.is_alias.ensures ∙ c.if-is_alias.true in
    on_success c.push.result _ _ (λ last. piece_after old (codes "alias " ++ name) (codes "\n") _ _ c.in_ok-push_name.ensures last ∙ ap (λ (p : List ℕ). old ++ p) (sym (alias_line name (symbol_at c.args.store.now c.args.number).content alias))) c.push.ensures

pub returns-in-Undeclared : goal.returns-in-Undeclared
returns-in-Undeclared g c =
    let old = c.args.into.now.items in
    sym (append-nil old) ∙ ap (λ (p : List ℕ). old ++ p) (sym (undeclared_part c.args.name.now (symbol_at c.args.store.now c.args.number).content (sym c.kind_of.ensures ∙ c.in-Undeclared.is)))

pub returns-in-Model : goal.returns-in-Model
returns-in-Model g c =
    let name = c.args.name.now in
    let old = c.args.into.now.items in
    let content = (symbol_at c.args.store.now c.args.number).content in
    let model = model_content content (sym c.kind_of.ensures ∙ c.in-Model.is) in
    on_success c.push_model.result _ _ (λ last. last ∙ ap (λ (s : ℕ × ℕ). old ++ part name (model_with s.0 s.1)) (c.status.ensures ∙ ap (λ (s : Symbol). statuses_in s.content) (own_symbol c.args.store.now c.args.number (sym c.is_alias.ensures ∙ c.if-is_alias.false))) ∙ ap (λ (x : Content). old ++ part name x) (sym model)) c.push_model.ensures

pub push_entries-requires : goal.push_entries-requires
push_entries-requires g c =
    has_entries (symbol_at c.args.store.now c.args.number).content c.kind_of.result (sym c.is_alias.ensures ∙ c.if-is_alias.false) (sym c.kind_of.ensures) c.in_default.not-Undeclared c.in_default.not-Model

pub returns-in_ok-push_head-in_default : goal.returns-in_ok-push_head-in_default
returns-in_ok-push_head-in_default g c =
    let name = c.args.name.now in
    let old = c.args.into.now.items in
    let store = c.args.store.now in
    let content = (symbol_at store c.args.number).content in
    let kind = c.kind_of.result in
    let own = sym c.is_alias.ensures ∙ c.if-is_alias.false in
    let count : c.len.result ≡ length (given_in content) = c.len.ensures.len ∙ ap length (c.given.ensures.value ∙ ap (λ (s : Symbol). given_in s.content) (own_symbol store c.args.number own)) in
    let head = c.in_ok-push_head-in_default.ensures ∙ ap₂ (λ (w : List ℕ) (n : ℕ). old ++ saved_line (w ++ (name ++ (codes " " ++ decimal n)))) c.kind_word.ensures count in
    on_success c.push_entries.result _ _ (λ last. piece_after old (head_line (kind_word kind) name content) (entry_lines content) _ _ head last ∙ ap (λ (p : List ℕ). old ++ p) (sym (entries_part name content kind own (sym c.kind_of.ensures) c.in_default.not-Undeclared c.in_default.not-Model))) c.push_entries.ensures
