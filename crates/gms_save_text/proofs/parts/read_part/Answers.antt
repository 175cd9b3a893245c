use Rattle.std.proofs.Common.{◌≡◌, ◌∙◌, ◌++◌, ◌∷◌, List, ℕ, length, codes, decimal, sym, ap, subst}
use Rattle.std.specs.List.{AllByRecursion}
use Rattle.gms_store.specs.State.{Symbol, symbol_at, given_in}
use Rattle.gms_save_text.specs.SavedState.{saved_line, entry_lines}
use Rattle.gms_save_text.specs.Reading.{IsReadable}
use Rattle.gms_save_text.proofs.Filling.{filled_again}
use Rattle.gms_save_text.proofs.Finding.{handed_on, found_more, nothing_on}
use Rattle.gms_save_text.proofs.Sorts.{alias_too, kind_too, alias_prefix, emptied_alias, emptied_undeclared, undeclared_part, kept, own_symbol, has_entries, entries_prefix, lines_count, differing, counted}
use Rattle.gms_save_text.proofs.parts.read_part.Goals as goal

-- ---- aliases

pub returns-then-is_alias-clause-part : goal.returns-then-is_alias-clause-part
returns-then-is_alias-clause-part g c content rest within readable is =
    let declared = symbol_at c.args.store.now c.args.number in
    let alias = alias_too g.F.ExactField.limit declared content _ readable (sym c.is_alias.ensures ∙ c.if-is_alias.true) in
    let following = c.in_ok-following.ensures (10 ∷ rest) (is ∙ alias_prefix c.args.name.now content rest alias) in
    let same = kept c.args.store.now c.args.number content within (readable.declared ∙ emptied_alias content alias) in
    found_more c.strip.result _ _ (λ r left. (left, same)) (c.strip.ensures rest following)

-- ---- names of which nothing is given

pub returns-in-Undeclared-clause-part : goal.returns-in-Undeclared-clause-part
returns-in-Undeclared-clause-part g c content rest within readable is =
    let declared = symbol_at c.args.store.now c.args.number in
    let sort = kind_too g.F.ExactField.limit declared content _ readable (sym c.kind_of.ensures ∙ c.in-Undeclared.is) in
    (is ∙ ap (λ (p : List ℕ). p ++ rest) (undeclared_part c.args.name.now content sort), kept c.args.store.now c.args.number content within (readable.declared ∙ emptied_undeclared content sort))

-- ---- names that have entries

pub returns-in_err-count-in_default : goal.returns-in_err-count-in_default
returns-in_err-count-in_default g c = record {
  part = λ content rest within readable is.
      let declared = symbol_at c.args.store.now c.args.number in
      let sort = c.kind_of.result in
      let alias = alias_too g.F.ExactField.limit declared content _ readable (sym c.is_alias.ensures ∙ c.if-is_alias.false) in
      let same = kind_too g.F.ExactField.limit declared content sort readable (sym c.kind_of.ensures) in
      let count = length (given_in content) in
      let line = is ∙ entries_prefix c.args.name.now content sort rest alias same c.in_default.not-Undeclared c.in_default.not-Model ∙ ap (λ (w : List ℕ). saved_line (w ++ (c.args.name.now ++ (codes " " ++ decimal count))) ++ (entry_lines content ++ rest)) (sym c.kind_word.ensures) in
      handed_on _ _ _ _ c.from_residual-in_err-count-in_default.ensures.1 (c.in_err-count-in_default.ensures count (entry_lines content ++ rest) (lines_count content rest) line);
  declared = nothing_on _ _ c.from_residual-in_err-count-in_default.ensures.0;
}

pub returns-in_ok-count-in_default : goal.returns-in_ok-count-in_default
returns-in_ok-count-in_default g c = record {
  part = λ content rest within readable is.
      let store = c.args.store.now in
      let number = c.args.number in
      let declared = symbol_at store number in
      let sort = c.kind_of.result in
      let own = sym c.is_alias.ensures ∙ c.if-is_alias.false in
      let alias = alias_too g.F.ExactField.limit declared content _ readable own in
      let same = kind_too g.F.ExactField.limit declared content sort readable (sym c.kind_of.ensures) in
      let count = length (given_in content) in
      let line = is ∙ entries_prefix c.args.name.now content sort rest alias same c.in_default.not-Undeclared c.in_default.not-Model ∙ ap (λ (w : List ℕ). saved_line (w ++ (c.args.name.now ++ (codes " " ++ decimal count))) ++ (entry_lines content ++ rest)) (sym c.kind_word.ensures) in
      let head = c.in_ok-count-in_default.ensures count (entry_lines content ++ rest) (lines_count content rest) line in
      let has = has_entries content sort alias same c.in_default.not-Undeclared c.in_default.not-Model in
      let arity : length c.domain_of-arity.result.now ≡ length declared.domain = ap length (c.domain_of-arity.ensures ∙ ap (λ (s : Symbol). s.domain) (own_symbol store number own)) in
      let all = subst (λ (n : ℕ). AllByRecursion (IsReadable g.F.ExactField.limit n content) (given_in content)) (sym arity) readable.entries in
      let again = filled_again store number sort content within has readable.declared readable.ordered (differing g.F.ExactField.limit (length declared.domain) content (given_in content) readable.entries) (counted g.F.ExactField.limit (length declared.domain) content (given_in content) readable.entries) in
      found_more c.read_entries.result _ _ (λ r found. (found.0, found.1 ∙ again)) (c.read_entries.ensures.entries content (given_in content) rest has all (sym head.0) head.1);
  declared = c.read_entries.ensures.declared;
}
