use Rattle.std.proofs.Common.{◌≡◌, ◌∙◌, ◌++◌, ap, sym, true, List, [], ◌∷◌, length, map, append_assoc, Option, arith}
use Rattle.std.specs.Prelude.{flat_map}
use Rattle.std.specs.List.{list_all}
use Rattle.std.specs.Vec.{vec_len}
use Rattle.std.proofs.lemmas.Result.{IfOk-weaker, on_ok_weaker}
use Rattle.gms_ast.specs.declared.declaration.Item.{Item}
use Rattle.gms_ast.specs.declared.word.Named.{Named}
use Rattle.gms_set.specs.Expansion.{expanded}
use Rattle.gms_store.specs.Declarations.{names_of, positions_of}
use Rattle.gms_scope.specs.Facts.{Facts}
use Rattle.gms_check.specs.InnerChecking.{Checking, known_of, noted, seen}
use Rattle.gms_check.specs.CompileErrors.{errors_of}
use Rattle.gms_check.specs.DeclarationUses.{are_usable, domain_use, expansion_uses, has_all_parts, item_uses}
use Rattle.gms_check.specs.Uses.{Uses, naming, placing}
use Rattle.gms_check.proofs.Faultless.{faultless-item, none-faultless}
use Rattle.gms_check.proofs.Noting.{noted-then}
use Rattle.gms_check.proofs.checker.Checker.item.Goals as goal

pub returns-clause-noted : goal.returns-clause-noted
returns-clause-noted g c =
    let value = g.F.ExactField.value in
    let s = seen c.args.self.now in
    let item = c.args.item.now in
    let kind = c.args.kind in
    let domain = names_of item.domain in
    let positions = positions_of kind domain in
    let vector = c.in_ok-positions.positions in
    let found : vector.items ≡ positions = c.in_ok-positions.ensures ∙ ap (λ (d : List (Option Named)). positions_of kind (names_of d)) c.as_slice.ensures in
    let counted : vec_len vector ≡ length vector.items = omega (arith, vector.ok.0) in
    let expected : c.len-2.result ≡ length positions = c.len-2.ensures ∙ counted ∙ ap length found in
    let used : Uses g.row.F.Denot = (item.named.at, naming kind item.named.name domain) ∷ [] in
    let sets : Uses g.row.F.Denot = flat_map domain_use item.domain in
    let places : Uses g.row.F.Denot = map (λ (item : Item _). (item.at, placing (length positions) (length item.parts))) item.items in
    let elements : Uses g.row.F.Denot = expansion_uses (known_of value s) positions item.items in
    let one : seen c.naming.new.self ≡ noted value s used = c.naming.ensures ∙ ap (λ (d : List (Option Named)). noted value s ((item.named.at, naming kind item.named.name (names_of d)) ∷ [])) c.as_slice-2.ensures in
    let two : seen c.domain_sets.new.self ≡ noted value s (used ++ sets) = noted-then value s (seen c.naming.new.self) (seen c.domain_sets.new.self) used sets one (c.domain_sets.ensures ∙ ap (λ (d : List (Option Named)). noted value (seen c.naming.new.self) (flat_map domain_use d)) c.as_slice-3.ensures) in
    let three : seen c.parts.new.self ≡ noted value s ((used ++ sets) ++ places) = noted-then value s (seen c.domain_sets.new.self) (seen c.parts.new.self) (used ++ sets) places two (c.parts.ensures ∙ ap (λ n. noted value (seen c.domain_sets.new.self) (map (λ (item : Item _). (item.at, placing n (length item.parts))) c.as_slice-4.result.now)) expected ∙ ap (λ (xs : List (Item _)). noted value (seen c.domain_sets.new.self) (map (λ (item : Item _). (item.at, placing (length positions) (length item.parts))) xs)) c.as_slice-4.ensures) in
    let last : noted value (seen c.parts.new.self) (expansion_uses (known_of value (seen c.parts.new.self)) c.deref.result.now c.as_slice-5.result.now) ≡ noted value (seen c.parts.new.self) elements = ap (λ (ps : List (Option _)). noted value (seen c.parts.new.self) (expansion_uses (known_of value (seen c.parts.new.self)) ps c.as_slice-5.result.now)) (c.deref.ensures.value ∙ found) ∙ ap (λ (xs : List (Item _)). noted value (seen c.parts.new.self) (expansion_uses (known_of value (seen c.parts.new.self)) positions xs)) c.as_slice-5.ensures ∙ ap (λ (u : Checking). noted value (seen c.parts.new.self) (expansion_uses (known_of value u) positions item.items)) three in
    on_ok_weaker c.data.result (λ e. noted-then value s (seen c.parts.new.self) (seen c.data.new.self) ((used ++ sets) ++ places) elements three (e ∙ last) ∙ ap (noted value s) (append_assoc (used ++ sets) places elements)) c.data.ensures.noted

pub returns-clause-given : goal.returns-clause-given
returns-clause-given g c =
    let value = g.F.ExactField.value in
    let s = seen c.args.self.now in
    let item = c.args.item.now in
    let kind = c.args.kind in
    let positions = positions_of kind (names_of item.domain) in
    let t = seen c.parts.new.self in
    let ps = c.deref.result.now in
    let xs = c.as_slice-5.result.now in
    let found : ps ≡ positions = c.deref.ensures.value ∙ c.in_ok-positions.ensures ∙ ap (λ (d : List (Option Named)). positions_of kind (names_of d)) c.as_slice.ensures in
    let items : xs ≡ item.items = c.as_slice-5.ensures in
    let facts : t.facts ≡ s.facts = ap (λ (u : Checking). u.facts) c.parts.ensures ∙ ap (λ (u : Checking). u.facts) c.domain_sets.ensures ∙ ap (λ (u : Checking). u.facts) c.naming.ensures in
    IfOk-weaker c.data.result _ _ (λ given told faultless.
    let whole = faultless-item (known_of value s) kind item (none-faultless (errors_of (known_of value s) (item_uses (known_of value s) kind item)) faultless) in
    let usable : are_usable (known_of value t) ps ≡ true = ap (λ (f : Facts). are_usable (known_of value (record s { facts = f })) ps) facts ∙ ap (are_usable (known_of value s)) found ∙ whole.usable in
    let all : list_all (has_all_parts ps) xs ≡ true = ap (λ (p : List (Option _)). list_all (has_all_parts p) xs) found ∙ ap (list_all (has_all_parts positions)) items ∙ whole.whole in
    let none : expansion_uses (known_of value t) ps xs ≡ [] = ap (λ (f : Facts). expansion_uses (known_of value (record s { facts = f })) ps xs) facts ∙ ap (λ (p : List (Option _)). expansion_uses (known_of value s) p xs) found ∙ ap (expansion_uses (known_of value s) positions) items ∙ whole.given in
    sym (ap (λ (f : Facts). expanded f.state ps xs) facts ∙ ap (λ (p : List (Option _)). expanded s.facts.state p xs) found ∙ ap (expanded s.facts.state positions) items) ∙ told usable all none) c.data.ensures.given
