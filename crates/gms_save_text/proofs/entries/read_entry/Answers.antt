use Rattle.std.proofs.Common.{◌∙◌, ◌++◌, List, ℕ, true, sym, ap, ap₂, subst}
use Rattle.gms_store.specs.declared.kind.SymbolKind.{SymbolKind}
use Rattle.gms_store.specs.State.{Attributes, after_membership, after_value, after_attributes, attributes_in, value_in}
use Rattle.gq_extended.specs.Extended.{Extended}
use Rattle.gms_save_text.specs.SavedState.{saved_line, given_text}
use Rattle.gms_save_text.specs.Validity.{declared_symbols}
use Rattle.gms_save_text.specs.Reading.{HasEntriesOfKind}
use Rattle.gms_save_text.proofs.Declared.{declared-membership, declared-value, declared-attributes}
use Rattle.gms_save_text.proofs.Finding.{handed_on, nothing_on}
use Rattle.gms_save_text.proofs.EntryKinds.{after_tuple, set_entry, parameter_entry, element}
use Rattle.gms_save_text.proofs.entries.read_entry.Goals as goal

-- ---- sets

pub returns-in_err-rest-in-Set-clause-entry : goal.returns-in_err-rest-in-Set-clause-entry
returns-in_err-rest-in-Set-clause-entry g c content t rest has readable is =
    let kind = set_entry content (subst (λ (k : SymbolKind). HasEntriesOfKind k content) c.in-Set.is has) in
    let tuple = c.in_ok-tuple.ensures t (saved_line (given_text content t) ++ rest) readable.tuple (is ∙ after_tuple content t rest) in
    handed_on _ _ _ _ c.from_residual-in_err-rest-in-Set.ensures.1 (c.in_err-rest-in-Set.ensures rest (tuple.1 ∙ ap (λ (l : List ℕ). saved_line l ++ rest) (kind.text t)))

pub returns-in-Set-clause-entry : goal.returns-in-Set-clause-entry
returns-in-Set-clause-entry g c content t rest has readable is =
    let kind = set_entry content (subst (λ (k : SymbolKind). HasEntriesOfKind k content) c.in-Set.is has) in
    let tuple = c.in_ok-tuple.ensures t (saved_line (given_text content t) ++ rest) readable.tuple (is ∙ after_tuple content t rest) in (
      c.in_ok-rest-in-Set.ensures rest (tuple.1 ∙ ap (λ (l : List ℕ). saved_line l ++ rest) (kind.text t)),
      c.in_ok-set_member-in-Set.ensures.ok ∙ ap (λ (u : List ℕ). after_membership c.args.store.now c.args.named.name u true) tuple.0 ∙ sym (kind.put c.args.store.now c.args.named.name t),
    )

pub returns-in-Set-clause-declared : goal.returns-in-Set-clause-declared
returns-in-Set-clause-declared g c = ap declared_symbols c.in_ok-set_member-in-Set.ensures.ok ∙ declared-membership c.args.store.now c.args.named.name c.in_ok-tuple.tuple true

-- ---- parameters

pub returns-in-Parameter-clause-entry : goal.returns-in-Parameter-clause-entry
returns-in-Parameter-clause-entry g c content t rest has readable is =
    let kind = parameter_entry g.F.ExactField.limit content (subst (λ (k : SymbolKind). HasEntriesOfKind k content) c.in-Parameter.is has) in
    let tuple = c.in_ok-tuple.ensures t (saved_line (given_text content t) ++ rest) readable.tuple (is ∙ after_tuple content t rest) in
    let value = c.in_ok-value-in-Parameter.ensures (value_in content t) rest (sym (kind.fit t) ∙ readable.fit) (tuple.1 ∙ ap (λ (l : List ℕ). saved_line l ++ rest) (kind.text t)) in (
      value.1,
      c.in_ok-put-in-Parameter.ensures.ok ∙ ap₂ (λ (u : List ℕ) (x : Extended). after_value c.args.store.now c.args.named.name u x) tuple.0 value.0 ∙ sym (kind.put c.args.store.now c.args.named.name t),
    )

pub returns-in-Parameter-clause-declared : goal.returns-in-Parameter-clause-declared
returns-in-Parameter-clause-declared g c = ap declared_symbols c.in_ok-put-in-Parameter.ensures.ok ∙ declared-value c.args.store.now c.args.named.name c.in_ok-tuple.tuple _

-- ---- variables and equations

pub returns-in_err-attributes-in_default : goal.returns-in_err-attributes-in_default
returns-in_err-attributes-in_default g c = record {
  entry = λ content t rest has readable is.
      let kind = element g.F.ExactField.limit content c.args.named.kind c.in_default.not-Set c.in_default.not-Parameter has in
      let tuple = c.in_ok-tuple.ensures t (saved_line (given_text content t) ++ rest) readable.tuple (is ∙ after_tuple content t rest) in
      handed_on _ _ _ _ c.from_residual-in_err-attributes-in_default.ensures.1 (c.in_err-attributes-in_default.ensures (attributes_in content t) rest (sym (kind.fit t) ∙ readable.fit) (tuple.1 ∙ ap (λ (l : List ℕ). saved_line l ++ rest) (kind.text t)));
  declared = nothing_on _ _ c.from_residual-in_err-attributes-in_default.ensures.0;
}

pub returns : goal.returns
returns g c = record {
  entry = λ content t rest has readable is.
      let kind = element g.F.ExactField.limit content c.args.named.kind c.in_default.not-Set c.in_default.not-Parameter has in
      let tuple = c.in_ok-tuple.ensures t (saved_line (given_text content t) ++ rest) readable.tuple (is ∙ after_tuple content t rest) in
      let attributes = c.in_ok-attributes-in_default.ensures (attributes_in content t) rest (sym (kind.fit t) ∙ readable.fit) (tuple.1 ∙ ap (λ (l : List ℕ). saved_line l ++ rest) (kind.text t)) in (
        attributes.1,
        c.in_ok-put_attributes-in_default.ensures.ok ∙ ap₂ (λ (u : List ℕ) (a : Attributes). after_attributes c.args.store.now c.args.named.name u a) tuple.0 attributes.0 ∙ sym (kind.put c.args.store.now c.args.named.name t),
      );
  declared = ap declared_symbols c.in_ok-put_attributes-in_default.ensures.ok ∙ declared-attributes c.args.store.now c.args.named.name c.in_ok-tuple.tuple _;
}
