-- A text that is appended keeps the invariant, and a failure leaves the table as it was.
use Rattle.std.proofs.Common.{◌≡◌, ◌∙◌, ◌∷◌, ◌++◌, ◌<◌, [], List, None, Result, Ok, Err, IsErrAnd, OnOk, OnErr, IsOkUnless, length, refl, sym, ap, subst}
use Rattle.std.specs.Str.{bytes_eq}
use Rattle.indexmap.specs.IndexMap.{insert_entry}
use Rattle.gms_labels.specs.declared.fault.LabelFault.{LabelFault}
use Rattle.gms_labels.specs.declared.fault.LabelFault.TheVariants.{Memory}
use Rattle.gms_labels.specs.Labels.{lower_case, place_of, AreLabels}
use Rattle.gms_labels.specs.Table.{Entry, texts_of, IsLabelTable}
use Rattle.gms_labels.proofs.Entries.{insert-new, texts_of-push, IsKept-push}
use Rattle.gms_labels.proofs.labels.Labels.append.Goals as goal

on_ok : (r : Result (Unit {0}) LabelFault) (P : Type 0) → IsErrAnd r (λ fault. fault ≡ Memory) → OnOk r P
on_ok (Ok _) P fails = absurd fails
on_ok (Err _) P fails = tt

on_err : (r : Result (Unit {0}) LabelFault) (P : Type 0) → IsErrAnd r (λ fault. fault ≡ Memory) → P → OnErr r P
on_err (Ok _) P fails p = absurd fails
on_err (Err _) P fails p = p

is_memory : (r : Result (Unit {0}) LabelFault) → IsErrAnd r (λ fault. fault ≡ Memory) → IsOkUnless r Memory
is_memory (Ok _) fails = absurd fails
is_memory (Err _) fails = fails

-- the entries after the call
entries-are : (c : goal.Joined-branch-3) → c.insert.new.self.entries ≡ c.self.inside.texts.entries ++ (lower_case c.args.text.now, c.in_ok-written.written) ∷ []
entries-are c =
    let entries : List Entry = c.self.inside.texts.entries in
    let none : place_of (texts_of entries) c.args.text.now ≡ None = ap (λ texts. place_of texts c.args.text.now) c.self.view_is ∙ c.requires.new in
    c.in_ok-insert.ensures.entries ∙ ap (λ key. insert_entry bytes_eq entries key c.in_ok-written.written) c.new.ensures ∙ insert-new entries c.args.text.now c.in_ok-written.written c.self.invariant none

pub returns-in_err-written : goal.returns-in_err-written
returns-in_err-written c = record {
  ok = on_ok c.from_residual.result (c.args.self.now ≡ c.args.self.now ++ c.args.text.now ∷ []) c.from_residual.ensures.1;
  err = on_err c.from_residual.result (c.args.self.now ≡ c.args.self.now) c.from_residual.ensures.1 refl;
  memory = is_memory c.from_residual.result c.from_residual.ensures.1;
  labels = on_ok c.from_residual.result (AreLabels c.args.self.now) c.from_residual.ensures.1;
}

pub new-requires : goal.new-requires
new-requires c = c.requires.short

pub invariant_of-self : goal.invariant_of-self
invariant_of-self c = subst IsLabelTable (sym c.in_err-insert.ensures.err) c.self.invariant

pub returns-in_err-insert : goal.returns-in_err-insert
returns-in_err-insert c =
    let result = c.from_residual-in_err-insert.result in
    let fails = c.from_residual-in_err-insert.ensures.1 in
    record {
      ok = on_ok result (texts_of c.insert.new.self.entries ≡ c.args.self.now ++ c.args.text.now ∷ []) fails;
      err = on_err result (texts_of c.insert.new.self.entries ≡ c.args.self.now) fails (ap texts_of c.in_err-insert.ensures.err ∙ c.self.view_is);
      memory = is_memory result fails;
      labels = on_ok result (AreLabels (texts_of c.insert.new.self.entries)) fails;
    }

pub invariant_of-self-2 : goal.invariant_of-self-2
invariant_of-self-2 c =
    let entries : List Entry = c.self.inside.texts.entries in
    let none : place_of (texts_of entries) c.args.text.now ≡ None = ap (λ texts. place_of texts c.args.text.now) c.self.view_is ∙ c.requires.new in
    let within_bound : length (texts_of entries) < 65536 = subst (λ texts. length texts < 65536) (sym c.self.view_is) c.requires.within_bound in
    subst IsLabelTable (sym (entries-are c))
    (IsKept-push entries c.in_ok-written.written c.args.text.now c.self.invariant none within_bound c.requires.short c.in_ok-written.ensures.ok)

pub returns : goal.returns
returns c = record {
  ok = ap texts_of (entries-are c)
      ∙ texts_of-push c.self.inside.texts.entries (lower_case c.args.text.now) c.in_ok-written.written c.args.text.now c.in_ok-written.ensures.ok
      ∙ ap (λ texts. texts ++ c.args.text.now ∷ []) c.self.view_is;
  err = tt;
  memory = tt;
  labels = (invariant_of-self-2 c).labels;
}
