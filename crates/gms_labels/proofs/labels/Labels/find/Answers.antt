-- A text is found by the hash of its key, or by a comparison with each label; its place is below
-- the number of labels.
use Rattle.std.proofs.Common.{◌≡◌, ◌<◌, ◌≤◌, ◌∙◌, ℕ, List, length, Some, IfSome, Fits, w32, sym, ap, subst, position, arith}
use Rattle.std.specs.Map.{keys_of}
use Rattle.std.specs.Str.{bytes_eq}
use Rattle.gms_labels.specs.Labels.{place_of, lower_case}
use Rattle.gms_labels.specs.Table.{Entry, texts_of, IsLabelTable}
use Rattle.gms_labels.proofs.Places.{place_of-within, place_of-reads}
use Rattle.gms_labels.proofs.Entries.{position-keys}
use Rattle.gms_labels.proofs.labels.Labels.find.Goals as goal

fits_below : (n m : ℕ) → n < m → m ≤ 65536 → Fits w32 n
fits_below n m less few = omega arith

-- what a look-up of the key of a text answers
looked_up : (entries : List Entry) (key text : List ℕ) (texts : List (List ℕ)) → IsLabelTable entries → key ≡ lower_case text → texts_of entries ≡ texts → position (bytes_eq key) (keys_of entries) ≡ place_of texts text
looked_up entries key text texts kept key_is texts_are =
    ap (λ key. position (bytes_eq key) (keys_of entries)) key_is ∙ position-keys entries text kept ∙ ap (λ texts. place_of texts text) texts_are

pub returns-then-len-le-FEW : goal.returns-then-len-le-FEW
returns-then-len-le-FEW c = record {
  place = c.find_by_text.ensures;
  within = place_of-within c.args.self.now c.args.text.now c.find_by_text.result c.find_by_text.ensures;
  labels = c.len.ensures.labels;
}

pub new-folded-requires : goal.new-folded-requires
new-folded-requires c = c.requires

pub returns-in_err-place : goal.returns-in_err-place
returns-in_err-place c =
    let entries : List Entry = c.self.inside.texts.entries in
    record {
      place = c.from_residual.ensures ∙ c.in_err-place.ensures.index
          ∙ looked_up entries c.new-folded.result c.args.text.now c.args.self.now c.self.invariant c.new-folded.ensures c.self.view_is;
      within = subst (λ o. IfSome o (λ n. n < length c.args.self.now)) (sym c.from_residual.ensures) tt;
      labels = c.len.ensures.labels;
    }

found : (c : goal.In_ok-place) → Some c.in_ok-place.place ≡ place_of c.args.self.now c.args.text.now
found c =
    let entries : List Entry = c.self.inside.texts.entries in
    c.in_ok-place.ensures.index
    ∙ looked_up entries c.new-folded.result c.args.text.now c.args.self.now c.self.invariant c.new-folded.ensures c.self.view_is

within : (c : goal.In_ok-place) → c.in_ok-place.place < length c.args.self.now
within c = (place_of-reads c.args.self.now c.args.text.now c.in_ok-place.place (sym (found c))).0

pub overflow_cast-result : goal.overflow_cast-result
overflow_cast-result c = fits_below c.in_ok-place.place (length c.args.self.now) (within c) c.len.ensures.labels.few

pub returns : goal.returns
returns c = record {
  place = found c;
  within = within c;
  labels = c.len.ensures.labels;
}
