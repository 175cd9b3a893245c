-- The label at a place: its entry is within the table, and holds a short text whose place it is.
use Rattle.std.proofs.Common.{◌≡◌, ◌<◌, ◌∙◌, [], List, ℕ, length, get_or, slice_get, Some, true, sym, ap}
use Rattle.std.proofs.lemmas.Option.{slice_get_within, get_or_from_slice_get}
use Rattle.gms_labels.specs.Labels.{is_same, place_of}
use Rattle.gms_labels.specs.Table.{texts_of}
use Rattle.gms_labels.proofs.Entries.{text-at}
use Rattle.gms_labels.proofs.Places.{place_of-unique, is_same_refl}
use Rattle.gms_labels.proofs.labels.Labels.text.Goals as goal

pub returns : goal.returns
returns c =
    let texts : List (List ℕ) = texts_of c.self.inside.texts.entries in
    let at : slice_get texts c.args.n ≡ Some c.as_str.result.now =
    text-at c.self.inside.texts.entries c.args.n c.index.result.now c.as_str.result.now c.index.ensures c.as_str.ensures.value in
    let reads : get_or texts c.args.n [] ≡ c.as_str.result.now = get_or_from_slice_get texts c.args.n c.as_str.result.now [] at in
    let below : c.args.n < length texts = slice_get_within texts c.args.n c.as_str.result.now at in
    let same : is_same c.as_str.result.now (get_or texts c.args.n []) ≡ true = rw reads (is_same_refl c.as_str.result.now) in
    record {
      value = ap (λ texts. slice_get texts c.args.n) (sym c.self.view_is) ∙ at;
      short = rw reads at (c.self.invariant.labels.short c.args.n [] below);
      place = ap (λ texts. place_of texts c.as_str.result.now) (sym c.self.view_is)
          ∙ place_of-unique texts c.as_str.result.now c.args.n c.self.invariant.labels.distinct below same;
    }
