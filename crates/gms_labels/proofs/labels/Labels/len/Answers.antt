-- A table has as many entries as texts, and few enough for a `u32`.
use Rattle.std.proofs.Common.{◌≡◌, ◌≤◌, ℕ, length, Fits, w32, sym, ap, ◌∙◌, subst, string_bytes, arith}
use Rattle.std.proofs.lemmas.List.{length-map}
use Rattle.gms_labels.specs.Labels.{AreLabels}
use Rattle.gms_labels.specs.Table.{Entry, texts_of}
use Rattle.gms_labels.proofs.labels.Labels.len.Goals as goal

fits_few : (n : ℕ) → n ≤ 65536 → Fits w32 n
fits_few n few = omega arith

count_is : (c : goal.After-len) → c.len.result ≡ length (texts_of c.self.inside.texts.entries)
count_is c = c.len.ensures.len ∙ sym (length-map c.self.inside.texts.entries (λ (entry : Entry). string_bytes entry.1))

pub overflow_cast-result : goal.overflow_cast-result
overflow_cast-result c = fits_few c.len.result (subst (λ n. n ≤ 65536) (sym (count_is c)) c.self.invariant.labels.few)

pub returns-clause-len : goal.returns-clause-len
returns-clause-len c = count_is c ∙ ap length c.self.view_is

pub returns-clause-labels : goal.returns-clause-labels
returns-clause-labels c = subst AreLabels c.self.view_is c.self.invariant.labels
