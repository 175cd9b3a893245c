-- Labels that are entered in order.
use Rattle.std.proofs.Common.{◌≡◌, ℕ, suc, ◌+◌, ◌<◌, ◌≤◌, List, [], ◌∷◌, ◌++◌, length, get_or, take, drop, Some, Err, refl, sym, ap, ◌∙◌, subst, take-append-drop, drop-cons}
use Rattle.std.specs.Borrow.{Bor}
use Rattle.std.proofs.lemmas.List.{map_push, map-append, take_more}
use Rattle.gms_labels.specs.Labels.{place_of, entered, IsFullFor, most_labels}
use Rattle.gms_labels.specs.declared.fault.LabelFault.{LabelFault}
use Rattle.gms_labels.specs.declared.fault.LabelFault.TheVariants as label
use Rattle.gms_table.specs.WordLabels.{all_entered, IsPrefix}
use Rattle.gms_table.specs.InnerNames.{read_all, AreEntered, IsEntering}
use Rattle.gms_table.proofs.LabelLemmas.{Stay, all_entered-append, Stay-entered, AreNumbers-push, GoesOn-all_entered, GoesOn-entered, GoesOn-trans, full-all_entered}

-- one label more
pub AreEntered-more : (before table after texts : List (List ℕ)) (numbers : List ℕ) (text : List ℕ) (n : ℕ) → AreEntered before table texts numbers → after ≡ entered table text → place_of after text ≡ Some n → length after ≤ most_labels → AreEntered before after (texts ++ text ∷ []) (numbers ++ n ∷ [])
AreEntered-more before table after texts numbers text n so_far is here few = record {
  table = is ∙ ap (λ t. entered t text) so_far.table ∙ sym (all_entered-append before texts (text ∷ []));
  numbers_are = AreNumbers-push table after (subst (λ t. Stay table t) (sym is) (Stay-entered table text)) numbers texts n text so_far.numbers_are here;
  few = λ some. few;
}

-- the labels up to one and with it
pub read_all-more : (labels : List (Bor (List ℕ))) (i : ℕ) (d : Bor (List ℕ)) → i < length labels → read_all (take (i + 1) labels) ≡ read_all (take i labels) ++ (get_or labels i d).now ∷ []
read_all-more labels i d l = ap read_all (take_more labels i d l) ∙ map_push (λ (b : Bor (List ℕ)). b.now) (take i labels) (get_or labels i d)

-- all labels, as those before one, that one, and those after it
pub read_all-split : (labels : List (Bor (List ℕ))) (i : ℕ) (d : Bor (List ℕ)) → i < length labels → read_all labels ≡ read_all (take i labels) ++ (get_or labels i d).now ∷ read_all (drop (suc i) labels)
read_all-split labels i d l =
    ap read_all (sym (take-append-drop i labels) ∙ ap (λ ls. take i labels ++ ls) (drop-cons labels i d l)) ∙ map-append (λ (b : Bor (List ℕ)). b.now) (take i labels) (get_or labels i d ∷ drop (suc i) labels)

-- a label that was not entered
pub enter_stops : (before table after prefix : List (List ℕ)) (numbers : List ℕ) (text : List ℕ) (others all : List (List ℕ)) (fault : LabelFault) → AreEntered before table prefix numbers → all ≡ prefix ++ text ∷ others → (fault ≡ label.Full → IsFullFor table text) → IsEntering before after all (Err fault)
enter_stops before table after prefix numbers text others all label.Full so_far split full =
    subst (λ ts. most_labels < length (all_entered before ts)) (sym split) (full-all_entered before prefix text others (subst (λ t. IsFullFor t text) so_far.table (full refl)))
enter_stops before table after prefix numbers text others all label.Memory so_far split full = tt

-- a table begins with what was entered so far, and is extended by one more label
pub extended-so_far : (before table texts : List (List ℕ)) (numbers : List ℕ) → AreEntered before table texts numbers → IsPrefix before table
extended-so_far before table texts numbers so_far = subst (IsPrefix before) (sym so_far.table) (GoesOn-all_entered before texts)

pub extended-more : (before table after texts : List (List ℕ)) (numbers : List ℕ) (text : List ℕ) → AreEntered before table texts numbers → after ≡ entered table text → IsPrefix before after
extended-more before table after texts numbers text so_far is = GoesOn-trans before table after (extended-so_far before table texts numbers so_far) (subst (IsPrefix table) (sym is) (GoesOn-entered table text))
