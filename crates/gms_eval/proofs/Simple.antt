-- The elements of the product of sets of one dimension.
use Rattle.std.proofs.lemmas.Bool.{and_parts}
use mathlib.Core.Bool.{or-true}
use Rattle.std.proofs.Common.{◌≡◌, ℕ, ◌+◌, ◌<◌, ◌≤◌, Bool, true, false, ◌&&◌, ◌||◌, List, [], ◌∷◌, map, drop, ◌++◌, zero, suc, length, get_or, nat_eq, nat_le, append-nil, append_assoc, if◌then◌else◌, refl, sym, ap, ◌∙◌, arith}
use Rattle.std.specs.List.{All, list_any}
use Rattle.std.proofs.lemmas.List.{drop_more, drop_all, length-map, length_push, map_push, get_or_append_left, get_or-append-add}
use Rattle.std.proofs.lemmas.List.Elements.{All-map, All-weaker}
use Rattle.gms_tuple.specs.TupleOrder.{same_tuple, IsOrdered}
use Rattle.gms_tuple.specs.TupleSet.{has}
use Rattle.gms_tuple.specs.Products.{tuple_product}
use Rattle.gms_tuple.proofs.Ordered.{same_tuple-Decides, same_tuple_refl, ordered-nil}
use Rattle.gms_store.specs.State.{State, Content, undeclared, alias_of, set_of, parameter_of, variable_of, equation_of, model_with, members_in, members_of, given_in}
use Rattle.gms_eval.specs.Domain.{elements, labels_of, IsSimple}
use Rattle.gms_eval.specs.Lag.{label_of_element}
use Rattle.gms_eval.specs.InnerLeading.{picked, spread_over}
use Rattle.gms_eval.proofs.Ascents.{all_in, has-product, all_in-length, AreAscending, ordered-product}
use Rattle.gms_eval.proofs.Sizes.{elements-few}

-- tuples of one label each
abbrev AreSingle : List (List ℕ) → Type 0
AreSingle members = (member : List ℕ) → has members member ≡ true → length member ≡ 1

single-first : (x : List ℕ) (members : List (List ℕ)) → AreSingle (x ∷ members) → length x ≡ 1
single-first x members single = single x (ap (λ b. b || has members x) (same_tuple_refl x))

single-rest : (x : List ℕ) (members : List (List ℕ)) → AreSingle (x ∷ members) → AreSingle members
single-rest x members single t there = single t (ap (λ b. same_tuple x t || b) there ∙ or-true (same_tuple x t))

only-label : (x : List ℕ) → length x ≡ 1 → label_of_element x ∷ [] ≡ x
only-label [] e = absurd (omega arith)
only-label (l ∷ []) e = refl
only-label (l ∷ m ∷ x) e = absurd (omega arith)

-- such tuples are those of their labels
singles : (members : List (List ℕ)) → AreSingle members → map (λ label. label ∷ []) (map label_of_element members) ≡ members
singles [] single = refl
singles (x ∷ members) single =
    ap (λ y. y ∷ map (λ label. label ∷ []) (map label_of_element members)) (only-label x (single-first x members single))
    ∙ ap (λ ys. x ∷ ys) (singles members (single-rest x members single))

one_label : (m l : ℕ) → (nat_eq m l && true) ≡ nat_eq m l
one_label m l = elim (nat_eq m l) as (λ b. (b && true) ≡ b) [ true ↦ refl | false ↦ refl ]

any-label : (labels : List ℕ) (l : ℕ) → list_any (λ m. nat_eq m l) labels ≡ has (map (λ label. label ∷ []) labels) (l ∷ [])
any-label [] l = refl
any-label (m ∷ labels) l =
    ap (λ b. b || list_any (λ m. nat_eq m l) labels) (sym (one_label m l)) ∙ ap (λ b. (nat_eq m l && true) || b) (any-label labels l)

module _ (state : State) where
  labels-ascending : (set : ℕ) → IsSimple state set → AreAscending (labels_of state set)
  labels-ascending set simple = rw (singles (members_of state set) simple.1) simple.0

  -- a set of one dimension has a label where the tuple of it is a member
  pub has-label : (set l : ℕ) → IsSimple state set → list_any (λ m. nat_eq m l) (labels_of state set) ≡ has (members_of state set) (l ∷ [])
  has-label set l simple =
      any-label (labels_of state set) l ∙ ap (λ members. has members (l ∷ [])) (singles (members_of state set) simple.1)

  ordered-few : (sets : List ℕ) (b : Bool) → All (IsSimple state) sets → IsOrdered (if b then tuple_product (map (labels_of state) sets) else [])
  ordered-few sets true simple =
      ordered-product (map (labels_of state) sets) (All-map AreAscending (labels_of state) sets (All-weaker (IsSimple state) (λ set. AreAscending (labels_of state set)) (λ set simple. labels-ascending set simple) sets simple))
  ordered-few sets false simple = ordered-nil

  -- the elements of the product of such sets are in order
  pub elements-ordered : (sets : List ℕ) → All (IsSimple state) sets → IsOrdered (elements state sets)
  elements-ordered sets simple = ordered-few sets (nat_le (length sets) 10) simple

  -- each has as many labels as there are sets
  pub element-length : (sets x : List ℕ) → has (elements state sets) x ≡ true → length x ≡ length sets
  element-length sets x there = by (nat_le (length sets) 10) there
    where
      by : (b : Bool) → has (if b then tuple_product (map (labels_of state) sets) else []) x ≡ true → length x ≡ length sets
      by true e =
          all_in-length (map (labels_of state) sets) x (sym (has-product (map (labels_of state) sets) x) ∙ e)
          ∙ length-map sets (labels_of state)
      by false e = absurd cc

  -- a tuple of another length is none
  pub no-element : (sets x : List ℕ) → (length x ≡ length sets → ⊥) → has (elements state sets) x ≡ false
  no-element sets x other = by (has (elements state sets) x) refl
    where
      by : (b : Bool) → has (elements state sets) x ≡ b → b ≡ false
      by true e = absurd (other (element-length sets x e))
      by false e = refl

  -- ---- the test label by label

  -- whether the remaining labels are in the remaining sets
  abbrev pub rest_in : List ℕ → List ℕ → ℕ → Bool
  rest_in sets x place = all_in (map (labels_of state) (drop place sets)) (drop place x)

  pub rest-start : (sets x : List ℕ) → length x ≡ length sets → length x ≤ 10 → has (elements state sets) x ≡ rest_in sets x 0
  rest-start sets x same few =
      ap (λ those. has those x) (elements-few state sets (omega arith)) ∙ has-product (map (labels_of state) sets) x

  pub rest-more : (sets x : List ℕ) (place : ℕ) (found : Bool) → place < length sets → place < length x → IsSimple state (get_or sets place 0) → found ≡ has (members_of state (get_or sets place 0)) (get_or x place 0 ∷ []) → rest_in sets x place ≡ (found && rest_in sets x (place + 1))
  rest-more sets x place found l m simple is =
      ap (λ s. all_in (map (labels_of state) s) (drop place x)) (drop_more sets place 0 l)
      ∙ ap (λ y. all_in (labels_of state (get_or sets place 0) ∷ map (labels_of state) (drop (place + 1) sets)) y) (drop_more x place 0 m)
      ∙ ap (λ b. b && rest_in sets x (place + 1)) (has-label (get_or sets place 0) (get_or x place 0) simple ∙ sym is)

  pub rest-end : (sets x : List ℕ) (place : ℕ) → length sets ≤ place → length x ≤ place → rest_in sets x place ≡ true
  rest-end sets x place all all_x =
      ap (λ s. all_in (map (labels_of state) s) (drop place x)) (drop_all place sets all) ∙ ap (all_in []) (drop_all place x all_x)

-- the image of a member is a member of the mapped list
pub has-map : (f : List ℕ → List ℕ) (xs : List (List ℕ)) (t : List ℕ) → has xs t ≡ true → has (map f xs) (f t) ≡ true
has-map f [] t e = absurd cc
has-map f (x ∷ xs) t e = by (has-map f xs t) (same_tuple x t) refl e
  where
    or-true : (b : Bool) → (b || true) ≡ true
    or-true true = refl
    or-true false = refl

    by : (has xs t ≡ true → has (map f xs) (f t) ≡ true) → (b : Bool) → same_tuple x t ≡ b → (b || has xs t) ≡ true → (same_tuple (f x) (f t) || has (map f xs) (f t)) ≡ true
    by rest true same _ =
        ap (λ y. same_tuple (f y) (f t) || has (map f xs) (f t)) ((same_tuple-Decides x t).0 same)
        ∙ ap (λ b. b || has (map f xs) (f t)) (same_tuple_refl (f t))
    by rest false other later = ap (λ b. same_tuple (f x) (f t) || b) (rest later) ∙ or-true (same_tuple (f x) (f t))

-- ---- labels of elements

other-labels : (a b : Bool) → (a && b) ≡ true → b ≡ true
other-labels true b e = e
other-labels false b e = absurd cc

module _ (state : State) where
  all_in-at : (sets x : List ℕ) (k : ℕ) → all_in (map (labels_of state) sets) x ≡ true → k < length sets → list_any (λ m. nat_eq m (get_or x k 0)) (labels_of state (get_or sets k 0)) ≡ true
  all_in-at [] x k e l = absurd (omega arith)
  all_in-at (set ∷ sets) [] k e l = absurd cc
  all_in-at (set ∷ sets) (y ∷ x) zero e l =
      (and_parts (list_any (λ m. nat_eq m y) (labels_of state set)) (all_in (map (labels_of state) sets) x) e).0
  all_in-at (set ∷ sets) (y ∷ x) (suc k) e l =
      all_in-at sets x k (other-labels (list_any (λ m. nat_eq m y) (labels_of state set)) (all_in (map (labels_of state) sets) x) e) (omega arith)

  all_in-push : (sets x : List ℕ) (set y : ℕ) → all_in (map (labels_of state) sets) x ≡ true → list_any (λ m. nat_eq m y) (labels_of state set) ≡ true → all_in (map (labels_of state) (sets ++ set ∷ [])) (x ++ y ∷ []) ≡ true
  all_in-push [] [] set y e at = ap (λ b. b && true) at
  all_in-push [] (z ∷ x) set y e at = absurd cc
  all_in-push (s ∷ sets) [] set y e at = absurd cc
  all_in-push (s ∷ sets) (z ∷ x) set y e at =
      ap (λ b. b && all_in (map (labels_of state) (sets ++ set ∷ [])) (x ++ y ∷ [])) ((and_parts (list_any (λ m. nat_eq m z) (labels_of state s)) (all_in (map (labels_of state) sets) x) e).0)
      ∙ all_in-push sets x set y (other-labels (list_any (λ m. nat_eq m z) (labels_of state s)) (all_in (map (labels_of state) sets) x) e) at

  element-all_in : (sets x : List ℕ) → has (elements state sets) x ≡ true → all_in (map (labels_of state) sets) x ≡ true
  element-all_in sets x there = by (nat_le (length sets) 10) there
    where
      by : (b : Bool) → has (if b then tuple_product (map (labels_of state) sets) else []) x ≡ true → all_in (map (labels_of state) sets) x ≡ true
      by true e = sym (has-product (map (labels_of state) sets) x) ∙ e
      by false e = absurd cc

  -- the label of an element at a position is one of the set's
  pub element-label : (sets x : List ℕ) (k : ℕ) → has (elements state sets) x ≡ true → k < length sets → list_any (λ m. nat_eq m (get_or x k 0)) (labels_of state (get_or sets k 0)) ≡ true
  element-label sets x k there l = all_in-at sets x k (element-all_in sets x there) l

  -- labels so far of free sets, which with those of a tuple make the first labels of an element
  pub record Freed (free places tuple part : List ℕ) : Type 0 where
    pub labels : List ℕ
    pub long : length labels ≡ length free
    pub inside : all_in (map (labels_of state) free) labels ≡ true
    pub picks : (more : List ℕ) → picked places (tuple ++ (labels ++ more)) ≡ part

  pub freed-start : (free places tuple part : List ℕ) → free ≡ [] → places ≡ [] → part ≡ [] → Freed free places tuple part
  freed-start free places tuple part no_free no_places no_part =
      record {
        labels = [];
        long = sym (ap length no_free);
        inside = ap (λ sets. all_in (map (labels_of state) sets) []) no_free;
        picks = λ more. ap (λ ps. picked ps (tuple ++ ([] ++ more))) no_places ∙ sym no_part;
      }

  -- one more label of the tuple
  pub freed-index : (free places tuple part : List ℕ) (place label : ℕ) → place < length tuple → get_or tuple place 0 ≡ label → Freed free places tuple part → Freed free (places ++ place ∷ []) tuple (part ++ label ∷ [])
  freed-index free places tuple part place label l at freed =
      record {
        labels = freed.labels;
        long = freed.long;
        inside = freed.inside;
        picks = λ more. map_push (λ p. get_or (tuple ++ (freed.labels ++ more)) p 0) places place ∙ ap (λ labels. labels ++ get_or (tuple ++ (freed.labels ++ more)) place 0 ∷ []) (freed.picks more) ∙ ap (λ y. part ++ y ∷ []) (get_or_append_left tuple (freed.labels ++ more) 0 place l ∙ at);
      }

  -- one more label of a free set
  pub freed-free : (free places tuple part : List ℕ) (place set label : ℕ) → place ≡ length tuple + length free → list_any (λ m. nat_eq m label) (labels_of state set) ≡ true → Freed free places tuple part → Freed (free ++ set ∷ []) (places ++ place ∷ []) tuple (part ++ label ∷ [])
  freed-free free places tuple part place set label at inside freed =
      record {
        labels = freed.labels ++ label ∷ [];
        long = length_push freed.labels label ∙ ap (λ n. n + 1) freed.long ∙ sym (length_push free set);
        inside = all_in-push free freed.labels set label freed.inside inside;
        picks = λ more. ap (λ rest. picked (places ++ place ∷ []) (tuple ++ rest)) (append_assoc freed.labels (label ∷ []) more) ∙ map_push (λ p. get_or (tuple ++ (freed.labels ++ label ∷ more)) p 0) places place ∙ ap (λ labels. labels ++ get_or (tuple ++ (freed.labels ++ label ∷ more)) place 0 ∷ []) (freed.picks (label ∷ more)) ∙ ap (λ y. part ++ y ∷ []) (ap (λ p. get_or (tuple ++ (freed.labels ++ label ∷ more)) p 0) (at ∙ ap (λ n. length tuple + n) (sym freed.long)) ∙ get_or-append-add tuple (freed.labels ++ label ∷ more) (length freed.labels) 0 ∙ ap (λ n. get_or (freed.labels ++ label ∷ more) n 0) (let e : length freed.labels ≡ length freed.labels + 0 = omega arith in e) ∙ get_or-append-add freed.labels (label ∷ more) 0 0);
      }

  -- the same of equal lists
  pub freed-as : (free free' places places' tuple part part' : List ℕ) → free' ≡ free → places' ≡ places → part' ≡ part → Freed free places tuple part → Freed free' places' tuple part'
  freed-as free free' places places' tuple part part' same_free same_places same_part freed =
      rw (same_free, same_places, same_part) freed

  -- the element is one that the tuple gives
  pub freed-end : (free places tuple part x : List ℕ) → length free ≤ 10 → part ≡ x → Freed free places tuple part → has (spread_over state free places tuple) x ≡ true
  freed-end free places tuple part x few is freed =
      let there : has (elements state free) freed.labels ≡ true = ap (λ those. has those freed.labels) (elements-few state free few) ∙ has-product (map (labels_of state) free) freed.labels ∙ freed.inside in
      let here : picked places (tuple ++ freed.labels) ≡ x = ap (λ rest. picked places (tuple ++ rest)) (sym (append-nil freed.labels)) ∙ freed.picks [] ∙ is in
      ap (has (spread_over state free places tuple)) (sym here)
      ∙ has-map (λ rest. picked places (tuple ++ rest)) (elements state free) freed.labels there

-- the members of a set of which so much is given
pub members-arity : (content : Content) (n : ℕ) → ((t : List ℕ) → has (given_in content) t ≡ true → length t ≡ n) → (t : List ℕ) → has (members_in content) t ≡ true → length t ≡ n
members-arity undeclared n given t there = absurd cc
members-arity (alias_of base) n given t there = absurd cc
members-arity (set_of members) n given t there = given t there
members-arity (parameter_of entries) n given t there = absurd cc
members-arity (variable_of type entries) n given t there = absurd cc
members-arity (equation_of entries) n given t there = absurd cc
members-arity (model_with model solver) n given t there = absurd cc
