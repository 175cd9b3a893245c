-- Where tokens cease to begin a nonterminal, a predictive reader finds what the laws of the grammar
-- state.
use Rattle.std.proofs.Common.{◌≡◌, List, [], ◌∷◌, ◌++◌, refl, sym, ap, ◌∙◌, subst, append_assoc}
use Rattle.gms_grammar.specs.Grammar.{one, the, many, yield, IsTree, Derives, Stops}
use Rattle.gms_grammar.specs.Reading.{Found, read, stuck, Reads, Takes, taken, refused, entered, entered_stuck, both, first_stuck, second_stuck, in_left, in_left_stuck, in_right, in_right_stuck, in_neither, left_out, there, there_stuck, no_more, again, again_stuck, later_stuck, takes_one, takes_the, takes_first, takes_second, takes_left, takes_right, takes_opt, takes_many, takes_later}
use Rattle.gms_grammar.specs.GamsGrammar.{Nonterminal, productions}
use Rattle.gms_grammar.specs.GamsLookAhead.{look_ahead}
use Rattle.gms_grammar.proofs.Basics.{after_same}
use Rattle.gms_grammar.proofs.Orders.{some_there}
use Rattle.gms_grammar.proofs.Sound.{sound}
use Rattle.gms_grammar.proofs.Stopping.{stops_once}
use Rattle.gms_grammar.proofs.Language.{gams_unique, gams_read_tree, gams_read_stops, gams_stuck_stops, gams_stuck_none, gams_finds}
use Rattle.gms_expressions.specs.ExpressionTrees.{no_token}
use Rattle.gms_parse.specs.ReadStates.{KindedToken}
use Rattle.gms_parse.specs.InnerReadings.{Derivation, GamsPart}

-- A token of two appended lists is in the first or in the second.
data Split {T : Type 0} (a b u : List T) (x : T) (v : List T) : Type 0 where
  inside : (w : List T) → a ≡ u ++ (x ∷ w) → v ≡ w ++ b → Split a b u x v
  beyond : (w : List T) → u ≡ a ++ w → b ≡ w ++ (x ∷ v) → Split a b u x v

split : {T : Type 0} (a b u : List T) (x : T) (v : List T) → a ++ b ≡ u ++ (x ∷ v) → Split a b u x v
split [] b u x v e = beyond u refl e
split (y ∷ a) b [] x v e =
    let p : y ∷ a ≡ x ∷ a = cc in
    let q : v ≡ a ++ b = cc in
    inside a p q
split (y ∷ a) b (z ∷ u) x v e = go (split a b u x v cc)
  where
    same : y ≡ z
    same = cc

    go : Split a b u x v → Split (y ∷ a) b (z ∷ u) x v
    go (inside w h k) = let p : y ∷ a ≡ z ∷ (u ++ (x ∷ w)) = cc in inside w p k
    go (beyond w h k) = let p : z ∷ u ≡ y ∷ (a ++ w) = cc in beyond w p k

-- the tokens that were gone over, and the rest
abbrev prefix_of : Found KindedToken → List KindedToken
prefix_of (read tree rest) = yield tree
prefix_of (stuck prefix rest) = prefix

abbrev rest_of : Found KindedToken → List KindedToken
rest_of (read tree rest) = rest
rest_of (stuck prefix rest) = rest

-- two parts after another
joined : {p q r : GamsPart} {ts between rest : List KindedToken} (a : Derivation) (c : List KindedToken) →
    ((prefix following : List KindedToken) → Takes productions look_ahead p ts prefix following → Takes productions look_ahead r ts prefix following) →
    ((prefix following : List KindedToken) → Takes productions look_ahead q between prefix following → Takes productions look_ahead r ts (yield a ++ prefix) following) →
    ((u : List KindedToken) (x : KindedToken) (v : List KindedToken) → yield a ≡ u ++ (x ∷ v) → Takes productions look_ahead p ts (u ++ x ∷ []) (v ++ between)) →
    ((u : List KindedToken) (x : KindedToken) (v : List KindedToken) → c ≡ u ++ (x ∷ v) → Takes productions look_ahead q between (u ++ x ∷ []) (v ++ rest)) →
    between ≡ c ++ rest → (u : List KindedToken) (x : KindedToken) (v : List KindedToken) → yield a ++ c ≡ u ++ (x ∷ v) → Takes productions look_ahead r ts (u ++ x ∷ []) (v ++ rest)
joined {p} {q} {r} {ts} {between} {rest} a c first second f g is u x v e = elim (split (yield a) c u x v e) [
  | inside w h k ↦ subst (λ z. Takes productions look_ahead r ts (u ++ x ∷ []) z) (ap (λ y. w ++ y) is ∙ sym (append_assoc w c rest) ∙ ap (λ y. y ++ rest) (sym k)) (first _ _ (f u x w h))
  | beyond w h k ↦ subst (λ z. Takes productions look_ahead r ts z (v ++ rest)) (sym (append_assoc (yield a) w (x ∷ [])) ∙ ap (λ y. y ++ x ∷ []) (sym h)) (second _ _ (g w x v k))
]

-- each token that was read ends a prefix of those read
pub takes_prefix : {p : GamsPart} {ts : List KindedToken} {found : Found KindedToken} → Reads productions look_ahead p ts found → (u : List KindedToken) (x : KindedToken) (v : List KindedToken) → prefix_of found ≡ u ++ (x ∷ v) → Takes productions look_ahead p ts (u ++ x ∷ []) (v ++ rest_of found)
takes_prefix (taken {test = test} {token = token} {rest = rest} h) [] x v e =
    let same : token ≡ x = cc in
    let none : [] ≡ v = cc in
    subst (λ (z : KindedToken). Takes productions look_ahead (one test) (token ∷ rest) (z ∷ []) (v ++ rest)) same (subst (λ (w : List KindedToken). Takes productions look_ahead (one test) (token ∷ rest) (token ∷ []) (w ++ rest)) none (takes_one h))
takes_prefix (taken {token = token} h) (y ∷ u) x v e =
    let less : [] ≡ u ++ (x ∷ v) = cc in
    absurd (some_there u x v less)
takes_prefix (refused h) u x v e = absurd (some_there u x v e)
takes_prefix (entered r) u x v e = takes_the (takes_prefix r u x v e)
takes_prefix (entered_stuck r) u x v e = takes_the (takes_prefix r u x v e)
takes_prefix (both {p = p} {q = q} {a = a} {b = b} r s) u x v e = joined {p = p} {q = q} a (yield b) (λ prefix following t. takes_first t) (λ prefix following t. takes_second r t) (takes_prefix r) (takes_prefix s) (sound productions look_ahead s).1 u x v e
takes_prefix (first_stuck r) u x v e = takes_first (takes_prefix r u x v e)
takes_prefix (second_stuck {p = p} {q = q} {prefix = prefix} {a = a} r s) u x v e = joined {p = p} {q = q} a prefix (λ f following t. takes_first t) (λ f following t. takes_second r t) (takes_prefix r) (takes_prefix s) (sound productions look_ahead s) u x v e
takes_prefix (in_left h r) u x v e = takes_left (takes_prefix r u x v e)
takes_prefix (in_left_stuck h r) u x v e = takes_left (takes_prefix r u x v e)
takes_prefix (in_right h k r) u x v e = takes_right (takes_prefix r u x v e)
takes_prefix (in_right_stuck h k r) u x v e = takes_right (takes_prefix r u x v e)
takes_prefix (in_neither h k) u x v e = absurd (some_there u x v e)
takes_prefix (left_out h) u x v e = absurd (some_there u x v e)
takes_prefix (there h r) u x v e = takes_opt (takes_prefix r u x v e)
takes_prefix (there_stuck h r) u x v e = takes_opt (takes_prefix r u x v e)
takes_prefix (no_more h) u x v e = absurd (some_there u x v e)
takes_prefix (again {p = p} {a = a} {b = b} h r s) u x v e = joined {p = p} {q = many p} a (yield b) (λ prefix following t. takes_many t) (λ prefix following t. takes_later r t) (takes_prefix r) (takes_prefix s) (sound productions look_ahead s).1 u x v e
takes_prefix (again_stuck h r) u x v e = takes_many (takes_prefix r u x v e)
takes_prefix (later_stuck {p = p} {prefix = prefix} {a = a} h r s) u x v e = joined {p = p} {q = many p} a prefix (λ f following t. takes_many t) (λ f following t. takes_later r t) (takes_prefix r) (takes_prefix s) (sound productions look_ahead s) u x v e

-- where tokens stop, the rest is the same
same_rest : (n : Nonterminal) (ts prefix rest other following : List KindedToken) → Stops productions (the n) ts prefix rest → Stops productions (the n) ts other following → (prefix ≡ other) × (rest ≡ following)
same_rest n ts prefix rest other following s t =
    let e = stops_once productions (the n) ts prefix rest other following s t in
    (e, after_same prefix rest following (sym s.parts ∙ t.parts ∙ ap (λ w. w ++ following) (sym e)))

-- a reader finds the tree of the longest part
pub reads_of : (n : Nonterminal) (ts rest : List KindedToken) (tree : Derivation) → IsTree productions (the n) tree → Stops productions (the n) ts (yield tree) rest → Reads productions look_ahead (the n) ts (read tree rest)
reads_of n ts rest tree k s = let f = gams_finds n ts in go f.0 f.1
  where
    go : (found : Found KindedToken) → Reads productions look_ahead (the n) ts found → Reads productions look_ahead (the n) ts (read tree rest)
    go (read other following) r =
        let e = same_rest n ts (yield other) following (yield tree) rest (gams_read_stops no_token n ts following other r) s in
        subst (λ (x : Derivation). Reads productions look_ahead (the n) ts (read x rest)) (gams_unique n other tree (gams_read_tree n ts following other r) k e.0) (subst (λ (x : List KindedToken). Reads productions look_ahead (the n) ts (read other x)) e.1 r)
    go (stuck prefix following) r =
        let e = same_rest n ts prefix following (yield tree) rest (gams_stuck_stops no_token n ts prefix following r) s in
        absurd (gams_stuck_none no_token n ts prefix following r (record { tree = tree; is_tree = k; yields = sym e.0 }))

-- it is stuck where they are no part
pub stuck_of : (n : Nonterminal) (ts prefix rest : List KindedToken) → Stops productions (the n) ts prefix rest → (Derives productions (the n) prefix → ⊥) → Reads productions look_ahead (the n) ts (stuck prefix rest)
stuck_of n ts prefix rest s none_such = let f = gams_finds n ts in go f.0 f.1
  where
    go : (found : Found KindedToken) → Reads productions look_ahead (the n) ts found → Reads productions look_ahead (the n) ts (stuck prefix rest)
    go (read other following) r =
        let e = same_rest n ts (yield other) following prefix rest (gams_read_stops no_token n ts following other r) s in
        absurd (none_such (record { tree = other; is_tree = gams_read_tree n ts following other r; yields = e.0 }))
    go (stuck other following) r =
        let e = same_rest n ts other following prefix rest (gams_stuck_stops no_token n ts other following r) s in
        subst (λ (x : List KindedToken). Reads productions look_ahead (the n) ts (stuck x rest)) e.0 (subst (λ (x : List KindedToken). Reads productions look_ahead (the n) ts (stuck other x)) e.1 r)

-- it goes over each token up to there
pub takes_of : (n : Nonterminal) (ts prefix rest : List KindedToken) → Stops productions (the n) ts prefix rest → (u : List KindedToken) (x : KindedToken) (v : List KindedToken) → prefix ≡ u ++ (x ∷ v) → Takes productions look_ahead (the n) ts (u ++ x ∷ []) (v ++ rest)
takes_of n ts prefix rest s u x v e = let f = gams_finds n ts in go f.0 f.1
  where
    go : (found : Found KindedToken) → Reads productions look_ahead (the n) ts found → Takes productions look_ahead (the n) ts (u ++ x ∷ []) (v ++ rest)
    go (read other following) r =
        let k = same_rest n ts (yield other) following prefix rest (gams_read_stops no_token n ts following other r) s in
        subst (λ (z : List KindedToken). Takes productions look_ahead (the n) ts (u ++ x ∷ []) (v ++ z)) k.1 (takes_prefix r u x v (k.0 ∙ e))
    go (stuck other following) r =
        let k = same_rest n ts other following prefix rest (gams_stuck_stops no_token n ts other following r) s in
        subst (λ (z : List KindedToken). Takes productions look_ahead (the n) ts (u ++ x ∷ []) (v ++ z)) k.1 (takes_prefix r u x v (k.0 ∙ e))
