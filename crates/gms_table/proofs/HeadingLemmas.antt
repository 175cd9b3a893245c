-- The headings that a number meets are adjacent.
use Rattle.std.proofs.Common.{◌≡◌, ℕ, zero, suc, ◌-◌, ◌<◌, ◌≤◌, true, false, nat_le, List, [], ◌∷◌, ◌++◌, length, get_or, drop, refl, sym, ap, ◌∙◌, subst, add-one, add-zero, arith}
use Rattle.std.proofs.lemmas.Bool.Decides.{nat_tests}
use Rattle.std.proofs.lemmas.List.{length-drop, get_or-drop}
use Rattle.std.proofs.lemmas.List.Sorted.{IsPartitionedBy-leb, IsNonDecreasingBy-from_all_adjacent}
use Rattle.std.specs.List.Sorted.{IsPartitionedBy, IsPartitionPoint}
use Rattle.gms_table.specs.declared.heading.Heading.{Heading}
use Rattle.gms_table.specs.Words.{Word}
use Rattle.gms_table.specs.InnerShown.{AreSpacedFrom, AreHeadings, IsHeading, begin_before}
use Rattle.gms_table.specs.TableEntries.{meet, met}
use Rattle.gms_table.specs.InnerProgress.{AreLeft}
use Rattle.gms_table.proofs.LabelLemmas.{Stay, AreNumbers-stay}

-- headings stay those of their words while labels keep their numbers
pub AreHeadings-stay : (before after : List (List ℕ)) → Stay before after → (names : List Word) (headings : List Heading) → AreHeadings before names headings → AreHeadings after names headings
AreHeadings-stay before after stay [] headings are = are
AreHeadings-stay before after stay (name ∷ names) [] are = are
AreHeadings-stay before after stay (name ∷ names) (heading ∷ headings) are = (
  record { column = are.0.column; end = are.0.end; numbers = AreNumbers-stay before after stay heading.labels.items _ are.0.numbers },
  AreHeadings-stay before after stay names headings are.1,
)

-- one heading more
pub AreHeadings-push : (table : List (List ℕ)) (names : List Word) (headings : List Heading) (name : Word) (heading : Heading) → AreHeadings table names headings → IsHeading table name heading → AreHeadings table (names ++ name ∷ []) (headings ++ heading ∷ [])
AreHeadings-push table [] [] name heading are is = (is, refl)
AreHeadings-push table [] (h ∷ headings) name heading are is = absurd (cc)
AreHeadings-push table (n ∷ names) [] name heading are is = absurd are
AreHeadings-push table (n ∷ names) (h ∷ headings) name heading are is = (are.0, AreHeadings-push table names headings name heading are.1 is)

-- a heading that ends before a number begins is not met
meet-before : (number heading : Word) → heading.end ≤ number.at.column → meet number heading ≡ false
meet-before number heading h = grind (arith, nat_tests)

-- nor one that begins where the number ends, or later
meet-following : (number heading : Word) → number.end ≤ heading.at.column → meet number heading ≡ false
meet-following number heading h = grind (arith, nat_tests)

meet-both : (number heading : Word) → number.at.column < heading.end → heading.at.column < number.end → meet number heading ≡ true
meet-both number heading h k = grind (arith, nat_tests)

-- headings after the number are not met
met-following : (column : ℕ) (names : List Word) (number : Word) → AreSpacedFrom column names → number.end ≤ column → met names number ≡ []
met-following column [] number spaced h = refl
met-following column (name ∷ names) number spaced h =
    rw (meet-following number name (omega (arith, spaced.0))) (met-following name.end names number spaced.2 (omega (arith, spaced.0, spaced.1)))

-- Headings without those that end before a number begins, and their words.
pub record Skips (table : List (List ℕ)) (names : List Word) (headings : List Heading) (number : Word) (i : ℕ) : Type 0 where
  pub column : ℕ
  pub rest : List Word
  pub spaced : AreSpacedFrom column rest
  pub are : AreHeadings table rest (drop i headings)
  pub met_are : met names number ≡ met rest number

pub skips : (table : List (List ℕ)) (column : ℕ) (names : List Word) (headings : List Heading) (number : Word) (i : ℕ) → AreSpacedFrom column names → AreHeadings table names headings → ((k : ℕ) (d : Heading) → k < i → k < length headings → (get_or headings k d).end ≤ number.at.column) → Skips table names headings number i
skips table column names headings number zero spaced are before = record { column = column; rest = names; spaced = spaced; are = are; met_are = refl }
skips table column [] [] number (suc i) spaced are before = record { column = column; rest = []; spaced = spaced; are = refl; met_are = refl }
skips table column [] (h ∷ headings) number (suc i) spaced are before = absurd (cc)
skips table column (name ∷ names) [] number (suc i) spaced are before = absurd are
skips table column (name ∷ names) (h ∷ headings) number (suc i) spaced are before =
    let others = skips table name.end names headings number i spaced.2 are.1 (λ k d below within. before (suc k) d (omega arith) (omega arith)) in
    let first : name.end ≤ number.at.column = omega (arith, are.0.end, before 0 h (omega arith) (omega arith)) in
    record { column = others.column; rest = others.rest; spaced = others.spaced; are = others.are; met_are = rw (meet-before number name first) others.met_are }

-- no heading is left
pub finds_none : (table : List (List ℕ)) (rest : List Word) (number : Word) → AreHeadings table rest [] → met rest number ≡ []
finds_none table [] number are = refl
finds_none table (name ∷ rest) number are = absurd are

-- the first remaining heading comes after the number
pub finds_after : (table : List (List ℕ)) (column : ℕ) (rest : List Word) (number : Word) (heading : Heading) (headings : List Heading) → AreSpacedFrom column rest → AreHeadings table rest (heading ∷ headings) → number.end ≤ heading.column → met rest number ≡ []
finds_after table column [] number heading headings spaced are h = absurd (cc)
finds_after table column (name ∷ rest) number heading headings spaced are h =
    rw (meet-following number name (omega (arith, are.0.column))) (met-following name.end rest number spaced.2 (omega (arith, are.0.column, spaced.1)))

-- A number meets this heading and no other.
pub record MeetsOne (table : List (List ℕ)) (rest : List Word) (number : Word) (heading : Heading) : Type 0 where
  pub found : Word
  pub one : met rest number ≡ found ∷ []
  pub is : IsHeading table found heading

-- the first remaining heading begins before the number ends, and no other does
pub finds_one : (table : List (List ℕ)) (column : ℕ) (rest : List Word) (number : Word) (heading : Heading) (headings : List Heading) → AreSpacedFrom column rest → AreHeadings table rest (heading ∷ headings) → number.at.column < heading.end → heading.column < number.end → ((second : Heading) (others : List Heading) → headings ≡ second ∷ others → number.end ≤ second.column) → MeetsOne table rest number heading
finds_one table column [] number heading headings spaced are h k last = absurd (cc)
finds_one table column (name ∷ []) number heading headings spaced are h k last = record {
  found = name;
  one = rw (meet-both number name (omega (arith, are.0.end)) (omega (arith, are.0.column))) refl;
  is = are.0;
}
finds_one table column (name ∷ next ∷ rest) number heading [] spaced are h k last = absurd are.1
finds_one table column (name ∷ next ∷ rest) number heading (second ∷ headings) spaced are h k last =
    let following : met (next ∷ rest) number ≡ [] = finds_after table name.end (next ∷ rest) number second headings spaced.2 are.1 (last second headings refl) in
    record {
      found = name;
      one = rw (meet-both number name (omega (arith, are.0.end)) (omega (arith, are.0.column))) (ap (λ ns. name ∷ ns) following);
      is = are.0;
    }

-- the second remaining heading begins before the number ends
pub finds_two : (table : List (List ℕ)) (column : ℕ) (rest : List Word) (number : Word) (heading second : Heading) (headings : List Heading) → AreSpacedFrom column rest → AreHeadings table rest (heading ∷ second ∷ headings) → number.at.column < heading.end → second.column < number.end → 1 < length (met rest number)
finds_two table column [] number heading second headings spaced are h k = absurd (cc)
finds_two table column (name ∷ []) number heading second headings spaced are h k = let e : second ∷ headings ≡ [] = are.1 in absurd (cc)
finds_two table column (name ∷ next ∷ rest) number heading second headings spaced are h k =
    rw (meet-both number name (omega (arith, are.0.end)) (omega (arith, are.1.0.column, spaced.1, spaced.2.0)))
    (rw (meet-both number next (omega (arith, are.0.end, spaced.2.0, spaced.2.1)) (omega (arith, are.1.0.column))) (omega arith))

-- ---- headings that end after a column

ends_rise : (table : List (List ℕ)) (column : ℕ) (names : List Word) (headings : List Heading) → AreSpacedFrom column names → AreHeadings table names headings → (k : ℕ) (d : Heading) → suc k < length headings → (get_or headings k d).end ≤ (get_or headings (suc k) d).end
ends_rise table column names [] spaced are k d l = absurd (omega arith)
ends_rise table column names (h ∷ []) spaced are k d l = absurd (omega arith)
ends_rise table column [] (h ∷ g ∷ headings) spaced are k d l = absurd (cc)
ends_rise table column (n ∷ []) (h ∷ g ∷ headings) spaced are k d l = let e : g ∷ headings ≡ [] = are.1 in absurd (cc)
ends_rise table column (n ∷ m ∷ names) (h ∷ g ∷ headings) spaced are zero d l = omega (arith, are.0.end, are.1.0.end, spaced.2.0, spaced.2.1)
ends_rise table column (n ∷ m ∷ names) (h ∷ g ∷ headings) spaced are (suc k) d l = ends_rise table n.end (m ∷ names) (g ∷ headings) spaced.2 are.1 k d (omega arith)

pub ends_partitioned : (table : List (List ℕ)) (column : ℕ) (names : List Word) (headings : List Heading) (following : ℕ) → AreSpacedFrom column names → AreHeadings table names headings → IsPartitionedBy (λ (h : Heading). nat_le h.end following) headings
ends_partitioned table column names headings following spaced are =
    IsPartitionedBy-leb (λ (h : Heading). h.end) headings following (IsNonDecreasingBy-from_all_adjacent (λ (h : Heading). h.end) headings (λ k d l. rw add-one (ends_rise table column names headings spaced are k d (omega arith))))

-- the headings from the first that ends after the number's column
pub left_over : (table : List (List ℕ)) (names : List Word) (headings : List Heading) (number : Word) (i : ℕ) (left : List Heading) → AreSpacedFrom 0 names → AreHeadings table names headings → IsPartitionPoint (λ (h : Heading). nat_le h.end number.at.column ≡ true) (λ (h : Heading). nat_le h.end number.at.column ≡ false) headings i → left ≡ drop i headings → AreLeft table names number left
left_over table names headings number i left spaced are point is =
    let skipped = skips table 0 names headings number i spaced are (λ k d below within. let h = point.0 k d (omega arith) below in grind (arith, nat_tests)) in
    record {
      column = skipped.column;
      rest = skipped.rest;
      spaced = skipped.spaced;
      are = subst (AreHeadings table skipped.rest) (sym is) skipped.are;
      met_are = skipped.met_are;
      following = λ heading others e. first_after heading others (sym is ∙ e);
    }
  where
    first_after : (heading : Heading) (others : List Heading) → drop i headings ≡ heading ∷ others → number.at.column < heading.end
    first_after heading others e =
        let long : 0 < length headings - i = omega (arith, length-drop i headings, ap length e) in
        let here : heading ≡ get_or headings i heading = sym (ap (λ (hs : List Heading). get_or hs 0 heading) e) ∙ get_or-drop i headings 0 heading ∙ ap (λ k. get_or headings k heading) (add-zero i) in
        let h = point.1 i heading (omega arith) (omega arith) in
        let ends : nat_le heading.end number.at.column ≡ false = ap (λ (x : Heading). nat_le x.end number.at.column) here ∙ h in
        grind (arith, nat_tests)

-- ---- the heading of a number

pub met_none : (table : List (List ℕ)) (names : List Word) (number : Word) (left : List Heading) → AreLeft table names number left → left ≡ [] → met names number ≡ []
met_none table names number left are none = are.met_are ∙ finds_none table are.rest number (subst (AreHeadings table are.rest) none are.are)

pub met_after : (table : List (List ℕ)) (names : List Word) (number : Word) (left : List Heading) (heading : Heading) (others : List Heading) → AreLeft table names number left → left ≡ heading ∷ others → number.end ≤ heading.column → met names number ≡ []
met_after table names number left heading others are is h =
    are.met_are ∙ finds_after table are.column are.rest number heading others are.spaced (subst (AreHeadings table are.rest) is are.are) h

pub met_two : (table : List (List ℕ)) (names : List Word) (number : Word) (left : List Heading) (heading : Heading) (others : List Heading) → AreLeft table names number left → left ≡ heading ∷ others → begin_before others number.end ≡ true → 1 < length (met names number)
met_two table names number left heading [] are is h = absurd (cc)
met_two table names number left heading (second ∷ others) are is h =
    let before : second.column < number.end = grind (arith, nat_tests) in
    subst (λ (ws : List Word). 1 < length ws) (sym are.met_are) (finds_two table are.column are.rest number heading second others are.spaced (subst (AreHeadings table are.rest) is are.are) (are.following heading (second ∷ others) is) before)

pub met_one : (table : List (List ℕ)) (names : List Word) (number : Word) (left : List Heading) (heading : Heading) (others : List Heading) → AreLeft table names number left → left ≡ heading ∷ others → heading.column < number.end → begin_before others number.end ≡ false → MeetsOne table names number heading
met_one table names number left heading others are is h last =
    let one = finds_one table are.column are.rest number heading others are.spaced (subst (AreHeadings table are.rest) is are.are) (are.following heading others is) h (λ second more e. second_after second more (subst (λ (hs : List Heading). begin_before hs number.end ≡ false) e last)) in
    record { found = one.found; one = are.met_are ∙ one.one; is = one.is }
  where
    second_after : (second : Heading) (more : List Heading) → begin_before (second ∷ more) number.end ≡ false → number.end ≤ second.column
    second_after second more h = grind (arith, nat_tests)
