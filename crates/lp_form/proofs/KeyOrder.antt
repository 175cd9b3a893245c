-- Laws of the order of keys.
use Rattle.gms_tuple.proofs.Ordered.{tuple_cmp-Equal}
use Rattle.std.proofs.Common.{◌≡◌, ℕ, ◌<◌, true, false, List, [], ◌∷◌, refl, ap, ◌∙◌}
use Rattle.std.specs.declared.cmp.Ordering.{Ordering}
use Rattle.std.specs.declared.cmp.Ordering.TheVariants.{Less, Equal, Greater}
use Rattle.std.specs.Ordering.{ordering_reverse, ordering_then, nat_cmp, is_eq, MatchOrdering}
use Rattle.std.specs.Cmp.{IsTotalOrder, ranks, nat_cmp_total, on_total, then_total, tied_itself}
use Rattle.std.specs.List.{All}
use Rattle.std.specs.List.Sorted.{IsStrictlySortedBy}
use Rattle.std.proofs.lemmas.List.Elements.{All-from_recursion, recursion_from_All, All-cons, All-weaker}
use Rattle.std.proofs.lemmas.Map.Keys.{sorted_head, sorted_tail}
use Rattle.gms_tuple.specs.TupleOrder.{tuple_cmp}
use Rattle.gms_tuple.specs.OrderLaws.{tuple_cmp-total}
use Rattle.lp_form.specs.declared.key.Key.{Key}
use Rattle.lp_form.specs.Keys.{key_cmp, same_key, AreOrdered}

-- the order is total
pub key_cmp-total : IsTotalOrder key_cmp
key_cmp-total = then_total (on_total (λ (k : Key). k.symbol) nat_cmp_total) (on_total (λ (k : Key). k.tuple) tuple_cmp-total)

symbols_equal : (m n : ℕ) → nat_cmp m n ≡ Equal → m ≡ n
symbols_equal m n e = by (nat_cmp m n) (ranks m n) e
  where
    by : (o : Ordering) → MatchOrdering o (m < n) (m ≡ n) (n < m) → o ≡ Equal → m ≡ n
    by Less h e = absurd (cc)
    by Equal h e = h
    by Greater h e = absurd (cc)

then-Equal_first : (r s : Ordering) → ordering_then r s ≡ Equal → r ≡ Equal
then-Equal_first Less s e = e
then-Equal_first Equal s e = refl
then-Equal_first Greater s e = e

then-Equal_second : (r s : Ordering) → ordering_then r s ≡ Equal → s ≡ Equal
then-Equal_second Less s e = absurd (cc)
then-Equal_second Equal s e = e
then-Equal_second Greater s e = absurd (cc)

pub key_cmp-Equal : (a b : Key) → key_cmp a b ≡ Equal → a ≡ b
key_cmp-Equal a b e =
    let first = symbols_equal a.symbol b.symbol (then-Equal_first (nat_cmp a.symbol b.symbol) (tuple_cmp a.tuple b.tuple) e) in
    let second = tuple_cmp-Equal a.tuple b.tuple (then-Equal_second (nat_cmp a.symbol b.symbol) (tuple_cmp a.tuple b.tuple) e) in
    λ i. record { symbol = first i; tuple = second i }

-- a key is the same as itself
pub same_key_refl : (a : Key) → same_key a a ≡ true
same_key_refl a = ap is_eq (tied_itself key_cmp-total a)

pub key_cmp-flip : (a b : Key) (o : Ordering) → key_cmp a b ≡ o → key_cmp b a ≡ ordering_reverse o
key_cmp-flip a b o e = key_cmp-total.antisymm b a ∙ ap ordering_reverse e

-- what comes before another is another
pub same_key-Less : (a b : Key) → key_cmp a b ≡ Less → same_key a b ≡ false
same_key-Less a b less = ap is_eq less

pub same_key-Greater : (a b : Key) → key_cmp a b ≡ Greater → same_key a b ≡ false
same_key-Greater a b greater = ap is_eq greater

-- what is the same key is that key
pub same_key-is : (a b : Key) → same_key a b ≡ true → a ≡ b
same_key-is a b same = key_cmp-Equal a b (by (key_cmp a b) same)
  where
    by : (o : Ordering) → is_eq o ≡ true → o ≡ Equal
    by Less e = absurd (cc)
    by Equal e = refl
    by Greater e = absurd (cc)

-- the first of keys in order comes before all others, and the others are in order
pub first-before : (k : Key) (ks : List Key) → AreOrdered (k ∷ ks) → All (λ l. key_cmp k l ≡ Less) ks
first-before k ks ordered = All-from_recursion (λ l. key_cmp k l ≡ Less) ks (sorted_head key_cmp k ks ordered)

pub rest-ordered : (k : Key) (ks : List Key) → AreOrdered (k ∷ ks) → AreOrdered ks
rest-ordered k ks ordered = sorted_tail key_cmp k ks ordered

pub ordered-cons : (k : Key) (ks : List Key) → All (λ l. key_cmp k l ≡ Less) ks → AreOrdered ks → AreOrdered (k ∷ ks)
unfolding IsStrictlySortedBy
ordered-cons k ks before ordered = (recursion_from_All (λ l. key_cmp k l ≡ Less) ks before, ordered)

pub ordered-nil : AreOrdered []
unfolding IsStrictlySortedBy
ordered-nil = tt

-- a key before the first of keys in order comes before all
pub before-all : (j k : Key) (ks : List Key) → key_cmp j k ≡ Less → AreOrdered (k ∷ ks) → All (λ l. key_cmp j l ≡ Less) (k ∷ ks)
before-all j k ks less ordered =
    All-cons (λ l. key_cmp j l ≡ Less) k ks less (All-weaker (λ l. key_cmp k l ≡ Less) (λ l. key_cmp j l ≡ Less) (λ l h. key_cmp-total.trans j k l less h) ks (first-before k ks ordered))
