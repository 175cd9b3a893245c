-- A number is in a span exactly where the amounts stay at least 0; and spans amount by amount.
use Rattle.std.proofs.Common.{◌≡◌, ◌≢◌, ◌↔◌, ℕ, ◌&&◌, Bool, true, false, cond, pos, List, [], ◌∷◌, Option, Some, None, sym, ap, ◌∙◌, subst}
use Rattle.std.specs.List.{All}
use Rattle.std.specs.declared.cmp.Ordering.{Ordering}
use Rattle.std.specs.declared.cmp.Ordering.TheVariants.{Less, Equal, Greater}
use Rattle.std.specs.Ordering.{MatchOrdering, is_lt}
use Rattle.std.proofs.lemmas.List.Elements.{All-nil, All-cons, All-head, All-tail}
use Rattle.gq_number.specs.Number.{Number, whole, ◌+ℚ◌, ◌-ℚ◌, ◌*ℚ◌, ◌/ℚ◌, neg_ℚ}
use Rattle.gq_number.specs.Order.{◌≤ℚ◌, ◌<ℚ◌, number_cmp}
use Rattle.gq_number.proofs.Order
use Rattle.gq_number.proofs.Ring.{ring_ℚ}
use Rattle.gq_number.proofs.Linear.{≤ℚ_from}
use Rattle.gq_number.proofs.Signs.{≢-zero_above, ≢-zero_below, *ℚ-≤ℚ_right, *ℚ-≤ℚ_turned, *ℚ-≤ℚ_cancel_right, *ℚ-≤ℚ_turned_back}
use Rattle.gq_number.proofs.Quotients.{/ℚ-*ℚ_self}
use Rattle.gq_number.proofs.Compares.{number_ranks}
use Rattle.lp_core.specs.Feasible.{KeepsLower, KeepsUpper}
use Rattle.lp_range.specs.Spans.{Gain, Span, IsInSpan, Stay, end_of, greater_end, lesser_end, low_by, high_by, low_with, high_with, low_end, high_end, gain_fits, gains_fit, moved_fits, moved_to, span_from, span}

-- ---- one end more

module _ (e x : Number) where
  greater_keeps : (low : Option Number) → KeepsLower (greater_end low e) x → KeepsLower low x × (e ≤ℚ x)
  greater_keeps None h = (tt, h)
  greater_keeps (Some a) h = by (number_cmp a e) (number_ranks a e) h
    where
      by : (o : Ordering) → MatchOrdering o (a <ℚ e) (a ≡ e) (e <ℚ a) → KeepsLower (cond (is_lt o) (Some e) (Some a)) x → (a ≤ℚ x) × (e ≤ℚ x)
      by Less r h = (Order.≤ℚ_trans a e x (Order.≤ℚ_from_<ℚ a e r) h, h)
      by Equal r h = (h, subst (λ u. u ≤ℚ x) r h)
      by Greater r h = (h, Order.≤ℚ_trans e a x (Order.≤ℚ_from_<ℚ e a r) h)

  keeps_greater : (low : Option Number) → KeepsLower low x → e ≤ℚ x → KeepsLower (greater_end low e) x
  keeps_greater None keeps h = h
  keeps_greater (Some a) keeps h = by (number_cmp a e)
    where
      by : (o : Ordering) → KeepsLower (cond (is_lt o) (Some e) (Some a)) x
      by Less = h
      by Equal = keeps
      by Greater = keeps

  lesser_keeps : (high : Option Number) → KeepsUpper (lesser_end high e) x → KeepsUpper high x × (x ≤ℚ e)
  lesser_keeps None h = (tt, h)
  lesser_keeps (Some a) h = by (number_cmp e a) (number_ranks e a) h
    where
      by : (o : Ordering) → MatchOrdering o (e <ℚ a) (e ≡ a) (a <ℚ e) → KeepsUpper (cond (is_lt o) (Some e) (Some a)) x → (x ≤ℚ a) × (x ≤ℚ e)
      by Less r h = (Order.≤ℚ_trans x e a h (Order.≤ℚ_from_<ℚ e a r), h)
      by Equal r h = (h, subst (λ u. x ≤ℚ u) (sym r) h)
      by Greater r h = (h, Order.≤ℚ_trans x a e h (Order.≤ℚ_from_<ℚ a e r))

  keeps_lesser : (high : Option Number) → KeepsUpper high x → x ≤ℚ e → KeepsUpper (lesser_end high e) x
  keeps_lesser None keeps h = h
  keeps_lesser (Some a) keeps h = by (number_cmp e a)
    where
      by : (o : Ordering) → KeepsUpper (cond (is_lt o) (Some e) (Some a)) x
      by Less = h
      by Equal = keeps
      by Greater = keeps

not_both : (e : Number) → whole (pos 0) <ℚ e → e <ℚ whole (pos 0) → ⊥
not_both e above below = Order.<ℚ_irrefl (whole (pos 0)) (Order.<ℚ_trans (whole (pos 0)) e (whole (pos 0)) above below)

-- what an amount asks of a move from below and from above
abbrev AsksLow : Number → Gain → Type 0
AsksLow x g = whole (pos 0) <ℚ g.each → end_of g ≤ℚ x

abbrev AsksHigh : Number → Gain → Type 0
AsksHigh x g = g.each <ℚ whole (pos 0) → x ≤ℚ end_of g

module _ (x : Number) (g : Gain) where
  low_keeps : (low : Option Number) → KeepsLower (low_with low g) x → KeepsLower low x × AsksLow x g
  low_keeps low h = by (number_cmp g.each (whole (pos 0))) (number_ranks g.each (whole (pos 0))) h
    where
      by : (o : Ordering) → MatchOrdering o (g.each <ℚ whole (pos 0)) (g.each ≡ whole (pos 0)) (whole (pos 0) <ℚ g.each) → KeepsLower (low_by o low (end_of g)) x → KeepsLower low x × AsksLow x g
      by Less r h = (h, λ above. absurd (not_both g.each above r))
      by Equal r h = (h, λ above. absurd (≢-zero_above g.each above r))
      by Greater r h = let k = greater_keeps (end_of g) x low h in (k.0, λ above. k.1)

  high_keeps : (high : Option Number) → KeepsUpper (high_with high g) x → KeepsUpper high x × AsksHigh x g
  high_keeps high h = by (number_cmp g.each (whole (pos 0))) (number_ranks g.each (whole (pos 0))) h
    where
      by : (o : Ordering) → MatchOrdering o (g.each <ℚ whole (pos 0)) (g.each ≡ whole (pos 0)) (whole (pos 0) <ℚ g.each) → KeepsUpper (high_by o high (end_of g)) x → KeepsUpper high x × AsksHigh x g
      by Less r h = let k = lesser_keeps (end_of g) x high h in (k.0, λ below. k.1)
      by Equal r h = (h, λ below. absurd (≢-zero_below g.each below r))
      by Greater r h = (h, λ below. absurd (not_both g.each r below))

  keeps_low : (low : Option Number) → KeepsLower low x → AsksLow x g → KeepsLower (low_with low g) x
  keeps_low low h asks = by (number_cmp g.each (whole (pos 0))) (number_ranks g.each (whole (pos 0)))
    where
      by : (o : Ordering) → MatchOrdering o (g.each <ℚ whole (pos 0)) (g.each ≡ whole (pos 0)) (whole (pos 0) <ℚ g.each) → KeepsLower (low_by o low (end_of g)) x
      by Less r = h
      by Equal r = h
      by Greater r = keeps_greater (end_of g) x low h (asks r)

  keeps_high : (high : Option Number) → KeepsUpper high x → AsksHigh x g → KeepsUpper (high_with high g) x
  keeps_high high h asks = by (number_cmp g.each (whole (pos 0))) (number_ranks g.each (whole (pos 0)))
    where
      by : (o : Ordering) → MatchOrdering o (g.each <ℚ whole (pos 0)) (g.each ≡ whole (pos 0)) (whole (pos 0) <ℚ g.each) → KeepsUpper (high_by o high (end_of g)) x
      by Less r = keeps_lesser (end_of g) x high h (asks r)
      by Equal r = h
      by Greater r = h

-- ---- all ends

module _ (x : Number) where
  low_end_keeps : (low : Option Number) (gains : List Gain) → KeepsLower (low_end low gains) x → KeepsLower low x × All (AsksLow x) gains
  low_end_keeps low [] h = (h, All-nil (AsksLow x))
  low_end_keeps low (g ∷ gains) h =
      let rest = low_end_keeps (low_with low g) gains h in
      let here = low_keeps x g low rest.0 in
      (here.0, All-cons (AsksLow x) g gains here.1 rest.1)

  high_end_keeps : (high : Option Number) (gains : List Gain) → KeepsUpper (high_end high gains) x → KeepsUpper high x × All (AsksHigh x) gains
  high_end_keeps high [] h = (h, All-nil (AsksHigh x))
  high_end_keeps high (g ∷ gains) h =
      let rest = high_end_keeps (high_with high g) gains h in
      let here = high_keeps x g high rest.0 in
      (here.0, All-cons (AsksHigh x) g gains here.1 rest.1)

  keeps_low_end : (low : Option Number) (gains : List Gain) → KeepsLower low x → All (AsksLow x) gains → KeepsLower (low_end low gains) x
  keeps_low_end low [] h all = h
  keeps_low_end low (g ∷ gains) h all = keeps_low_end (low_with low g) gains (keeps_low x g low h (All-head (AsksLow x) g gains all)) (All-tail (AsksLow x) g gains all)

  keeps_high_end : (high : Option Number) (gains : List Gain) → KeepsUpper high x → All (AsksHigh x) gains → KeepsUpper (high_end high gains) x
  keeps_high_end high [] h all = h
  keeps_high_end high (g ∷ gains) h all = keeps_high_end (high_with high g) gains (keeps_high x g high h (All-head (AsksHigh x) g gains all)) (All-tail (AsksHigh x) g gains all)

-- ---- an amount after a move

module _ (t a e : Number) where
  -- the end times the gain is the amount, negated
  to_zero : e ≢ whole (pos 0) → neg_ℚ (a /ℚ e) *ℚ e ≤ℚ t *ℚ e → whole (pos 0) ≤ℚ a +ℚ t *ℚ e
  to_zero some h = ≤ℚ_from h (balanced (a /ℚ e) t e ∙ ap (λ z. (z +ℚ t *ℚ e) +ℚ neg_ℚ (a /ℚ e) *ℚ e) (/ℚ-*ℚ_self a e some))
    where
      balanced : (q t e : Number) → whole (pos 0) +ℚ t *ℚ e ≡ (q *ℚ e +ℚ t *ℚ e) +ℚ neg_ℚ q *ℚ e
      balanced q t e = simp ring_ℚ

  from_zero : e ≢ whole (pos 0) → whole (pos 0) ≤ℚ a +ℚ t *ℚ e → neg_ℚ (a /ℚ e) *ℚ e ≤ℚ t *ℚ e
  from_zero some h = ≤ℚ_from h (ap (λ z. neg_ℚ (a /ℚ e) *ℚ e +ℚ (z +ℚ t *ℚ e)) (sym (/ℚ-*ℚ_self a e some)) ∙ balanced (a /ℚ e) t e)
    where
      balanced : (q t e : Number) → neg_ℚ q *ℚ e +ℚ (q *ℚ e +ℚ t *ℚ e) ≡ t *ℚ e +ℚ whole (pos 0)
      balanced q t e = simp ring_ℚ

module _ (t : Number) (g : Gain) where
  stays_at : whole (pos 0) ≤ℚ g.amount → AsksLow t g → AsksHigh t g → whole (pos 0) ≤ℚ g.amount +ℚ t *ℚ g.each
  stays_at above low high = by (number_cmp g.each (whole (pos 0))) (number_ranks g.each (whole (pos 0)))
    where
      nothing : (a t : Number) → a ≡ a +ℚ t *ℚ whole (pos 0)
      nothing a t = simp ring_ℚ

      by : (o : Ordering) → MatchOrdering o (g.each <ℚ whole (pos 0)) (g.each ≡ whole (pos 0)) (whole (pos 0) <ℚ g.each) → whole (pos 0) ≤ℚ g.amount +ℚ t *ℚ g.each
      by Less r = to_zero t g.amount g.each (≢-zero_below g.each r) (*ℚ-≤ℚ_turned t (end_of g) g.each (Order.≤ℚ_from_<ℚ g.each (whole (pos 0)) r) (high r))
      by Equal r = subst (λ u. whole (pos 0) ≤ℚ u) (nothing g.amount t ∙ ap (λ e. g.amount +ℚ t *ℚ e) (sym r)) above
      by Greater r = to_zero t g.amount g.each (≢-zero_above g.each r) (*ℚ-≤ℚ_right (end_of g) t g.each (Order.≤ℚ_from_<ℚ (whole (pos 0)) g.each r) (low r))

  asks_low : whole (pos 0) ≤ℚ g.amount +ℚ t *ℚ g.each → AsksLow t g
  asks_low stays r = *ℚ-≤ℚ_cancel_right (end_of g) t g.each r (from_zero t g.amount g.each (≢-zero_above g.each r) stays)

  asks_high : whole (pos 0) ≤ℚ g.amount +ℚ t *ℚ g.each → AsksHigh t g
  asks_high stays r = *ℚ-≤ℚ_turned_back t (end_of g) g.each r (from_zero t g.amount g.each (≢-zero_below g.each r) stays)

-- ---- a span

-- the numbers at least 0 of amounts, and those after a move
abbrev pub AreAbove : List Gain → Type 0
AreAbove gains = All (λ (g : Gain). whole (pos 0) ≤ℚ g.amount) gains

all_stay : (t : Number) (gains : List Gain) → AreAbove gains → All (AsksLow t) gains → All (AsksHigh t) gains → Stay gains t
all_stay t [] above low high = All-nil (λ (g : Gain). whole (pos 0) ≤ℚ g.amount +ℚ t *ℚ g.each)
all_stay t (g ∷ gains) above low high =
    All-cons (λ (g : Gain). whole (pos 0) ≤ℚ g.amount +ℚ t *ℚ g.each) g gains
    (stays_at t g (All-head (λ (g : Gain). whole (pos 0) ≤ℚ g.amount) g gains above) (All-head (AsksLow t) g gains low) (All-head (AsksHigh t) g gains high))
    (all_stay t gains (All-tail (λ (g : Gain). whole (pos 0) ≤ℚ g.amount) g gains above) (All-tail (AsksLow t) g gains low) (All-tail (AsksHigh t) g gains high))

all_low : (t : Number) (gains : List Gain) → Stay gains t → All (AsksLow t) gains
all_low t [] stay = All-nil (AsksLow t)
all_low t (g ∷ gains) stay =
    All-cons (AsksLow t) g gains (asks_low t g (All-head (λ (g : Gain). whole (pos 0) ≤ℚ g.amount +ℚ t *ℚ g.each) g gains stay)) (all_low t gains (All-tail (λ (g : Gain). whole (pos 0) ≤ℚ g.amount +ℚ t *ℚ g.each) g gains stay))

all_high : (t : Number) (gains : List Gain) → Stay gains t → All (AsksHigh t) gains
all_high t [] stay = All-nil (AsksHigh t)
all_high t (g ∷ gains) stay =
    All-cons (AsksHigh t) g gains (asks_high t g (All-head (λ (g : Gain). whole (pos 0) ≤ℚ g.amount +ℚ t *ℚ g.each) g gains stay)) (all_high t gains (All-tail (λ (g : Gain). whole (pos 0) ≤ℚ g.amount +ℚ t *ℚ g.each) g gains stay))

-- an end that is moved
module _ (given x : Number) where
  low_moved : (e : Option Number) → KeepsLower (moved_to given e) x ↔ KeepsLower e (x -ℚ given)
  low_moved None = (λ h. h, λ h. h)
  low_moved (Some e) = (λ h. ≤ℚ_from h (there e given x), λ h. ≤ℚ_from h (back e given x))
    where
      there : (e given x : Number) → e +ℚ x ≡ (x -ℚ given) +ℚ (given +ℚ e)
      there e given x = simp ring_ℚ

      back : (e given x : Number) → (given +ℚ e) +ℚ (x -ℚ given) ≡ x +ℚ e
      back e given x = simp ring_ℚ

  high_moved : (e : Option Number) → KeepsUpper (moved_to given e) x ↔ KeepsUpper e (x -ℚ given)
  high_moved None = (λ h. h, λ h. h)
  high_moved (Some e) = (λ h. ≤ℚ_from h (there e given x), λ h. ≤ℚ_from h (back e given x))
    where
      there : (e given x : Number) → (x -ℚ given) +ℚ (given +ℚ e) ≡ e +ℚ x
      there e given x = simp ring_ℚ

      back : (e given x : Number) → x +ℚ e ≡ (given +ℚ e) +ℚ (x -ℚ given)
      back e given x = simp ring_ℚ

-- a span that is there
some_made : (b : Bool) (made s : Span) → cond b (Some made) None ≡ Some s → made ≡ s
some_made true made s e = cc
some_made false made s e = absurd (cc)

module _ (limit : ℕ) (given x : Number) (gains : List Gain) (s : Span) (above : AreAbove gains) (is : span limit given gains ≡ Some s) where
  abbrev made : Span
  made = record { low = moved_to given (low_end None gains); high = moved_to given (high_end None gains) }

  made_is : made ≡ s
  made_is = some_made (gains_fit limit gains && moved_fits limit given (low_end None gains) && moved_fits limit given (high_end None gains)) made s is

  pub within_stays : IsInSpan s x → Stay gains (x -ℚ given)
  within_stays within =
      let inside = subst (λ (k : Span). IsInSpan k x) (sym made_is) within in
      let low = low_end_keeps (x -ℚ given) None gains ((low_moved given x (low_end None gains)).0 inside.0) in
      let high = high_end_keeps (x -ℚ given) None gains ((high_moved given x (high_end None gains)).0 inside.1) in
      all_stay (x -ℚ given) gains above low.1 high.1

  pub stays_within : Stay gains (x -ℚ given) → IsInSpan s x
  stays_within stay =
      subst (λ (k : Span). IsInSpan k x) made_is (
        (low_moved given x (low_end None gains)).1 (keeps_low_end (x -ℚ given) None gains tt (all_low (x -ℚ given) gains stay)),
        (high_moved given x (high_end None gains)).1 (keeps_high_end (x -ℚ given) None gains tt (all_high (x -ℚ given) gains stay)),
      )

-- ---- amount by amount

module _ (limit : ℕ) (x : Number) (low high : Option Number) (g : Gain) (gains : List Gain) where
  pub span_goes : gain_fits limit g ≡ true → span_from limit x low high (g ∷ gains) ≡ span_from limit x (low_with low g) (high_with high g) gains
  span_goes fit =
      ap (λ b. cond (b && gains_fit limit gains && moved_fits limit x (low_end (low_with low g) gains) && moved_fits limit x (high_end (high_with high g) gains)) (Some (record { low = moved_to x (low_end (low_with low g) gains); high = moved_to x (high_end (high_with high g) gains) })) None) fit

  pub span_stops : gain_fits limit g ≡ false → span_from limit x low high (g ∷ gains) ≡ None
  span_stops misfit =
      ap (λ b. cond (b && gains_fit limit gains && moved_fits limit x (low_end (low_with low g) gains) && moved_fits limit x (high_end (high_with high g) gains)) (Some (record { low = moved_to x (low_end (low_with low g) gains); high = moved_to x (high_end (high_with high g) gains) })) None) misfit

-- with no amounts left, the sums alone
module _ (limit : ℕ) (x : Number) (low high : Option Number) where
  pub span_ends : moved_fits limit x low ≡ true → moved_fits limit x high ≡ true → span_from limit x low high [] ≡ Some (record { low = moved_to x low; high = moved_to x high })
  span_ends first second = ap (λ b. cond (b && moved_fits limit x high) (Some (record { low = moved_to x low; high = moved_to x high })) None) first ∙ ap (λ b. cond b (Some (record { low = moved_to x low; high = moved_to x high })) None) second

  pub span_low_stops : moved_fits limit x low ≡ false → span_from limit x low high [] ≡ None
  span_low_stops first = ap (λ b. cond (b && moved_fits limit x high) (Some (record { low = moved_to x low; high = moved_to x high })) None) first

  pub span_high_stops : moved_fits limit x low ≡ true → moved_fits limit x high ≡ false → span_from limit x low high [] ≡ None
  span_high_stops first second =
      ap (λ b. cond (b && moved_fits limit x high) (Some (record { low = moved_to x low; high = moved_to x high })) None) first ∙ ap (λ b. cond b (Some (record { low = moved_to x low; high = moved_to x high })) None) second
