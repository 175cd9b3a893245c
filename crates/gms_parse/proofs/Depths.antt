-- Within expressions each text is an index in parentheses; and parentheses close.
use Rattle.std.proofs.Common.{◌≡◌, ℕ, ◌+◌, ◌-◌, ◌<◌, ◌≤◌, Bool, true, false, not, List, [], ◌∷◌, ◌++◌, cond, refl, sym, ap, ◌∙◌, subst, arith}
use Rattle.std.specs.Bool.{⊤}
use Rattle.gms_grammar.specs.declared.terminal.Terminal.{Terminal}
use Rattle.gms_grammar.specs.declared.terminal.Terminal.TheVariants.{Text, LeftParen, RightParen}
use Rattle.gms_grammar.specs.Grammar.{one, the, ◌·◌, ◌∣◌, opt, many, leaf, pair, left, right, none, some, more, node, yield, IsTree}
use Rattle.gms_grammar.specs.Terminals.{is_terminal_among}
use Rattle.gms_grammar.specs.GamsGrammar.{Nonterminal, Expression, Conjunction, Negation, Comparison, Sum, Product, PowerTerm, Guarded, Condition, Primary, Target, Attribute, IndexList, Index, Lag, LagAmount, Call, ExpressionList, Fold, Control, NameList, productions, token, bracketed}
use Rattle.gms_expressions.proofs.TokenKinds.{implies, also}
use Rattle.gms_expressions.specs.Outcomes.{open_after}
use Rattle.gms_parse.specs.ReadStates.{KindedToken}
use Rattle.gms_parse.specs.InnerReadings.{Derivation, GamsPart}
use Rattle.gms_parse.proofs.TokenKinds.{same_kind}

-- how many parentheses are open after tokens
abbrev pub depth_after : ℕ → List KindedToken → ℕ
depth_after n [] = n
depth_after n (t ∷ ts) = depth_after (open_after n t.0) ts

-- with n parentheses open before tokens, each text among them is inside more than `least`
abbrev pub TextsAbove : ℕ → ℕ → List KindedToken → Type 0
TextsAbove least n [] = ⊤
TextsAbove least n (t ∷ ts) = (t.0 ≡ Text → least < n) × TextsAbove least (open_after n t.0) ts

pub depth_append : (n : ℕ) (u v : List KindedToken) → depth_after n (u ++ v) ≡ depth_after (depth_after n u) v
depth_append n [] v = refl
depth_append n (t ∷ u) v = depth_append (open_after n t.0) u v

pub above_append : (least n : ℕ) (u v : List KindedToken) → TextsAbove least n u → TextsAbove least (depth_after n u) v → TextsAbove least n (u ++ v)
above_append least n [] v h k = k
above_append least n (t ∷ u) v h k = (h.0, above_append least (open_after n t.0) u v h.1 k)

pub above_prefix : (least n : ℕ) (u v : List KindedToken) → TextsAbove least n (u ++ v) → TextsAbove least n u
above_prefix least n [] v h = tt
above_prefix least n (t ∷ u) v h = (h.0, above_prefix least (open_after n t.0) u v h.1)

-- a token that opens and closes nothing, and is no text
abbrev pub is_level : Terminal → Bool
is_level kind = not (is_terminal_among (LeftParen ∷ RightParen ∷ Text ∷ []) kind)

-- the nonterminals of expressions whose texts are inside their parentheses
abbrev pub is_deep : Nonterminal → Bool
is_deep Expression = true
is_deep Conjunction = true
is_deep Negation = true
is_deep Comparison = true
is_deep Sum = true
is_deep Product = true
is_deep PowerTerm = true
is_deep Guarded = true
is_deep Condition = true
is_deep Primary = true
is_deep Target = true
is_deep Attribute = true
is_deep Lag = true
is_deep LagAmount = true
is_deep Call = true
is_deep ExpressionList = true
is_deep Fold = true
is_deep Control = true
is_deep NameList = true
is_deep _ = false

-- those of indices, which are inside parentheses
abbrev pub is_shallow : Nonterminal → Bool
is_shallow IndexList = true
is_shallow Index = true
is_shallow _ = false

-- a part of an expression, or of one inside parentheses, where texts may occur
pub data Fits : Bool → GamsPart → Type 0 where
  fits_one : {b : Bool} {test : Terminal → Bool} → implies test is_level ≡ true → Fits b (one test)
  fits_text : Fits true (token Text)
  fits_the : {b : Bool} {n : Nonterminal} → is_deep n ≡ true → Fits b (the n)
  fits_index : {n : Nonterminal} → is_shallow n ≡ true → Fits true (the n)
  fits_both : {b : Bool} {p q : GamsPart} → Fits b p → Fits b q → Fits b (p · q)
  fits_in : {b : Bool} {p : GamsPart} → Fits true p → Fits b (bracketed p)
  fits_or : {b : Bool} {p q : GamsPart} → Fits b p → Fits b q → Fits b (p ∣ q)
  fits_opt : {b : Bool} {p : GamsPart} → Fits b p → Fits b (opt p)
  fits_many : {b : Bool} {p : GamsPart} → Fits b p → Fits b (many p)

deep_fits : (n : Nonterminal) → is_deep n ≡ true → Fits false (productions n)
deep_fits Expression h = fits_both (fits_the refl) (fits_many (fits_both (fits_one refl) (fits_the refl)))
deep_fits Conjunction h = fits_both (fits_the refl) (fits_many (fits_both (fits_one refl) (fits_the refl)))
deep_fits Negation h = fits_both (fits_opt (fits_one refl)) (fits_the refl)
deep_fits Comparison h = fits_both (fits_the refl) (fits_many (fits_both (fits_one refl) (fits_the refl)))
deep_fits Sum h = fits_both (fits_opt (fits_one refl)) (fits_both (fits_the refl) (fits_many (fits_both (fits_one refl) (fits_the refl))))
deep_fits Product h = fits_both (fits_the refl) (fits_many (fits_both (fits_one refl) (fits_both (fits_opt (fits_one refl)) (fits_the refl))))
deep_fits PowerTerm h = fits_both (fits_the refl) (fits_many (fits_both (fits_one refl) (fits_both (fits_opt (fits_one refl)) (fits_the refl))))
deep_fits Guarded h = fits_both (fits_the refl) (fits_many (fits_the refl))
deep_fits Condition h = fits_both (fits_one refl) (fits_both (fits_opt (fits_one refl)) (fits_the refl))
deep_fits Primary h = fits_or (fits_one refl) (fits_or (fits_the refl) (fits_or (fits_the refl) (fits_or (fits_the refl) (fits_in (fits_the refl)))))
deep_fits Target h = fits_both (fits_one refl) (fits_both (fits_opt (fits_the refl)) (fits_opt (fits_in (fits_index refl))))
deep_fits Attribute h = fits_both (fits_one refl) (fits_one refl)
deep_fits Lag h = fits_both (fits_one refl) (fits_the refl)
deep_fits LagAmount h = fits_or (fits_one refl) (fits_or (fits_one refl) (fits_in (fits_the refl)))
deep_fits Call h = fits_or (fits_both (fits_one refl) (fits_in (fits_the refl))) (fits_both (fits_one refl) (fits_in (fits_one refl)))
deep_fits ExpressionList h = fits_both (fits_the refl) (fits_many (fits_both (fits_one refl) (fits_the refl)))
deep_fits Fold h = fits_both (fits_one refl) (fits_in (fits_both (fits_the refl) (fits_both (fits_one refl) (fits_the refl))))
deep_fits Control h = fits_both (fits_or (fits_one refl) (fits_in (fits_the refl))) (fits_opt (fits_the refl))
deep_fits NameList h = fits_both (fits_one refl) (fits_many (fits_both (fits_one refl) (fits_one refl)))
deep_fits _ h = cc

shallow_fits : (n : Nonterminal) → is_shallow n ≡ true → Fits true (productions n)
shallow_fits IndexList h = fits_both (fits_index refl) (fits_many (fits_both (fits_one refl) (fits_index refl)))
shallow_fits Index h = fits_or fits_text (fits_both (fits_one refl) (fits_opt (fits_the refl)))
shallow_fits _ h = cc

-- enough parentheses are open to be above `least`
abbrev pub Open : Bool → ℕ → ℕ → Type 0
Open b least n = cond b (least + 1) least ≤ n

open_any : (b : Bool) (least n : ℕ) → Open b least n → least ≤ n
open_any true least n h = omega (arith, h)
open_any false least n h = h

-- texts are above, and parentheses close
pub record Closes (least n : ℕ) (ts : List KindedToken) : Type 0 where
  pub above : TextsAbove least n ts
  pub closed : depth_after n ts ≡ n

closes_nil : (least n : ℕ) → Closes least n []
closes_nil least n = record { above = tt; closed = refl }

closes_both : (least n : ℕ) (u v : List KindedToken) → Closes least n u → Closes least n v → Closes least n (u ++ v)
closes_both least n u v h k = record {
  above = above_append least n u v h.above (subst (λ (x : ℕ). TextsAbove least x v) (sym h.closed) k.above);
  closed = depth_append n u v ∙ ap (λ x. depth_after x v) h.closed ∙ k.closed;
}

level_after : (kind : Terminal) (n : ℕ) → is_level kind ≡ true → open_after n kind ≡ n
level_after LeftParen n h = cc
level_after RightParen n h = cc
level_after Text n h = cc
level_after _ n h = refl

closes_one : (least n : ℕ) (t : KindedToken) → is_level t.0 ≡ true → Closes least n (t ∷ [])
closes_one least n t h = record { above = (λ e. let f : is_level t.0 ≡ false = ap is_level e in cc, tt); closed = level_after t.0 n h }

closes_in : (least n : ℕ) (l r : KindedToken) (u : List KindedToken) → l.0 ≡ LeftParen → r.0 ≡ RightParen → Closes least (n + 1) u → Closes least n (l ∷ (u ++ r ∷ []))
closes_in least n l r u el er h =
    let opens : open_after n l.0 ≡ n + 1 = ap (open_after n) el in
    let shut : depth_after (n + 1) (r ∷ []) ≡ n = (ap (open_after (n + 1)) er ∙ (let e : n + 1 - 1 ≡ n = omega arith in e)) in
    record {
      above = ((λ e. let f : LeftParen ≡ Text = sym el ∙ e in cc), subst (λ (x : ℕ). TextsAbove least x (u ++ r ∷ [])) (sym opens) (above_append least (n + 1) u (r ∷ []) h.above ((λ e. let f : RightParen ≡ Text = sym er ∙ e in cc), tt)));
      closed = ap (λ x. depth_after x (u ++ r ∷ [])) opens ∙ depth_append (n + 1) u (r ∷ []) ∙ ap (λ x. depth_after x (r ∷ [])) h.closed ∙ shut;
    }

-- the parts of expressions are so
pub closes : (b : Bool) {p : GamsPart} → Fits b p → (tree : Derivation) → IsTree productions p tree → (least n : ℕ) → Open b least n → Closes least n (yield tree)
closes b (fits_one {test = test} h) (leaf t) k least n o = closes_one least n t (also test is_level h t.0 k)
closes true fits_text (leaf t) k least n o =
    let e : Text ≡ t.0 = same_kind Text t.0 k in
    record { above = (λ f. let deep : least + 1 ≤ n = o in omega (arith, deep), tt); closed = ap (open_after n) (sym e) }
closes b (fits_the {n = m} h) (node tree) k least n o = closes false (deep_fits m h) tree k least n (open_any b least n o)
closes true (fits_index {n = m} h) (node tree) k least n o = closes true (shallow_fits m h) tree k least n o
closes b (fits_both f g) (pair a c) k least n o = closes_both least n (yield a) (yield c) (closes b f a k.0 least n o) (closes b g c k.1 least n o)
closes b (fits_in f) (pair (leaf l) (pair tree (leaf r))) k least n o =
    closes_in least n l r (yield tree) (sym (same_kind LeftParen l.0 k.0)) (sym (same_kind RightParen r.0 k.1.1)) (closes true f tree k.1.0 least (n + 1) (let m = open_any b least n o in omega (arith, m)))
closes b (fits_in f) (pair (leaf l) (pair tree _)) k least n o = absurd k.1.1
closes b (fits_in f) (pair (leaf l) _) k least n o = absurd k.1
closes b (fits_in f) (pair _ _) k least n o = absurd k.0
closes b (fits_or f g) (left tree) k least n o = closes b f tree k least n o
closes b (fits_or f g) (right tree) k least n o = closes b g tree k least n o
closes b (fits_opt f) none k least n o = closes_nil least n
closes b (fits_opt f) (some tree) k least n o = closes b f tree k least n o
closes b (fits_many f) none k least n o = closes_nil least n
closes b (fits_many f) (more a c) k least n o = closes_both least n (yield a) (yield c) (closes b f a k.0 least n o) (closes b (fits_many f) c k.1 least n o)
closes _ _ _ k least n o = absurd k

-- a tree of an expression, or of a part of one
pub deep_closes : (m : Nonterminal) → is_deep m ≡ true → (tree : Derivation) → IsTree productions (the m) tree → (least n : ℕ) → least ≤ n → Closes least n (yield tree)
deep_closes m h tree k least n o = closes false (fits_the {b = false} h) tree k least n o

pub above_rest : (least n : ℕ) (u v : List KindedToken) → TextsAbove least n (u ++ v) → TextsAbove least (depth_after n u) v
above_rest least n [] v h = h
above_rest least n (t ∷ u) v h = above_rest least (open_after n t.0) u v h.1
