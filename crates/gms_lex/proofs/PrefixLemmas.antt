-- The start of a text: how many of its bytes pass a test, and with what it begins.
use Rattle.std.proofs.lemmas.Bool.{and_from, and_parts}
use Rattle.std.proofs.Common.{◌≡◌, inl, inr, ℕ, zero, suc, ◌+◌, ◌<◌, ◌≤◌, Bool, true, false, cond, List, [], ◌∷◌, ◌++◌, length, take, refl, sym, ap, subst, arith}
use Rattle.std.specs.List.{prefix_len, list_all}
use Rattle.gms_grammar.specs.Lines.{begins}
use Rattle.gms_grammar.proofs.LineLemmas.{true_or_false}

pub not_both : {A : Type 0} (b : Bool) → b ≡ true → b ≡ false → A
not_both true h g = absurd (cc)
not_both false h g = absurd (cc)

-- a prefix whose bytes all pass is no longer than their run
pub prefix_most : (test : ℕ → Bool) (n : ℕ) (text : List ℕ) → n ≤ length text → list_all test (take n text) ≡ true → n ≤ prefix_len test text
prefix_most test zero text le h = omega arith
prefix_most test (suc n) [] le h = absurd (omega arith)
prefix_most test (suc n) (b ∷ text) le h =
    let both = and_parts (test b) (list_all test (take n text)) h in
    subst (λ v. suc n ≤ cond v (1 + prefix_len test text) 0) (sym both.0) (omega (arith, prefix_most test n text (omega arith) both.1))

prefix_cons : (test : ℕ → Bool) (b : ℕ) (text : List ℕ) (n : ℕ) → test b ≡ true → list_all test (take n text) ≡ true → list_all test (take (1 + n) (b ∷ text)) ≡ true
prefix_cons test b text n t h = subst (λ k. list_all test (take k (b ∷ text)) ≡ true) (let e : suc n ≡ 1 + n = omega arith in e) (and_from (test b) (list_all test (take n text)) t h)

-- a run of bytes that pass passes
pub prefix_all : (test : ℕ → Bool) (text : List ℕ) → list_all test (take (prefix_len test text) text) ≡ true
prefix_all test [] = refl
prefix_all test (b ∷ text) = elim (true_or_false (test b)) [
  | inl t ↦ subst (λ v. list_all test (take (cond v (1 + prefix_len test text) 0) (b ∷ text)) ≡ true) (sym t) (prefix_cons test b text (prefix_len test text) t (prefix_all test text))
  | inr f ↦ subst (λ v. list_all test (take (cond v (1 + prefix_len test text) 0) (b ∷ text)) ≡ true) (sym f) refl
]

-- bytes that pass, before a text, make its run longer
pub run_over : (test : ℕ → Bool) (prefix text : List ℕ) → list_all test prefix ≡ true → prefix_len test (prefix ++ text) ≡ length prefix + prefix_len test text
run_over test [] text h = omega arith
run_over test (b ∷ prefix) text h =
    let both = and_parts (test b) (list_all test prefix) h in
    let longer : prefix_len test (b ∷ (prefix ++ text)) ≡ 1 + prefix_len test (prefix ++ text) = ap (λ v. cond v (1 + prefix_len test (prefix ++ text)) 0) both.0 in
    omega (arith, longer, run_over test prefix text both.1)

-- a byte that does not pass begins no run
pub run_stops : (test : ℕ → Bool) (b : ℕ) (text : List ℕ) → test b ≡ false → prefix_len test (b ∷ text) ≡ 0
run_stops test b text f = ap (λ v. cond v (1 + prefix_len test text) 0) f

-- a nonempty prefix begins as the text does
pub begins_take : (test : ℕ → Bool) (n : ℕ) (text : List ℕ) → 0 < n → begins test (take n text) ≡ begins test text
begins_take test zero text some = absurd (omega arith)
begins_take test (suc n) [] some = refl
begins_take test (suc n) (b ∷ text) some = refl

-- if a prefix passes the test at its start, so does the text
pub begins_prefix : (test : ℕ → Bool) (n : ℕ) (text : List ℕ) → begins test (take n text) ≡ true → begins test text ≡ true
begins_prefix test zero text h = cc
begins_prefix test (suc n) [] h = h
begins_prefix test (suc n) (b ∷ text) h = h

-- if a text passes the test at its start, it does with more after it
pub begins_append : (test : ℕ → Bool) (text following : List ℕ) → begins test text ≡ true → begins test (text ++ following) ≡ true
begins_append test [] following h = cc
begins_append test (b ∷ text) following h = h

-- texts that begin with bytes of two kinds
pub begins_apart : {A : Type 0} (one other : ℕ → Bool) (text : List ℕ) → ((b : ℕ) → one b ≡ true → other b ≡ true → ⊥) → begins one text ≡ true → begins other text ≡ true → A
begins_apart one other [] apart h g = absurd (cc)
begins_apart one other (b ∷ text) apart h g = absurd (apart b h g)
