-- A fork that is turned: its tuples stay in their sequence, and their number stays the same.
use Rattle.std.proofs.Common.{◌≡◌, ℕ, ◌+◌, ◌<◌, List, ◌++◌, length, sym, ap, ap₂, ◌∙◌, append_assoc, arith}
use Rattle.std.specs.Vec.{vec_len}
use Rattle.gms_tuple.specs.declared.tree.Fork.{Fork}
use Rattle.gms_tuple.specs.InnerTrees.{listed, IsFork}
use Rattle.gms_tuple.proofs.Forks.{length-block}

module _ (a x b y d : List (List ℕ)) where
  turned : a ++ (x ++ (b ++ (y ++ d))) ≡ (a ++ (x ++ b)) ++ (y ++ d)
  turned = ap (λ xs. a ++ xs) (sym (append_assoc x b (y ++ d))) ∙ sym (append_assoc a (x ++ b) (y ++ d))

  -- the left side has its block moved up, and the old block is in the new right side
  pub turned-right : {left block right l o r before : List (List ℕ)} → left ≡ a → block ≡ x → right ≡ l ++ (o ++ r) → o ≡ y → l ≡ b → r ≡ d → a ++ (x ++ b) ≡ before → left ++ (block ++ right) ≡ before ++ (y ++ d)
  turned-right left block right own l r before =
      ap₂ (λ u v. u ++ v) left (ap₂ (λ u v. u ++ v) block (right ∙ ap₂ (λ u v. u ++ v) l (ap₂ (λ u v. u ++ v) own r))) ∙ turned ∙ ap (λ xs. xs ++ (y ++ d)) before

  -- the right side has its block moved up, and the old block is in the new left side
  pub turned-left : {left block right l o r before : List (List ℕ)} → left ≡ l ++ (o ++ r) → block ≡ y → right ≡ d → o ≡ x → l ≡ a → r ≡ b → b ++ (y ++ d) ≡ before → left ++ (block ++ right) ≡ a ++ (x ++ before)
  turned-left left block right own l r before =
      ap₂ (λ u v. u ++ v) (left ∙ ap₂ (λ u v. u ++ v) l (ap₂ (λ u v. u ++ v) own r)) (ap₂ (λ u v. u ++ v) block right) ∙ sym turned ∙ ap (λ xs. a ++ (x ++ xs)) before

-- a fork of the same tuples has their number
pub turned-fork : (fork : Fork) {tuples : List (List ℕ)} (own : List (List ℕ)) → IsFork fork → tuples ≡ listed fork → 0 < length own → (fork.size ≡ length tuples) × (0 < length own)
turned-fork fork own is same some = (is.0 ∙ ap length (sym same), some)

-- the number of the tuples, counted at each part
pub sized-again : (fork left own right : Fork) {n m k : ℕ} → left ≡ fork → own ≡ fork → right ≡ fork → n ≡ length left.left → m ≡ vec_len own.own → k ≡ length right.right → n + m + k ≡ length (listed fork)
sized-again fork left own right {n} {m} {k} left_is own_is right_is n_is m_is k_is =
    let n_again : n ≡ length fork.left = n_is ∙ ap (λ (g : Fork). length g.left) left_is in
    let m_again : m ≡ length fork.own.items = m_is ∙ own.own.ok.0 ∙ ap (λ (g : Fork). length g.own.items) own_is in
    let k_again : k ≡ length fork.right = k_is ∙ ap (λ (g : Fork). length g.right) right_is in
    total n m k (length fork.left) (length fork.own.items) (length fork.right) n_again m_again k_again ∙ sym (length-block fork.left fork.own.items fork.right)
  where
    total : (n m k a b d : ℕ) → n ≡ a → m ≡ b → k ≡ d → n + m + k ≡ a + (b + d)
    total n m k a b d p q r = omega arith
