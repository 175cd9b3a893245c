-- The earlier of the first faults of two kinds is the first of both.
use Rattle.std.proofs.Common.{◌≡◌, ◌⊎◌, inl, inr, true, false, nat_lt, if◌then◌else◌, Option, Some, None, sym, ap, subst, arith}
use Rattle.std.proofs.lemmas.Bool.Decides.{nat_tests}
use Rattle.gms_grammar.specs.declared.fault.ByteFault.{ByteFault}
use Rattle.gms_grammar.specs.Errors.{IsBefore, IsFirstFault}
use Rattle.gms_grammar.proofs.LineLemmas.{true_or_false}
use Rattle.gms_lex.specs.InnerReadings.{is_before, earlier}

-- the test says which fault comes before the other
before_true : (f g : ByteFault) → is_before f g ≡ true → IsBefore f g
before_true f g h = elim (true_or_false (nat_lt f.at g.at)) [
  | inl lt ↦ inl (grind (arith, nat_tests, lt))
  | inr ge ↦ inr (grind (arith, nat_tests, h, ge))
]

before_false : (f g : ByteFault) → is_before f g ≡ false → IsBefore g f
before_false f g h = elim (true_or_false (nat_lt g.at f.at)) [
  | inl lt ↦ inl (grind (arith, nat_tests, lt))
  | inr ge ↦ inr (grind (arith, nat_tests, h, ge))
]

-- a fault that comes before another comes before all after it
pub before_trans : (f g h : ByteFault) → IsBefore f g → IsBefore g h → IsBefore f h
before_trans f g h (inl a) (inl b) = inl (omega arith)
before_trans f g h (inl a) (inr b) = inl (omega (arith, b.0))
before_trans f g h (inr a) (inl b) = inl (omega (arith, a.0))
before_trans f g h (inr a) (inr b) = inr (omega (arith, a.0, b.0), omega (arith, a.1, b.1))

-- the earlier of the first faults of two kinds is the first of both
pub first_of_both : (P Q : ByteFault → Type 0) (a b : Option ByteFault) → IsFirstFault P a → IsFirstFault Q b → IsFirstFault (λ f. P f ⊎ Q f) (earlier a b)
first_of_both P Q None None p q = λ f h. elim h [ inl x ↦ p f x | inr y ↦ q f y ]
first_of_both P Q None (Some g) p q = (inr q.0, λ f h. elim h [ inl x ↦ absurd (p f x) | inr y ↦ q.1 f y ])
first_of_both P Q (Some f) None p q = (inl p.0, λ g h. elim h [ inl x ↦ p.1 g x | inr y ↦ absurd (q g y) ])
first_of_both P Q (Some f) (Some g) p q = elim (true_or_false (is_before f g)) [
  | inl t ↦
      let first = before_true f g t in
      let both : IsFirstFault (λ h. P h ⊎ Q h) (Some f) = (inl p.0, λ h s. elim s [ inl x ↦ p.1 h x | inr y ↦ before_trans f g h first (q.1 h y) ]) in
      subst (IsFirstFault (λ h. P h ⊎ Q h)) (sym (ap (λ v. if v then Some f else Some g) t)) both
  | inr t ↦
      let first = before_false f g t in
      let both : IsFirstFault (λ h. P h ⊎ Q h) (Some g) = (inr q.0, λ h s. elim s [ inl x ↦ before_trans g f h first (p.1 h x) | inr y ↦ q.1 h y ]) in
      subst (IsFirstFault (λ h. P h ⊎ Q h)) (sym (ap (λ v. if v then Some f else Some g) t)) both
]
