-- Alternatives of which one begins with a single token.
use Rattle.std.proofs.Common.{◌≡◌, Bool, true, false, ◌||◌, List, [], ◌∷◌, refl, ap}
use Rattle.gms_grammar.specs.declared.terminal.Terminal.{Terminal}
use Rattle.gms_grammar.specs.Grammar.{Part, one, ◌·◌, ◌∣◌, DerivationTree}
use Rattle.gms_grammar.specs.Reading.{read, stuck, leads, Reads, taken, refused, in_neither, takes_left, takes_right, takes_first}
use Rattle.gms_grammar.specs.GamsGrammar.{Nonterminal, productions}
use Rattle.gms_grammar.specs.GamsLookAhead.{look_ahead}
use Rattle.gms_grammar.specs.Rules.{Rule, IsPartRead, Refuses}
use Rattle.gms_grammar.proofs.Rules.{by_cause, stuck_as, wrong_as}

-- only what the next token tells leads into a part that begins with it
pub unled_next : {D : Type 0} (test : Terminal → Bool) (q : Part Terminal Nonterminal) (ts : List (Terminal × D)) → leads productions look_ahead (one test) ts ≡ false → leads productions look_ahead (one test · q) ts ≡ false
unled_next test q [] h = refl
unled_next test q (t ∷ ts) h = ap (λ b. b || false) h

stuck_left : {D : Type 0} {test : Terminal → Bool} {q : Part Terminal Nonterminal} {ts prefix rest : List (Terminal × D)} → leads productions look_ahead q ts ≡ false → Reads productions look_ahead (one test) ts (stuck prefix rest) → Reads productions look_ahead (one test ∣ q) ts (stuck prefix rest)
stuck_left k (refused h) = in_neither h k

stuck_other : {D : Type 0} {test : Terminal → Bool} {p : Part Terminal Nonterminal} {ts prefix rest : List (Terminal × D)} → leads productions look_ahead p ts ≡ false → Reads productions look_ahead (one test) ts (stuck prefix rest) → Reads productions look_ahead (p ∣ one test) ts (stuck prefix rest)
stuck_other k (refused h) = in_neither k h

stuck_right : {D : Type 0} {test : Terminal → Bool} {p r : Part Terminal Nonterminal} {ts prefix rest : List (Terminal × D)} → leads productions look_ahead p ts ≡ false → Reads productions look_ahead (one test) ts (stuck prefix rest) → Reads productions look_ahead (p ∣ one test · r) ts (stuck prefix rest)
stuck_right {test = test} {r = r} k (refused {tokens = ts} h) = in_neither k (unled_next test r ts h)

-- a token that was read leads
led_read : {D : Type 0} {test : Terminal → Bool} {ts rest : List (Terminal × D)} {tree : DerivationTree (Terminal × D)} → Reads productions look_ahead (one test) ts (read tree rest) → leads productions look_ahead (one test) ts ≡ true
led_read (taken h) = h

module _ {K D W E R : Type 0} {rules : K → Rule D W E R} {key : K} {test : Terminal → Bool} {w : W} {ts : List (Terminal × D)} where
  pub led_given : {v : W} {rest : List (Terminal × D)} {tree : DerivationTree (Terminal × D)} → IsPartRead rules key (one test) w ts tree v rest → leads productions look_ahead (one test) ts ≡ true
  led_given g = led_read g.reads

  -- the first alternative is a token that is refused, and nothing leads into the second
  pub refuses_either : {q : Part Terminal Nonterminal} {e : R} → leads productions look_ahead q ts ≡ false → Refuses rules key (one test) w ts e → Refuses rules key (one test ∣ q) w ts e
  refuses_either k r = by_cause r (λ fault s. stuck_as s (stuck_left k s.reads)) (λ fault s. wrong_as s (takes_left s.takes))

  -- nothing leads into the first alternative, and the second is a token that is refused
  pub refuses_other : {p : Part Terminal Nonterminal} {e : R} → leads productions look_ahead p ts ≡ false → Refuses rules key (one test) w ts e → Refuses rules key (p ∣ one test) w ts e
  refuses_other k r = by_cause r (λ fault s. stuck_as s (stuck_other k s.reads)) (λ fault s. wrong_as s (takes_right s.takes))

  -- the same where the second begins with a token that is refused
  pub refuses_or : {p r : Part Terminal Nonterminal} {e : R} → leads productions look_ahead p ts ≡ false → Refuses rules key (one test) w ts e → Refuses rules key (p ∣ one test · r) w ts e
  refuses_or k r = by_cause r (λ fault s. stuck_as s (stuck_right k s.reads)) (λ fault s. wrong_as s (takes_right (takes_first s.takes)))
