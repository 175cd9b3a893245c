-- How the readings or refusals of parts make up those of larger parts, for any rule of faults.
use Rattle.std.proofs.Common.{◌≡◌, Bool, true, false, List, [], ◌∷◌, ◌++◌, refl, sym, ap, ◌∙◌, subst, inl, inr, append_assoc}
use Rattle.gms_grammar.specs.declared.terminal.Terminal.{Terminal}
use Rattle.gms_grammar.specs.declared.terminal.Terminal.TheVariants.{End}
use Rattle.gms_grammar.specs.Grammar.{Part, one, the, ◌·◌, ◌∣◌, opt, many, DerivationTree, leaf, pair, left, right, none, some, more, node, yield}
use Rattle.gms_grammar.specs.Reading.{read, stuck, leads, Reads, Takes, taken, entered, entered_stuck, both, first_stuck, second_stuck, in_left, in_left_stuck, in_right, in_right_stuck, left_out, there, there_stuck, no_more, again, again_stuck, later_stuck, takes_one, takes_the, takes_first, takes_second, takes_left, takes_right, takes_opt, takes_many, takes_later}
use Rattle.gms_grammar.specs.GamsGrammar.{Nonterminal, productions}
use Rattle.gms_grammar.specs.GamsLookAhead.{look_ahead}
use Rattle.gms_grammar.specs.Rules.{Rule, kind_ahead, kind_of, left_by, AreFaultless, IsPartRead, IsStuck, IsWrong, Refuses, Within}
use Rattle.gms_grammar.proofs.Basics.{regrouped}
use Rattle.gms_grammar.proofs.Sound.{sound}

-- the kind ahead of no tokens is the kind of the first of those after them
pub ahead_append : {D : Type 0} (u v : List (Terminal × D)) (ahead : Terminal) → kind_ahead (u ++ v) ahead ≡ kind_ahead u (kind_ahead v ahead)
ahead_append [] v ahead = refl
ahead_append (t ∷ u) v ahead = refl

-- the kind ahead of a part, by what follows it
pub ahead_is : {D : Type 0} (u us : List (Terminal × D)) {rest : List (Terminal × D)} → rest ≡ u ++ us → kind_of rest ≡ kind_ahead u (kind_of us)
ahead_is u us e = ap kind_of e ∙ ahead_append u us End

pub read_state_append : {D W : Type 0} (after : W → Terminal × D → Terminal → W) (w : W) (u v : List (Terminal × D)) (ahead : Terminal) → left_by after w (u ++ v) ahead ≡ left_by after (left_by after w u (kind_ahead v ahead)) v ahead
read_state_append after w [] v ahead = refl
read_state_append after w (t ∷ u) v ahead =
    ap (λ (k : Terminal). left_by after (after w t k) (u ++ v) ahead) (ahead_append u v ahead) ∙ read_state_append after (after w t (kind_ahead u (kind_ahead v ahead))) u v ahead

-- what each token keeps, tokens keep
pub all_keep : {D W : Type 0} (after : W → Terminal × D → Terminal → W) (Keeps : W → Type 0) → ((w : W) (t : Terminal × D) (k : Terminal) → Keeps w → Keeps (after w t k)) → (w : W) (u : List (Terminal × D)) (ahead : Terminal) → Keeps w → Keeps (left_by after w u ahead)
all_keep after Keeps each w [] ahead h = h
all_keep after Keeps each w (t ∷ u) ahead h = all_keep after Keeps each (after w t (kind_ahead u ahead)) u ahead (each w t (kind_ahead u ahead) h)

pub sound_append : {D W E R : Type 0} (rule : Rule D W E R) (w : W) (u v : List (Terminal × D)) (ahead : Terminal) → AreFaultless rule w u (kind_ahead v ahead) → AreFaultless rule (left_by rule.after w u (kind_ahead v ahead)) v ahead → AreFaultless rule w (u ++ v) ahead
sound_append rule w [] v ahead h k = k
sound_append {E = E} rule w (t ∷ u) v ahead h k =
    subst (λ (kind : Terminal). ((fault : E) → rule.Faulty w t kind fault → ⊥) × AreFaultless rule (rule.after w t kind) (u ++ v) ahead) (sym (ahead_append u v ahead))
    (h.0, sound_append rule (rule.after w t (kind_ahead u (kind_ahead v ahead))) u v ahead h.1 k)

-- the tokens that were gone over, and the rest
pub takes_parts : {D : Type 0} {p : Part Terminal Nonterminal} {ts prefix rest : List (Terminal × D)} → Takes productions look_ahead p ts prefix rest → ts ≡ prefix ++ rest
takes_parts (takes_one h) = refl
takes_parts (takes_the t) = takes_parts t
takes_parts (takes_first t) = takes_parts t
takes_parts (takes_second r t) = regrouped _ _ _ _ _ (sound productions look_ahead r).1 (takes_parts t)
takes_parts (takes_left t) = takes_parts t
takes_parts (takes_right t) = takes_parts t
takes_parts (takes_opt t) = takes_parts t
takes_parts (takes_many t) = takes_parts t
takes_parts (takes_later r t) = regrouped _ _ _ _ _ (sound productions look_ahead r).1 (takes_parts t)

-- one token was gone over
pub takes_next : {D : Type 0} {test : Terminal → Bool} {ts rest : List (Terminal × D)} {token : Terminal × D} → ts ≡ token ∷ rest → test token.0 ≡ true → Takes productions look_ahead (one test) ts (token ∷ []) rest
takes_next {test = test} {rest = rest} {token = token} is h = subst (λ u. Takes productions look_ahead (one test) u (token ∷ []) rest) (sym is) (takes_one h)

module _ {K D W E R : Type 0} {rules : K → Rule D W E R} {key : K} where
  -- the tokens of a part, and the rest
  pub given_parts : {p : Part Terminal Nonterminal} {w v : W} {ts rest : List (Terminal × D)} {a : DerivationTree (Terminal × D)} → IsPartRead rules key p w ts a v rest → ts ≡ yield a ++ rest
  given_parts g = (sound productions look_ahead g.reads).1

  -- tokens after a part are sound if they are sound after the part's tokens
  pub onward : {p : Part Terminal Nonterminal} {w v : W} {ts rest : List (Terminal × D)} {a : DerivationTree (Terminal × D)} → IsPartRead rules key p w ts a v rest → (u us : List (Terminal × D)) → rest ≡ u ++ us → AreFaultless (rules key) v u (kind_of us) → AreFaultless (rules key) w (yield a ++ u) (kind_of us)
  onward {w = w} {a = a} g u us e h =
      sound_append (rules key) w (yield a) u (kind_of us) (subst (λ (k : Terminal). AreFaultless (rules key) w (yield a) k) (ahead_is u us e) g.are_sound)
      (subst (λ (x : W). AreFaultless (rules key) x u (kind_of us)) (g.leaves ∙ ap (left_by (rules key).after w (yield a)) (ahead_is u us e)) h)

  pub read_state_on : {p : Part Terminal Nonterminal} {w v : W} {ts rest : List (Terminal × D)} {a : DerivationTree (Terminal × D)} → IsPartRead rules key p w ts a v rest → (u us : List (Terminal × D)) → rest ≡ u ++ us → left_by (rules key).after v u (kind_of us) ≡ left_by (rules key).after w (yield a ++ u) (kind_of us)
  read_state_on {w = w} {a = a} g u us e =
      ap (λ (x : W). left_by (rules key).after x u (kind_of us)) (g.leaves ∙ ap (left_by (rules key).after w (yield a)) (ahead_is u us e)) ∙ sym (read_state_append (rules key).after w (yield a) u (kind_of us))

  -- parts that were read
  pub gives_both : {p q : Part Terminal Nonterminal} {w v x : W} {ts between rest : List (Terminal × D)} {a b : DerivationTree (Terminal × D)} →
      IsPartRead rules key p w ts a v between → IsPartRead rules key q v between b x rest → IsPartRead rules key (p · q) w ts (pair a b) x rest
  gives_both {rest = rest} {b = b} g h = record {
    reads = both g.reads h.reads;
    are_sound = onward g (yield b) rest (given_parts h) h.are_sound;
    leaves = h.leaves ∙ read_state_on g (yield b) rest (given_parts h);
  }

  pub gives_the : (n : Nonterminal) {w v : W} {ts rest : List (Terminal × D)} {a : DerivationTree (Terminal × D)} → IsPartRead rules key (productions n) w ts a v rest → IsPartRead rules key (the n) w ts (node a) v rest
  gives_the n g = record { reads = entered g.reads; are_sound = g.are_sound; leaves = g.leaves }

  pub gives_left : {p q : Part Terminal Nonterminal} {w v : W} {ts rest : List (Terminal × D)} {a : DerivationTree (Terminal × D)} → leads productions look_ahead p ts ≡ true → IsPartRead rules key p w ts a v rest → IsPartRead rules key (p ∣ q) w ts (left a) v rest
  gives_left h g = record { reads = in_left h g.reads; are_sound = g.are_sound; leaves = g.leaves }

  pub gives_right : {p q : Part Terminal Nonterminal} {w v : W} {ts rest : List (Terminal × D)} {a : DerivationTree (Terminal × D)} → leads productions look_ahead p ts ≡ false → leads productions look_ahead q ts ≡ true → IsPartRead rules key q w ts a v rest → IsPartRead rules key (p ∣ q) w ts (right a) v rest
  gives_right h k g = record { reads = in_right h k g.reads; are_sound = g.are_sound; leaves = g.leaves }

  pub gives_none : {p : Part Terminal Nonterminal} {w : W} {ts : List (Terminal × D)} → leads productions look_ahead p ts ≡ false → IsPartRead rules key (opt p) w ts none w ts
  gives_none h = record { reads = left_out h; are_sound = tt; leaves = refl }

  pub gives_some : {p : Part Terminal Nonterminal} {w v : W} {ts rest : List (Terminal × D)} {a : DerivationTree (Terminal × D)} → leads productions look_ahead p ts ≡ true → IsPartRead rules key p w ts a v rest → IsPartRead rules key (opt p) w ts (some a) v rest
  gives_some h g = record { reads = there h g.reads; are_sound = g.are_sound; leaves = g.leaves }

  pub gives_no_more : {p : Part Terminal Nonterminal} {w : W} {ts : List (Terminal × D)} → leads productions look_ahead p ts ≡ false → IsPartRead rules key (many p) w ts none w ts
  gives_no_more h = record { reads = no_more h; are_sound = tt; leaves = refl }

  pub gives_again : {p : Part Terminal Nonterminal} {w v x : W} {ts between rest : List (Terminal × D)} {a b : DerivationTree (Terminal × D)} → leads productions look_ahead p ts ≡ true →
      IsPartRead rules key p w ts a v between → IsPartRead rules key (many p) v between b x rest → IsPartRead rules key (many p) w ts (more a b) x rest
  gives_again {rest = rest} {b = b} l g h = record {
    reads = again l g.reads h.reads;
    are_sound = onward g (yield b) rest (given_parts h) h.are_sound;
    leaves = h.leaves ∙ read_state_on g (yield b) rest (given_parts h);
  }

  -- the same tokens were read of another part
  pub gives_as : {p q : Part Terminal Nonterminal} {w v : W} {ts rest : List (Terminal × D)} {a b : DerivationTree (Terminal × D)} → IsPartRead rules key p w ts a v rest → Reads productions look_ahead q ts (read b rest) → yield a ≡ yield b → IsPartRead rules key q w ts b v rest
  gives_as {w = w} {rest = rest} g r e = record {
    reads = r;
    are_sound = subst (λ (u : List (Terminal × D)). AreFaultless (rules key) w u (kind_of rest)) e g.are_sound;
    leaves = g.leaves ∙ ap (λ (u : List (Terminal × D)). left_by (rules key).after w u (kind_of rest)) e;
  }

  -- one token was read
  pub gives_one : {test : Terminal → Bool} {w v : W} {ts rest : List (Terminal × D)} {token : Terminal × D} → ts ≡ token ∷ rest → test token.0 ≡ true →
      ((fault : E) → (rules key).Faulty w token (kind_of rest) fault → ⊥) → v ≡ (rules key).after w token (kind_of rest) → IsPartRead rules key (one test) w ts (leaf token) v rest
  gives_one {test = test} {rest = rest} {token = token} is h sound l =
      record { reads = subst (λ u. Reads productions look_ahead (one test) u (read (leaf token) rest)) (sym is) (taken h); are_sound = (sound, tt); leaves = l }

  -- parts that were refused: each cause is handed on
  pub by_cause : {p q : Part Terminal Nonterminal} {w v : W} {ts us : List (Terminal × D)} {e : R} →
      Refuses rules key p w ts e →
      ((fault : E) → IsStuck rules key p w ts fault → IsStuck rules key q v us fault) →
      ((fault : E) → IsWrong rules key p w ts fault → IsWrong rules key q v us fault) → Refuses rules key q v us e
  by_cause r f g = record { why = λ fault is. elim (r.why fault is) [ inl s ↦ inl (f fault s) | inr s ↦ inr (g fault s) ] }

  -- a token is wrong, or unexpected, within a larger part that goes over the same tokens
  pub wrong_as : {p q : Part Terminal Nonterminal} {w : W} {ts : List (Terminal × D)} {fault : E} → (s : IsWrong rules key p w ts fault) → Takes productions look_ahead q ts (s.before ++ s.token ∷ []) s.following → IsWrong rules key q w ts fault
  wrong_as s t = record { before = s.before; token = s.token; following = s.following; takes = t; are_sound = s.are_sound; is_faulty = s.is_faulty }

  pub stuck_as : {p q : Part Terminal Nonterminal} {w : W} {ts : List (Terminal × D)} {fault : E} → (s : IsStuck rules key p w ts fault) → Reads productions look_ahead q ts (stuck s.prefix s.rest) → IsStuck rules key q w ts fault
  stuck_as s r = record { prefix = s.prefix; rest = s.rest; reads = r; are_sound = s.are_sound; is = s.is }

  -- the tokens where one is wrong
  wrong_parts : {p : Part Terminal Nonterminal} {w : W} {ts : List (Terminal × D)} {fault : E} → (s : IsWrong rules key p w ts fault) → ts ≡ s.before ++ s.token ∷ s.following
  wrong_parts s = takes_parts s.takes ∙ append_assoc s.before (s.token ∷ []) s.following

  -- a fault after a part is a fault of the larger part
  pub wrong_after : {p q r : Part Terminal Nonterminal} {w v : W} {ts between : List (Terminal × D)} {a : DerivationTree (Terminal × D)} {fault : E} → IsPartRead rules key p w ts a v between → (s : IsWrong rules key q v between fault) →
      Takes productions look_ahead r ts (yield a ++ (s.before ++ s.token ∷ [])) s.following → IsWrong rules key r w ts fault
  wrong_after {r = r} {ts = ts} {a = a} {fault = fault} g s t = record {
    before = yield a ++ s.before;
    token = s.token;
    following = s.following;
    takes = subst (λ x. Takes productions look_ahead r ts x s.following) (sym (append_assoc (yield a) s.before (s.token ∷ []))) t;
    are_sound = onward g s.before (s.token ∷ s.following) (wrong_parts s) s.are_sound;
    is_faulty = subst (λ (x : W). (rules key).Faulty x s.token (kind_of s.following) fault) (read_state_on g s.before (s.token ∷ s.following) (wrong_parts s)) s.is_faulty;
  }

  pub stuck_after : {p q r : Part Terminal Nonterminal} {w v : W} {ts between : List (Terminal × D)} {a : DerivationTree (Terminal × D)} {fault : E} → IsPartRead rules key p w ts a v between → (s : IsStuck rules key q v between fault) →
      Reads productions look_ahead r ts (stuck (yield a ++ s.prefix) s.rest) → IsStuck rules key r w ts fault
  stuck_after {a = a} g s r = record { prefix = yield a ++ s.prefix; rest = s.rest; reads = r; are_sound = onward g s.prefix s.rest (sound productions look_ahead s.reads) s.are_sound; is = s.is }

  pub refuses_first : {p q : Part Terminal Nonterminal} {w : W} {ts : List (Terminal × D)} {e : R} → Refuses rules key p w ts e → Refuses rules key (p · q) w ts e
  refuses_first r = by_cause r (λ fault s. stuck_as s (first_stuck s.reads)) (λ fault s. wrong_as s (takes_first s.takes))

  pub refuses_second : {p q : Part Terminal Nonterminal} {w v : W} {ts between : List (Terminal × D)} {a : DerivationTree (Terminal × D)} {e : R} → IsPartRead rules key p w ts a v between → Refuses rules key q v between e → Refuses rules key (p · q) w ts e
  refuses_second g r = by_cause r (λ fault s. stuck_after g s (second_stuck g.reads s.reads)) (λ fault s. wrong_after g s (takes_second g.reads s.takes))

  pub refuses_the : (n : Nonterminal) {w : W} {ts : List (Terminal × D)} {e : R} → Refuses rules key (productions n) w ts e → Refuses rules key (the n) w ts e
  refuses_the n r = by_cause r (λ fault s. stuck_as s (entered_stuck s.reads)) (λ fault s. wrong_as s (takes_the s.takes))

  pub refuses_left : {p q : Part Terminal Nonterminal} {w : W} {ts : List (Terminal × D)} {e : R} → leads productions look_ahead p ts ≡ true → Refuses rules key p w ts e → Refuses rules key (p ∣ q) w ts e
  refuses_left h r = by_cause r (λ fault s. stuck_as s (in_left_stuck h s.reads)) (λ fault s. wrong_as s (takes_left s.takes))

  pub refuses_right : {p q : Part Terminal Nonterminal} {w : W} {ts : List (Terminal × D)} {e : R} → leads productions look_ahead p ts ≡ false → leads productions look_ahead q ts ≡ true → Refuses rules key q w ts e → Refuses rules key (p ∣ q) w ts e
  refuses_right h k r = by_cause r (λ fault s. stuck_as s (in_right_stuck h k s.reads)) (λ fault s. wrong_as s (takes_right s.takes))

  pub refuses_some : {p : Part Terminal Nonterminal} {w : W} {ts : List (Terminal × D)} {e : R} → leads productions look_ahead p ts ≡ true → Refuses rules key p w ts e → Refuses rules key (opt p) w ts e
  refuses_some h r = by_cause r (λ fault s. stuck_as s (there_stuck h s.reads)) (λ fault s. wrong_as s (takes_opt s.takes))

  pub refuses_again : {p : Part Terminal Nonterminal} {w : W} {ts : List (Terminal × D)} {e : R} → leads productions look_ahead p ts ≡ true → Refuses rules key p w ts e → Refuses rules key (many p) w ts e
  refuses_again h r = by_cause r (λ fault s. stuck_as s (again_stuck h s.reads)) (λ fault s. wrong_as s (takes_many s.takes))

  pub refuses_later : {p : Part Terminal Nonterminal} {w v : W} {ts between : List (Terminal × D)} {a : DerivationTree (Terminal × D)} {e : R} → leads productions look_ahead p ts ≡ true → IsPartRead rules key p w ts a v between → Refuses rules key (many p) v between e → Refuses rules key (many p) w ts e
  refuses_later l g r = by_cause r (λ fault s. stuck_after g s (later_stuck l g.reads s.reads)) (λ fault s. wrong_after g s (takes_later g.reads s.takes))

  -- nothing of a part was read, since the next token is unexpected, and this is what is told
  pub refuses_at : {p : Part Terminal Nonterminal} {w : W} {ts : List (Terminal × D)} {e : R} → Reads productions look_ahead p ts (stuck [] ts) → ((fault : E) → e ≡ (rules key).told fault → (rules key).unexpected ts ≡ fault) → Refuses rules key p w ts e
  refuses_at {ts = ts} r only = record { why = λ fault k. inl (record { prefix = []; rest = ts; reads = r; are_sound = tt; is = sym (only fault k) }) }

  -- the first token has a fault, and this is what is told
  pub refuses_token : {p : Part Terminal Nonterminal} {w : W} {ts rest : List (Terminal × D)} {token : Terminal × D} {found : E} {e : R} → Takes productions look_ahead p ts (token ∷ []) rest →
      (rules key).Faulty w token (kind_of rest) found → ((fault : E) → e ≡ (rules key).told fault → found ≡ fault) → Refuses rules key p w ts e
  refuses_token {w = w} {rest = rest} {token = token} t f only = record {
    why = λ fault k. inr (record { before = []; token = token; following = rest; takes = t; are_sound = tt; is_faulty = subst (λ (x : E). (rules key).Faulty w token (kind_of rest) x) (only fault k) f });
  }

  -- a part that is read within another
  pub within_the : (n : Nonterminal) {w : W} {ts : List (Terminal × D)} → Within rules key (the n) w ts (productions n) w ts node
  within_the n = record { gives = λ a x last g. gives_the n g; refuses = λ e r. refuses_the n r }

  pub within_second : {p q : Part Terminal Nonterminal} {w v : W} {ts between : List (Terminal × D)} {a : DerivationTree (Terminal × D)} → IsPartRead rules key p w ts a v between → Within rules key (p · q) w ts q v between (λ b. pair a b)
  within_second g = record { gives = λ a x last h. gives_both g h; refuses = λ e r. refuses_second g r }

  pub within_again : {p : Part Terminal Nonterminal} {w v : W} {ts between : List (Terminal × D)} {a : DerivationTree (Terminal × D)} → leads productions look_ahead p ts ≡ true → IsPartRead rules key p w ts a v between → Within rules key (many p) w ts (many p) v between (λ b. more a b)
  within_again l g = record { gives = λ a x last h. gives_again l g h; refuses = λ e r. refuses_later l g r }

  pub within_some : {p : Part Terminal Nonterminal} {w : W} {ts : List (Terminal × D)} → leads productions look_ahead p ts ≡ true → Within rules key (opt p) w ts p w ts some
  within_some l = record { gives = λ a x last h. gives_some l h; refuses = λ e r. refuses_some l r }

  pub within_left : {p q : Part Terminal Nonterminal} {w : W} {ts : List (Terminal × D)} → leads productions look_ahead p ts ≡ true → Within rules key (p ∣ q) w ts p w ts left
  within_left l = record { gives = λ a x last h. gives_left l h; refuses = λ e r. refuses_left l r }

  pub within_right : {p q : Part Terminal Nonterminal} {w : W} {ts : List (Terminal × D)} → leads productions look_ahead p ts ≡ false → leads productions look_ahead q ts ≡ true → Within rules key (p ∣ q) w ts q w ts right
  within_right h l = record { gives = λ a x last g. gives_right h l g; refuses = λ e r. refuses_right h l r }

  pub within_then : {p q s : Part Terminal Nonterminal} {w v x : W} {ts us vs : List (Terminal × D)} {c d : DerivationTree (Terminal × D) → DerivationTree (Terminal × D)} → Within rules key p w ts q v us c → Within rules key q v us s x vs d → Within rules key p w ts s x vs (λ b. c (d b))
  within_then {d = d} h k = record { gives = λ a y last g. h.gives (d a) y last (k.gives a y last g); refuses = λ e r. h.refuses e (k.refuses e r) }
