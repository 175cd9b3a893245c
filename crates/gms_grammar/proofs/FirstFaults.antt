-- Tokens have at most one first fault, by each rule of faults; and what the predictive reader
-- refuses has it.
use Rattle.std.proofs.Common.{◌≡◌, ◌⊎◌, List, [], ◌∷◌, ◌++◌, sym, ap, ◌∙◌, subst, inl, inr, append_assoc}
use Rattle.gms_grammar.specs.declared.terminal.Terminal.{Terminal}
use Rattle.gms_grammar.specs.declared.terminal.Terminal.TheVariants.{End}
use Rattle.gms_grammar.specs.Grammar.{the, Derives}
use Rattle.gms_grammar.specs.GamsGrammar.{Nonterminal, productions}
use Rattle.gms_grammar.specs.Rules.{Rule, kind_ahead, kind_of, left_by, AreFaultless, IsStuck, IsWrong, IsFirstFaulty, IsUnexpectedByRule, IsRefusedByRule, FaultsOnce}
use Rattle.gms_grammar.proofs.Basics.{after_same}
use Rattle.gms_grammar.proofs.Stopping.{stops_once, prefix_begins}
use Rattle.gms_grammar.proofs.Language.{gams_stuck_stops, gams_stuck_none, gams_takes, gams_stops}
use Rattle.gms_grammar.proofs.Orders.{Order, at_once, earlier, later, order}
use Rattle.gms_grammar.proofs.Rules.{ahead_append}

-- of sound tokens none is faulty
pub sound_at : {D W E R : Type 0} (rule : Rule D W E R) (w : W) (before : List (Terminal × D)) (token : Terminal × D) (following : List (Terminal × D)) (ahead : Terminal) (fault : E) → AreFaultless rule w (before ++ token ∷ following) ahead → rule.Faulty (left_by rule.after w before token.0) token (kind_ahead following ahead) fault → ⊥
sound_at rule w [] token following ahead fault sound faulty = sound.0 fault faulty
sound_at rule w (x ∷ before) token following ahead fault sound faulty =
    let same : kind_ahead (before ++ token ∷ following) ahead ≡ kind_ahead before token.0 = ahead_append before (token ∷ following) ahead in
    sound_at rule (rule.after w x (kind_ahead before token.0)) before token following ahead fault
    (subst (λ (k : Terminal). AreFaultless rule (rule.after w x k) (before ++ token ∷ following) ahead) same sound.1) faulty

module _ {K D W E R : Type 0} (rules : K → Rule D W E R) (key : K) where
  -- sound tokens have no first faulty one
  pub no_first : (w : W) (prefix : List (Terminal × D)) (ahead : Terminal) (fault : E) → IsFirstFaulty rules key w prefix ahead fault → AreFaultless (rules key) w prefix ahead → ⊥
  no_first w prefix ahead fault first sound =
      sound_at (rules key) w first.before first.token first.following ahead fault (subst (λ (us : List (Terminal × D)). AreFaultless (rules key) w us ahead) first.parts sound) first.is_faulty

  module _ (once : FaultsOnce (rules key)) where
    -- of two faulty tokens none comes before the first
    not_later : (w : W) (prefix : List (Terminal × D)) (ahead : Terminal) (one other : E) (f : IsFirstFaulty rules key w prefix ahead one) (g : IsFirstFaulty rules key w prefix ahead other) (more : List (Terminal × D)) → g.before ≡ f.before ++ (f.token ∷ more) → f.following ≡ more ++ (g.token ∷ g.following) → ⊥
    not_later w prefix ahead one other f g more e k =
        sound_at (rules key) w f.before f.token more g.token.0 one
        (subst (λ (us : List (Terminal × D)). AreFaultless (rules key) w us g.token.0) e g.are_sound)
        (subst (λ (kind : Terminal). (rules key).Faulty (left_by (rules key).after w f.before f.token.0) f.token kind one) (ap (λ (us : List (Terminal × D)). kind_ahead us ahead) k ∙ ahead_append more (g.token ∷ g.following) ahead) f.is_faulty)

    one_first_faulty : (w : W) (prefix : List (Terminal × D)) (ahead : Terminal) (one other : E) → IsFirstFaulty rules key w prefix ahead one → IsFirstFaulty rules key w prefix ahead other → one ≡ other
    one_first_faulty w prefix ahead one other f g = by (order f.before f.token f.following g.before g.token g.following (sym f.parts ∙ g.parts))
      where
        by : Order f.before f.token f.following g.before g.token g.following → one ≡ other
        by (earlier more e k) = absurd (not_later w prefix ahead one other f g more e k)
        by (later more e k) = absurd (not_later w prefix ahead other one g f more e k)
        by (at_once e t k) =
            let there : (rules key).Faulty (left_by (rules key).after w f.before f.token.0) f.token (kind_ahead f.following ahead) other =
            subst (λ (us : List (Terminal × D)). (rules key).Faulty (left_by (rules key).after w us f.token.0) f.token (kind_ahead f.following ahead) other) (sym e)
            (subst (λ (x : Terminal × D). (rules key).Faulty (left_by (rules key).after w g.before x.0) x (kind_ahead f.following ahead) other) (sym t)
            (subst (λ (us : List (Terminal × D)). (rules key).Faulty (left_by (rules key).after w g.before g.token.0) g.token (kind_ahead us ahead) other) (sym k) g.is_faulty)) in
            once (left_by (rules key).after w f.before f.token.0) f.token (kind_ahead f.following ahead) one other f.is_faulty there

    one_cause : {One Other : Type 0} (w : W) (prefix rest : List (Terminal × D)) (one other : E) → IsFirstFaulty rules key w prefix (kind_of rest) one ⊎ IsUnexpectedByRule rules key One w prefix rest one → IsFirstFaulty rules key w prefix (kind_of rest) other ⊎ IsUnexpectedByRule rules key Other w prefix rest other → one ≡ other
    one_cause w prefix rest one other (inl f) (inl g) = one_first_faulty w prefix (kind_of rest) one other f g
    one_cause w prefix rest one other (inl f) (inr u) = absurd (no_first w prefix (kind_of rest) one f u.are_sound)
    one_cause w prefix rest one other (inr u) (inl g) = absurd (no_first w prefix (kind_of rest) other g u.are_sound)
    one_cause w prefix rest one other (inr u) (inr v) = u.is ∙ sym v.is

    -- two first faults of tokens are one
    pub one_refused : {Wants : List (Terminal × D) → List (Terminal × D) → Type 0} (n : Nonterminal) (w : W) (tokens : List (Terminal × D)) (one other : E) → IsRefusedByRule rules key Wants n w tokens one → IsRefusedByRule rules key Wants n w tokens other → one ≡ other
    one_refused {Wants} n w tokens one other f g =
        let prefix = stops_once productions (the n) tokens f.prefix f.rest g.prefix g.rest f.stops g.stops in
        let rest = after_same f.prefix f.rest g.rest (sym f.stops.parts ∙ g.stops.parts ∙ ap (λ (us : List (Terminal × D)). us ++ g.rest) (sym prefix)) in
        one_cause w f.prefix f.rest one other f.cause
        (subst (λ (us : List (Terminal × D)). IsFirstFaulty rules key w us (kind_of f.rest) other ⊎ IsUnexpectedByRule rules key (Wants g.prefix g.rest) w us f.rest other) (sym prefix)
        (subst (λ (us : List (Terminal × D)). IsFirstFaulty rules key w g.prefix (kind_of us) other ⊎ IsUnexpectedByRule rules key (Wants g.prefix g.rest) w g.prefix us other) (sym rest) g.cause))

-- what a reader by the table refuses has a first fault
module _ {K D W E R : Type 0} {rules : K → Rule D W E R} {key : K} {n : Nonterminal} {w : W} {ts : List (Terminal × D)} {fault : E} (known : D) (Wants : List (Terminal × D) → List (Terminal × D) → Type 0) where
  pub stuck_refused : (s : IsStuck rules key (the n) w ts fault) → ((Derives productions (the n) s.prefix → ⊥) → Wants s.prefix s.rest) → IsRefusedByRule rules key Wants n w ts fault
  stuck_refused s needs = record {
    prefix = s.prefix;
    rest = s.rest;
    stops = gams_stuck_stops known n ts s.prefix s.rest s.reads;
    cause = inr (record { needs = needs (gams_stuck_none known n ts s.prefix s.rest s.reads); are_sound = s.are_sound; is = s.is });
  }

  pub wrong_refused : IsWrong rules key (the n) w ts fault → IsRefusedByRule rules key Wants n w ts fault
  wrong_refused s =
      let over = gams_takes known n ts (s.before ++ s.token ∷ []) s.following s.takes in
      let stop = gams_stops known n ts in
      let more = prefix_begins productions (the n) ts stop.0 stop.1.0 (s.before ++ s.token ∷ []) s.following stop.1.1 over.0 over.1 in
      let following : s.following ≡ more.0 ++ stop.1.0 = after_same (s.before ++ s.token ∷ []) s.following (more.0 ++ stop.1.0) (sym over.0 ∙ stop.1.1.parts ∙ ap (λ (us : List (Terminal × D)). us ++ stop.1.0) more.1 ∙ append_assoc (s.before ++ s.token ∷ []) more.0 stop.1.0) in
      record {
        prefix = stop.0;
        rest = stop.1.0;
        stops = stop.1.1;
        cause = inl (record {
          before = s.before;
          token = s.token;
          following = more.0;
          parts = more.1 ∙ append_assoc s.before (s.token ∷ []) more.0;
          are_sound = s.are_sound;
          is_faulty = subst (λ (k : Terminal). (rules key).Faulty (left_by (rules key).after w s.before s.token.0) s.token k fault) (ap kind_of following ∙ ahead_append more.0 stop.1.0 End) s.is_faulty;
        });
      }
