-- Alternatives that are chosen by the kind of the next token.
use Rattle.std.proofs.Common.{◌≡◌, ℕ, true, false, List, [], ◌∷◌, Result, Ok, Err, sym, ap, ◌∙◌}
use Rattle.gms_grammar.specs.declared.terminal.Terminal.{Terminal}
use Rattle.gms_grammar.specs.declared.terminal.Terminal.TheVariants.{End}
use Rattle.gms_grammar.specs.Grammar.{the, ◌∣◌, left, right, node}
use Rattle.gms_grammar.specs.LookAhead.{may_begin}
use Rattle.gms_grammar.specs.Reading.{leads}
use Rattle.gms_grammar.specs.Terminals.{is}
use Rattle.gms_grammar.specs.GamsGrammar.{Nonterminal, productions}
use Rattle.gms_grammar.specs.GamsLookAhead.{look_ahead}
use Rattle.gms_parse.specs.declared.fault.SourceFaultOrMemory.{SourceFaultOrMemory}
use Rattle.gms_parse.specs.declared.reader.Reader.{Reader}
use Rattle.gms_parse.specs.declared.reader.Tables.{Tables}
use Rattle.gms_parse.specs.ReadStates.{KindedToken, ReaderState}
use Rattle.gms_parse.specs.InnerReadings.{Derivation, GamsPart, Sense, IsAnswer, kind_of, seen_from}
use Rattle.gms_parse.proofs.Steps.{got_by, Within, within_the, within_left, within_right, within_then}

-- the way into one of alternatives, by a token of this kind
pub data Way (kind : Terminal) : GamsPart → GamsPart → (Derivation → Derivation) → Type 0 where
  at_once : {p : GamsPart} → Way kind p p (λ t. t)
  in_first : {p q r : GamsPart} {c : Derivation → Derivation} → may_begin look_ahead p kind ≡ true → Way kind p r c → Way kind (p ∣ q) r (λ t. left (c t))
  in_other : {p q r : GamsPart} {c : Derivation → Derivation} → may_begin look_ahead p kind ≡ false → may_begin look_ahead q kind ≡ true → Way kind q r c → Way kind (p ∣ q) r (λ t. right (c t))
  in_node : {n : Nonterminal} {r : GamsPart} {c : Derivation → Derivation} → Way kind (productions n) r c → Way kind (the n) r (λ t. node (c t))

-- a token of this kind comes next
pub leads_at : (p : GamsPart) (kind : Terminal) (ts : List KindedToken) → kind_of ts ≡ kind → is End kind ≡ false → leads productions look_ahead p ts ≡ may_begin look_ahead p kind
leads_at p kind [] e h = let f : is End kind ≡ true = ap (is End) (sym e) in cc
leads_at p kind (t ∷ ts) e h = ap (may_begin look_ahead p) e

pub way_within : {limit : ℕ} {source : List ℕ} {kind : Terminal} {p r : GamsPart} {c : Derivation → Derivation} → Way kind p r c → {w : ReaderState} {ts : List KindedToken} → kind_of ts ≡ kind → is End kind ≡ false → Within limit source p w ts r w ts c
way_within at_once e h = record { gives = λ a x following g. g; refuses = λ f r. r }
way_within {kind = kind} (in_first {p = p} k way) {ts = ts} e h = within_then (within_left (leads_at p kind ts e h ∙ k)) (way_within way e h)
way_within {kind = kind} (in_other {p = p} {q = q} k m way) {ts = ts} e h = within_then (within_right (leads_at p kind ts e h ∙ k) (leads_at q kind ts e h ∙ m)) (way_within way e h)
way_within (in_node {n = n} way) e h = within_then (within_the n) (way_within way e h)

-- what was read or refused of an alternative is so of all
pub through : {T : Type 0} {limit : ℕ} {Means : Sense → Derivation → T → Type 0} (Says : Sense → Derivation → T → Type 0) {Leaves : ReaderState → Type 0} (After : ReaderState → Type 0) {p r : GamsPart} {c : Derivation → Derivation} (reader : Reader) (at : ℕ) (new : Tables) (w : ReaderState) (result : Result (T × ℕ) SourceFaultOrMemory) →
    Within limit reader.source.now p w (seen_from reader at) r w (seen_from reader at) c → IsAnswer limit Means Leaves r reader at new w result → ((v : ReaderState) → Leaves v → After v) →
    ((sense : Sense) (tree : Derivation) (x : T) → Means sense tree x → Says sense (c tree) x) → IsAnswer limit Says After p reader at new w result
through Says After {c = c} reader at new w (Ok b) within got holds says = got_by (within.gives _ _ _ got.gives) (holds got.following got.leaves) (λ sense s. says sense got.tree b.0 (got.means sense s)) got.further
through Says After reader at new w (Err e) within r holds says = within.refuses e r
