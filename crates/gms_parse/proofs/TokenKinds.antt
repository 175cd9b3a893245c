-- Kinds of tokens, told apart, and what the kind of the next token determines of the parts that it
-- leads into.
use Rattle.std.proofs.Common.{◌≡◌, Bool, true, false, not, ◌&&◌, ◌||◌, List, [], ◌∷◌, sym, ◌∙◌}
use Rattle.std.proofs.lemmas.Bool.{eqb-true}
use Rattle.gms_grammar.specs.declared.terminal.Terminal.{Terminal}
use Rattle.gms_grammar.specs.declared.terminal.Terminal.TheVariants.{LeftParen, RightParen, Name, Suffix, Text, Label, Number, TableLine, Semicolon, End}
use Rattle.gms_grammar.specs.Grammar.{one, ◌·◌, ◌∣◌}
use Rattle.gms_grammar.specs.LookAhead.{may_begin}
use Rattle.gms_grammar.specs.Reading.{leads}
use Rattle.gms_grammar.specs.Terminals.{is, is_terminal_among}
use Rattle.gms_grammar.specs.GamsGrammar.{productions}
use Rattle.gms_grammar.specs.GamsLookAhead.{look_ahead}
use Rattle.gms_grammar.proofs.Basics.{or_left, or_right, or_both}
use Rattle.gms_expressions.proofs.TokenKinds.{implies, also, same_number}
use Rattle.gms_expressions.proofs.Leading.{unless}
pub use Rattle.gms_expressions.proofs.TokenKinds.{leads_by_kind}
pub use Rattle.gms_expressions.proofs.Leading.{leads_of, IsNone, not_among, leads_of_none}
pub use Rattle.gms_grammar.proofs.Eithers.{unled_next}
use Rattle.gms_parse.specs.ReadStates.{KindedToken, is_keyword}
use Rattle.gms_parse.specs.InnerReadings.{GamsPart, kind_of}

-- a token of the kind begins a statement, or ends one
abbrev pub begins : Terminal → Bool
begins kind = is_keyword kind || is Semicolon kind

-- a token of the kind opens and closes nothing, enters nothing, and is no number
abbrev pub is_quiet : Terminal → Bool
is_quiet kind = not (is_terminal_among (LeftParen ∷ RightParen ∷ Name ∷ Suffix ∷ Text ∷ Label ∷ Number ∷ TableLine ∷ []) kind)

-- the same, within a statement
abbrev pub is_plain : Terminal → Bool
is_plain kind = is_quiet kind && not (begins kind)

-- the same kinds
pub same_kind : (a b : Terminal) → is a b ≡ true → a ≡ b
same_kind a b h = same_number a b (eqb-true _ _ h)

-- two parts that the same kinds begin
pub leads_alike : (p q : GamsPart) (ts : List KindedToken) → may_begin look_ahead p End ≡ false → may_begin look_ahead q End ≡ false → ((kind : Terminal) → may_begin look_ahead p kind ≡ may_begin look_ahead q kind) → leads productions look_ahead p ts ≡ leads productions look_ahead q ts
leads_alike p q ts h k same = leads_by_kind p ts h ∙ same (kind_of ts) ∙ sym (leads_by_kind q ts k)

-- what does not lead into a part does not lead into one that fewer kinds begin
pub unled_less : (p q : GamsPart) (ts : List KindedToken) → may_begin look_ahead p End ≡ false → may_begin look_ahead q End ≡ false → implies (may_begin look_ahead p) (may_begin look_ahead q) ≡ true → leads productions look_ahead q ts ≡ false → leads productions look_ahead p ts ≡ false
unled_less p q ts h k less unled = leads_by_kind p ts h ∙ unless _ _ (also (may_begin look_ahead p) (may_begin look_ahead q) less (kind_of ts)) (sym (leads_by_kind q ts k) ∙ unled)

-- what leads into a part leads into one that more kinds begin
pub led_more : (p q : GamsPart) (ts : List KindedToken) → may_begin look_ahead p End ≡ false → may_begin look_ahead q End ≡ false → implies (may_begin look_ahead p) (may_begin look_ahead q) ≡ true → leads productions look_ahead p ts ≡ true → leads productions look_ahead q ts ≡ true
led_more p q ts h k less led = leads_by_kind q ts k ∙ also (may_begin look_ahead p) (may_begin look_ahead q) less (kind_of ts) (sym (leads_by_kind p ts h) ∙ led)

-- what the next token leads into
pub led_first : (test : Terminal → Bool) (q : GamsPart) (ts : List KindedToken) → leads productions look_ahead (one test) ts ≡ true → leads productions look_ahead (one test · q) ts ≡ true
led_first test q [] h = h
led_first test q (t ∷ ts) h = or_left (test t.0) _ h

-- the next token leads into one of two parts, or into neither
pub led_either : (p q : GamsPart) (ts : List KindedToken) → leads productions look_ahead p ts ≡ true → leads productions look_ahead (p ∣ q) ts ≡ true
led_either p q [] h = h
led_either p q (t ∷ ts) h = or_left (may_begin look_ahead p t.0) (may_begin look_ahead q t.0) h

pub led_other : (p q : GamsPart) (ts : List KindedToken) → leads productions look_ahead q ts ≡ true → leads productions look_ahead (p ∣ q) ts ≡ true
led_other p q [] h = h
led_other p q (t ∷ ts) h = or_right (may_begin look_ahead p t.0) (may_begin look_ahead q t.0) h

pub unled_either : (p q : GamsPart) (ts : List KindedToken) → leads productions look_ahead p ts ≡ false → leads productions look_ahead q ts ≡ false → leads productions look_ahead (p ∣ q) ts ≡ false
unled_either p q [] h k = h
unled_either p q (t ∷ ts) h k = or_both (may_begin look_ahead p t.0) (may_begin look_ahead q t.0) h k
