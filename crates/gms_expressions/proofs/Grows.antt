-- What a test of the next token says of the part that it leads into.
use Rattle.std.proofs.Common.{◌≡◌, Bool, true, false, List, [], ◌∷◌, sym, ◌∙◌}
use Rattle.gms_grammar.specs.declared.terminal.Terminal.{Terminal}
use Rattle.gms_grammar.specs.Grammar.{one, ◌·◌}
use Rattle.gms_grammar.specs.Reading.{leads}
use Rattle.gms_grammar.specs.GamsGrammar.{productions}
use Rattle.gms_grammar.specs.GamsLookAhead.{look_ahead}
use Rattle.gms_grammar.proofs.Basics.{or_left}
use Rattle.gms_expressions.specs.InnerReadings.{Seen, GamsPart}

-- the test answered no
pub none_led : {b : Bool} {x : Bool} → b ≡ x → b ≡ false → x ≡ false
none_led e h = sym e ∙ h

-- the test answered yes
pub some_led : (test : Terminal → Bool) (q : GamsPart) (ts : List Seen) {b : Bool} → b ≡ leads productions look_ahead (one test) ts → b ≡ true → leads productions look_ahead (one test · q) ts ≡ true
some_led test q [] e h = sym e ∙ h
some_led test q (t ∷ ts) e h = or_left (test t.0) _ (sym e ∙ h)
