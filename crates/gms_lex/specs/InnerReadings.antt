-- What is read of a source in two passes, over its lines and over its tokens, and the earlier of
-- two faults.
use Rattle.std.specs.Prelude.{ℕ, ◌≤◌, Bool, ◌&&◌, ◌||◌, ◌==◌, nat_lt, nat_le, if◌then◌else◌, List, length, Option, Some, None}
use Rattle.gms_grammar.specs.declared.fault.ByteFault.{ByteFault}
use Rattle.gms_grammar.specs.Errors.{lex_error_code}
use Rattle.gms_lex.specs.declared.token.Token.{Token}
use Rattle.gms_lex.specs.Tokens.{HasTokens, StopsAt}

-- one fault comes before another, or is it
abbrev pub is_before : ByteFault → ByteFault → Bool
is_before f g = nat_lt f.at g.at || (f.at == g.at && nat_le (lex_error_code f.error) (lex_error_code g.error))

-- the earlier of two faults, if any
abbrev pub earlier : Option ByteFault → Option ByteFault → Option ByteFault
earlier None g = g
earlier (Some f) None = Some f
earlier (Some f) (Some g) = if is_before f g then Some f else Some g

-- Tokens that were read from a text: all of the source, or those before the error at which they
-- stop.
abbrev pub IsReading : List ℕ → List ℕ → List Token → Option ByteFault → Type 0
IsReading source text tokens None = HasTokens source text tokens
IsReading source text tokens (Some fault) = StopsAt text fault × (fault.at ≤ length text)
