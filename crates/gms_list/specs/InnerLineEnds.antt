-- The text after the end of a line.
use Rattle.std.specs.Prelude.{ℕ, ◌==◌, ◌&&◌, List, [], ◌∷◌, drop, if◌then◌else◌}
use Rattle.gms_grammar.specs.Lines.{begins}

-- the text after the line end with which a text begins: a line feed, or a carriage return and a
-- line feed; nothing if it begins with no line end
abbrev pub text_after_end : List ℕ → List ℕ
text_after_end [] = []
text_after_end (b ∷ t) = if b == 10 then t else (if b == 13 && begins (λ c. c == 10) t then drop 1 t else [])
