-- The blanks, the bytes and the statement keyword decide which piece it is.
use Rattle.std.proofs.Common.{◌≡◌, ℕ, ◌<◌, ◌≤◌, ◌-◌, ◌==◌, ◌&&◌, ◌||◌, Bool, false, nat_lt, nat_le, List, length, take, drop, sym, ap, ◌∙◌}
use Rattle.std.proofs.lemmas.Bool.{lt-ltb, le-ltb, le-leb, lt-leb, eq-eqb, ne_eqb, cond-true, cond-false, and_from, and_left, and_right}
use Rattle.std.proofs.lemmas.List.{take_rest}
use Rattle.gms_lex.specs.Keywords.{begins_statement}
use Rattle.gms_lex.proofs.piece.table_piece_of.Goals as goal
use Rattle.gms_lex.proofs.piece.table_piece_of.Goals.{else-blanks-gt0-via-then-blanks-gt0+else-begins_statement, then-bytes-blanks, else-bytes-blanks, else-blanks-gt0-via-else-blanks-gt0, then-bytes-eq0, else-bytes-eq0}

-- whether nothing but blanks comes before the end, or a statement begins after the blanks
abbrev ends_after : ℕ → ℕ → List ℕ → Bool
ends_after blanks bytes text = nat_le bytes blanks || begins_statement (drop blanks text)

ends_there : (blanks bytes : ℕ) (text : List ℕ) → bytes ≤ blanks → ends_after blanks bytes text ≡ nat_le bytes blanks
ends_there blanks bytes text h =
    let t = le-leb bytes blanks h in
    ap (λ b. b || begins_statement (drop blanks text)) t ∙ sym t

goes_on : (blanks bytes : ℕ) (text : List ℕ) → blanks < bytes → ends_after blanks bytes text ≡ begins_statement (take (length text - blanks) (drop blanks text))
goes_on blanks bytes text h = ap (λ b. b || begins_statement (drop blanks text)) (lt-leb bytes blanks h) ∙ ap begins_statement (sym (take_rest text blanks))

-- whether there are no bytes, or the text begins with a statement
abbrev is_code : ℕ → List ℕ → Bool
is_code bytes text = bytes == 0 || begins_statement text

no_bytes : (bytes : ℕ) (text : List ℕ) → bytes ≡ 0 → is_code bytes text ≡ (bytes == 0)
no_bytes bytes text h =
    let t = eq-eqb bytes 0 h in
    ap (λ b. b || begins_statement text) t ∙ sym t

some_bytes : (bytes : ℕ) (text : List ℕ) → (bytes ≡ 0 → ⊥) → is_code bytes text ≡ begins_statement text
some_bytes bytes text h = ap (λ b. b || begins_statement text) (ne_eqb bytes 0 h)

pub returns-then-begins_statement : goal.returns-then-begins_statement
returns-then-begins_statement c =
    let blanks = c.args.blanks in
    let bytes = c.args.bytes in
    let text = c.args.text.now in
    let ends : ends_after blanks bytes text ≡ c.if-bytes-blanks.value = elim c.if-bytes-blanks.branch [
      | then-bytes-blanks w ↦ ends_there blanks bytes text w.if-bytes-blanks.true ∙ sym w.value-is
      | else-bytes-blanks w ↦ goes_on blanks bytes text w.if-bytes-blanks.false ∙ sym w.begins_statement.ensures ∙ sym w.value-is
    ] in
    c.lexeme.ensures ∙ sym (cond-true (nat_lt 0 blanks && ends_after blanks bytes text) _ _ (and_from _ _ (lt-ltb 0 blanks c.if-blanks-gt0.true) (ends ∙ c.if-begins_statement.true)))

pub returns-then-begins_statement-2 : goal.returns-then-begins_statement-2
returns-then-begins_statement-2 c =
    let blanks = c.args.blanks in
    let bytes = c.args.bytes in
    let text = c.args.text.now in
    let no_gap : (nat_lt 0 blanks && ends_after blanks bytes text) ≡ false = elim c.else-blanks-gt0.branch [
      | else-blanks-gt0-via-then-blanks-gt0+else-begins_statement w ↦ and_right (nat_lt 0 blanks) (ends_after blanks bytes text) (elim w.if-bytes-blanks.branch [
        | then-bytes-blanks v ↦ ends_there blanks bytes text v.if-bytes-blanks.true ∙ sym v.value-is ∙ w.if-begins_statement.false
        | else-bytes-blanks v ↦ goes_on blanks bytes text v.if-bytes-blanks.false ∙ sym v.begins_statement.ensures ∙ sym v.value-is ∙ w.if-begins_statement.false
      ])
      | else-blanks-gt0-via-else-blanks-gt0 w ↦ and_left (nat_lt 0 blanks) (ends_after blanks bytes text) (le-ltb 0 blanks w.if-blanks-gt0.false)
    ] in
    let code : is_code bytes text ≡ c.if-bytes-eq0.value = elim c.if-bytes-eq0.branch [
      | then-bytes-eq0 w ↦ no_bytes bytes text w.if-bytes-eq0.true ∙ sym w.value-is
      | else-bytes-eq0 w ↦ some_bytes bytes text w.if-bytes-eq0.false ∙ sym w.begins_statement-else-bytes-eq0.ensures ∙ sym w.value-is
    ] in
    c.code_token.ensures ∙ sym (cond-false _ _ _ no_gap ∙ cond-true _ _ _ (code ∙ c.if-begins_statement-2.true))

pub returns-else-begins_statement-2 : goal.returns-else-begins_statement-2
returns-else-begins_statement-2 c =
    let blanks = c.args.blanks in
    let bytes = c.args.bytes in
    let text = c.args.text.now in
    let no_gap : (nat_lt 0 blanks && ends_after blanks bytes text) ≡ false = elim c.else-blanks-gt0.branch [
      | else-blanks-gt0-via-then-blanks-gt0+else-begins_statement w ↦ and_right (nat_lt 0 blanks) (ends_after blanks bytes text) (elim w.if-bytes-blanks.branch [
        | then-bytes-blanks v ↦ ends_there blanks bytes text v.if-bytes-blanks.true ∙ sym v.value-is ∙ w.if-begins_statement.false
        | else-bytes-blanks v ↦ goes_on blanks bytes text v.if-bytes-blanks.false ∙ sym v.begins_statement.ensures ∙ sym v.value-is ∙ w.if-begins_statement.false
      ])
      | else-blanks-gt0-via-else-blanks-gt0 w ↦ and_left (nat_lt 0 blanks) (ends_after blanks bytes text) (le-ltb 0 blanks w.if-blanks-gt0.false)
    ] in
    let code : is_code bytes text ≡ c.if-bytes-eq0.value = elim c.if-bytes-eq0.branch [
      | then-bytes-eq0 w ↦ no_bytes bytes text w.if-bytes-eq0.true ∙ sym w.value-is
      | else-bytes-eq0 w ↦ some_bytes bytes text w.if-bytes-eq0.false ∙ sym w.begins_statement-else-bytes-eq0.ensures ∙ sym w.value-is
    ] in
    c.table_line.ensures ∙ sym (cond-false _ _ _ no_gap ∙ cond-false _ _ _ (code ∙ c.if-begins_statement-2.false))
