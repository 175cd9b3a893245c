-- One byte more is at most one line or eight columns further.
use Rattle.std.proofs.Common.{◌≡◌, ℕ, ◌+◌, ◌-◌, ◌*◌, ◌<◌, ◌≤◌, ◌==◌, Bool, true, false, if◌then◌else◌, length, take, get_or, sym, ap, ◌∙◌, subst, arith}
use Rattle.std.proofs.Math.Seq.{take-length}
use Rattle.std.proofs.lemmas.List.Sums.{fold_more}
use Rattle.gms_labels.specs.declared.place.Place.{Place}
use Rattle.gms_grammar.specs.Columns.{column_after}
use Rattle.gms_grammar.proofs.ColumnLemmas.{column_after-bounds}
use Rattle.gms_lex.specs.Places.{place_after, place_after_bytes}
use Rattle.gms_lex.proofs.place.place_after_bytes.Goals as goal

-- at most one line and eight columns further
abbrev IsNear : Place → Place → Type 0
IsNear at next = (next.line ≤ at.line + 1) × (next.column ≤ at.column + 8)

near : (at : Place) (feed : Bool) (column : ℕ) → column ≤ at.column + 8 → IsNear at (if feed then record { line = at.line + 1; column = 1 } else record { line = at.line; column = column })
near at true column h = (omega arith, omega arith)
near at false column h = (omega arith, h)

place_after-near : (at next : Place) (b : ℕ) → next ≡ place_after at b → IsNear at next
place_after-near at next b is =
    subst (IsNear at) (sym is) (near at (b == 10) (column_after at.column b) (column_after-bounds at.column b).1)

line_left : (line next most long i : ℕ) → next ≤ line + 1 → i < long → line + (long - i) ≤ most → next + (long - (i + 1)) ≤ most
line_left line next most long i step within left = omega arith

column_left : (column next most long i : ℕ) → next ≤ column + 8 → i < long → column + 8 * (long - i) ≤ most → next + 8 * (long - (i + 1)) ≤ most
column_left column next most long i step within left = omega arith

line_fits : (line most long i : ℕ) → i < long → line + (long - i) ≤ most → most < 4294967296 → line + 1 < 4294967296
line_fits line most long i within left fits = omega arith

column_fits : (column most long i : ℕ) → i < long → column + 8 * (long - i) ≤ most → most < 4294967296 → column + 8 < 4294967296
column_fits column most long i within left fits = omega arith

without_rest : (n most rest : ℕ) → n + rest ≤ most → n ≤ most
without_rest n most rest h = omega arith

all_read : (i long : ℕ) → i ≤ long → long ≤ i → i ≡ long
all_read i long within ends = omega arith

pub place_after-at-requires : goal.place_after-at-requires
place_after-at-requires c =
    let bytes = c.args.bytes.now in
    record {
      line = line_fits _ _ (length bytes) c.loop-byte.byte-index c.loop-byte-test.true c.loop-byte.invariant.line c.requires.line;
      column = column_fits _ _ (length bytes) c.loop-byte.byte-index c.loop-byte-test.true c.loop-byte.invariant.column c.requires.column;
    }

pub loop-byte-preserved : goal.loop-byte-preserved
loop-byte-preserved c =
    let bytes = c.args.bytes.now in
    let i = c.loop-byte.byte-index in
    let step = place_after-near c.loop-byte.at c.place_after-at.result (get_or bytes i 0) c.place_after-at.ensures in
    record {
      at = c.place_after-at.ensures ∙ ap (λ (p : Place). place_after p (get_or bytes i 0)) c.loop-byte.invariant.at ∙ sym (fold_more place_after c.args.at bytes i 0 c.loop-byte-test.true);
      line = line_left c.loop-byte.at.line _ _ (length bytes) i step.0 c.loop-byte-test.true c.loop-byte.invariant.line;
      column = column_left c.loop-byte.at.column _ _ (length bytes) i step.1 c.loop-byte-test.true c.loop-byte.invariant.column;
    }

pub returns : goal.returns
returns c =
    let bytes = c.args.bytes.now in
    let all = all_read c.loop-byte.byte-index (length bytes) c.loop-byte.auto.byte-index-end c.loop-byte-test.false in
    record {
      value = c.loop-byte.invariant.at ∙ ap (λ n. place_after_bytes c.args.at (take n bytes)) all ∙ ap (place_after_bytes c.args.at) (take-length bytes);
      line = without_rest _ _ _ c.loop-byte.invariant.line;
      column = without_rest _ _ _ c.loop-byte.invariant.column;
    }
