use Rattle.std.proofs.Common.{◌≡◌, ◌==◌, true, false, List, [], ◌∷◌, map, length, refl, sym, ap, ◌∙◌, inl, inr, arith}
use Rattle.std.proofs.lemmas.Bool.{eqb-true}
use Rattle.gms_expressions.proofs.Signs.{handed_on}
use Rattle.gms_table.specs.declared.entry.TableLine.{TableLine}
use Rattle.gms_table.specs.declared.fault.TableFaultOrMemory.TheVariants.{Memory}
use Rattle.gms_parse.specs.Tables.{item_of_entry}
use Rattle.gms_parse.proofs.reader.Reader.table_items.Goals as goal
use Rattle.gms_parse.proofs.reader.Reader.table_items.Goals.{else-is_empty-via-then-is_empty+else-not-ends_statement, else-is_empty-via-else-is_empty}

empty_is : (ls : List TableLine) → (length ls == 0) ≡ true → ls ≡ []
empty_is [] h = refl
empty_is (l ∷ ls) h = let e = eqb-true (length (l ∷ ls)) 0 h in absurd (omega (arith, e))

not_empty : (ls : List TableLine) → (length ls == 0) ≡ false → ls ≡ [] → ⊥
not_empty ls h e = let k : (length ls == 0) ≡ true = ap (λ (xs : List TableLine). length xs == 0) e in cc

pub returns-then-not-ends_statement : goal.returns-then-not-ends_statement
returns-then-not-ends_statement g c = record {
  entries = [];
  items_are = c.new-then-not-ends_statement.ensures ∙ c.new.ensures.items;
  entries_are = inl (empty_is c.args.lines.now (sym c.is_empty.ensures ∙ c.if-is_empty.true), sym c.ends_statement.ensures ∙ c.if-not-ends_statement.true, refl, refl);
}

pub returns-in-Err : goal.returns-in-Err
returns-in-Err g c = elim c.else-is_empty.branch [
  | else-is_empty-via-then-is_empty+else-not-ends_statement w ↦ record { found = c.in-Err.fault; refused = c.in-Err.ensures.table; told = c.table_fault.ensures; ended = λ e. sym w.ends_statement.ensures ∙ w.if-not-ends_statement.false }
  | else-is_empty-via-else-is_empty w ↦ record { found = c.in-Err.fault; refused = c.in-Err.ensures.table; told = c.table_fault.ensures; ended = λ e. absurd (not_empty c.args.lines.now (sym c.is_empty.ensures ∙ w.if-is_empty.false) e) }
]

pub returns-in_ok-items_of-in-Ok : goal.returns-in_ok-items_of-in-Ok
returns-in_ok-items_of-in-Ok g c = record {
  entries = c.in-Ok.entries.items;
  items_are = c.in_ok-items_of-in-Ok.ensures ∙ ap (map item_of_entry) c.as_slice.ensures.value;
  entries_are = inr c.in-Ok.ensures.table;
}

pub returns-in_err-items_of-in-Ok : goal.returns-in_err-items_of-in-Ok
returns-in_err-items_of-in-Ok g c = handed_on _ _ c.from_residual.result _ c.from_residual.ensures.1 (elim c.else-is_empty.branch [
  | else-is_empty-via-then-is_empty+else-not-ends_statement w ↦ record { found = Memory; refused = tt; told = refl; ended = λ e. sym w.ends_statement.ensures ∙ w.if-not-ends_statement.false }
  | else-is_empty-via-else-is_empty w ↦ record { found = Memory; refused = tt; told = refl; ended = λ e. absurd (not_empty c.args.lines.now (sym c.is_empty.ensures ∙ w.if-is_empty.false) e) }
])
