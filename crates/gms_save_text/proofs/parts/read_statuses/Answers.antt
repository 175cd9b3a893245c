use Rattle.std.proofs.Common.{◌≡◌, ◌∙◌, ◌++◌, ◌∷◌, ℕ, List, ap, decimal}
use Rattle.gms_store.specs.State.{model_with}
use Rattle.gms_save_text.specs.SavedState.{part}
use Rattle.gms_save_text.specs.Validity.{declared_symbols}
use Rattle.std.specs.Prelude.{codes}
use Rattle.gms_save_text.proofs.Declared.{declared-statuses}
use Rattle.gms_save_text.proofs.Finding.{handed_on}
use Rattle.gms_save_text.proofs.Lines.{line_prefix, line_item, line_last}
use Rattle.gms_save_text.proofs.parts.read_statuses.Goals as goal

-- the text after a model's name
abbrev after_name : ℕ → ℕ → List ℕ → List ℕ
after_name m s rest = decimal m ++ 32 ∷ (decimal s ++ 10 ∷ rest)

-- the line, item by item
line : (name : List ℕ) (m s : ℕ) (rest : List ℕ) → part name (model_with m s) ++ rest ≡ codes "model " ++ (name ++ 32 ∷ after_name m s rest)
line name m s rest =
    line_prefix (codes "model ") (name ++ 32 ∷ (decimal m ++ 32 ∷ decimal s)) rest (name ++ 32 ∷ after_name m s rest)
    (line_item name (decimal m ++ 32 ∷ decimal s) rest (after_name m s rest) (line_last (decimal m) (decimal s) rest))

pub returns-in_err-following-clause-statuses : goal.returns-in_err-following-clause-statuses
returns-in_err-following-clause-statuses g c m s rest small less is =
    handed_on _ _ _ _ c.from_residual.ensures.1 (c.in_err-following.ensures (32 ∷ after_name m s rest) (is ∙ line c.args.name.now m s rest))

pub returns-in_err-digits-clause-statuses : goal.returns-in_err-digits-clause-statuses
returns-in_err-digits-clause-statuses g c m s rest small less is =
    let following = c.in_ok-following.ensures (32 ∷ after_name m s rest) (is ∙ line c.args.name.now m s rest) in
    handed_on _ _ _ _ c.from_residual-in_err-digits.ensures.1 (c.in_err-digits.ensures (after_name m s rest) following)

pub returns-in_err-status-clause-statuses : goal.returns-in_err-status-clause-statuses
returns-in_err-status-clause-statuses g c m s rest small less is =
    let following = c.in_ok-following.ensures (32 ∷ after_name m s rest) (is ∙ line c.args.name.now m s rest) in
    let digits = c.in_ok-digits.ensures (after_name m s rest) following in
    handed_on _ _ _ _ c.from_residual-in_err-status.ensures.1 (c.in_err-status.ensures m (decimal s ++ 10 ∷ rest) small digits)

pub returns-in_err-solver-clause-statuses : goal.returns-in_err-solver-clause-statuses
returns-in_err-solver-clause-statuses g c m s rest small less is =
    let following = c.in_ok-following.ensures (32 ∷ after_name m s rest) (is ∙ line c.args.name.now m s rest) in
    let digits = c.in_ok-digits.ensures (after_name m s rest) following in
    let status = c.in_ok-status.ensures m (decimal s ++ 10 ∷ rest) small digits in
    handed_on _ _ _ _ c.from_residual-in_err-solver.ensures.1 (c.in_err-solver.ensures s rest less status.1)

pub returns-clause-statuses : goal.returns-clause-statuses
returns-clause-statuses g c m s rest small less is =
    let following = c.in_ok-following.ensures (32 ∷ after_name m s rest) (is ∙ line c.args.name.now m s rest) in
    let digits = c.in_ok-digits.ensures (after_name m s rest) following in
    let status = c.in_ok-status.ensures m (decimal s ++ 10 ∷ rest) small digits in
    let solver = c.in_ok-solver.ensures s rest less status.1 in
    (solver.1, rw (← status.0, ← solver.0) c.put_status.ensures)

pub returns-clause-declared : goal.returns-clause-declared
returns-clause-declared g c = ap declared_symbols c.put_status.ensures ∙ declared-statuses c.args.store.now c.args.model c.in_ok-status.status c.in_ok-solver.solver
