use Rattle.std.proofs.Common.{◌≡◌, ◌∙◌, ◌≤◌, ◌-◌, ◌&&◌, ℕ, Bool, List, [], ◌∷◌, length, take, drop, get_or, sym, ap, arith}
use Rattle.std.specs.Prelude.{nat_le}
use Rattle.std.specs.List.{list_all}
use Rattle.std.specs.Char.{is_ascii_alphabetic}
use Rattle.gms_save_text.specs.Validity.{is_solver_byte, is_solver_name}
use Rattle.gms_save_text.proofs.Cuts.{tail_range}
use Rattle.gms_save_text.proofs.validity.is_solver_name.Goals as goal

-- a name by its first byte and the others
name_is : (text : List ℕ) → 1 ≤ length text → is_solver_name text ≡ (is_ascii_alphabetic (get_or text 0 0) && (list_all is_solver_byte (take (length text - 1) (drop 1 text)) && nat_le (length (take (length text - 1) (drop 1 text))) 62))
name_is [] some = absurd (omega arith)
name_is (b ∷ bs) some = ap (λ (l : List ℕ). is_ascii_alphabetic b && (list_all is_solver_byte l && nat_le (length l) 62)) (sym (tail_range 1 (b ∷ bs)))

pub returns-then-is_ascii_alphabetic : goal.returns-then-is_ascii_alphabetic
returns-then-is_ascii_alphabetic c =
    let text = c.args.text.now in
    let rest = take (length text - 1) (drop 1 text) in
    sym (name_is text c.in-len1-up.len_at_least ∙ ap (λ (b : Bool). b && (list_all is_solver_byte rest && nat_le (length rest) 62)) (sym c.is_ascii_alphabetic.ensures.value ∙ c.if-is_ascii_alphabetic.true) ∙ sym c.is_solver_rest.ensures)
