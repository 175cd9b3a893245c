-- Forms joined in sequence: one more, a stop, and the end.
use Rattle.std.proofs.Common.{◌≡◌, ℕ, ◌+◌, ◌<◌, ◌≤◌, List, ◌∷◌, map, drop, length, get_or, Option, Some, unwrap_or, Ok, sym, ap, ◌∙◌}
use Rattle.std.proofs.lemmas.List.{at_drop_more, at_drop_all}
use Rattle.gq_number.specs.Number.{Number}
use Rattle.gms_ast.specs.Trees.{Mark}
use Rattle.gms_eval.specs.declared.stop.ExecStopOrMemory.{ExecStopOrMemory}
use Rattle.gms_eval.specs.Faults.{Answer, ◌and_then◌}
use Rattle.gms_eval.specs.Gives.{ShowsStop}
use Rattle.gms_eval.proofs.Answering.{stops-same, stops-then}
use Rattle.gms_rows.specs.Affine.{Join, with_next, joined_forms}
use Rattle.gms_rows.specs.Forms.{Form, zero_form}

module _ {X : Type 0} (join : Join) (mark : X → Mark) (answer : X → Answer Form) where
  -- the forms of these parts, joined to the form so far
  abbrev pub from_here : Option Form → List X → Answer Form
  from_here so_far xs = joined_forms join so_far (map (λ x. (mark x, answer x)) xs)

  -- what the forms of the next part and of those after it add to the form so far
  abbrev pub after_next : Option Form → X → List X → Form → Answer Form
  after_next so_far x xs form = with_next join (mark x) so_far form and_then λ next. from_here (Some next) xs

  here : (so_far : Option Form) (xs : List X) (i : ℕ) (x : X) → i < length xs → x ≡ get_or xs i x → from_here so_far (drop i xs) ≡ (answer x and_then after_next so_far x (drop (i + 1) xs))
  here so_far xs i x l at =
      at_drop_more (from_here so_far) xs i x l ∙ ap (λ (z : X). from_here so_far (z ∷ drop (i + 1) xs)) (sym at)

  -- one more
  pub join-more : (so_far : Option Form) (form next : Form) (xs : List X) (i : ℕ) (x : X) → i < length xs → x ≡ get_or xs i x → answer x ≡ Ok form → with_next join (mark x) so_far form ≡ Ok next → from_here so_far (drop i xs) ≡ from_here (Some next) (drop (i + 1) xs)
  join-more so_far form next xs i x l at e s =
      here so_far xs i x l at
      ∙ ap (λ a. a and_then after_next so_far x (drop (i + 1) xs)) e
      ∙ ap (λ a. a and_then λ next. from_here (Some next) (drop (i + 1) xs)) s

  -- no one is left
  pub join-end : (so_far : Option Form) (xs : List X) (i : ℕ) → length xs ≤ i → from_here so_far (drop i xs) ≡ Ok (unwrap_or so_far zero_form)
  join-end so_far xs i all = at_drop_all (from_here so_far) xs i all

  module _ {F : Type 0} (v : F → Number) (stop : ExecStopOrMemory F) (whole : Answer Form) (so_far : Option Form) (xs : List X) (i : ℕ) (x : X) (is : whole ≡ from_here so_far (drop i xs)) (l : i < length xs) (at : x ≡ get_or xs i x) where
    -- the form of the next stops
    pub part-stops : ShowsStop v stop (answer x) → ShowsStop v stop whole
    part-stops s =
        stops-same v stop whole _ (is ∙ here so_far xs i x l at) (stops-then v stop (answer x) (after_next so_far x (drop (i + 1) xs)) s)

    -- the step to it stops
    pub join-stops : (form : Form) → answer x ≡ Ok form → ShowsStop v stop (with_next join (mark x) so_far form) → ShowsStop v stop whole
    join-stops form e s =
        stops-same v stop whole _ (is ∙ here so_far xs i x l at ∙ ap (λ a. a and_then after_next so_far x (drop (i + 1) xs)) e) (stops-then v stop (with_next join (mark x) so_far form) (λ next. from_here (Some next) (drop (i + 1) xs)) s)
