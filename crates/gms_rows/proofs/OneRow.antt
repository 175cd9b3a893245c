-- The row of an element: its tuple, its two sides, and the step between them.
use Rattle.std.proofs.Common.{◌≡◌, ℕ, true, List, map, Option, Some, None, Ok, Err, refl, sym, ap, ◌∙◌}
use Rattle.gq_number.specs.Number.{Number}
use Rattle.gms_ast.specs.declared.expression.Index.{Index}
use Rattle.gms_ast.specs.TreeView.{index_tree, indices_of}
use Rattle.gms_store.specs.State.{State}
use Rattle.gms_eval.specs.declared.stop.ExecStopOrMemory.{ExecStopOrMemory}
use Rattle.gms_eval.specs.Nodes.{in_order}
use Rattle.gms_eval.specs.Bindings.{Pairs}
use Rattle.gms_eval.specs.Faults.{Answer, ◌and_then◌}
use Rattle.gms_eval.specs.Gives.{ShowsStop}
use Rattle.gms_eval.specs.References.{tuple_of}
use Rattle.gms_eval.specs.Value.{labels, label_answer}
use Rattle.gms_eval.proofs.Answering.{and_then_assoc, stops-then, stops-same}
use Rattle.gms_eval.proofs.TreeValues.{labels-indices_of}
use Rattle.lp_core.specs.declared.program.Sense.{Sense}
use Rattle.gms_rows.specs.Affine.{affine}
use Rattle.gms_rows.specs.Forms.{Form, sum_of_forms}
use Rattle.gms_rows.specs.Rows.{Definition, FormRow, sense_of, row_form, row_under}
use Rattle.gms_rows.proofs.Parts.{tuple_answer}

continues : {A B : Type 0} (a : Answer A) (f g : A → Answer B) → ((x : A) → f x ≡ g x) → (a and_then f) ≡ (a and_then g)
continues (Ok x) f g same = same x
continues (Err fault) f g same = refl

module _ {F : Type 0} (v : F → Number) (limit : ℕ) (state : State) (d : Definition F) (b : Pairs) where
  -- the row of a tuple with a form
  abbrev pub row_with : List ℕ → Sense → Form → FormRow
  row_with t sense form = record { key = record { symbol = d.equation; tuple = t }; sense = sense; form = form }

  -- the row of a tuple, if there is one
  abbrev pub row_at : Option (List ℕ) → Answer (Option FormRow)
  row_at o =
      elim o [
        | None ↦ Ok None
        | Some t ↦ row_form v limit state d b and_then λ form. Ok (Some (record { key = record { symbol = d.equation; tuple = t }; sense = sense_of d.side; form = form }))
      ]

  pub row-is : (indices : List (Index F)) → d.indices ≡ indices_of (map index_tree indices) → row_under v limit state d b ≡ (tuple_answer v limit state b d.equation indices and_then row_at)
  row-is indices is =
      ap (λ i. in_order (labels v limit state b i) and_then λ those. row_at (tuple_of those)) is
      ∙ ap (λ ls. in_order ls and_then λ those. row_at (tuple_of those)) (labels-indices_of v limit state b indices)
      ∙ sym (and_then_assoc (in_order (map (label_answer v limit state b) indices)) (λ those. Ok (tuple_of those)) row_at)

  module _ (indices : List (Index F)) (is : d.indices ≡ indices_of (map index_tree indices)) (t : List ℕ) (given : tuple_answer v limit state b d.equation indices ≡ Ok (Some t)) where
    abbrev last : Form → Form → Answer (Option FormRow)
    last l r = sum_of_forms limit d.right_at b true l r and_then λ form. Ok (Some (row_with t (sense_of d.side) form))

    row-some : row_under v limit state d b ≡ (affine v limit state d.left_at b d.left and_then λ l. affine v limit state d.right_at b d.right and_then λ r. last l r)
    row-some =
        row-is indices is
        ∙ ap (λ a. a and_then row_at) given
        ∙ and_then_assoc (affine v limit state d.left_at b d.left) (λ l. affine v limit state d.right_at b d.right and_then λ r. sum_of_forms limit d.right_at b true l r) (λ form. Ok (Some (row_with t (sense_of d.side) form)))
        ∙ continues (affine v limit state d.left_at b d.left) (λ l. (affine v limit state d.right_at b d.right and_then λ r. sum_of_forms limit d.right_at b true l r) and_then λ form. Ok (Some (row_with t (sense_of d.side) form))) (λ l. affine v limit state d.right_at b d.right and_then λ r. last l r) (λ l. and_then_assoc (affine v limit state d.right_at b d.right) (λ r. sum_of_forms limit d.right_at b true l r) (λ form. Ok (Some (row_with t (sense_of d.side) form))))

    -- a side or the step that stops
    pub row-left_stops : (stop : ExecStopOrMemory F) → ShowsStop v stop (affine v limit state d.left_at b d.left) → ShowsStop v stop (row_under v limit state d b)
    row-left_stops stop s =
        stops-same v stop (row_under v limit state d b) _ row-some (stops-then v stop (affine v limit state d.left_at b d.left) (λ l. affine v limit state d.right_at b d.right and_then λ r. last l r) s)

    module _ (l : Form) (left-is : affine v limit state d.left_at b d.left ≡ Ok l) where
      after-left : row_under v limit state d b ≡ (affine v limit state d.right_at b d.right and_then λ r. last l r)
      after-left = row-some ∙ ap (λ a. a and_then λ l. affine v limit state d.right_at b d.right and_then λ r. last l r) left-is

      pub row-right_stops : (stop : ExecStopOrMemory F) → ShowsStop v stop (affine v limit state d.right_at b d.right) → ShowsStop v stop (row_under v limit state d b)
      row-right_stops stop s =
          stops-same v stop (row_under v limit state d b) _ after-left (stops-then v stop (affine v limit state d.right_at b d.right) (λ r. last l r) s)

      module _ (r : Form) (right-is : affine v limit state d.right_at b d.right ≡ Ok r) where
        after-right : row_under v limit state d b ≡ last l r
        after-right = after-left ∙ ap (λ a. a and_then λ r. last l r) right-is

        pub row-step_stops : (stop : ExecStopOrMemory F) → ShowsStop v stop (sum_of_forms limit d.right_at b true l r) → ShowsStop v stop (row_under v limit state d b)
        row-step_stops stop s =
            stops-same v stop (row_under v limit state d b) _ after-right (stops-then v stop (sum_of_forms limit d.right_at b true l r) (λ form. Ok (Some (row_with t (sense_of d.side) form))) s)

        -- the row
        pub row-made : (form : Form) (sense : Sense) → sum_of_forms limit d.right_at b true l r ≡ Ok form → sense ≡ sense_of d.side → row_under v limit state d b ≡ Ok (Some (row_with t sense form))
        row-made form sense made same =
            after-right ∙ ap (λ a. a and_then λ form. Ok (Some (row_with t (sense_of d.side) form))) made ∙ ap (λ s. Ok (Some (row_with t s form))) (sym same)
