-- What is printed of solves, in sequence.
use Rattle.std.proofs.Common.{◌≡◌, ℕ, suc, ◌+◌, ◌<◌, ◌≤◌, Option, List, [], ◌∷◌, ◌++◌, length, map, take, get_or, Some, refl, sym, ap, ap₂, subst, ◌∙◌, add-one, append_assoc, append-nil, arith}
use Rattle.std.specs.Prelude.{slice_get, IfSome}
use Rattle.std.proofs.Math.Seq.{take-suc}
use Rattle.std.proofs.lemmas.List.{length-map, length-take-le, map-append, take_all}
use Rattle.std.proofs.lemmas.Option.{slice_get_read}
use Rattle.gq_number.specs.Number.{Number}
use Rattle.lp_core.specs.declared.answer.Answer.{Answer}
use Rattle.lp_core.specs.declared.answer.End.{End}
use Rattle.lp_core.specs.declared.answer.End.TheVariants.{Optimal, Infeasible, Unbounded, Interrupted, Refused}
use Rattle.lp_core.specs.declared.answer.Pivot.{Pivot}
use Rattle.lp_core.specs.declared.program.Column.{Column}
use Rattle.lp_core.specs.declared.program.Row.{Row}
use Rattle.lp_core.specs.declared.program.Lp.{Lp}
use Rattle.lp_core.specs.Dictionary.{Dictionary}
use Rattle.lp_core.specs.Numbers.{answer_numbers, column_numbers, lp_numbers, row_numbers}
use Rattle.lp_range.specs.declared.interval.Interval.{Interval}
use Rattle.lp_range.specs.Ranges.{LeadTo, costs, rights, span_value}
use Rattle.gms_command.specs.CommandLine.{ranges_line}
use Rattle.gms_command.specs.Answered.{AreSomeAnswers, IsSomeAnswer}
use Rattle.gms_command.specs.RangeTexts.{SaysAnswer, SaysRanges, cost_lines, right_lines, spans_text}
use Rattle.gms_command.proofs.Same.{costs_same, leads_same, rights_same}

-- ---- lists

-- the first elements, and one more
pub taken_more : {X Y : Type 0} (f : X → Y) (xs : List X) (i : ℕ) (x : X) → i < length xs → x ≡ get_or xs i x → map f (take (i + 1) xs) ≡ map f (take i xs) ++ f x ∷ []
taken_more f xs i x within is =
    ap (λ k. map f (take k xs)) (add-one i) ∙ ap (map f) (take-suc xs i x within) ∙ map-append f (take i xs) (get_or xs i x ∷ []) ∙ ap (λ y. map f (take i xs) ++ f y ∷ []) (sym is)

-- how many the first are
pub taken_many : {X Y : Type 0} (f : X → Y) (xs : List X) (i : ℕ) → i < length xs → length (map f (take i xs)) ≡ i
taken_many f xs i within = length-map (take i xs) f ∙ length-take-le i xs (omega (arith, within))

-- ---- one solve

module _ {F : Type 0} (value : F → Number) (limit : ℕ) (programs : List (Lp F)) (answers : List (Answer F)) where
  -- the answer at a place is one of the program there
  pub answered_at : (place : ℕ) (lp : Lp F) (answer : Answer F) → AreSomeAnswers value limit programs answers → place < length programs → place < length answers →
      lp ≡ get_or programs place lp → answer ≡ get_or answers place answer → IsSomeAnswer value limit lp answer
  answered_at place lp answer are in_programs in_answers is_lp is_answer =
      let one : IfSome (Some lp) (λ p. IfSome (slice_get answers place) (IsSomeAnswer value limit p)) = subst (λ o. IfSome o (λ p. IfSome (slice_get answers place) (IsSomeAnswer value limit p))) (slice_get_read programs (length programs) place lp refl in_programs is_lp) (are.each place) in
      subst (λ o. IfSome o (IsSomeAnswer value limit lp)) (slice_get_read answers (length answers) place answer refl in_answers is_answer) one

-- three texts appended to another
three_after : (old a b c one two new : List ℕ) → one ≡ old ++ a → two ≡ one ++ b → new ≡ two ++ c → new ≡ old ++ (a ++ b ++ c)
three_after old a b c one two new first second third =
    third ∙ ap (λ t. t ++ c) (second ∙ ap (λ t. t ++ b) first ∙ append_assoc old a b) ∙ append_assoc old (a ++ b) c

module _ {F : Type 0} (value : F → Number) (names labels : List (List ℕ)) (limit solve : ℕ) (lp : Lp F) where
  -- what is printed of an optimum at the final dictionary
  pub says_optimum : (answer : Answer F) (levels row_levels duals reduced : List F) (old new : List ℕ) → answer.end ≡ Optimal levels row_levels duals reduced →
      (last : Dictionary) × LeadTo value limit lp answer.pivots last × (new ≡ old ++ spans_text names labels solve (lp_numbers value lp) (rights value limit lp last) (costs value limit lp last)) →
      (said : List ℕ) × SaysAnswer names labels limit solve (lp_numbers value lp) (answer_numbers value answer) said × (new ≡ old ++ said)
  says_optimum answer levels row_levels duals reduced old new is (last, leads, text) =
      let said : List ℕ = spans_text names labels solve (lp_numbers value lp) (rights value limit lp last) (costs value limit lp last) in
      let spans = ap₂ (spans_text names labels solve (lp_numbers value lp)) (sym (rights_same value limit lp last)) (sym (costs_same value limit lp last)) in
      let told : SaysAnswer names labels limit solve (lp_numbers value lp) (answer_numbers value (record { pivots = answer.pivots; end = Optimal levels row_levels duals reduced })) said = (last, leads_same value limit lp answer.pivots last leads, spans) in
      (said, subst (λ (end : End F). SaysAnswer names labels limit solve (lp_numbers value lp) (answer_numbers value (record { pivots = answer.pivots; end = end })) said) (sym is) told, text)

  -- for any other end nothing is printed
  pub says_nothing : (answer : Answer F) (old : List ℕ) → ((levels row_levels duals reduced : List F) → answer.end ≡ Optimal levels row_levels duals reduced → ⊥) →
      (said : List ℕ) × SaysAnswer names labels limit solve (lp_numbers value lp) (answer_numbers value answer) said × (old ≡ old ++ said)
  says_nothing answer old other = ([], by answer.end refl, sym (append-nil old))
    where
      by : (end : End F) → answer.end ≡ end → SaysAnswer names labels limit solve (lp_numbers value lp) (answer_numbers value answer) []
      by (Optimal levels row_levels duals reduced) is = absurd (other levels row_levels duals reduced is)
      by (Infeasible duals crossed) is = subst (λ (end : End F). SaysAnswer names labels limit solve (lp_numbers value lp) (answer_numbers value (record { pivots = answer.pivots; end = end })) []) (sym is) refl
      by (Unbounded levels row_levels ray) is = subst (λ (end : End F). SaysAnswer names labels limit solve (lp_numbers value lp) (answer_numbers value (record { pivots = answer.pivots; end = end })) []) (sym is) refl
      by (Interrupted phase levels row_levels) is = subst (λ (end : End F). SaysAnswer names labels limit solve (lp_numbers value lp) (answer_numbers value (record { pivots = answer.pivots; end = end })) []) (sym is) refl
      by (Refused step) is = subst (λ (end : End F). SaysAnswer names labels limit solve (lp_numbers value lp) (answer_numbers value (record { pivots = answer.pivots; end = end })) []) (sym is) refl

  -- a head, the lines of rows and those of columns were appended
  pub optimum_text : (pivots : List Pivot) (made_rights made_costs of_rights of_costs : List (Option (Interval F))) (rows : List (Row F)) (columns : List (Column F)) (old head one two new : List ℕ) →
      (last : Dictionary) × LeadTo value limit lp pivots last × (map (span_value value) made_rights ≡ rights value limit lp last) × (map (span_value value) made_costs ≡ costs value limit lp last) →
      of_rights ≡ made_rights → of_costs ≡ made_costs → rows ≡ lp.rows → columns ≡ lp.columns → head ≡ ranges_line solve → one ≡ old ++ head →
      two ≡ one ++ right_lines names labels (map (row_numbers value) rows) (map (span_value value) of_rights) →
      new ≡ two ++ cost_lines names labels (map (column_numbers value) columns) (map (span_value value) of_costs) →
      (last : Dictionary) × LeadTo value limit lp pivots last × (new ≡ old ++ spans_text names labels solve (lp_numbers value lp) (rights value limit lp last) (costs value limit lp last))
  optimum_text pivots made_rights made_costs of_rights of_costs rows columns old head one two new (last, leads, right, cost) rights_are costs_are rows_are columns_are head_is first second third =
      let right_text : List ℕ = right_lines names labels (map (row_numbers value) lp.rows) (rights value limit lp last) in
      let cost_text : List ℕ = cost_lines names labels (map (column_numbers value) lp.columns) (costs value limit lp last) in
      let a : one ≡ old ++ ranges_line solve = first ∙ ap (λ t. old ++ t) head_is in
      let b : two ≡ one ++ right_text = second ∙ ap₂ (λ xs ys. one ++ right_lines names labels (map (row_numbers value) xs) ys) rows_are (ap (map (span_value value)) rights_are ∙ right) in
      let c : new ≡ two ++ cost_text = third ∙ ap₂ (λ xs ys. two ++ cost_lines names labels (map (column_numbers value) xs) ys) columns_are (ap (map (span_value value)) costs_are ∙ cost) in
      (last, leads, three_after old (ranges_line solve) right_text cost_text one two new a b c)

-- ---- one solve more

module _ (names labels : List (List ℕ)) (limit : ℕ) where
  pub says_more : (solve : ℕ) (programs : List (Lp Number)) (answers : List (Answer Number)) (lp : Lp Number) (answer : Answer Number) (text one : List ℕ) → length programs ≡ length answers →
      SaysRanges names labels limit solve programs answers text → SaysAnswer names labels limit (solve + length programs) lp answer one →
      SaysRanges names labels limit solve (programs ++ lp ∷ []) (answers ++ answer ∷ []) (text ++ one)
  says_more solve [] [] lp answer text one same is of =
      let here : solve + 0 ≡ solve = omega arith in
      (one, [], subst (λ n. SaysAnswer names labels limit n lp answer one) here of, refl, ap (λ t. t ++ one) is ∙ sym (append-nil one))
  says_more solve (p ∷ programs) (a ∷ answers) lp answer text one same (first, rest, is, more, split) of =
      let next : solve + suc (length programs) ≡ (solve + 1) + length programs = omega arith in
      let as_many : length programs ≡ length answers = omega (arith, same) in (
        first,
        rest ++ one,
        is,
        says_more (solve + 1) programs answers lp answer rest one as_many more (subst (λ n. SaysAnswer names labels limit n lp answer one) next of),
        ap (λ t. t ++ one) split ∙ append_assoc first rest one,
      )
  says_more solve [] (a ∷ answers) lp answer text one same is of = absurd (omega (arith, same))
  says_more solve (p ∷ programs) [] lp answer text one same is of = absurd (omega (arith, same))

  -- the first solves, and the next one
  pub says_next : {F : Type 0} (value : F → Number) (programs : List (Lp F)) (answers : List (Answer F)) (place : ℕ) (lp : Lp F) (answer : Answer F) (text new : List ℕ) →
      place < length programs → place < length answers → lp ≡ get_or programs place lp → answer ≡ get_or answers place answer →
      SaysRanges names labels limit 1 (map (lp_numbers value) (take place programs)) (map (answer_numbers value) (take place answers)) text →
      (said : List ℕ) × SaysAnswer names labels limit (place + 1) (lp_numbers value lp) (answer_numbers value answer) said × (new ≡ text ++ said) →
      SaysRanges names labels limit 1 (map (lp_numbers value) (take (place + 1) programs)) (map (answer_numbers value) (take (place + 1) answers)) new
  says_next {F} value programs answers place lp answer text new in_programs in_answers is_lp is_answer so_far (said, of, following) =
      let ps = taken_more (lp_numbers value) programs place lp in_programs is_lp in
      let ans = taken_more (answer_numbers value) answers place answer in_answers is_answer in
      let many : length (map (lp_numbers value) (take place programs)) ≡ place = taken_many (lp_numbers value) programs place in_programs in
      let many_answers : length (map (answer_numbers value) (take place answers)) ≡ place = taken_many (answer_numbers value) answers place in_answers in
      let number : place + 1 ≡ 1 + length (map (lp_numbers value) (take place programs)) = omega (arith, many) in
      rw (ps, ans, following)
      (says_more 1 (map (lp_numbers value) (take place programs)) (map (answer_numbers value) (take place answers)) (lp_numbers value lp) (answer_numbers value answer) text said (many ∙ sym many_answers) so_far (subst (λ n. SaysAnswer names labels limit n (lp_numbers value lp) (answer_numbers value answer) said) number of))

  -- all solves
  pub says_all : {F : Type 0} (value : F → Number) (programs : List (Lp F)) (answers : List (Answer F)) (place : ℕ) (text : List ℕ) → length programs ≡ length answers → length answers ≤ place →
      SaysRanges names labels limit 1 (map (lp_numbers value) (take place programs)) (map (answer_numbers value) (take place answers)) text →
      SaysRanges names labels limit 1 (map (lp_numbers value) programs) (map (answer_numbers value) answers) text
  says_all {F} value programs answers place text many end so_far =
      let in_programs : length programs ≤ place = omega (arith, many, end) in
      subst (λ (ps : List (Lp F)). SaysRanges names labels limit 1 (map (lp_numbers value) ps) (map (answer_numbers value) answers) text) (take_all place programs in_programs)
      (subst (λ (given : List (Answer F)). SaysRanges names labels limit 1 (map (lp_numbers value) (take place programs)) (map (answer_numbers value) given) text) (take_all place answers end) so_far)
