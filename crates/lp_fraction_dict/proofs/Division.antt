-- A row divided entry by entry: the made entries are right at the columns before, and the remaining
-- entries are the rest.
use Rattle.std.proofs.Common.{◌≡◌, ◌≢◌, ℕ, ◌+◌, ◌<◌, ◌≤◌, inl, inr, true, false, pos, List, [], ◌∷◌, ◌++◌, length, Some, refl, sym, ap, ◌∙◌, subst, arith}
use Rattle.std.proofs.lemmas.Bool.{cases_lt}
use Rattle.gq_number.specs.Number.{Number, whole, ◌/ℚ◌, inv_ℚ}
use Rattle.gq_number.proofs.Field.{/ℚ_is}
use Rattle.gq_number.proofs.Quotients.{zero-/ℚ, *ℚ-≢-zero, inv-≢-zero}
use Rattle.lp_core.specs.Steps.{quotient_fits}
use Rattle.lp_form.proofs.Zeros.{fits-zero}
use Rattle.lp_fraction_dict.specs.declared.row.Entry.{Entry}
use Rattle.lp_fraction_dict.specs.declared.fault.Part.TheVariants as part
use Rattle.lp_fraction_dict.specs.Rows.{IsRow, number_in, PushesUnlessZero, IsDivided, IsFirstUndivided}
use Rattle.lp_fraction_dict.proofs.Rows.{number_above, row_to}
use Rattle.lp_fraction_dict.proofs.Turns.{Left, Passed, passed, pushed_here, pushed_other, pushed_row}

no_length : {X : Type 0} (xs : List X) → length xs ≡ 0 → xs ≡ []
no_length [] none = refl
no_length (x ∷ xs) none = absurd (omega arith)

zero_fits : (limit : ℕ) (x divisor : Number) → 1 ≤ limit → x ≡ whole (pos 0) → quotient_fits limit x divisor ≡ true
zero_fits limit x divisor some e = rw (e, zero-/ℚ divisor) (fits-zero limit some)

zero-over : (x z divisor : Number) → x ≡ whole (pos 0) → z ≡ whole (pos 0) → z ≡ x /ℚ divisor
zero-over x z divisor e h = rw (e, h, zero-/ℚ divisor) refl

quotient-≢-zero : (x divisor z : Number) → x ≢ whole (pos 0) → divisor ≢ whole (pos 0) → z ≡ x /ℚ divisor → z ≢ whole (pos 0)
quotient-≢-zero x divisor z some other is none =
    *ℚ-≢-zero x (inv_ℚ divisor) some (inv-≢-zero divisor other) (sym (/ℚ_is x divisor) ∙ sym is ∙ none)

-- A row, divided up to a column: what is left of it, and what is made of what came before.
pub record Dividing {F : Type 0} (value : F → Number) (limit high : ℕ) (row : List (Entry F)) (divisor : Number) (rest made : List (Entry F)) : Type 0 where
  pub column : ℕ
  pub within : column ≤ high
  pub left : Left value high row rest column
  pub is_row : IsRow value 0 column made
  pub numbers : (c : ℕ) → c < column → number_in value made c ≡ number_in value row c /ℚ divisor
  pub fit : (c : ℕ) → c < column → quotient_fits limit (number_in value row c) divisor ≡ true

module _ {F : Type 0} (value : F → Number) (limit high : ℕ) (row : List (Entry F)) (divisor : Number) (some : 1 ≤ limit) where
  pub division_begins : (made : List (Entry F)) → made ≡ [] → IsRow value 0 high row → Dividing value limit high row divisor row made
  division_begins made none h =
      rw none (record {
        column = 0;
        within = omega arith;
        left = record { is_row = h; numbers = λ c from. refl };
        is_row = tt;
        numbers = λ c to. absurd (omega arith);
        fit = λ c to. absurd (omega arith);
      })

  module _ (rest made : List (Entry F)) (e : Entry F) (after : List (Entry F)) (d : Dividing value limit high row divisor rest made) (first : rest ≡ e ∷ after) where
    rest_row : IsRow value d.column high (e ∷ after)
    rest_row = subst (IsRow value d.column high) first d.left.is_row

    row_passed : Passed value high row after d.column e.column (value e.number)
    row_passed =
        let starts : e.column ≤ e.column = omega arith in
        passed value high row (e ∷ after) after d.column e.column (Some e.number) (subst (λ r. Left value high row r d.column) first d.left) rest_row.0 starts refl

    fit_before : (c : ℕ) → c < e.column → quotient_fits limit (number_in value row c) divisor ≡ true
    fit_before c to =
        elim (cases_lt c d.column) [
          | inl less ↦ d.fit c less
          | inr more ↦ zero_fits limit (number_in value row c) divisor some (row_passed.before c more to)
        ]

    pub division_stops : quotient_fits limit (value e.number) divisor ≡ false → IsFirstUndivided value limit high row divisor e.column part.Product
    division_stops none =
        record {
          is_product = refl;
          within = rest_row.1;
          before = fit_before;
          here = subst (λ x. quotient_fits limit x divisor ≡ false) (sym row_passed.here) none;
        }

    module _ (z : F) (now : List (Entry F)) (other : divisor ≢ whole (pos 0)) (fits_here : quotient_fits limit (value e.number) divisor ≡ true) (is : value z ≡ value e.number /ℚ divisor) (now_is : now ≡ made ++ record { column = e.column; number = z } ∷ []) where
      pushed : PushesUnlessZero value e.column z made now
      pushed = inl (quotient-≢-zero (value e.number) divisor (value z) rest_row.2 other is, now_is)

      number_before_it : (c : ℕ) → c < e.column → number_in value now c ≡ number_in value row c /ℚ divisor
      number_before_it c to =
          pushed_other value made now e.column c z (λ same. absurd (omega arith)) pushed
          ∙ elim (cases_lt c d.column) [
            | inl less ↦ d.numbers c less
            | inr more ↦ zero-over (number_in value row c) (number_in value made c) divisor (row_passed.before c more to) (number_above value made 0 d.column c d.is_row more)
          ]

      number_at_it : number_in value now e.column ≡ number_in value row e.column /ℚ divisor
      number_at_it = pushed_here value made now d.column e.column z d.is_row rest_row.0 pushed ∙ is ∙ ap (λ x. x /ℚ divisor) (sym row_passed.here)

      pub division_goes : Dividing value limit high row divisor after now
      division_goes =
          let most = rest_row.1 in
          record {
            column = e.column + 1;
            within = omega arith;
            left = row_passed.left;
            is_row = pushed_row value made now d.column e.column z d.is_row rest_row.0 pushed;
            numbers = λ c to. elim (cases_lt c e.column) [
              | inl less ↦ number_before_it c less
              | inr more ↦ let same : e.column ≡ c = omega arith in subst (λ k. number_in value now k ≡ number_in value row k /ℚ divisor) same number_at_it
            ];
            fit = λ c to. elim (cases_lt c e.column) [
              | inl less ↦ fit_before c less
              | inr more ↦ let same : e.column ≡ c = omega arith in subst (λ k. quotient_fits limit (number_in value row k) divisor ≡ true) same (subst (λ x. quotient_fits limit x divisor ≡ true) (sym row_passed.here) fits_here)
            ];
          }

  pub division_ends : (rest made : List (Entry F)) → Dividing value limit high row divisor rest made → length rest ≡ 0 → IsDivided value limit high row divisor made
  division_ends rest made d empty =
      let none : rest ≡ [] = no_length rest empty in
      let row_zero : (c : ℕ) → d.column ≤ c → number_in value row c ≡ whole (pos 0) = λ c more. d.left.numbers c more ∙ ap (λ r. number_in value r c) none in
      record {
        is_row = row_to value made 0 d.column high d.is_row d.within;
        numbers = λ c. elim (cases_lt c d.column) [
          | inl less ↦ d.numbers c less
          | inr more ↦ zero-over (number_in value row c) (number_in value made c) divisor (row_zero c more) (number_above value made 0 d.column c d.is_row more)
        ];
        fit = λ c. elim (cases_lt c d.column) [
          | inl less ↦ d.fit c less
          | inr more ↦ zero_fits limit (number_in value row c) divisor some (row_zero c more)
        ];
      }
