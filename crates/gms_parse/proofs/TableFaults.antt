-- A table has one first fault.
use Rattle.std.proofs.Common.{◌≡◌, ℕ, ◌≤◌, ◌==◌, List, [], ◌∷◌, ◌++◌, if◌then◌else◌, refl, sym, ap, ap₂, ◌∙◌, subst, append_assoc, append-nil, arith, inl, inr}
use Rattle.gms_labels.specs.declared.place.Place.{Place}
use Rattle.gms_table.specs.declared.fault.TableError.{TableError}
use Rattle.gms_table.specs.declared.fault.TableError.TheVariants.{NoColumn, TwoColumns, RepeatedEntry, BadRow, NoHeading, Labels}
use Rattle.gms_table.specs.declared.fault.TableFault.{TableFault}
use Rattle.gms_table.specs.Faults.{table_error_code}
use Rattle.gms_table.specs.TableEntries.{TablePart, place_of_part, IsPartFault, ArePartsFaultless, IsFirstPartFault}
use Rattle.gms_parse.specs.declared.fault.SourceFault.{SourceFault}
use Rattle.gms_parse.specs.Faults.{error_of_table}
use Rattle.gms_parse.specs.Tables.{parts_of_tokens, IsTableLineFault}
use Rattle.gms_parse.specs.ReadStates.{KindedToken}
use Rattle.gms_grammar.proofs.Orders.{Order, at_once, earlier, later, order, some_there}

-- the error of a number
abbrev error_of_code : ℕ → TableError
error_of_code n =
    if n == 21 then NoColumn else (if n == 22 then TwoColumns else (if n == 23 then RepeatedEntry else (if n == 24 then BadRow else (if n == 25 then NoHeading else Labels))))

error_is : (error : TableError) → error_of_code (table_error_code error) ≡ error
error_is NoColumn = refl
error_is TwoColumns = refl
error_is RepeatedEntry = refl
error_is BadRow = refl
error_is NoHeading = refl
error_is Labels = refl

module _ (limit : ℕ) (labels : List (List ℕ)) where
  -- a sound part has no error
  pub occurs_not : (done before : List TablePart) (part : TablePart) (following : List TablePart) (error : TableError) → ArePartsFaultless limit labels done (before ++ (part ∷ following)) → IsPartFault limit labels (done ++ before) part error → ⊥
  occurs_not done [] part following error sound h = sound.0 error (subst (λ (ps : List TablePart). IsPartFault limit labels ps part error) (append-nil done) h)
  occurs_not done (p ∷ before) part following error sound h =
      occurs_not (done ++ p ∷ []) before part following error sound.1 (subst (λ (ps : List TablePart). IsPartFault limit labels ps part error) (sym (append_assoc done (p ∷ []) before)) h)

  -- two first faults of a table are one
  pub one_first : (parts : List TablePart) (one other : TableFault) → IsFirstPartFault limit labels parts one → IsFirstPartFault limit labels parts other → one ≡ other
  one_first parts one other f g = by (order f.before f.part f.following g.before g.part g.following (sym f.parts_are ∙ g.parts_are))
    where
      by : Order f.before f.part f.following g.before g.part g.following → one ≡ other
      by (earlier w e k) = absurd (occurs_not [] f.before f.part w one.error (subst (λ (ps : List TablePart). ArePartsFaultless limit labels [] ps) e g.sound) f.occurs)
      by (later w e k) = absurd (occurs_not [] g.before g.part w other.error (subst (λ (ps : List TablePart). ArePartsFaultless limit labels [] ps) e f.sound) g.occurs)
      by (at_once prefix part rest) =
          let there : IsPartFault limit labels f.before f.part other.error = subst (λ (ps : List TablePart). IsPartFault limit labels ps f.part other.error) (sym prefix) (subst (λ (p : TablePart). IsPartFault limit labels g.before p other.error) (sym part) g.occurs) in
          let here : IsPartFault limit labels g.before g.part one.error = subst (λ (ps : List TablePart). IsPartFault limit labels ps g.part one.error) prefix (subst (λ (p : TablePart). IsPartFault limit labels f.before p one.error) part f.occurs) in
          let less : table_error_code one.error ≤ table_error_code other.error = f.least other.error there in
          let more : table_error_code other.error ≤ table_error_code one.error = g.least one.error here in
          let codes : table_error_code one.error ≡ table_error_code other.error = omega (arith, less, more) in
          ap₂ (λ (e : TableError) (p : Place). record { error = e; at = p }) (sym (error_is one.error) ∙ ap error_of_code codes ∙ error_is other.error) (f.at ∙ ap place_of_part part ∙ sym g.at)

-- what is told of a fault of a table
abbrev told_of : TableFault → SourceFault
told_of fault = record { error = error_of_table fault.error; at = fault.at }

-- two faults of the lines of a table are one
pub one_line_fault : (limit : ℕ) (source : List ℕ) (name : Place) (labels : List (List ℕ)) (lines : List KindedToken) (one other : SourceFault) → IsTableLineFault limit source name labels lines one → IsTableLineFault limit source name labels lines other → one ≡ other
one_line_fault limit source name labels lines one other (inl a) (inl b) = a.1 ∙ sym b.1
one_line_fault limit source name labels lines one other (inl a) (inr b) = absurd (some_there b.1.before b.1.part b.1.following (sym a.0 ∙ b.1.parts_are))
one_line_fault limit source name labels lines one other (inr a) (inl b) = absurd (some_there a.1.before a.1.part a.1.following (sym b.0 ∙ a.1.parts_are))
one_line_fault limit source name labels lines one other (inr a) (inr b) =
    let same = one_first limit labels (parts_of_tokens source lines) a.0 b.0 a.1 b.1 in
    a.2 ∙ ap told_of same ∙ sym b.2
