-- Assignments, and the sides of definitions.
use Rattle.std.proofs.Common.{◌≡◌, ℕ, Option as Maybe, option_map, Result, Ok, Err, refl, sym, ap, ap₂, ◌∙◌, arith}
use Rattle.std.specs.Result.{IsOkAnd, MatchResult}
use Rattle.gq_number.specs.Number.{Number}
use Rattle.gms_labels.specs.declared.place.Place.{Place}
use Rattle.gms_ast.specs.declared.expression.Expr.{Expr}
use Rattle.gms_ast.specs.declared.program.Target.{Target as TargetNode}
use Rattle.gms_ast.specs.declared.program.Act.{Act as ActNode}
use Rattle.gms_ast.specs.declared.program.Act.TheVariants.{Assign, Define}
use Rattle.gms_ast.specs.declared.program.Right.TheVariants as right
use Rattle.gms_ast.specs.StatementTrees.{assigns, defines}
use Rattle.gms_ast.specs.StatementView.{shown_tree, shown_indices, shown_target}
use Rattle.gms_ast.specs.declared.program.Side.{Side}
use Rattle.gms_ast.specs.Trees.{Tree as Syntax, Indices, no_index, label, set, lagged}
use Rattle.gms_ast.specs.Numbers.{indices_in_numbers}
use Rattle.gms_lex.specs.declared.token.Token.{Token}
use Rattle.gms_grammar.specs.declared.terminal.Terminal.TheVariants.{Equals, Sense as SenseMark}
use Rattle.gms_grammar.specs.Grammar.{the, ◌·◌, opt}
use Rattle.gms_grammar.specs.Terminals.{is}
use Rattle.gms_grammar.specs.GamsGrammar.{Expression, Condition, Target as TargetPart, Sides as SidesPart, AfterTarget, Assignment, token}
use Rattle.gms_expressions.specs.Outcomes.{next_place}
use Rattle.gms_expressions.specs.ExpressionTrees.{second_in}
use Rattle.gms_parse.specs.declared.assign.Relation.{Relation}
use Rattle.gms_parse.specs.declared.reader.Reader.{Reader}
use Rattle.gms_parse.specs.declared.reader.Tables.{Tables}
use Rattle.gms_parse.specs.Statements.{side_of, assignment_act, assigned}
use Rattle.gms_parse.specs.ReadStates.{ReaderState}
use Rattle.gms_parse.specs.InnerReadings.{Derivation, GamsPart, Sense, IsGot, Has, Stays, StaysOpen, IsNext, seen_from}
use Rattle.gms_parse.specs.InnerMeanings.{IsExpression, IsTarget, IsCondition, IsAssigned, IsDefined, IsRightSide, IsRelated, IsRelation, IsAct, has_lag}
use Rattle.gms_parse.proofs.Steps.{got_by, gives_both, gives_the}
use Rattle.gms_parse.proofs.Nexts.{past, gives_exact, kind_stays, stays_then, earlier}
use Rattle.gms_expressions.proofs.Chains.{place_read}
use Rattle.gms_parse.proofs.Views.{view-Assign, view-Define}

-- ---- right sides

pub right_value_got : {F : Type 0} (value : F → Number) {limit : ℕ} {reader : Reader} {at following next : ℕ} {place : Place} {t : Token} {old new : Tables} {w : ReaderState} {e : Expr F} → Has reader old w → IsNext (is Equals) reader at t following →
    place ≡ next_place reader.source.now (seen_from reader following) →
    IsGot limit (IsExpression value reader.source.now) (StaysOpen reader new (past reader w Equals t following)) (the Expression) reader following new (past reader w Equals t following) e next →
    IsGot limit (IsRightSide value reader.source.now) (Stays reader new w) (token Equals · the Expression) reader at new w (place, e) next
right_value_got value {reader = reader} {t = t} h n placed got = got_by (gives_both (gives_exact {kind = Equals} n refl) got.gives) (stays_then (kind_stays Equals n refl h) got.leaves.stays)
    (λ sense s. (placed ∙ sym (place_read (the Expression) refl got.gives), got.means sense s)) (let a = n.further in let b = got.further in omega arith)

-- ---- sides

pub related_got : {F : Type 0} (value : F → Number) {limit : ℕ} {reader : Reader} {at following next : ℕ} {place : Place} {side : Side} {t : Token} {old new : Tables} {w : ReaderState} {e : Expr F} → Has reader old w → IsNext (is SenseMark) reader at t following →
    side ≡ side_of t.kind → place ≡ next_place reader.source.now (seen_from reader following) →
    IsGot limit (IsExpression value reader.source.now) (StaysOpen reader new (past reader w SenseMark t following)) (the Expression) reader following new (past reader w SenseMark t following) e next →
    IsGot limit (IsRelated value reader.source.now) (Stays reader new w) (token SenseMark · the Expression) reader at new w (side, place, e) next
related_got value {reader = reader} {t = t} h n told placed got = got_by (gives_both (gives_exact {kind = SenseMark} n refl) got.gives) (stays_then (kind_stays SenseMark n refl h) got.leaves.stays)
    (λ sense s. (told, (placed ∙ sym (place_read (the Expression) refl got.gives), got.means sense s))) (let a = n.further in let b = got.further in omega arith)

pub relation_got : {F : Type 0} (value : F → Number) {limit : ℕ} {reader : Reader} {at middle next : ℕ} {between new : Tables} {w : ReaderState} {l r : Expr F} {left_at right_at : Place} {side : Side} → left_at ≡ next_place reader.source.now (seen_from reader at) →
    (one : IsGot limit (IsExpression value reader.source.now) (StaysOpen reader between w) (the Expression) reader at between w l middle) →
    IsGot limit (IsRelated value reader.source.now) (Stays reader new one.following) (token SenseMark · the Expression) reader middle new one.following (side, right_at, r) next →
    IsGot limit (IsRelation value reader.source.now) (Stays reader new w) (the SidesPart) reader at new w (record { left_at = left_at; left = l; side = side; right_at = right_at; right = r }) next
relation_got value placed one other = got_by (gives_the SidesPart (gives_both one.gives other.gives)) (stays_then one.leaves.stays other.leaves)
    (λ sense s.
    let m = other.means sense s in
    ap₂ (λ (x : Place × Syntax Number) (y : Side × (Place × Syntax Number)). record { left_at = x.0; left = x.1; side = y.0; right_at = y.1.0; right = y.1.1 })
    (ap₂ (λ a b. (a, b)) (placed ∙ sym (place_read (the Expression) refl one.gives)) (one.means sense (earlier other.gives one.leaves.stays.has.holds other.leaves.has.holds s)))
    (ap₂ (λ (a : Side) (b : Place × Syntax Number). (a, b)) m.0 (ap₂ (λ a b. (a, b)) m.1.0 m.1.1)))
    (let a = one.further in let b = other.further in omega arith)

-- what was read, as what is made of it
pub made_of : {T U : Type 0} {limit : ℕ} {Means : Sense → Derivation → T → Type 0} {Meant : Sense → Derivation → U → Type 0} {Leaves : ReaderState → Type 0} {part : GamsPart} {reader : Reader} {at next : ℕ} {new : Tables} {w : ReaderState} {x : T} {y : U} →
    ((sense : Sense) (tree : Derivation) → Means sense tree x → Meant sense tree y) → IsGot limit Means Leaves part reader at new w x next → IsGot limit Meant Leaves part reader at new w y next
made_of turned got = got_by got.gives got.leaves (λ sense s. turned sense got.tree (got.means sense s)) got.further

pub assigned_as : {F : Type 0} (value : F → Number) {limit : ℕ} {Leaves : ReaderState → Type 0} {part : GamsPart} {reader : Reader} {at next : ℕ} {new : Tables} {w : ReaderState} (target : TargetNode F) (condition : Maybe (Expr F)) (found : Place × Expr F) →
    IsGot limit (IsRightSide value reader.source.now) Leaves part reader at new w found next → IsGot limit (IsAssigned value reader.source.now target condition) Leaves part reader at new w (Assign target condition found.0 (right.Value found.1)) next
assigned_as value target condition found got =
    made_of (λ sense tree same. view-Assign value target condition found.0 (right.Value found.1) ∙ ap₂ (assigns (shown_target value target) (option_map (shown_tree value) condition)) same.0 same.1) got

pub defined_as : {F : Type 0} (value : F → Number) {limit : ℕ} {Leaves : ReaderState → Type 0} {part : GamsPart} {reader : Reader} {at next : ℕ} {new : Tables} {w : ReaderState} (equation : TargetNode F) (condition : Maybe (Expr F)) (found : Relation F) →
    IsGot limit (IsRelation value reader.source.now) Leaves part reader at new w found next →
    IsGot limit (IsDefined value reader.source.now equation condition) Leaves part reader at new w (Define (record { at = equation.at; name = equation.name }) equation.indices condition found.left_at found.left found.side found.right_at found.right) next
defined_as value equation condition found got =
    made_of (λ sense tree same. view-Define value (record { at = equation.at; name = equation.name }) equation.indices condition found.left_at found.left found.side found.right_at found.right ∙ ap (defines (record { at = equation.at; name = equation.name }) (shown_indices value equation.indices) (option_map (shown_tree value) condition)) same) got

-- an answer, by what is made of what was read
pub mapped : {T U E : Type 0} {P : T → Type 0} (P' : U → Type 0) {Q Q' : E → Type 0} {Made : T → U → Type 0} (f : T → U) (r : Result T E) (made : Result U E) → MatchResult r P Q → MatchResult r (λ x. IsOkAnd made (Made x)) (λ e. made ≡ Err e) →
    ((x : T) (y : U) → Made x y → y ≡ f x) → ((x : T) → P x → P' (f x)) → ((e : E) → Q e → Q' e) → MatchResult made P' Q'
mapped P' f (Ok x) (Ok y) m k same p q = rw (same x y k) (p x m)
mapped P' f (Ok x) (Err e) m k same p q = absurd k
mapped P' f (Err e) made m k same p q = rw k (q e m)

-- ---- assignments in loops

pub assignment_got : {F : Type 0} (value : F → Number) {limit : ℕ} {reader : Reader} {at middle further next : ℕ} {first second new : Tables} {w : ReaderState} {target : TargetNode F} {condition : Maybe (Expr F)} {act : ActNode F} →
    (t : IsGot limit (IsTarget value reader.source.now) (StaysOpen reader first w) (the TargetPart) reader at first w target middle) → (c : IsGot limit (IsCondition value reader.source.now) (StaysOpen reader second t.following) (opt (the Condition)) reader middle second t.following condition further) →
    IsGot limit (IsAssigned value reader.source.now target condition) (Stays reader new c.following) (token Equals · the Expression) reader further new c.following act next → IsGot limit (IsAct value reader.source.now assignment_act) (Stays reader new w) (the Assignment) reader at new w act next
assignment_got value {reader = reader} t c r = got_by (gives_the Assignment (gives_both t.gives (gives_the AfterTarget (gives_both c.gives r.gives)))) (stays_then t.leaves.stays (stays_then c.leaves.stays r.leaves))
    (λ sense s.
    let s2 = earlier r.gives c.leaves.stays.has.holds r.leaves.has.holds s in
    let s1 = earlier c.gives t.leaves.stays.has.holds c.leaves.stays.has.holds s2 in
    r.means sense s ∙ ap₂ (λ x y. assigned reader.source.now sense.names sense.labels x y (second_in r.tree)) (t.means sense s1) (c.means sense s2))
    (let x = t.further in let y = c.further in let z = r.further in omega arith)

-- ---- lags

pub lag_in_numbers : {F : Type 0} (value : F → Number) (is : Indices F) → has_lag (indices_in_numbers value is) ≡ has_lag is
lag_in_numbers value no_index = refl
lag_in_numbers value (label n rest) = lag_in_numbers value rest
lag_in_numbers value (set n rest) = lag_in_numbers value rest
lag_in_numbers value (lagged name op at amount rest) = refl
