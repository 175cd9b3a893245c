-- The left sides of assignments in an accepted program: which indices occur there (GAMS User's
-- Guide, "Data Manipulations with Parameters", indexed assignments; "Sets as Sequences: Ordered
-- Sets", lags and leads in assignments).
use Rattle.std.specs.Prelude.{◌≡◌, ◌++◌, ◌∷◌, ℕ, zero, suc, Bool, true, false, List, Vec}
use Rattle.std.specs.declared.alloc.Global.{Global}
use Rattle.gms_ast.specs.declared.expression.Control.{Control}
use Rattle.gms_ast.specs.declared.expression.Suffix.TheVariants as suffix
use Rattle.gms_ast.specs.declared.program.Act.{Loop}
use Rattle.gms_ast.specs.declared.program.Stmt.{Stmt}
use Rattle.gms_ast.specs.Trees as tree
use Rattle.gms_store.specs.State.{State}
use Rattle.gms_scope.specs.Names.{is_index_set}

-- whether an expression, the amount of a lag, is a number or a name without suffix and indices
abbrev pub is_fixed_amount : {F : Type 0} → tree.Tree F → Bool
is_fixed_amount (tree.number n) = true
is_fixed_amount (tree.reference at name suffix.None tree.no_index) = true
is_fixed_amount e = false

-- indices that the left side of an assignment may have: each set among them is one-dimensional, and
-- each amount of a lag is a number or a name without suffix and indices
abbrev pub AreTargetIndices : {F : Type 0} → State → tree.Indices F → Type 0
AreTargetIndices state tree.no_index = Unit {0}
AreTargetIndices state (tree.label label rest) = AreTargetIndices state rest
AreTargetIndices state (tree.set name rest) = (is_index_set state name ≡ true) × AreTargetIndices state rest
AreTargetIndices state (tree.lagged name op at amount rest) = (is_index_set state name ≡ true) × ((is_fixed_amount amount ≡ true) × AreTargetIndices state rest)

module _ {F : Type 0} where
  -- The statement `outer` is a loop, and the statement `next` in its body has the property `Inner`.
  pub record IsIn (Inner : Stmt F → Type 0) (outer : Stmt F) : Type 0 where
    pub control : Control F
    pub body : Vec (Stmt F) Global
    pub loop : outer.act ≡ Loop control body
    pub before : List (Stmt F)
    pub next : Stmt F
    pub rest : List (Stmt F)
    pub occurs : body.items ≡ before ++ next ∷ rest
    pub holds : Inner next

  -- the statement `inner` is `outer` itself if `depth` is 0; otherwise it is in the body of the
  -- innermost of exactly `depth` nested loops, of which `outer` is the outermost
  abbrev pub IsNestedIn : ℕ → Stmt F → Stmt F → Type 0
  IsNestedIn zero inner outer = outer ≡ inner
  IsNestedIn (suc depth) inner outer = IsIn (IsNestedIn depth inner) outer
