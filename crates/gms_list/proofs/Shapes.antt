-- Lines as their pieces are appended in sequence, and as their definitions put them together.
use Rattle.std.proofs.Common.{◌≡◌, ℕ, ◌++◌, List, [], ◌∷◌, codes, decimal, refl, sym, ap₂, ◌∙◌}
use Rattle.std.proofs.lemmas.List.{append_assoc, append-nil}
use Rattle.gms_fmt.specs.Columns.{right_in, left_in}
use Rattle.std.proofs.Common.{Option, Some, None, option_map}
use Rattle.gq_number.specs.Number.{Number}
use Rattle.lp_form.specs.declared.key.Key.{Key}
use Rattle.lp_core.specs.Feasible.{bound_value}
use Rattle.gms_list.specs.SolveText.{point_text}
use Rattle.gms_list.specs.Amounts.{line_of}

-- an item that is a text
pub text_item : (head text : List ℕ) (n : ℕ) → head ≡ codes "---- " ++ (decimal n ++ codes " ") → head ++ (text ++ 10 ∷ []) ≡ codes "---- " ++ decimal n ++ codes " " ++ line_of text
text_item head text n e = rw e (simp append_assoc)

-- an item that is a symbol
pub symbol_item : (head kind word suffix a b c values : List ℕ) (n : ℕ) → head ≡ codes "---- " ++ (decimal n ++ (codes " " ++ (kind ++ (codes " " ++ (word ++ suffix))))) →
    kind ≡ a → word ≡ b → suffix ≡ c → head ++ values ≡ codes "---- " ++ decimal n ++ codes " " ++ (a ++ codes " " ++ b ++ c ++ values)
symbol_item head kind word suffix a b c values n e f g h = rw (e, f, g, h) (pieces (codes "---- ") (decimal n) (codes " ") a (codes " ") b c values)
  where
    pieces : (x d y k z w f v : List ℕ) → (x ++ (d ++ (y ++ (k ++ (z ++ (w ++ f)))))) ++ v ≡ x ++ d ++ y ++ (k ++ z ++ w ++ f ++ v)
    pieces x d y k z w f v = simp append_assoc

-- the value of a symbol without indices
pub single_value : (text whole : List ℕ) → text ≡ whole → codes " = " ++ (text ++ 10 ∷ []) ≡ line_of (codes " = " ++ whole)
single_value text whole e = rw e (simp append_assoc)

-- an entry with its value
pub entry_line : (tuple value a b : List ℕ) (n : ℕ) → tuple ≡ a → value ≡ b →
    (codes "  " ++ left_in n tuple) ++ ((codes " " ++ right_in 14 value) ++ 10 ∷ []) ≡ line_of (codes "  " ++ left_in n a ++ codes " " ++ right_in 14 b)
entry_line tuple value a b n e f = ap₂ (λ t v. (codes "  " ++ left_in n t) ++ ((codes " " ++ right_in 14 v) ++ 10 ∷ [])) e f ∙ pieces (codes "  ") (left_in n a) (codes " ") (right_in 14 b) (10 ∷ [])
  where
    pieces : (x l y r e : List ℕ) → (x ++ l) ++ ((y ++ r) ++ e) ≡ x ++ l ++ y ++ r ++ e
    pieces x l y r e = simp append_assoc

-- a line of two blanks and a text
pub member_line : (made tuple a : List ℕ) → made ≡ codes "  " ++ (tuple ++ codes "\n") → tuple ≡ a → made ≡ line_of (codes "  " ++ a)
member_line made tuple a e f = rw (e, f) (simp append_assoc)

-- a word, a name and the text after it
pub head_of : (made word text following a : List ℕ) → made ≡ word ++ (text ++ following) → text ≡ a → made ≡ word ++ a ++ following
head_of made word text following a e f = rw (e, f) (simp append_assoc)

-- a term of a row
pub term : (made sign number column a b c : List ℕ) → made ≡ sign ++ (number ++ (codes "*" ++ column)) → sign ≡ a → number ≡ b → column ≡ c → made ≡ a ++ b ++ codes "*" ++ c
term made sign number column a b c e f g h = rw (e, f, g, h) (simp append_assoc)

-- a row
pub row_line : (head end key sense right terms all a b c : List ℕ) → terms ≡ all → head ≡ codes " " ++ (key ++ codes "..") → end ≡ sense ++ (right ++ codes "\n") → key ≡ a → sense ≡ b → right ≡ c →
    head ++ (terms ++ end) ≡ line_of (codes " " ++ a ++ codes ".." ++ all ++ b ++ c)
row_line head end key sense right terms all a b c d e f g h k = rw (d, e, f, g, h, k) (pieces (codes " ") a (codes "..") all b c (10 ∷ []))
  where
    pieces : (x a y t b c e : List ℕ) → (x ++ (a ++ y)) ++ (t ++ (b ++ (c ++ e))) ≡ x ++ a ++ y ++ t ++ b ++ c ++ e
    pieces x a y t b c e = simp append_assoc

-- how many more there are
pub more_line : (made what : List ℕ) (n : ℕ) → made ≡ codes " (" ++ (decimal n ++ (codes " more " ++ (what ++ codes ")\n"))) → made ≡ line_of (codes " (" ++ decimal n ++ codes " more " ++ what ++ codes ")")
more_line made what n e = rw e (simp append_assoc)

-- an entry of a column
pub coefficient_line : (made number key a b : List ℕ) → made ≡ codes "  " ++ (number ++ (codes " " ++ (key ++ codes "\n"))) → number ≡ a → key ≡ b → made ≡ line_of (codes "  " ++ a ++ codes " " ++ b)
coefficient_line made number key a b e f g = rw (e, f, g) (simp append_assoc)

-- a column with its bounds
pub column_line : (made key lower upper a b c : List ℕ) → made ≡ codes " " ++ (key ++ (codes " lower " ++ (lower ++ (codes " upper " ++ (upper ++ codes "\n"))))) → key ≡ a → lower ≡ b → upper ≡ c →
    made ≡ line_of (codes " " ++ a ++ codes " lower " ++ b ++ codes " upper " ++ c)
column_line made key lower upper a b c e f g h = rw (e, f, g, h) (simp append_assoc)

-- three pieces
pub three : (a b c : List ℕ) → a ++ (b ++ c) ≡ a ++ b ++ c
three a b c = sym (append_assoc a b c)

-- a head and the text after its line feed
pub headed : (word text a b : List ℕ) → (word ++ text ++ codes "\n") ++ (a ++ b) ≡ line_of (word ++ text) ++ a ++ b
headed word text a b = simp append_assoc

-- a line of a solution
pub point_line : (text end mark l v u m a : List ℕ) (n : ℕ) → end ≡ mark ++ codes "\n" → text ≡ a →
    (codes "  " ++ left_in n text) ++ ((l ++ (v ++ (u ++ m))) ++ end) ≡ line_of (codes "  " ++ left_in n a ++ l ++ v ++ u ++ m ++ mark)
point_line text end mark l v u m a n e f =
    ap₂ (λ t d. (codes "  " ++ left_in n t) ++ ((l ++ (v ++ (u ++ m))) ++ d)) f e ∙ pieces (codes "  ") (left_in n a) l v u m mark (10 ∷ [])
  where
    pieces : (x t l v u m k e : List ℕ) → (x ++ t) ++ ((l ++ (v ++ (u ++ m))) ++ (k ++ e)) ≡ x ++ t ++ l ++ v ++ u ++ m ++ k ++ e
    pieces x t l v u m k e = simp append_assoc

-- an element with a number
pub number_line : (made word element number a b : List ℕ) → made ≡ codes "  " ++ (word ++ (codes " " ++ (element ++ (codes " = " ++ (number ++ codes "\n"))))) → element ≡ a → number ≡ b →
    made ≡ line_of (codes "  " ++ word ++ codes " " ++ a ++ codes " = " ++ b)
number_line made word element number a b e f g = rw (e, f, g) (simp append_assoc)

-- a bound of crossed ones
pub crossed_part : (made number a : List ℕ) → made ≡ codes " " ++ number → number ≡ a → made ≡ (codes " " ++ a) ++ []
crossed_part made number a e f = rw (e, f) (sym (append-nil (codes " " ++ a)))

-- a column whose bounds cross
pub crossed_line : (made key lower upper a b : List ℕ) → made ≡ codes "  crossed " ++ (key ++ (lower ++ (upper ++ codes "\n"))) → key ≡ a → lower ++ upper ≡ b → made ≡ line_of (codes "  crossed " ++ a ++ b)
crossed_line made key lower upper a b e f g = e ∙ pieces (codes "  crossed ") key lower upper (10 ∷ []) ∙ ap₂ (λ k u. line_of (codes "  crossed " ++ k ++ u)) f g
  where
    pieces : (x k l u e : List ℕ) → x ++ (k ++ (l ++ (u ++ e))) ≡ x ++ k ++ (l ++ u) ++ e
    pieces x k l u e = simp append_assoc

-- a line of a word and a text
pub word_line : (made word text a : List ℕ) → made ≡ word ++ (text ++ codes "\n") → text ≡ a → made ≡ line_of (word ++ a)
word_line made word text a e f = rw (e, f) (simp append_assoc)

-- the line of a solve's statement
pub solve_line : (made model direction objective a b c : List ℕ) (n : ℕ) → made ≡ codes "---- " ++ (decimal n ++ (codes " SOLVE " ++ (model ++ (direction ++ (objective ++ codes "\n"))))) →
    model ≡ a → direction ≡ b → objective ≡ c → made ≡ line_of (codes "---- " ++ decimal n ++ codes " SOLVE " ++ a ++ b ++ c)
solve_line made model direction objective a b c n e f g h = rw (e, f, g, h) (simp append_assoc)

-- the counts, the solver and the statuses
pub summary_lines : (counts solver s m o statuses : List ℕ) (rows columns nonzeros pivots most : ℕ) →
    counts ≡ codes "ROWS " ++ (decimal rows ++ (codes " COLUMNS " ++ (decimal columns ++ (codes " NONZEROS " ++ (decimal nonzeros ++ codes "\nSOLVER "))))) →
    statuses ≡ line_of (codes " PIVOTS " ++ decimal pivots ++ codes " LIMIT " ++ decimal most) ++ (s ++ (m ++ o)) →
    counts ++ (solver ++ statuses) ≡ line_of (codes "ROWS " ++ decimal rows ++ codes " COLUMNS " ++ decimal columns ++ codes " NONZEROS " ++ decimal nonzeros) ++ line_of (codes "SOLVER " ++ solver ++ codes " PIVOTS " ++ decimal pivots ++ codes " LIMIT " ++ decimal most) ++ s ++ m ++ o
summary_lines counts solver s m o statuses rows columns nonzeros pivots most e f =
    ap₂ (λ c t. c ++ (solver ++ t)) e f
    ∙ pieces (codes "ROWS ") (decimal rows) (codes " COLUMNS ") (decimal columns) (codes " NONZEROS ") (decimal nonzeros) (codes "SOLVER ") solver (codes " PIVOTS ") (decimal pivots) (codes " LIMIT ") (decimal most) (10 ∷ []) s m o
  where
    pieces : (a b c d e f g h i j k l n s m o : List ℕ) →
        (a ++ (b ++ (c ++ (d ++ (e ++ (f ++ (n ++ g))))))) ++ (h ++ ((i ++ j ++ k ++ l ++ n) ++ (s ++ (m ++ o)))) ≡ (a ++ b ++ c ++ d ++ e ++ f ++ n) ++ (g ++ h ++ i ++ j ++ k ++ l ++ n) ++ s ++ m ++ o
    pieces a b c d e f g h i j k l n s m o = simp append_assoc

-- the text after the name of a solver
pub statuses : (made solver model level a b c : List ℕ) (pivots most : ℕ) →
    made ≡ codes " PIVOTS " ++ (decimal pivots ++ (codes " LIMIT " ++ (decimal most ++ (codes "\n" ++ (solver ++ (model ++ (codes "OBJECTIVE " ++ (level ++ codes "\n")))))))) →
    solver ≡ a → model ≡ b → level ≡ c →
    made ≡ line_of (codes " PIVOTS " ++ decimal pivots ++ codes " LIMIT " ++ decimal most) ++ (a ++ (b ++ line_of (codes "OBJECTIVE " ++ c)))
statuses made solver model level a b c pivots most e f g h =
    e ∙ rw (f, g, h) (pieces (codes " PIVOTS ") (decimal pivots) (codes " LIMIT ") (decimal most) (10 ∷ []) a b (codes "OBJECTIVE ") c)
  where
    pieces : (p d l k n a b o c : List ℕ) → p ++ (d ++ (l ++ (k ++ (n ++ (a ++ (b ++ (o ++ (c ++ n)))))))) ≡ (p ++ d ++ l ++ k ++ n) ++ (a ++ (b ++ (o ++ c ++ n)))
    pieces p d l k n a b o c = simp append_assoc

-- the line of a status
pub status_line : (made word text a : List ℕ) (n m : ℕ) → made ≡ word ++ (decimal n ++ (codes " " ++ (text ++ codes "\n"))) → n ≡ m → text ≡ a → made ≡ line_of (word ++ decimal m ++ codes " " ++ a)
status_line made word text a n m e f g = rw (e, f, g) (simp append_assoc)

-- an error with its place
pub error_line : (made begins name a : List ℕ) (code row column k : ℕ) → made ≡ begins ++ (decimal code ++ (codes " " ++ (name ++ (codes " at line " ++ (decimal row ++ (codes " column " ++ (decimal column ++ codes "\n"))))))) → code ≡ k → name ≡ a →
    made ≡ line_of (begins ++ decimal k ++ codes " " ++ a ++ (codes " at line " ++ decimal row ++ codes " column " ++ decimal column))
error_line made begins name a code row column k e f g = rw (e, f, g) (simp append_assoc)

-- the stop of a run
pub stop_line : (head name a pairs all end count : List ℕ) (code row column k : ℕ) → pairs ≡ all → head ≡ codes "*** Execution error " ++ (decimal code ++ (codes " " ++ (name ++ (codes " at line " ++ (decimal row ++ (codes " column " ++ decimal column)))))) → code ≡ k → name ≡ a → end ≡ line_of count →
    head ++ (pairs ++ end) ≡ line_of (codes "*** Execution error " ++ decimal k ++ codes " " ++ a ++ (codes " at line " ++ decimal row ++ codes " column " ++ decimal column) ++ all ++ count)
stop_line head name a pairs all end count code row column k d e f g h =
    rw (d, e, f, g, h) (pieces (codes "*** Execution error ") (decimal k) (codes " ") a (codes " at line ") (decimal row) (codes " column ") (decimal column) all count (10 ∷ []))
  where
    pieces : (x d y n l r c k p q e : List ℕ) → (x ++ (d ++ (y ++ (n ++ (l ++ (r ++ (c ++ k))))))) ++ (p ++ (q ++ e)) ≡ x ++ d ++ y ++ n ++ (l ++ r ++ c ++ k) ++ p ++ q ++ e
    pieces x d y n l r c k p q e = simp append_assoc

-- a set and the label that it stands for
pub pair : (made before name element a b : List ℕ) → made ≡ before ++ (name ++ (codes "=" ++ element)) → name ≡ a → element ≡ b → made ≡ before ++ (a ++ codes "=" ++ b)
pair made before name element a b e f g = rw (e, f, g) (simp append_assoc)

-- how many there are too many of
pub count_line : (made : List ℕ) (n : ℕ) → made ≡ codes " count " ++ (decimal n ++ codes "\n") → made ≡ line_of (codes " count " ++ decimal n)
count_line made n e = rw e (simp append_assoc)

-- a word, a name and the text after it in the line, and the text after the line
pub headed_line : (word text following rest : List ℕ) → (word ++ text ++ (following ++ codes "\n")) ++ rest ≡ line_of (word ++ text ++ following) ++ rest
headed_line word text following rest = simp append_assoc

-- a line of a solution, from equal numbers and an equal mark
pub point_same : (names labels : List (List ℕ)) (width : ℕ) (key : Key) (lower a : Option Number) (level b : Number) (upper d : Option Number) (marginal e : Number) (mark m : List ℕ) →
    lower ≡ a → level ≡ b → upper ≡ d → marginal ≡ e → mark ≡ m → point_text names labels width key lower level upper marginal mark ≡ point_text names labels width key a b d e m
point_same names labels width key lower a level b upper d marginal e mark m f g h i j = rw (f, g, h, i, j) refl

-- a bound as the number that it means
pub bound_mapped : {F : Type 0} (value : F → Number) (x : Option F) → option_map value x ≡ bound_value value x
bound_mapped value None = refl
bound_mapped value (Some x) = refl
