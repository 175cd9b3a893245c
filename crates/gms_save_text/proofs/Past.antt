-- The rest of a text after pieces of it.
use Rattle.std.proofs.Common.{◌≡◌, ◌∙◌, ◌++◌, ◌↔◌, ℕ, Bool, false, List, [], refl, sym, ap, subst, append_assoc, Option, Some, None, Bor}
use Rattle.std.specs.Prelude.{IsTrue}
use Rattle.std.proofs.lemmas.List.{append_cancel_left, append-nil}
use Rattle.gms_save_text.specs.Reading.{IsPast}

-- after an empty piece all of it remains
pub past_nothing : (a : Option (Bor (List ℕ))) → IsPast [] a a
past_nothing None = refl
past_nothing (Some text) = refl

-- after a piece and another
pub past_both : (p q : List ℕ) (a b c : Option (Bor (List ℕ))) → IsPast p a b → IsPast q b c → IsPast (p ++ q) a c
past_both p q None None c e f = f
past_both p q None (Some u) c e f = absurd cc
past_both p q (Some t) None c e f =
    subst (λ (x : Option (Bor (List ℕ))). IsPast (p ++ q) (Some t) x) (sym f) (λ rest is. e (q ++ rest) (is ∙ append_assoc p q rest))
past_both p q (Some t) (Some u) None e f = λ rest is. f rest (append_cancel_left p u.now (q ++ rest) (sym e ∙ is ∙ append_assoc p q rest))
past_both p q (Some t) (Some u) (Some v) e f = e ∙ ap (λ (x : List ℕ). p ++ x) f ∙ sym (append_assoc p q v.now)

-- after an equal piece
pub past_as : (p q : List ℕ) (a b : Option (Bor (List ℕ))) → p ≡ q → IsPast p a b → IsPast q a b
past_as p q a b same is = subst (λ (x : List ℕ). IsPast x a b) same is

-- a text that does not begin with a piece is not that piece
pub past_none : (piece : List ℕ) (text : Bor (List ℕ)) (left : Option (Bor (List ℕ))) → left ≡ None → IsPast piece (Some text) left → IsTrue false ↔ (text.now ≡ piece)
past_none piece text left none is =
    let unbegun = subst (λ (x : Option (Bor (List ℕ))). IsPast piece (Some text) x) none is in
    (λ f. absurd cc, λ same. absurd (unbegun [] (same ∙ sym (append-nil piece))))

-- a text that begins with a piece is that piece exactly where nothing remains after it
pub past_some : (piece : List ℕ) (text rest : Bor (List ℕ)) (left : Option (Bor (List ℕ))) (b : Bool) → left ≡ Some rest → IsPast piece (Some text) left → IsTrue b ↔ (rest.now ≡ []) → IsTrue b ↔ (text.now ≡ piece)
past_some piece text rest left b some is empty =
    let begun = subst (λ (x : Option (Bor (List ℕ))). IsPast piece (Some text) x) some is in
    (λ t. begun ∙ ap (λ (x : List ℕ). piece ++ x) (empty.0 t) ∙ append-nil piece, λ same. empty.1 (append_cancel_left piece rest.now [] (sym begun ∙ same ∙ sym (append-nil piece))))
