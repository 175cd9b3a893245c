-- What holds of a result.
use Rattle.std.proofs.Common.{Result, Ok, Err}
use Rattle.std.specs.Prelude.{IfOk}

pub if_ok : {A E : Type 0} (P Q : A → Type 0) (r : Result A E) → ((a : A) → P a → Q a) → IfOk r P → IfOk r Q
if_ok P Q (Ok a) f h = f a h
if_ok P Q (Err e) f h = tt

pub ok_anyway : {A E : Type 0} (P : Type 0) (r : Result A E) → P → IfOk r (λ _. P)
ok_anyway P (Ok a) h = h
ok_anyway P (Err e) h = tt

pub ok_ok_anyway : {A B E : Type 0} (P : Type 0) (r : Result (Result A B) E) → P → IfOk r (λ s. IfOk s (λ _. P))
ok_ok_anyway P (Ok (Ok a)) h = h
ok_ok_anyway P (Ok (Err b)) h = tt
ok_ok_anyway P (Err e) h = tt

pub if_both : {A E : Type 0} (P Q R : A → Type 0) (r : Result A E) → ((a : A) → P a → Q a → R a) → IfOk r P → IfOk r Q → IfOk r R
if_both P Q R (Ok a) f h g = f a h g
if_both P Q R (Err e) f h g = tt
