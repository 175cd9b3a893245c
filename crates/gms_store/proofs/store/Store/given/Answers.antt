use Rattle.std.proofs.Common.{◌∙◌, ap, sym, length}
use Rattle.gms_tuple.specs.TupleSet.{has}
use Rattle.gms_store.specs.State.{differs_in, Symbol}
use Rattle.gms_store.proofs.Views.{given-differs, given-arity}
use Rattle.gms_store.proofs.store.Store.given.Goals as goal

pub returns-in-Some-clause-differs : goal.returns-in-Some-clause-differs
returns-in-Some-clause-differs g c t =
    ap (λ members. has members t) c.in-Some.ensures.some
    ∙ given-differs (length c.symbol.result.now.domain) c.symbol.result.now.content c.given.ensures.kept t
    ∙ ap (λ (s : Symbol). differs_in s.content t) c.symbol.ensures

pub returns-in-Some-clause-arity : goal.returns-in-Some-clause-arity
returns-in-Some-clause-arity g c t there =
    given-arity (length c.symbol.result.now.domain) c.symbol.result.now.content c.given.ensures.kept t (ap (λ members. has members t) (sym c.in-Some.ensures.some) ∙ there)
    ∙ ap (λ (s : Symbol). length s.domain) c.symbol.ensures

pub returns-in-None-clause-differs : goal.returns-in-None-clause-differs
returns-in-None-clause-differs g c t =
    ap (λ members. has members t) (c.self.invariant.1 ∙ sym c.in-None.ensures.none)
    ∙ given-differs (length c.symbol.result.now.domain) c.symbol.result.now.content c.given.ensures.kept t
    ∙ ap (λ (s : Symbol). differs_in s.content t) c.symbol.ensures
