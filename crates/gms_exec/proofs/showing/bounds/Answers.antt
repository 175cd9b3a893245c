use Rattle.std.proofs.Common.{◌∙◌, ap, sym, min, length, Ok}
use Rattle.gms_store.specs.State.{symbol_of}
use Rattle.gms_eval.specs.Domain.{sized}
use Rattle.gms_eval.specs.Faults.{◌and_then◌}
use Rattle.gms_eval.proofs.Answering.{then-value}
use Rattle.gms_eval.proofs.Marks.{stops-shown}
use Rattle.gms_exec.specs.Showing.{elements_at, entries_shown}
use Rattle.gms_exec.proofs.Entries.{sized-over, sized-within, counted-within}
use Rattle.gms_exec.proofs.showing.bounds.Goals as goal

pub returns-then-size-gt-MOST_ELEMENTS : goal.returns-then-size-gt-MOST_ELEMENTS
returns-then-size-gt-MOST_ELEMENTS g c =
    stops-shown g.F.ExactField.value c.too_large.result _ _ (ap (λ a. a and_then (λ tuples. Ok (entries_shown c.args.store.now c.args.named.name c.args.suffix tuples))) (sized-over c.args.named.at c.args.b.now (elements_at c.args.labels c.args.store.now (symbol_of c.args.store.now c.args.named.name).domain) c.count-size.result (c.count-size.ensures ∙ ap (λ those. min (length those) 18446744073709551615) (ap (λ l. elements_at l c.new-name_domain.result.store.now c.new-name_domain.result.positions.now) c.new-name_domain.ensures.labels ∙ ap (λ s. elements_at c.args.labels s c.new-name_domain.result.positions.now) c.new-name_domain.ensures.store ∙ ap (elements_at c.args.labels c.args.store.now) c.new-name_domain.ensures.positions)) c.if-size-gt-MOST_ELEMENTS.true)) c.too_large.ensures

pub over_all-requires : goal.over_all-requires
over_all-requires g c =
    counted-within c.args.named.at c.args.b.now (elements_at c.new-name_domain.result.labels c.new-name_domain.result.store.now c.new-name_domain.result.positions.now) c.count-size.result c.count-size.ensures c.if-size-gt-MOST_ELEMENTS.false

pub returns : goal.returns
returns g c =
    then-value (sized c.args.named.at c.args.b.now (elements_at c.args.labels c.args.store.now (symbol_of c.args.store.now c.args.named.name).domain)) (elements_at c.args.labels c.args.store.now (symbol_of c.args.store.now c.args.named.name).domain) (λ tuples. Ok (entries_shown c.args.store.now c.args.named.name c.args.suffix tuples)) (sized-within c.args.named.at c.args.b.now (elements_at c.args.labels c.args.store.now (symbol_of c.args.store.now c.args.named.name).domain) c.count-size.result (c.count-size.ensures ∙ ap (λ those. min (length those) 18446744073709551615) (ap (λ l. elements_at l c.new-name_domain.result.store.now c.new-name_domain.result.positions.now) c.new-name_domain.ensures.labels ∙ ap (λ s. elements_at c.args.labels s c.new-name_domain.result.positions.now) c.new-name_domain.ensures.store ∙ ap (elements_at c.args.labels c.args.store.now) c.new-name_domain.ensures.positions)) c.if-size-gt-MOST_ELEMENTS.false) ∙ ap Ok (sym (c.in_ok-entries.ensures ∙ ap (entries_shown c.args.store.now c.args.named.name c.args.suffix) (ap (λ l. elements_at l c.new-name_domain.result.store.now c.new-name_domain.result.positions.now) c.new-name_domain.ensures.labels ∙ ap (λ s. elements_at c.args.labels s c.new-name_domain.result.positions.now) c.new-name_domain.ensures.store ∙ ap (elements_at c.args.labels c.args.store.now) c.new-name_domain.ensures.positions)))
