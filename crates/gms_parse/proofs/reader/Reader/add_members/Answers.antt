use Rattle.std.proofs.Common.{◌≡◌, ℕ, ◌<◌, true, false, inl, List, [], get_or, map, length, string_bytes, refl, sym, ap, ◌∙◌, subst, arith, ◌≤◌}
use Rattle.std.proofs.lemmas.List.{get_or-map, length-map}
use Rattle.gms_set.specs.Ranges.{is_range, members}
use Rattle.gms_expressions.proofs.Signs.{handed_on}
use Rattle.gms_parse.specs.InnerMeanings.{text_of_label}
use Rattle.gms_parse.proofs.Members.{member_short}
use Rattle.gms_parse.proofs.Ranges.{label_spelled, entering_start, entering_next, texts_are, members_entered, no_members, member_refused, range_error}
use Rattle.gms_parse.proofs.reader.Reader.add_members.Goals as goal

pub entered-requires : goal.entered-requires
entered-requires c =
    let items = c.deref-member-items.result.now in
    let within = c.loop-member-test.true in
    let from = c.in_ok-from.from.now in
    let to = c.in_ok-to.to.now in
    let index = c.loop-member.member-index in
    let all : map string_bytes items ≡ members from to = ap (λ xs. map string_bytes xs) c.deref-member-items.ensures.value ∙ c.in-Ok.ensures.members.1 in
    let text : c.as_str.result.now ≡ get_or (members from to) index [] = c.as_str.ensures.value ∙ ap string_bytes c.member-item.is ∙ sym (get_or-map string_bytes items index c.member-item.result [] within) ∙ ap (λ xs. get_or xs index []) all in
    let below : index < length (members from to) = (let l = sym (length-map items string_bytes) ∙ ap length all in omega (arith, l, within)) in
    let first : length from ≤ 63 = subst (λ (t : List ℕ). length t ≤ 63) (sym c.in_ok-from.ensures) (label_spelled c.requires.first).1 in
    let last : length to ≤ 63 = subst (λ (t : List ℕ). length t ≤ 63) (sym c.in_ok-to.ensures) (label_spelled c.requires.last).1 in
    subst (λ (t : List ℕ). length t ≤ 63) (sym text) (member_short from to index c.in-Ok.ensures.members.0 below first last)

pub loop-member-init : goal.loop-member-init
loop-member-init c = (refl, refl, entering_start _ _)

pub loop-member-preserved : goal.loop-member-preserved
loop-member-preserved c =
    let items = c.deref-member-items.result.now in
    let within = c.loop-member-test.true in (
      c.loop-member.invariant.0,
      c.loop-member.invariant.1,
      entering_next _ _ (map string_bytes items) c.loop-member.member-index _ _ c.loop-member.invariant.2 (let l = length-map items string_bytes in omega (arith, l, within)) c.as_str.result.now
          (c.as_str.ensures.value ∙ ap string_bytes c.member-item.is ∙ sym (get_or-map string_bytes items c.loop-member.member-index c.member-item.result _ within)) _ _ c.in_ok-entered-in-Ok.ensures _ c.in_ok-push-in-Ok.ensures.items,
    )

pub returns-in_err-entered-in-Ok-clause-names : goal.returns-in_err-entered-in-Ok-clause-names
returns-in_err-entered-in-Ok-clause-names c = c.loop-member.invariant.0

pub returns-in_err-entered-in-Ok-clause-range : goal.returns-in_err-entered-in-Ok-clause-range
returns-in_err-entered-in-Ok-clause-range c =
    let items = c.deref-member-items.result.now in
    let within = c.loop-member-test.true in
    handed_on _ _ c.from_residual-in_err-entered-in-Ok.result _ c.from_residual-in_err-entered-in-Ok.ensures.1
    (member_refused c.args.self.now.source.now c.args.tables.now c.args.first c.args.last _ (map string_bytes items) c.loop-member.member-index _ _ c.loop-member.invariant.2 (let l = length-map items string_bytes in omega (arith, l, within))
    (texts_are c.args.self.now.source.now c.in_ok-from.from.now c.in_ok-to.to.now _ _ (map string_bytes items) c.in_ok-from.ensures c.in_ok-to.ensures c.in-Ok.ensures.members.0 (ap (λ xs. map string_bytes xs) c.deref-member-items.ensures.value ∙ c.in-Ok.ensures.members.1)) c.as_str.result.now
    (c.as_str.ensures.value ∙ ap string_bytes c.member-item.is ∙ sym (get_or-map string_bytes items c.loop-member.member-index c.member-item.result _ within)) _ c.in_err-entered-in-Ok.ensures)

pub returns-in_err-push-in-Ok-clause-names : goal.returns-in_err-push-in-Ok-clause-names
returns-in_err-push-in-Ok-clause-names c = c.loop-member.invariant.0

pub returns-in_err-push-in-Ok-clause-range : goal.returns-in_err-push-in-Ok-clause-range
returns-in_err-push-in-Ok-clause-range c = handed_on _ _ c.from_residual-in_err-push-in-Ok.result _ c.from_residual-in_err-push-in-Ok.ensures.1 (record { why = inl refl })

pub returns-after-loop-member-clause-names : goal.returns-after-loop-member-clause-names
returns-after-loop-member-clause-names c = c.loop-member.invariant.0

pub returns-after-loop-member-clause-range : goal.returns-after-loop-member-clause-range
returns-after-loop-member-clause-range c =
    let items = c.deref-member-items.result.now in
    let over = c.loop-member-test.false in
    members_entered c.args.self.now.source.now c.args.tables.now c.loop-member.tables c.args.part.now c.loop-member.part c.args.first c.args.last (map string_bytes items) c.loop-member.member-index c.loop-member.invariant.2 (let l = length-map items string_bytes in omega (arith, l, over))
    (texts_are c.args.self.now.source.now c.in_ok-from.from.now c.in_ok-to.to.now _ _ (map string_bytes items) c.in_ok-from.ensures c.in_ok-to.ensures c.in-Ok.ensures.members.0 (ap (λ xs. map string_bytes xs) c.deref-member-items.ensures.value ∙ c.in-Ok.ensures.members.1)) c.loop-member.invariant.1
    (subst (λ (b : List ℕ). is_range (text_of_label c.args.self.now.source.now c.args.first) b ≡ true) c.in_ok-to.ensures (subst (λ (a : List ℕ). is_range a c.in_ok-to.to.now ≡ true) c.in_ok-from.ensures c.in-Ok.ensures.members.0))

pub returns-in-Err-Fault-clause-range : goal.returns-in-Err-Fault-clause-range
returns-in-Err-Fault-clause-range c = no_members c.args.self.now.source.now c.args.tables.now c.args.part.now (record { labels = c.args.part.now.labels; bad_range = true }) c.args.first c.args.last
    (subst (λ (b : List ℕ). is_range (text_of_label c.args.self.now.source.now c.args.first) b ≡ false) c.in_ok-to.ensures (subst (λ (a : List ℕ). is_range a c.in_ok-to.to.now ≡ false) c.in_ok-from.ensures (range_error _ c.in-Err-Fault.field-0 c.in-Err-Fault.field-0-0 c.in-Err-Fault.ensures.fault c.in-Err-Fault.field-0-is))) refl refl
