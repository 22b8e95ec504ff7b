use Rattle.std.proofs.Common.{◌≡◌, ◌+◌, ◌-◌, length, min, take, drop, sym, ap, ◌∙◌, arith}
use Rattle.wrows.specs.Plain.{at_most_limit}
use Rattle.wrows.proofs.RowFacts.{cut_numbers}
use Rattle.wrows.proofs.items.cut_numbers.Goals as goal

pub returns-then-from-eq0 : goal.returns-then-from-eq0
returns-then-from-eq0 c =
    let numbers = c.args.numbers.items in
    let from = c.asked_for-from.result.0 in
    let count = c.asked_for-from.result.1 in
    let long : c.len.result ≡ length numbers = omega arith in
    let first : from ≡ min c.args.asked.offset (length numbers) = c.asked_for-from.ensures.first ∙ ap (min c.args.asked.offset) long in
    let rest : count ≡ at_most_limit c.args.asked.limit (length numbers - from) = c.asked_for-from.ensures.count
    ∙ ap (λ n. at_most_limit c.args.asked.limit (n - from)) long in
    c.truncate.ensures.items ∙ ap (λ j. take count (drop j numbers)) (sym c.if-from-eq0.true)
    ∙ cut_numbers c.args.asked.offset c.args.asked.limit numbers from count first rest

pub returns : goal.returns
returns c =
    let numbers = c.args.numbers.items in
    let from = c.asked_for-from.result.0 in
    let count = c.asked_for-from.result.1 in
    let cut_to : from + count - from ≡ count = omega arith in
    let long : c.len.result ≡ length numbers = omega arith in
    let first : from ≡ min c.args.asked.offset (length numbers) = c.asked_for-from.ensures.first ∙ ap (min c.args.asked.offset) long in
    let rest : count ≡ at_most_limit c.args.asked.limit (length numbers - from) = c.asked_for-from.ensures.count
    ∙ ap (λ n. at_most_limit c.args.asked.limit (n - from)) long in
    c.in_ok-taken.ensures.items ∙ ap (λ l. take (from + count - from) (drop from l)) c.deref.ensures.value
    ∙ ap (λ j. take j (drop from numbers)) cut_to
    ∙ cut_numbers c.args.asked.offset c.args.asked.limit numbers from count first rest
