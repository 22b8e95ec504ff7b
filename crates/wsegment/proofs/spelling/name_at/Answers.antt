use Rattle.std.proofs.Common.{◌≡◌, ◌∙◌, sym, ap, take}
use Rattle.std.proofs.lemmas.List.{take-append-drop}
use Rattle.std.specs.List.{prefix_len}
use Rattle.std.specs.String.{string_bytes}
use Rattle.wsegment.specs.Declaration.{is_name, is_name_byte}
use Rattle.wsegment.proofs.SpellingFacts.{name-utf8, word-le, word-rest, word-split}
use Rattle.wsegment.proofs.spelling.name_at.Goals as goal

pub split_at-requires : goal.split_at-requires
split_at-requires c = rw c.word_len.ensures (word-le c.args.bytes.now)

pub returns-then-not-is_name_text-clause-none : goal.returns-then-not-is_name_text-clause-none
returns-then-not-is_name_text-clause-none c = λ name rest named none e.
    let w = word-split c.args.bytes.now name rest named none e in
    let front : c.split_at.result.0.now ≡ name = c.split_at.ensures.front ∙ ap (λ n. take n c.args.bytes.now) c.word_len.ensures ∙ w.0 in
    let test = c.if-not-is_name_text.ensures ∙ ap is_name front ∙ named in
    cc test

pub unreachable-requires : goal.unreachable-requires
unreachable-requires c = c.in_default.ensures.cases.0 (name-utf8 c.split_at.result.0.now (sym c.if-not-is_name_text.ensures))

pub returns-clause-found : goal.returns-clause-found
returns-clause-found c =
    let text : string_bytes c.in_ok-name.name ≡ c.split_at.result.0.now = c.in_ok-name.ensures.ok ∙ c.in-Ok.ensures.cases.0 in
    let named = sym c.if-not-is_name_text.ensures in
    let none : prefix_len is_name_byte c.split_at.result.1.now ≡ 0 =
    rw (c.split_at.ensures.back, c.word_len.ensures) (word-rest c.args.bytes.now) in (
      rw text named,
      none,
      rw (text, c.split_at.ensures.front, c.split_at.ensures.back)
          (sym (take-append-drop c.word_len.result c.args.bytes.now)),
    )
