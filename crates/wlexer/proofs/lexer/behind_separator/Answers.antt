use Rattle.std.proofs.Common.{◌∙◌, sym, ap, length, arith}
use Rattle.wlexer.proofs.Steps.{behind_shorter, blank_first, comment_first}
use Rattle.wlexer.specs.declared.bytes.Stretch.TheVariants as stretches
use Rattle.wlexer.proofs.lexer.behind_separator.Goals as goal

pub returns-then-is_blank-clause-some : goal.returns-then-is_blank-clause-some
returns-then-is_blank-clause-some c = (
  omega (arith, ap length c.in_ok-first.ensures.0),
  λ rest x. blank_first c.in_ok-first.ensures.0 (sym c.is_blank.ensures
      ∙ c.if-is_blank.true) x,
)

pub returns-then-second-eq45-clause-some : goal.returns-then-second-eq45-clause-some
returns-then-second-eq45-clause-some c =
    let shorter = behind_shorter stretches.Comment c.in_ok-second.comment.now in
    let same = ap length c.split_stretch.ensures.behind in (
      omega (arith, ap length c.in_ok-first.ensures.0, ap length c.in_ok-second.ensures.0),
      λ rest x. comment_first c.in_ok-first.ensures.0 c.in_ok-second.ensures.0 c.if-first-eq45.true c.if-second-eq45.true
          c.split_stretch.ensures.behind x,
    )
