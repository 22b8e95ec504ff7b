use Rattle.std.proofs.Common.{◌≡◌, ◌<◌, ◌≤◌, subst, sym, length}
use Rattle.std.proofs.lemmas.List.{get_or_read}
use Rattle.wframe.specs.declared.frame.Span.{Span}
use Rattle.wframe.specs.KeyRows.{key_lists}
use Rattle.wframe.specs.Places.{span_at}
use Rattle.wframe.proofs.PlaceFacts.{tiles_some, tiles_within}
use Rattle.wframe.proofs.partitions.Partitions.span.Goals as goal

found : (c : goal.After-result-1) → c.index.result.now ≡ span_at c.self.inside.spans.items c.args.partition
found c = get_or_read c.self.inside.spans.items c.args.partition c.index.result.now
    (subst (λ q. c.args.partition < length q.spans) (sym c.self.view_is) c.requires) c.index.ensures (record { from = 0; to = 0 })

pub returns-clause-some : goal.returns-clause-some
returns-clause-some c =
    let h = subst (λ q. c.args.partition < length q.spans) (sym c.self.view_is) c.requires in
    subst (λ (s : Span). s.from < s.to) (sym (found c)) (tiles_some 0 (length (key_lists c.self.inside.keys))
    c.self.inside.spans.items c.args.partition c.self.invariant.tiles h)

pub returns-clause-within : goal.returns-clause-within
returns-clause-within c =
    let h = subst (λ q. c.args.partition < length q.spans) (sym c.self.view_is) c.requires in
    subst (λ q. c.index.result.now.to ≤ length q.keys) c.self.view_is
    (subst (λ (s : Span). s.to ≤ length (key_lists c.self.inside.keys)) (sym (found c))
    (tiles_within 0 (length (key_lists c.self.inside.keys)) c.self.inside.spans.items c.args.partition c.self.invariant.tiles h))
