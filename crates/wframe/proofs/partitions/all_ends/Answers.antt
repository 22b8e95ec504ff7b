use Rattle.std.proofs.Common.{◌≡◌, ◌+◌, ◌-◌, subst, sym, ap, ◌∙◌, length, arith}
use Rattle.std.specs.Prelude.{slice_range}
use borrow.Author.Count.{below_more}
use Rattle.wvalues.specs.Order.{keys_cmp}
use Rattle.wvalues.specs.OrderLaws.{keys_total}
use Rattle.wframe.specs.KeyRows.{key_lists, sort_keys}
use Rattle.wframe.specs.Peers.{AreOrdered}
use Rattle.wframe.specs.Places.{span_at, Tiles}
use Rattle.wframe.specs.Partition.{Partitioned, partition_of}
use Rattle.wframe.specs.FrameEnds.{HasFrames, AreLong}
use Rattle.wframe.proofs.PlaceFacts.{start_of, start_at, start_first, start_next, start_last, tiles_some, tiles_within}
use Rattle.wframe.proofs.EndFacts.{frames_stay}
use Rattle.wframe.proofs.PartitionFacts.{ordered_part, length-slice}
use Rattle.wframe.proofs.partitions.all_ends.Goals as goal

pub loop-span-init : goal.loop-span-init
loop-span-init c = record {
  long = subst (λ m. AreLong c.args.frame m c.in_ok-ends.ends)
      (sym (start_first 0 (length (key_lists c.args.keys.now)) c.args.spans.now
      (subst (Tiles 0 c.args.spans.now) c.requires.count c.requires.tiles))) c.in_ok-ends.ensures;
  each = λ k h. absurd (omega arith);
}

pub push_partition-requires-clause-ordered : goal.push_partition-requires-clause-ordered
push_partition-requires-clause-ordered c =
    let value_keys = sort_keys c.args.partition_values.now in
    let values = key_lists c.args.partition_values.now in
    let ks = sort_keys c.args.keys.now in
    let keys = key_lists c.args.keys.now in
    let i = c.loop-span.span-index in
    let s = span_at c.args.spans.now i in
    let at = ordered_part (keys_cmp value_keys) (keys_cmp ks) (keys_total value_keys) values keys s c.requires.count
    c.requires.ordered (c.requires.spans i (record { from = 0; to = 0 }) c.loop-span-test.true) in
    subst (λ k. AreOrdered (keys_cmp k) (key_lists c.part-part.result)) (sym c.part-part.ensures.keys)
    (subst (AreOrdered (keys_cmp ks)) (sym c.part-part.ensures.lists) at)

pub push_partition-requires-clause-first : goal.push_partition-requires-clause-first
push_partition-requires-clause-first c =
    subst (λ m. AreLong c.args.frame m c.loop-span.ends) (start_at (length (key_lists c.args.keys.now)) c.args.spans.now
    c.loop-span.span-index c.loop-span-test.true) c.loop-span.invariant.long

pub loop-span-preserved : goal.loop-span-preserved
loop-span-preserved c =
    let ks = sort_keys c.args.keys.now in
    let keys = key_lists c.args.keys.now in
    let n = length keys in
    let spans = c.args.spans.now in
    let all : Partitioned = record { order = ks; keys = keys; frame = c.args.frame; spans = spans } in
    let i = c.loop-span.span-index in
    let h = c.loop-span-test.true in
    let s = span_at spans i in
    let new = c.push_partition.new.self in
    let part = c.part-part.result in
    let tiles = subst (Tiles 0 spans) c.requires.count c.requires.tiles in
    let some = tiles_some 0 n spans i tiles h in
    let within = tiles_within 0 n spans i tiles h in
    let size : length (key_lists part) ≡ s.to - s.from = ap length c.part-part.ensures.lists ∙ length-slice keys s.from s.to within in
    let end : s.from + length (key_lists part) ≡ start_of n spans (i + 1) =
    (let e : s.from + length (key_lists part) ≡ s.to = omega (arith, size, some) in e ∙ sym (start_next 0 n spans i tiles h)) in
    record {
      long = subst (λ m. AreLong c.args.frame m new) end c.in_ok-push_partition.ensures.long;
      each = below_more (λ k. HasFrames (partition_of all (span_at spans k)) (span_at spans k).from new) i
          (λ k g. frames_stay (partition_of all (span_at spans k)) (span_at spans k).from c.loop-span.ends new
          (c.loop-span.invariant.each k g) c.in_ok-push_partition.ensures.extends)
          (subst (λ order. HasFrames (record { order = order; keys = slice_range keys s.from s.to; frame = c.args.frame })
          s.from new) c.part-part.ensures.keys
          (subst (λ lists. HasFrames (record { order = sort_keys part; keys = lists; frame = c.args.frame }) s.from new)
          c.part-part.ensures.lists c.in_ok-push_partition.ensures.frames));
    }

pub returns : goal.returns
returns c =
    let n = length (key_lists c.args.keys.now) in
    let spans = c.args.spans.now in
    let i = c.loop-span.span-index in
    let e : i ≡ length spans = omega arith in
    record {
      tiles = subst (Tiles 0 spans) c.requires.count c.requires.tiles;
      long = subst (λ m. AreLong c.args.frame m c.loop-span.ends) (ap (start_of n spans) e ∙ start_last n spans) c.loop-span.invariant.long;
      each = λ k h. c.loop-span.invariant.each k (omega arith);
    }
