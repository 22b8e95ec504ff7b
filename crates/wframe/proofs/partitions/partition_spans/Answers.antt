use Rattle.std.proofs.Common.{◌<◌, ◌++◌, ◌∷◌, [], subst, sym, refl, length, arith}
use Rattle.std.proofs.lemmas.List.Elements.{All-push, All-same, All-nil}
use Rattle.wvalues.specs.Order.{keys_cmp}
use Rattle.wvalues.specs.OrderLaws.{keys_total}
use Rattle.wframe.specs.declared.frame.Span.{Span}
use Rattle.wframe.specs.KeyRows.{key_lists, sort_keys}
use Rattle.wframe.specs.Places.{Tiles}
use Rattle.wframe.specs.Partitions.{IsPartition}
use Rattle.wframe.proofs.FrameFacts.{peers_filter, peers_to, in_peers}
use Rattle.wframe.proofs.PartitionFacts.{Tiles-push, next_before, none_before}
use Rattle.wframe.proofs.partitions.partition_spans.Goals as goal

pub loop-from-init : goal.loop-from-init
loop-from-init c =
    let ks = sort_keys c.args.partition_values.now in
    let keys = key_lists c.args.partition_values.now in
    record {
      within = omega arith;
      before = none_before (keys_total ks) keys c.requires;
      tiles = subst (λ ss. Tiles 0 ss 0) (sym c.new-spans.ensures.items) refl;
      each = All-same (IsPartition (keys_cmp ks) keys) c.new-spans.result.items [] c.new-spans.ensures.items
          (All-nil (IsPartition (keys_cmp ks) keys));
    }

pub loop-from-preserved : goal.loop-from-preserved
loop-from-preserved c =
    let ks = sort_keys c.args.partition_values.now in
    let keys = key_lists c.args.partition_values.now in
    let n = length keys in
    let from = c.loop-from.from in
    let to = c.agreeing_end-to.result in
    let at = c.agreeing_end-to.ensures in
    let hf : from < n = omega arith in
    let before = c.loop-from.invariant.before hf in
    let old = c.loop-from.spans.items in
    let s : Span = record { from = from; to = to } in
    record {
      within = at.within;
      before = next_before (keys_total ks) keys c.requires from to hf at;
      tiles = subst (λ ss. Tiles 0 ss to) (sym c.in_ok-push.ensures.items)
          (Tiles-push 0 from old s c.loop-from.invariant.tiles refl (peers_to (keys_total ks) keys n from from to hf before at));
      each = All-same (IsPartition (keys_cmp ks) keys) c.push.new.self.items (old ++ s ∷ []) c.in_ok-push.ensures.items
          (All-push (IsPartition (keys_cmp ks) keys) old s c.loop-from.invariant.each (record {
            filtered =
                peers_filter (keys_total ks) keys n from from to hf before at;
            each =
                in_peers (keys_total ks) keys n from from to hf before at;
            some =
                peers_to (keys_total ks) keys n from from to hf before at;
            within = at.within;
          }));
    }
