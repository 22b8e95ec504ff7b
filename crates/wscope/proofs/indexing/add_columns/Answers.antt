use Rattle.std.proofs.Common.{◌++◌, [], List, take, take_all, ap, sym, arith}
use Rattle.std.proofs.lemmas.List.{append-nil}
use Rattle.wscope.specs.declared.source.SourceColumn.{SourceColumn}
use Rattle.wscope.specs.Sources.{all_titled, columns_from}
use Rattle.wscope.proofs.Indexed.{columns_step, index_along}
use Rattle.wscope.proofs.indexing.add_columns.Goals as goal

pub columns-init : goal.columns-init
columns-init c = record {
  place = omega arith;
  index = λ is known. index_along c.args.called.now (all_titled c.args.columns.now) is (is ++ []) (sym (append-nil is)) known;
}

pub columns-preserved : goal.columns-preserved
columns-preserved c = record {
  place = omega (arith, c.columns.invariant.place);
  index = λ is known.
      columns_step c.add.new.called is c.args.columns.now c.columns.column-index c.columns.place c.column-item.result
      c.as_str.result.now c.columns-test.true c.column-item.is c.columns.invariant.place c.as_str.ensures.value
      (c.in_ok-add.ensures (is ++ columns_from 0 (all_titled (take c.columns.column-index c.args.columns.now)))
      c.column-item.result.data_type (c.columns.invariant.index is known));
}

pub returns : goal.returns
returns c = λ is known.
    index_along c.columns.called (all_titled c.args.columns.now) _ _
    (ap (λ (ys : List SourceColumn). is ++ columns_from 0 (all_titled ys))
    (take_all c.columns.column-index c.args.columns.now c.columns-test.false)) (c.columns.invariant.index is known)
