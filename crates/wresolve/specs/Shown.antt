-- Items of the SELECT list in memory, `*` written out. (SQL, `<select list>`.)
use Rattle.std.specs.Prelude.{List, map}
use Rattle.wquery.specs.Tree.{NullWord, view}
use Rattle.wscope.specs.Sources.{Shown, Placed, Spelled, ShownItem}
use Rattle.wresolve.specs.declared.shown.ShownValue.{ShownValue}
use Rattle.wresolve.specs.declared.shown.ShownValue.TheVariants as values
use Rattle.wresolve.specs.declared.shown.ShownOutput.{ShownOutput}

abbrev pub shown_of : ShownValue → Shown
shown_of (values.Column place) = Placed place
shown_of (values.Expression e) = Spelled (view e.now)
shown_of values.Nothing = Spelled NullWord

abbrev pub shown_item : ShownOutput → ShownItem
shown_item o = record { name = o.name.now; type = o.data_type; shown = shown_of o.value }

abbrev pub shown_items : List ShownOutput → List ShownItem
shown_items os = map shown_item os
