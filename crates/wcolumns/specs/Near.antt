-- Copies of columns, whose values lie side by side.
use Rattle.std.specs.Prelude.{◌≡◌, List, map}
use Rattle.std.specs.Borrow.{Bor}
use Rattle.wvalues.specs.declared.value.Value.{Value}
use Rattle.wvalues.specs.Meaning.{meaning}
use Rattle.wcolumns.specs.Columns.{placed}
use Rattle.wcolumns.specs.declared.near.NearColumn.{NearColumn}

-- a copy has what each of some rows has at its place
abbrev pub IsNear : List (Bor (List Value)) → NearColumn → Type 0
IsNear rows near = map meaning near.values.value.items ≡ placed near.place rows
