-- Rows that are lent with their keys.
use Rattle.std.specs.Prelude.{List, length}
use Rattle.wvalues.specs.Meaning.{Meaning}
use Rattle.wsort.specs.declared.keyed.LaidKeys.{LaidKeys}
use Rattle.wsort.specs.LaidRows.{laid}

-- the keys of each row
abbrev pub laid_keys : LaidKeys → List (List Meaning)
laid_keys l = laid (length l.keys.now) l.count l.cells.now
