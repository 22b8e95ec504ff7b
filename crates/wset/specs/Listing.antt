-- What a list says of a name that is not unknown.
use Rattle.std.specs.Prelude.{ℕ, length}
use Rattle.wvalues.specs.Names.{NameParts}
use Rattle.wsegment.specs.Declaration.{Declaration}
use Rattle.wentries.specs.Knowledge.{Known, Live, Disputed, Retired, Floor}
use Rattle.wset.specs.Tables.{content_rows}
use Rattle.wentries.specs.Holding.{status_of_known}
use Rattle.wentries.specs.declared.status.Listed.{Listed}

-- a name that is not live has no rows
abbrev pub known_row_count : Declaration → Known → ℕ
known_row_count d (Live bytes) = length (content_rows d bytes)
known_row_count d Disputed = 0
known_row_count d Retired = 0
known_row_count d Floor = 0

-- the name, its status and the number of its rows
abbrev pub listed : Declaration → (NameParts × Known) → Listed
listed d e = record { name = e.0; status = status_of_known e.1; rows = known_row_count d e.1 }
