-- What is held of a name, what is known by it, and what is said and lent of it.
use Rattle.std.specs.Prelude.{⊤, ℕ, length, ◌≡◌, Ok}
use Rattle.wsegment.specs.Declaration.{Declaration}
use Rattle.wentries.specs.Knowledge.{Known, Live, Disputed, Retired, Floor}
use Rattle.wentries.specs.declared.held.Held.{Held}
use Rattle.wentries.specs.declared.held.Held.TheVariants as held
use Rattle.wsegment.specs.Rows.{Content, rows_of}
use Rattle.wentries.specs.declared.status.Status.{Status}
use Rattle.wentries.specs.declared.status.Status.TheVariants as statuses
use Rattle.wentries.specs.declared.known.Known as lent
use Rattle.wentries.specs.declared.known.Known.TheVariants as lents

-- a segment's rows are those of its bytes by the declaration
pub record IsReadBy (d : Declaration) (content : Content) : Type 0 where
  pub columns : content.columns ≡ length d.columns
  pub rows : rows_of d content.bytes ≡ Ok content.rows

-- what is known of the name
abbrev pub known_of : Held → Known
known_of (held.Live kept) = Live kept.content.bytes
known_of held.Disputed = Disputed
known_of held.Retired = Retired
known_of held.Floor = Floor

-- the number of rows of the segment that is held
abbrev pub row_count_of : Held → ℕ
row_count_of (held.Live kept) = length kept.content.rows
row_count_of held.Disputed = 0
row_count_of held.Retired = 0
row_count_of held.Floor = 0

-- a segment that is held was read by the declaration
abbrev pub IsHeldBy : Declaration → Held → Type 0
IsHeldBy d (held.Live kept) = IsReadBy d kept.content
IsHeldBy d held.Disputed = ⊤
IsHeldBy d held.Retired = ⊤
IsHeldBy d held.Floor = ⊤

-- how a name stands of which this is known
abbrev pub status_of_known : Known → Status
status_of_known (Live bytes) = statuses.Live
status_of_known Disputed = statuses.Disputed
status_of_known Retired = statuses.Retired
status_of_known Floor = statuses.Floor

-- what is known of a name of which this is lent
abbrev pub told_of : lent.Known → Known
told_of (lents.Live segment) = Live segment.now.bytes
told_of lents.Disputed = Disputed
told_of lents.Retired = Retired
told_of lents.Floor = Floor
