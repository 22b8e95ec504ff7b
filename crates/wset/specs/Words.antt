-- The words that a set answers, by what was known of the name before the call.
use Rattle.std.specs.Prelude.{ℕ, ◌||◌, Bool, true, false, List, Option, None, Some, if◌then◌else◌}
use Rattle.std.specs.FinMap.{get}
use Rattle.wvalues.specs.Names.{NameParts}
use Rattle.wentries.specs.Knowledge.{Known, Live, Disputed, Retired, Floor, same_bytes}
use Rattle.wset.specs.Views.{View, is_below}
use Rattle.wset.specs.declared.outcomes.Taken.{Taken}
use Rattle.wset.specs.declared.outcomes.Taken.TheVariants as takings
use Rattle.wset.specs.declared.outcomes.Retired.{Retired as Retirement}
use Rattle.wset.specs.declared.outcomes.Retired.TheVariants as retirements
use Rattle.wentries.specs.declared.status.Status.{Status}
use Rattle.wentries.specs.declared.status.Status.TheVariants as statuses
use Rattle.wentries.specs.Holding.{status_of_known}

-- what taking these bytes did
abbrev pub taken_word : Option Known → List ℕ → Taken
taken_word None bytes = takings.New
taken_word (Some (Live old)) bytes = if same_bytes old bytes then takings.Same else takings.Disputed
taken_word (Some Disputed) bytes = takings.Ignored
taken_word (Some Retired) bytes = takings.Ignored
taken_word (Some Floor) bytes = takings.Ignored

-- what retiring the name did
abbrev pub retired_word : Option Known → Retirement
retired_word None = retirements.New
retired_word (Some (Live old)) = retirements.New
retired_word (Some Disputed) = retirements.New
retired_word (Some Retired) = retirements.Same
retired_word (Some Floor) = retirements.Same

-- it is a floor
abbrev pub is_floor : Option Known → Bool
is_floor None = false
is_floor (Some (Live bytes)) = false
is_floor (Some Disputed) = false
is_floor (Some Retired) = false
is_floor (Some Floor) = true

-- a floor of the name's origin is not below the name
abbrev pub is_reached : View → NameParts → Bool
is_reached v n = is_below v n || is_floor (get v n)

-- what retiring all names up to this one did: new where the floor rose
abbrev pub floor_word : View → NameParts → Retirement
floor_word v n = if is_reached v n then retirements.Same else retirements.New

-- how a name stands
abbrev pub status_word : Option Known → Status
status_word None = statuses.Unknown
status_word (Some known) = status_of_known known
