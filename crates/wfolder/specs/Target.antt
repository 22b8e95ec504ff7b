-- How it is kept where a store stands.
use Rattle.std.specs.Prelude.{option_map, string_bytes}
use Rattle.wfolder.specs.Call.{rights_of}
use Rattle.wfolder.specs.Names.{IsSited, Site}
use Rattle.wfolder.specs.declared.target.Target.TheInside.{Inside}

-- the two paths and the access
abbrev pub site_of : Inside → Site
site_of a = record { path = string_bytes a.path; folder = string_bytes a.folder; access = option_map rights_of a.access }

-- the one is that of a file in the other
abbrev pub IsKeptSite : Inside → Type 0
IsKeptSite a = IsSited (site_of a)
