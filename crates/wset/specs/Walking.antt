-- The live names of entries with their contents.
use Rattle.std.specs.Prelude.{List, map}
use Rattle.wvalues.specs.Names.{NameParts}
use Rattle.wsegment.specs.Rows.{Content}
use Rattle.wruns.specs.KeptRuns.{KeptParts}
use Rattle.wentries.specs.Keeping.{kept_in}
use Rattle.wentries.specs.declared.entries.Entry.{Entry}

-- the name with its content
abbrev pub named_content : NameParts × KeptParts → NameParts × Content
named_content k = (k.0, k.1.content)

-- in the order of names
abbrev pub contents : List Entry → List (NameParts × Content)
contents es = map named_content (kept_in es)
