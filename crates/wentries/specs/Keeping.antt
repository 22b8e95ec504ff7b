-- The segments of live names that entries hold, with their runs.
use Rattle.std.specs.Prelude.{◌≡◌, ◌⊎◌, ⊤, List, [], ◌∷◌, ◌++◌, map, Option, None, Some}
use Rattle.std.specs.List.{IsAmong, filter_map}
use Rattle.circular_buffer.specs.Buffer.{keep_last}
use Rattle.wvalues.specs.declared.key.SortKey.{SortKey}
use Rattle.wvalues.specs.Names.{NameParts}
use Rattle.wvalues.specs.Meaning.{Meaning}
use Rattle.wsegment.specs.Rows.{Content}
use Rattle.std.specs.Global.{Global}
use Rattle.std.specs.declared.rc.Rc.{Rc}
use Rattle.wruns.specs.Dealing.{IsRunBy}
use Rattle.wruns.specs.KeptRuns.{KeptParts}
use Rattle.wruns.specs.Runs.{RunParts}
use Rattle.wentries.specs.declared.entries.Entry.{Entry}
use Rattle.wentries.specs.declared.held.Held.{Held}
use Rattle.wentries.specs.declared.held.Held.TheVariants as held

-- the name with its segment and the runs of it, if it is live
abbrev pub named_kept : NameParts → Held → Option (NameParts × KeptParts)
named_kept n (held.Live kept) = Some (n, kept)
named_kept n held.Disputed = None
named_kept n held.Retired = None
named_kept n held.Floor = None

-- the live names with their segments and runs, in the order of names
abbrev pub kept_in : List Entry → List (NameParts × KeptParts)
kept_in es = filter_map (λ e. named_kept e.name e.held) es

-- the rows of each live segment
abbrev pub rows_in : List Entry → List (List (List Meaning))
rows_in es = map (λ k. k.1.content.rows) (kept_in es)

-- the rows of a segment that is held
abbrev pub rows_held : Held → List (List (List Meaning))
rows_held (held.Live kept) = kept.content.rows ∷ []
rows_held held.Disputed = []
rows_held held.Retired = []
rows_held held.Floor = []

-- the keys of the runs of each live segment
abbrev pub orders_in : List Entry → List (List (List SortKey))
orders_in es = map (λ k. k.1.orders) (kept_in es)

-- the keys of the runs of a segment that is held
abbrev pub orders_held : Held → List (List (List SortKey))
orders_held (held.Live kept) = kept.orders ∷ []
orders_held held.Disputed = []
orders_held held.Retired = []
orders_held held.Floor = []

-- a segment's runs are as they were, or the one of these keys, which was not there, is the last, and of five the first is let go
abbrev pub IsAdded : List SortKey → List (List SortKey) → List (List SortKey) → Type 0
IsAdded keys old new = (new ≡ old) ⊎ ((IsAmong old keys → ⊥) × (new ≡ keep_last 4 (old ++ keys ∷ [])))

-- so it is of each of some segments
abbrev pub AreAdded : List SortKey → List (List (List SortKey)) → List (List (List SortKey)) → Type 0
AreAdded keys [] [] = ⊤
AreAdded keys [] (new ∷ news) = ⊥
AreAdded keys (old ∷ olds) [] = ⊥
AreAdded keys (old ∷ olds) (new ∷ news) = IsAdded keys old new × AreAdded keys olds news

-- what is held, whatever runs are kept
abbrev pub plain_held : Held → Option (Option (Option Content))
plain_held (held.Live kept) = Some (Some (Some kept.content))
plain_held held.Disputed = Some (Some None)
plain_held held.Retired = Some None
plain_held held.Floor = None

abbrev pub plain_entry : Entry → NameParts × Option (Option (Option Content))
plain_entry e = (e.name, plain_held e.held)

abbrev pub plain_block : List Entry → List (NameParts × Option (Option (Option Content)))
plain_block es = map plain_entry es

-- a segment that is live has a run of these keys
abbrev pub HeldHasRun : List SortKey → Held → Type 0
HeldHasRun keys (held.Live kept) = IsAmong kept.orders keys
HeldHasRun keys held.Disputed = ⊤
HeldHasRun keys held.Retired = ⊤
HeldHasRun keys held.Floor = ⊤

-- the first of some runs are those by keys of segments that have these rows, one for each, in their order
abbrev pub BeginWithRuns : List SortKey → List (List (List Meaning)) → List (Rc RunParts Global) → Type 0
BeginWithRuns keys [] runs = ⊤
BeginWithRuns keys (rows ∷ more) [] = ⊥
BeginWithRuns keys (rows ∷ more) (run ∷ runs) = IsRunBy keys rows run.value × BeginWithRuns keys more runs
