-- A table with more bytes than a declaration may have is refused alike, whatever follows.
use Rattle.std.proofs.Common.{sym, subst, ℕ, List, ◌++◌, length, ◌<◌, Option, Result, Ok, Err, arith, length-append}
use Rattle.wsegment.specs.Declaration.{Declaration}
use Rattle.wsegment.specs.Spelling.{IsRefusedFor, ReadsDeclaration, Spells}
use Rattle.wsegment.specs.declared.schema_fault.SchemaFault.{SchemaFault}
use Rattle.wsegment.specs.declared.schema_fault.SchemaFault.TheVariants as faults
use Rattle.wcommand.specs.declared.choice.Choice.{Choice}
use Rattle.wact.specs.declared.acted.Acted.{Acted}
use Rattle.wact.specs.declared.opening.Opened.{Opened}
use Rattle.wact.specs.Acts.{Acts}
use Rattle.wact.specs.Laws.{LongTableIsRefusedAlike}
use Rattle.wact.specs.Opening.{Opens, TableRead, TableRefused}

not_spelled : (d : Declaration) (bytes : List ℕ) → 65536 < length bytes → Spells d bytes → ⊥
not_spelled d bytes long spelled = omega (arith, long, spelled.short)

refused : (a b : List ℕ) → 65536 < length a → 65536 < length b → (fault : SchemaFault) → IsRefusedFor a fault → IsRefusedFor b fault
refused a b long_a long_b faults.Syntax none = λ d spelled. not_spelled d b long_b spelled
refused a b long_a long_b faults.RepeatedColumn some = absurd (not_spelled some.0 a long_a some.1)
refused a b long_a long_b faults.ColumnCount some = absurd (not_spelled some.0 a long_a some.1)
refused a b long_a long_b faults.NoMemory none = none

reads : (a b : List ℕ) → 65536 < length a → 65536 < length b → (r : Result Declaration SchemaFault) → ReadsDeclaration a r
    → ReadsDeclaration b r
reads a b long_a long_b (Err fault) is = refused a b long_a long_b fault is
reads a b long_a long_b (Ok d) is =
    absurd (not_spelled d a long_a (subst (λ (text : List ℕ). Spells d text) (sym is.1) is.0.spelled))

acts : (a b : List ℕ) → 65536 < length a → 65536 < length b → (choice : Choice) (store : Option (List ℕ)) (other : List ℕ)
    (acted : Acted) → Acts choice a store other acted → Acts choice b store other acted
acts a b long_a long_b choice store other acted is = record {
  declared = is.declared;
  reads = reads a b long_a long_b is.declared is.reads;
  acts = is.acts;
}

opens : (a b : List ℕ) → 65536 < length a → 65536 < length b → (store : Option (List ℕ)) (opened : Opened) → Opens a store opened
    → Opens b store opened
opens a b long_a long_b store opened (TableRead d is told) = TableRead d (reads a b long_a long_b (Ok d) is) told
opens a b long_a long_b store opened (TableRefused fault is told) =
    TableRefused fault (reads a b long_a long_b (Err fault) is) told

longer : (front rest : List ℕ) → 65536 < length front → 65536 < length (front ++ rest)
longer front rest long = omega (arith, length-append front rest, long)

pub long_tables_alike : LongTableIsRefusedAlike
long_tables_alike front rest store long = (
  λ choice other acted. (
    acts front (front ++ rest) long (longer front rest long) choice store other acted,
    acts (front ++ rest) front (longer front rest long) long choice store other acted,
  ),
  λ opened. (
    opens front (front ++ rest) long (longer front rest long) store opened,
    opens (front ++ rest) front (longer front rest long) long store opened,
  ),
)
