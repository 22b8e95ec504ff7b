-- CSV with more bytes than a segment may have is refused alike, whatever follows.
use Rattle.std.proofs.Common.{◌≡◌, ◌∙◌, sym, ap, ℕ, List, ◌++◌, length, ◌<◌, Option, Result, Ok, Err, true≢false, arith, length-append}
use Rattle.std.specs.Prelude.{IsOk, is_ok}
use Rattle.wvalues.specs.Names.{NameParts}
use Rattle.wsegment.specs.Declaration.{Declaration}
use Rattle.wsegment.specs.Rows.{rows_of}
use Rattle.wsegment.specs.declared.fault.SegmentFault.TheVariants as faults
use Rattle.wsegment.specs.declared.schema_fault.SchemaFault.{SchemaFault}
use Rattle.wsegment.proofs.SegmentFacts.{rows-long}
use Rattle.wset.specs.Views.{View}
use Rattle.wcommand.specs.declared.choice.Choice.{Choice}
use Rattle.wcommand.specs.declared.choice.Choice.TheVariants as choices
use Rattle.wact.specs.declared.acted.Acted.{Acted}
use Rattle.wact.specs.Acts.{Acts, ActsBy, ActsOn, ActsRead, Done, NameRefused, Named, OnName, SegmentRefused, StoreRefused, Taken, Takes}
use Rattle.wact.specs.Laws.{IsTake, LongIsRefusedAlike}

on_name : {origin number : List ℕ} {acted : Acted} {P Q : NameParts → Type 0} → ((name : NameParts) → P name → Q name)
    → OnName origin number acted P → OnName origin number acted Q
on_name f (NameRefused fault reads told) = NameRefused fault reads told
on_name f (Named name reads does) = Named name reads (f name does)

not_taken : (d : Declaration) (csv : List ℕ) → rows_of d csv ≡ Err faults.TooLong → IsOk (rows_of d csv) → ⊥
not_taken d csv long ok = true≢false (sym ok ∙ ap is_ok long)

takes : (d : Declaration) (v : View) (old : Option (List ℕ)) (a b : List ℕ) (acted : Acted) → rows_of d a ≡ Err faults.TooLong
    → rows_of d b ≡ Err faults.TooLong → (name : NameParts) → Takes d v old a acted name → Takes d v old b acted name
takes d v old a b acted long_a long_b name (SegmentRefused fault is told) = SegmentRefused fault (long_b ∙ sym long_a ∙ is) told
takes d v old a b acted long_a long_b name (Taken ok stored) = absurd (not_taken d a long_a ok)

acts_on : (d : Declaration) (v : View) (choice : Choice) (store : Option (List ℕ)) (a b : List ℕ) (acted : Acted) → IsTake choice
    → 67108864 < length a → 67108864 < length b → ActsOn d v choice store a acted → ActsOn d v choice store b acted
acts_on d v (choices.Take paths origin number csv) store a b acted take long_a long_b does =
    on_name (takes d v store a b acted (rows-long d a long_a) (rows-long d b long_b)) does
acts_on d v choices.Session store a b acted take long_a long_b does = absurd take
acts_on d v (choices.Retire paths origin number) store a b acted take long_a long_b does = absurd take
acts_on d v (choices.Floor paths origin number) store a b acted take long_a long_b does = absurd take
acts_on d v (choices.Join paths path) store a b acted take long_a long_b does = absurd take
acts_on d v (choices.Feed paths path) store a b acted take long_a long_b does = absurd take
acts_on d v (choices.List paths) store a b acted take long_a long_b does = absurd take
acts_on d v (choices.Ask paths queries) store a b acted take long_a long_b does = absurd take
acts_on d v (choices.Shell paths) store a b acted take long_a long_b does = absurd take

acts_by : (d : Declaration) (choice : Choice) (store : Option (List ℕ)) (a b : List ℕ) (acted : Acted) → IsTake choice
    → 67108864 < length a → 67108864 < length b → ActsBy d choice store a acted → ActsBy d choice store b acted
acts_by d choice store a b acted take long_a long_b (StoreRefused fault kind is told) = StoreRefused fault kind is told
acts_by d choice store a b acted take long_a long_b (Done v knows does) =
    Done v knows (acts_on d v choice store a b acted take long_a long_b does)

acts_read : (declared : Result Declaration SchemaFault) (choice : Choice) (store : Option (List ℕ)) (a b : List ℕ) (acted : Acted)
    → IsTake choice → 67108864 < length a → 67108864 < length b → ActsRead declared choice store a acted
    → ActsRead declared choice store b acted
acts_read (Err fault) choice store a b acted take long_a long_b acts = acts
acts_read (Ok d) choice store a b acted take long_a long_b acts = acts_by d choice store a b acted take long_a long_b acts

alike : (choice : Choice) (table : List ℕ) (store : Option (List ℕ)) (a b : List ℕ) (acted : Acted) → IsTake choice
    → 67108864 < length a → 67108864 < length b → Acts choice table store a acted → Acts choice table store b acted
alike choice table store a b acted take long_a long_b acts = record {
  declared = acts.declared;
  reads = acts.reads;
  acts = acts_read acts.declared choice store a b acted take long_a long_b acts.acts;
}

longer : (front rest : List ℕ) → 67108864 < length front → 67108864 < length (front ++ rest)
longer front rest long = omega (arith, length-append front rest, long)

pub long_alike : LongIsRefusedAlike
long_alike choice table store front rest acted take long = (
  alike choice table store front (front ++ rest) acted take long (longer front rest long),
  alike choice table store (front ++ rest) front acted take (longer front rest long) long,
)
