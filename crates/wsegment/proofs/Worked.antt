-- Segments of the table of sales, as the definition reads them.
use Rattle.std.proofs.Common.{◌≡◌, ◌∷◌, [], ℕ, List, codes, pos, Result, Ok, Err, refl}
use Rattle.wvalues.specs.Meaning.{Meaning, Null, Int, Text}
use Rattle.wsegment.specs.Declaration.{Declaration}
use Rattle.wsegment.specs.Rows.{rows_of}
use Rattle.wsegment.specs.declared.fault.SegmentFault.{SegmentFault}
use Rattle.wsegment.specs.declared.fault.SegmentFault.TheVariants as faults
use Rattle.wsegment.specs.declared.kind.Kind.TheVariants as kinds
use Rattle.wsegment.proofs.OnLiterals.{rows_on_literals}

abbrev sales : Declaration
sales = record {
  table = codes "sales";
  columns = record { name = codes "day"; kind = kinds.Integer } ∷ record {
    name = codes "shop";
    kind =
        kinds.Text;
  } ∷ record { name = codes "amount"; kind = kinds.Integer } ∷ [];
}

abbrev read : List ℕ → Result (List (List Meaning)) SegmentFault
read bytes = rows_of sales bytes

pub marked : read (239 ∷ 187 ∷ 191 ∷ codes "shop,day,amount\r\nb,7,\r\n") ≡ Ok ((Int (pos 7) ∷ Text (codes "b") ∷ Null ∷ []) ∷ [])
unfolding rows_on_literals
marked = refl

pub no-header : read [] ≡ Err faults.NoHeader
unfolding rows_on_literals
no-header = refl

pub unknown : read (codes "day,shop,amount,x\n") ≡ Err faults.UnknownColumn
unfolding rows_on_literals
unknown = refl

pub repeated : read (codes "day,day,amount\n") ≡ Err faults.RepeatedColumn
unfolding rows_on_literals
repeated = refl

pub missing : read (codes "day,shop\n") ≡ Err faults.MissingColumn
unfolding rows_on_literals
missing = refl

pub short : read (codes "day,shop,amount\n1,x\n") ≡ Err (faults.RowLength 1)
unfolding rows_on_literals
short = refl

pub blank : read (codes "day,shop,amount\n 7,x,1\n") ≡ Err (faults.NotInteger 1)
unfolding rows_on_literals
blank = refl

pub too-large : read (codes "day,shop,amount\n9223372036854775808,x,1\n") ≡ Err (faults.NotInteger 1)
unfolding rows_on_literals
too-large = refl

pub plus : read (codes "day,shop,amount\n+7,x,1\n") ≡ Ok ((Int (pos 7) ∷ Text (codes "x") ∷ Int (pos 1) ∷ []) ∷ [])
unfolding rows_on_literals
plus = refl
