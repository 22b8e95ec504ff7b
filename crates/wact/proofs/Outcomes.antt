-- Facts of what was done carry over to facts of the answer.
use Rattle.std.proofs.Common.{◌≡◌, ◌≢◌, ◌⊎◌, ⊎_elim, ◌∙◌, ℕ, ◌<◌, ◌≤◌, Bool, true, false, true≢false, List, length, Option}
use Rattle.std.proofs.Common.{Some, inl, inr, Result, Ok, Err, IfOk, OnErr, ap, subst, sym}
use Rattle.std.specs.Prelude.{OnOk}
use Rattle.std.proofs.lemmas.Bool.{cases_lt}
use Rattle.std.specs.FinMap.{empty}
use Rattle.wsegment.specs.Declaration.{Declaration}
use Rattle.wsegment.specs.Spelling.{ReadsDeclaration}
use Rattle.wsegment.specs.declared.schema_fault.SchemaFault.{SchemaFault}
use Rattle.wsegment.specs.declared.schema_fault.SchemaFault.TheVariants as tables
use Rattle.wset.specs.Views.{View, join}
use Rattle.wexchange.specs.Judging.{IsFileOf}
use Rattle.wact.specs.declared.acted.Acted.{Acted}
use Rattle.wact.specs.Outcomes.{IsStored}
use Rattle.wcommand.specs.declared.choice.Choice.{Choice}
use Rattle.wact.specs.Acts.{Acts, ActsRead, Knows, MayLack, MayLackRead}
use Rattle.wact.specs.Opening.{MayLackOpening, MayLackReading}

-- what follows from a value holds of an answer that is there
pub if_ok : {A E : Type 0} {P Q : A → Type 0} (r : Result A E) → ((v : A) → P v → Q v) → IfOk r P → IfOk r Q
if_ok (Ok v) f p = f v p
if_ok (Err e) f p = tt

-- what holds but where memory ran out
pub but_memory : {A : Type 0} {x none : A} {P : Type 0} → x ≢ none → (x ≡ none) ⊎ P → P
but_memory other (inl e) = absurd (other e)
but_memory other (inr p) = p

-- the file of one view is that of an equal one
pub stored_as : (d d' : Declaration) (v v' : View) (old : Option (List ℕ)) (acted : Acted) (text : List ℕ) → d' ≡ d → v' ≡ v
    → IsStored d' v' old acted text → IsStored d v old acted text
stored_as d d' v v' old acted text same_d same_v stored =
    subst (λ w. IsStored d w old acted text) same_v (subst (λ e. IsStored e v' old acted text) same_d stored)

-- what a node that knew nothing has got from the store's file
pub knows_told : (d d' : Declaration) (store : Option (List ℕ)) (bytes : List ℕ) (v v' w : View)
    → store ≡ Some bytes → d' ≡ d → v' ≡ empty → IsFileOf d' w bytes → v ≡ join v' w → Knows d store v
knows_told d d' store bytes v v' w there same none file is =
    subst (λ (s : Option (List ℕ)). Knows d s v) (sym there) (record {
      in_file = w;
      file = subst (λ e. IsFileOf e w bytes) same file;
      is = is ∙ ap (λ x. join x w) none;
    })

-- what is done where the table is judged
pub acts : {E : Type 0} (choice : Choice) (table : List ℕ) (store : Option (List ℕ)) (other : List ℕ)
    (declared : Result Declaration SchemaFault) (r : Result Acted E) → ReadsDeclaration table declared
    → IfOk r (λ acted. ActsRead declared choice store other acted) → IfOk r (λ acted. Acts choice table store other acted)
acts choice table store other declared (Ok acted) reads done = record { declared = declared; reads = reads; acts = done }
acts choice table store other declared (Err e) reads done = tt

-- what follows of a want of memory
pub on_err : {A E : Type 0} {P Q : Type 0} (r : Result A E) → (P → Q) → OnErr r P → OnErr r Q
on_err (Ok v) f p = tt
on_err (Err e) f p = f p

-- what holds at all holds where an answer is there
pub at_ok : {A E : Type 0} {P : Type 0} (r : Result A E) → P → OnOk r P
at_ok (Ok v) p = p
at_ok (Err e) p = tt

-- and where memory is wanting
pub at_err : {A E : Type 0} {P : Type 0} (r : Result A E) → P → OnErr r P
at_err (Ok v) p = tt
at_err (Err e) p = p

-- bytes of which no more are refused so are no more than that
pub short_by : {A F : Type 0} (most n : ℕ) (r : Result A F) (fault : F) → (most < n → r ≡ Err fault) → r ≢ Err fault → n ≤ most
short_by most n r fault long other = ⊎_elim (λ more. absurd (other (long more))) (λ few. few) (cases_lt most n)

abbrev is_memory : SchemaFault → Bool
is_memory tables.NoMemory = true
is_memory _ = false

-- a declaration that is too long to be one is refused, and that needs no memory
short_enough : (choice : Choice) (store : Option (List ℕ)) (other : List ℕ) (n : ℕ)
    (declared : Result Declaration SchemaFault) → (65536 < n → declared ≡ Err tables.Syntax)
    → MayLackRead declared choice store other → n ≤ 65536
short_enough choice store other n declared long lack = ⊎_elim
    (λ more. absurd (true≢false (sym (ap is_memory (subst (λ r. MayLackRead r choice store other) (long more) lack)))))
    (λ few. few)
    (cases_lt 65536 n)

-- where memory is wanting while the table is judged, or behind it
pub lacks : {A E : Type 0} (choice : Choice) (table : List ℕ) (store : Option (List ℕ)) (other : List ℕ)
    (declared : Result Declaration SchemaFault) (r : Result A E) → ReadsDeclaration table declared
    → (65536 < length table → declared ≡ Err tables.Syntax) → OnErr r (MayLackRead declared choice store other)
    → OnErr r (MayLack choice table store other)
lacks choice table store other declared r reads long = on_err r (λ lack. record {
  declared = declared;
  reads = reads;
  short = short_enough choice store other (length table) declared long lack;
  lacks = lack;
})

-- the table that is opened
opening_short : (store : Option (List ℕ)) (n : ℕ) (declared : Result Declaration SchemaFault)
    → (65536 < n → declared ≡ Err tables.Syntax) → MayLackReading declared store → n ≤ 65536
opening_short store n declared long lack = ⊎_elim
    (λ more. absurd (true≢false (sym (ap is_memory (subst (λ r. MayLackReading r store) (long more) lack)))))
    (λ few. few)
    (cases_lt 65536 n)

-- where memory is wanting while a table is opened, or behind it
pub lacks_opening : (table : List ℕ) (store : Option (List ℕ)) (declared : Result Declaration SchemaFault)
    → ReadsDeclaration table declared → (65536 < length table → declared ≡ Err tables.Syntax) → MayLackReading declared store
    → MayLackOpening table store
lacks_opening table store declared reads long lack = record {
  declared = declared;
  reads = reads;
  short = opening_short store (length table) declared long lack;
  lacks = lack;
}
