-- What reading the text of a declaration gives.
use Rattle.std.proofs.Common.{◌≡◌, ◌≤◌, ◌<◌, inl, inr, true, false, ℕ, List, length, MatchResult, Result, Ok, Err, refl, arith}
use Rattle.std.specs.List.{AllByRecursion}
use Rattle.wsegment.specs.Declaration.{Declaration, declaration_text, is_name}
use Rattle.wsegment.specs.Spelling.{HasName, IsDeclaration, ReadsDeclaration, Spells, repeats_name}
use Rattle.wsegment.specs.declared.schema_fault.SchemaFault.{SchemaFault}
use Rattle.wsegment.specs.declared.schema_fault.SchemaFault.TheVariants as faults
use Rattle.wsegment.proofs.SpellingFacts.{spells-one}

spells : (d : Declaration) (bytes : List ℕ) → IsDeclaration d → bytes ≡ declaration_text d → Spells d bytes
spells d bytes is e = rw e is.spelled

-- a declaration, by what was found out about it
pub declared : (d : Declaration) (bytes : List ℕ) → length bytes ≤ 65536 → is_name d.table ≡ true
    → AllByRecursion HasName d.columns → bytes ≡ declaration_text d → repeats_name d.columns ≡ false → 0 < length d.columns
    → length d.columns ≤ 64
    → ReadsDeclaration bytes (Ok d)
declared d bytes short table columns text once some few = (
  record {
    spelled = rw (← text) (record { short = short; table = table; columns = columns; text = text });
    distinct =
        once;
    some = some;
    few = few;
  },
  text,
)

-- one that is well formed is read as itself
pub only : (bytes : List ℕ) (r : Result Declaration SchemaFault) → ReadsDeclaration bytes r → (d : Declaration)
    → IsDeclaration d → bytes ≡ declaration_text d → MatchResult r (λ schema. schema ≡ d) (λ fault. fault ≡ faults.NoMemory)
only bytes (Ok s) reads d is e = spells-one s d bytes (spells s bytes reads.0 reads.1) (spells d bytes is e)
only bytes (Err faults.Syntax) reads d is e = absurd (reads d (spells d bytes is e))
only bytes (Err faults.RepeatedColumn) reads d is e =
    let same : reads.0 ≡ d = spells-one reads.0 d bytes reads.1 (spells d bytes is e) in
    let twice : repeats_name d.columns ≡ true = rw (← same) reads.2 in
    cc (twice, is.distinct)
only bytes (Err faults.ColumnCount) reads d is e =
    let same : reads.0 ≡ d = spells-one reads.0 d bytes reads.1 (spells d bytes is e) in
    elim reads.3 [
      | inl none ↦ let n : length d.columns ≡ 0 = rw (← same) none in absurd (omega (arith, n, is.some))
      | inr many ↦ let n : 64 < length d.columns = rw (← same) many in absurd (omega (arith, n, is.few))
    ]
only bytes (Err faults.NoMemory) reads d is e = refl

-- equal texts are of one declaration
pub one-text : (d e : Declaration) → IsDeclaration d → IsDeclaration e → declaration_text d ≡ declaration_text e → d ≡ e
one-text d e is es same = spells-one d e (declaration_text d) is.spelled (spells e (declaration_text d) es same)
