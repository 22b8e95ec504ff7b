-- A set whose view is changed, by what it keeps.
use Rattle.std.proofs.Common.{◌≡◌, ℕ, ◌<◌, List, Option, None, Some, IfSome, true, length, refl, sym, ap, subst, ◌∙◌}
use Rattle.std.proofs.lemmas.Bool.{true≢false}
use Rattle.std.specs.Prelude.{IsOk, is_some}
use Rattle.std.specs.Borrow.{Bor}
use Rattle.wsegment.specs.Declaration.{Declaration}
use Rattle.wsegment.specs.Rows.{Content, rows_of}
use Rattle.wsegment.proofs.SegmentFacts.{rows-long}
use Rattle.wruns.specs.KeptRuns.{KeptParts}
use Rattle.wset.specs.Views.{View}
use Rattle.wset.specs.Sets.{Becomes, DeclaredView}
use Rattle.wvalues.specs.declared.key.SortKey.{SortKey}
use Rattle.wentries.specs.Holding.{IsHeldBy, IsReadBy}
use Rattle.wentries.specs.Entries.{AllHeldBy}
use Rattle.wentries.specs.declared.entries.Entry.{Entry}
use Rattle.wentries.specs.declared.held.Held.{Held}

-- a new view of the kept entries is one of the set
pub changed : (d : Declaration) (v w : View) (o p : List (List (List SortKey))) (s : DeclaredView) (f : View → View)
    → record { schema = d; view = v; orders = o } ≡ s → w ≡ f v → Becomes s (f s.view) (record { schema = d; view = w; orders = p })
changed d v w o p s f is e = record { schema = ap (λ (x : DeclaredView). x.schema) is; view = e ∙ ap (λ (x : DeclaredView). f x.view) is }

-- a set that is left as it is
pub same_view : (s : DeclaredView) (w : View) → s.view ≡ w → Becomes s w s
same_view s w e = record { schema = refl; view = e }

-- and an equal view of it
pub then_view : (s t : DeclaredView) (v w : View) → Becomes s v t → v ≡ w → Becomes s w t
then_view s t v w b e = record { schema = b.schema; view = b.view ∙ e }

-- what is held of a name was read by the declaration
pub held_read : (d : Declaration) (es : List Entry) (o : Option (Bor Held)) → IfSome o (λ held. (d : Declaration)
    → AllHeldBy d es → IsHeldBy d held.now) → AllHeldBy d es → IfSome o (λ held. IsHeldBy d held.now)
held_read d es None h all = tt
held_read d es (Some held) h all = h d all

-- what was read is not too long to be read
pub read_long : (d : Declaration) (content : Content) (bytes : List ℕ) → content.bytes ≡ bytes → IsReadBy d content
    → 67108864 < length bytes → ⊥
read_long d content bytes same read long =
    true≢false (sym (subst IsOk (sym read.rows ∙ ap (rows_of d) same ∙ rows-long d bytes long) refl))

pub known_long : (d : Declaration) (bytes : List ℕ) (o : Option (Bor KeptParts)) → IfSome o (λ kept. kept.now.content.bytes ≡ bytes)
    → IfSome o (λ kept. IsReadBy d kept.now.content) → is_some o ≡ true → 67108864 < length bytes → ⊥
known_long d bytes None same read some = absurd cc
known_long d bytes (Some kept) same read some = read_long d kept.now.content bytes same read
