-- What the entries of a set tell of the view that it stands for.
use Rattle.std.proofs.Common.{◌≡◌, ◌∙◌, ℕ, List, [], ◌∷◌, refl, sym, ap, subst, length, map}
use Rattle.std.specs.FinMap.{entries}
use Rattle.std.specs.List.{AllByRecursion}
use Rattle.wvalues.specs.Names.{NameParts}
use Rattle.wsegment.specs.Declaration.{Declaration}
use Rattle.wsegment.specs.Rows.{Content}
use Rattle.wruns.specs.KeptRuns.{KeptParts}
use Rattle.wentries.specs.Keeping.{kept_in}
use Rattle.wset.specs.Views.{lives}
use Rattle.wset.specs.Sets.{DeclaredView}
use Rattle.wentries.specs.Holding.{IsReadBy}
use Rattle.wentries.specs.Blocks.{flat}
use Rattle.wentries.specs.Entries.{known_entries, listing_of}
use Rattle.wset.specs.Listing.{listed}
use Rattle.wset.specs.Storing.{declared_view, IsOrderly}
use Rattle.wset.specs.Walking.{contents, named_content}
use Rattle.wset.specs.declared.set.SegmentSet.TheInside.{Inside}
use Rattle.wentries.proofs.EntryFacts.{length-known_entries}
use Rattle.wset.proofs.LiveFacts.{kept_read, lives_kept}
use Rattle.wset.proofs.Maps.{entries-is}
use Rattle.wset.proofs.Tables.{listed_entries}

pub names_told : (a : Inside) (s : DeclaredView) → IsOrderly a → declared_view a ≡ s → known_entries (flat a.blocks.items) ≡ entries s.view
names_told a s h is = sym (entries-is (flat a.blocks.items) s.view h.rising (ap (λ x. x.view) is))

pub names_counted : (a : Inside) (s : DeclaredView) → IsOrderly a → declared_view a ≡ s → a.count ≡ length (entries s.view)
names_counted a s h is = h.counted ∙ sym (length-known_entries (flat a.blocks.items)) ∙ ap length (names_told a s h is)

pub names_listed : (a : Inside) (s : DeclaredView) → IsOrderly a → declared_view a ≡ s
    → map listing_of (flat a.blocks.items) ≡ map (listed s.schema) (entries s.view)
names_listed a s h is =
    listed_entries a.schema (flat a.blocks.items) h.read ∙ ap (map (listed a.schema)) (names_told a s h is)
    ∙ ap (λ x. map (listed x.schema) (entries s.view)) is

content_bytes : (ks : List (NameParts × KeptParts))
    → map {B = NameParts × List ℕ} (λ e. (e.0, e.1.bytes)) (map named_content ks) ≡ map (λ k. (k.0, k.1.content.bytes)) ks
content_bytes [] = refl
content_bytes (k ∷ ks) = ap (λ l. (k.0, k.1.content.bytes) ∷ l) (content_bytes ks)

pub lives_known : (a : Inside) (s : DeclaredView) → IsOrderly a → declared_view a ≡ s
    → map (λ e. (e.0, e.1.bytes)) (contents (flat a.blocks.items)) ≡ lives s.view
lives_known a s h is = content_bytes (kept_in (flat a.blocks.items)) ∙ lives_kept a s h is

contents_read : (d : Declaration) (ks : List (NameParts × KeptParts)) → AllByRecursion (λ k. IsReadBy d k.1.content) ks
    → AllByRecursion (λ (e : NameParts × Content). IsReadBy d e.1) (map named_content ks)
contents_read d [] all = tt
contents_read d (k ∷ ks) all = (all.0, contents_read d ks all.1)

pub lives_read : (a : Inside) (s : DeclaredView) → IsOrderly a → declared_view a ≡ s
    → AllByRecursion (λ e. IsReadBy s.schema e.1) (contents (flat a.blocks.items))
lives_read a s h is = subst (λ x. AllByRecursion (λ e. IsReadBy x.schema e.1) (contents (flat a.blocks.items))) is
    (contents_read a.schema (kept_in (flat a.blocks.items)) (kept_read a.schema (flat a.blocks.items) h.read))
