-- Runs that are added in turn, one to each live segment.
use Rattle.std.proofs.Common.{◌≡◌, ℕ, zero, suc, ◌+◌, List, [], ◌∷◌, ◌++◌, get_or, inl, slice_set, refl, sym, ap, subst, ◌∙◌, arith}
use Rattle.std.specs.Prelude.{⊤}
use Rattle.std.specs.List.{flat_map}
use Rattle.wvalues.specs.declared.key.SortKey.{SortKey}
use Rattle.wvalues.specs.Names.{NameParts}
use Rattle.wentries.specs.Blocks.{flat}
use Rattle.wentries.specs.Keeping.{AreAdded, orders_held, orders_in}
use Rattle.wentries.specs.declared.entries.Entry.{Entry}
use Rattle.wentries.specs.declared.held.Held.{Held}
use Rattle.wentries.specs.declared.held.Held.TheVariants as held

-- where nothing is added
pub added_none : (keys : List SortKey) (s : List (List (List SortKey))) → AreAdded keys s s
added_none keys [] = tt
added_none keys (o ∷ s) = (inl refl, added_none keys s)

added_join : (keys : List SortKey) (a b x y : List (List (List SortKey))) → AreAdded keys a x → AreAdded keys b y
    → AreAdded keys (a ++ b) (x ++ y)
added_join keys [] b [] y h t = t
added_join keys [] b (n ∷ x) y h t = absurd h
added_join keys (o ∷ a) b [] y h t = absurd h
added_join keys (o ∷ a) b (n ∷ x) y h t = (h.0, added_join keys a b x y h.1 t)

module _ {X : Type 0} (orders_of : X → List (List (List SortKey))) where
  -- runs are added to the first so many, and the others are as they were
  abbrev pub AreAddedTo : List SortKey → ℕ → List X → List X → Type 0
  AreAddedTo keys zero old new = new ≡ old
  AreAddedTo keys (suc i) [] [] = ⊤
  AreAddedTo keys (suc i) [] (n ∷ new) = ⊥
  AreAddedTo keys (suc i) (o ∷ old) [] = ⊥
  AreAddedTo keys (suc i) (o ∷ old) (n ∷ new) = AreAdded keys (orders_of o) (orders_of n) × AreAddedTo keys i old new

  module _ (keys : List SortKey) where
    added_here : (old new : List X) (x k : X) → x ≡ get_or new zero x → AreAdded keys (orders_of x) (orders_of k)
        → new ≡ old → AreAddedTo keys (suc zero) old (slice_set new zero k)
    added_here [] [] x k is h e = tt
    added_here [] (n ∷ new) x k is h e = absurd cc
    added_here (o ∷ old) [] x k is h e = absurd cc
    added_here (o ∷ old) (n ∷ new) x k is h e =
        let first : n ≡ o = cc in
        let rest : new ≡ old = cc in
        (subst (λ z. AreAdded keys (orders_of z) (orders_of k)) (is ∙ first) h, rest)

    added_more : (old new : List X) (i : ℕ) (x k : X) → x ≡ get_or new i x → AreAdded keys (orders_of x) (orders_of k)
        → AreAddedTo keys i old new → AreAddedTo keys (suc i) old (slice_set new i k)
    added_more old new zero x k is h t = added_here old new x k is h t
    added_more [] [] (suc i) x k is h t = tt
    added_more [] (n ∷ new) (suc i) x k is h t = absurd t
    added_more (o ∷ old) [] (suc i) x k is h t = absurd t
    added_more (o ∷ old) (n ∷ new) (suc i) x k is h t = (t.0, added_more old new i x k is h t.1)

    -- one more
    pub added_next : (old new : List X) (i : ℕ) (x k : X) → x ≡ get_or new i x → AreAdded keys (orders_of x) (orders_of k)
        → AreAddedTo keys i old new → AreAddedTo keys (i + 1) old (slice_set new i k)
    added_next old new i x k is h t =
        let e : suc i ≡ i + 1 = omega arith in
        subst (λ j. AreAddedTo keys j old (slice_set new i k)) e (added_more old new i x k is h t)

    -- and that is so of all
    pub added_all : (i : ℕ) (old new : List X) → AreAddedTo keys i old new
        → AreAdded keys (flat_map orders_of old) (flat_map orders_of new)
    added_all zero old new e = subst (λ l. AreAdded keys (flat_map orders_of l) (flat_map orders_of new)) e
        (added_none keys (flat_map orders_of new))
    added_all (suc i) [] [] h = tt
    added_all (suc i) [] (n ∷ new) h = absurd h
    added_all (suc i) (o ∷ old) [] h = absurd h
    added_all (suc i) (o ∷ old) (n ∷ new) h = added_join keys (orders_of o) (flat_map orders_of old) (orders_of n)
        (flat_map orders_of new) h.0 (added_all i old new h.1)

-- the orders of entries, entry by entry
orders_by_entry : (es : List Entry) → flat_map (λ (e : Entry). orders_held e.held) es ≡ orders_in es
orders_by_entry [] = refl
orders_by_entry (e ∷ es) = by e.name e.held (orders_by_entry es)
  where
    by : (n : NameParts) (h : Held) → flat_map (λ (e : Entry). orders_held e.held) es ≡ orders_in es
        → orders_held h ++ flat_map (λ (e : Entry). orders_held e.held) es ≡ orders_in (record { name = n; held = h } ∷ es)
    by n (held.Live kept) rest = ap (λ l. kept.orders ∷ l) rest
    by n held.Disputed rest = rest
    by n held.Retired rest = rest
    by n held.Floor rest = rest

orders_joined : (a b : List Entry) → orders_in (a ++ b) ≡ orders_in a ++ orders_in b
orders_joined [] b = refl
orders_joined (e ∷ a) b = by e.name e.held (orders_joined a b)
  where
    by : (n : NameParts) (h : Held) → orders_in (a ++ b) ≡ orders_in a ++ orders_in b
        → orders_in (record { name = n; held = h } ∷ (a ++ b)) ≡ orders_in (record { name = n; held = h } ∷ a) ++ orders_in b
    by n (held.Live kept) rest = ap (λ l. kept.orders ∷ l) rest
    by n held.Disputed rest = rest
    by n held.Retired rest = rest
    by n held.Floor rest = rest

-- the orders of blocks, block by block
orders_by_block : (bs : List (List Entry)) → flat_map orders_in bs ≡ orders_in (flat bs)
orders_by_block [] = refl
orders_by_block (b ∷ bs) = ap (λ l. orders_in b ++ l) (orders_by_block bs) ∙ sym (orders_joined b (flat bs))

pub entries_added : (keys : List SortKey) (i : ℕ) (old new : List Entry)
    → AreAddedTo (λ (e : Entry). orders_held e.held) keys i old new → AreAdded keys (orders_in old) (orders_in new)
entries_added keys i old new h = subst (λ l. AreAdded keys l (orders_in new)) (orders_by_entry old)
    (subst (AreAdded keys (flat_map (λ (e : Entry). orders_held e.held) old)) (orders_by_entry new)
    (added_all (λ (e : Entry). orders_held e.held) keys i old new h))

pub blocks_added : (keys : List SortKey) (i : ℕ) (old new : List (List Entry)) → AreAddedTo orders_in keys i old new
    → AreAdded keys (orders_in (flat old)) (orders_in (flat new))
blocks_added keys i old new h = subst (λ l. AreAdded keys l (orders_in (flat new))) (orders_by_block old)
    (subst (AreAdded keys (flat_map orders_in old)) (orders_by_block new) (added_all orders_in keys i old new h))
