-- The live names of parts, and of entries that hold the same.
use Rattle.std.proofs.Common.{◌≡◌, suc, ◌+◌, ◌≤◌, List, [], ◌∷◌, ◌++◌, length, map, refl}
use Rattle.std.proofs.Common.{sym, ap, ◌∙◌, arith, Some, None, length-append, Option}
use Rattle.std.specs.List.{filter_map}
use Rattle.wvalues.specs.Names.{NameParts}
use Rattle.wentries.specs.Keeping.{kept_in, plain_entry, plain_held}
use Rattle.wentries.specs.declared.entries.Entry.{Entry}
use Rattle.wentries.specs.declared.held.Held.{Held}
use Rattle.wentries.specs.declared.held.Held.TheVariants as held
use Rattle.wsegment.specs.Rows.{Content}

-- ---- those of parts

pub kept_append : (xs ys : List Entry) → kept_in (xs ++ ys) ≡ kept_in xs ++ kept_in ys
kept_append [] ys = refl
kept_append (x ∷ xs) ys = by x.name x.held (kept_append xs ys)
  where
    by : (n : NameParts) (h : Held) → kept_in (xs ++ ys) ≡ kept_in xs ++ kept_in ys
        → kept_in (record { name = n; held = h } ∷ (xs ++ ys)) ≡ kept_in (record { name = n; held = h } ∷ xs) ++ kept_in ys
    by n (held.Live kept) rest = ap (λ l. (n, kept) ∷ l) rest
    by n held.Disputed rest = rest
    by n held.Retired rest = rest
    by n held.Floor rest = rest

pub kept_few : (es : List Entry) → length (kept_in es) ≤ length es
kept_few [] = omega arith
kept_few (e ∷ es) = by e.name e.held (kept_few es)
  where
    by : (n : NameParts) (h : Held) → length (kept_in es) ≤ length es
        → length (kept_in (record { name = n; held = h } ∷ es)) ≤ suc (length es)
    by n (held.Live kept) rest = omega (arith, rest)
    by n held.Disputed rest = omega (arith, rest)
    by n held.Retired rest = omega (arith, rest)
    by n held.Floor rest = omega (arith, rest)

pub length_kept : (xs ys : List Entry) → length (kept_in (xs ++ ys)) ≡ length (kept_in xs) + length (kept_in ys)
length_kept xs ys = ap length (kept_append xs ys) ∙ length-append (kept_in xs) (kept_in ys)

-- ---- those of entries that hold the same

-- the content, if the name is live
abbrev pub plain_live : NameParts × Option (Option (Option Content)) → Option Content
plain_live (n, None) = None
plain_live (n, Some None) = None
plain_live (n, Some (Some None)) = None
plain_live (n, Some (Some (Some c))) = Some c

plain_count : (es : List Entry) → length (filter_map plain_live (map plain_entry es)) ≡ length (kept_in es)
plain_count [] = refl
plain_count (e ∷ es) = by e.name e.held (plain_count es)
  where
    by : (n : NameParts) (h : Held) → length (filter_map plain_live (map plain_entry es)) ≡ length (kept_in es)
        → length (filter_map plain_live ((n, plain_held h) ∷ map plain_entry es)) ≡ length (kept_in (record { name = n; held = h } ∷ es))
    by n (held.Live kept) rest = ap suc rest
    by n held.Disputed rest = rest
    by n held.Retired rest = rest
    by n held.Floor rest = rest

-- as many names are live
pub count_same : (a b : List Entry) → map plain_entry a ≡ map plain_entry b → length (kept_in a) ≡ length (kept_in b)
count_same a b e = sym (plain_count a) ∙ ap (λ l. length (filter_map plain_live l)) e ∙ plain_count b
