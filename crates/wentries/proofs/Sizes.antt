-- How many entries there are when something is put of a name, and that they rise.
use Rattle.std.proofs.Common.{◌≡◌, T, List, sym, ap, ◌∙◌, subst, length, arith, ◌+◌, ◌≤◌, Bool, true, false, cond, is_some}
use Rattle.std.specs.FinMap.Entries.{is_sorted-put, length-put}
use Rattle.std.specs.FinMap.{find, put, is_sorted}
use Rattle.wvalues.specs.Names.{NameParts, name_cmp, names_total}
use Rattle.wentries.specs.Knowledge.{Known, Floor}
use Rattle.wentries.specs.declared.entries.Entry.{Entry}
use Rattle.wentries.specs.Entries.{IsRising, above_floor, known_entries}
use Rattle.wentries.proofs.EntryFacts.{length-known_entries}
use Rattle.wentries.proofs.Lows.{fewer}

pub rising_put : (es fs : List Entry) (n : NameParts) (k : Known) → IsRising es
    → known_entries fs ≡ put name_cmp n k (known_entries es) → IsRising fs
rising_put es fs n k h is = subst (λ l. T (is_sorted name_cmp l)) (sym is) (is_sorted-put name_cmp names_total n k (known_entries es) h)

-- ---- their number

-- where nothing was put
pub few_before : (es fs : List Entry) (n : NameParts) (k : Known) → IsRising es → fs ≡ es
    → length fs ≤ length (put name_cmp n k (known_entries es))
few_before es fs n k h is = by (is_some (find name_cmp n (known_entries es))) (length-put name_cmp names_total n k (known_entries es) h)
  where
    by : (b : Bool) → length (put name_cmp n k (known_entries es)) ≡ cond b (length (known_entries es))
        (length (known_entries es) + 1) → length fs ≤ length (put name_cmp n k (known_entries es))
    by true e = omega (arith, e, length-known_entries es, ap length is)
    by false e = omega (arith, e, length-known_entries es, ap length is)

-- where it was put
pub few_after : (es fs : List Entry) (n : NameParts) (k : Known) → known_entries fs ≡ put name_cmp n k (known_entries es)
    → length fs ≤ length (put name_cmp n k (known_entries es))
few_after es fs n k is = omega (arith, length-known_entries fs, ap length is)

-- where then what is below it was dropped
pub few_dropped : (es fs gs : List Entry) (n : NameParts) → known_entries fs ≡ put name_cmp n Floor (known_entries es)
    → known_entries gs ≡ above_floor n (known_entries fs) → length gs ≤ length (put name_cmp n Floor (known_entries es))
few_dropped es fs gs n put_is is = omega (arith, length-known_entries gs, ap length is, fewer n (known_entries fs), ap length put_is)

-- what is put is one entry more, or none
pub put_sized : (es fs : List Entry) (n : NameParts) (k : Known) → IsRising es
    → known_entries fs ≡ put name_cmp n k (known_entries es) → (length es ≤ length fs) × (length fs ≤ length es + 1)
put_sized es fs n k h is = by (is_some (find name_cmp n (known_entries es))) (sym (length-known_entries fs) ∙ ap length is
    ∙ length-put name_cmp names_total n k (known_entries es) h)
  where
    by : (b : Bool) → length fs ≡ cond b (length (known_entries es)) (length (known_entries es) + 1)
        → (length es ≤ length fs) × (length fs ≤ length es + 1)
    by true e = (omega (arith, e, length-known_entries es), omega (arith, e, length-known_entries es))
    by false e = (omega (arith, e, length-known_entries es), omega (arith, e, length-known_entries es))
