use Rattle.std.proofs.Common.{◌≡◌, ◌∙◌, List, [], ◌∷◌, suc, length, map, take, drop, refl, ap, subst, sym, not, false, arith, rules}
use Rattle.std.specs.List.{filter}
use Rattle.std.proofs.lemmas.Fn.{filter_same}
use Rattle.wvalues.specs.Names.{NameParts}
use Rattle.wentries.specs.Knowledge.{is_above}
use Rattle.wentries.specs.Entries.{AllHeldBy, above_floor, known_entries, AreOriginsBelow, AreBehind}
use Rattle.wentries.specs.declared.entries.Entry.{Entry}
use Rattle.wentries.specs.declared.fall.Fall.{Fall}
use Rattle.wentries.specs.Blocks.{flat, trimmed}
use Rattle.std.proofs.lemmas.List.{length-map}
use Rattle.std.proofs.lemmas.List.Filters.{length-filter_both}
use Rattle.wentries.proofs.Lows.{flat_trimmed, held_filter, kept, known_filter, under}
use Rattle.wentries.proofs.blocks.drop_all_under.Goals as goal

-- where there is no block nothing is dropped
none_dropped : (n : NameParts) (bs : List (List Entry)) → length bs ≡ 0 → known_entries (flat bs) ≡ above_floor n (known_entries (flat bs))
none_dropped n [] e = refl
none_dropped n (b ∷ bs) e = absurd (omega arith)

pub returns-then-is_empty-clause-known : goal.returns-then-is_empty-clause-known
returns-then-is_empty-clause-known c =
    let none : length c.args.blocks.now.items ≡ 0 = search rules in
    none_dropped c.args.floor.now c.args.blocks.now.items none

pub trim_all-fall-requires-clause-before : goal.trim_all-fall-requires-clause-before
trim_all-fall-requires-clause-before c =
    subst (λ o. AreOriginsBelow o (known_entries (flat (take c.origin_home-start.result c.args.blocks.now.items)))) c.origin.ensures.origin
    (subst (λ bs. AreOriginsBelow c.origin.result.now (known_entries (flat (take c.origin_home-start.result bs))))
    c.deref.ensures.value c.origin_home-start.ensures.before)

pub trim_all-fall-requires-clause-behind : goal.trim_all-fall-requires-clause-behind
trim_all-fall-requires-clause-behind c =
    subst (λ bs. AreBehind c.args.floor.now (known_entries (flat (drop (suc c.home-end.result) bs))))
    c.deref-2.ensures.value c.home-end.ensures.behind

pub returns-clause-known : goal.returns-clause-known
returns-clause-known c =
    let kept_blocks = filter_same _ (λ b. not (under c.args.floor.now b)) _ (λ x b f called. search rules) _ _ c.retain.ensures.filtered in
    let all : flat c.retain.new.self.items ≡ kept c.args.floor.now (flat c.args.blocks.now.items) =
    ap flat (kept_blocks ∙ ap (filter (λ b. not (under c.args.floor.now b))) c.trim_all-fall.ensures.trimmed)
    ∙ flat_trimmed c.args.floor.now c.args.blocks.now.items in
    ap known_entries all ∙ known_filter c.args.floor.now (flat c.args.blocks.now.items)

pub returns-clause-read : goal.returns-clause-read
returns-clause-read c d held =
    let kept_blocks = filter_same _ (λ b. not (under c.args.floor.now b)) _ (λ x b f called. search rules) _ _ c.retain.ensures.filtered in
    let all : flat c.retain.new.self.items ≡ kept c.args.floor.now (flat c.args.blocks.now.items) =
    ap flat (kept_blocks ∙ ap (filter (λ b. not (under c.args.floor.now b))) c.trim_all-fall.ensures.trimmed)
    ∙ flat_trimmed c.args.floor.now c.args.blocks.now.items in
    subst (AllHeldBy d) (sym all) (held_filter d (λ e. not (is_above e.name c.args.floor.now)) (flat c.args.blocks.now.items) held)

pub returns-clause-fewer : goal.returns-clause-fewer
returns-clause-fewer c =
    let kept_blocks = filter_same _ (λ b. not (under c.args.floor.now b)) _ (λ x b f called. search rules) _ _ c.retain.ensures.filtered in
    let all = kept_blocks ∙ ap (filter (λ b. not (under c.args.floor.now b))) c.trim_all-fall.ensures.trimmed in
    omega (
      arith,
      ap length all,
      length-filter_both (λ b. not (under c.args.floor.now b))
          (λ b. not (not (under c.args.floor.now b))) (λ b. refl) (map (trimmed c.args.floor.now) c.args.blocks.now.items),
      length-map c.args.blocks.now.items (trimmed c.args.floor.now),
    )

pub returns-then-is_empty-clause-entries : goal.returns-then-is_empty-clause-entries
returns-then-is_empty-clause-entries c few =
    let none : c.new.result.entries ≡ 0 = ap (λ (f : Fall). f.entries) c.new.ensures in
    omega (arith, none)

pub returns-then-not-fall-clause-known : goal.returns-then-not-fall-clause-known
returns-then-not-fall-clause-known c =
    let part : c.trim_all-fall.result.whole ≡ false = search rules in
    ap known_entries (ap flat c.trim_all-fall.ensures.trimmed ∙ c.trim_all-fall.ensures.fall.whole part)
    ∙ known_filter c.args.floor.now (flat c.args.blocks.now.items)

pub returns-then-not-fall-clause-read : goal.returns-then-not-fall-clause-read
returns-then-not-fall-clause-read c d held =
    let part : c.trim_all-fall.result.whole ≡ false = search rules in
    subst (AllHeldBy d) (sym (ap flat c.trim_all-fall.ensures.trimmed ∙ c.trim_all-fall.ensures.fall.whole part))
    (held_filter d (λ e. not (is_above e.name c.args.floor.now)) (flat c.args.blocks.now.items) held)

pub returns-clause-entries : goal.returns-clause-entries
returns-clause-entries c few =
    let kept_blocks = filter_same _ (λ b. not (under c.args.floor.now b)) _ (λ x b f called. search rules) _ _ c.retain.ensures.filtered in
    let all : flat c.retain.new.self.items ≡ kept c.args.floor.now (flat c.args.blocks.now.items) =
    ap flat (kept_blocks ∙ ap (filter (λ b. not (under c.args.floor.now b))) c.trim_all-fall.ensures.trimmed)
    ∙ flat_trimmed c.args.floor.now c.args.blocks.now.items in
    omega (arith, ap length all, c.trim_all-fall.ensures.fall.entries few)
