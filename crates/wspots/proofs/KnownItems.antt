-- What is known of the items of a SELECT by their names, item after item.
use Rattle.std.proofs.Common.{◌≡◌, ℕ, suc, ◌+◌, ◌<◌, Bool, true, false, cond, List, [], ◌∷◌, ◌++◌, drop, get_or, length, ap, sym, ◌∙◌}
use Rattle.std.proofs.Common.{Option, Some, None, add-one, refl, is_some, option_map, true≢false, if◌then◌else◌}
use Rattle.std.proofs.Math.Seq.{drop-cons}
use Rattle.std.proofs.lemmas.Map.Text.{is_eq-slice_cmp}
use Rattle.std.proofs.lemmas.Slice.Eq.{bytes_eq-Decides}
use Rattle.std.specs.Borrow.{Bor}
use Rattle.std.specs.BTreeMap.{BTreeMap, Updates}
use Rattle.std.specs.Str.{bytes_eq}
use Rattle.wscope.specs.Texts.{by_text}
use Rattle.std.specs.Prelude.{◌||◌}
use Rattle.wquery.specs.declared.query.Item.{Item}
use Rattle.wscope.specs.declared.source.SourceColumn.{SourceColumn}
use Rattle.wspots.specs.declared.outputs.Output.{Output}
use Rattle.wspots.specs.declared.outputs.Outputs.{Outputs}
use Rattle.wspots.specs.Items.{ItemTree, Known, all_written_out, columns_from, count_behind, counted, differ, is_all, item_count}
use Rattle.wspots.specs.Items.{first_two, item_of, known_in, named, of_name, with_item, with_items, with_other, written_out}

same_name : {X : Type 0} (name q : List ℕ) (P : List ℕ → X) (x : X) → P name ≡ x → bytes_eq name q ≡ true → P q ≡ x
same_name name q P x e is = ap P (sym ((bytes_eq-Decides name q).0 is)) ∙ e

-- the first item of a name
pub first_noted : (m new : BTreeMap (Bor (List ℕ)) Output) (others : BTreeMap (Bor (List ℕ)) ℕ) (name : Bor (List ℕ)) (v : Output)
    → of_name m name.now ≡ None → Updates by_text m new name (Some v) → (q : Bor (List ℕ))
    → (option_map item_of (of_name new q.now), of_name others q.now)
    ≡ with_item q.now (option_map item_of (of_name m q.now), of_name others q.now) name.now (item_of v)
first_noted m new others name v unknown u q =
    ap (λ g. (option_map item_of g, of_name others q.now)) (u.0 q
    ∙ ap (λ b. cond b (Some v) (of_name m q.now)) (is_eq-slice_cmp name.now q.now))
    ∙ by (bytes_eq name.now q.now) (of_name m q.now) (same_name name.now q.now (of_name m) None unknown)
  where
    by : (b : Bool) (g : Option Output) → (b ≡ true → g ≡ None) → (option_map item_of (cond b (Some v) g), of_name others q.now)
        ≡ (if b then with_other (option_map item_of g) (of_name others q.now) (item_of v) else (option_map item_of g, of_name others q.now))
    by true g none = rw (none refl) refl
    by false g none = refl

-- the first item of a name that is another expression than the first
pub other_noted : (m : BTreeMap (Bor (List ℕ)) Output) (others new : BTreeMap (Bor (List ℕ)) ℕ) (name : Bor (List ℕ)) (first v : Output)
    → of_name m name.now ≡ Some first → is_some (of_name others name.now) ≡ false → differ (item_of first) (item_of v) ≡ true
    → Updates by_text others new name (Some v.place) → (q : Bor (List ℕ))
    → (option_map item_of (of_name m q.now), of_name new q.now)
    ≡ with_item q.now (option_map item_of (of_name m q.now), of_name others q.now) name.now (item_of v)
other_noted m others new name first v known alone differs u q =
    ap (λ o. (option_map item_of (of_name m q.now), o)) (u.0 q
    ∙ ap (λ b. cond b (Some v.place) (of_name others q.now)) (is_eq-slice_cmp name.now q.now))
    ∙ by (bytes_eq name.now q.now) (of_name m q.now) (of_name others q.now) (same_name name.now q.now (of_name m) (Some first) known)
    (same_name name.now q.now (λ n. is_some (of_name others n)) false alone)
  where
    by : (b : Bool) (g : Option Output) (o : Option ℕ) → (b ≡ true → g ≡ Some first) → (b ≡ true → is_some o ≡ false)
        → (option_map item_of g, cond b (Some v.place) o)
        ≡ (if b then with_other (option_map item_of g) o (item_of v) else (option_map item_of g, o))
    by true g None is none = rw (is refl) (rw differs refl)
    by true g (Some n) is none = absurd (true≢false (none refl))
    by false g o is none = refl

-- the first item of a name and the place of the first other one, where both are known, where the first is, and where none is
both_known : (name : List ℕ) (first : ItemTree) (other : ℕ) (items : List (List ℕ × ItemTree))
    → with_items name (Some first, Some other) items ≡ (Some first, Some other)
both_known name first other [] = refl
both_known name first other (item ∷ rest) = by (bytes_eq item.0 name) (both_known name first other rest)
  where
    by : (b : Bool) → with_items name (Some first, Some other) rest ≡ (Some first, Some other)
        → with_items name (if b then with_other (Some first) (Some other) item.1 else (Some first, Some other)) rest ≡ (Some first, Some other)
    by true later = later
    by false later = later

first_known : (name : List ℕ) (first : ItemTree) (items : List (List ℕ × ItemTree))
    → with_items name (Some first, None) items ≡ first_two (first ∷ named name items)
first_known name first [] = refl
first_known name first (item ∷ rest) = by (bytes_eq item.0 name) refl (differ first item.1) refl (first_known name first rest)
  where
    by : (b : Bool) → bytes_eq item.0 name ≡ b → (d : Bool) → differ first item.1 ≡ d
        → with_items name (Some first, None) rest ≡ first_two (first ∷ named name rest)
        → with_items name (with_item name (Some first, None) item.0 item.1) rest ≡ first_two (first ∷ named name (item ∷ rest))
    by true is true differs later = rw (is, differs) (both_known name first item.1.place rest)
    by true is false differs later = rw (is, differs) later
    by false is d differs later = rw is later

pub none_known : (name : List ℕ) (items : List (List ℕ × ItemTree)) → with_items name (None, None) items ≡ first_two (named name items)
none_known name [] = refl
none_known name (item ∷ rest) = by (bytes_eq item.0 name) refl (none_known name rest)
  where
    by : (b : Bool) → bytes_eq item.0 name ≡ b → with_items name (None, None) rest ≡ first_two (named name rest)
        → with_items name (with_item name (None, None) item.0 item.1) rest ≡ first_two (named name (item ∷ rest))
    by true is later = rw is (first_known name item.1 rest)
    by false is later = rw is later

-- some items behind others
pub with_more : (q : List ℕ) (known : Known) (xs ys : List (List ℕ × ItemTree))
    → with_items q known (xs ++ ys) ≡ with_items q (with_items q known xs) ys
with_more q known [] ys = refl
with_more q known (x ∷ xs) ys = with_more q (with_item q known x.0 x.1) xs ys

-- what is known with the columns of a source before one
abbrev pub AreColumns : Outputs → List SourceColumn → ℕ → Outputs → Type 0
AreColumns old columns place outputs = (q : Bor (List ℕ))
    → with_items q.now (known_in outputs q.now) (columns_from outputs.count place (drop place columns))
    ≡ with_items q.now (known_in old q.now) (columns_from old.count 0 columns)

-- what is known with the items before one
pub record AreItems (columns : List SourceColumn) (items : List Item) (i : ℕ) (outputs : Outputs) : Type 0 where
  pub known : (q : Bor (List ℕ))
      → with_items q.now (known_in outputs q.now) (all_written_out columns outputs.has_all outputs.count (drop i items))
      ≡ first_two (named q.now (all_written_out columns false 0 items))
  pub count : count_behind (length columns) outputs.count (drop i items) ≡ count_behind (length columns) 0 items

pub item_noted : (old new : Outputs) (columns : List SourceColumn) (items : List Item) (i : ℕ) (item : Item) → i < length items
    → item ≡ get_or items i item
    → ((q : Bor (List ℕ)) → known_in new q.now ≡ with_items q.now (known_in old q.now) (written_out columns old.has_all old.count item))
    → new.count ≡ counted old.count (item_count (length columns) item) → new.has_all ≡ (old.has_all || is_all item)
    → AreItems columns items i old → AreItems columns items (i + 1) new
item_noted old new columns items i item h is known count all are = rw add-one (record {
  known = λ q. rw (known q, count, all) (sym (with_more q.now (known_in old q.now)
      (written_out columns old.has_all old.count item) _)
      ∙ ap (λ l. with_items q.now (known_in old q.now) (all_written_out columns old.has_all old.count l)) here ∙ are.known q);
  count = rw count (ap (count_behind (length columns) old.count) here ∙ are.count);
})
  where
    here : item ∷ drop (suc i) items ≡ drop i items
    here = ap (λ x. x ∷ drop (suc i) items) is ∙ sym (drop-cons items i item h)
