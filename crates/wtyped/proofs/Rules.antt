-- What holds of a SELECT that breaks no rule.
use Rattle.std.proofs.Common.{◌≡◌, Bool, true, false, not, ◌&&◌, ◌||◌, ℕ, List, [], ◌∷◌, Option, Some, None, refl}
use Rattle.std.specs.Prelude.{if◌then◌else◌}
use Rattle.std.specs.List.{list_all, list_any}
use Rattle.std.proofs.lemmas.Bool.{or_parts, or_from, and_parts, and_right, not-true}
use Rattle.wquery.specs.Tree.{Tree, KeyTree}
use Rattle.wquery.specs.GroupElements.{all_columns}
use Rattle.wquery.specs.QueryTree.{Clauses, ItemTree, SourceTree}
use Rattle.wscope.specs.Finding.{finds}
use Rattle.wscope.specs.Scope.{is_output, some_anywhere, some_entry, some_item, some_option, some_sort}
use Rattle.wscope.specs.Seeking.{some_node}
use Rattle.wscope.specs.Types.{Titled}
use Rattle.wnames.specs.Calls.{breaks_calls, breaks_filters, breaks_zeroths, is_bad_call}
use Rattle.wnames.specs.Names.{breaks_ambiguity, breaks_columns, breaks_tables, is_ambiguous, is_ambiguous_key, is_missing}
use Rattle.wnames.specs.Groups.{breaks_aggregate_places, breaks_grouping, breaks_window_places, is_group_call}
use Rattle.wnames.specs.Groups.{is_misplaced_window_call, is_nested_group_call, is_window_call}
use Rattle.wnames.specs.Types.{breaks_types, is_ill_typed, is_no_condition, is_truth_entry, is_truth_item, is_truth_key}
use Rattle.wscope.specs.Sources.{written_out}
use Rattle.wwindows.specs.Limits.{breaks_limits}
use Rattle.wwindows.specs.Order.{breaks_places}
use Rattle.wwindows.specs.Windows.{breaks_bounds, breaks_copies, breaks_entries, breaks_groups}
use Rattle.wwindows.specs.Windows.{breaks_ranges, breaks_window_names, windows_of}
use Rattle.wrules.specs.declared.rule.Rule.{Rule}
use Rattle.wrules.specs.declared.rule.Rule.TheVariants.{UnknownTable, UnknownColumn, AmbiguousName, WrongCall, WrongType}
use Rattle.wrules.specs.declared.rule.Rule.TheVariants.{MisplacedWindowCall, MisplacedAggregate, UngroupedColumn, WrongFilter}
use Rattle.wrules.specs.declared.rule.Rule.TheVariants.{UnknownWindow, RepeatedWindow, WrongCopy, WrongBounds, UnorderedGroups}
use Rattle.wrules.specs.declared.rule.Rule.TheVariants.{WrongRangeKey, ZeroCount, WrongPlace, OverLimit}
use Rattle.wrules.specs.Rules.{first_of, first_of_names, first_of_windows, least_broken, or_else}
use Rattle.wtyped.specs.Shapes.{has_misshapen, is_field, is_key_misshapen, is_misshapen}
use Rattle.wtyped.proofs.Walks.{Nowhere, all_nowhere, both_nowhere, some_of}
use Rattle.wtyped.proofs.Tests.{are_false}

some_or_none : (rule : Rule) → ¬ (Some rule ≡ None)
some_or_none rule e = cc

-- of two rules neither is broken
pub neither : (a b : Option Rule) → or_else a b ≡ None → (a ≡ None) × (b ≡ None)
neither None b e = (refl, e)
neither (Some rule) b e = absurd (some_or_none rule e)

pub not_broken : (rule : Rule) (b : Bool) → (if b then Some rule else None) ≡ None → b ≡ false
not_broken rule true e = absurd (some_or_none rule e)
not_broken rule false e = refl

-- of a list of rules none is broken

abbrev AreKept : List (Rule × Bool) → Type 0
AreKept [] = Unit {0}
AreKept (r ∷ rs) = (r.1 ≡ false) × AreKept rs

none_first : (rule : Rule) (b : Bool) (rs : List (Rule × Bool)) → (if b then Some rule else first_of rs) ≡ None
    → (b ≡ false) × (first_of rs ≡ None)
none_first rule true rs e = absurd (some_or_none rule e)
none_first rule false rs e = (refl, e)

are_kept : (rs : List (Rule × Bool)) → first_of rs ≡ None → AreKept rs
are_kept [] e = tt
are_kept (r ∷ rs) e = let k = none_first r.0 r.1 rs e in (k.0, are_kept rs k.1)

pub record RulesKept (table alias : List ℕ) (cs : List Titled) (c : Clauses) (s : SourceTree) : Type 0 where
  pub tables : breaks_tables table alias cs c s ≡ false
  pub columns : breaks_columns cs c ≡ false
  pub ambiguity : breaks_ambiguity cs c ≡ false
  pub calls : breaks_calls cs c ≡ false
  pub types : breaks_types cs c ≡ false
  pub window_places : breaks_window_places cs c ≡ false
  pub aggregates : breaks_aggregate_places cs c ≡ false
  pub grouping : breaks_grouping cs c ≡ false
  pub filters : breaks_filters cs c ≡ false
  pub windows : breaks_window_names (windows_of c) cs c ≡ false
  pub entries : breaks_entries c.windows ≡ false
  pub copies : breaks_copies (windows_of c) cs c ≡ false
  pub bounds : breaks_bounds (windows_of c) cs c ≡ false
  pub groups : breaks_groups (windows_of c) cs c ≡ false
  pub ranges : breaks_ranges (windows_of c) cs c ≡ false
  pub zeroths : breaks_zeroths cs c ≡ false
  pub places : breaks_places cs c ≡ false
  pub limits : breaks_limits cs c ≡ false

pub rules_kept : (table alias : List ℕ) (cs : List Titled) (c : Clauses) (s : SourceTree) → least_broken table alias cs c s ≡ None
    → RulesKept table alias cs c s
rules_kept table alias cs c s e =
    let ws = windows_of c in let n = neither (first_of_names table alias cs c s) (first_of_windows ws cs c) e in
    let names = are_kept (
    (UnknownTable, breaks_tables table alias cs c s) ∷ (UnknownColumn, breaks_columns cs c)
    ∷ (AmbiguousName, breaks_ambiguity cs c) ∷ (WrongCall, breaks_calls cs c) ∷ (WrongType, breaks_types cs c)
    ∷ (MisplacedWindowCall, breaks_window_places cs c) ∷ (MisplacedAggregate, breaks_aggregate_places cs c)
    ∷ (UngroupedColumn, breaks_grouping cs c) ∷ (WrongFilter, breaks_filters cs c) ∷ []) n.0 in
    let windows = are_kept (
    (UnknownWindow, breaks_window_names ws cs c) ∷ (RepeatedWindow, breaks_entries c.windows)
    ∷ (WrongCopy, breaks_copies ws cs c) ∷ (WrongBounds, breaks_bounds ws cs c) ∷ (UnorderedGroups, breaks_groups ws cs c)
    ∷ (WrongRangeKey, breaks_ranges ws cs c) ∷ (ZeroCount, breaks_zeroths cs c) ∷ (WrongPlace, breaks_places cs c)
    ∷ (OverLimit, breaks_limits cs c) ∷ []) n.1 in
    let types = names.1.1.1.1 in let groups = windows.1.1.1.1 in
    record {
      tables = names.0;
      columns = names.1.0;
      ambiguity = names.1.1.0;
      calls = names.1.1.1.0;
      types = types.0;
      window_places = types.1.0;
      aggregates = types.1.1.0;
      grouping = types.1.1.1.0;
      filters = types.1.1.1.1.0;
      windows = windows.0;
      entries = windows.1.0;
      copies = windows.1.1.0;
      bounds = windows.1.1.1.0;
      groups = groups.0;
      ranges = groups.1.0;
      zeroths = groups.1.1.0;
      places = groups.1.1.1.0;
      limits = groups.1.1.1.1.0;
    }

-- a node that some rule refuses
abbrev pub is_refused : List Titled → Tree → Bool
is_refused cs = some_of (is_missing cs) (is_ill_typed cs ∷ is_bad_call ∷ is_misplaced_window_call ∷ is_nested_group_call ∷ [])

-- or that is misshapen
abbrev pub is_bad : List Titled → Tree → Bool
is_bad cs n = is_misshapen n || is_refused cs n

-- no misshapen node anywhere, keys that stand for items left out
shaped_keys : (cs : List Titled) (is : List ItemTree) (ks : List KeyTree) → list_any is_key_misshapen ks ≡ false
    → some_sort cs is (finds is_misshapen) ks ≡ false
shaped_keys cs is [] e = refl
shaped_keys cs is (k ∷ ks) e =
    let p = or_parts _ _ e in
    or_from _ _
    (and_right (not (is_output cs is k.expression)) (some_node (finds is_misshapen) k.expression) p.0) (shaped_keys cs is ks p.1)

well_shaped : (cs : List Titled) (c : Clauses) → has_misshapen c ≡ false → Nowhere cs c (finds is_misshapen)
well_shaped cs c e =
    let w = finds is_misshapen in
    let a = are_false (some_item w c.items) (some_option w c.condition ∷ some_option w c.having ∷ some_entry w c.windows
    ∷ list_any is_key_misshapen c.order ∷ []) e in
    let rest = a.1.1.1 in
    record {
      shown = record {
        items = a.0;
        entries = rest.0;
        order = shaped_keys cs c.items c.order rest.1;
        having =
            a.1.1.0;
      };
      condition = a.1.0;
    }

pub record Kept (cs : List Titled) (c : Clauses) : Type 0 where
  pub bad : Nowhere cs c (finds (is_bad cs))
  pub columns : list_any (is_missing cs) (all_columns c.grouping) ≡ false
  pub ambiguous : list_any (is_ambiguous cs) (all_columns c.grouping) ≡ false
  pub fields : list_all is_field (all_columns c.grouping) ≡ true
  pub condition : is_no_condition cs c.condition ≡ false
  pub having : is_no_condition cs c.having ≡ false
  pub items : list_any (is_truth_item cs) c.items ≡ false
  pub entries : list_any (is_truth_entry cs) c.windows ≡ false
  pub order : list_any (is_truth_key cs c.items) c.order ≡ false
  pub condition_windows : some_option (finds is_window_call) c.condition ≡ false
  pub having_windows : some_option (finds is_window_call) c.having ≡ false
  pub entry_windows : some_entry (finds is_window_call) c.windows ≡ false
  pub condition_groups : some_option (finds is_group_call) c.condition ≡ false
  pub grouping : breaks_grouping cs c ≡ false
  pub bounds : breaks_bounds (windows_of c) cs c ≡ false
  pub groups : breaks_groups (windows_of c) cs c ≡ false
  pub ranges : breaks_ranges (windows_of c) cs c ≡ false
  pub places : breaks_places cs c ≡ false

pub kept : (table alias : List ℕ) (cs : List Titled) (c : Clauses) (s : SourceTree) → least_broken table alias cs c s ≡ None
    → (list_all is_field (all_columns c.grouping) && not (has_misshapen c)) ≡ true → Kept cs c
kept table alias cs c s e shaped =
    let n = rules_kept table alias cs c s e in
    let sh = and_parts _ _ shaped in
    let missing = or_parts _ _ n.columns in
    let ambiguous = are_false (some_anywhere cs c (finds (is_ambiguous cs)))
    (list_any (is_ambiguous cs) (all_columns c.grouping) ∷ list_any (λ (k : KeyTree). is_ambiguous_key cs
    (written_out cs c.items) k.expression) c.order ∷ []) n.ambiguity in
    let t = are_false (some_anywhere cs c (finds (is_ill_typed cs))) (is_no_condition cs c.condition ∷ is_no_condition cs
    c.having ∷ list_any (is_truth_item cs) c.items ∷ list_any (is_truth_entry cs) c.windows ∷ list_any
    (is_truth_key cs c.items) c.order ∷ []) n.types in
    let values = t.1.1.1 in
    let v = are_false (some_option (finds is_window_call) c.condition) (some_option (finds is_window_call) c.having
    ∷ some_entry (finds is_window_call) c.windows ∷ some_anywhere cs c (finds is_misplaced_window_call) ∷ []) n.window_places in
    let g = or_parts _ _ n.aggregates in
    let judged = all_nowhere cs c (is_missing cs) (is_ill_typed cs ∷ is_bad_call ∷ is_misplaced_window_call
    ∷ is_nested_group_call ∷ []) (missing.0, (t.0, (n.calls, (v.1.1.1, g.1)))) in
    record {
      bad = both_nowhere is_misshapen (is_refused cs) (well_shaped cs c (not-true _ sh.1)) judged;
      columns = missing.1;
      ambiguous = ambiguous.1.0;
      fields = sh.0;
      condition = t.1.0;
      having = t.1.1.0;
      items = values.0;
      entries = values.1.0;
      order = values.1.1;
      condition_windows = v.0;
      having_windows = v.1.0;
      entry_windows = v.1.1.0;
      condition_groups = g.0;
      grouping = n.grouping;
      bounds = n.bounds;
      groups = n.groups;
      ranges = n.ranges;
      places = n.places;
    }
