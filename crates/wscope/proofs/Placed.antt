-- The places of windows by their names.
use Rattle.std.proofs.Common.{◌≡◌, ℕ, zero, suc, ◌<◌, ◌≤◌, Bool, true, false, List, [], ◌∷◌, ◌++◌, length, get_or, take, refl}
use Rattle.std.proofs.Common.{ap, sym, ◌∙◌, ◌⊎◌, inl, inr, arith, Option, Some, None, if◌then◌else◌, cond, is_some, ◌==◌}
use Rattle.std.proofs.lemmas.Map.Text.{btree_map_updates_text}
use Rattle.std.proofs.lemmas.Slice.Eq.{bytes_eq-Decides}
use Rattle.std.specs.BTreeMap.{BTreeMap, Updates, get_by_text}
use Rattle.std.specs.Borrow.{Bor}
use Rattle.std.specs.Rc.{rc_str_bytes}
use Rattle.std.specs.Str.{bytes_eq}
use Rattle.std.specs.String.{string_bytes, string_cmp}
use Rattle.std.specs.declared.alloc.Global.{Global}
use Rattle.std.specs.declared.string.String.{String}
use Rattle.wquery.specs.declared.frame.Frame.{Frame}
use Rattle.wquery.specs.declared.query.WindowEntry.{WindowEntry}
use Rattle.wquery.specs.QueryTree.{view_entry}
use Rattle.wquery.specs.declared.expression.Key.{Key}
use Rattle.wquery.specs.Tree.{Keys, Trees, WindowTree, keys, trees, view_keys, view_window}
use Rattle.wscope.specs.declared.full_window.FullEntry.{FullEntry}
use Rattle.wscope.specs.declared.full_window.FullWindow.{FullWindow}
use Rattle.wscope.specs.Windows.{NamedWindow, Expanded, keys_or, named_window, named_windows}
use Rattle.wscope.specs.Windows.{expand, expand_tree, expanded_window, window_named}
use Rattle.wscope.specs.Indexes.{ArePlaces, copied_from, further, over, place_of, expanded_over, up_to}

some_is : (p q : ℕ) → Some p ≡ Some q → p ≡ q
some_is p q e = ap (λ (o : Option ℕ). by o) e
  where
    by : Option ℕ → ℕ
    by None = p
    by (Some n) = n

-- a name stands at the front, or behind it
here_or_behind : (b : Bool) (o : Option ℕ) (p : ℕ) → (if b then Some 0 else further o) ≡ Some p → ((b ≡ true) × (0 ≡ p))
    ⊎ ((b ≡ false) × ((k : ℕ) × (o ≡ Some k) × (suc k ≡ p)))
here_or_behind true o p e = inl (refl, some_is 0 p e)
here_or_behind false None p e = cc
here_or_behind false (Some k) p e = inr (refl, (k, refl, some_is (suc k) p e))

pub place_small : (name : List ℕ) (ws : List NamedWindow) (p : ℕ) → place_of name ws ≡ Some p → p < length ws
place_small name [] p e = cc
place_small name (w ∷ ws) p e = by (here_or_behind (bytes_eq w.name name) (place_of name ws) p e) (λ k ek. place_small name ws k ek)
  where
    by : ((bytes_eq w.name name ≡ true) × (0 ≡ p)) ⊎ ((bytes_eq w.name name ≡ false)
        × ((k : ℕ) × (place_of name ws ≡ Some k) × (suc k ≡ p))) → ((k : ℕ) → place_of name ws ≡ Some k → k < length ws)
        → p < length (w ∷ ws)
    by (inl (b, z)) below = omega (arith, z)
    by (inr (b, (k, ek, sk))) below = let h : k < length ws = below k ek in omega (arith, h, sk)

if_true : {X : Type 0} (b : Bool) (x y : X) → b ≡ true → (if b then x else y) ≡ x
if_true true x y e = refl
if_true false x y e = cc

if_false : {X : Type 0} (b : Bool) (x y : X) → b ≡ false → (if b then x else y) ≡ y
if_false true x y e = cc
if_false false x y e = refl

pub found_there : (name : List ℕ) (es : List FullEntry) (p : ℕ) (e : FullEntry) → place_of name (named_windows es) ≡ Some p
    → e ≡ get_or es p e → window_named (named_windows es) name ≡ Some (expanded_window e.window)
found_there name [] p e ep ee = cc
found_there name (x ∷ xs) p e ep ee = by (here_or_behind (bytes_eq (named_window x).name name)
    (place_of name (named_windows xs)) p ep) (λ k ek ex. found_there name xs k e ek ex)
  where
    by : ((bytes_eq (named_window x).name name ≡ true) × (0 ≡ p)) ⊎ ((bytes_eq (named_window x).name name ≡ false)
        × ((k : ℕ) × (place_of name (named_windows xs) ≡ Some k) × (suc k ≡ p)))
        → ((k : ℕ) → place_of name (named_windows xs) ≡ Some k → e ≡ get_or xs k e
        → window_named (named_windows xs) name ≡ Some (expanded_window e.window))
        → window_named (named_windows (x ∷ xs)) name ≡ Some (expanded_window e.window)
    by (inl (b, z)) below =
        if_true (bytes_eq (named_window x).name name) (Some (expanded_window x.window)) (window_named (named_windows xs) name) b
        ∙ ap (λ (y : FullEntry). Some (expanded_window y.window)) (sym (ee ∙ ap (λ (n : ℕ). get_or (x ∷ xs) n e) (sym z)))
    by (inr (b, (k, ek, sk))) below =
        if_false (bytes_eq (named_window x).name name) (Some (expanded_window x.window)) (window_named (named_windows xs) name) b
        ∙ below k ek (ee ∙ ap (λ (n : ℕ). get_or (x ∷ xs) n e) (sym sk))

none_there : (name : List ℕ) (ws : List NamedWindow) → place_of name ws ≡ None → window_named ws name ≡ None
none_there name [] e = refl
none_there name (w ∷ ws) e = by (bytes_eq w.name name) (place_of name ws) e (none_there name ws)
  where
    by : (b : Bool) (o : Option ℕ) → (if b then Some 0 else further o) ≡ None → (o ≡ None → window_named ws name ≡ None)
        → (if b then Some w.window else window_named ws name) ≡ None
    by true o h below = cc
    by false None h below = below refl
    by false (Some k) h below = cc

pub length_named : (es : List FullEntry) → length (named_windows es) ≡ length es
length_named [] = refl
length_named (e ∷ es) = ap suc (length_named es)

-- what the windows before a place say
pub early : (name : List ℕ) (ws : List NamedWindow) (p n : ℕ) → place_of name ws ≡ Some p → p < n
    → window_named (take n ws) name ≡ window_named ws name
early name [] p n e h = cc
early name (w ∷ ws) p zero e h = absurd (omega arith)
early name (w ∷ ws) p (suc n) e h = by (here_or_behind (bytes_eq w.name name) (place_of name ws) p e) (λ k ek l. early name ws k n ek l)
  where
    by : ((bytes_eq w.name name ≡ true) × (0 ≡ p)) ⊎ ((bytes_eq w.name name ≡ false)
        × ((k : ℕ) × (place_of name ws ≡ Some k) × (suc k ≡ p))) → ((k : ℕ) → place_of name ws ≡ Some k → k < n
        → window_named (take n ws) name ≡ window_named ws name) → window_named (take (suc n) (w ∷ ws)) name ≡ window_named (w ∷ ws) name
    by (inl (b, z)) front = if_true (bytes_eq w.name name) (Some w.window) (window_named (take n ws) name) b
        ∙ sym (if_true (bytes_eq w.name name) (Some w.window) (window_named ws name) b)
    by (inr (b, (k, ek, sk))) front =
        let below : k < n = omega (arith, h, sk) in
        ap (λ (o : Option Expanded). if bytes_eq w.name name then Some w.window else o) (front k ek below)

pub late : (name : List ℕ) (ws : List NamedWindow) (p n : ℕ) → place_of name ws ≡ Some p → n ≤ p → window_named (take n ws) name ≡ None
late name [] p n e h = cc
late name (w ∷ ws) p zero e h = refl
late name (w ∷ ws) p (suc n) e h = by (here_or_behind (bytes_eq w.name name) (place_of name ws) p e) (λ k ek l. late name ws k n ek l)
  where
    by : ((bytes_eq w.name name ≡ true) × (0 ≡ p)) ⊎ ((bytes_eq w.name name ≡ false)
        × ((k : ℕ) × (place_of name ws ≡ Some k) × (suc k ≡ p))) → ((k : ℕ) → place_of name ws ≡ Some k → n ≤ k
        → window_named (take n ws) name ≡ None) → window_named (take (suc n) (w ∷ ws)) name ≡ None
    by (inl (b, z)) front = absurd (omega (arith, h, z))
    by (inr (b, (k, ek, sk))) front =
        let below : n ≤ k = omega (arith, h, sk) in
        if_false (bytes_eq w.name name) (Some w.window) (window_named (take n ws) name) b ∙ front k ek below

none_early : (name : List ℕ) (ws : List NamedWindow) (n : ℕ) → place_of name ws ≡ None → window_named (take n ws) name ≡ None
none_early name [] zero e = refl
none_early name [] (suc n) e = refl
none_early name (w ∷ ws) zero e = refl
none_early name (w ∷ ws) (suc n) e = by (bytes_eq w.name name) (place_of name ws) e (none_early name ws n)
  where
    by : (b : Bool) (o : Option ℕ) → (if b then Some 0 else further o) ≡ None
        → (o ≡ None → window_named (take n ws) name ≡ None) → (if b then Some w.window else window_named (take n ws) name) ≡ None
    by true o h below = cc
    by false None h below = below refl
    by false (Some k) h below = cc

-- a place, or else another
abbrev first : Option ℕ → Option ℕ → Option ℕ
first None other = other
first (Some n) other = Some n

place_pick : (v w : Bool) (o : Option ℕ) (n : ℕ) → (if v then Some 0 else further (first o (if w then Some n else None)))
    ≡ first (if v then Some 0 else further o) (if w then Some (suc n) else None)
place_pick true w o n = refl
place_pick false true None n = refl
place_pick false false None n = refl
place_pick false w (Some k) n = refl

place_behind : (name : List ℕ) (ws : List NamedWindow) (w : NamedWindow)
    → place_of name (ws ++ w ∷ []) ≡ first (place_of name ws) (if bytes_eq w.name name then Some (length ws) else None)
place_behind name [] w = refl
place_behind name (v ∷ vs) w =
    ap (λ (o : Option ℕ). if bytes_eq v.name name then Some 0 else further o) (place_behind name vs w)
    ∙ place_pick (bytes_eq v.name name) (bytes_eq w.name name) (place_of name vs) (length vs)

stays : (o : Option ℕ) (b : Bool) (n : ℕ) → (b ≡ true → is_some o ≡ true) → o ≡ first o (if b then Some n else None)
stays None true n h = let no : false ≡ true = h refl in cc
stays None false n h = refl
stays (Some k) b n h = refl

goes : (o : Option ℕ) (b : Bool) (n : ℕ) → (b ≡ true → is_some o ≡ false) → cond b (Some n) o ≡ first o (if b then Some n else None)
goes None true n h = refl
goes None false n h = refl
goes (Some k) true n h = let no : true ≡ false = h refl in cc
goes (Some k) false n h = refl

-- a window of a name that an earlier one has
pub place_stays : (places : BTreeMap (String Global) ℕ) (ws : List NamedWindow) (w : NamedWindow)
    → is_some (get_by_text places w.name) ≡ true → ArePlaces places ws → ArePlaces places (ws ++ w ∷ [])
place_stays places ws w there h name =
    let same : bytes_eq w.name name ≡ true → is_some (place_of name ws) ≡ true =
    λ b. ap (λ (n : List ℕ). is_some (place_of n ws)) (sym ((bytes_eq-Decides w.name name).0 b))
    ∙ ap is_some (sym (h w.name)) ∙ there in
    h name ∙ stays (place_of name ws) (bytes_eq w.name name) (length ws) same ∙ sym (place_behind name ws w)

-- a window of another name than the earlier ones
pub place_goes : (old new : BTreeMap (String Global) ℕ) (key : String Global) (ws : List NamedWindow) (w : NamedWindow)
    (n : ℕ) → string_bytes key ≡ w.name → n ≡ length ws → is_some (get_by_text old w.name) ≡ false → Updates string_cmp old new key (Some n)
    → ArePlaces old ws → ArePlaces new (ws ++ w ∷ [])
place_goes old new key ws w n ek en absent u h name =
    let other : bytes_eq w.name name ≡ true → is_some (place_of name ws) ≡ false =
    λ b. ap (λ (m : List ℕ). is_some (place_of m ws)) (sym ((bytes_eq-Decides w.name name).0 b))
    ∙ ap is_some (sym (h w.name)) ∙ absent in
    btree_map_updates_text (string_bytes key) old new (Some n) u name
    ∙ ap (λ (m : List ℕ). cond (bytes_eq m name) (Some n) (get_by_text old name)) ek
    ∙ ap (λ (o : Option ℕ). cond (bytes_eq w.name name) (Some n) o) (h name)
    ∙ ap (λ (m : ℕ). cond (bytes_eq w.name name) (Some m) (place_of name ws)) en
    ∙ goes (place_of name ws) (bytes_eq w.name name) (length ws) other ∙ sym (place_behind name ws w)

over_is : (ws : List NamedWindow) (copied : Option (List ℕ)) (partition : Trees) (order : Keys) (frame : Option Frame)
    → over (copied_from ws copied) copied partition order frame ≡ expand ws copied partition order frame
over_is ws None partition order frame = refl
over_is ws (Some name) partition order frame = refl

-- a window is expanded over the one that its name finds
pub expanded_is : (ws : List NamedWindow) (found : Option Expanded) (w : WindowTree) → found ≡ copied_from ws w.copied
    → expanded_over found w ≡ expand_tree ws w
expanded_is ws found w e = ap (λ (o : Option Expanded). expanded_over o w) e ∙ over_is ws w.copied (trees w.partition)
    (keys w.order) w.frame

pub none_seen : (before : Option ℕ) (name : List ℕ) (ws : List NamedWindow) → place_of name ws ≡ None
    → window_named (up_to before ws) name ≡ None
none_seen None name ws e = none_there name ws e
none_seen (Some n) name ws e = none_early name ws n e

pub own_keys : (own copied : List Key) → (length own == 0) ≡ false
    → keys (view_keys own) ≡ keys_or (keys (view_keys own)) (keys (view_keys copied))
own_keys [] copied e = cc
own_keys (k ∷ ks) copied e = refl

-- an entry with its window expanded
pub entry_is_expanded : (e : WindowEntry) (name : Bor (List ℕ)) (window : FullWindow) (ws : List NamedWindow)
    → name.now ≡ rc_str_bytes e.name → expanded_window window ≡ expand_tree ws (view_window e.window)
    → named_window (record { name = name; window = window }) ≡ record {
      name = (view_entry e).name;
      window =
          expand_tree ws (view_entry e).window;
    }
entry_is_expanded e name window ws en ew =
    ap (λ (n : List ℕ). record { name = n; window = expanded_window window }) en
    ∙ ap (λ (w : Expanded). record { name = rc_str_bytes e.name; window = w }) ew
