-- Calls that are collected in turn.
use Rattle.std.proofs.Common.{◌≡◌, ℕ, suc, ◌+◌, ◌<◌, Bool, true, false, List, [], ◌∷◌, ◌++◌, refl, ap, sym}
use Rattle.std.proofs.Common.{◌∙◌, append_assoc, map, drop, length, get_or, add-one, Result, Ok, Err, OnOk}
use Rattle.std.proofs.Math.Seq.{drop-cons}
use Rattle.std.proofs.lemmas.List.{append-nil}
use Rattle.std.specs.Rc.{rc_str_bytes}
use Rattle.wquery.specs.declared.expression.Call.{Call}
use Rattle.wquery.specs.declared.query.WindowEntry.{WindowEntry}
use Rattle.wquery.specs.QueryTree.{view_entry}
use Rattle.wquery.specs.Tree.{Tree, own_window, view_call, view_window, view_arguments, view_optional_over, reach_of}
use Rattle.wnodes.proofs.Views.{view_call_is}
use Rattle.wnodes.specs.Children.{children_of, found_all}
use Rattle.wnodes.proofs.Beside.{IsJoined, below_all}
use Rattle.wdistinct.specs.declared.distinct_calls.CallKind.{CallKind}
use Rattle.wdistinct.specs.Calls.{is_kind, is_call_of, node_or, nodes_in, nodes_below, nodes_in_entries, nodes_in_reach, picking}

pub picking_joined : (holds : Tree → Bool) → IsJoined (picking holds)
picking_joined holds = record { left = λ xs. refl; right = append-nil; three = append_assoc }

pub call_kind : (kind : CallKind) (c : Call) → is_call_of kind (view_call c) ≡ is_kind kind (rc_str_bytes c.name)
    (view_arguments c.arguments) (reach_of (view_optional_over c.over))
call_kind kind c = ap (is_call_of kind) (view_call_is c)

-- behind those before
pub behind : {T E : Type 0} (r : Result T E) (old new xs ys : List Tree) → xs ≡ ys → OnOk r (new ≡ old ++ xs) → OnOk r (new ≡ old ++ ys)
behind (Ok x) old new xs ys e h = h ∙ ap (λ (zs : List Tree). old ++ zs) e
behind (Err x) old new xs ys e h = tt

-- a node that is looked for, and one that is not
pub node_found : (holds : Tree → Bool) (t u : Tree) → holds t ≡ true → u ≡ t → u ∷ [] ≡ nodes_in holds t
node_found holds t u h e = ap (λ (v : Tree). v ∷ []) e ∙ sym (ap (λ (b : Bool). node_or b t (nodes_below holds t)) h)

pub node_passed : (holds : Tree → Bool) (t : Tree) → holds t ≡ false → nodes_below holds t ≡ nodes_in holds t
node_passed holds t h = sym (ap (λ (b : Bool). node_or b t (nodes_below holds t)) h)

pub below_found : (holds : Tree → Bool) (t : Tree) (ts : List Tree) → ts ≡ children_of t
    → found_all (picking holds) ts ≡ nodes_below holds t
below_found holds t ts e = ap (found_all (picking holds)) e ∙ sym (below_all (picking holds) (picking_joined holds) t)

pub none_below : (holds : Tree → Bool) (t : Tree) (xs : List Tree) → children_of t ≡ [] → xs ≡ xs ++ nodes_below holds t
none_below holds t xs e = sym (append-nil xs) ∙ ap (λ (ys : List Tree). xs ++ ys) (below_found holds t [] (sym e))

entry_step : (holds : Tree → Bool) (es : List WindowEntry) (i : ℕ) (e : WindowEntry) → i < length es → e ≡ get_or es i e
    → nodes_in_entries holds (map view_entry (drop i es)) ≡ nodes_in_reach holds (own_window (view_window e.window))
    ++ nodes_in_entries holds (map view_entry (drop (i + 1) es))
entry_step holds es i e h is =
    rw (add-one, drop-cons es i e) (ap (λ (x : WindowEntry). nodes_in_reach holds (own_window (view_window x.window))
    ++ nodes_in_entries holds (map view_entry (drop (suc i) es))) (sym is))

-- the calls of one more entry
pub next_entry : (holds : Tree → Bool) (es : List WindowEntry) (i : ℕ) (e : WindowEntry) (old new whole : List Tree)
    → i < length es → e ≡ get_or es i e → old ++ nodes_in_entries holds (map view_entry (drop i es)) ≡ whole
    → new ≡ old ++ nodes_in_reach holds (own_window (view_window e.window))
    → new ++ nodes_in_entries holds (map view_entry (drop (i + 1) es)) ≡ whole
next_entry holds es i e old new whole h is so_far next =
    ap (λ (m : List Tree). m ++ nodes_in_entries holds (map view_entry (drop (i + 1) es))) next
    ∙ append_assoc old (nodes_in_reach holds (own_window (view_window e.window)))
    (nodes_in_entries holds (map view_entry (drop (i + 1) es)))
    ∙ ap (λ (m : List Tree). old ++ m) (sym (entry_step holds es i e h is))
    ∙ so_far
