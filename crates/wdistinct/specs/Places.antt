-- The places of calls among calls.
use Rattle.std.specs.Prelude.{ℕ, zero, suc, Bool, List, [], ◌∷◌, ◌++◌, map, if◌then◌else◌}
use Rattle.std.specs.List.{list_any}
use Rattle.wquery.specs.Tree.{Tree, view_call}
use Rattle.wnodes.specs.Sameness.{is_same}
use Rattle.wdistinct.specs.declared.call_key.CallKey.{CallKey}
use Rattle.wdistinct.specs.declared.call_set.CallSet.{CallSet}

-- the place of the first equal expression, or the length
abbrev pub place_of_same : List Tree → Tree → ℕ
place_of_same [] t = zero
place_of_same (u ∷ us) t = if is_same u t then zero else suc (place_of_same us t)

-- the calls of a set, in the order in which they were added
unfoldable pub calls_in : CallSet → List Tree
calls_in s = map (λ k. view_call k.call.now) s.keys.keys

-- whether the call of a second key says the same as that of the first
abbrev pub has_call_of : CallKey → CallKey → Bool
has_call_of k x = is_same (view_call k.call.now) (view_call x.call.now)

-- keys with one more behind them, unless one of them has an equal call
abbrev pub with_key : List CallKey → CallKey → List CallKey
with_key ks k = if list_any (has_call_of k) ks then ks else ks ++ (k ∷ [])
