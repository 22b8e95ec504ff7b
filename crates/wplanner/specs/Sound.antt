-- What a query has to keep to be answered.
use Rattle.std.specs.Prelude.{ℕ, Bool, false, ◌&&◌, nat_lt, List, [], ◌∷◌, length}
use Rattle.std.specs.List.{list_all}
use Rattle.wplan.specs.Plans.{CallPlan, SelectPlan}
use Rattle.wcalls.specs.Sound.{is_sound_function, is_sound_window}

-- a call is over one of so many windows
abbrev pub is_sound_call : ℕ → CallPlan → Bool
is_sound_call windows c = nat_lt c.window windows && is_sound_function c.function

abbrev pub is_sound_select : SelectPlan → Bool
is_sound_select s = list_all is_sound_window s.windows && list_all (is_sound_call (length s.windows)) s.calls

-- there is a SELECT, and all are sound
abbrev pub is_sound_query : List SelectPlan → Bool
is_sound_query [] = false
is_sound_query (s ∷ ss) = list_all is_sound_select (s ∷ ss)
