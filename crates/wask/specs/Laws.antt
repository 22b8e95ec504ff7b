-- A text has one answer, and what breaks no rule can be answered.
use Rattle.std.specs.Prelude.{◌≡◌, ℕ, true, List, None, Result}
use Rattle.wsegment.specs.Declaration.{Declaration}
use Rattle.wset.specs.Views.{View}
use Rattle.wquery.specs.QueryTree.{QueryTree}
use Rattle.wrules.specs.Rules.{first_broken_rule}
use Rattle.wresolve.specs.Selecting.{resolved_query}
use Rattle.wplanner.specs.Sound.{is_sound_query}
use Rattle.wplanner.specs.declared.fault.AskFault.{AskFault}
use Rattle.wask.specs.Answer.{IsAnswer}

-- under one declaration and on one view
abbrev pub OneAnswer : Type 0
OneAnswer = (d : Declaration) (v : View) (text : List ℕ) (a b : Result (List ℕ) AskFault) → IsAnswer d v text a
    → IsAnswer d v text b → a ≡ b

-- a query that breaks no rule resolves to a sound one: a SELECT, each call over one of its windows, one key beside an
-- offset in RANGE, tiles, and places that count from 1
abbrev pub AcceptedIsSound : Type 0
AcceptedIsSound = (d : Declaration) (q : QueryTree) → first_broken_rule d q ≡ None → is_sound_query (resolved_query d q) ≡ true
