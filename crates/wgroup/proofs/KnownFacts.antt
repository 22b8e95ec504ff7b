-- What is known of the groups of sets.
use Rattle.std.proofs.Common.{◌≡◌, ℕ, ◌<◌, ◌⊎◌, inl, inr, List, [], ◌∷◌, ◌++◌, length, length-append, get_or, All, Option, None}
use Rattle.std.proofs.Common.{sym, ap, subst, ◌∙◌, arith}
use Rattle.std.specs.Option.{ForSome}
use Rattle.std.proofs.Math.Seq.{get_or-append_seam}
use Rattle.std.proofs.lemmas.List.{get_or_append_left}
use Rattle.wvalues.specs.Meaning.{Meaning}
use Rattle.wrows.proofs.RowFacts.{same_at}
use Rattle.waggregate.specs.Summaries.{AreSummaries}
use Rattle.waggregate.specs.declared.summaries.Summaries.{Summaries}
use Rattle.wgroup.specs.declared.found.Groups as memory
use Rattle.wgroup.specs.Finer.{AreMade, IsMade, MadeFrom}
use Rattle.wgroup.specs.Held.{by_row, row_numbers}
use Rattle.wgroup.specs.Shared.{AreKnown}
use Rattle.wgroup.proofs.LeaderFacts.{in_order}
use Rattle.std.proofs.Common.{take}

-- nothing is known yet
pub none_known : (values : List Meaning) (sets : List memory.Groups) (known : List (Option Summaries)) → known ≡ []
    → AreKnown values sets known
none_known values sets known e = λ place d none h. absurd (omega (arith, h, ap length e))

-- the numbers of groups that are made of rows are below their count
pub made_below : (sets : List memory.Groups) (n : ℕ) (g : memory.Groups) → AreMade sets → n < length sets → g ≡ get_or sets n g
    → g.finer ≡ None → All (λ i. i < g.count) g.numbers.value.items
made_below sets n g made within is e = subst (MadeFrom (take n sets) g) e (subst (IsMade (take n sets)) (sym is) (made n g within))

-- a set more
pub known_more : (values : List Meaning) (sets : List memory.Groups) (known more : List (Option Summaries)) (n : ℕ)
    (g : memory.Groups) (one : Option Summaries) → length known ≡ n → n < length sets → g ≡ get_or sets n g
    → AreKnown values sets known → ForSome one (AreSummaries values (row_numbers g) g.count) → more ≡ known ++ one ∷ []
    → AreKnown values sets more
known_more values sets known more n g one long within is so_far here e =
    subst (AreKnown values sets) (sym e) (λ i d none h. go i d none (in_order i (length known)) h)
  where
    go : (i : ℕ) (d : memory.Groups) (none : Option Summaries) → (i < length known) ⊎ ((i ≡ length known) ⊎ (length known < i))
        → i < length (known ++ one ∷ []) → ForSome (get_or (known ++ one ∷ []) i none) (AreSummaries values
        (row_numbers (get_or sets i d)) (get_or sets i d).count)
    go i d none (inl l) h =
        subst (λ (s : Option Summaries). ForSome s (AreSummaries values (row_numbers (get_or sets i d)) (get_or sets i d).count))
        (sym (get_or_append_left known (one ∷ []) none i l)) (so_far i d none l)
    go i d none (inr (inl q)) h =
        let at : get_or sets i d ≡ g = ap (λ k. get_or sets k d) (q ∙ long) ∙ same_at sets n d g within ∙ sym is in
        let there : get_or (known ++ one ∷ []) i none ≡ one = ap (λ k. get_or (known ++ one ∷ []) k none) q
        ∙ get_or-append_seam known one [] none in
        subst (λ (s : Option Summaries). ForSome s (AreSummaries values (row_numbers (get_or sets i d)) (get_or sets i d).count))
        (sym there) (subst (λ (s : memory.Groups). ForSome one (AreSummaries values (row_numbers s) s.count)) (sym at) here)
    go i d none (inr (inr l)) h = absurd (omega (arith, l, h, length-append known (one ∷ [])))

-- the numbers of the rows of groups that are made of rows
pub own_numbers : (g : memory.Groups) → g.finer ≡ None → g.numbers.value.items ≡ row_numbers g
own_numbers g e = sym (ap (by_row g.numbers.value.items) e)
