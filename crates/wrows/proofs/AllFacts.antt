-- Rows that are asked for as they stand.
use Rattle.std.proofs.Common.{◌≡◌, ℕ, false, List, [], ◌∷◌, length, map, Option, None, Result, Ok, Err, refl, sym, ap, ◌∙◌, arith}
use Rattle.std.specs.List.{list_any}
use Rattle.wvalues.specs.declared.key.SortKey.{SortKey}
use Rattle.wvalues.specs.Meaning.{Meaning}
use Rattle.wframe.specs.Peers.{key_at}
use Rattle.wframe.specs.Places.{places}
use Rattle.wplan.specs.Formula.{Formula}
use Rattle.wrows.specs.declared.fault.AnswerFault.{AnswerFault}
use Rattle.wrows.specs.declared.fault.AnswerFault.TheVariants.{OutOfRange}
use Rattle.wrows.specs.Outcomes.{unless, ◌>>=◌}
use Rattle.wrows.specs.Columns.{Row, is_out_of_range, lists_of}
use Rattle.wrows.specs.Plain.{cut, ordered, ordered_of}
use Rattle.wsort.proofs.KeyFacts.{by_no_key}
use Rattle.wcodes.proofs.NumberFacts.{all_rows}
use Rattle.wrows.proofs.RowFacts.{then_ok}

none_refused : (rows : List Row) → list_any (λ row. list_any (λ t. is_out_of_range t row) []) rows ≡ false
none_refused [] = refl
none_refused (row ∷ rows) = none_refused rows

-- no key is out of range
no_lists : (rows : List Row) → lists_of [] rows ≡ Ok (map (λ row. []) rows)
no_lists rows = ap (λ b. unless b OutOfRange (map (λ row. []) rows)) (none_refused rows)

-- where there is no key all rows stay, in their order
stay : (by listed : List (List Meaning)) → ordered [] by listed ≡ listed
stay by listed = ap (map (key_at listed)) (by_no_key [] by (places (length listed)) 0 refl) ∙ all_rows listed

pub as_they_stand : (ts ks : List Formula) (order : List SortKey) (offset : ℕ) (limit : Option ℕ) (rows : List Row)
    → length ks ≡ length order → length order ≡ 0 → offset ≡ 0 → limit ≡ None → lists_of ts rows ≡ ordered_of ts ks order offset limit rows
as_they_stand ts [] [] offset limit rows k o f l = go (lists_of ts rows)
  where
    keys : List (List Meaning)
    keys = map (λ row. []) rows

    go : (lists : Result (List (List Meaning)) AnswerFault)
        → lists ≡ (lists >>= λ listed. lists_of [] rows >>= λ by. Ok (cut offset limit (ordered [] by listed)))
    go (Err fault) = refl
    go (Ok listed) = sym
        (then_ok keys (lists_of [] rows) (λ by. Ok (cut offset limit (ordered [] by listed))) (no_lists rows)
        ∙ ap (λ n. Ok (cut n limit (ordered [] keys listed))) f
        ∙ ap (λ m. Ok (cut 0 m (ordered [] keys listed))) l
        ∙ ap Ok (stay keys listed))
as_they_stand ts (t ∷ ks) [] offset limit rows k o f l = absurd (omega arith)
as_they_stand ts ks (key ∷ order) offset limit rows k o f l = absurd (omega arith)
