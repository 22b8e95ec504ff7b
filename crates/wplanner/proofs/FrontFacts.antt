-- The text of the rows of the table that are asked for, as they stand.
use Rattle.std.proofs.Common.{◌≡◌, ℕ, true, List, [], length, map, None, Result, Ok, Err, sym, ap, ◌∙◌, subst}
use Rattle.wplan.specs.Plans.{SelectPlan}
use Rattle.wprinted.specs.Printing.{table_text, values_at}
use Rattle.wrows.specs.declared.fault.AnswerFault.{AnswerFault}
use Rattle.wrows.specs.declared.fault.AnswerFault.TheVariants.{OutOfRange, TooManyRows, NoMemory}
use Rattle.wrows.specs.Columns.{Row, beside}
use Rattle.wrows.specs.Outcomes.{◌>>=◌, Gives}
use Rattle.wrows.specs.Plain.{cut, kept_of}
use Rattle.wtable.specs.Front.{front_of, standing_of}
use Rattle.wtable.proofs.FrontFacts.{cut_front, kept_in_front}
use Rattle.wplanner.specs.Answers.{left_items, select_of}
use Rattle.wplanner.specs.Lent.{ReadsPlaces, text_in}
use Rattle.wplanner.specs.Sound.{is_sound_select}
use Rattle.wplanner.proofs.BesideFacts.{kept_fails, kept_is, standing_is, unwindowed_is}
use Rattle.wplanner.proofs.PlanFacts.{beside_nothing}

module _ (s : SelectPlan) (ps : List ℕ) (reads : ReadsPlaces s ps) (sound : is_sound_select s ≡ true) (all : s.condition ≡ None)
    (none : length s.windows ≡ 0) (unordered : length s.keys ≡ 0) (rows : List Row) where
  abbrev text_of : List Row → List ℕ
  text_of rows = table_text (map (λ o. o.name) s.items) (map (values_at ps) rows)

  pub front_is : (found : List Row) (bytes : List ℕ) → standing_of s.offset s.limit rows ≡ Ok found
      → bytes ≡ text_of (cut s.offset s.limit (beside found [])) → text_in s (select_of s rows) ≡ Ok bytes
  front_is found bytes e printed =
      let told = kept_in_front s.offset s.limit rows found e in
      let same : cut s.offset s.limit (beside found []) ≡ cut s.offset s.limit (beside rows []) =
      ap (cut s.offset s.limit) (beside_nothing found ∙ told.1) ∙ cut_front s.offset s.limit rows
      ∙ ap (cut s.offset s.limit) (sym (beside_nothing rows)) in
      kept_is s ps reads rows rows (ap (λ condition. kept_of condition rows) all ∙ told.0)
      ∙ ap (text_in s) (unwindowed_is s ps reads rows sound none)
      ∙ standing_is s ps reads rows [] bytes unordered (printed ∙ ap text_of same)

  pub front_fails : {X Y : Type 0} (view : X → List Row) (whole : Y → List ℕ) (fault : AnswerFault) → Gives view (Err fault) (standing_of s.offset s.limit rows)
      → Gives whole (Err fault) (text_in s (select_of s rows))
  front_fails {X} view whole fault refused =
      let P : Result (List Row) AnswerFault → Type 0 = λ r. Gives view (Err fault) r in
      kept_fails s ps reads view whole fault rows
      (subst P (sym (ap (λ condition. kept_of condition rows) all)) (go (kept_of None rows) fault refused))
    where
      go : (r : Result (List Row) AnswerFault) (fault : AnswerFault)
          → Gives view (Err fault) (r >>= λ all. Ok (front_of s.offset s.limit all)) → Gives view (Err fault) r
      go r NoMemory h = tt
      go (Ok kept) OutOfRange h = absurd (cc)
      go (Ok kept) TooManyRows h = absurd (cc)
      go (Err f) OutOfRange h = h
      go (Err f) TooManyRows h = h
