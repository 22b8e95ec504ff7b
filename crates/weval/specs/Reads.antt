-- Which expressions read a text on a row. Texts are shared, which can want for memory; numbers, nulls and truths need none.
use Rattle.std.specs.Prelude.{Bool, true, false, ◌||◌, List, get_or}
use Rattle.std.specs.List.{list_any}
use Rattle.wvalues.specs.Meaning.{Meaning, Null, Text}
use Rattle.wplan.specs.Formula.{Formula, Operand, Constant, At, Negation, Signed, Applied, Compared}
use Rattle.wplan.specs.Formula.{NullTest, Within, Among, Formulas, NoFormulas, MoreFormulas}

abbrev pub is_text_value : Meaning → Bool
is_text_value (Text bytes) = true
is_text_value _ = false

abbrev mutual
  -- whether an expression has a text in it, of its own or of the row
  pub reads_text : List Meaning → Formula → Bool
  reads_text row (Constant m) = is_text_value m
  reads_text row (At place) = is_text_value (get_or row place Null)
  reads_text row (Negation t) = reads_text row t
  reads_text row (Signed minus t) = reads_text row t
  reads_text row (Applied operator l r) = reads_text row l || reads_text row r
  reads_text row (Compared c l r) = reads_text row l || reads_text row r
  reads_text row (NullTest negated t) = reads_text row t
  reads_text row (Within negated t l h) = reads_text row t || reads_text row l || reads_text row h
  reads_text row (Among negated t list) = reads_text row t || some_read_text row list

  pub some_read_text : List Meaning → Formulas → Bool
  some_read_text row NoFormulas = false
  some_read_text row (MoreFormulas t ts) = reads_text row t || some_read_text row ts

-- whether a further operand of a chain does
abbrev pub links_read_text : List Meaning → List Operand → Bool
links_read_text row ls = list_any (λ l. reads_text row l.operand) ls
