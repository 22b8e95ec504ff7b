use Rattle.std.proofs.Common.{◌≡◌, ◌∙◌, sym, ap, refl, true, true≢false, option_map, map}
use Rattle.std.proofs.Common.{Bor, List, ℕ, Option, Some, None, is_some, find, bytes_eq}
use Rattle.std.specs.Prelude.{option_and_then, slice_get}
use Rattle.clap.specs.Words.{Row, Text, all_of, first_of, found_of}
use Rattle.clap.proofs.CallerLemmas.{some_of_text}
use Rattle.clap.proofs.WalkLemmas.{raw_values-rows}
use Rattle.wcommand.proofs.values.values.Goals as goal

-- what has a first value has values
all_there : (name : Text) (rows : List Row) → is_some (first_of name rows) ≡ true → is_some (all_of name rows) ≡ true
all_there name rows there = go (find (λ r. bytes_eq r.id name) rows) there
  where
    go : (o : Option Row) → is_some (option_and_then (λ r. slice_get r.values 0) o) ≡ true → is_some (option_map (λ r. r.values) o) ≡ true
    go None e = absurd (true≢false (sym e))
    go (Some r) e = refl

pub unwrap-requires : goal.unwrap-requires
unwrap-requires c = some_of_text _ c.get_strs.result _ (c.get_strs.ensures ∙ raw_values-rows (found_of c.args.found.now)
    c.args.name.now) (all_there c.args.name.now _ c.requires)

pub returns : goal.returns
returns c = sym (c.get_strs.ensures ∙ raw_values-rows (found_of c.args.found.now) c.args.name.now)
    ∙ ap (λ (o : Option (Bor (List (Bor (List ℕ))))). option_map (λ s. map (λ v. v.now) s.now) o) c.unwrap.ensures
