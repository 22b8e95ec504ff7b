-- Where nothing is wrong with the words of a subcommand, each of its entries has a value, so each required option
-- and place has one.
use Rattle.std.proofs.Common.{◌≡◌, ◌∙◌, ◌&&◌, ◌||◌, ℕ, Bool, cond, true, false, not, zero, suc, refl, sym, ap, ap₂, subst}
use Rattle.std.proofs.Common.{arith, List, [], ◌∷◌, ◌++◌, length, Option, Some, None, is_some, true≢false, slice_get}
use Rattle.std.specs.Prelude.{fold, find, nat_lt, unwrap_or, option_and_then}
use Rattle.std.specs.List.{list_all, list_any}
use Rattle.std.specs.Option.{option_map_or}
use Rattle.std.specs.Str.{bytes_eq, chars}
use Rattle.std.proofs.lemmas.List.Folds.{list_all-append}
use Rattle.clap.specs.Lexer.{long_of, short_of}
use Rattle.clap.specs.Values.{is_request}
use Rattle.clap.specs.Facts.{unwrap_or_range, explicit_source}
use Rattle.clap.specs.Walk.{Held, Names, Outcome, Row, Rule, Step, Text, Waiting, Walk, action_of, after_flag, after_step, arg_by_id}
use Rattle.clap.specs.Walk.{arg_by_index, arg_by_long, arg_by_short, at_row, attached_value, bundle_met, bundle_step, bundle}
use Rattle.clap.specs.Walk.{default_rows, done, finished, first_of, has_long, has_row, has_short, idle, is_pending, long_met}
use Rattle.clap.specs.Walk.{long_or_other, more_values, next, nothing_held, option, option_met, option_word, plain, plain_word}
use Rattle.clap.specs.Walk.{positional, reacted, reading_by, refused, rows_after, settled, settled_rows, short_met, short_or_plain}
use Rattle.clap.specs.Walk.{subcommand, subcommand_met, subcommand_or_other, takes_several, takes_values, to_positional, trailing, used}
use Rattle.clap.specs.Walk.{used_as, used_by_id, value, waits, walk, walk_from, walked, walked_from, with_default, with_values, without}
use Rattle.clap.specs.Walk.{word_met}
use Rattle.clap.specs.Simple.{Shape}
use Rattle.clap.specs.Takes.{is_given}
use Rattle.clap.specs.Kinds.{Kinds, check_kinds, or_else, range_kinds}
use Rattle.clap.specs.Faults.{bundle_fault, bundle_step_fault, flag_word_fault, flags_fault, level_fault, long_fault}
use Rattle.clap.specs.Faults.{option_fault, other_fault, positional_fault, react_fault, settle_fault, short_fault}
use Rattle.clap.specs.Faults.{step_fault, stray_fault, turn_fault, use_fault, walk_fault, word_fault}
use Rattle.clap.specs.declared.builder.ArgAction.{ArgAction}
use Rattle.clap.specs.declared.builder.ArgAction.TheVariants.{Set, Append, SetTrue, SetFalse, Count, Help, HelpShort, HelpLong, Version}
use Rattle.clap.specs.declared.error.ErrorKind.TheVariants.{InvalidValue}
use Rattle.clap.proofs.WalkLemmas.{both}

-- ---- small facts

pub cons_nil : {X : Type 0} (x : X) (xs : List X) → x ∷ xs ≡ [] → ⊥
cons_nil x xs e = let bad : suc (length xs) ≡ 0 = ap length e in absurd (omega arith)

pub nil_both : (a b : Kinds) → or_else a b ≡ [] → (a ≡ []) × (b ≡ [])
nil_both [] b e = (refl, e)
nil_both (k ∷ ks) b e = absurd (cons_nil k ks e)

pub none_some : {X : Type 0} (x : X) → None ≡ Some x → ⊥
none_some x e = true≢false (sym (ap is_some e))

pub some_is : {X : Type 0} (x y : X) → Some x ≡ Some y → x ≡ y
some_is x y e = ap (λ o. unwrap_or o x) e

pub found_passes : {X : Type 0} (q p : X → Bool) (xs : List X) (a : X) → list_all q xs ≡ true → find p xs ≡ Some a → q a ≡ true
found_passes q p [] a g e = absurd (none_some a e)
found_passes q p (x ∷ xs) a g e = go (p x) e (found_passes q p xs a (both _ _ g).1)
  where
    go : (b : Bool) → cond b (Some x) (find p xs) ≡ Some a → (find p xs ≡ Some a → q a ≡ true) → q a ≡ true
    go true f later = subst (λ y. q y ≡ true) (some_is x a f) (both _ _ g).0
    go false f later = later f

-- ---- rows that have a value

abbrev pub has_first : List Text → Bool
has_first [] = false
has_first (v ∷ vs) = true

abbrev pub is_filled : Row → Bool
is_filled r = has_first r.values

abbrev pub all_filled : List Row → Bool
all_filled = list_all is_filled

-- a use of the argument without a value is a fault, or asks for a text
abbrev pub is_good : Rule → Bool
is_good a = is_request (action_of a) || nat_lt 0 (unwrap_or_range a.range).start_inclusive

more : (xs : List Text) (v : Text) (vs : List Text) → has_first (xs ++ v ∷ vs) ≡ true
more [] v vs = refl
more (x ∷ xs) v vs = refl

in_row : (id : Text) (change : Row → List Row) (missing rows : List Row) → ((r : Row) → all_filled (change r) ≡ true)
    → all_filled missing ≡ true → all_filled rows ≡ true
    → all_filled (at_row id change missing rows) ≡ true
in_row id change missing [] c m e = m
in_row id change missing (r ∷ rs) c m e = go (bytes_eq r.id id) (in_row id change missing rs c m (both _ _ e).1)
  where
    go : (b : Bool) → all_filled (at_row id change missing rs) ≡ true
        → all_filled (cond b (change r ++ rs) (r ∷ at_row id change missing rs)) ≡ true
    go true later = list_all-append is_filled (change r) rs ∙ ap₂ (λ x y. x && y) (c r) (both _ _ e).1
    go false later = ap₂ (λ x y. x && y) (both _ _ e).0 later

taken_out : (id : Text) (rows : List Row) → all_filled rows ≡ true → all_filled (without id rows) ≡ true
taken_out id rows e = in_row id (λ _. []) [] rows (λ r. refl) refl e

put : (id : Text) (how : _) (s : _) (v : Text) (vs : List Text) (rows : List Row) → all_filled rows ≡ true
    → all_filled (with_values id how s (v ∷ vs) rows) ≡ true
put id how s v vs rows e = in_row id (more_values s (v ∷ vs)) _ rows (λ r. ap (λ b. b && true) (more r.values v vs)) refl e

with_some : (x : ArgAction) (id : Text) (how : _) (v : Text) (vs : List Text) (rows : List Row) → all_filled rows ≡ true
    → all_filled (used_as x id how (v ∷ vs) rows) ≡ true
with_some Set id how v vs rows e = put id how _ v vs (without id rows) (taken_out id rows e)
with_some SetTrue id how v vs rows e = put id how _ v vs (without id rows) (taken_out id rows e)
with_some SetFalse id how v vs rows e = put id how _ v vs (without id rows) (taken_out id rows e)
with_some Append id how v vs rows e = put id how _ v vs rows e
with_some Count id how v vs rows e = put id how _ v vs (without id rows) (taken_out id rows e)
with_some Help id how v vs rows e = e
with_some HelpShort id how v vs rows e = e
with_some HelpLong id how v vs rows e = e
with_some Version id how v vs rows e = e

at_request : (x : ArgAction) (id : Text) (how : _) (values : List Text) (rows : List Row) → is_request x ≡ true
    → all_filled rows ≡ true → all_filled (used_as x id how values rows) ≡ true
at_request Set id how values rows r e = absurd (true≢false (sym r))
at_request SetTrue id how values rows r e = absurd (true≢false (sym r))
at_request SetFalse id how values rows r e = absurd (true≢false (sym r))
at_request Append id how values rows r e = absurd (true≢false (sym r))
at_request Count id how values rows r e = absurd (true≢false (sym r))
at_request Help id how values rows r e = e
at_request HelpShort id how values rows r e = e
at_request HelpLong id how values rows r e = e
at_request Version id how values rows r e = e

no_values : (least most : ℕ) → nat_lt 0 least ≡ true → range_kinds least most 0 ≡ [] → ⊥
no_values least most p e = go (nat_lt 0 least) p _ e
  where
    go : (b : Bool) → b ≡ true → (rest : Kinds) → cond (b && true) (InvalidValue ∷ []) rest ≡ [] → ⊥
    go true q rest f = cons_nil InvalidValue [] f
    go false q rest f = true≢false (sym q)

after_use : (again : Bool) (a : Rule) (values : List Text) (rows : List Row) → is_good a ≡ true
    → use_fault again a values rows ≡ [] → all_filled rows ≡ true
    → all_filled (used a values rows) ≡ true
after_use again a (v ∷ vs) rows g f e = with_some (action_of a) a.id (reading_by a) v vs rows e
after_use again a [] rows g f e = go (is_request (action_of a)) refl
  where
    go : (b : Bool) → is_request (action_of a) ≡ b → all_filled (used a [] rows) ≡ true
    go true r = at_request (action_of a) a.id (reading_by a) _ rows r e
    go false r = absurd (no_values _ _ (subst (λ b. (b || nat_lt 0 (unwrap_or_range a.range).start_inclusive) ≡ true) r g)
        (nil_both _ _ f).0)

by_id : (again : Bool) (o : Option Rule) (values : List Text) (rows : List Row) → ((a : Rule) → o ≡ Some a → is_good a ≡ true)
    → option_map_or (λ a. use_fault again a values rows) o [] ≡ [] → all_filled rows ≡ true → all_filled (used_by_id o values rows) ≡ true
by_id again None values rows g f e = e
by_id again (Some a) values rows g f e = after_use again a values rows (g a refl) f e

-- ---- the walk of a command whose arguments are good

module _ (c : List Rule) (again : Bool) (good : list_all is_good c ≡ true) where
  found_good : (p : Rule → Bool) (a : Rule) → find p c ≡ Some a → is_good a ≡ true
  found_good p a e = found_passes is_good p c a good e

  after_settle : (h : Held) → settle_fault c again h ≡ [] → all_filled h.rows ≡ true → all_filled (settled c h).rows ≡ true
  after_settle h f e = go h.pending f
    where
      go : (p : Option (Text × List Text))
          → option_map_or (λ p. option_map_or (λ a. use_fault again a p.1 h.rows) (arg_by_id c p.0) []) p [] ≡ []
          → all_filled (settled_rows c p h.rows) ≡ true
      go None k = e
      go (Some p) k = by_id again (arg_by_id c p.0) p.1 h.rows (λ a. found_good (λ (x : Rule). bytes_eq x.id p.0) a) k e

  after_react : (a : Rule) (values : List Text) (h : Held) → is_good a ≡ true → react_fault c again a values h ≡ []
      → all_filled h.rows ≡ true
      → all_filled (reacted c a values h).rows ≡ true
  after_react a values h g f e =
      let k = nil_both (settle_fault c again h) _ f in
      after_use again a values (settled c h).rows g k.1 (after_settle h k.0 e)

  after_option : (a : Rule) (v : Option Text) (h : Held) → is_good a ≡ true → option_fault c again a v h ≡ [] → all_filled h.rows ≡ true
      → all_filled (option_met c a v h).0.rows ≡ true
  after_option a (Some v) h g f e = after_react a (v ∷ []) h g f e
  after_option a None h g f e = after_settle h f e

  after_long : (o : Option Rule) (v : Option Text) (h : Held) → ((a : Rule) → o ≡ Some a → is_good a ≡ true)
      → long_fault c again o v h ≡ [] → all_filled h.rows ≡ true
      → all_filled (long_met c o v h).0.rows ≡ true
  after_long None v h g f e = e
  after_long (Some a) (Some v) h g f e = go (takes_values a) _ f
    where
      go : (b : Bool) (other : Kinds) → cond b (option_fault c again a (Some v) h) other ≡ []
          → all_filled (cond b (option_met c a (Some v) h) (h, refused)).0.rows ≡ true
      go true other k = after_option a (Some v) h (g a refl) k e
      go false other k = e
  after_long (Some a) None h g f e = go (takes_values a) f
    where
      go : (b : Bool) → cond b (option_fault c again a None h) (react_fault c again a [] h) ≡ []
          → all_filled (cond b (option_met c a None h) (reacted c a [] h, done)).0.rows ≡ true
      go true k = after_option a None h (g a refl) k e
      go false k = after_react a [] h (g a refl) k e

  after_short : (o : Option Rule) (rest : Text) (h : Held) (go_on : Held → Held × Outcome) (fault : Held → Kinds)
      → ((a : Rule) → o ≡ Some a → is_good a ≡ true)
      → ((k : Held) → fault k ≡ [] → all_filled k.rows ≡ true → all_filled (go_on k).0.rows ≡ true)
      → short_fault c again o rest h fault ≡ [] → all_filled h.rows ≡ true → all_filled (short_met c o rest h go_on).0.rows ≡ true
  after_short None rest h go_on fault g later f e = e
  after_short (Some a) rest h go_on fault g later f e = go (takes_values a) f
    where
      go : (b : Bool) → cond b (option_fault c again a (attached_value rest) h) (or_else (react_fault c again a [] h)
          (fault (reacted c a [] h))) ≡ []
          → all_filled (cond b (option_met c a (attached_value rest) h) (go_on (reacted c a [] h))).0.rows ≡ true
      go true k = after_option a (attached_value rest) h (g a refl) k e
      go false k =
          let both_nil = nil_both (react_fault c again a [] h) _ k in
          later (reacted c a [] h) both_nil.1 (after_react a [] h (g a refl) both_nil.0 e)

  after_flag_char : (x : Option ℕ) (flags : Text) (skip : ℕ) (so_far : Outcome) (h : Held) (go_on : Text → ℕ → Outcome
      → Held → Held × Outcome) (fault : Text → ℕ → Held → Kinds)
      → ((t : Text) (n : ℕ) (o : Outcome) (k : Held) → fault t n k ≡ [] → all_filled k.rows ≡ true
      → all_filled (go_on t n o k).0.rows ≡ true)
      → bundle_step_fault c again x flags skip h fault ≡ [] → all_filled h.rows ≡ true
      → all_filled (bundle_step c x flags skip so_far h go_on).0.rows ≡ true
  after_flag_char None flags skip so_far h go_on fault later f e = e
  after_flag_char (Some x) flags zero so_far h go_on fault later f e =
      after_short (arg_by_short c x) _ h (go_on _ 0 done) (fault _ 0)
      (λ a. found_good (λ (y : Rule). not (is_some y.index) && has_short y x) a) (λ k. later _ 0 done k) f e
  after_flag_char (Some x) flags (suc skip) so_far h go_on fault later f e = later _ skip so_far h f e

  after_bundle : (n : ℕ) (flags : Text) (skip : ℕ) (so_far : Outcome) (h : Held) → flags_fault c again n flags skip h ≡ []
      → all_filled h.rows ≡ true
      → all_filled (bundle_met c n flags skip so_far h).0.rows ≡ true
  unfolding bundle_met flags_fault
  after_bundle zero flags skip so_far h f e = e
  after_bundle (suc n) flags skip so_far h f e =
      after_flag_char (slice_get (chars flags) 0) flags skip so_far h (bundle_met c n) (flags_fault c again n)
      (λ t m o k. after_bundle n t m o k) f e

  after_plain : (waiting : Waiting) (word : Text) (h : Held) → all_filled h.rows ≡ true
      → all_filled (plain_word c waiting word h).0.rows ≡ true
  after_plain idle word h e = e
  after_plain (option id) word h e = go (arg_by_id c id)
    where
      go : (o : Option Rule) → all_filled (option_word o id word h).0.rows ≡ true
      go None = e
      go (Some a) = e
  after_plain positional word h e = e

  after_outcome : (waiting : Waiting) (word : Text) (h : Held) (o : Outcome) → all_filled h.rows ≡ true
      → all_filled (after_flag c waiting word h o).0.rows ≡ true
  after_outcome waiting word h done e = e
  after_outcome waiting word h (waits id) e = e
  after_outcome waiting word h plain e = after_plain waiting word h e
  after_outcome waiting word h refused e = after_plain waiting word h e

  after_dashes : (waiting : Waiting) (word : Text) (long : Option (Text × Option Text)) (h : Held)
      → flag_word_fault c again long word h ≡ [] → all_filled h.rows ≡ true
      → all_filled (long_or_other c waiting word long h).0.rows ≡ true
  after_dashes waiting word (Some p) h f e = after_outcome waiting word (long_met c (arg_by_long c p.0) p.1 h).0
      (long_met c (arg_by_long c p.0) p.1 h).1 (after_long (arg_by_long c p.0) p.1 h
      (λ a. found_good (λ (x : Rule). not (is_some x.index) && has_long x p.0) a) f e)
  after_dashes waiting word None h f e = go (short_of word) f
    where
      go : (short : Option Text) → option_map_or (λ flags. bundle_fault c again flags h) short [] ≡ []
          → all_filled (short_or_plain c waiting word short h).0.rows ≡ true
      go (Some flags) k = after_outcome waiting word (bundle c flags h).0 (bundle c flags h).1
          (after_bundle (length flags) flags h.skip plain (record h { skip = 0 }) k e)
      go None k = after_plain waiting word h e

  after_value : (o : Option Rule) (word : Text) (w : Walk) (h : Held) (stray : Kinds)
      → option_map_or (λ a. positional_fault c again a h) o stray ≡ [] → all_filled h.rows ≡ true
      → all_filled (to_positional c o word w h).held.rows ≡ true
  after_value None word w h stray f e = e
  after_value (Some a) word w h stray f e = go (is_pending a h.pending && takes_several a) f
    where
      go : (b : Bool) → cond b [] (settle_fault c again h) ≡ [] → all_filled (cond b h (settled c h)).rows ≡ true
      go true k = e
      go false k = after_settle h k e

-- ---- a level of a parse

module _ (s : Shape) (good : list_all is_good s.rules ≡ true) where
  after_other : (name : Option Text) (waiting : Waiting) (at : ℕ) (word : Text) (h : Held) → other_fault s name word h ≡ []
      → all_filled h.rows ≡ true
      → all_filled (subcommand_or_other s.rules name waiting at word h).0.rows ≡ true
  after_other (Some name) waiting at word h f e = e
  after_other None waiting at word h f e = go (bytes_eq word (45 ∷ 45 ∷ [])) f
    where
      go : (b : Bool) → cond b [] (flag_word_fault s.rules s.args_override_self (long_of word) word h) ≡ []
          → all_filled (cond b (h, trailing at) (long_or_other s.rules waiting word (long_of word) h)).0.rows ≡ true
      go true k = e
      go false k = after_dashes s.rules s.args_override_self good waiting word (long_of word) h k e

  after_word : (names : Names) (is_trailing : Bool) (waiting : Waiting) (at : ℕ) (word : Text) (h : Held)
      → word_fault s names is_trailing waiting word h ≡ [] → all_filled h.rows ≡ true
      → all_filled (word_met s.rules names is_trailing waiting at word h).0.rows ≡ true
  after_word names true waiting at word h f e = e
  after_word names false waiting at word h f e = after_other (subcommand_met names waiting word) waiting at word h f e

  after_step_is : (word : Text) (w : Walk) (h : Held) (step : Step) → step_fault s w.position h step ≡ [] → all_filled h.rows ≡ true
      → all_filled (after_step s.rules word w h step).held.rows ≡ true
  after_step_is word w h (next waiting) f e = e
  after_step_is word w h (trailing at) f e = e
  after_step_is word w h (subcommand name) f e = e
  after_step_is word w h value f e = after_value s.rules s.args_override_self good (arg_by_index s.rules w.position) word w
      h (stray_fault s) f e

  after_turn : (names : Names) (w : Walk) (word : Text) → turn_fault s names w word ≡ [] → all_filled w.held.rows ≡ true
      → all_filled (walked s.rules names w word).held.rows ≡ true
  unfolding walked
  after_turn names w word f e = go w.stopped f
    where
      met : Held × Step
      met = word_met s.rules names w.is_trailing w.waiting w.position word w.held

      go : (stopped : Option (Text × List Text))
          → cond (is_some stopped) [] (or_else (word_fault s names w.is_trailing w.waiting word w.held)
          (step_fault s w.position met.0 met.1)) ≡ []
          → all_filled (walked_from s.rules names stopped w word).held.rows ≡ true
      go (Some p) k = e
      go None k =
          let each = nil_both (word_fault s names w.is_trailing w.waiting word w.held) _ k in
          after_step_is word w met.0 met.1 each.1 (after_word names w.is_trailing w.waiting w.position word w.held each.0 e)

  after_walk : (names : Names) (w : Walk) (words : List Text) → walk_fault s names w words ≡ [] → all_filled w.held.rows ≡ true
      → all_filled (fold (walked s.rules names) w words).held.rows ≡ true
  unfolding walk_fault
  after_walk names w [] f e = e
  after_walk names w (word ∷ rest) f e =
      let each = nil_both (turn_fault s names w word) _ f in
      after_walk names (walked s.rules names w word) rest each.1 (after_turn names w word each.0 e)

default_filled : (id : Text) (how : _) (values : List Text) (rows : List Row) → all_filled rows ≡ true
    → all_filled (default_rows id how values rows) ≡ true
default_filled id how [] rows e = e
default_filled id how (v ∷ vs) rows e = put id how _ v vs rows e

with_defaults : (c : List Rule) (rows : List Row) → all_filled rows ≡ true → all_filled (fold with_default rows c) ≡ true
with_defaults [] rows e = e
with_defaults (a ∷ rest) rows e = with_defaults rest (with_default rows a) (go (has_row a.id rows))
  where
    go : (b : Bool) → all_filled (cond b rows (default_rows a.id (reading_by a) a.defaults rows)) ≡ true
    go true = e
    go false = default_filled a.id (reading_by a) a.defaults rows e

-- ---- what is required

given_has_first : (id : Text) (rows : List Row) → all_filled rows ≡ true → is_given id rows ≡ true → is_some (first_of id rows) ≡ true
given_has_first id rows all given = go (find (λ r. bytes_eq r.id id) rows)
    (λ r. found_passes is_filled (λ r. bytes_eq r.id id) rows r all) given
  where
    first : (values : List Text) → has_first values ≡ true → is_some (slice_get values 0) ≡ true
    first [] h = absurd (true≢false (sym h))
    first (v ∷ vs) h = refl

    go : (o : Option Row) → ((r : Row) → o ≡ Some r → is_filled r ≡ true) → option_map_or (λ r. explicit_source r.source) o false ≡ true
        → is_some (option_and_then (λ r. slice_get r.values 0) o) ≡ true
    go None f g = absurd (true≢false (sym g))
    go (Some r) f g = first r.values (f r refl)

-- each required option and positional has a value
abbrev pub has_required : List Rule → List Row → Bool
has_required rules rows = list_all (λ a. not a.required || is_some (first_of a.id rows)) rules

all_given : (rules : List Rule) (rows : List Row) → all_filled rows ≡ true
    → list_any (λ a. a.required && not (is_given a.id rows)) rules ≡ false → has_required rules rows ≡ true
all_given [] rows all e = refl
all_given (a ∷ rest) rows all e = ap₂ (λ x y. x && y) (own a.required (is_given a.id rows) refl (neither _ _ e).0)
    (all_given rest rows all (neither _ _ e).1)
  where
    neither : (a b : Bool) → (a || b) ≡ false → (a ≡ false) × (b ≡ false)
    neither true b e = absurd (true≢false e)
    neither false b e = (refl, e)

    own : (required given : Bool) → is_given a.id rows ≡ given → (required && not given) ≡ false
        → (not required || is_some (first_of a.id rows)) ≡ true
    own false given g e = refl
    own true true g e = given_has_first a.id rows all g
    own true false g e = absurd (true≢false e)

last_check : (x y z : Bool) → check_kinds x y z ≡ [] → z ≡ false
last_check true y z e = absurd (cons_nil _ _ e)
last_check false true z e = absurd (cons_nil _ _ e)
last_check false false true e = absurd (cons_nil _ _ e)
last_check false false false e = refl

not_negated : (b c : Bool) → (not (b && false) && c) ≡ false → c ≡ false
not_negated true c e = e
not_negated false c e = e

-- a level without subcommands, with whose words nothing is wrong
pub level_values : (s : Shape) (words : List Text) → list_all is_good s.rules ≡ true → level_fault s [] nothing_held words false [] ≡ []
    → has_required s.rules (rows_after s.rules [] words) ≡ true
level_values s words good f =
    let end = (walk s.rules [] nothing_held words).held in
    let a = nil_both (walk_fault s [] (walk_from nothing_held) words) _ f in
    let b = nil_both (settle_fault s.rules s.args_override_self end) _ a.1 in
    let d = nil_both _ _ b.1 in
    let filled_end = after_walk s good [] (walk_from nothing_held) words a.0 refl in
    let filled = with_defaults s.rules (settled s.rules end).rows (after_settle s.rules s.args_override_self good end b.0 filled_end) in
    all_given s.rules (finished s.rules end) filled (not_negated s.subcommand_negates_reqs _ (last_check _ _ _ d.1))
