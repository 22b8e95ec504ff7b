-- Where nothing is wrong with the words, the subcommand that they name has all its options and positionals.
use Rattle.std.proofs.Common.{◌≡◌, ◌&&◌, ◌||◌, ℕ, Bool, cond, true, false, not, refl, sym, subst, List, []}
use Rattle.std.proofs.Common.{◌∷◌, fold, find, Option, Some, None, is_some, true≢false, codes, bytes_eq}
use Rattle.std.specs.Prelude.{⊤}
use Rattle.std.specs.List.{list_all}
use Rattle.std.specs.Option.{option_map_or, option_map}
use Rattle.std.proofs.lemmas.Slice.Eq.{bytes_eq-Decides}
use Rattle.clap.specs.Lexer.{long_of, short_of}
use Rattle.clap.specs.Walk.{Held, Names, Outcome, Row, Rule, Step, Text, Waiting, Walk, after_flag, after_step, answers_to}
use Rattle.clap.specs.Walk.{arg_by_index, done, idle, long_or_other, next, nothing_held, option, plain, plain_word, positional}
use Rattle.clap.specs.Walk.{refused, rows_after, short_or_plain, subcommand, subcommand_met, subcommand_or_other, to_positional}
use Rattle.clap.specs.Walk.{trailing, value, waits, walk, walk_from, walked, walked_from, word_met}
use Rattle.clap.specs.Simple.{Shape, argument_words, built, entered, label_of, names_of, rows_at, subcommand_of}
use Rattle.clap.specs.Kinds.{or_else}
use Rattle.clap.specs.Faults.{entered_fault, fault_of, level_fault, other_fault, step_fault, turn_fault, walk_fault, word_fault}
use Rattle.clap.specs.declared.error.ErrorKind.TheVariants.{DisplayHelp, InvalidSubcommand}
use Rattle.wcommand.specs.CommandSet.{command_set}
use Rattle.wcommand.specs.Required.{IsWhole}
use Rattle.wcommand.proofs.Filled.{cons_nil, has_required, is_good, level_values, nil_both, none_some, some_is}

-- ---- a walk with nothing wrong stops at no `help`

abbrev IsOther : Text → Type 0
IsOther name = bytes_eq name (codes "help") ≡ false

abbrev StopsElsewhere : Option (Text × List Text) → Type 0
StopsElsewhere None = ⊤
StopsElsewhere (Some p) = IsOther p.0

abbrev StepsElsewhere : Step → Type 0
StepsElsewhere (subcommand name) = IsOther name
StepsElsewhere (next waiting) = ⊤
StepsElsewhere (trailing at) = ⊤
StepsElsewhere value = ⊤

plain_step : (c : List Rule) (waiting : Waiting) (word : Text) (h : Held) → StepsElsewhere (plain_word c waiting word h).1
plain_step c idle word h = tt
plain_step c (option id) word h = tt
plain_step c positional word h = tt

flag_step : (c : List Rule) (waiting : Waiting) (word : Text) (h : Held) (o : Outcome) → StepsElsewhere (after_flag c waiting word h o).1
flag_step c waiting word h done = tt
flag_step c waiting word h (waits id) = tt
flag_step c waiting word h plain = plain_step c waiting word h
flag_step c waiting word h refused = plain_step c waiting word h

dashed_step : (c : List Rule) (waiting : Waiting) (word : Text) (long : Option (Text × Option Text)) (h : Held)
    → StepsElsewhere (long_or_other c waiting word long h).1
dashed_step c waiting word (Some p) h = flag_step c waiting word _ _
dashed_step c waiting word None h = go (short_of word)
  where
    go : (short : Option Text) → StepsElsewhere (short_or_plain c waiting word short h).1
    go (Some flags) = flag_step c waiting word _ _
    go None = plain_step c waiting word h

other_step : (s : Shape) → s.disable_help_subcommand ≡ false
    → (name : Option Text) (waiting : Waiting) (at : ℕ) (word : Text) (h : Held) → other_fault s name word h ≡ []
    → StepsElsewhere (subcommand_or_other s.rules name waiting at word h).1
other_step s helps (Some name) waiting at word h f = go (bytes_eq name (codes "help")) s.disable_help_subcommand helps f
  where
    go : (b d : Bool) → d ≡ false → cond (b && not d) (DisplayHelp ∷ InvalidSubcommand ∷ []) [] ≡ [] → b ≡ false
    go true true e k = absurd (true≢false e)
    go true false e k = absurd (cons_nil _ _ k)
    go false d e k = refl
other_step s helps None waiting at word h f = go (bytes_eq word (45 ∷ 45 ∷ []))
  where
    go : (b : Bool) → StepsElsewhere (cond b (h, trailing at) (long_or_other s.rules waiting word (long_of word) h)).1
    go true = tt
    go false = dashed_step s.rules waiting word (long_of word) h

word_step_is : (s : Shape) → s.disable_help_subcommand ≡ false → (names : Names) (is_trailing : Bool) (waiting : Waiting)
    (at : ℕ) (word : Text) (h : Held)
    → word_fault s names is_trailing waiting word h ≡ [] → StepsElsewhere (word_met s.rules names is_trailing waiting at word h).1
word_step_is s helps names true waiting at word h f = tt
word_step_is s helps names false waiting at word h f = other_step s helps (subcommand_met names waiting word) waiting at word h f

stepped : (c : List Rule) (word : Text) (w : Walk) (h : Held) (step : Step) → StopsElsewhere w.stopped → StepsElsewhere step
    → StopsElsewhere (after_step c word w h step).stopped
stepped c word w h (next waiting) e t = e
stepped c word w h (trailing at) e t = e
stepped c word w h (subcommand name) e t = t
stepped c word w h value e t = go (arg_by_index c w.position)
  where
    go : (o : Option Rule) → StopsElsewhere (to_positional c o word w h).stopped
    go None = e
    go (Some a) = tt

turned : (s : Shape) → s.disable_help_subcommand ≡ false → (names : Names) (w : Walk) (word : Text)
    → turn_fault s names w word ≡ [] → StopsElsewhere w.stopped
    → StopsElsewhere (walked s.rules names w word).stopped
unfolding walked
turned s helps names w word f e = go w.stopped e f
  where
    met : Held × Step
    met = word_met s.rules names w.is_trailing w.waiting w.position word w.held

    go : (stopped : Option (Text × List Text)) → StopsElsewhere stopped
        → cond (is_some stopped) [] (or_else (word_fault s names w.is_trailing w.waiting word w.held)
        (step_fault s w.position met.0 met.1)) ≡ []
        → StopsElsewhere (walked_from s.rules names stopped w word).stopped
    go (Some p) t k = t
    go None t k = stepped s.rules word w met.0 met.1 e (word_step_is s helps names w.is_trailing w.waiting w.position word
        w.held (nil_both (word_fault s names w.is_trailing w.waiting word w.held) _ k).0)

stops_elsewhere : (s : Shape) → s.disable_help_subcommand ≡ false → (names : Names) (w : Walk) (words : List Text)
    → walk_fault s names w words ≡ [] → StopsElsewhere w.stopped
    → StopsElsewhere (fold (walked s.rules names) w words).stopped
unfolding walk_fault
stops_elsewhere s helps names w [] f e = e
stops_elsewhere s helps names w (word ∷ rest) f e =
    let each = nil_both (turn_fault s names w word) _ f in
    stops_elsewhere s helps names (walked s.rules names w word) rest each.1 (turned s helps names w word each.0 e)

-- ---- the command set

abbrev Each : (Shape → Type 0) → List Shape → Type 0
Each P [] = ⊤
Each P (x ∷ xs) = P x × Each P xs

found_each : (P : Shape → Type 0) (p : Shape → Bool) (xs : List Shape) (s : Shape) → Each P xs → find p xs ≡ Some s → P s
found_each P p [] s each e = absurd (none_some s e)
found_each P p (x ∷ xs) s each e = go (p x) e (found_each P p xs s each.1)
  where
    go : (b : Bool) → cond b (Some x) (find p xs) ≡ Some s → (find p xs ≡ Some s → P s) → P s
    go true f later = subst P (some_is x s f) each.0
    go false f later = later f

found_true : (p : Shape → Bool) (xs : List Shape) (s : Shape) → find p xs ≡ Some s → p s ≡ true
found_true p [] s e = absurd (none_some s e)
found_true p (x ∷ xs) s e = go (p x) refl e (found_true p xs s)
  where
    go : (b : Bool) → p x ≡ b → cond b (Some x) (find p xs) ≡ Some s → (find p xs ≡ Some s → p s ≡ true) → p s ≡ true
    go true t f later = subst (λ y. p y ≡ true) (some_is x s f) t
    go false t f later = later f

or_none : (b : Bool) → (b || false) ≡ true → b ≡ true
or_none true e = refl
or_none false e = e

not_help : (name : Text) → IsOther name → (bytes_eq (codes "help") name || false) ≡ true → ⊥
not_help name other t =
    let same : codes "help" ≡ name = (bytes_eq-Decides (codes "help") name).0 (or_none _ t) in
    true≢false (subst (λ n. bytes_eq n (codes "help") ≡ false) (sym same) other)

-- a subcommand that is not `help` needs a value for each use, and has to have what is required of it
abbrev IsWholeAt : Text → Shape → Type 0
IsWholeAt name s = answers_to name (label_of s) ≡ true → (list_all is_good s.rules ≡ true)
    × ((rows : List Row) → has_required s.rules rows ≡ true → IsWhole (Some (s.name, rows)))

each_whole : (name : Text) → IsOther name → Each (IsWholeAt name) (built command_set).subs
each_whole name other = (
  (λ t. (refl, λ rows h. refl)),
  (
    (λ t. (refl, λ rows h. h)),
    (
      (λ t. (refl, λ rows h. h)),
      (
        (λ t. (refl, λ rows h. h)),
        (
          (λ t. (refl, λ rows h. h)),
          (
            (λ t. (refl, λ rows h. h)),
            (
              (λ t. (refl, λ rows h. h)),
              (
                (λ t. (refl, λ rows h. h)),
                (
                  (λ t. (refl, λ rows h. h)),
                  (
                    (λ t. absurd (not_help name other t)),
                    tt,
                  ),
                ),
              ),
            ),
          ),
        ),
      ),
    ),
  ),
)

entered_whole : (stop : Option (Text × List Text)) → StopsElsewhere stop → entered_fault (built command_set) stop ≡ []
    → IsWhole (entered (built command_set) stop)
entered_whole None other f = tt
entered_whole (Some p) other f = go (find (λ s. answers_to p.0 (label_of s)) (built command_set).subs) refl f
  where
    go : (o : Option Shape) → find (λ s. answers_to p.0 (label_of s)) (built command_set).subs ≡ o
        → option_map_or (λ s. level_fault s [] nothing_held p.1 false []) o [] ≡ []
        → IsWhole (option_map (λ s. rows_at s p.1) o)
    go None e k = tt
    go (Some s) e k =
        let answers = λ (x : Shape). answers_to p.0 (label_of x) in
        let at = found_each (IsWholeAt p.0) answers (built command_set).subs s (each_whole p.0 other) e
        (found_true answers (built command_set).subs s e) in
        at.1 (rows_after s.rules [] p.1) (level_values s p.1 at.0 k)

-- words with which nothing is wrong give their subcommand all that it has to have
pub words_whole : (words : List Text) → fault_of command_set words ≡ [] → IsWhole (subcommand_of command_set words)
words_whole words f =
    let a = built command_set in
    let ws = argument_words command_set words in
    let stop = (walk a.top.rules (names_of a) nothing_held ws).stopped in
    let first = nil_both (walk_fault a.top (names_of a) (walk_from nothing_held) ws) _ f in
    let below = nil_both (entered_fault a stop) _ first.1 in
    entered_whole stop (stops_elsewhere a.top refl (names_of a) (walk_from nothing_held) ws first.0 tt) below.0
