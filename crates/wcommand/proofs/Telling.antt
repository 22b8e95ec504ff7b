-- What `choose` makes of a parse of the command set.
use Rattle.std.proofs.Common.{◌≡◌, ◌∙◌, ◌⊎◌, ⊎_elim, inl, inr, Bool, true, false, refl, sym, ap, subst, true≢false}
use Rattle.std.proofs.Common.{List, [], Option, Some, None, option_map, Result, Ok, Err, IfErr, IfOk}
use Rattle.clap.specs.Words.{App, HasKind, HasMatchesOf, IsAmong, Row, Text, fault_of, is_simple, is_simple_and_free}
use Rattle.clap.specs.Words.{kind_of, subcommand_of, subcommand_rows_of, takes}
use Rattle.clap.specs.declared.error.ErrorKind.{ErrorKind}
use Rattle.clap.specs.declared.error.ErrorKind.TheVariants as kinds
use Rattle.clap.proofs.OnLiterals.{clap_on_literals}
use Rattle.wcommand.specs.CommandSet.{command_set}
use Rattle.wcommand.specs.Choices.{Chooses, IsChoice, IsFaultFor}
use Rattle.wcommand.specs.declared.choice.Choice.{Choice}
use Rattle.wcommand.specs.Required.{IsWhole}
use Rattle.wcommand.specs.declared.fault.WordsFault.{WordsFault}
use Rattle.wcommand.specs.declared.fault.WordsFault.TheVariants as faults
use Rattle.wcommand.proofs.Filled.{none_some, some_is}
use Rattle.wcommand.proofs.Whole.{words_whole}

is_free : is_simple_and_free command_set ≡ true
unfolding clap_on_literals
is_free = refl

is_plain : is_simple command_set ≡ true
unfolding clap_on_literals
is_plain = refl

abbrev is_memory : ErrorKind → Bool
is_memory kinds.OutOfMemory = true
is_memory _ = false

-- want of memory is given as such
pub no_memory : (kind : ErrorKind) (fault : WordsFault) → kind ≡ kinds.OutOfMemory → IsFaultFor kind fault → fault ≡ faults.NoMemory
no_memory kind faults.NoMemory e t = refl
no_memory kind (faults.Help text) e t =
    absurd (⊎_elim (λ h. true≢false (sym (ap is_memory e) ∙ ap is_memory h)) (λ h. true≢false (sym (ap is_memory e) ∙ ap is_memory h)) t)
no_memory kind (faults.Refused text) e t = absurd (t.0 e)

-- an `Ok` of the parse
pub good_words : (app : App) (words : List Text) (m : _) → app ≡ command_set
    → (is_simple_and_free app ≡ true → fault_of app words ≡ []) → HasMatchesOf app words m
    → (fault_of command_set words ≡ []) × (subcommand_rows_of m ≡ subcommand_of command_set words)
good_words app words m same none has = (
  subst (λ a. is_simple_and_free a ≡ true → fault_of a words ≡ []) same none is_free,
  (subst (λ a. HasMatchesOf a words m) same has is_plain).1,
)

pub whole_matches : (words : List Text) (m : _) → (fault_of command_set words ≡ [])
    × (subcommand_rows_of m ≡ subcommand_of command_set words) → IsWhole (subcommand_rows_of m)
whole_matches words m good = subst IsWhole (sym good.1) (words_whole words good.0)

-- what the matches of good words choose, if memory is found
pub chosen_words : (words : List Text) (m : _) (r : Result Choice WordsFault) → (fault_of command_set words ≡ [])
    × (subcommand_rows_of m ≡ subcommand_of command_set words)
    → IfOk r (λ choice. IsChoice (subcommand_rows_of m) choice) → IfErr r (λ fault. fault ≡ faults.NoMemory) → Chooses words r
chosen_words words m (Ok choice) good is lacks = (good.0, subst (λ o. IsChoice o choice) good.1 is)
chosen_words words m (Err fault) good is lacks = inl lacks

-- an `Err` of the parse
pub fault_of_kind : (app : App) (words : List Text) (e : _) (fault : WordsFault) → app ≡ command_set
    → (is_simple_and_free app ≡ true → HasKind (fault_of app words) e) → IsFaultFor (kind_of e) fault
    → (fault ≡ faults.NoMemory) ⊎ ((kind : ErrorKind) × IsAmong kind (fault_of command_set words) × IsFaultFor kind fault)
fault_of_kind app words e fault same has fault_for = ⊎_elim
    (λ h. inl (no_memory (kind_of e) fault h fault_for))
    (λ h. inr (kind_of e, h, fault_for))
    (subst (λ a. is_simple_and_free a ≡ true → HasKind (fault_of a words) e) same has is_free)

pub taken_words : (app : App) (words : List Text) (e : _) (fault : WordsFault) → app ≡ command_set
    → (takes app words ≡ true → kind_of e ≡ kinds.OutOfMemory) → IsFaultFor (kind_of e) fault
    → takes command_set words ≡ true → fault ≡ faults.NoMemory
taken_words app words e fault same passes fault_for t = no_memory (kind_of e) fault (passes (ap (λ a. takes a words) same ∙ t)) fault_for

-- the name and the rows of a subcommand, apart and together
pub name_and_rows : {B : Type 0} (f : B → Text) (g : B → List Row) (o : Option B) (name : Text) (rows : List Row)
    → option_map f o ≡ Some name
    → option_map (λ (p : Text × List Row). p.1) (option_map {U = Text × List Row} (λ b. (f b, g b)) o) ≡ Some rows
    → option_map {U = Text × List Row} (λ b. (f b, g b)) o ≡ Some (name, rows)
name_and_rows f g None name rows e h = absurd (none_some name e)
name_and_rows f g (Some b) name rows e h =
    let both : ◌≡◌ {A = Text × List Row} (f b, g b) (name, rows) = λ i. (some_is (f b) name e i, some_is (g b) rows h i) in
    ap Some both
