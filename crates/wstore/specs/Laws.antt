-- What histories tell: what a node knows and a slot holds, item by item, and the laws of it.
use Rattle.std.specs.Prelude.{◌≡◌, ◌≢◌, ◌↔◌, ⊤, ℕ, true, List, [], ◌∷◌, ◌++◌, map, Option, None, Some, ◌⊎◌}
use Rattle.std.specs.List.{IsAmong, AllByRecursion}
use Rattle.wsegment.specs.Declaration.{Declaration}
use Rattle.wset.specs.Views.{join}
use Rattle.wset.specs.Items.{Item, view_of}
use Rattle.wsegment.specs.Spelling.{IsDeclaration}
use Rattle.wscript.specs.Commands.{Command, Listing, Ask, Put, Get, IsMalformed}
use Rattle.wstore.specs.Replies.{Line, SpentLine, Reply, Fed, Done, NoMemory}
use Rattle.wstore.specs.History.{Step, Answers, declaration, is_declared, delivers, gets, puts, known, held, is_put, slot_file}
use Rattle.wstore.specs.Runs.{Ran, asked}

-- it is so at another place, if at any
abbrev pub Drawn : Option ℕ → (ℕ → Type 0) → Type 0
Drawn None there = ⊥
Drawn (Some k) there = there k

-- it is so at another place, in the place of here
abbrev pub Replaced : Option ℕ → (ℕ → Type 0) → Type 0 → Type 0
Replaced None there here = here
Replaced (Some n) there here = there n

-- a node knows what it knew, what a slot held that it got, and what it was told; a slot holds what its node knew when it was put last
abbrev mutual
  pub Knows : List Step → ℕ → Item → Type 0
  Knows [] n i = ⊥
  Knows (s ∷ h) n i = Knows h n i ⊎ (Drawn (gets s.command s.reply n) (λ k. Holds h k i) ⊎ IsAmong (delivers s.command s.reply n) i)

  pub Holds : List Step → ℕ → Item → Type 0
  Holds [] k i = ⊥
  Holds (s ∷ h) k i = Replaced (puts s.command s.reply k) (λ n. Knows h n i) (Holds h k i)

-- the lists of items are what is known and held, item by item
pub record ListsAreExact : Type 0 where
  pub knows : (h : List Step) (n : ℕ) (i : Item) → IsAmong (known h n) i ↔ Knows h n i
  pub holds : (h : List Step) (k : ℕ) (i : Item) → IsAmong (held h k) i ↔ Holds h k i

-- a slot that was got was put, and makes the view of its node the join of its view with the slot's
abbrev pub SlotsJoin : Type 0
SlotsJoin = (h : List Step) (k n : ℕ) (d : Declaration) → declaration h ≡ Some d → Answers h (Get k n) Done →
    (is_put h k ≡ true) × (view_of (known (record { command = Get k n; reply = Done } ∷ h) n) ≡ join (view_of (known h n))
    (view_of (held h k)))

-- two nodes, at any moments of any two histories, know the same items
pub record KnowTheSame (g h : List Step) (m n : ℕ) : Type 0 where
  pub to : (i : Item) → Knows g m i → Knows h n i
  pub back : (i : Item) → Knows h n i → Knows g m i

-- they have one view
abbrev pub HaveOneView : List Step → List Step → ℕ → ℕ → Type 0
HaveOneView g h m n = view_of (known g m) ≡ view_of (known h n)

-- so have those that know the same items
abbrev pub SameViews : Type 0
SameViews = (g h : List Step) (m n : ℕ) → KnowTheSame g h m n → HaveOneView g h m n

-- the files that nodes of one view put are equal
abbrev pub SameFiles : Type 0
SameFiles = (g h : List Step) (m n j k : ℕ) (d : Declaration) → HaveOneView g h m n →
    slot_file d (record { command = Put m j; reply = Done } ∷ g) j ≡ slot_file d (record { command = Put n k; reply = Done } ∷ h) k

-- under one declaration they answer the same to every query, where both answer
abbrev pub SameAnswers : Type 0
SameAnswers = (g h : List Step) (m n : ℕ) (d : Declaration) (text : List ℕ) (r s : Reply) → HaveOneView g h m n
    → declaration g ≡ Some d → declaration h ≡ Some d →
    Answers g (Ask m text) r → Answers h (Ask n text) s → r ≢ NoMemory → s ≢ NoMemory → r ≡ s

-- and list the same
abbrev pub SameLists : Type 0
SameLists = (g h : List Step) (m n : ℕ) (d : Declaration) (r s : Reply) → HaveOneView g h m n → declaration g ≡ Some d
    → declaration h ≡ Some d →
    Answers g (Listing m) r → Answers h (Listing n) s → r ≢ NoMemory → s ≢ NoMemory → r ≡ s

-- a message that was not spent for want of memory
abbrev pub IsHandled : Line → Type 0
IsHandled (SpentLine item) = ⊥
IsHandled line = ⊤

-- a reply that no want of memory has part in
abbrev pub HasMemory : Reply → Type 0
HasMemory NoMemory = ⊥
HasMemory (Fed lines bad) = AllByRecursion IsHandled lines
HasMemory r = ⊤

-- a slot that is got, if it was put, is of a table that was declared, as in each run
abbrev pub IsOfTable : List Step → Command → Type 0
IsOfTable h (Get slot n) = (d : Declaration) → declaration h ≡ Some d → is_put h slot ≡ true → IsDeclaration d
IsOfTable h c = ⊤

-- a command has one reply that no want of memory has part in
abbrev pub OneReply : Type 0
OneReply = (h : List Step) (c : Command) (r s : Reply) → IsOfTable h c → Answers h c r → Answers h c s → HasMemory r → HasMemory s → r ≡ s

-- a run ends here: nothing is left, or what is left begins with no command
abbrev pub EndsRun : List Step → List ℕ → Type 0
EndsRun h rest = (rest ≡ []) ⊎ IsMalformed (is_declared h) rest

-- an input has one reading as commands and a rest, whatever they are answered
abbrev pub OneReading : Type 0
OneReading = (s t : List Step) (g h : List Step) (rest more : List ℕ) → Ran [] s g → Ran [] t h → EndsRun g rest → EndsRun h more →
    asked s ++ rest ≡ asked t ++ more → (map (λ x. x.command) s ≡ map (λ x. x.command) t) × (rest ≡ more)

-- an input has one run in which no want of memory has part: its commands, their replies, and what is left behind them
abbrev pub OneRun : Type 0
OneRun = (s t : List Step) (g h : List Step) (rest more : List ℕ) → Ran [] s g → Ran [] t h → EndsRun g rest → EndsRun h more →
    asked s ++ rest ≡ asked t ++ more → AllByRecursion (λ x. HasMemory x.reply) s
    → AllByRecursion (λ x. HasMemory x.reply) t → (s ≡ t) × (rest ≡ more)
