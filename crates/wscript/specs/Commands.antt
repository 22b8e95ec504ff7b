-- The commands of a script, and how each is spelled.
use Rattle.std.specs.Prelude.{◌≡◌, ◌≢◌, ℕ, ◌^◌, ◌<◌, ◌≤◌, Bool, true, false, List, [], ◌∷◌, ◌++◌, length, Ok}
use Rattle.std.specs.Fmt.{decimal}
use Rattle.wvalues.specs.Names.{NameParts}
use Rattle.wvalues.specs.NameReading.{ReadsName}
use Rattle.wlines.specs.Words.{IsWord}

-- how many nodes a script has
abbrev pub node_count : ℕ
node_count = 16

-- how many slots it has
abbrev pub slot_count : ℕ
slot_count = 16

-- how many bytes a header line has at most
abbrev pub longest_line : ℕ
longest_line = 200

-- a declaration, and the text of a query
abbrev pub longest_text : ℕ
longest_text = 65536

-- a segment
abbrev pub longest_segment : ℕ
longest_segment = 67108864

-- a piece of a delivery stream
abbrev pub longest_piece : ℕ
longest_piece = 67108864

pub data Command : Type 0 where
  -- the bytes of a table's declaration
  Declare : List ℕ → Command
  -- node, origin, number and bytes of a segment
  Take : ℕ → List ℕ → List ℕ → List ℕ → Command
  -- node, origin and number
  Retire : ℕ → List ℕ → List ℕ → Command
  -- node, origin and number: this name and all of its origin below it
  RetireTo : ℕ → List ℕ → List ℕ → Command
  -- node
  Listing : ℕ → Command
  -- node and text of a query
  Ask : ℕ → List ℕ → Command
  -- node, and a piece of its delivery stream
  Feed : ℕ → List ℕ → Command
  -- a node, and the slot that what it knows is put into
  Put : ℕ → ℕ → Command
  -- a slot, and the node that gets what it holds
  Get : ℕ → ℕ → Command

-- what a header line says: the words of a name as they stand, and the length of a body
pub data Form : Type 0 where
  DeclareForm : ℕ → Form
  TakeForm : ℕ → List ℕ → List ℕ → ℕ → Form
  RetireForm : ℕ → List ℕ → List ℕ → Form
  FloorForm : ℕ → List ℕ → List ℕ → Form
  ListForm : ℕ → Form
  AskForm : ℕ → ℕ → Form
  FeedForm : ℕ → ℕ → Form
  PutForm : ℕ → ℕ → Form
  GetForm : ℕ → ℕ → Form

-- the words behind the first, parted by one space each
abbrev pub retire_words : ℕ → List ℕ → List ℕ → List ℕ
retire_words node origin number = decimal node ++ (32 ∷ (origin ++ (32 ∷ number)))

abbrev pub take_words : ℕ → List ℕ → List ℕ → ℕ → List ℕ
take_words node origin number len = decimal node ++ (32 ∷ (origin ++ (32 ∷ (number ++ (32 ∷ decimal len)))))

-- two numbers
abbrev pub pair_words : ℕ → ℕ → List ℕ
pair_words first second = decimal first ++ (32 ∷ decimal second)

-- the header line, without its line feed
abbrev pub line_of : Form → List ℕ
line_of (DeclareForm len) = 84 ∷ 32 ∷ decimal len
line_of (TakeForm node origin number len) = 83 ∷ 32 ∷ take_words node origin number len
line_of (RetireForm node origin number) = 82 ∷ 32 ∷ retire_words node origin number
line_of (FloorForm node origin number) = 85 ∷ 32 ∷ retire_words node origin number
line_of (ListForm node) = 76 ∷ 32 ∷ decimal node
line_of (AskForm node len) = 81 ∷ 32 ∷ pair_words node len
line_of (FeedForm node len) = 70 ∷ 32 ∷ pair_words node len
line_of (PutForm node slot) = 80 ∷ 32 ∷ pair_words node slot
line_of (GetForm slot node) = 71 ∷ 32 ∷ pair_words slot node

pub record IsNode (node : ℕ) : Type 0 where
  pub low : 0 < node
  pub high : node ≤ node_count

pub record IsSlot (slot : ℕ) : Type 0 where
  pub low : 0 < slot
  pub high : slot ≤ slot_count

-- the length of a body has 32 bits
pub record IsLength (len : ℕ) : Type 0 where
  pub fits : len < 2 ^ 32

-- the length of a piece is within its limit
pub record IsPieceLength (len : ℕ) : Type 0 where
  pub fits : len ≤ longest_piece

abbrev pub IsForm : Form → Type 0
IsForm (DeclareForm len) = IsLength len
IsForm (TakeForm node origin number len) = IsNode node × IsWord origin × IsWord number × IsLength len
IsForm (RetireForm node origin number) = IsNode node × IsWord origin × IsWord number
IsForm (FloorForm node origin number) = IsNode node × IsWord origin × IsWord number
IsForm (ListForm node) = IsNode node
IsForm (AskForm node len) = IsNode node × IsLength len
IsForm (FeedForm node len) = IsNode node × IsPieceLength len
IsForm (PutForm node slot) = IsNode node × IsSlot slot
IsForm (GetForm slot node) = IsSlot slot × IsNode node

abbrev pub form_of : Command → Form
form_of (Declare bytes) = DeclareForm (length bytes)
form_of (Take node origin number bytes) = TakeForm node origin number (length bytes)
form_of (Retire node origin number) = RetireForm node origin number
form_of (RetireTo node origin number) = FloorForm node origin number
form_of (Listing node) = ListForm node
form_of (Ask node text) = AskForm node (length text)
form_of (Feed node piece) = FeedForm node (length piece)
form_of (Put node slot) = PutForm node slot
form_of (Get slot node) = GetForm slot node

-- what stands behind the header line
abbrev pub behind : Command → List ℕ
behind (Declare bytes) = bytes ++ 10 ∷ []
behind (Take node origin number bytes) = bytes ++ 10 ∷ []
behind (Retire node origin number) = []
behind (RetireTo node origin number) = []
behind (Listing node) = []
behind (Ask node text) = text ++ 10 ∷ []
behind (Feed node piece) = piece ++ 10 ∷ []
behind (Put node slot) = []
behind (Get slot node) = []

abbrev pub spell : Command → List ℕ
spell c = line_of (form_of c) ++ (10 ∷ behind c)

-- the declaration stands first, and once
abbrev pub IsAllowed : Bool → Command → Type 0
IsAllowed declared (Declare bytes) = declared ≡ false
IsAllowed declared (Take node origin number bytes) = declared ≡ true
IsAllowed declared (Retire node origin number) = declared ≡ true
IsAllowed declared (RetireTo node origin number) = declared ≡ true
IsAllowed declared (Listing node) = declared ≡ true
IsAllowed declared (Ask node text) = declared ≡ true
IsAllowed declared (Feed node piece) = declared ≡ true
IsAllowed declared (Put node slot) = declared ≡ true
IsAllowed declared (Get slot node) = declared ≡ true

-- a command that may stand next, its header line within its limit
pub record IsCommand (declared : Bool) (c : Command) : Type 0 where
  pub form : IsForm (form_of c)
  pub short : length (line_of (form_of c)) ≤ longest_line
  pub allowed : IsAllowed declared c

-- the bytes are not at their end, and do not begin with a command
pub record IsMalformed (declared : Bool) (bytes : List ℕ) : Type 0 where
  pub more : bytes ≢ []
  pub none : (c : Command) (rest : List ℕ) → IsCommand declared c → bytes ≢ spell c ++ rest

-- the words spell a name
abbrev pub AreName : List ℕ → List ℕ → Type 0
AreName origin number = (name : NameParts) × ReadsName origin number (Ok name)

-- a declaration within its limit
abbrev pub IsShortDeclaration : Command → Type 0
IsShortDeclaration (Declare bytes) = length bytes ≤ longest_text
IsShortDeclaration (Take node origin number bytes) = ⊥
IsShortDeclaration (Retire node origin number) = ⊥
IsShortDeclaration (RetireTo node origin number) = ⊥
IsShortDeclaration (Listing node) = ⊥
IsShortDeclaration (Ask node text) = ⊥
IsShortDeclaration (Feed node piece) = ⊥
IsShortDeclaration (Put node slot) = ⊥
IsShortDeclaration (Get slot node) = ⊥
