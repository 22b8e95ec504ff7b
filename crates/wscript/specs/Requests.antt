-- What a request of the code stands for, and what was read where it was: old was left before it and new after it.
use Rattle.std.specs.Prelude.{◌≡◌, ◌≢◌, ⊤, ℕ, ◌<◌, ◌≤◌, nat_le, Bool, true, false, List, []}
use Rattle.std.specs.Prelude.{◌∷◌, ◌++◌, length, Option, Some, None, IfSome, Ok, Err}
use Rattle.std.specs.Io.KnownBytes.{Keeps, Consumes, IsAtEnd}
use Rattle.wvalues.specs.Names.{NameParts}
use Rattle.wvalues.specs.NameReading.{ReadsName}
use Rattle.wlines.specs.Reads.{HasNoBody}
use Rattle.wscript.specs.Commands.{Form, Command, Declare, Take, Retire, RetireTo, Listing, Ask, Feed, Put, Get, AreName, IsAllowed}
use Rattle.wscript.specs.Commands.{IsCommand, IsShortDeclaration, IsMalformed, form_of, behind, longest_segment, longest_text, spell}
use Rattle.wscript.specs.Headers.{IsHeaderOf}
use Rattle.wscript.specs.declared.header_lines.Header.{Header}
use Rattle.wscript.specs.declared.header_lines.Header.TheVariants as headers
use Rattle.wscript.specs.declared.request.Command as code
use Rattle.wscript.specs.declared.request.Command.TheVariants as commands
use Rattle.wscript.specs.declared.request.Found.{Found}
use Rattle.wscript.specs.declared.request.Found.TheVariants as bodies
use Rattle.wscript.specs.declared.request.Order.{Order}
use Rattle.wscript.specs.declared.request.Order.TheVariants as orders
use Rattle.wscript.specs.declared.request.Refusal.{Refusal}
use Rattle.wscript.specs.declared.request.Refusal.TheVariants as refusals
use Rattle.wscript.specs.declared.request.Request.{Request}
use Rattle.wscript.specs.declared.request.Request.TheVariants as requests

-- the form of the command is why it is refused: its body is too long, or its words spell no name
abbrev pub IsRefusedAs : Refusal → Command → Type 0
IsRefusedAs refusals.LongDeclaration (Declare bytes) = longest_text < length bytes
IsRefusedAs (refusals.BadName fault) (Take node origin number bytes) = ReadsName origin number (Err fault)
IsRefusedAs (refusals.BadName fault) (Retire node origin number) = ReadsName origin number (Err fault)
IsRefusedAs (refusals.BadName fault) (RetireTo node origin number) = ReadsName origin number (Err fault)
IsRefusedAs refusals.LongSegment (Take node origin number bytes) = (name : NameParts) × ReadsName origin number (Ok name)
    × (longest_segment < length bytes)
IsRefusedAs refusals.LongQuery (Ask node text) = longest_text < length text
IsRefusedAs _ _ = ⊥

-- a node is told, asked, put or gets this; its body is within its limit
abbrev pub IsOrderAt : ℕ → Order → Command → Type 0
IsOrderAt n (orders.Take name kept) (Take node origin number bytes) = (node ≡ n) × ReadsName origin number (Ok name)
    × (bytes ≡ kept.items) × (length bytes ≤ longest_segment)
IsOrderAt n (orders.Retire name) (Retire node origin number) = (node ≡ n) × ReadsName origin number (Ok name)
IsOrderAt n (orders.RetireTo name) (RetireTo node origin number) = (node ≡ n) × ReadsName origin number (Ok name)
IsOrderAt n orders.List (Listing node) = node ≡ n
IsOrderAt n (orders.Ask kept) (Ask node text) = (node ≡ n) × (text ≡ kept.items) × (length text ≤ longest_text)
IsOrderAt n (orders.Put k) (Put node slot) = (node ≡ n) × (slot ≡ k)
IsOrderAt n (orders.Get k) (Get slot node) = (slot ≡ k) × (node ≡ n)
IsOrderAt _ _ _ = ⊥

-- a node is fed this piece
abbrev pub IsFeedOf : ℕ → List ℕ → Command → Type 0
IsFeedOf n bytes (Feed node piece) = (node ≡ n) × (piece ≡ bytes)
IsFeedOf n bytes c = ⊥

-- the code's command is this one
abbrev pub IsCommandOf : code.Command → Command → Type 0
IsCommandOf (commands.Declare kept) (Declare bytes) = (bytes ≡ kept.items) × (length bytes ≤ longest_text)
IsCommandOf (commands.Refused refusal) c = IsRefusedAs refusal c
IsCommandOf (commands.At n order) c = IsOrderAt n order c
IsCommandOf (commands.Feed n kept) c = IsFeedOf n kept.items c
IsCommandOf _ _ = ⊥

-- the table is declared before it
abbrev pub follows_declaration : Header → Bool
follows_declaration (headers.Declare len) = false
follows_declaration _ = true

-- the length of the body behind a header
abbrev pub body_length : Header → Option ℕ
body_length (headers.Declare len) = Some len
body_length (headers.Take node name len) = Some len
body_length (headers.Ask node len) = Some len
body_length (headers.Feed node len) = Some len
body_length _ = None

-- the body is kept: it is within its limit, and the words of its name are one
abbrev pub keeps_body : Header → Bool
keeps_body (headers.Declare len) = nat_le len longest_text
keeps_body (headers.Take node (Ok name) len) = nat_le len longest_segment
keeps_body (headers.Ask node len) = nat_le len longest_text
keeps_body (headers.Feed node len) = true
keeps_body _ = false

-- a body of the header's length was consumed, one that is kept or one that is not
abbrev pub HasBody : Header → Bool → List ℕ → Option (List ℕ) → Option (List ℕ) → Type 0
HasBody header kept bytes old new = (body_length header ≡ Some (length bytes)) × (keeps_body header ≡ kept)
    × Consumes old new (bytes ++ 10 ∷ [])

-- such a body was consumed, and nothing of it is left
pub record PassesBody (header : Header) (kept : Bool) (old new : Option (List ℕ)) : Type 0 where
  pub bytes : List ℕ
  pub passed : HasBody header kept bytes old new

-- what was found behind a header: its body, or no body where it has none; or there is no such body
abbrev pub FoundBehind : Header → Option Found → Option (List ℕ) → Option (List ℕ) → Type 0
FoundBehind header (Some bodies.Nothing) old new = (body_length header ≡ None) × Consumes old new []
FoundBehind header (Some (bodies.Kept kept)) old new = HasBody header true kept.items old new
FoundBehind header (Some bodies.Dropped) old new = PassesBody header false old new
FoundBehind header (Some bodies.NoMemory) old new = PassesBody header true old new
FoundBehind header None old new = (n : ℕ) × (body_length header ≡ Some n) × IfSome old (λ xs. HasNoBody n xs)

-- the bytes are not what stands behind this header, for any command
abbrev pub IsBadBehind : Header → Bool → List ℕ → Type 0
IsBadBehind header declared xs = (c : Command) (rest : List ℕ) → IsHeaderOf header (form_of c) → IsAllowed declared c
    → xs ≢ behind c ++ rest

-- the bytes that were consumed stand behind this header, as those of a command with the property P
abbrev pub Behind : Header → Bool → (Command → Type 0) → Option (List ℕ) → Option (List ℕ) → Type 0
Behind header declared P old new = (f : Form) → IsHeaderOf header f → (c : Command) × (form_of c ≡ f) × P c
    × IsAllowed declared c × Consumes old new (behind c)

-- the body of the command, which is no declaration, is kept: it is within its limit, and the words of its name are one
abbrev pub KeepsBody : Command → Type 0
KeepsBody (Declare bytes) = ⊥
KeepsBody (Take node origin number bytes) = AreName origin number × (length bytes ≤ longest_segment)
KeepsBody (Retire node origin number) = ⊥
KeepsBody (RetireTo node origin number) = ⊥
KeepsBody (Listing node) = ⊥
KeepsBody (Ask node text) = length text ≤ longest_text
KeepsBody (Feed node piece) = ⊤
KeepsBody (Put node slot) = ⊥
KeepsBody (Get slot node) = ⊥

-- what was read behind a header
abbrev pub BehindReads : Request → Header → Bool → Option (List ℕ) → Option (List ℕ) → Type 0
BehindReads (requests.Whole command) header declared old new = Behind header declared (IsCommandOf command) old new
BehindReads requests.NoMemory header declared old new = Behind header declared KeepsBody old new
BehindReads requests.NoRoom header declared old new = Behind header declared IsShortDeclaration old new
BehindReads requests.Closed header declared old new = ⊥
BehindReads requests.Malformed header declared old new = IfSome old (λ xs. IsBadBehind header declared xs)

-- a command with the property P was consumed
abbrev pub ReadsCommand : Bool → (Command → Type 0) → Option (List ℕ) → Option (List ℕ) → Type 0
ReadsCommand declared P old new = (c : Command) × P c × IsCommand declared c × Consumes old new (spell c)

-- what was read next
abbrev pub RequestReads : Request → Bool → Option (List ℕ) → Option (List ℕ) → Type 0
RequestReads (requests.Whole command) declared old new = ReadsCommand declared (IsCommandOf command) old new
RequestReads requests.NoMemory declared old new = ReadsCommand declared KeepsBody old new
RequestReads requests.NoRoom declared old new = ReadsCommand declared IsShortDeclaration old new
RequestReads requests.Closed declared old new = Keeps old new × IsAtEnd new
RequestReads requests.Malformed declared old new = IfSome old (λ xs. IsMalformed declared xs)

-- the run goes on behind it
abbrev pub GoesOn : Request → Type 0
GoesOn (requests.Whole command) = Unit {0}
GoesOn requests.NoMemory = Unit {0}
GoesOn requests.NoRoom = ⊥
GoesOn requests.Closed = ⊥
GoesOn requests.Malformed = ⊥
