-- From what was found behind a header line to commands.
use Rattle.std.proofs.Common.{◌≡◌, ◌≢◌, ℕ, ◌<◌, ◌≤◌, nat_le, Bool, true, false, List, [], Option}
use Rattle.std.proofs.Common.{None, Some, IfSome, Ok, Err, Vec, Global, refl, subst, sym, ◌∙◌}
use Rattle.std.proofs.lemmas.Bool.{leb-true, leb-false}
use Rattle.std.specs.Io.KnownBytes.{Consumes}
use Rattle.wvalues.specs.Names.{NameParts}
use Rattle.wvalues.specs.declared.name.NameFault.{NameFault}
use Rattle.wlines.specs.Reads.{HasNoBody}
use Rattle.wscript.specs.Commands.{IsShortDeclaration, longest_segment, longest_text}
use Rattle.wscript.specs.Requests.{BehindReads, FoundBehind, IsBadBehind, IsCommandOf, KeepsBody, body_length, follows_declaration}
use Rattle.wscript.specs.declared.header_lines.Header.{Header}
use Rattle.wscript.specs.declared.header_lines.Header.TheVariants as headers
use Rattle.wscript.specs.declared.request.Command.TheVariants as commands
use Rattle.wscript.specs.declared.request.Found.{Found}
use Rattle.wscript.specs.declared.request.Found.TheVariants as found
use Rattle.wscript.specs.declared.request.Order.TheVariants as orders
use Rattle.wscript.specs.declared.request.Refusal.TheVariants as refusals
use Rattle.wscript.specs.declared.request.Request.TheVariants as requests
use Rattle.wscript.proofs.Behind.{declared_behind, segment_behind, query_behind, piece_behind, retired_behind, floored_behind}
use Rattle.wscript.proofs.Behind.{listed_behind, put_behind, get_behind, no_declaration, no_segment, no_query, no_piece, no_order}

-- a body of the header's length
sized : (len n : ℕ) → Some len ≡ Some n → n ≡ len
sized len n e = cc

short : (len limit n : ℕ) → Some len ≡ Some n → nat_le len limit ≡ true → n ≤ limit
short len limit n e k = subst (λ m. m ≤ limit) (sym (sized len n e)) (leb-true len limit k)

long : (len limit n : ℕ) → Some len ≡ Some n → nat_le len limit ≡ false → limit < n
long len limit n e k = subst (λ m. limit < m) (sym (sized len n e)) (leb-false len limit k)

none_some : {n : ℕ} → None ≡ Some n → ⊥
none_some e = cc

always : (a : Option (List ℕ)) (P : List ℕ → Type 0) → ((xs : List ℕ) → P xs) → IfSome a P
always None P f = tt
always (Some xs) P f = f xs

module _ (old new : Option (List ℕ)) where
  pub declaration_kept : (len : ℕ) (kept : Vec ℕ Global) → FoundBehind (headers.Declare len) (Some (found.Kept kept)) old
      new → BehindReads (requests.Whole (commands.Declare kept)) (headers.Declare len) false old new
  declaration_kept len kept h = declared_behind (IsCommandOf (commands.Declare kept)) old new len kept.items
      (refl, short len longest_text _ h.0 h.1) h.2 (sized len _ h.0)

  pub declaration_dropped : (len : ℕ) → FoundBehind (headers.Declare len) (Some found.Dropped) old new
      → BehindReads (requests.Whole (commands.Refused refusals.LongDeclaration)) (headers.Declare len) false old new
  declaration_dropped len h = declared_behind (IsCommandOf (commands.Refused refusals.LongDeclaration)) old new len h.bytes
      (long len longest_text _ h.passed.0 h.passed.1) h.passed.2 (sized len _ h.passed.0)

  pub declaration_lacking : (len : ℕ) → FoundBehind (headers.Declare len) (Some found.NoMemory) old new
      → BehindReads requests.NoRoom (headers.Declare len) false old new
  declaration_lacking len h = declared_behind IsShortDeclaration old new len h.bytes (short len longest_text _ h.passed.0
      h.passed.1) h.passed.2 (sized len _ h.passed.0)

  pub segment_kept : (node : ℕ) (name : NameParts) (len : ℕ) (kept : Vec ℕ Global)
      → FoundBehind (headers.Take node (Ok name) len) (Some (found.Kept kept)) old new
      → BehindReads (requests.Whole (commands.At node (orders.Take name kept))) (headers.Take node (Ok name) len) true old new
  segment_kept node name len kept h = segment_behind (IsCommandOf (commands.At node (orders.Take name kept))) old new node
      (Ok name) len kept.items (λ o m named. (refl, named, refl, short len longest_segment _ h.0 h.1)) h.2 (sized len _ h.0)

  pub segment_dropped : (node : ℕ) (name : NameParts) (len : ℕ)
      → FoundBehind (headers.Take node (Ok name) len) (Some found.Dropped) old new
      → BehindReads (requests.Whole (commands.Refused refusals.LongSegment)) (headers.Take node (Ok name) len) true old new
  segment_dropped node name len h = segment_behind (IsCommandOf (commands.Refused refusals.LongSegment)) old new node
      (Ok name) len h.bytes (λ o m named. (name, named, long len longest_segment _ h.passed.0 h.passed.1)) h.passed.2
      (sized len _ h.passed.0)

  pub segment_lacking : (node : ℕ) (name : NameParts) (len : ℕ)
      → FoundBehind (headers.Take node (Ok name) len) (Some found.NoMemory) old new
      → BehindReads requests.NoMemory (headers.Take node (Ok name) len) true old new
  segment_lacking node name len h = segment_behind KeepsBody old new node (Ok name) len h.bytes
      (λ o m named. ((name, named), short len longest_segment _ h.passed.0 h.passed.1)) h.passed.2 (sized len _ h.passed.0)

  pub nameless_dropped : (node : ℕ) (fault : NameFault) (len : ℕ)
      → FoundBehind (headers.Take node (Err fault) len) (Some found.Dropped) old new
      → BehindReads (requests.Whole (commands.Refused (refusals.BadName fault))) (headers.Take node (Err fault) len) true old new
  nameless_dropped node fault len h = segment_behind (IsCommandOf (commands.Refused (refusals.BadName fault))) old new node
      (Err fault) len h.bytes (λ o m named. named) h.passed.2 (sized len _ h.passed.0)

  pub query_kept : (node len : ℕ) (kept : Vec ℕ Global) → FoundBehind (headers.Ask node len) (Some (found.Kept kept)) old
      new → BehindReads (requests.Whole (commands.At node (orders.Ask kept))) (headers.Ask node len) true old new
  query_kept node len kept h = query_behind (IsCommandOf (commands.At node (orders.Ask kept))) old new node len kept.items
      (refl, refl, short len longest_text _ h.0 h.1) h.2 (sized len _ h.0)

  pub query_dropped : (node len : ℕ) → FoundBehind (headers.Ask node len) (Some found.Dropped) old new
      → BehindReads (requests.Whole (commands.Refused refusals.LongQuery)) (headers.Ask node len) true old new
  query_dropped node len h = query_behind (IsCommandOf (commands.Refused refusals.LongQuery)) old new node len h.bytes
      (long len longest_text _ h.passed.0 h.passed.1) h.passed.2 (sized len _ h.passed.0)

  pub query_lacking : (node len : ℕ) → FoundBehind (headers.Ask node len) (Some found.NoMemory) old new
      → BehindReads requests.NoMemory (headers.Ask node len) true old new
  query_lacking node len h = query_behind KeepsBody old new node len h.bytes (short len longest_text _ h.passed.0
      h.passed.1) h.passed.2 (sized len _ h.passed.0)

  pub piece_kept : (node len : ℕ) (kept : Vec ℕ Global) → FoundBehind (headers.Feed node len) (Some (found.Kept kept)) old
      new → BehindReads (requests.Whole (commands.Feed node kept)) (headers.Feed node len) true old new
  piece_kept node len kept h = piece_behind (IsCommandOf (commands.Feed node kept)) old new node len kept.items (refl, refl)
      h.2 (sized len _ h.0)

  pub piece_lacking : (node len : ℕ) → FoundBehind (headers.Feed node len) (Some found.NoMemory) old new
      → BehindReads requests.NoMemory (headers.Feed node len) true old new
  piece_lacking node len h = piece_behind KeepsBody old new node len h.bytes tt h.passed.2 (sized len _ h.passed.0)

  -- nothing stands behind a header without a body
  pub bare : (h : Header) (f : Found) → body_length h ≡ None → FoundBehind h (Some f) old new → Consumes old new []
  bare h found.Nothing e g = g.1
  bare h (found.Kept kept) e g = absurd (none_some (sym e ∙ g.0))
  bare h found.Dropped e g = absurd (none_some (sym e ∙ g.passed.0))
  bare h found.NoMemory e g = absurd (none_some (sym e ∙ g.passed.0))

  pub retirement_found : (node : ℕ) (name : NameParts) → Consumes old new []
      → BehindReads (requests.Whole (commands.At node (orders.Retire name))) (headers.Retire node (Ok name)) true old new
  retirement_found node name k = retired_behind (IsCommandOf (commands.At node (orders.Retire name))) old new node (Ok name)
      (λ o m named. (refl, named)) k

  pub nameless_found : (node : ℕ) (fault : NameFault) → Consumes old new []
      → BehindReads (requests.Whole (commands.Refused (refusals.BadName fault))) (headers.Retire node (Err fault)) true old new
  nameless_found node fault k = retired_behind (IsCommandOf (commands.Refused (refusals.BadName fault))) old new node
      (Err fault) (λ o m named. named) k

  pub floor_found : (node : ℕ) (name : NameParts) → Consumes old new []
      → BehindReads (requests.Whole (commands.At node (orders.RetireTo name))) (headers.RetireTo node (Ok name)) true old new
  floor_found node name k = floored_behind (IsCommandOf (commands.At node (orders.RetireTo name))) old new node (Ok name)
      (λ o m named. (refl, named)) k

  pub nameless_floor : (node : ℕ) (fault : NameFault) → Consumes old new []
      → BehindReads (requests.Whole (commands.Refused (refusals.BadName fault))) (headers.RetireTo node (Err fault)) true old new
  nameless_floor node fault k = floored_behind (IsCommandOf (commands.Refused (refusals.BadName fault))) old new node
      (Err fault) (λ o m named. named) k

  pub listing_found : (node : ℕ) (f : Found) → FoundBehind (headers.List node) (Some f) old new
      → BehindReads (requests.Whole (commands.At node orders.List)) (headers.List node) true old new
  listing_found node f h = listed_behind (IsCommandOf (commands.At node orders.List)) old new node refl (bare (headers.List node) f refl h)

  pub put_found : (node slot : ℕ) (f : Found) → FoundBehind (headers.Put node slot) (Some f) old new
      → BehindReads (requests.Whole (commands.At node (orders.Put slot))) (headers.Put node slot) true old new
  put_found node slot f h = put_behind (IsCommandOf (commands.At node (orders.Put slot))) old new node slot (refl, refl)
      (bare (headers.Put node slot) f refl h)

  pub get_found : (slot node : ℕ) (f : Found) → FoundBehind (headers.Get slot node) (Some f) old new
      → BehindReads (requests.Whole (commands.At node (orders.Get slot))) (headers.Get slot node) true old new
  get_found slot node f h = get_behind (IsCommandOf (commands.At node (orders.Get slot))) old new slot node (refl, refl)
      (bare (headers.Get slot node) f refl h)

  -- no body stands behind a header that has one
  pub nothing_found : (h : Header) (d : Bool) → FoundBehind h None old new → IfSome old (λ xs. IsBadBehind h d xs)
  nothing_found (headers.Declare len) d g = no_declaration len d old (subst (λ n. IfSome old (λ xs. HasNoBody n xs)) (sized len _ g.1) g.2)
  nothing_found (headers.Take node name len) d g =
      no_segment node name len d old (subst (λ n. IfSome old (λ xs. HasNoBody n xs)) (sized len _ g.1) g.2)
  nothing_found (headers.Ask node len) d g = no_query node len d old (subst (λ n. IfSome old (λ xs. HasNoBody n xs)) (sized len _ g.1) g.2)
  nothing_found (headers.Feed node len) d g = no_piece node len d old (subst (λ n. IfSome old (λ xs. HasNoBody n xs)) (sized len _ g.1) g.2)
  nothing_found (headers.Retire node name) d g = absurd (none_some g.1)
  nothing_found (headers.RetireTo node name) d g = absurd (none_some g.1)
  nothing_found (headers.List node) d g = absurd (none_some g.1)
  nothing_found (headers.Put node slot) d g = absurd (none_some g.1)
  nothing_found (headers.Get slot node) d g = absurd (none_some g.1)

  -- a declaration behind one, or another command before it
  pub out_of_order : (h : Header) (d : Bool) → follows_declaration h ≢ d → IfSome old (λ xs. IsBadBehind h d xs)
  out_of_order h d ne = always old (λ xs. IsBadBehind h d xs) (λ xs. no_order h d xs ne)
