-- From lines and bodies to commands.
use Rattle.std.proofs.Common.{◌≡◌, ◌≢◌, ℕ, Bool, true, false, List, [], ◌∷◌, ◌++◌, length, Option}
use Rattle.std.proofs.Common.{None, Some, IfSome, Result, refl, sym, ap, ◌∙◌, append_assoc}
use Rattle.std.specs.Io.KnownBytes.{Consumes}
use Rattle.wvalues.specs.Names.{NameParts}
use Rattle.wvalues.specs.NameReading.{ReadsName}
use Rattle.wvalues.specs.declared.name.NameFault.{NameFault}
use Rattle.wlines.specs.Reads.{HasNoBody}
use Rattle.wscript.specs.Commands.{DeclareForm, TakeForm, RetireForm, FloorForm, ListForm, AskForm, FeedForm, PutForm}
use Rattle.wscript.specs.Commands.{GetForm, Command, Declare, Take, Retire, RetireTo, Listing, Ask, Feed, Put, Get}
use Rattle.wscript.specs.Requests.{IsBadBehind, Behind, follows_declaration}
use Rattle.wscript.specs.declared.header_lines.Header.{Header}
use Rattle.wscript.specs.declared.header_lines.Header.TheVariants as headers

-- ---- a body that is not there

some_weaker : (a : Option (List ℕ)) (P Q : List ℕ → Type 0) → IfSome a P → ((xs : List ℕ) → P xs → Q xs) → IfSome a Q
some_weaker None P Q p f = tt
some_weaker (Some xs) P Q p f = f xs p

declare_bad : (len : ℕ) (d : Bool) (xs : List ℕ) → HasNoBody len xs → IsBadBehind (headers.Declare len) d xs
declare_bad len d xs none (Declare s) rest h a e = none s rest h (e ∙ append_assoc s (10 ∷ []) rest)
declare_bad len d xs none (Take n o m b) rest h a e = h
declare_bad len d xs none (Retire n o m) rest h a e = h
declare_bad len d xs none (RetireTo n o m) rest h a e = h
declare_bad len d xs none (Listing n) rest h a e = h
declare_bad len d xs none (Ask n t) rest h a e = h
declare_bad len d xs none (Feed n p) rest h a e = h
declare_bad len d xs none (Put n k) rest h a e = h
declare_bad len d xs none (Get k n) rest h a e = h

take_bad : (node : ℕ) (name : Result NameParts NameFault) (len : ℕ) (d : Bool) (xs : List ℕ) → HasNoBody len xs
    → IsBadBehind (headers.Take node name len) d xs
take_bad node name len d xs none (Declare s) rest h a e = h
take_bad node name len d xs none (Take n o m b) rest h a e = none b rest h.2 (e ∙ append_assoc b (10 ∷ []) rest)
take_bad node name len d xs none (Retire n o m) rest h a e = h
take_bad node name len d xs none (RetireTo n o m) rest h a e = h
take_bad node name len d xs none (Listing n) rest h a e = h
take_bad node name len d xs none (Ask n t) rest h a e = h
take_bad node name len d xs none (Feed n p) rest h a e = h
take_bad node name len d xs none (Put n k) rest h a e = h
take_bad node name len d xs none (Get k n) rest h a e = h

ask_bad : (node len : ℕ) (d : Bool) (xs : List ℕ) → HasNoBody len xs → IsBadBehind (headers.Ask node len) d xs
ask_bad node len d xs none (Declare s) rest h a e = h
ask_bad node len d xs none (Take n o m b) rest h a e = h
ask_bad node len d xs none (Retire n o m) rest h a e = h
ask_bad node len d xs none (RetireTo n o m) rest h a e = h
ask_bad node len d xs none (Listing n) rest h a e = h
ask_bad node len d xs none (Ask n t) rest h a e = none t rest h.1 (e ∙ append_assoc t (10 ∷ []) rest)
ask_bad node len d xs none (Feed n p) rest h a e = h
ask_bad node len d xs none (Put n k) rest h a e = h
ask_bad node len d xs none (Get k n) rest h a e = h

feed_bad : (node len : ℕ) (d : Bool) (xs : List ℕ) → HasNoBody len xs → IsBadBehind (headers.Feed node len) d xs
feed_bad node len d xs none (Declare s) rest h a e = h
feed_bad node len d xs none (Take n o m b) rest h a e = h
feed_bad node len d xs none (Retire n o m) rest h a e = h
feed_bad node len d xs none (RetireTo n o m) rest h a e = h
feed_bad node len d xs none (Listing n) rest h a e = h
feed_bad node len d xs none (Ask n t) rest h a e = h
feed_bad node len d xs none (Feed n p) rest h a e = none p rest h.1 (e ∙ append_assoc p (10 ∷ []) rest)
feed_bad node len d xs none (Put n k) rest h a e = h
feed_bad node len d xs none (Get k n) rest h a e = h

pub no_piece : (node len : ℕ) (d : Bool) (old : Option (List ℕ)) → IfSome old (λ xs. HasNoBody len xs)
    → IfSome old (λ xs. IsBadBehind (headers.Feed node len) d xs)
no_piece node len d old h = some_weaker old (λ xs. HasNoBody len xs) (λ xs. IsBadBehind (headers.Feed node len) d xs) h
    (λ xs. feed_bad node len d xs)

pub no_declaration : (len : ℕ) (d : Bool) (old : Option (List ℕ)) → IfSome old (λ xs. HasNoBody len xs)
    → IfSome old (λ xs. IsBadBehind (headers.Declare len) d xs)
no_declaration len d old h = some_weaker old (λ xs. HasNoBody len xs) (λ xs. IsBadBehind (headers.Declare len) d xs) h
    (λ xs. declare_bad len d xs)

pub no_segment : (node : ℕ) (name : Result NameParts NameFault) (len : ℕ) (d : Bool) (old : Option (List ℕ))
    → IfSome old (λ xs. HasNoBody len xs) → IfSome old (λ xs. IsBadBehind (headers.Take node name len) d xs)
no_segment node name len d old h = some_weaker old (λ xs. HasNoBody len xs) (λ xs. IsBadBehind (headers.Take node name len)
    d xs) h (λ xs. take_bad node name len d xs)

pub no_query : (node len : ℕ) (d : Bool) (old : Option (List ℕ)) → IfSome old (λ xs. HasNoBody len xs)
    → IfSome old (λ xs. IsBadBehind (headers.Ask node len) d xs)
no_query node len d old h = some_weaker old (λ xs. HasNoBody len xs) (λ xs. IsBadBehind (headers.Ask node len) d xs) h
    (λ xs. ask_bad node len d xs)

-- ---- a header in the wrong place

pub no_order : (h : Header) (d : Bool) (xs : List ℕ) → follows_declaration h ≢ d → IsBadBehind h d xs
no_order (headers.Declare len) d xs ne (Declare s) rest h a e = ne (sym a)
no_order (headers.Declare len) d xs ne (Take n o m b) rest h a e = h
no_order (headers.Declare len) d xs ne (Retire n o m) rest h a e = h
no_order (headers.Declare len) d xs ne (RetireTo n o m) rest h a e = h
no_order (headers.Declare len) d xs ne (Listing n) rest h a e = h
no_order (headers.Declare len) d xs ne (Ask n t) rest h a e = h
no_order (headers.Declare len) d xs ne (Feed n p) rest h a e = h
no_order (headers.Declare len) d xs ne (Put n k) rest h a e = h
no_order (headers.Declare len) d xs ne (Get k n) rest h a e = h
no_order (headers.Take node name len) d xs ne (Declare s) rest h a e = h
no_order (headers.Take node name len) d xs ne (Take n o m b) rest h a e = ne (sym a)
no_order (headers.Take node name len) d xs ne (Retire n o m) rest h a e = h
no_order (headers.Take node name len) d xs ne (RetireTo n o m) rest h a e = h
no_order (headers.Take node name len) d xs ne (Listing n) rest h a e = h
no_order (headers.Take node name len) d xs ne (Ask n t) rest h a e = h
no_order (headers.Take node name len) d xs ne (Feed n p) rest h a e = h
no_order (headers.Take node name len) d xs ne (Put n k) rest h a e = h
no_order (headers.Take node name len) d xs ne (Get k n) rest h a e = h
no_order (headers.Retire node name) d xs ne (Declare s) rest h a e = h
no_order (headers.Retire node name) d xs ne (Take n o m b) rest h a e = h
no_order (headers.Retire node name) d xs ne (Retire n o m) rest h a e = ne (sym a)
no_order (headers.Retire node name) d xs ne (RetireTo n o m) rest h a e = h
no_order (headers.Retire node name) d xs ne (Listing n) rest h a e = h
no_order (headers.Retire node name) d xs ne (Ask n t) rest h a e = h
no_order (headers.Retire node name) d xs ne (Feed n p) rest h a e = h
no_order (headers.Retire node name) d xs ne (Put n k) rest h a e = h
no_order (headers.Retire node name) d xs ne (Get k n) rest h a e = h
no_order (headers.RetireTo node name) d xs ne (Declare s) rest h a e = h
no_order (headers.RetireTo node name) d xs ne (Take n o m b) rest h a e = h
no_order (headers.RetireTo node name) d xs ne (Retire n o m) rest h a e = h
no_order (headers.RetireTo node name) d xs ne (RetireTo n o m) rest h a e = ne (sym a)
no_order (headers.RetireTo node name) d xs ne (Listing n) rest h a e = h
no_order (headers.RetireTo node name) d xs ne (Ask n t) rest h a e = h
no_order (headers.RetireTo node name) d xs ne (Feed n p) rest h a e = h
no_order (headers.RetireTo node name) d xs ne (Put n k) rest h a e = h
no_order (headers.RetireTo node name) d xs ne (Get k n) rest h a e = h
no_order (headers.List node) d xs ne (Declare s) rest h a e = h
no_order (headers.List node) d xs ne (Take n o m b) rest h a e = h
no_order (headers.List node) d xs ne (Retire n o m) rest h a e = h
no_order (headers.List node) d xs ne (RetireTo n o m) rest h a e = h
no_order (headers.List node) d xs ne (Listing n) rest h a e = ne (sym a)
no_order (headers.List node) d xs ne (Ask n t) rest h a e = h
no_order (headers.List node) d xs ne (Feed n p) rest h a e = h
no_order (headers.List node) d xs ne (Put n k) rest h a e = h
no_order (headers.List node) d xs ne (Get k n) rest h a e = h
no_order (headers.Ask node len) d xs ne (Declare s) rest h a e = h
no_order (headers.Ask node len) d xs ne (Take n o m b) rest h a e = h
no_order (headers.Ask node len) d xs ne (Retire n o m) rest h a e = h
no_order (headers.Ask node len) d xs ne (RetireTo n o m) rest h a e = h
no_order (headers.Ask node len) d xs ne (Listing n) rest h a e = h
no_order (headers.Ask node len) d xs ne (Ask n t) rest h a e = ne (sym a)
no_order (headers.Ask node len) d xs ne (Feed n p) rest h a e = h
no_order (headers.Ask node len) d xs ne (Put n k) rest h a e = h
no_order (headers.Ask node len) d xs ne (Get k n) rest h a e = h
no_order (headers.Feed node len) d xs ne (Declare s) rest h a e = h
no_order (headers.Feed node len) d xs ne (Take n o m b) rest h a e = h
no_order (headers.Feed node len) d xs ne (Retire n o m) rest h a e = h
no_order (headers.Feed node len) d xs ne (RetireTo n o m) rest h a e = h
no_order (headers.Feed node len) d xs ne (Listing n) rest h a e = h
no_order (headers.Feed node len) d xs ne (Ask n t) rest h a e = h
no_order (headers.Feed node len) d xs ne (Feed n p) rest h a e = ne (sym a)
no_order (headers.Feed node len) d xs ne (Put n k) rest h a e = h
no_order (headers.Feed node len) d xs ne (Get k n) rest h a e = h
no_order (headers.Put node slot) d xs ne (Declare s) rest h a e = h
no_order (headers.Put node slot) d xs ne (Take n o m b) rest h a e = h
no_order (headers.Put node slot) d xs ne (Retire n o m) rest h a e = h
no_order (headers.Put node slot) d xs ne (RetireTo n o m) rest h a e = h
no_order (headers.Put node slot) d xs ne (Listing n) rest h a e = h
no_order (headers.Put node slot) d xs ne (Ask n t) rest h a e = h
no_order (headers.Put node slot) d xs ne (Feed n p) rest h a e = h
no_order (headers.Put node slot) d xs ne (Put n k) rest h a e = ne (sym a)
no_order (headers.Put node slot) d xs ne (Get k n) rest h a e = h
no_order (headers.Get slot node) d xs ne (Declare s) rest h a e = h
no_order (headers.Get slot node) d xs ne (Take n o m b) rest h a e = h
no_order (headers.Get slot node) d xs ne (Retire n o m) rest h a e = h
no_order (headers.Get slot node) d xs ne (RetireTo n o m) rest h a e = h
no_order (headers.Get slot node) d xs ne (Listing n) rest h a e = h
no_order (headers.Get slot node) d xs ne (Ask n t) rest h a e = h
no_order (headers.Get slot node) d xs ne (Feed n p) rest h a e = h
no_order (headers.Get slot node) d xs ne (Put n k) rest h a e = h
no_order (headers.Get slot node) d xs ne (Get k n) rest h a e = ne (sym a)

-- ---- a body that is there

module _ (P : Command → Type 0) (old new : Option (List ℕ)) where
  pub declared_behind : (len : ℕ) (bytes : List ℕ) → P (Declare bytes) → Consumes old new (bytes ++ 10 ∷ [])
      → length bytes ≡ len → Behind (headers.Declare len) false P old new
  declared_behind len bytes p k size (DeclareForm m) e = (Declare bytes, ap DeclareForm (size ∙ sym e), p, refl, k)
  declared_behind len bytes p k size (TakeForm n o j m) e = absurd e
  declared_behind len bytes p k size (RetireForm n o j) e = absurd e
  declared_behind len bytes p k size (FloorForm n o j) e = absurd e
  declared_behind len bytes p k size (ListForm n) e = absurd e
  declared_behind len bytes p k size (AskForm n m) e = absurd e
  declared_behind len bytes p k size (FeedForm n m) e = absurd e
  declared_behind len bytes p k size (PutForm n m) e = absurd e
  declared_behind len bytes p k size (GetForm m n) e = absurd e

  pub segment_behind : (node : ℕ) (name : Result NameParts NameFault) (len : ℕ) (bytes : List ℕ)
      → ((origin number : List ℕ) → ReadsName origin number name → P (Take node origin number bytes))
      → Consumes old new (bytes ++ 10 ∷ []) → length bytes ≡ len → Behind (headers.Take node name len) true P old new
  segment_behind node name len bytes p k size (DeclareForm m) e = absurd e
  segment_behind node name len bytes p k size (TakeForm n o j m) e = (Take node o j bytes, cc (e.0, e.2, size), p o j e.1, refl, k)
  segment_behind node name len bytes p k size (RetireForm n o j) e = absurd e
  segment_behind node name len bytes p k size (FloorForm n o j) e = absurd e
  segment_behind node name len bytes p k size (ListForm n) e = absurd e
  segment_behind node name len bytes p k size (AskForm n m) e = absurd e
  segment_behind node name len bytes p k size (FeedForm n m) e = absurd e
  segment_behind node name len bytes p k size (PutForm n m) e = absurd e
  segment_behind node name len bytes p k size (GetForm m n) e = absurd e

  pub query_behind : (node len : ℕ) (text : List ℕ) → P (Ask node text) → Consumes old new (text ++ 10 ∷ [])
      → length text ≡ len → Behind (headers.Ask node len) true P old new
  query_behind node len text p k size (DeclareForm m) e = absurd e
  query_behind node len text p k size (TakeForm n o j m) e = absurd e
  query_behind node len text p k size (RetireForm n o j) e = absurd e
  query_behind node len text p k size (FloorForm n o j) e = absurd e
  query_behind node len text p k size (ListForm n) e = absurd e
  query_behind node len text p k size (AskForm n m) e = (Ask node text, cc (e.0, e.1, size), p, refl, k)
  query_behind node len text p k size (FeedForm n m) e = absurd e
  query_behind node len text p k size (PutForm n m) e = absurd e
  query_behind node len text p k size (GetForm m n) e = absurd e

  pub piece_behind : (node len : ℕ) (piece : List ℕ) → P (Feed node piece) → Consumes old new (piece ++ 10 ∷ [])
      → length piece ≡ len → Behind (headers.Feed node len) true P old new
  piece_behind node len piece p k size (DeclareForm m) e = absurd e
  piece_behind node len piece p k size (TakeForm n o j m) e = absurd e
  piece_behind node len piece p k size (RetireForm n o j) e = absurd e
  piece_behind node len piece p k size (FloorForm n o j) e = absurd e
  piece_behind node len piece p k size (ListForm n) e = absurd e
  piece_behind node len piece p k size (AskForm n m) e = absurd e
  piece_behind node len piece p k size (FeedForm n m) e = (Feed node piece, cc (e.0, e.1, size), p, refl, k)
  piece_behind node len piece p k size (PutForm n m) e = absurd e
  piece_behind node len piece p k size (GetForm m n) e = absurd e

  pub retired_behind : (node : ℕ) (name : Result NameParts NameFault)
      → ((origin number : List ℕ) → ReadsName origin number name → P (Retire node origin number)) → Consumes old new []
      → Behind (headers.Retire node name) true P old new
  retired_behind node name p k (DeclareForm m) e = absurd e
  retired_behind node name p k (TakeForm n o j m) e = absurd e
  retired_behind node name p k (RetireForm n o j) e = (Retire node o j, ap (λ n. RetireForm n o j) (sym e.0), p o j e.1, refl, k)
  retired_behind node name p k (FloorForm n o j) e = absurd e
  retired_behind node name p k (ListForm n) e = absurd e
  retired_behind node name p k (AskForm n m) e = absurd e
  retired_behind node name p k (FeedForm n m) e = absurd e
  retired_behind node name p k (PutForm n m) e = absurd e
  retired_behind node name p k (GetForm m n) e = absurd e

  pub floored_behind : (node : ℕ) (name : Result NameParts NameFault)
      → ((origin number : List ℕ) → ReadsName origin number name → P (RetireTo node origin number)) → Consumes old new []
      → Behind (headers.RetireTo node name) true P old new
  floored_behind node name p k (DeclareForm m) e = absurd e
  floored_behind node name p k (TakeForm n o j m) e = absurd e
  floored_behind node name p k (RetireForm n o j) e = absurd e
  floored_behind node name p k (FloorForm n o j) e = (RetireTo node o j, ap (λ n. FloorForm n o j) (sym e.0), p o j e.1, refl, k)
  floored_behind node name p k (ListForm n) e = absurd e
  floored_behind node name p k (AskForm n m) e = absurd e
  floored_behind node name p k (FeedForm n m) e = absurd e
  floored_behind node name p k (PutForm n m) e = absurd e
  floored_behind node name p k (GetForm m n) e = absurd e

  pub listed_behind : (node : ℕ) → P (Listing node) → Consumes old new [] → Behind (headers.List node) true P old new
  listed_behind node p k (DeclareForm m) e = absurd e
  listed_behind node p k (TakeForm n o j m) e = absurd e
  listed_behind node p k (RetireForm n o j) e = absurd e
  listed_behind node p k (FloorForm n o j) e = absurd e
  listed_behind node p k (ListForm n) e = (Listing node, ap ListForm (sym e), p, refl, k)
  listed_behind node p k (AskForm n m) e = absurd e
  listed_behind node p k (FeedForm n m) e = absurd e
  listed_behind node p k (PutForm n m) e = absurd e
  listed_behind node p k (GetForm m n) e = absurd e

  pub put_behind : (node slot : ℕ) → P (Put node slot) → Consumes old new [] → Behind (headers.Put node slot) true P old new
  put_behind node slot p k (DeclareForm m) e = absurd e
  put_behind node slot p k (TakeForm n o j m) e = absurd e
  put_behind node slot p k (RetireForm n o j) e = absurd e
  put_behind node slot p k (FloorForm n o j) e = absurd e
  put_behind node slot p k (ListForm n) e = absurd e
  put_behind node slot p k (AskForm n m) e = absurd e
  put_behind node slot p k (FeedForm n m) e = absurd e
  put_behind node slot p k (PutForm n m) e = (Put node slot, cc (e.0, e.1), p, refl, k)
  put_behind node slot p k (GetForm m n) e = absurd e

  pub get_behind : (slot node : ℕ) → P (Get slot node) → Consumes old new [] → Behind (headers.Get slot node) true P old new
  get_behind slot node p k (DeclareForm m) e = absurd e
  get_behind slot node p k (TakeForm n o j m) e = absurd e
  get_behind slot node p k (RetireForm n o j) e = absurd e
  get_behind slot node p k (FloorForm n o j) e = absurd e
  get_behind slot node p k (ListForm n) e = absurd e
  get_behind slot node p k (AskForm n m) e = absurd e
  get_behind slot node p k (FeedForm n m) e = absurd e
  get_behind slot node p k (PutForm n m) e = absurd e
  get_behind slot node p k (GetForm m n) e = (Get slot node, cc (e.0, e.1), p, refl, k)
