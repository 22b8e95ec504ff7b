-- From header lines, and what stands behind them, to commands.
use Rattle.std.proofs.Common.{◌≡◌, ◌≢◌, ℕ, ◌≤◌, Bool, List, [], ◌∷◌, ◌++◌, length, Option, None}
use Rattle.std.proofs.Common.{Some, IfSome, refl, sym, ap, ◌∙◌, subst, arith, append_assoc}
use Rattle.std.specs.Fmt.{decimal}
use Rattle.std.specs.Io.KnownBytes.{Consumes}
use Rattle.std.proofs.KnownBytes.{Consumes-trans}
use Rattle.wlines.specs.Words.{Lacks}
use Rattle.wlines.specs.Reads.{HasNoLine}
use Rattle.wscript.specs.Commands.{Form, DeclareForm, TakeForm, RetireForm, FloorForm, ListForm, AskForm}
use Rattle.wscript.specs.Commands.{FeedForm, PutForm, GetForm, IsForm, IsNode, IsSlot, Command, IsMalformed}
use Rattle.wscript.specs.Commands.{IsShortDeclaration, line_of, form_of, behind, longest_line, spell}
use Rattle.wscript.specs.Headers.{IsHeaderOf}
use Rattle.wscript.specs.Requests.{IsCommandOf, IsBadBehind, KeepsBody, Behind, BehindReads, ReadsCommand, RequestReads}
use Rattle.wscript.specs.declared.header_lines.Header.{Header}
use Rattle.wscript.specs.declared.request.Request.{Request}
use Rattle.wscript.specs.declared.request.Request.TheVariants as requests
use Rattle.wlines.proofs.Decimals.{no_feed}

-- ---- header lines

Lacks-append : (c : ℕ) (xs ys : List ℕ) → Lacks c xs → Lacks c ys → Lacks c (xs ++ ys)
Lacks-append c [] ys k l = l
Lacks-append c (x ∷ xs) ys k l = (k.0, Lacks-append c xs ys k.1 l)

-- a word, a space, and what follows
spaced : (word rest : List ℕ) → Lacks 10 word → Lacks 10 rest → Lacks 10 (word ++ (32 ∷ rest))
spaced word rest k l = Lacks-append 10 word (32 ∷ rest) k (λ e. omega (arith, e), l)

begun : (letter : ℕ) (rest : List ℕ) → letter ≢ 10 → Lacks 10 rest → Lacks 10 (letter ∷ 32 ∷ rest)
begun letter rest ne k = (ne, ((λ e. omega (arith, e)), k))

node_lacks : (n : ℕ) → IsNode n → Lacks 10 (decimal n)
node_lacks n h = no_feed n (omega (arith, h.high))

slot_lacks : (n : ℕ) → IsSlot n → Lacks 10 (decimal n)
slot_lacks n h = no_feed n (omega (arith, h.high))

-- a header line has no line feed in it
pub line_lacks : (f : Form) → IsForm f → Lacks 10 (line_of f)
line_lacks (DeclareForm len) h = begun 84 _ (λ e. omega (arith, e)) (no_feed len h.fits)
line_lacks (TakeForm node origin number len) h =
    begun 83 _ (λ e. omega (arith, e)) (spaced (decimal node) _ (node_lacks node h.0)
    (spaced origin _ h.1.no_lf (spaced number _ h.2.no_lf (no_feed len h.3.fits))))
line_lacks (RetireForm node origin number) h =
    begun 82 _ (λ e. omega (arith, e)) (spaced (decimal node) _ (node_lacks node h.0) (spaced origin _ h.1.no_lf h.2.no_lf))
line_lacks (FloorForm node origin number) h =
    begun 85 _ (λ e. omega (arith, e)) (spaced (decimal node) _ (node_lacks node h.0) (spaced origin _ h.1.no_lf h.2.no_lf))
line_lacks (ListForm node) h = begun 76 _ (λ e. omega (arith, e)) (node_lacks node h)
line_lacks (AskForm node len) h = begun 81 _ (λ e. omega (arith, e)) (spaced (decimal node) _ (node_lacks node h.0) (no_feed len h.1.fits))
line_lacks (FeedForm node len) h = begun 70 _ (λ e. omega (arith, e)) (spaced (decimal node) _ (node_lacks node h.0)
    (no_feed len (omega (arith, h.1.fits))))
line_lacks (PutForm node slot) h = begun 80 _ (λ e. omega (arith, e)) (spaced (decimal node) _ (node_lacks node h.0) (slot_lacks slot h.1))
line_lacks (GetForm slot node) h = begun 71 _ (λ e. omega (arith, e)) (spaced (decimal slot) _ (slot_lacks slot h.0) (node_lacks node h.1))

-- there is one way to cut at the first such byte
cut_once : (c : ℕ) (a a' b b' : List ℕ) → Lacks c a → Lacks c a' → a ++ (c ∷ b) ≡ a' ++ (c ∷ b') → (a ≡ a') × (b ≡ b')
cut_once c [] [] b b' l l' e = (refl, cc)
cut_once c [] (y ∷ ys) b b' l l' e = absurd (l'.0 cc)
cut_once c (x ∷ xs) [] b b' l l' e = absurd (l.0 cc)
cut_once c (x ∷ xs) (y ∷ ys) b b' l l' e =
    let rest = cut_once c xs ys b b' l.1 l'.1 cc in
    (cc, rest.1)

-- ---- whole commands

-- a whole command, from its line and what stands behind it
pub whole_command : (d : Bool) (P : Command → Type 0) (old mid new : Option (List ℕ)) (line : List ℕ) (h : Header)
    (f : Form) → IsHeaderOf h f → IsForm f → line ≡ line_of f → length line ≤ longest_line
    → Consumes old mid (line ++ 10 ∷ []) → Behind h d P mid new → ReadsCommand d P old new
whole_command d P old mid new line h f is form line_is short k b =
    let found = b f is in
    let c = found.0 in
    let line_of_c : line ≡ line_of (form_of c) = line_is ∙ ap line_of (sym found.1) in
    let spelled : (line ++ 10 ∷ []) ++ behind c ≡ spell c = append_assoc line (10 ∷ []) (behind c)
    ∙ ap (λ l. l ++ (10 ∷ behind c)) line_of_c in (
      c,
      found.2,
      record { form = subst IsForm (sym found.1) form; short = subst (λ l. length l ≤ longest_line) line_of_c short; allowed = found.3 },
      subst (Consumes old new) spelled (Consumes-trans old mid new (line ++ 10 ∷ []) (behind c) k found.4),
    )

-- ---- malformed commands

some_weaker : (a : Option (List ℕ)) (P Q : List ℕ → Type 0) → IfSome a P → ((xs : List ℕ) → P xs → Q xs) → IfSome a Q
some_weaker None P Q p f = tt
some_weaker (Some xs) P Q p f = f xs p

-- what holds of what is left, and so of all that there was
pub lift_front : (a b : Option (List ℕ)) (bs : List ℕ) (P Q : List ℕ → Type 0) → Consumes a b bs → IfSome b P
    → ((ys : List ℕ) → P ys → Q (bs ++ ys)) → IfSome a Q
lift_front None b bs P Q k p f = tt
lift_front (Some xs) None bs P Q k p f = absurd k
lift_front (Some xs) (Some ys) bs P Q k p f = subst Q (sym k) (f ys p)

-- what holds of the bytes that were read, whatever is left, holds of all that there was
pub front_of : (a b : Option (List ℕ)) (bs : List ℕ) (P : List ℕ → Type 0) → Consumes a b bs
    → ((rest : List ℕ) → P (bs ++ rest)) → IfSome a P
front_of None b bs P k h = tt
front_of (Some xs) None bs P k h = absurd k
front_of (Some xs) (Some ys) bs P k h = subst P (sym k) (h ys)

-- a line is read in one way
line_cut : (line ys : List ℕ) (c : Command) (more : List ℕ) → Lacks 10 line → IsForm (form_of c)
    → (line ++ 10 ∷ []) ++ ys ≡ spell c ++ more → (line ≡ line_of (form_of c)) × (ys ≡ behind c ++ more)
line_cut line ys c more lacks form e =
    cut_once 10 line (line_of (form_of c)) ys (behind c ++ more) lacks (line_lacks (form_of c) form)
    (sym (append_assoc line (10 ∷ []) ys) ∙ e ∙ append_assoc (line_of (form_of c)) (10 ∷ behind c) more)

not_nothing : (line ys : List ℕ) → (line ++ 10 ∷ []) ++ ys ≢ []
not_nothing [] ys e = cc
not_nothing (x ∷ xs) ys e = cc

pub bad_line : (d : Bool) (old : Option (List ℕ)) → IfSome old (λ xs. (xs ≢ []) × HasNoLine xs) → IfSome old (λ xs. IsMalformed d xs)
bad_line d old h = some_weaker old (λ xs. (xs ≢ []) × HasNoLine xs) (λ xs. IsMalformed d xs) h
    (λ xs p. record {
      more = p.0;
      none = λ c rest is e. p.1 (line_of (form_of c)) (behind c ++ rest)
          (line_lacks (form_of c) is.form) is.short (e ∙ append_assoc (line_of (form_of c)) (10 ∷ behind c) rest);
    })

pub bad_header : (d : Bool) (old mid : Option (List ℕ)) (line : List ℕ) → Consumes old mid (line ++ 10 ∷ []) → Lacks 10 line
    → ((f : Form) → IsForm f → line ≡ line_of f → ⊥) → IfSome old (λ xs. IsMalformed d xs)
bad_header d old mid line k lacks none =
    front_of old mid (line ++ 10 ∷ []) (λ xs. IsMalformed d xs) k
    (λ ys. record {
      more = not_nothing line ys;
      none =
          λ c more is e. none (form_of c) is.form (line_cut line ys c more lacks is.form e).0;
    })

bad_behind : (d : Bool) (old mid : Option (List ℕ)) (line : List ℕ) (h : Header) → Consumes old mid (line ++ 10 ∷ [])
    → Lacks 10 line → ((f : Form) → IsForm f → line ≡ line_of f → IsHeaderOf h f) → IfSome mid (λ ys. IsBadBehind h d ys)
    → IfSome old (λ xs. IsMalformed d xs)
bad_behind d old mid line h k lacks only bad =
    lift_front old mid (line ++ 10 ∷ []) (λ ys. IsBadBehind h d ys) (λ xs. IsMalformed d xs) k bad
    (λ ys b. record {
      more = not_nothing line ys;
      none = λ c more is e.
          let cut = line_cut line ys c more lacks is.form e in
          b c more (only (form_of c) is.form cut.0) is.allowed cut.1;
    })

-- what was read behind a header, and so with its line
pub request_reads : (r : Request) (d : Bool) (old mid new : Option (List ℕ)) (line : List ℕ) (h : Header) (f : Form)
    → IsHeaderOf h f → IsForm f → line ≡ line_of f → length line ≤ longest_line → Lacks 10 line
    → Consumes old mid (line ++ 10 ∷ []) → ((f : Form) → IsForm f → line ≡ line_of f → IsHeaderOf h f)
    → BehindReads r h d mid new → RequestReads r d old new
request_reads (requests.Whole command) d old mid new line h f is form line_is short lacks k only b =
    whole_command d (IsCommandOf command) old mid new line h f is form line_is short k b
request_reads requests.NoMemory d old mid new line h f is form line_is short lacks k only b =
    whole_command d KeepsBody old mid new line h f is form line_is short k b
request_reads requests.NoRoom d old mid new line h f is form line_is short lacks k only b =
    whole_command d IsShortDeclaration old mid new line h f is form line_is short k b
request_reads requests.Closed d old mid new line h f is form line_is short lacks k only b = absurd b
request_reads requests.Malformed d old mid new line h f is form line_is short lacks k only b = bad_behind d old mid line h k lacks only b
