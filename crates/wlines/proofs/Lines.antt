-- What was read, and that it begins with no line or no body.
use Rattle.std.proofs.Common.{Bool, true, false, ◌≡◌, ◌≢◌, ℕ, ◌+◌, ◌<◌, ◌≤◌, List, [], ◌∷◌, ◌++◌, length, Option}
use Rattle.std.proofs.Common.{None, Some, IfSome, refl, sym, ap, ◌∙◌, subst, arith, length-append, nat_eq}
use Rattle.std.specs.Io.KnownBytes.{Keeps, Consumes, IsAtEnd}
use Rattle.std.proofs.KnownBytes.{Consumes-whole, Consumes-kept, Consumes-trans}
use Rattle.std.proofs.lemmas.Bool.{eqb-true, eqb-false}
use Rattle.wlines.specs.Words.{Lacks}
use Rattle.wlines.specs.declared.line.LineEnd.{LineEnd}
use Rattle.wlines.specs.declared.line.LineEnd.TheVariants as ends
use Rattle.wlines.specs.Reads.{LineReads, HasNoLine, HasNoBody, SkipReads, FeedReads, TakesAtMost, TakesNoLine}
use Rattle.wlines.proofs.Cuts.{no_cut}

-- what holds of the bytes that were read, whatever is left, holds of all that there was
pub front_of : (a b : Option (List ℕ)) (bs : List ℕ) (P : List ℕ → Type 0) → Consumes a b bs
    → ((rest : List ℕ) → P (bs ++ rest)) → IfSome a P
front_of None b bs P k h = tt
front_of (Some xs) None bs P k h = absurd k
front_of (Some xs) (Some ys) bs P k h = subst P (sym k) (h ys)

kept_none : (a b : Option (List ℕ)) → Consumes a b [] → Keeps a b
kept_none None b k = k
kept_none (Some xs) None k = k
kept_none (Some xs) (Some ys) k = sym k

closed_line : (a b c : Option (List ℕ)) (line : List ℕ) → Consumes a b line → Keeps b c → IsAtEnd c → Lacks 10 line
    → length line ≤ 200 → line ≢ [] → IfSome a (λ xs. (xs ≢ []) × HasNoLine xs) × TakesNoLine a c
closed_line a b c line k kept end lacks short ne =
    let taken = Consumes-kept a b c line k kept in (
      Consumes-whole a c line (λ xs. (xs ≢ []) × HasNoLine xs) taken end (ne, λ l r lk sh e. no_cut 10 line l r lacks e),
      (line, taken, lacks, omega arith),
    )

pub ended_line : (end : LineEnd) (a b c : Option (List ℕ)) (line : List ℕ) → Consumes a b line → Keeps b c → IsAtEnd c
    → Lacks 10 line → length line ≤ 200 → end ≢ ends.Whole → (end ≡ ends.Closed → line ≡ []) → (end ≡ ends.Malformed → line ≢ []) → LineReads end a c line
ended_line ends.Whole a b c line k kept end lacks short unfed closed malformed = absurd (unfed refl)
ended_line ends.Closed a b c line k kept end lacks short unfed closed malformed =
    (kept_none a c (Consumes-kept a b c [] (subst (Consumes a b) (closed refl) k) kept), end)
ended_line ends.Malformed a b c line k kept end lacks short unfed closed malformed =
    closed_line a b c line k kept end lacks short (malformed refl)

-- a longer front has no such byte
no_early_cut : (c : ℕ) (p more l r : List ℕ) → Lacks c p → length l < length p → p ++ more ≡ l ++ (c ∷ r) → ⊥
no_early_cut c [] more l r k h e = omega arith
no_early_cut c (x ∷ p) more [] r k h e = k.0 cc
no_early_cut c (x ∷ p) more (y ∷ l) r k h e = no_early_cut c p more l r k.1 (omega arith) cc

Lacks-push : (c : ℕ) (xs : List ℕ) (y : ℕ) → Lacks c xs → y ≢ c → Lacks c (xs ++ y ∷ [])
Lacks-push c [] y k n = (n, tt)
Lacks-push c (x ∷ xs) y k n = (k.0, Lacks-push c xs y k.1 n)

push_not_empty : (xs : List ℕ) (y : ℕ) (more : List ℕ) → (xs ++ y ∷ []) ++ more ≢ []
push_not_empty [] y more e = cc
push_not_empty (x ∷ xs) y more e = cc

pub full_line : (a b c : Option (List ℕ)) (line : List ℕ) (byte : ℕ) → Consumes a b line → Consumes b c (byte ∷ [])
    → Lacks 10 line → byte ≢ 10 → length line ≡ 200 → IfSome a (λ xs. (xs ≢ []) × HasNoLine xs) × TakesNoLine a c
full_line a b c line byte k k2 lacks ne full =
    let taken = Consumes-trans a b c line (byte ∷ []) k k2 in
    let none = Lacks-push 10 line byte lacks ne in
    let size = length-append line (byte ∷ []) in (
      front_of a c (line ++ byte ∷ []) (λ xs. (xs ≢ []) × HasNoLine xs) taken
          (λ rest. (
            push_not_empty line byte rest,
            λ l r lk sh e. no_early_cut 10 (line ++ byte ∷ []) rest l r none (omega (arith, size)) e,
          )),
      (line ++ byte ∷ [], taken, none, omega (arith, size)),
    )

pub ended_body : (n : ℕ) (a b c : Option (List ℕ)) (taken : List ℕ) → Consumes a b taken → Keeps b c → IsAtEnd c
    → length taken ≤ n → IfSome a (λ xs. HasNoBody n xs) × TakesAtMost (n + 1) a c
ended_body n a b c taken k kept end short =
    let all = Consumes-kept a b c taken k kept in (
      Consumes-whole a c taken (λ xs. HasNoBody n xs) all end (λ body r len e. omega (arith, ap length e, length-append body (10 ∷ r))),
      (taken, all, omega arith),
    )

-- the input ends inside a body
pub cut_body : (n : ℕ) (a b : Option (List ℕ)) (taken : List ℕ) → Consumes a b taken → IsAtEnd b → length taken < n
    → SkipReads false n a b
cut_body n a b taken k end short = (
  Consumes-whole a b taken (λ xs. HasNoBody n xs) k end (λ body r len e. omega (arith, ap length e, length-append body (10 ∷ r))),
  (taken, k, omega arith),
)

-- a body that has no line feed behind it
no_feed : (taken body rest ys : List ℕ) → length taken ≡ length body → taken ++ ys ≡ body ++ (10 ∷ rest) → ys ≡ 10 ∷ rest
no_feed [] [] rest ys h e = e
no_feed [] (b ∷ body) rest ys h e = absurd (omega arith)
no_feed (a ∷ taken) [] rest ys h e = absurd (omega arith)
no_feed (a ∷ taken) (b ∷ body) rest ys h e = no_feed taken body rest ys (omega arith) cc

no_body : (n : ℕ) (a b : Option (List ℕ)) (taken : List ℕ) → Consumes a b taken → length taken ≡ n
    → IfSome b (λ ys. (rest : List ℕ) → ys ≢ 10 ∷ rest) → IfSome a (λ xs. HasNoBody n xs)
no_body n None b taken k len none = tt
no_body n (Some xs) None taken k len none = absurd k
no_body n (Some xs) (Some ys) taken k len none = λ body rest size e. none rest (no_feed taken body rest ys (len ∙ sym size) (sym k ∙ e))

pub unfed_body : (n : ℕ) (a b c : Option (List ℕ)) (taken : List ℕ) → Consumes a b taken → length taken ≡ n
    → FeedReads false b c → SkipReads false n a c
unfed_body n a b c taken k len feed = (
  no_body n a b taken k len feed.0,
  (
    taken ++ feed.1.0,
    Consumes-trans a b c taken feed.1.0 k feed.1.1,
    omega (arith, length-append taken feed.1.0, len, feed.1.2),
  ),
)

-- no byte stands next
pub no_byte : (a b : Option (List ℕ)) → Keeps a b → IsAtEnd b → FeedReads false a b
no_byte None b k end = (tt, ([], tt, omega arith))
no_byte (Some xs) None k end = absurd k
no_byte (Some xs) (Some ys) k end = (λ rest e. let none : [] ≡ 10 ∷ rest = sym end ∙ k ∙ e in cc, ([], sym k, omega arith))

-- the byte that stands next
pub next_byte : (byte : ℕ) (a b : Option (List ℕ)) → Consumes a b (byte ∷ []) → FeedReads (nat_eq byte 10) a b
next_byte byte a b k = by byte k (nat_eq byte 10) refl
  where
    by : (byte : ℕ) → Consumes a b (byte ∷ []) → (found : Bool) → nat_eq byte 10 ≡ found → FeedReads found a b
    by byte k true e = subst (λ x. Consumes a b (x ∷ [])) (eqb-true byte 10 e) k
    by byte k false e = (
      front_of a b (byte ∷ []) (λ xs. (rest : List ℕ) → xs ≢ 10 ∷ rest) k (λ more rest f. eqb-false byte 10 e cc),
      (byte ∷ [], k, omega arith),
    )

-- what looking for the line feed behind a body told
pub fed_body : (found : Bool) (n : ℕ) (a b c : Option (List ℕ)) (taken : List ℕ) → Consumes a b taken → length taken ≡ n
    → FeedReads found b c → SkipReads found n a c
fed_body true n a b c taken k len feed = (taken, Consumes-trans a b c taken (10 ∷ []) k feed, len)
fed_body false n a b c taken k len feed = unfed_body n a b c taken k len feed

-- ---- one byte more on a line

pub line_lacks : (line new : List ℕ) (byte : ℕ) → new ≡ line ++ byte ∷ [] → Lacks 10 line → byte ≢ 10 → Lacks 10 new
line_lacks line new byte e lacks ne = subst (Lacks 10) (sym e) (Lacks-push 10 line byte lacks ne)

pub line_longer : (line new : List ℕ) (byte : ℕ) → new ≡ line ++ byte ∷ [] → length new ≡ length line + 1
line_longer line new byte e = ap length e ∙ length-append line (byte ∷ [])

pub line_consumed : (a b c : Option (List ℕ)) (line new : List ℕ) (byte : ℕ) → new ≡ line ++ byte ∷ [] → Consumes a b line
    → Consumes b c (byte ∷ []) → Consumes a c new
line_consumed a b c line new byte e k k2 = subst (Consumes a c) (sym e) (Consumes-trans a b c line (byte ∷ []) k k2)

below_full : (n : ℕ) → n ≤ 200 → n ≢ 200 → n + 1 ≤ 200
below_full n h ne = omega arith

pub not_full : (is_full : Bool) (n : ℕ) → is_full ≡ false → (n ≡ 200 → is_full ≡ true) → n ≤ 200 → n + 1 ≤ 200
not_full true n e full h = let w : true ≡ false = e in cc
not_full false n e full h = below_full n h (λ q. let w : false ≡ true = full q in cc)
