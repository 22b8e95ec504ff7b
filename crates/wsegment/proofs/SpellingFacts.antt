-- Names, columns and tables: what is spelled is spelled in one way.
use Rattle.std.proofs.Common.{◌≡◌, ◌∙◌, ◌<◌, ◌≤◌, ◌++◌, ◌==◌, ◌&&◌, ◌||◌, inl, inr, Bool, true, false, not, ℕ, List}
use Rattle.std.proofs.Common.{[], ◌∷◌, codes, drop, take, length, refl, sym, ap, arith, append_assoc, one-add, ◌-◌}
use Rattle.std.proofs.lemmas.Bool.{cases_Bool}
use Rattle.std.proofs.lemmas.Bool.Decides.{nat_tests}
use Rattle.std.proofs.lemmas.List.{append-nil, append_cancel_left, drop_at, length-append, take_all, take_at}
use Rattle.std.proofs.lemmas.Str.{IsUtf8-from_ascii}
use Rattle.std.proofs.lemmas.Str.Ascii.{IsAscii-cons, IsAscii-nil}
use Rattle.std.specs.List.{AllByRecursion, flat_map, list_all, list_any, prefix_len}
use Rattle.std.specs.Str.{IsAscii, IsUtf8, bytes_eq}
use Rattle.std.specs.Prelude.{nat_le, nat_lt, slice_index, slice_index_or}
use Rattle.std.specs.Char.{is_ascii_digit}
use Rattle.wsegment.specs.Declaration.{Declaration, Described, column_text, is_name, is_name_byte, kind_text, table_text}
use Rattle.wsegment.specs.Spelling.{Spells, HasName, repeats_name}
use Rattle.wsegment.specs.declared.kind.Kind.{Kind}
use Rattle.wsegment.specs.declared.kind.Kind.TheVariants as kinds

-- the bytes of a name at the front
abbrev pub word : List ℕ → ℕ
word bs = prefix_len is_name_byte bs

all-four : (a b c d : Bool) → (a && b && c && d) ≡ true → (a ≡ true) × (d ≡ true)
all-four true true true true e = (refl, refl)
all-four true true true false e = cc e
all-four true true false d e = cc e
all-four true false c d e = cc e
all-four false b c d e = cc e

pub name-bytes : (bs : List ℕ) → is_name bs ≡ true → list_all is_name_byte bs ≡ true
name-bytes bs e = (all-four (nat_lt 0 (length bs)) (nat_le (length bs) 63) (not (is_ascii_digit (slice_index bs 0)))
    (list_all is_name_byte bs) e).1

pub name-some : (bs : List ℕ) → is_name bs ≡ true → 0 < length bs
name-some bs e =
    let h = (all-four (nat_lt 0 (length bs)) (nat_le (length bs) 63) (not (is_ascii_digit (slice_index bs 0)))
    (list_all is_name_byte bs) e).0 in
    grind (arith, nat_tests)

both : (a b : Bool) → (a && b) ≡ true → (a ≡ true) × (b ≡ true)
both true true e = (refl, refl)
both true false e = cc e
both false b e = cc e

word-front : (name rest : List ℕ) → list_all is_name_byte name ≡ true → word rest ≡ 0 → word (name ++ rest) ≡ length name
word-front [] rest all none = none
word-front (b ∷ bs) rest all none =
    let h = both (is_name_byte b) (list_all is_name_byte bs) all in
    rw h.0 (let r = word-front bs rest h.1 none in omega (arith, r))

-- a name and what stands behind it
pub word-split : (bytes name rest : List ℕ) → is_name name ≡ true → word rest ≡ 0 → bytes ≡ name ++ rest
    → (take (word bytes) bytes ≡ name) × (drop (word bytes) bytes ≡ rest)
word-split bytes name rest named none e =
    let n : length name ≡ word (name ++ rest) = sym (word-front name rest (name-bytes name named) none) in
    rw e (take_at name rest (word (name ++ rest)) n, drop_at name rest (word (name ++ rest)) n)

pub word-unique : (a b x y : List ℕ) → is_name a ≡ true → is_name b ≡ true → word x ≡ 0 → word y ≡ 0 → a ++ x ≡ b ++ y → (a ≡ b) × (x ≡ y)
word-unique a b x y na nb nx ny e =
    let p = word-split (a ++ x) a x na nx refl in
    let q = word-split (a ++ x) b y nb ny e in
    (sym p.0 ∙ q.0, sym p.1 ∙ q.1)

pub word-le : (bs : List ℕ) → word bs ≤ length bs
word-le [] = omega arith
word-le (b ∷ bs) = elim (cases_Bool (is_name_byte b)) [
  | inl is ↦ rw is (let r = word-le bs in omega (arith, r))
  | inr other ↦ rw other (omega arith)
]

pub word-rest : (bs : List ℕ) → word (drop (word bs) bs) ≡ 0
word-rest [] = refl
word-rest (b ∷ bs) = elim (cases_Bool (is_name_byte b)) [
  | inl is ↦ rw (is, one-add (word bs)) (word-rest bs)
  | inr other ↦ rw (other, other) refl
]

byte-ascii : (b : ℕ) → is_name_byte b ≡ true → b < 128
byte-ascii b e = grind (arith, nat_tests)

name-ascii : (bs : List ℕ) → list_all is_name_byte bs ≡ true → IsAscii bs
name-ascii [] e = IsAscii-nil
name-ascii (b ∷ bs) e = let h = both (is_name_byte b) (list_all is_name_byte bs) e in
    IsAscii-cons b bs (byte-ascii b h.0) (name-ascii bs h.1)

pub name-utf8 : (bs : List ℕ) → is_name bs ≡ true → IsUtf8 bs
name-utf8 bs e = IsUtf8-from_ascii bs (name-ascii bs (name-bytes bs e))

pub kind-none : (kind : Kind) (rest : List ℕ) → word (kind_text kind ++ rest) ≡ 0
kind-none kinds.Integer rest = refl
kind-none kinds.Text rest = refl

kind-unique : (k l : Kind) (x y : List ℕ) → kind_text k ++ x ≡ kind_text l ++ y → (k ≡ l) × (x ≡ y)
kind-unique kinds.Integer kinds.Integer x y e = (refl, append_cancel_left (codes " integer\n") x y e)
kind-unique kinds.Text kinds.Text x y e = (refl, append_cancel_left (codes " text\n") x y e)
kind-unique kinds.Integer kinds.Text x y e = let h : ◌≡◌ {A = ℕ} 105 116 = ap (λ (s : List ℕ). slice_index s 1) e in absurd (omega arith)
kind-unique kinds.Text kinds.Integer x y e = let h : ◌≡◌ {A = ℕ} 116 105 = ap (λ (s : List ℕ). slice_index s 1) e in absurd (omega arith)

-- no column's spelling begins another's
pub column-unique : (c d : Described) (x y : List ℕ) → HasName c → HasName d → column_text c ++ x ≡ column_text d ++ y → (c ≡ d) × (x ≡ y)
column-unique c d x y nc nd e =
    let f : c.name ++ (kind_text c.kind ++ x) ≡ d.name ++ (kind_text d.kind ++ y) =
    sym (append_assoc c.name (kind_text c.kind) x) ∙ e ∙ append_assoc d.name (kind_text d.kind) y in
    let w = word-unique c.name d.name (kind_text c.kind ++ x) (kind_text d.kind ++ y) nc nd (kind-none c.kind x) (kind-none d.kind y) f in
    let k = kind-unique c.kind d.kind x y w.1 in
    (described c d w.0 k.0, k.1)
  where
    described : (c d : Described) → c.name ≡ d.name → c.kind ≡ d.kind → c ≡ d
    described c d n k =
        let make : List ℕ → Kind → Described = λ n k. record { name = n; kind = k } in
        ap (λ (n : List ℕ). make n c.kind) n ∙ ap (λ (k : Kind). make d.name k) k

-- where columns begin others' spelling, these are those and more
pub columns-begin : (cs ds : List Described) (rest : List ℕ) → AllByRecursion HasName cs → AllByRecursion HasName ds
    → flat_map column_text cs ++ rest ≡ flat_map column_text ds
    → (more : List Described) × (ds ≡ cs ++ more) × (rest ≡ flat_map column_text more) × AllByRecursion HasName more
columns-begin [] ds rest ncs nds e = (ds, refl, e, nds)
columns-begin (c ∷ cs) [] rest ncs nds e =
    let some = name-some c.name ncs.0 in
    absurd (omega (arith, some, simp length-append at (ap length e)))
columns-begin (c ∷ cs) (d ∷ ds) rest ncs nds e =
    let f = sym (append_assoc (column_text c) (flat_map column_text cs) rest) ∙ e in
    let u = column-unique c d (flat_map column_text cs ++ rest) (flat_map column_text ds) ncs.0 nds.0 f in
    let m = columns-begin cs ds rest ncs.1 nds.1 u.1 in
    (m.0, ap (λ (x : Described). x ∷ ds) (sym u.0) ∙ ap (λ (t : List Described). c ∷ t) m.1, m.2, m.3)

-- a name, by its parts
pub name-is : (bs : List ℕ) (r : Bool) → false ≡ (length bs == 0) → length bs ≤ 63 → is_ascii_digit (slice_index bs 0)
    ≡ false → r ≡ list_all is_name_byte bs → r ≡ is_name bs
name-is bs r some few letter e =
    let lt : nat_lt 0 (length bs) ≡ true = grind (arith, nat_tests) in
    let le : nat_le (length bs) 63 ≡ true = grind (arith, nat_tests) in
    rw (lt, le, letter) e

-- where the rest is no column and is not empty, the bytes are no columns
pub columns-stop : (done : List Described) (bytes rest : List ℕ) → AllByRecursion HasName done
    → bytes ≡ flat_map column_text done ++ rest → false ≡ (length rest == 0)
    → ((column : Described) (after : List ℕ) → HasName column → rest ≡ column_text column ++ after → ⊥)
    → (columns : List Described) → AllByRecursion HasName columns → bytes ≡ flat_map column_text columns → ⊥
columns-stop done bytes rest named text some none columns all e =
    let m = columns-begin done columns rest named all (sym text ∙ e) in
    by m.0 m.2 m.3
  where
    by : (more : List Described) → rest ≡ flat_map column_text more → AllByRecursion HasName more → ⊥
    by [] e named = let z : length rest ≡ 0 = ap length e in let t : false ≡ (0 == 0) = some ∙ ap (λ n. n == 0) z in cc t
    by (c ∷ more) e named = none c (flat_map column_text more) named.0 e

pub repeats-first : (columns : List Described) (first : Described) (rest : List Described) → 1 ≤ length columns
    → first ≡ slice_index_or columns 0 first → rest ≡ take (length columns - 1) (drop 1 columns)
    → repeats_name columns ≡ (list_any (λ other. bytes_eq other.name first.name) rest || repeats_name rest)
repeats-first [] first rest some e same = absurd (omega arith)
repeats-first (c ∷ cs) first rest some e same =
    let all : rest ≡ cs = same ∙ take_all (length (c ∷ cs) - 1) cs (omega arith) in
    rw (all, e) refl

-- no table's line begins another's
pub table-unique : (t u x y : List ℕ) → is_name t ≡ true → is_name u ≡ true → table_text t ++ x ≡ table_text u ++ y → (t ≡ u) × (x ≡ y)
table-unique t u x y nt nu e =
    let f = append_cancel_left (codes "table ") ((t ++ codes "\n") ++ x) ((u ++ codes "\n") ++ y) e in
    let w = word-unique t u (codes "\n" ++ x) (codes "\n" ++ y) nt nu refl refl (sym (append_assoc t (codes "\n") x) ∙ f
    ∙ append_assoc u (codes "\n") y) in
    (w.0, append_cancel_left (codes "\n") x y w.1)

-- bytes spell one declaration
pub spells-one : (d e : Declaration) (bytes : List ℕ) → Spells d bytes → Spells e bytes → d ≡ e
spells-one d e bytes s t =
    let u = table-unique d.table e.table (flat_map column_text d.columns) (flat_map column_text e.columns) s.table t.table
    (sym s.text ∙ t.text) in
    let m = columns-begin d.columns e.columns [] s.columns t.columns (append-nil (flat_map column_text d.columns) ∙ u.1) in
    let done = by m.0 m.2 m.3 in
    let cs : e.columns ≡ d.columns = m.1 ∙ ap (λ (more : List Described). d.columns ++ more) done ∙ append-nil d.columns in
    let make : List ℕ → List Described → Declaration = λ n cs. record { table = n; columns = cs } in
    ap (λ (n : List ℕ). make n d.columns) u.0 ∙ ap (λ (cs : List Described). make e.table cs) (sym cs)
  where
    by : (more : List Described) → ◌≡◌ {A = List ℕ} [] (flat_map column_text more) → AllByRecursion HasName more → more ≡ []
    by [] e named = refl
    by (c ∷ more) e named = let some = name-some c.name named.0 in absurd (omega (arith, some, simp length-append at (ap length e)))
