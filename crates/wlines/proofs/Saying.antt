-- What was said, in full or in part.
use Rattle.std.proofs.Common.{◌≡◌, ℕ, List, [], ◌++◌, Option, take, length, OnOk, OnErr, Result}
use Rattle.std.proofs.Common.{Ok, Err, refl, sym, ap, ◌∙◌, subst, append_assoc, append-nil}
use lib.Seq.{take-append_seam}
use Rattle.std.specs.Io.KnownBytes.{Appends}
use Rattle.std.proofs.KnownBytes.{Appends-nil, Appends-trans}
use Rattle.wvalues.specs.Counts.{Counts}
use Rattle.wlines.specs.Failing.{Leaves}
use Rattle.wlines.specs.Sent.{Block, Sent, Waiting, Says, sent}
use Rattle.wlines.specs.declared.fault.ReadFault.{ReadFault}

pub says_nothing : (a : Sent) → Says a a []
says_nothing a = record { written = []; appends = Appends-nil a.contents; whole = sym (append-nil a.waiting) }

pub says_more : (a b c : Sent) (first second : List ℕ) → Says a b first → Says b c second → Says a c (first ++ second)
says_more a b c first second p q = record {
  written = p.written ++ q.written;
  appends = Appends-trans a.contents b.contents c.contents p.written q.written p.appends q.appends;
  whole = append_assoc p.written q.written c.waiting ∙ ap (λ l. p.written ++ l) q.whole
      ∙ sym (append_assoc p.written b.waiting second) ∙ ap (λ l. l ++ second) p.whole ∙ append_assoc a.waiting first second;
}

-- before the text, nothing was said
pub says_behind : (a b c : Sent) (text : List ℕ) → Says a b [] → Says b c text → Says a c text
says_behind a b c text p q = says_more a b c [] text p q

pub says_still : (a b c : Sent) → Says a b [] → Says b c [] → Says a c []
says_still a b c p q = says_more a b c [] [] p q

-- one call behind another
pub leaves_still : {A B R W : Type 0} (contents : W → Option (List ℕ)) (first : Result A ReadFault)
    (second : Result B ReadFault) (a b c : Waiting) (x y z : Counts W) (s t : Block) (i j : Counts R)
    → Leaves contents first a x s i b y → Leaves contents second b y t j c z → Leaves contents second a x t j c z
leaves_still contents first second a b c x y z s t i j p q = record {
  says = says_still (sent contents a x) (sent contents b y) (sent contents c z) p.says q.says;
  owed = q.owed ∙ p.owed;
  ready = q.ready;
  fault = q.fault;
}

-- nothing is a front of any text
pub says_front : (a b : Sent) (text : List ℕ) → Says a b [] → (n : ℕ) × Says a b (take n text)
says_front a b text p = (0, p)

-- a text that waits was said
pub says_waiting : (a b : Sent) (text : List ℕ) → b.contents ≡ a.contents → b.waiting ≡ a.waiting ++ text → Says a b text
says_waiting a b text same all = record {
  written = [];
  appends =
      subst (λ x. Appends a.contents x []) (sym same) (Appends-nil a.contents);
  whole = all;
}

-- a text that was written where nothing waited was said
pub says_written : (a b : Sent) (text : List ℕ) → a.waiting ≡ [] → b.waiting ≡ a.waiting
    → Appends a.contents b.contents text → Says a b text
says_written a b text none same k = record {
  written = text;
  appends = k;
  whole = ap (λ l. text ++ l) (same ∙ none)
      ∙ append-nil text ∙ sym (ap (λ l. l ++ text) none);
}

pub on_ok_then : {A E : Type 0} (r : Result A E) (P Q : Type 0) → (P → Q) → OnOk r P → OnOk r Q
on_ok_then (Ok x) P Q f p = f p
on_ok_then (Err e) P Q f p = tt

pub on_err_then : {A E : Type 0} (r : Result A E) (P Q : Type 0) → (P → Q) → OnErr r P → OnErr r Q
on_err_then (Ok x) P Q f p = tt
on_err_then (Err e) P Q f p = f p

-- behind the text, nothing was said
pub says_ended : (a b c : Sent) (text : List ℕ) → Says a b text → Says b c [] → Says a c text
says_ended a b c text p q = subst (Says a c) (append-nil text) (says_more a b c text [] p q)

-- all that was said was written, where nothing waited before and nothing waits now
pub says_all : (a b : Sent) (text : List ℕ) → a.waiting ≡ [] → b.waiting ≡ [] → Says a b text → Appends a.contents b.contents text
says_all a b text none all k = subst (Appends a.contents b.contents) (sym (append-nil k.written) ∙ ap (λ l. k.written ++ l)
    (sym all) ∙ k.whole ∙ ap (λ l. l ++ text) none) k.appends

-- a front of what was said was written, where nothing waited before
pub says_begun : (a b : Sent) (text : List ℕ) → a.waiting ≡ [] → Says a b text → (n : ℕ) × Appends a.contents b.contents (take n text)
says_begun a b text none k = (
  length k.written,
  subst (Appends a.contents b.contents)
      (sym (take-append_seam k.written b.waiting) ∙ ap (take (length k.written)) (k.whole ∙ ap (λ l. l ++ text) none)) k.appends,
)
