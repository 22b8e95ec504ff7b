-- What is told that a crash may leave under a path is what the model allows.
use Rattle.std.proofs.Common.{◌≡◌, ◌∙◌, ◌<◌, ◌++◌, ℕ, zero, suc, Bool, true, false, cond, List, [], ◌∷◌}
use Rattle.std.proofs.Common.{Option, None, Some, inl, inr, refl, sym, subst, arith, get_or, length, map, take}
use Rattle.std.specs.Prelude.{reverse, slice_get}
use Rattle.std.proofs.lemmas.List.{reverse-append}
use Rattle.std.specs.List.{AllByRecursion, flat_map, range_with_len}
use Rattle.wfolder.specs.Memory.{AreKnown, File, IsEntry, Leading, as_disk, may_lead, no_file, saved_of}
use Rattle.wfolder.specs.Memory.{states_at, states_if, states_of, states_under}
use Rattle.wfolder.specs.Model.{IsAmong, IsLeft, MayHold}

all_append : {A : Type 0} (P : A → Type 0) (xs ys : List A) → AllByRecursion P xs → AllByRecursion P ys → AllByRecursion P (xs ++ ys)
all_append P [] ys all more = more
all_append P (x ∷ xs) ys all more = (all.0, all_append P xs ys all.1 more)

all_weaker : {A : Type 0} (P Q : A → Type 0) (xs : List A) → ((x : A) → P x → Q x) → AllByRecursion P xs → AllByRecursion Q xs
all_weaker P Q [] f all = tt
all_weaker P Q (x ∷ xs) f all = (f x all.0, all_weaker P Q xs f all.1)

-- what a crash may leave of a file of which this is saved
abbrev MayLeave : Option (List ℕ) → Option (List ℕ) → Type 0
MayLeave saved None = ⊥
MayLeave saved (Some bytes) = IsLeft saved bytes

beginnings : (bytes : List ℕ) (ns : List ℕ) → AllByRecursion (MayLeave None) (map (λ n. Some (take n bytes)) ns)
beginnings bytes [] = tt
beginnings bytes (n ∷ ns) = (tt, beginnings bytes ns)

states_left : (bytes : List ℕ) (b : Bool) → AllByRecursion (MayLeave (cond b (Some bytes) None))
    (cond b [] (map (λ n. Some (take n bytes)) (range_with_len 0 (length bytes))) ++ Some bytes ∷ [])
states_left bytes true = (refl, tt)
states_left bytes false = all_append (MayLeave None) (map (λ n. Some (take n bytes)) (range_with_len 0 (length bytes))) (Some bytes ∷ [])
    (beginnings bytes (range_with_len 0 (length bytes))) (tt, tt)

got : (fs : List File) (n : ℕ) → n < length fs → slice_get fs n ≡ Some (get_or fs n no_file)
got [] n lt = absurd (omega arith)
got (f ∷ fs) zero lt = refl
got (f ∷ fs) (suc n) lt = got fs n (omega arith)

states_allowed : (es : List Leading) (fs : List File) (path : List ℕ) (file : Option ℕ) → AreKnown (length fs) es
    → IsAmong file (may_lead path es) → AllByRecursion (MayHold (as_disk es fs) path) (states_at fs file)
states_allowed es fs path None known among = (record { file = None; among = among; leaves = refl }, tt)
states_allowed es fs path (Some n) known among =
    subst (λ (f : Option File). AllByRecursion (MayHold (as_disk es fs) path) (states_if f)) (sym (got fs n (known path n among)))
    (all_weaker (MayLeave (saved_of (get_or fs n no_file))) (MayHold (as_disk es fs) path) (states_of (get_or fs n no_file)) holds
    (states_left (get_or fs n no_file).bytes (get_or fs n no_file).synced))
  where
    holds : (held : Option (List ℕ)) → MayLeave (saved_of (get_or fs n no_file)) held → MayHold (as_disk es fs) path held
    holds None h = absurd h
    holds (Some bytes) h = record { file = Some n; among = among; leaves = h }

-- each of a list of files
all_told : (P : Option (List ℕ) → Type 0) (fs : List File) (files : List (Option ℕ))
    → ((file : Option ℕ) → IsAmong file files → AllByRecursion P (states_at fs file)) → AllByRecursion P (flat_map (states_at fs) files)
all_told P fs [] each = tt
all_told P fs (file ∷ files) each = all_append P (states_at fs file) (flat_map (states_at fs) files) (each file (inl refl))
    (all_told P fs files (λ other among. each other (inr among)))

among_left : (x : Option ℕ) (xs ys : List (Option ℕ)) → IsAmong x xs → IsAmong x (xs ++ ys)
among_left x [] ys among = absurd among
among_left x (y ∷ xs) ys (inl e) = inl e
among_left x (y ∷ xs) ys (inr more) = inr (among_left x xs ys more)

among_right : (x : Option ℕ) (xs ys : List (Option ℕ)) → IsAmong x ys → IsAmong x (xs ++ ys)
among_right x [] ys among = among
among_right x (y ∷ xs) ys among = inr (among_right x xs ys among)

among_reverse : (x : Option ℕ) (xs : List (Option ℕ)) → IsAmong x xs → IsAmong x (reverse xs)
among_reverse x [] among = absurd among
among_reverse x (y ∷ xs) among = subst (λ (ys : List (Option ℕ)). IsAmong x ys) (sym (reverse-append (y ∷ []) xs))
    (by among (among_reverse x xs))
  where
    by : IsAmong x (y ∷ xs) → (IsAmong x xs → IsAmong x (reverse xs)) → IsAmong x (reverse xs ++ y ∷ [])
    by (inl e) rest = among_right x (reverse xs) (y ∷ []) (inl e)
    by (inr more) rest = among_left x (reverse xs) (y ∷ []) (rest more)

-- all that is told of an entry of the disk
pub allowed : (es : List Leading) (fs : List File) (e : Leading) → AreKnown (length fs) es → IsEntry es e
    → AllByRecursion (MayHold (as_disk es fs) e.path) (states_under fs e)
allowed es fs e known is = all_told (MayHold (as_disk es fs) e.path) fs (e.earlier ++ e.file ∷ [])
    (λ file among. states_allowed es fs e.path file known (subst (λ (xs : List (Option ℕ)). IsAmong file xs)
    (reverse-append e.earlier (e.file ∷ []) ∙ sym is) (among_reverse file (e.earlier ++ e.file ∷ []) among)))
