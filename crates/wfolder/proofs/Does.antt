-- The calls do to the lists of a disk in memory what the model says.
use Rattle.std.proofs.Common.{◌≡◌, ◌≢◌, ◌∙◌, ◌<◌, ◌++◌, ℕ, zero, suc, Bool, true, false, cond, List, [], ◌∷◌, Option, None, Some, Result}
use Rattle.std.proofs.Common.{Ok, Err, OnOk, OnErr, is_ok, inl, inr, refl, sym, ap, subst, arith}
use Rattle.std.proofs.Common.{get_or, length, map, set}
use Rattle.std.specs.Prelude.{is_err, is_some}
use Rattle.std.proofs.lemmas.List.{get_or-map, get_or-set_same, get_or-set_other, length-map, map-append, map-set}
use Rattle.std.specs.Str.{bytes_eq}
use Rattle.wfolder.specs.Call.{Moved, Removed}
use Rattle.wfolder.specs.Disk.{IsAlike}
use Rattle.wfolder.specs.Memory.{AreKnown, File, Leading, appended, as_disk, brought, changed, leads, led, may_lead, no_file, saved_of}
use Rattle.wfolder.specs.Memory.{settled, written_file}
use Rattle.wfolder.specs.Model.{Creates, Does, IsAmong, LeadsTo, Removes, Renames, Syncs, SyncsFolder, Writes}
use Rattle.wfolder.specs.declared.disk.Written.{Written}
use Rattle.wfolder.proofs.Memory.{among_leads, leads_led, leads_other, may_lead_led, may_lead_other}

-- a file behind the others that nobody wrote
padded : (fs : List File) (k : ℕ) → get_or (fs ++ no_file ∷ []) k no_file ≡ get_or fs k no_file
padded [] zero = refl
padded [] (suc k) = refl
padded (f ∷ fs) zero = refl
padded (f ∷ fs) (suc k) = padded fs k

beyond : (fs : List File) → get_or fs (length fs) no_file ≡ no_file
beyond [] = refl
beyond (f ∷ fs) = beyond fs

pub same_but_empty : (es : List Leading) (fs : List File) → IsAlike (as_disk es fs) (as_disk es (fs ++ no_file ∷ []))
same_but_empty es fs = record {
  names = λ name. (refl, refl);
  files = λ file. (ap (λ (f : File). f.bytes) (padded fs file), ap saved_of (padded fs file));
}

pub same_all : (es : List Leading) (fs : List File) → IsAlike (as_disk es fs) (as_disk es fs)
same_all es fs = record { names = λ name. (refl, refl); files = λ file. (refl, refl) }

below : (es : List Leading) (fs : List File) (other : List ℕ) → AreKnown (length fs) es
    → LeadsTo (as_disk es fs) other (length fs) → ⊥
below es fs other known (inl is) = let lt = known other (length fs) (among_leads other es (length fs) is) in omega arith
below es fs other known (inr among) = let lt = known other (length fs) among in omega arith

pub creates : (path : List ℕ) (es : List Leading) (fs : List File) → AreKnown (length fs) es → leads path es ≡ None
    → Creates path (as_disk es fs) (as_disk (led path (Some (length fs)) es) (fs ++ no_file ∷ []))
creates path es fs known free = record {
  file = length fs;
  free = free;
  fresh = λ other to. below es fs other known to;
  entry = leads_led path (Some (length fs)) es;
  left = may_lead_led path (Some (length fs)) es;
  empty = ap (λ (f : File). f.bytes) (padded fs (length fs) ∙ beyond fs);
  names = λ other not_it. (leads_other path other (Some (length fs)) es not_it, may_lead_other path other (Some (length fs)) es not_it);
  files = λ other not_it. (ap (λ (f : File). f.bytes) (padded fs other), ap saved_of (padded fs other));
}

pub writes : (path written : List ℕ) (done : Bool) (es : List Leading) (fs : List File) (number : ℕ) → leads path es ≡ Some number
    → number < length fs
    → Writes path written done (as_disk es fs) (as_disk es (set fs number (appended written done (get_or fs number no_file))))
writes path written done es fs number is lt = record {
  file = number;
  leads = is;
  appends = appends done;
  names = λ other. (refl, refl);
  files = λ other not_it. (
    ap (λ (f : File). f.bytes) (get_or-set_other fs number other _ no_file not_it),
    ap saved_of (get_or-set_other fs number other _ no_file not_it),
  );
}
  where
    appends : (done : Bool) → done ≡ true
        → (get_or (set fs number (appended written done (get_or fs number no_file))) number no_file).bytes
        ≡ (get_or fs number no_file).bytes ++ written
    appends true e = ap (λ (f : File). f.bytes) (get_or-set_same fs number (appended written true (get_or fs number no_file)) no_file lt)
    appends false e = absurd (cc e)

pub syncs : (path : List ℕ) (es : List Leading) (fs : List File) (number : ℕ) → leads path es ≡ Some number → number < length fs
    → Syncs path true (as_disk es fs) (as_disk es (set fs number (brought (get_or fs number no_file))))
syncs path es fs number is lt =
    let here = get_or-set_same fs number (brought (get_or fs number no_file)) no_file lt in
    record {
      file = number;
      leads = is;
      same = ap (λ (f : File). f.bytes) here;
      saved = λ e. ap saved_of here;
      names = λ other. (refl, refl);
      files = λ other not_it. (
        ap (λ (f : File). f.bytes) (get_or-set_other fs number other _ no_file not_it),
        ap saved_of (get_or-set_other fs number other _ no_file not_it),
      );
    }

pub renames : (from to : List ℕ) (es : List Leading) (fs : List File) → from ≢ to
    → Renames from to (as_disk es fs) (as_disk (led from None (led to (leads from es) es)) fs)
renames from to es fs differ =
    let back : to ≢ from = λ e. differ (sym e) in
    let mid = led to (leads from es) es in
    record {
      entry = leads_other from to None mid back ∙ leads_led to (leads from es) es;
      left = may_lead_other from to None mid back ∙ may_lead_led to (leads from es) es;
      none = leads_led from None mid;
      left_none = may_lead_led from None mid ∙ ap (λ fs. None ∷ fs) (may_lead_other to from (leads from es) es differ);
      names = λ other a b. (
        leads_other from other None mid a ∙ leads_other to other (leads from es) es b,
        may_lead_other from other None mid a ∙ may_lead_other to other (leads from es) es b,
      );
      files = λ other. (refl, refl);
    }

pub removes : (path : List ℕ) (es : List Leading) (fs : List File) → Removes path (as_disk es fs) (as_disk (led path None es) fs)
removes path es fs = record {
  entry = leads_led path None es;
  left = may_lead_led path None es;
  names = λ other not_it. (leads_other path other None es not_it, may_lead_other path other None es not_it);
  files = λ file. (refl, refl);
}

leads_settled : (path : List ℕ) (es : List Leading) → leads path (map settled es) ≡ leads path es
leads_settled path [] = refl
leads_settled path (e ∷ es) = ap (λ f. cond (bytes_eq e.path path) e.file f) (leads_settled path es)

pub may_lead_settled : (path : List ℕ) (es : List Leading) → may_lead path (map settled es) ≡ leads path es ∷ []
may_lead_settled path [] = refl
may_lead_settled path (e ∷ es) = by (bytes_eq e.path path) (may_lead_settled path es)
  where
    by : (b : Bool) → may_lead path (map settled es) ≡ leads path es ∷ []
        → cond b (e.file ∷ []) (may_lead path (map settled es)) ≡ cond b e.file (leads path es) ∷ []
    by true more = refl
    by false more = more

pub syncs_folder : (es : List Leading) (fs : List File) → SyncsFolder (as_disk es fs) (as_disk (map settled es) fs)
syncs_folder es fs = record {
  entry = λ path. leads_settled path es;
  left = λ path. may_lead_settled path es;
  files = λ file. (refl, refl);
}

-- among the numbers of a list that was settled are those of the list
pub known_settled : (es : List Leading) (count : ℕ) → AreKnown count es → AreKnown count (map settled es)
known_settled es count known path number among = by (may_lead path (map settled es)) (may_lead_settled path es) among
  where
    by : (fs : List (Option ℕ)) → fs ≡ leads path es ∷ [] → IsAmong (Some number) fs → number < count
    by fs is among = at (subst (λ (gs : List (Option ℕ)). IsAmong (Some number) gs) is among)
      where
        at : IsAmong (Some number) (leads path es ∷ []) → number < count
        at (inl e) = known path number (among_leads path es number (sym e))
        at (inr no_more) = absurd no_more

-- one file of the list that clauses see is changed
file_at : (change : File → File) (ws : List Written) (number : ℕ) (x y : Written) → number < length ws → x ≡ get_or ws number x
    → written_file y ≡ change (written_file x)
    → map written_file (set ws number y) ≡ set (map written_file ws) number (change (get_or (map written_file ws) number no_file))
file_at change ws number x y lt at new =
    map-set written_file ws number y
    ∙ ap (λ (f : File). set (map written_file ws) number f)
    (new ∙ ap (λ (w : Written). change (written_file w)) at ∙ ap change (sym (get_or-map written_file ws number x no_file lt)))

pub changed_at : (change : File → File) (file : Option ℕ) (ws : List Written) (number : ℕ) (x y : Written) → file ≡ Some number
    → number < length ws → x ≡ get_or ws number x → written_file y ≡ change (written_file x)
    → map written_file (set ws number y) ≡ changed file change (map written_file ws)
changed_at change file ws number x y is lt at new = file_at change ws number x y lt at new
    ∙ ap (λ (f : Option ℕ). changed f change (map written_file ws)) (sym is)

pub syncs_at : (path : List ℕ) (es : List Leading) (ws : List Written) (number : ℕ) (x y : Written) → leads path es ≡ Some number
    → number < length ws → x ≡ get_or ws number x → written_file y ≡ brought (written_file x)
    → Syncs path true (as_disk es (map written_file ws)) (as_disk es (map written_file (set ws number y)))
syncs_at path es ws number x y is lt at new =
    subst (λ (fs : List File). Syncs path true (as_disk es (map written_file ws)) (as_disk es fs))
    (sym (file_at brought ws number x y lt at new))
    (syncs path es (map written_file ws) number is (omega (arith, length-map ws written_file)))

pub writes_at : (path written : List ℕ) (done : Bool) (es : List Leading) (ws : List Written) (number : ℕ) (x y : Written)
    → leads path es ≡ Some number → number < length ws → x ≡ get_or ws number x → written_file y ≡ appended written done (written_file x)
    → Writes path written done (as_disk es (map written_file ws)) (as_disk es (map written_file (set ws number y)))
writes_at path written done es ws number x y is lt at new =
    subst (λ (fs : List File). Writes path written done (as_disk es (map written_file ws)) (as_disk es fs))
    (sym (file_at (appended written done) ws number x y lt at new))
    (writes path written done es (map written_file ws) number is (omega (arith, length-map ws written_file)))

-- the same, from what the calls on the paths answered
pub moved_by : {E : Type 0} (q r : Result (Unit {0}) E) (a b : Bool) (from to : List ℕ) (es mid new : List Leading) (fs gs : List File)
    (file : Option ℕ) → file ≡ leads from es → a ≡ is_err q → a ≡ false → b ≡ is_ok r → OnOk q (mid ≡ led to file es)
    → OnOk r (new ≡ led from None mid) → gs ≡ fs → b ≡ true → from ≢ to → Does (Moved from to b) (as_disk es fs) (as_disk new gs)
moved_by (Err e) r a b from to es mid new fs gs file is err no_err ok first then same done differ =
    let t = sym err ∙ no_err in absurd (cc t)
moved_by (Ok t) (Err e) a b from to es mid new fs gs file is err no_err ok first then same done differ =
    let t = sym ok ∙ done in absurd (cc t)
moved_by (Ok t) (Ok u) a false from to es mid new fs gs file is err no_err ok first then same done differ = absurd (cc done)
moved_by (Ok t) (Ok u) a true from to es mid new fs gs file is err no_err ok first then same done differ =
    let all : new ≡ led from None (led to (leads from es) es) =
    then ∙ ap (λ (hs : List Leading). led from None hs) (first ∙ ap (λ (f : Option ℕ). led to f es) is) in
    subst (λ (hs : List Leading). Renames from to (as_disk es fs) (as_disk hs gs)) (sym all)
    (subst (λ (hs : List File). Renames from to (as_disk es fs) (as_disk (led from None (led to (leads from es) es)) hs)) (sym same)
    (renames from to es fs differ))

pub removed_by : {E : Type 0} (r : Result (Unit {0}) E) (b : Bool) (path : List ℕ) (es new : List Leading) (fs gs : List File)
    → b ≡ is_ok r → OnOk r (new ≡ led path None es) → OnErr r (new ≡ es) → gs ≡ fs
    → Does (Removed path b) (as_disk es fs) (as_disk new gs)
removed_by (Ok t) true path es new fs gs is ok err same =
    subst (λ (hs : List Leading). Removes path (as_disk es fs) (as_disk hs gs)) (sym ok)
    (subst (λ (hs : List File). Removes path (as_disk es fs) (as_disk (led path None es) hs)) (sym same) (removes path es fs))
removed_by (Ok t) false path es new fs gs is ok err same = absurd (cc is)
removed_by (Err e) true path es new fs gs is ok err same = absurd (cc is)
removed_by (Err e) false path es new fs gs is ok err same =
    ap (λ (hs : List Leading). as_disk hs gs) err ∙ ap (λ (hs : List File). as_disk es hs) same

pub syncs_folder_at : (es new : List Leading) (fs : List File) → new ≡ map settled es → SyncsFolder (as_disk es fs) (as_disk new fs)
syncs_folder_at es new fs same = subst (λ (gs : List Leading). SyncsFolder (as_disk es fs) (as_disk gs fs)) (sym same) (syncs_folder es fs)

pub none_of : (file : Option ℕ) (b : Bool) → b ≡ is_some file → b ≡ false → file ≡ None
none_of None b is e = refl
none_of (Some n) b is e = let t = sym is ∙ e in absurd (cc t)

pub pushed : (ws gs : List Written) (w : Written) → gs ≡ ws ++ w ∷ [] → written_file w ≡ no_file
    → map written_file gs ≡ map written_file ws ++ no_file ∷ []
pushed ws gs w is new = ap (map written_file) is ∙ map-append written_file ws (w ∷ [])
    ∙ ap (λ (f : File). map written_file ws ++ f ∷ []) new

pub creates_at : (path : List ℕ) (es new : List Leading) (fs gs : List File) (number : ℕ) → AreKnown (length fs) es → leads path es ≡ None
    → number ≡ length fs → new ≡ led path (Some number) es → gs ≡ fs ++ no_file ∷ [] → Creates path (as_disk es fs) (as_disk new gs)
creates_at path es new fs gs number known free count same more =
    subst (λ (hs : List Leading). Creates path (as_disk es fs) (as_disk hs gs))
    (sym (same ∙ ap (λ (n : ℕ). led path (Some n) es) count))
    (subst (λ (hs : List File). Creates path (as_disk es fs) (as_disk (led path (Some (length fs)) es) hs)) (sym more)
    (creates path es fs known free))
