-- What is done on the bytes that were read, and what becomes of the store then.
use Rattle.std.proofs.Common.{◌≡◌, ◌≢◌, ◌∙◌, inl, refl, sym, ap, subst, ℕ, true, false, List, ◌∷◌, Option}
use Rattle.std.proofs.Common.{None, Some, Result, Ok, Err, IfOk, IfErr, OnErr, is_some, true≢false, nat_eq, option_map, Vec, Global}
use Rattle.std.specs.Cmp.Lexicographic.{pointwise, same_text}
use Rattle.std.specs.Option.{option_eq}
use Rattle.std.specs.Borrow.{Bor}
use Rattle.wcommand.specs.declared.choice.Choice.{Choice}
use Rattle.wcommand.specs.declared.choice.Paths.{Paths}
use Rattle.wcommand.specs.Inputs.{input_of, paths_of}
use Rattle.wfolder.specs.Call.{Call, Found}
use Rattle.wfiles.specs.Place.{FindsSite, MissesFile, StandsBehind, lock_behind, read_at}
use Rattle.wfiles.specs.Reading.{MayBegin, ReadsAtMost, Front, Whole}
use Rattle.wfolder.specs.Names.{IsSited, Site}
use Rattle.wfolder.specs.Replacing.{fault_of}
use Rattle.wfolder.specs.declared.fault.Fault.{Fault}
use Rattle.wfolder.specs.declared.fault.Fault.TheVariants as faults
use Rattle.wfolder.specs.declared.replacing.NotReplaced.{NotReplaced}
use Rattle.wact.specs.declared.acted.Acted.{Acted}
use Rattle.wact.specs.Acts.{Acts}
use Rattle.wact.specs.Laws.{IsTake}
use Rattle.wstore_program.specs.Performing.{Bytes, CarriesOut, GivesNew, Input, IsDone, IsEnded, IsFinished, IsNotPut, IsUndone, Long}
use Rattle.wstore_program.specs.Performing.{MissesInput, NotCarriedOut, NotPut, Performs, Put, Puts, ReadsBytes, ReadsFiles, ReadsInput}
use Rattle.wstore_program.specs.Performing.{Unchanged, Undone, Unfound, Unready, Untouched, input_path, new_store, read_locked}
use Rattle.wstore_program.specs.Working.{store_bytes}

-- where a call gives a fault
pub if_err : {A E : Type 0} {P : E → Type 0} (r : Result A E) → ((e : E) → P e) → IfErr r P
if_err (Ok v) p = tt
if_err (Err e) p = p e

-- what a growth made is what was to be made
one_value : {A : Type 0} (r : Result A Fault) (v w : A) → r ≡ Ok v → r ≡ Ok w → v ≡ w
one_value r v w e f = cc

not_both : {A : Type 0} (r : Result A Fault) (v : A) → r ≡ Ok v → r ≡ Err faults.NoMemory → ⊥
not_both r v e f = cc

pub grown_is : {A E : Type 0} (P : A → Type 0) (made : Result A E) (r : Result A Fault) (value : A) → IfOk made (λ v. r ≡ Ok v)
    → OnErr made (r ≡ Err faults.NoMemory) → r ≡ Ok value → IfOk made P → P value
grown_is P (Ok v) r value is refused got p = subst P (one_value r v value is got) p
grown_is P (Err e) r value is refused got p = absurd (not_both r value got refused)

-- and its fault is want of memory
pub lacks_of : {A E : Type 0} (made : Result A E) (r : Result A Fault) (fault : Fault) → IfOk made (λ v. r ≡ Ok v)
    → OnErr made (r ≡ Err faults.NoMemory) → r ≡ Err fault → fault ≡ faults.NoMemory
lacks_of (Ok v) r fault is refused got = absurd (ok_err r v fault is got)
  where
    ok_err : {A : Type 0} (r : Result A Fault) (v : A) (fault : Fault) → r ≡ Ok v → r ≡ Err fault → ⊥
    ok_err r v fault e f = cc
lacks_of (Err e) r fault is refused got = cc

pub grown_lacks : {A E : Type 0} (made : Result A E) (r : Result A Fault) → IfOk made (λ v. r ≡ Ok v)
    → OnErr made (r ≡ Err faults.NoMemory) → IfErr r (λ fault. fault ≡ faults.NoMemory)
grown_lacks made (Ok v) is refused = tt
grown_lacks made (Err fault) is refused = lacks_of made (Err fault) fault is refused refl

-- ---- what is read

-- the path of an input that is there
pub path_is : (choice : Choice) (path : Bor (List ℕ)) → input_of choice ≡ Some path → input_path choice ≡ Some path.now
path_is choice path is = ap (option_map (λ (p : Bor (List ℕ)). p.now)) is

-- an input is read
pub input_read : {A : Type 0} (choice : Choice) (path : List ℕ) (old new : List Call) (r : Result A Fault) (items : A
    → List ℕ) → input_path choice ≡ Some path → IfOk r (λ bytes. new ≡ Found path (Some (items bytes)) ∷ old)
    → IfOk r (λ bytes. ReadsBytes choice (items bytes) old new)
input_read choice path old new (Err fault) items is read = tt
input_read choice path old new (Ok bytes) items is read = Input path is read

-- or CSV, as far as it is not too long
pub rows_read : {A : Type 0} (choice : Choice) (path : List ℕ) (old new : List Call) (r : Result A Fault) (items : A → List ℕ)
    → IsTake choice → input_path choice ≡ Some path → IfOk r (λ bytes. ReadsAtMost path 67108864 (items bytes) old new)
    → IfOk r (λ bytes. ReadsBytes choice (items bytes) old new)
rows_read choice path old new (Err fault) items take is read = tt
rows_read choice path old new (Ok bytes) items take is (Whole found) = Input path is found
rows_read choice path old new (Ok bytes) items take is (Front long began) = Long path take is long began

-- or not to its end
pub input_unread : {A : Type 0} (choice : Choice) (path : List ℕ) (old new : List Call) (r : Result A Fault)
    → input_path choice ≡ Some path → OnErr r (MayBegin path old new) → OnErr r (MissesInput choice old new)
input_unread choice path old new (Ok bytes) is begun = tt
input_unread choice path old new (Err fault) is begun = (path, is, begun)

-- ---- what becomes of the store

-- the lock, which is of the folder that the site has still
locked_still : (path : List ℕ) (behind : Option (List ℕ)) (site : Site) (folder : List ℕ) (old locked : List Call) → site.folder ≡ folder
    → locked ≡ lock_behind path behind folder true old → locked ≡ lock_behind path behind site.folder true old
locked_still path behind site folder old locked same l = l ∙ ap (λ at. lock_behind path behind at true old) (sym same)

-- the site that was found, where no other file stands since then
stands_still : (path : List ℕ) (behind : Option (List ℕ)) (found site : Site) → site.path ≡ found.path → site.folder ≡ found.folder
    → StandsBehind path behind found → StandsBehind path behind site
stands_still path behind found site p f stands = record { folder_is = f ∙ stands.folder_is; path_is = p ∙ stands.path_is }

-- the lock, then the reading
found_locked : (path : List ℕ) (behind : Option (List ℕ)) (site : Site) (folder : List ℕ) (held : Option (List ℕ))
    (old locked read : List Call) → site.folder ≡ folder → locked ≡ lock_behind path behind folder true old
    → read ≡ read_at site held locked → read ≡ read_locked path behind site held old
found_locked path behind site folder held old locked read same l r =
    r ∙ ap (read_at site held) (locked_still path behind site folder old locked same l)

-- a store that is not read to its end
pub unfound : (choice : Choice) (path table other : List ℕ) (found site : Site) (fault : Fault) (old locked new : List Call)
    → FindsSite path found old locked → IsSited site → site.path ≡ found.path → site.folder ≡ found.folder
    → MissesFile site locked new → IsNotPut choice path table other fault old new
unfound choice path table other found site fault old locked new finds sited p f begun =
    Unfound finds.0 site (stands_still path finds.0 found site p f finds.1) sited
    (subst (λ cs. MissesFile site cs new) (locked_still path finds.0 site found.folder old locked f finds.2) begun)

-- a store on which nothing more is done
pub unchanged : (choice : Choice) (path table other : List ℕ) (found site : Site) (held : Option (List ℕ)) (fault : Fault)
    (old locked read : List Call) → FindsSite path found old locked → IsSited site → site.path ≡ found.path
    → site.folder ≡ found.folder → fault ≡ faults.NoMemory → read ≡ read_at site held locked
    → IsNotPut choice path table other fault old read
unchanged choice path table other found site held fault old locked read finds sited p f lacks r =
    Unchanged finds.0 site held (stands_still path finds.0 found site p f finds.1) sited lacks
    (found_locked path finds.0 site found.folder held old locked read f finds.2 r)

-- a new store is put in the place of what was read
pub put_in_place : (choice : Choice) (acted : Acted) (path table : List ℕ) (store held : Option (List ℕ)) (other : List ℕ)
    (found site : Site) (old locked read new : List Call) → GivesNew choice table store other → FindsSite path found old locked
    → IsSited site → site.path ≡ found.path → site.folder ≡ found.folder → Acts choice table held other acted
    → read ≡ read_at site held locked → Puts site (new_store acted) (Ok tt) read new
    → CarriesOut choice path table store other acted old new
put_in_place choice acted path table store held other found site old locked read new gives finds sited p f acts r puts =
    Put finds.0 site held gives (stands_still path finds.0 found site p f finds.1) sited acts
    (subst (λ cs. Puts site (new_store acted) (Ok tt) cs new)
    (found_locked path finds.0 site found.folder held old locked read f finds.2 r) puts)

-- a new store is not put there
pub not_put : (choice : Choice) (acted : Acted) (path table : List ℕ) (held : Option (List ℕ)) (other : List ℕ) (found site : Site)
    (old locked read new : List Call) (why : NotReplaced) (fault : Fault) → FindsSite path found old locked → IsSited site
    → site.path ≡ found.path → site.folder ≡ found.folder → Acts choice table held other acted → read ≡ read_at site held locked
    → Puts site (new_store acted) (Err why) read new → fault ≡ fault_of why → IsNotPut choice path table other fault old new
not_put choice acted path table held other found site old locked read new why fault finds sited p f acts r puts is =
    NotPut finds.0 site held acted why (stands_still path finds.0 found site p f finds.1) sited acts is
    (subst (λ cs. Puts site (new_store acted) (Err why) cs new)
    (found_locked path finds.0 site found.folder held old locked read f finds.2 r) puts)

none_mapped : {A B : Type 0} (f : A → B) (o : Option A) → is_some o ≡ false → option_map f o ≡ None
none_mapped f None e = refl
none_mapped f (Some v) e = absurd (true≢false e)

some_mapped : {A B : Type 0} (f : A → B) (o : Option A) → is_some o ≡ true → option_map f o ≢ None
some_mapped f None e = absurd (true≢false (sym e))
some_mapped f (Some v) e = λ none. cc

-- there is a new store
pub is_new : (acted : Acted) → is_some acted.store ≡ true → new_store acted ≢ None
is_new acted e = some_mapped _ acted.store e

-- there is none
pub untouched : (choice : Choice) (acted : Acted) (path table : List ℕ) (store : Option (List ℕ)) (other : List ℕ)
    (calls : List Call) → Acts choice table store other acted → is_some acted.store ≡ false
    → CarriesOut choice path table store other acted calls calls
untouched choice acted path table store other calls acts e = Untouched acts (none_mapped _ acted.store e) refl

-- the same bytes
pub same_bytes : (xs ys : Option (Vec ℕ Global)) → option_eq (λ x y. pointwise nat_eq x.items y.items) xs ys ≡ true
    → store_bytes xs ≡ store_bytes ys
same_bytes None None e = refl
same_bytes None (Some y) e = absurd (true≢false (sym e))
same_bytes (Some x) None e = absurd (true≢false (sym e))
same_bytes (Some x) (Some y) e = ap Some (same_text x.items y.items (sym e))

-- ---- the whole

-- the input is read, and then it is carried out or not
pub ended_by : (choice : Choice) (place table : List ℕ) (store : Option (List ℕ)) (other : List ℕ) (old read new : List Call)
    (r : Result Acted Fault) → ReadsInput choice table store other old read → IsFinished choice place table store other r read new
    → IsEnded choice place table store r old new
ended_by choice place table store other old read new (Err fault) input finished = NotCarriedOut other read input finished
ended_by choice place table store other old read new (Ok acted) input finished = record {
  other = other;
  read = read;
  input = input;
  carried_out = finished;
}

-- a stream that was read whole
pub fed_whole : (choice : Choice) (place table : List ℕ) (store : Option (List ℕ)) (path stream : List ℕ)
    (old read new : List Call) (r : Result Acted Fault) → input_path choice ≡ Some path → read ≡ Found path (Some stream) ∷ old
    → IsFinished choice place table store stream r read new → IsEnded choice place table store r old new
fed_whole choice place table store path stream old read new r named found finished =
    ended_by choice place table store stream old read new r (Bytes (Input path named found)) finished

-- nothing was done yet
pub undone_at_once : (choice : Choice) (place table : List ℕ) (store : Option (List ℕ)) (path : List ℕ) (fault : Fault)
    (calls : List Call) → input_path choice ≡ Some path → IsUndone choice place table store fault calls calls
undone_at_once choice place table store path fault calls named = Unready (path, named, inl refl)

-- bytes that are lent
pub ended_on_bytes : (choice : Choice) (place table : List ℕ) (store : Option (List ℕ)) (lent other : List ℕ)
    (old read new : List Call) (r : Result Acted Fault) → lent ≡ other → ReadsBytes choice other old read
    → IsFinished choice place table store lent r read new → IsEnded choice place table store r old new
ended_on_bytes choice place table store lent other old read new r same input finished =
    ended_by choice place table store lent old read new r
    (Bytes (subst (λ (bytes : List ℕ). ReadsBytes choice bytes old read) (sym same) input)) finished

-- the files that the words name are read
pub files_read : (paths : Paths) (table : List ℕ) (store : Option (List ℕ)) (old first read : List Call)
    → ReadsAtMost paths.table.now 65536 table old first → read ≡ Found paths.store.now store ∷ first
    → ReadsFiles paths table store old read
files_read paths table store old first read t s = record { between = first; table_read = t; store_read = s }

pub performed_by : (choice : Choice) (paths : Paths) (lent table : List ℕ) (store : Option (List ℕ))
    (old first read new : List Call) (r : Result Acted Fault) → paths_of choice ≡ Some paths → lent ≡ table
    → ReadsAtMost paths.table.now 65536 table old first → read ≡ Found paths.store.now store ∷ first
    → IsEnded choice paths.store.now lent store r read new → Performs choice r old new
performed_by choice paths lent table store old first read new (Err fault) named same t s undone =
    Undone paths table store read named (files_read paths table store old first read t s)
    (subst (λ (bytes : List ℕ). IsUndone choice paths.store.now bytes store fault read new) same undone)
performed_by choice paths lent table store old first read new (Ok acted) named same t s done = record {
  paths = paths;
  named = named;
  table = table;
  store = store;
  read = read;
  files = files_read paths table store old first read t s;
  done = subst (λ (bytes : List ℕ). IsDone choice paths.store.now bytes store acted read new) same done;
}
