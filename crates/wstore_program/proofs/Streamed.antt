-- A stream that is fed to a store.
use Rattle.std.proofs.Common.{◌≡◌, ◌≢◌, ◌∙◌, ◌⊎◌, inl, inr, refl, sym, ap, subst, ℕ, ◌≤◌, false, List, [], ◌∷◌, ◌++◌, length}
use Rattle.std.proofs.Common.{take, append-nil, Option, None, Some, Result, Ok, Err, IfOk, IfErr, IfSome, IfNone, is_some}
use Rattle.std.specs.Io.KnownBytes.{Consumes, IsAtEnd}
use Rattle.std.proofs.KnownBytes.{Consumes-trans}
use Rattle.wsegment.specs.Declaration.{Declaration}
use Rattle.wsegment.specs.Spelling.{ReadsDeclaration}
use Rattle.wstore.specs.Nodes.{NodeState}
use Rattle.wbatch.specs.Streams.{IsUndelivered, Stops}
use Rattle.wbatch.specs.declared.stop.Stop.{Stop}
use Rattle.wbatch.specs.declared.stop.Stop.TheVariants as stops
use Rattle.wcommand.specs.declared.choice.Choice.{Choice}
use Rattle.wfolder.specs.Call.{Call, Began}
use Rattle.wfiles.specs.Noting.{read_on}
use Rattle.wfiles.specs.Reading.{read_more, read_to_end}
use Rattle.wfolder.specs.declared.fault.Fault.{Fault}
use Rattle.wfolder.specs.declared.fault.Fault.TheVariants as faults
use Rattle.wfiles.proofs.Noting.{found_whole, reads_end, reads_on}
use Rattle.wreplies.specs.Texts.{bytes_of}
use Rattle.wreplies.specs.declared.text.Text.{Text}
use Rattle.wact.specs.declared.acted.Acted.{Acted}
use Rattle.wact.specs.declared.opening.Opened.TheVariants as opens
use Rattle.wact.specs.Acts.{Acts}
use Rattle.wact.specs.Delivering.{IsFeed, IsRefusedSo}
use Rattle.wact.specs.Opening.{Opens, TableRead, TableRefused}
use Rattle.wact.specs.Outcomes.{IsRefused}
use Rattle.wact.specs.Streams.{Feeds}
use Rattle.wact.proofs.Delivering.{acts_opened, acts_refused, feeds_refused}
use Rattle.wstore_program.specs.Feeding.{AtEnd, ByAll, ByFront, InFront, IsRefusedStream, RefusesRead}
use Rattle.wstore_program.specs.Performing.{Bytes, Front, Input, IsDone, IsEnded, NotCarriedOut, Nothing, CarriesOut, Unmade, Unready}
use Rattle.wstore_program.specs.Performing.{input_path}
use Rattle.wstore_program.specs.declared.work.Work.{Work}
use Rattle.wstore_program.specs.Working.{FeedsFrom, GivesOn}
use Rattle.wstore_program.proofs.Performed.{untouched}

-- ---- reading it

-- what stops a stream, where it goes on
pub goes_on_to : (stopped : Option Stop) (reason : Stop) (P : Type 0) → stopped ≡ None → (stopped ≡ Some reason) ⊎ P → P
goes_on_to stopped reason P goes_on (inl e) = absurd (some_none (sym e ∙ goes_on))
  where
    some_none : Some reason ≡ None → ⊥
    some_none f = cc
goes_on_to stopped reason P goes_on (inr p) = p

-- what stops a stream refuses it
pub stops_undelivered : (d : Declaration) (stream : List ℕ) (reason : Stop) → Stops d stream reason → IsUndelivered d stream reason
stops_undelivered d stream (stops.Segment fault) m = m
stops_undelivered d stream stops.Bad m = inl m
stops_undelivered d stream stops.NoMemory m = tt

-- it is refused in a block
pub refused_in_block : (n : ℕ) (block : List ℕ) (d e : Declaration) (left mid new_left : Option (List ℕ)) (read : List ℕ)
    (stopped : Option Stop) (reason : Stop) (old before new : List Call) → e ≡ d → Consumes left mid read
    → Consumes mid new_left (take n block) → stopped ≡ None → (stopped ≡ Some reason)
    ⊎ Stops e (read ++ take n block) reason → n ≢ 0 → n ≤ length block → before ≡ read_more read old
    → new ≡ read_on (take n block) before
    → RefusesRead d left new_left old new reason
refused_in_block n block d e left mid new_left read stopped reason old before new same p q goes_on why some bound noted is =
    InFront (read ++ take n block) (Consumes-trans left mid new_left read (take n block) p q)
    (subst (λ f. Stops f (read ++ take n block) reason) same
    (goes_on_to stopped reason (Stops e (read ++ take n block) reason) goes_on why))
    (reads_on n block read old before new some bound noted is)

-- it is refused at its end
pub refused_at_end : (n : ℕ) (block : List ℕ) (d e : Declaration) (left mid new_left : Option (List ℕ)) (read : List ℕ)
    (stopped : Option Stop) (r : Option Stop) (old before new : List Call) → e ≡ d → Consumes left mid read
    → Consumes mid new_left (take n block) → IsAtEnd new_left → stopped ≡ None
    → IfSome r (λ reason. (stopped ≡ Some reason) ⊎ IsUndelivered e read reason) → n ≡ 0 → before ≡ read_more read old
    → new ≡ read_on (take n block) before
    → IfSome r (RefusesRead d left new_left old new)
refused_at_end n block d e left mid new_left read stopped None old before new same p q end goes_on why none noted is = tt
refused_at_end n block d e left mid new_left read stopped (Some reason) old before new same p q end goes_on why none noted is =
    AtEnd read (subst (Consumes left new_left) (ap (λ n. read ++ take n block) none ∙ append-nil read)
    (Consumes-trans left mid new_left read (take n block) p q)) end
    (subst (λ f. IsUndelivered f read reason) same (goes_on_to stopped reason (IsUndelivered e read reason) goes_on why))
    (reads_end n block read old before new none noted is)

-- and where it is not, it is noted whole
pub noted_at_end : (n : ℕ) (block read : List ℕ) (r : Option Stop) (old before new : List Call) → n ≡ 0
    → before ≡ read_more read old → new ≡ read_on (take n block) before → IfNone r (new ≡ read_to_end (read_more read old))
noted_at_end n block read None old before new none noted is = reads_end n block read old before new none noted is
noted_at_end n block read (Some reason) old before new none noted is = tt

-- it is refused under its path
pub refused_under : (d : Declaration) (path : List ℕ) (left new_left : Option (List ℕ)) (old begun read new : List Call)
    (r : Result (Option Stop) Fault) → begun ≡ Began path [] ∷ old → new ≡ read
    → IfOk r (λ stopped. IfSome stopped (RefusesRead d left new_left begun read))
    → IfOk r (λ stopped. IfSome stopped (IsRefusedStream d path old new))
refused_under d path left new_left old begun read new (Err fault) is same why = tt
refused_under d path left new_left old begun read new (Ok None) is same why = tt
refused_under d path left new_left old begun read new (Ok (Some reason)) is same (InFront front consumes stops reads) =
    ByFront front stops (same ∙ reads ∙ ap (read_more front) is)
refused_under d path left new_left old begun read new (Ok (Some reason)) is same (AtEnd stream consumes end undelivered
    reads) = ByAll stream undelivered (found_whole path stream old begun new is (same ∙ reads))

-- ---- feeding it

-- the declaration of the node that is opened is the table's
pub declared_by : (d : Declaration) (table : List ℕ) (store : Option (List ℕ)) (node : NodeState)
    → Opens table store (opens.Node node) → d ≡ node.schema → ReadsDeclaration table (Ok d)
declared_by d table store node (TableRead e reads by) same = subst (λ f. ReadsDeclaration table (Ok f)) (sym (same ∙ by.0)) reads
declared_by d table store node (TableRefused fault reads refused) same = absurd refused

-- what feeding gives by any choice that feeds, it gives by this one
pub fed_by : {E : Type 0} (work : Work) (store : Option (List ℕ)) (stream : List ℕ) (r : Result Acted E) → IsFeed work.choice.now
    → IfOk r (λ acted. (choice : Choice) → IsFeed choice → Acts choice work.table.now store stream acted)
    → IfOk r (GivesOn work store stream)
fed_by work store stream (Err e) is gives = tt
fed_by work store stream (Ok acted) is gives = gives work.choice.now is

-- a table or a store that is refused
pub refused_open : (choice : Choice) (place table : List ℕ) (store : Option (List ℕ)) (text : Text) (acted : Acted)
    (calls : List Call) → IsFeed choice → Opens table store (opens.Refused text) → IsRefused acted (bytes_of text)
    → IsDone choice place table store acted calls calls
refused_open choice place table store text acted calls is opened told = record {
  other = [];
  read = calls;
  input = Nothing text is opened refl refl;
  carried_out = untouched choice acted place table store [] calls (acts_refused choice table store [] text acted opened told)
      (ap is_some told.2);
}

-- what is told of a stream that is refused stores nothing
stores_nothing : (reason : Stop) (acted : Acted) → IsRefusedSo reason acted → is_some acted.store ≡ false
stores_nothing (stops.Segment fault) acted told = ap is_some told.2
stores_nothing stops.Bad acted told = ap is_some told.2
stores_nothing stops.NoMemory acted told = absurd told

-- and it is no want of memory
is_told : (reason : Stop) (acted : Acted) → IsRefusedSo reason acted → reason ≢ stops.NoMemory
is_told (stops.Segment fault) acted told = λ e. cc
is_told stops.Bad acted told = λ e. cc
is_told stops.NoMemory acted told = absurd told

-- what is told of it is what feeding it gives
told_feeds : (choice : Choice) (place table : List ℕ) (store : Option (List ℕ)) (node : NodeState) (d : Declaration)
    (stream : List ℕ) (reason : Stop) (acted : Acted) (calls : List Call) → IsFeed choice → Opens table store (opens.Node node)
    → d ≡ node.schema → IsUndelivered d stream reason → IsRefusedSo reason acted
    → CarriesOut choice place table store stream acted calls calls
told_feeds choice place table store node d stream reason acted calls is opened same why told =
    let feeds : Feeds node.schema node.view store stream acted =
    subst (λ e. Feeds e node.view store stream acted) same (feeds_refused {E = Unit {0}} d node.view store stream reason
    (Ok acted) why told) in
    untouched choice acted place table store stream calls (acts_opened choice table store stream node acted opened is feeds)
    (stores_nothing reason acted told)

-- a stream that is refused
pub refused_stream : (choice : Choice) (place table : List ℕ) (store : Option (List ℕ)) (node : NodeState) (d : Declaration)
    (path : List ℕ) (reason : Stop) (acted : Acted) (old new : List Call) → IsFeed choice → input_path choice ≡ Some path
    → Opens table store (opens.Node node) → d ≡ node.schema → IsRefusedStream d path old new reason
    → IsRefusedSo reason acted → IsDone choice place table store acted old new
refused_stream choice place table store node d path reason acted old new is named opened same (ByFront front stops read) told = record {
  other = front;
  read = new;
  input = Front path d reason is named read (declared_by d table store node opened same) stops (is_told reason acted told);
  carried_out = told_feeds choice place table store node d front reason acted new is opened same (stops_undelivered d front reason stops)
      told;
}
refused_stream choice place table store node d path reason acted old new is named opened same (ByAll stream missed read) told = record {
  other = stream;
  read = new;
  input = Bytes (Input path named read);
  carried_out = told_feeds choice place table store node d stream reason acted new is opened same missed told;
}

-- as it was told, or there was no memory to tell it
pub told_refused : (choice : Choice) (place table : List ℕ) (store : Option (List ℕ)) (node : NodeState) (d : Declaration)
    (path : List ℕ) (reason : Stop) (r : Result Acted Fault) (old new : List Call) → FeedsFrom choice path
    → Opens table store (opens.Node node) → d ≡ node.schema → IsRefusedStream d path old new reason
    → IfOk r (IsRefusedSo reason) → IfErr r (λ fault. fault ≡ faults.NoMemory) → IsEnded choice place table store r old new
told_refused choice place table store node d path reason (Err fault) old new feeds opened same (ByFront front stops is) told lacks =
    Unready (path, feeds.1, inr (front, is))
told_refused choice place table store node d path reason (Err fault) old new feeds opened same (ByAll stream missed is) told lacks =
    NotCarriedOut stream new (Bytes (Input path feeds.1 is)) (Unmade lacks refl)
told_refused choice place table store node d path reason (Ok acted) old new feeds opened same why told lacks =
    refused_stream choice place table store node d path reason acted old new feeds.0 feeds.1 opened same why told
