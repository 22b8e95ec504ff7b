-- How a run that replaces a store ends.
use Rattle.std.specs.Prelude.{is_ok}
use Rattle.std.proofs.Common.{◌≡◌, ◌≢◌, ℕ, Bool, true, false, List, [], ◌∷◌, Option, Result, Ok, Err, IfErr, refl, sym, ◌∙◌, ap, subst}
use Rattle.wfolder.specs.Call.{Call, SyncedFolder, Removed}
use Rattle.wfolder.specs.Calls.{HasRefusal}
use Rattle.wfolder.specs.Model.{IsLocked}
use Rattle.wfolder.specs.Names.{Site}
use Rattle.wfolder.specs.Replacing.{IsUnsynced, Replaces, fault_of}
use Rattle.wfolder.specs.declared.fault.Fault.{Fault}
use Rattle.wfolder.specs.declared.fault.Fault.TheVariants as faults
use Rattle.wfolder.specs.declared.replacing.NotReplaced.{NotReplaced}
use Rattle.wfolder.specs.declared.replacing.NotReplaced.TheVariants.{Kept, Unsynced}
use Rattle.wfolder.specs.Order.{After, Refused, Spoilt, Brings, LeavesBeside, LeavesIdle, Idle, Beside, Placed, Durable, new_file}
use Rattle.wfolder.specs.Order.{begins, removes, keeps, folder_synced, folder_unsynced}
use Rattle.wfolder.proofs.Safety.{at_each, clears_left, crash_durable, holds_at, holds_file, is_kept, keeps_access, one_own, only_own}
use Rattle.wfolder.proofs.Steps.{after, behind_removal, by_write}

-- the three ends
pub ends_kept : (site : Site) (bytes : List ℕ) (fault : Fault) (old new : List Call) → IsLocked site.folder old
    → Refused site fault old new Idle → Replaces site bytes (Err (Kept fault)) old new
ends_kept site bytes fault old new locked refused =
    let a = refused.after in
    record {
      since = a.since;
      is = a.is;
      own = only_own site.path a.since Idle a.reaches;
      cleared = clears_left site.path a.since Idle a.reaches;
      access = keeps_access site.path a.since Idle a.reaches;
      clears = λ name own. absurd (one_own site.path a.since Idle name a.reaches own);
      refusal = refused.refusal;
      moments = at_each site.path bytes old a.since Idle locked tt a.reaches;
      end = λ d e runs. is_kept site.path d e (holds_at site.path old a.since Idle d e locked a.reaches runs);
    }

pub ends_beside : (site : Site) (bytes name : List ℕ) (ready : Bool) (known : Option (List ℕ)) (durable : Bool) (fault : Fault)
    (old new : List Call) → IsLocked site.folder old → (a : After site old new (Beside name ready known durable))
    → (before : List Call) × (a.since ≡ Removed name false ∷ before) → HasRefusal site.folder fault a.since
    → Replaces site bytes (Err (Kept fault)) old new
ends_beside site bytes name ready known durable fault old new locked a last refusal = record {
  since = a.since;
  is = a.is;
  own = only_own site.path a.since (Beside name ready known durable) a.reaches;
  cleared = clears_left site.path a.since (Beside name ready known durable) a.reaches;
  access = keeps_access site.path a.since (Beside name ready known durable) a.reaches;
  clears = λ at own. (
    last.0,
    last.1 ∙ ap (λ (n : List ℕ). Removed n false ∷ last.0)
        (sym (one_own site.path a.since (Beside name ready known durable) at a.reaches own)),
  );
  refusal = refusal;
  moments = at_each site.path bytes old a.since (Beside name ready known durable) locked tt a.reaches;
  end = λ d e runs. is_kept site.path d e
      (holds_at site.path old a.since (Beside name ready known durable) d e locked a.reaches runs).0;
}

pub ends_durable : (site : Site) (bytes : List ℕ) (old new : List Call) → IsLocked site.folder old → After site old new (Durable bytes)
    → Replaces site bytes (Ok tt) old new
ends_durable site bytes old new locked a = record {
  since = a.since;
  is = a.is;
  own = only_own site.path a.since (Durable bytes) a.reaches;
  cleared = clears_left site.path a.since (Durable bytes) a.reaches;
  access = keeps_access site.path a.since (Durable bytes) a.reaches;
  clears = λ name own. absurd (one_own site.path a.since (Durable bytes) name a.reaches own);
  refusal = tt;
  moments = at_each site.path bytes old a.since (Durable bytes) locked refl a.reaches;
  end = λ d e runs.
      let p = holds_at site.path old a.since (Durable bytes) d e locked a.reaches runs in
      record { holds_new = holds_file site.path bytes e p.file p.leads p.content; leaves_new = crash_durable site.path bytes e p };
}

pub ends_unsynced : (site : Site) (bytes : List ℕ) (fault : Fault) (old new : List Call) → IsLocked site.folder old
    → (a : After site old new (Placed bytes)) → HasRefusal site.folder fault a.since → Replaces site bytes (Err (Unsynced fault)) old new
ends_unsynced site bytes fault old new locked a refusal = record {
  since = a.since;
  is = a.is;
  own = only_own site.path a.since (Placed bytes) a.reaches;
  cleared = clears_left site.path a.since (Placed bytes) a.reaches;
  access = keeps_access site.path a.since (Placed bytes) a.reaches;
  clears = λ name own. absurd (one_own site.path a.since (Placed bytes) name a.reaches own);
  refusal = refusal;
  moments = at_each site.path bytes old a.since (Placed bytes) locked refl a.reaches;
  end = λ d e runs.
      let p = holds_at site.path old a.since (Placed bytes) d e locked a.reaches runs in
      holds_file site.path bytes e p.file p.leads p.content;
}

-- from no call on
pub from_nothing : (site : Site) (old : List Call) → After site old old Idle
from_nothing site old = record { since = []; is = refl; reaches = begins }

-- a run that makes no new file
pub never_made : (site : Site) (bytes : List ℕ) (fault : Fault) (old new : List Call) → IsLocked site.folder old
    → LeavesIdle site fault old new → Replaces site bytes (Err (Kept fault)) old new
never_made site bytes fault old new locked left = ends_kept site bytes fault old new locked (left old (from_nothing site old))

-- behind a move that failed the new file is removed, or stays
pub given_up : (site : Site) (bytes name : List ℕ) (fault : Fault) (gone : Bool) (old mid new : List Call) → IsLocked site.folder old
    → Spoilt site name fault old mid → new ≡ Removed name gone ∷ mid → Replaces site bytes (Err (Kept fault)) old new
given_up site bytes name fault true old mid new locked s is = ends_kept site bytes fault old new locked (record {
  after = record {
    since = Removed name true ∷ s.refused.after.since;
    is = is ∙ ap (λ cs. Removed name true ∷ cs) s.refused.after.is;
    reaches = removes s.refused.after.reaches;
  };
  refusal = behind_removal site.folder fault name true s.refused.after.since s.refused.refusal;
})
given_up site bytes name fault false old mid new locked s is = ends_beside site bytes name s.ready s.bytes s.durable fault old new
    locked (record {
      since = Removed name false ∷ s.refused.after.since;
      is = is ∙ ap (λ cs. Removed name false ∷ cs) s.refused.after.is;
      reaches = keeps s.refused.after.reaches;
    }) (s.refused.after.since, refl) (behind_removal site.folder fault name false s.refused.after.since s.refused.refusal)

-- behind the move the folder is brought to the disk, or not
pub ended : (site : Site) (bytes : List ℕ) (r : Result (Unit {0}) NotReplaced) (old mid new : List Call) → IsLocked site.folder old
    → IfErr r (λ fault. IsUnsynced fault) → IfErr r (λ fault. fault_of fault ≢ faults.Read) → After site old mid (Placed bytes)
    → new ≡ SyncedFolder (is_ok r) ∷ mid → Replaces site bytes r old new
ended site bytes (Ok done) old mid new locked unsynced kind a is =
    ends_durable site bytes old new locked (after (SyncedFolder true) is (λ cs r. folder_synced r) a)
ended site bytes (Err (Kept fault)) old mid new locked unsynced kind a is = absurd unsynced
ended site bytes (Err (Unsynced fault)) old mid new locked unsynced kind a is =
    ends_unsynced site bytes fault old new locked (record {
      since = SyncedFolder false ∷ a.since;
      is = is ∙ ap (λ cs. SyncedFolder false ∷ cs) a.is;
      reaches = folder_unsynced a.reaches;
    }) (by_write site.folder fault (SyncedFolder false ∷ a.since) kind tt)

-- a run that makes its new file, and gives up
pub gave_up : (site : Site) (bytes name at gone_at : List ℕ) (fault : Fault) (gone : Bool) (old begun mid new : List Call)
    → IsLocked site.folder old → at ≡ name → gone_at ≡ name → Brings site old Idle begun (new_file site name)
    → LeavesBeside site at fault begun mid
    → new ≡ Removed gone_at gone ∷ mid → Replaces site bytes (Err (Kept fault)) old new
gave_up site bytes name at gone_at fault gone old begun mid new locked is_at is_gone first left is =
    let here : LeavesBeside site name fault begun mid = subst (λ (n : List ℕ). LeavesBeside site n fault begun mid) is_at left in
    given_up site bytes name fault gone old mid new locked (here old (first old (from_nothing site old)))
    (is ∙ ap (λ (n : List ℕ). Removed n gone ∷ mid) is_gone)

-- a run that makes its new file, and puts it in the store's place
pub went_through : (site : Site) (bytes name at : List ℕ) (r : Result (Unit {0}) NotReplaced) (old begun mid new : List Call)
    → IsLocked site.folder old → at ≡ name → Brings site old Idle begun (new_file site name)
    → Brings site begun (new_file site at) mid (Placed bytes) → IfErr r (λ fault. IsUnsynced fault)
    → IfErr r (λ fault. fault_of fault ≢ faults.Read) → new ≡ SyncedFolder (is_ok r) ∷ mid → Replaces site bytes r old new
went_through site bytes name at r old begun mid new locked is_at first then unsynced kind is =
    let here : Brings site begun (new_file site name) mid (Placed bytes) =
    subst (λ (n : List ℕ). Brings site begun (new_file site n) mid (Placed bytes)) is_at then in
    ended site bytes r old mid new locked unsynced kind (here old (first old (from_nothing site old))) is
