-- What the calls of a run that replaces a store may lead to.
use Rattle.std.specs.Prelude.{⊤, is_none}
use Rattle.std.proofs.Common.{◌≡◌, ◌≢◌, ◌⊎◌, inl, inr, ⊎_elim, ℕ, Bool, true, false, List, [], ◌∷◌, ◌++◌, Option}
use Rattle.std.proofs.Common.{None, Some, refl, sym, ◌∙◌, ap, subst, rules, option_map}
use Rattle.wfolder.specs.Call.{Call, Rights, Locked, Checked, Found, Listed, Created, Taken, Permitted, Wrote}
use Rattle.wfolder.specs.Call.{Synced, Moved, SyncedFolder, Removed, Began, Followed}
use Rattle.wfolder.specs.Model.{Disk, IsAmong, holds, IsLeft, Leaves, MayHold, LeadsTo, IsSameFile, IsSameName, IsSame}
use Rattle.wfolder.specs.Model.{Creates, Writes, Syncs, Renames, SyncsFolder, Removes, IsLocked, IsOwn, Others, Runs}
use Rattle.wfolder.specs.Replacing.{AtEachMoment, LeavesOldOrNew, ChangesOnlyOwn, IsPermitted, KeepsAccess, IsUnchanged}
use Rattle.wfolder.specs.Clearing.{ClearsLeft}
use Rattle.wfolder.specs.Order.{Stage, Idle, Beside, Placed, Durable, Reaches}
use Rattle.wfolder.specs.Order.{begins, locks, reads, lists, clears, misses, fails, makes, permits, forbids, writes, spoils, syncs}
use Rattle.wfolder.specs.Order.{places, stays, removes, keeps, folder_synced, folder_unsynced}

pub same_refl : (name : List ℕ) (d : Disk) → IsSame name d d
same_refl name d = record { names = (refl, refl); files = λ file leads. (refl, refl) }

-- what leads there after leads there before
pub leads_back : (name : List ℕ) (d e : Disk) (file : ℕ) → IsSameName d e name → LeadsTo e name file → LeadsTo d name file
leads_back name d e file same (inl here) = inl (sym same.0 ∙ here)
leads_back name d e file same (inr left) = inr (subst (IsAmong (Some file)) same.1 left)

pub leads_on : (name : List ℕ) (d e : Disk) (file : ℕ) → IsSameName d e name → LeadsTo d name file → LeadsTo e name file
leads_on name d e file same (inl here) = inl (same.0 ∙ here)
leads_on name d e file same (inr left) = inr (subst (IsAmong (Some file)) (sym same.1) left)

pub same_trans : (name : List ℕ) (d e f : Disk) → IsSame name d e → IsSame name e f → IsSame name d f
same_trans name d e f first then = record {
  names = (then.names.0 ∙ first.names.0, then.names.1 ∙ first.names.1);
  files = λ file leads.
      let here = first.files file leads in
      let there = then.files file (leads_on name d e file first.names leads) in
      (there.0 ∙ here.0, there.1 ∙ here.1);
}

-- a state that is the same
same_at : (name : List ℕ) (d e : Disk) → e ≡ d → IsSame name d e
same_at name d e is = subst (IsSame name d) (sym is) (same_refl name d)

-- the new file stands beside the store, which does not lead to it
pub record IsBeside (store name : List ℕ) (bytes : Option (List ℕ)) (durable : Bool) (d : Disk) : Type 0 where
  pub file : ℕ
  pub leads : d.entry name ≡ Some file
  pub away : LeadsTo d store file → ⊥
  pub content : (known : List ℕ) → bytes ≡ Some known → d.bytes file ≡ known
  pub saved : durable ≡ true → d.saved file ≡ Some (d.bytes file)

-- the store is the new file; a crash may leave what it might have left, or the new file
pub record IsPlaced (store bytes : List ℕ) (d e : Disk) : Type 0 where
  pub file : ℕ
  pub leads : e.entry store ≡ Some file
  pub content : e.bytes file ≡ bytes
  pub saved : e.saved file ≡ Some bytes
  pub left : e.left store ≡ Some file ∷ d.left store
  pub files : (other : ℕ) → IsAmong (Some other) (d.left store) → e.saved other ≡ d.saved other

pub record IsDurable (store bytes : List ℕ) (e : Disk) : Type 0 where
  pub file : ℕ
  pub leads : e.entry store ≡ Some file
  pub content : e.bytes file ≡ bytes
  pub saved : e.saved file ≡ Some bytes
  pub left : e.left store ≡ Some file ∷ []

-- what holds of the state at each stage
abbrev pub Holds : List ℕ → Stage → Disk → Disk → Type 0
Holds store Idle d e = IsSame store d e
Holds store (Beside name ready bytes durable) d e = IsSame store d e × IsBeside store name bytes durable e
Holds store (Placed bytes) d e = IsPlaced store bytes d e
Holds store (Durable bytes) d e = IsDurable store bytes e

-- a file beside the store is this run's own
abbrev pub Owns : List ℕ → List Call → Stage → Type 0
Owns store cs (Beside name ready bytes durable) = (name ≢ store) × IsOwn cs name
Owns store cs Idle = ⊤
Owns store cs (Placed bytes) = ⊤
Owns store cs (Durable bytes) = ⊤

-- others leave each stage as it is
beside_on : (store name : List ℕ) (bytes : Option (List ℕ)) (durable : Bool) (d e : Disk) → IsSame store d e
    → IsSame name d e → IsBeside store name bytes durable d → IsBeside store name bytes durable e
beside_on store name bytes durable d e same own b =
    let file = own.files b.file (inl b.leads) in
    record {
      file = b.file;
      leads = own.names.0 ∙ b.leads;
      away = λ leads. b.away (leads_back store d e b.file same.names leads);
      content = λ known is. file.0 ∙ b.content known is;
      saved = λ done. file.1 ∙ b.saved done ∙ ap Some (sym file.0);
    }

placed_on : (store bytes : List ℕ) (d mid e : Disk) → IsSame store mid e → IsPlaced store bytes d mid → IsPlaced store bytes d e
placed_on store bytes d mid e same p =
    let file = same.files p.file (inl p.leads) in
    record {
      file = p.file;
      leads = same.names.0 ∙ p.leads;
      content = file.0 ∙ p.content;
      saved = file.1 ∙ p.saved;
      left = same.names.1 ∙ p.left;
      files = λ other among. (same.files other (inr (subst (IsAmong (Some other)) (sym p.left) (inr among)))).1 ∙ p.files other among;
    }

durable_on : (store bytes : List ℕ) (mid e : Disk) → IsSame store mid e → IsDurable store bytes mid → IsDurable store bytes e
durable_on store bytes mid e same p =
    let file = same.files p.file (inl p.leads) in
    record {
      file = p.file;
      leads = same.names.0 ∙ p.leads;
      content = file.0 ∙ p.content;
      saved = file.1 ∙ p.saved;
      left = same.names.1 ∙ p.left;
    }

-- calls that follow a lock leave it held
locked_on : (folder : List ℕ) (cs base : List Call) → IsLocked folder base → IsLocked folder (cs ++ base)
locked_on folder [] base held = held
locked_on folder (Locked at true ∷ cs) base held = inr (locked_on folder cs base held)
locked_on folder (Locked at false ∷ cs) base held = locked_on folder cs base held
locked_on folder (Followed path behind ∷ cs) base held = locked_on folder cs base held
locked_on folder (Checked name access ∷ cs) base held = locked_on folder cs base held
locked_on folder (Found name bytes ∷ cs) base held = locked_on folder cs base held
locked_on folder (Began name bytes ∷ cs) base held = locked_on folder cs base held
locked_on folder (Listed at names ∷ cs) base held = locked_on folder cs base held
locked_on folder (Created name closed done ∷ cs) base held = locked_on folder cs base held
locked_on folder (Taken name closed ∷ cs) base held = locked_on folder cs base held
locked_on folder (Permitted name rights done ∷ cs) base held = locked_on folder cs base held
locked_on folder (Wrote name bytes done ∷ cs) base held = locked_on folder cs base held
locked_on folder (Synced name done ∷ cs) base held = locked_on folder cs base held
locked_on folder (Moved from to done ∷ cs) base held = locked_on folder cs base held
locked_on folder (SyncedFolder done ∷ cs) base held = locked_on folder cs base held
locked_on folder (Removed name done ∷ cs) base held = locked_on folder cs base held

-- what others leave while this run holds the lock
record Stay (store : List ℕ) (cs : List Call) (d e : Disk) : Type 0 where
  store_stays : IsSame store d e
  own_stays : (name : List ℕ) → IsOwn cs name → IsSame name d e

stay : (store : List ℕ) {folder : List ℕ} (base cs : List Call) (d e : Disk) → IsLocked folder base → Others store folder base cs d e
    → Stay store cs d e
stay store {folder = folder} base cs d e held others =
    let still = locked_on folder cs base held in
    record { store_stays = others.store_stays still; own_stays = others.own_stays still }

others_leave : (store : List ℕ) (cs : List Call) (stage : Stage) (d mid e : Disk) → Owns store cs stage
    → Stay store cs mid e → Holds store stage d mid → Holds store stage d e
others_leave store cs Idle d mid e owns others h = same_trans store d mid e h others.store_stays
others_leave store cs (Beside name ready bytes durable) d mid e owns others h = (
  same_trans store d mid e h.0 others.store_stays,
  beside_on store name bytes durable mid e others.store_stays
      (others.own_stays name owns.1) h.1,
)
others_leave store cs (Placed bytes) d mid e owns others h = placed_on store bytes d mid e others.store_stays h
others_leave store cs (Durable bytes) d mid e owns others h = durable_on store bytes mid e others.store_stays h

-- a state that is the same is at the same stage
same_stage : (store : List ℕ) (stage : Stage) (d mid e : Disk) → e ≡ mid → Holds store stage d mid → Holds store stage d e
same_stage store stage d mid e is h = subst (Holds store stage d) (sym is) h

-- each call that changes something
made : (store name : List ℕ) (d mid e : Disk) → name ≢ store → Creates name mid e → IsSame store d mid
    → Holds store (Beside name true (Some []) false) d e
made store name d mid e other c same =
    let names : IsSameName mid e store = c.names store (λ is. other (sym is)) in
    let stays : IsSame store mid e = record {
      names = names;
      files =
          λ file leads. c.files file (λ is. c.fresh store (subst (LeadsTo mid store) is leads));
    } in (
      same_trans store d mid e same stays,
      record {
        file = c.file;
        leads = c.entry;
        away = λ leads. c.fresh store (leads_back store mid e c.file names leads);
        content = λ known is. c.empty ∙ search rules;
        saved = λ done. absurd (search rules);
      },
    )

-- a call on the new file alone leaves the store as it is
aside : (store name : List ℕ) (d mid e : Disk) (file : ℕ) → mid.entry name ≡ Some file → (LeadsTo mid store file → ⊥)
    → ((other : List ℕ) → IsSameName mid e other) → ((other : ℕ) → other ≢ file → IsSameFile mid e other)
    → IsSame store d mid → IsSame store d e
aside store name d mid e file leads away names files same =
    same_trans store d mid e same (record {
      names = names store;
      files =
          λ other to. files other (λ is. away (subst (LeadsTo mid store) is to));
    })

-- a name leads to one file
one_file : (name : List ℕ) (d : Disk) (a b : ℕ) → d.entry name ≡ Some a → d.entry name ≡ Some b → b ≡ a
one_file name d a b first second = let same : Some a ≡ Some b = sym first ∙ second in search rules

wrote : (store name written : List ℕ) (bytes bytes' : Option (List ℕ)) (durable done : Bool) (d mid e : Disk)
    → Writes name written done mid e → Holds store (Beside name true bytes durable) d mid
    → ((known : List ℕ) → bytes' ≡ Some known → (done ≡ true) × (old : List ℕ) × (bytes ≡ Some old)
    × (known ≡ old ++ written)) → Holds store (Beside name true bytes' false) d e
wrote store name written bytes bytes' durable done d mid e w h content =
    let is : w.file ≡ h.1.file = one_file name mid h.1.file w.file h.1.leads w.leads in
    let away : LeadsTo mid store w.file → ⊥ = λ to. h.1.away (subst (LeadsTo mid store) is to) in (
      aside store name d mid e w.file w.leads away w.names w.files h.0,
      record {
        file = w.file;
        leads = (w.names name).0 ∙ w.leads;
        away = λ to. away (leads_back store mid e w.file (w.names store) to);
        content = λ known is_known.
            let from = content known is_known in
            w.appends from.0 ∙ ap (λ (l : List ℕ). l ++ written) (ap mid.bytes is ∙ h.1.content from.1 from.2) ∙ sym from.3;
        saved = λ is_done. absurd (search rules);
      },
    )

synced : (store name : List ℕ) (bytes : Option (List ℕ)) (durable done : Bool) (d mid e : Disk) → Syncs name done mid e
    → Holds store (Beside name true bytes durable) d mid → Holds store (Beside name true bytes done) d e
synced store name bytes durable done d mid e w h =
    let is : w.file ≡ h.1.file = one_file name mid h.1.file w.file h.1.leads w.leads in
    let away : LeadsTo mid store w.file → ⊥ = λ to. h.1.away (subst (LeadsTo mid store) is to) in (
      aside store name d mid e w.file w.leads away w.names w.files h.0,
      record {
        file = w.file;
        leads = (w.names name).0 ∙ w.leads;
        away = λ to. away (leads_back store mid e w.file (w.names store) to);
        content = λ known is_known. w.same ∙ ap mid.bytes is ∙ h.1.content known is_known;
        saved = λ is_done. w.saved is_done ∙ ap Some (sym w.same);
      },
    )

placed : (store name bytes : List ℕ) (d mid e : Disk) → Renames name store mid e
    → Holds store (Beside name true (Some bytes) true) d mid → IsPlaced store bytes d e
placed store name bytes d mid e r h =
    let content = h.1.content bytes refl in
    record {
      file = h.1.file;
      leads = r.entry ∙ h.1.leads;
      content = (r.files h.1.file).0 ∙ content;
      saved = (r.files h.1.file).1 ∙ h.1.saved refl ∙ ap Some content;
      left = r.left ∙ ap (λ f. f ∷ mid.left store) h.1.leads ∙ ap (λ l. Some h.1.file ∷ l) h.0.names.1;
      files = λ other among. (r.files other).1 ∙ (h.0.files other (inr among)).1;
    }

removed : (store name : List ℕ) (d mid e : Disk) → name ≢ store → Removes name mid e → IsSame store d mid → IsSame store d e
removed store name d mid e other r same =
    same_trans store d mid e same (record { names = r.names store (λ is. other (sym is)); files = λ file to. r.files file })

durable : (store bytes : List ℕ) (d mid e : Disk) → SyncsFolder mid e → IsPlaced store bytes d mid → IsDurable store bytes e
durable store bytes d mid e s p = record {
  file = p.file;
  leads = s.entry store ∙ p.leads;
  content = (s.files p.file).0 ∙ p.content;
  saved = (s.files p.file).1 ∙ p.saved;
  left = s.left store ∙ ap (λ f. f ∷ []) p.leads;
}

pub owns : (store : List ℕ) {folder : List ℕ} {access : Option Rights} (cs : List Call) (stage : Stage)
    → Reaches store folder access cs stage → Owns store cs stage
owns store cs stage begins = tt
owns store cs stage (locks {stage = Idle} r) = tt
owns store cs stage (locks {stage = Beside name ready bytes durable} r) = owns store _ _ r
owns store cs stage (locks {stage = Placed bytes} r) = tt
owns store cs stage (locks {stage = Durable bytes} r) = tt
owns store cs stage (reads {stage = Idle} r) = tt
owns store cs stage (reads {stage = Beside name ready bytes durable} r) = owns store _ _ r
owns store cs stage (reads {stage = Placed bytes} r) = tt
owns store cs stage (reads {stage = Durable bytes} r) = tt
owns store cs stage (lists r) = tt
owns store cs stage (clears other ours r) = tt
owns store cs stage (misses other ours closed clear r) = tt
owns store cs stage (fails other ours closed clear r) = tt
owns store cs stage (makes other ours closed none clear r) = (other, inl refl)
owns store cs stage (permits is r) = owns store _ _ r
owns store cs stage (forbids is r) = owns store _ _ r
owns store cs stage (writes r) = owns store _ _ r
owns store cs stage (spoils r) = owns store _ _ r
owns store cs stage (syncs r) = owns store _ _ r
owns store cs stage (places r) = tt
owns store cs stage (stays r) = owns store _ _ r
owns store cs stage (removes r) = tt
owns store cs stage (keeps r) = owns store _ _ r
owns store cs stage (folder_synced r) = tt
owns store cs stage (folder_unsynced r) = tt

one_known : (a b : List ℕ) → Some a ≡ Some b → a ≡ b
one_known a b is = search rules

none_known : (a : List ℕ) → None ≡ Some a → ⊥
none_known a is = search rules

-- the state behind the calls, at whichever stage they bring the run to
pub holds_at : (store : List ℕ) {folder : List ℕ} {access : Option Rights} (base cs : List Call) (stage : Stage) (d e : Disk)
    → IsLocked folder base
    → Reaches store folder access cs stage
    → Runs store folder base d cs e → Holds store stage d e
holds_at store base cs stage d e held begins runs = runs.store_stays held
holds_at store base cs stage d e held (locks r) runs =
    others_leave store cs stage d runs.1 e (owns store cs stage (locks r)) (stay store base cs runs.1 e held runs.4)
    (same_stage store stage d runs.0 runs.1 runs.3 (holds_at store base _ stage d runs.0 held r runs.2))
holds_at store base cs stage d e held (reads r) runs =
    others_leave store cs stage d runs.1 e (owns store cs stage (reads r)) (stay store base cs runs.1 e held runs.4)
    (same_stage store stage d runs.0 runs.1 runs.3.0 (holds_at store base _ stage d runs.0 held r runs.2))
holds_at store base cs stage d e held (lists r) runs =
    others_leave store cs stage d runs.1 e tt (stay store base cs runs.1 e held runs.4)
    (same_stage store stage d runs.0 runs.1 runs.3 (holds_at store base _ Idle d runs.0 held r runs.2))
holds_at store base cs stage d e held (clears {name = name} {done = true} other ours r) runs =
    others_leave store cs stage d runs.1 e tt (stay store base cs runs.1 e held runs.4) (removed store name d runs.0 runs.1
    other runs.3 (holds_at store base _ Idle d runs.0 held r runs.2))
holds_at store base cs stage d e held (clears {name = name} {done = false} other ours r) runs =
    others_leave store cs stage d runs.1 e tt (stay store base cs runs.1 e held runs.4)
    (same_stage store stage d runs.0 runs.1 runs.3 (holds_at store base _ Idle d runs.0 held r runs.2))
holds_at store base cs stage d e held (misses other ours closed clear r) runs =
    others_leave store cs stage d runs.1 e tt (stay store base cs runs.1 e held runs.4)
    (same_stage store stage d runs.0 runs.1 runs.3 (holds_at store base _ Idle d runs.0 held r runs.2))
holds_at store base cs stage d e held (fails other ours closed clear r) runs =
    others_leave store cs stage d runs.1 e tt (stay store base cs runs.1 e held runs.4)
    (same_stage store stage d runs.0 runs.1 runs.3 (holds_at store base _ Idle d runs.0 held r runs.2))
holds_at store base cs stage d e held (makes {name = name} other ours closed none clear r) runs =
    others_leave store cs stage d runs.1 e (owns store cs stage (makes other ours closed none clear r))
    (stay store base cs runs.1 e held runs.4) (made store name d runs.0 runs.1 other runs.3
    (holds_at store base _ Idle d runs.0 held r runs.2))
holds_at store base cs stage d e held (permits {name = name} {ready = ready} {bytes = bytes} {durable = before} is r) runs =
    others_leave store cs stage d runs.1 e (owns store cs stage (permits is r)) (stay store base cs runs.1 e held runs.4)
    (same_stage store stage d runs.0 runs.1 runs.3 (holds_at store base _ (Beside name ready bytes before) d runs.0 held r runs.2))
holds_at store base cs stage d e held (forbids is r) runs =
    others_leave store cs stage d runs.1 e (owns store cs stage (forbids is r)) (stay store base cs runs.1 e held runs.4)
    (same_stage store stage d runs.0 runs.1 runs.3 (holds_at store base _ stage d runs.0 held r runs.2))
holds_at store base cs stage d e held (writes {name = name} {bytes = bytes} {written = written} r) runs =
    others_leave store cs stage d runs.1 e (owns store cs stage (writes r)) (stay store base cs runs.1 e held runs.4)
    (wrote store name written _ _ _ true d runs.0 runs.1 runs.3 (holds_at store base _ _ d runs.0 held r runs.2)
    (λ known is. (refl, bytes, refl, sym (one_known _ _ is))))
holds_at store base cs stage d e held (spoils {name = name} {written = written} r) runs =
    others_leave store cs stage d runs.1 e (owns store cs stage (spoils r)) (stay store base cs runs.1 e held runs.4)
    (wrote store name written _ _ _ false d runs.0 runs.1 runs.3 (holds_at store base _ _ d runs.0 held r runs.2)
    (λ known is. absurd (none_known _ is)))
holds_at store base cs stage d e held (syncs {name = name} {ready = ready} {bytes = bytes} {durable = before} {done = done} r) runs =
    others_leave store cs stage d runs.1 e (owns store cs stage (syncs r)) (stay store base cs runs.1 e held runs.4)
    (synced store name bytes before done d runs.0 runs.1 runs.3
    (holds_at store base _ (Beside name ready bytes before) d runs.0 held r runs.2))
holds_at store base cs stage d e held (places {name = name} {bytes = bytes} r) runs =
    others_leave store cs stage d runs.1 e tt (stay store base cs runs.1 e held runs.4)
    (placed store name bytes d runs.0 runs.1 runs.3 (holds_at store base _ _ d runs.0 held r runs.2))
holds_at store base cs stage d e held (stays r) runs =
    others_leave store cs stage d runs.1 e (owns store cs stage (stays r)) (stay store base cs runs.1 e held runs.4)
    (same_stage store stage d runs.0 runs.1 runs.3 (holds_at store base _ stage d runs.0 held r runs.2))
holds_at store base cs stage d e held (removes {name = name} r) runs =
    others_leave store cs stage d runs.1 e tt (stay store base cs runs.1 e held runs.4) (removed store name d runs.0 runs.1
    (owns store _ _ r).0 runs.3 (holds_at store base _ _ d runs.0 held r runs.2).0)
holds_at store base cs stage d e held (keeps r) runs =
    others_leave store cs stage d runs.1 e (owns store cs stage (keeps r)) (stay store base cs runs.1 e held runs.4)
    (same_stage store stage d runs.0 runs.1 runs.3 (holds_at store base _ stage d runs.0 held r runs.2))
holds_at store base cs stage d e held (folder_synced {bytes = bytes} r) runs =
    others_leave store cs stage d runs.1 e tt (stay store base cs runs.1 e held runs.4) (durable store bytes d runs.0 runs.1
    runs.3 (holds_at store base _ _ d runs.0 held r runs.2))
holds_at store base cs stage d e held (folder_unsynced r) runs =
    others_leave store cs stage d runs.1 e tt (stay store base cs runs.1 e held runs.4)
    (same_stage store stage d runs.0 runs.1 runs.3 (holds_at store base _ stage d runs.0 held r runs.2))

-- what a crash leaves at each stage, where the bytes are these
abbrev pub Tells : List ℕ → Stage → Type 0
Tells bytes Idle = ⊤
Tells bytes (Beside name ready known durable) = ⊤
Tells bytes (Placed placed) = placed ≡ bytes
Tells bytes (Durable durable) = durable ≡ bytes

left_same : (d e : Disk) (file : Option ℕ) (held : Option (List ℕ)) → ((number : ℕ) → file ≡ Some number
    → e.saved number ≡ d.saved number) → Leaves e file held → Leaves d file held
left_same d e None held same leaves = leaves
left_same d e (Some number) None same leaves = leaves
left_same d e (Some number) (Some bytes) same leaves = subst (λ (saved : Option (List ℕ)). IsLeft saved bytes) (same number refl) leaves

-- what leads nowhere else is left as it was
pub crash_same : (store : List ℕ) (d e : Disk) → IsSame store d e → (held : Option (List ℕ)) → MayHold e store held → MayHold d store held
crash_same store d e same held may =
    let among = subst (IsAmong may.file) same.names.1 may.among in
    record {
      file = may.file;
      among = among;
      leaves = left_same d e may.file held
          (λ number is. (same.files number (inr (subst (λ (f : Option ℕ). IsAmong f (d.left store)) is among))).1) may.leaves;
    }

-- a file that was brought to the disk is left whole
whole : (bytes : List ℕ) (e : Disk) (file : ℕ) (held : Option (List ℕ)) → e.saved file ≡ Some bytes
    → Leaves e (Some file) held → held ≡ Some bytes
whole bytes e file None saved leaves = absurd leaves
whole bytes e file (Some left) saved leaves = ap Some (subst (λ (saved : Option (List ℕ)). IsLeft saved left) saved leaves)

crash_placed : (store bytes : List ℕ) (d e : Disk) → IsPlaced store bytes d e → (held : Option (List ℕ))
    → MayHold e store held → MayHold d store held ⊎ (held ≡ Some bytes)
crash_placed store bytes d e p held may = from may.file (subst (IsAmong may.file) p.left may.among) may.leaves
  where
    from : (file : Option ℕ) → IsAmong file (Some p.file ∷ d.left store) → Leaves e file held → MayHold d store held ⊎ (held ≡ Some bytes)
    from file (inl new) leaves = inr (whole bytes e p.file held p.saved (subst (λ (f : Option ℕ). Leaves e f held) new leaves))
    from file (inr old) leaves = inl (record {
      file = file;
      among = old;
      leaves = left_same d e file held (λ number is. p.files number (subst (λ (f : Option ℕ). IsAmong f (d.left store)) is old)) leaves;
    })

pub crash_durable : (store bytes : List ℕ) (e : Disk) → IsDurable store bytes e → (held : Option (List ℕ))
    → MayHold e store held → held ≡ Some bytes
crash_durable store bytes e p held may = from may.file (subst (IsAmong may.file) p.left may.among) may.leaves
  where
    from : (file : Option ℕ) → IsAmong file (Some p.file ∷ []) → Leaves e file held → held ≡ Some bytes
    from file (inl new) leaves = whole bytes e p.file held p.saved (subst (λ (f : Option ℕ). Leaves e f held) new leaves)
    from file (inr none) leaves = absurd none

crash : (store bytes : List ℕ) (stage : Stage) (d e : Disk) → Tells bytes stage → Holds store stage d e
    → (held : Option (List ℕ)) → MayHold e store held → MayHold d store held ⊎ (held ≡ Some bytes)
crash store bytes Idle d e tells h held may = inl (crash_same store d e h held may)
crash store bytes (Beside name ready known durable) d e tells h held may = inl (crash_same store d e h.0 held may)
crash store bytes (Placed placed) d e tells h held may = ⊎_elim (λ old. inl old) (λ new. inr (new ∙ ap Some tells))
    (crash_placed store placed d e h held may)
crash store bytes (Durable durable) d e tells h held may = inr (crash_durable store durable e h held may ∙ ap Some tells)

-- a crash at the last moment
pub at_last : (store bytes : List ℕ) {folder : List ℕ} {access : Option Rights} (base cs : List Call) (stage : Stage)
    → IsLocked folder base → Tells bytes stage
    → Reaches store folder access cs stage → LeavesOldOrNew store folder bytes base cs
at_last store bytes base cs stage locked tells r d e runs held may =
    crash store bytes stage d e tells (holds_at store base cs stage d e locked r runs) held may

-- a crash at each moment
pub at_each : (store bytes : List ℕ) {folder : List ℕ} {access : Option Rights} (base cs : List Call) (stage : Stage)
    → IsLocked folder base → Tells bytes stage
    → Reaches store folder access cs stage → AtEachMoment (LeavesOldOrNew store folder bytes base) cs
at_each store bytes {folder = folder} {access = access} base cs stage locked tells begins =
    at_last store bytes {folder = folder} {access = access} base [] Idle locked tt begins
at_each store bytes base cs stage locked tells (locks r) =
    (at_last store bytes base cs stage locked tells (locks r), at_each store bytes base _ _ locked tells r)
at_each store bytes base cs stage locked tells (reads r) =
    (at_last store bytes base cs stage locked tells (reads r), at_each store bytes base _ _ locked tells r)
at_each store bytes base cs stage locked tells (lists r) =
    (at_last store bytes base cs stage locked tells (lists r), at_each store bytes base _ _ locked tt r)
at_each store bytes base cs stage locked tells (clears other ours r) =
    (at_last store bytes base cs stage locked tells (clears other ours r), at_each store bytes base _ _ locked tt r)
at_each store bytes base cs stage locked tells (misses other ours closed clear r) =
    (at_last store bytes base cs stage locked tells (misses other ours closed clear r), at_each store bytes base _ _ locked tt r)
at_each store bytes base cs stage locked tells (fails other ours closed clear r) =
    (at_last store bytes base cs stage locked tells (fails other ours closed clear r), at_each store bytes base _ _ locked tt r)
at_each store bytes base cs stage locked tells (makes other ours closed none clear r) =
    (at_last store bytes base cs stage locked tells (makes other ours closed none clear r), at_each store bytes base _ _ locked tt r)
at_each store bytes base cs stage locked tells (permits is r) =
    (at_last store bytes base cs stage locked tells (permits is r), at_each store bytes base _ _ locked tt r)
at_each store bytes base cs stage locked tells (forbids is r) =
    (at_last store bytes base cs stage locked tells (forbids is r), at_each store bytes base _ _ locked tt r)
at_each store bytes base cs stage locked tells (writes r) =
    (at_last store bytes base cs stage locked tells (writes r), at_each store bytes base _ _ locked tt r)
at_each store bytes base cs stage locked tells (spoils r) =
    (at_last store bytes base cs stage locked tells (spoils r), at_each store bytes base _ _ locked tt r)
at_each store bytes base cs stage locked tells (syncs r) =
    (at_last store bytes base cs stage locked tells (syncs r), at_each store bytes base _ _ locked tt r)
at_each store bytes base cs stage locked tells (places r) =
    (at_last store bytes base cs stage locked tells (places r), at_each store bytes base _ _ locked tt r)
at_each store bytes base cs stage locked tells (stays r) =
    (at_last store bytes base cs stage locked tells (stays r), at_each store bytes base _ _ locked tt r)
at_each store bytes base cs stage locked tells (removes r) =
    (at_last store bytes base cs stage locked tells (removes r), at_each store bytes base _ _ locked tt r)
at_each store bytes base cs stage locked tells (keeps r) =
    (at_last store bytes base cs stage locked tells (keeps r), at_each store bytes base _ _ locked tt r)
at_each store bytes base cs stage locked tells (folder_synced r) =
    (at_last store bytes base cs stage locked tells (folder_synced r), at_each store bytes base _ _ locked tells r)
at_each store bytes base cs stage locked tells (folder_unsynced r) =
    (at_last store bytes base cs stage locked tells (folder_unsynced r), at_each store bytes base _ _ locked tells r)

-- what killed runs have left is removed before a new file is made
pub clears_left : (store : List ℕ) {folder : List ℕ} {access : Option Rights} (cs : List Call) (stage : Stage)
    → Reaches store folder access cs stage → ClearsLeft folder cs
clears_left store cs stage begins = tt
clears_left store cs stage (locks r) = clears_left store _ _ r
clears_left store cs stage (reads r) = clears_left store _ _ r
clears_left store cs stage (lists r) = clears_left store _ _ r
clears_left store cs stage (clears other ours r) = clears_left store _ _ r
clears_left store cs stage (misses other ours closed clear r) = (clear, clears_left store _ _ r)
clears_left store cs stage (fails other ours closed clear r) = (clear, clears_left store _ _ r)
clears_left store cs stage (makes other ours closed none clear r) = (clear, clears_left store _ _ r)
clears_left store cs stage (permits is r) = clears_left store _ _ r
clears_left store cs stage (forbids is r) = clears_left store _ _ r
clears_left store cs stage (writes r) = clears_left store _ _ r
clears_left store cs stage (spoils r) = clears_left store _ _ r
clears_left store cs stage (syncs r) = clears_left store _ _ r
clears_left store cs stage (places r) = clears_left store _ _ r
clears_left store cs stage (stays r) = clears_left store _ _ r
clears_left store cs stage (removes r) = clears_left store _ _ r
clears_left store cs stage (keeps r) = clears_left store _ _ r
clears_left store cs stage (folder_synced r) = clears_left store _ _ r
clears_left store cs stage (folder_unsynced r) = clears_left store _ _ r

-- only what is this run's own is changed
pub only_own : (store : List ℕ) {folder : List ℕ} {access : Option Rights} (cs : List Call) (stage : Stage)
    → Reaches store folder access cs stage
    → ChangesOnlyOwn store cs
only_own store cs stage begins = tt
only_own store cs stage (locks r) = only_own store _ _ r
only_own store cs stage (reads r) = only_own store _ _ r
only_own store cs stage (lists r) = only_own store _ _ r
only_own store cs stage (clears other ours r) = (inr (other, ours), only_own store _ _ r)
only_own store cs stage (misses other ours closed clear r) = ((other, ours), only_own store _ _ r)
only_own store cs stage (fails other ours closed clear r) = ((other, ours), only_own store _ _ r)
only_own store cs stage (makes other ours closed none clear r) = ((other, ours), only_own store _ _ r)
only_own store cs stage (permits is r) = ((owns store _ _ r).1, only_own store _ _ r)
only_own store cs stage (forbids is r) = ((owns store _ _ r).1, only_own store _ _ r)
only_own store cs stage (writes r) = ((owns store _ _ r).1, only_own store _ _ r)
only_own store cs stage (spoils r) = ((owns store _ _ r).1, only_own store _ _ r)
only_own store cs stage (syncs r) = ((owns store _ _ r).1, only_own store _ _ r)
only_own store cs stage (places r) = (((owns store _ _ r).1, refl), only_own store _ _ r)
only_own store cs stage (stays r) = (((owns store _ _ r).1, refl), only_own store _ _ r)
only_own store cs stage (removes r) = (inl (owns store _ _ r).1, only_own store _ _ r)
only_own store cs stage (keeps r) = (inl (owns store _ _ r).1, only_own store _ _ r)
only_own store cs stage (folder_synced r) = only_own store _ _ r
only_own store cs stage (folder_unsynced r) = only_own store _ _ r

-- what is to be so before bytes are written into the file of a name
abbrev pub HasRights : Option Rights → List Call → List ℕ → Type 0
HasRights access cs name = (access ≡ None) ⊎ IsPermitted cs name

-- the file beside the store has the access, where it is said to
abbrev pub Readies : Option Rights → List Call → Stage → Type 0
Readies access cs Idle = ⊤
Readies access cs (Beside name ready bytes durable) = ready ≡ true → HasRights access cs name
Readies access cs (Placed bytes) = ⊤
Readies access cs (Durable bytes) = ⊤

none_is : (access : Option Rights) (ready : Bool) → ready ≡ is_none access → ready ≡ true → access ≡ None
none_is access ready is has = search rules

readies : (store : List ℕ) {folder : List ℕ} {access : Option Rights} (cs : List Call) (stage : Stage)
    → Reaches store folder access cs stage
    → Readies access cs stage
readies store cs stage begins = tt
readies store cs stage (locks {stage = Idle} r) = tt
readies store cs stage (locks {stage = Beside name ready bytes durable} r) = readies store _ _ r
readies store cs stage (locks {stage = Placed bytes} r) = tt
readies store cs stage (locks {stage = Durable bytes} r) = tt
readies store cs stage (reads {stage = Idle} r) = tt
readies store cs stage (reads {stage = Beside name ready bytes durable} r) = readies store _ _ r
readies store cs stage (reads {stage = Placed bytes} r) = tt
readies store cs stage (reads {stage = Durable bytes} r) = tt
readies store cs stage (lists r) = tt
readies store cs stage (clears other ours r) = tt
readies store cs stage (misses other ours closed clear r) = tt
readies store cs stage (fails other ours closed clear r) = tt
readies store cs stage (makes other ours closed none clear r) = λ has. inl (none_is _ _ none has)
readies store cs stage (permits is r) = λ has. inr (inl refl)
readies store cs stage (forbids is r) = readies store _ _ r
readies store cs stage (writes r) = readies store _ _ r
readies store cs stage (spoils r) = readies store _ _ r
readies store cs stage (syncs r) = readies store _ _ r
readies store cs stage (places r) = tt
readies store cs stage (stays r) = readies store _ _ r
readies store cs stage (removes r) = tt
readies store cs stage (keeps r) = readies store _ _ r
readies store cs stage (folder_synced r) = tt
readies store cs stage (folder_unsynced r) = tt

-- the new file has the access, before anything is written into it
pub keeps_access : (store : List ℕ) {folder : List ℕ} {access : Option Rights} (cs : List Call) (stage : Stage)
    → Reaches store folder access cs stage
    → KeepsAccess access cs
keeps_access store cs stage begins = tt
keeps_access store cs stage (locks r) = keeps_access store _ _ r
keeps_access store cs stage (reads r) = keeps_access store _ _ r
keeps_access store cs stage (lists r) = keeps_access store _ _ r
keeps_access store cs stage (clears other ours r) = keeps_access store _ _ r
keeps_access store cs stage (misses other ours closed clear r) = (closed, keeps_access store _ _ r)
keeps_access store cs stage (fails other ours closed clear r) = (closed, keeps_access store _ _ r)
keeps_access store cs stage (makes other ours closed none clear r) = (closed, keeps_access store _ _ r)
keeps_access store cs stage (permits is r) = (is, keeps_access store _ _ r)
keeps_access store cs stage (forbids is r) = (is, keeps_access store _ _ r)
keeps_access store cs stage (writes r) = (readies store _ _ r refl, keeps_access store _ _ r)
keeps_access store cs stage (spoils r) = (readies store _ _ r refl, keeps_access store _ _ r)
keeps_access store cs stage (syncs r) = keeps_access store _ _ r
keeps_access store cs stage (places r) = (readies store _ _ r refl, keeps_access store _ _ r)
keeps_access store cs stage (stays r) = (readies store _ _ r refl, keeps_access store _ _ r)
keeps_access store cs stage (removes r) = keeps_access store _ _ r
keeps_access store cs stage (keeps r) = keeps_access store _ _ r
keeps_access store cs stage (folder_synced r) = keeps_access store _ _ r
keeps_access store cs stage (folder_unsynced r) = keeps_access store _ _ r

-- this run's own file at a stage, if there is one
abbrev pub IsItsOwn : Stage → List ℕ → Type 0
IsItsOwn Idle name = ⊥
IsItsOwn (Beside own ready bytes durable) name = name ≡ own
IsItsOwn (Placed bytes) name = ⊥
IsItsOwn (Durable bytes) name = ⊥

-- this run has one file of its own at most: the one beside the store
pub one_own : (store : List ℕ) {folder : List ℕ} {access : Option Rights} (cs : List Call) (stage : Stage) (name : List ℕ)
    → Reaches store folder access cs stage → IsOwn cs name → IsItsOwn stage name
one_own store cs stage name begins own = own
one_own store cs stage name (locks r) own = one_own store _ _ name r own
one_own store cs stage name (reads r) own = one_own store _ _ name r own
one_own store cs stage name (lists r) own = one_own store _ Idle name r own
one_own store cs stage name (clears {done = true} other ours r) own = one_own store _ Idle name r own.1
one_own store cs stage name (clears {done = false} other ours r) own = one_own store _ Idle name r own
one_own store cs stage name (misses other ours closed clear r) own = one_own store _ Idle name r own
one_own store cs stage name (fails other ours closed clear r) own = one_own store _ Idle name r own
one_own store cs stage name (makes other ours closed none clear r) (inl is) = is
one_own store cs stage name (makes other ours closed none clear r) (inr own) = absurd (one_own store _ Idle name r own)
one_own store cs stage name (permits is r) own = one_own store _ _ name r own
one_own store cs stage name (forbids is r) own = one_own store _ _ name r own
one_own store cs stage name (writes r) own = one_own store _ _ name r own
one_own store cs stage name (spoils r) own = one_own store _ _ name r own
one_own store cs stage name (syncs r) own = one_own store _ _ name r own
one_own store cs stage name (places r) own = own.0 (one_own store _ _ name r own.1)
one_own store cs stage name (stays r) own = one_own store _ _ name r own
one_own store cs stage name (removes r) own = own.0 (one_own store _ _ name r own.1)
one_own store cs stage name (keeps r) own = one_own store _ _ name r own
one_own store cs stage name (folder_synced r) own = one_own store _ _ name r own
one_own store cs stage name (folder_unsynced r) own = one_own store _ _ name r own

-- the bytes of the file to which a name leads
held_same : (store : List ℕ) (d e : Disk) (file : Option ℕ) → d.entry store ≡ file → ((number : ℕ) → file ≡ Some number
    → e.bytes number ≡ d.bytes number) → option_map e.bytes file ≡ option_map d.bytes file
held_same store d e None leads same = refl
held_same store d e (Some number) leads same = ap Some (same number refl)

pub holds_same : (store : List ℕ) (d e : Disk) → IsSame store d e → holds e store ≡ holds d store
holds_same store d e same =
    ap (λ (f : Option ℕ). option_map e.bytes f) same.names.0
    ∙ held_same store d e (d.entry store) refl (λ number is. (same.files number (inl is)).0)

pub is_kept : (store : List ℕ) (d e : Disk) → IsSame store d e → IsUnchanged store d e
is_kept store d e same = record { holds_old = holds_same store d e same; leaves_old = crash_same store d e same }

pub holds_file : (store bytes : List ℕ) (e : Disk) (file : ℕ) → e.entry store ≡ Some file → e.bytes file ≡ bytes
    → holds e store ≡ Some bytes
holds_file store bytes e file leads content = ap (λ (f : Option ℕ). option_map e.bytes f) leads ∙ ap Some content
