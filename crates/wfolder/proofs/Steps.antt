-- How a run goes from stage to stage, a call at a time.
use Rattle.std.specs.Prelude.{is_ok, is_none, is_some, option_map}
use Rattle.std.proofs.Common.{◌≡◌, ◌≢◌, inl, inr, ℕ, ◌+◌, arith, Bool, true, false, List, [], ◌∷◌, ◌++◌, Option, Some, None}
use Rattle.std.proofs.Common.{Result, Ok, Err, OnOk, IfOk, IfErr, refl, sym, subst, ap, ◌∙◌}
use Rattle.std.proofs.Common.{◌<◌, get_or, length, map, take}
use Rattle.std.proofs.lemmas.List.{map_more}
use Rattle.std.proofs.lemmas.List.Elements.{All-nil, All-push, All-weaker}
use Rattle.wfolder.specs.Call.{Call, Rights, Locked, Checked, Found, Listed, Created, Taken, Permitted, Wrote}
use Rattle.wfolder.specs.Call.{Synced, Moved, SyncedFolder, Removed, Began, Followed, made_or_taken}
use Rattle.wfolder.specs.Calls.{HasRefusal, HasTaken, tries}
use Rattle.wfolder.specs.Clearing.{HasCleared, IsClearing, IsTried}
use Rattle.wfolder.specs.Names.{IsNewBeside, IsNewName, Site, numbered_path}
use Rattle.wfolder.specs.declared.fault.Fault.{Fault}
use Rattle.wfolder.specs.declared.fault.Fault.TheVariants as faults
use Rattle.wfolder.specs.Order.{Stage, Idle, Beside, Placed, Reaches, After, Refused, Brings, LeavesBeside, LeavesIdle, MakesNew}
use Rattle.wfolder.specs.Order.{Clearing, Clears, ClearsOne, GivesUp, Makes, Tried, Tries, new_file}
use Rattle.wfolder.specs.Order.{lists, clears, misses, fails, makes, permits, forbids, writes, spoils, syncs, places, stays}

-- one call more
pub after : {site : Site} {base old new : List Call} {from to : Stage} (c : Call) → new ≡ c ∷ old
    → ((cs : List Call) → Reaches site.path site.folder site.access cs from → Reaches site.path site.folder site.access (c ∷ cs) to)
    → After site base old from → After site base new to
after c is goes a = record { since = c ∷ a.since; is = is ∙ ap (λ cs. c ∷ cs) a.is; reaches = goes a.since a.reaches }

-- a fault of a call that writes, or reads
pub by_write : (folder : List ℕ) (fault : Fault) (cs : List Call) → fault ≢ faults.Read → HasRefusal folder faults.Write cs
    → HasRefusal folder fault cs
by_write folder faults.Read cs other refusal = absurd (other refl)
by_write folder faults.Write cs other refusal = refusal
by_write folder faults.NoMemory cs other refusal = tt

pub by_read : (folder : List ℕ) (fault : Fault) (cs : List Call) → fault ≢ faults.Write → HasRefusal folder faults.Read cs
    → HasRefusal folder fault cs
by_read folder faults.Read cs other refusal = refusal
by_read folder faults.Write cs other refusal = absurd (other refl)
by_read folder faults.NoMemory cs other refusal = tt

-- a removal is no refusal
pub behind_removal : (folder : List ℕ) (fault : Fault) (name : List ℕ) (done : Bool) (cs : List Call) → HasRefusal folder fault cs
    → HasRefusal folder fault (Removed name done ∷ cs)
behind_removal folder faults.Read name done cs refusal = refusal
behind_removal folder faults.Write name done cs refusal = refusal
behind_removal folder faults.NoMemory name done cs refusal = refusal

-- all names were taken
all_taken : (folder : List ℕ) (cs : List Call) → HasTaken folder tries cs → HasRefusal folder faults.Write cs
all_taken folder [] taken = absurd taken
all_taken folder (Taken name closed ∷ cs) taken = taken
all_taken folder (Locked at done ∷ cs) taken = absurd taken
all_taken folder (Followed path behind ∷ cs) taken = absurd taken
all_taken folder (Checked name access ∷ cs) taken = absurd taken
all_taken folder (Found name held ∷ cs) taken = absurd taken
all_taken folder (Began name bytes ∷ cs) taken = absurd taken
all_taken folder (Listed at names ∷ cs) taken = absurd taken
all_taken folder (Created name closed done ∷ cs) taken = absurd taken
all_taken folder (Permitted name rights done ∷ cs) taken = absurd taken
all_taken folder (Wrote name written done ∷ cs) taken = absurd taken
all_taken folder (Synced name done ∷ cs) taken = absurd taken
all_taken folder (Moved from to done ∷ cs) taken = absurd taken
all_taken folder (SyncedFolder done ∷ cs) taken = absurd taken
all_taken folder (Removed name done ∷ cs) taken = absurd taken

pub goes_on : {site : Site} {old mid new : List Call} {from to end : Stage} → Brings site old from mid to
    → Brings site mid to new end → Brings site old from new end
goes_on first then base a = then base (first base a)

pub remains : {site : Site} {old new : List Call} {stage : Stage} → new ≡ old → Brings site old stage new stage
remains is base a = record { since = a.since; is = is ∙ a.is; reaches = a.reaches }

-- at want of memory no call was refused
pub lacks : {site : Site} {fault : Fault} {old new : List Call} → fault ≡ faults.NoMemory → new ≡ old → LeavesIdle site fault old new
lacks {site = site} {new = new} is same base a =
    subst (λ (f : Fault). Refused site f base new Idle) (sym is) (record { after = remains same base a; refusal = tt })

-- a refusal behind other calls
pub then_leaves : {site : Site} {fault : Fault} {old mid new : List Call} → Brings site old Idle mid Idle
    → LeavesIdle site fault mid new → LeavesIdle site fault old new
then_leaves first then base a = then base (first base a)

pub behind : {A : Type 0} (site : Site) (old mid new : List Call) (r : Result A Fault) → Clears site old mid
    → IfErr r (λ fault. GivesUp site fault mid new) → IfErr r (λ fault. LeavesIdle site fault old new)
behind site old mid new (Ok v) first left = tt
behind site old mid new (Err fault) first left = λ base a. left 0 base (first base a)

pub begun : {A : Type 0} (f : A → List ℕ) (site : Site) (old mid new : List Call) (r : Result A Fault) → Clears site old mid
    → IfOk r (λ name. Makes site mid new (f name)) → IfOk r (λ name. Brings site old Idle new (new_file site (f name)))
begun f site old mid new (Ok v) first then = λ base a. then 0 base (first base a)
begun f site old mid new (Err fault) first then = tt

-- a try by the number of its name
pub made_at : {A : Type 0} (f : A → List ℕ) (site : Site) (path at : List ℕ) (old new : List Call) (r : Result (Option A) Fault)
    → path ≡ at → IfOk r (λ found. MakesNew site path old new (option_map f found))
    → IfOk r (λ found. MakesNew site at old new (option_map f found))
made_at f site path at old new r is made =
    subst (λ (p : List ℕ). IfOk r (λ found. MakesNew site p old new (option_map f found))) is made

-- no try yet, and one more
anew : {site : Site} {count : ℕ} {base now : List Call} → Tried site count base now → Tried site 0 base now
anew t = record { after = t.after; cleared = t.cleared; taken = tt }

pub untried : {site : Site} {cs : List Call} → Tries site 0 cs cs
untried base t = t

pub then_tried : {site : Site} {path : List ℕ} {count : ℕ} {old mid new : List Call} → Tries site count old mid
    → path ≡ numbered_path site.folder count → MakesNew site path mid new None → Tries site (count + 1) old new
then_tried {site = site} {count = count} {new = new} tried is missed base t =
    subst (λ (n : ℕ). Tried site n base new) (omega (arith)) (missed count is base (tried base t))

pub then_made : {site : Site} (path : List ℕ) {name : List ℕ} {count : ℕ} {old mid new : List Call} → Tries site count old mid
    → MakesNew site path mid new (Some name) → Makes site old new name
then_made path {count = count} tried made any base t = made count base (tried base (anew t))

pub then_gives_up : {site : Site} {fault : Fault} {count : ℕ} {old mid new : List Call} → Tries site count old mid
    → GivesUp site fault mid new → GivesUp site fault old new
then_gives_up {count = count} tried left any base t = left count base (tried base (anew t))

pub lacks_tried : {site : Site} {fault : Fault} {old new : List Call} → fault ≡ faults.NoMemory → new ≡ old → GivesUp site fault old new
lacks_tried is same count base t = lacks is same base t.after

-- all names were taken
pub misplaced : {site : Site} {fault : Fault} {count : ℕ} {old mid new : List Call} → fault ≡ faults.Write → new ≡ mid → count ≡ tries
    → Tries site count old mid → GivesUp site fault old new
misplaced {site = site} {count = count} {old = old} {new = new} is same all tried =
    subst (λ (f : Fault). GivesUp site f old new) (sym is)
    (subst (λ (cs : List Call). GivesUp site faults.Write old cs) (sym same) (λ any base before.
    let t = tried base (anew before) in
    record {
      after = t.after;
      refusal = all_taken site.folder t.after.since (subst (λ (n : ℕ). HasTaken site.folder n t.after.since) all t.taken);
    }))

-- a removal that was tried before a call is tried behind it
tried_on : (path : List ℕ) (c : Call) (cs : List Call) → IsTried path cs → IsTried path (c ∷ cs)
tried_on path (Locked at done) cs tried = tried
tried_on path (Followed link behind) cs tried = tried
tried_on path (Checked name access) cs tried = tried
tried_on path (Found name held) cs tried = tried
tried_on path (Began name bytes) cs tried = tried
tried_on path (Listed folder names) cs tried = tried
tried_on path (Created name closed done) cs tried = tried
tried_on path (Taken name closed) cs tried = tried
tried_on path (Permitted name rights done) cs tried = tried
tried_on path (Wrote name written done) cs tried = tried
tried_on path (Synced name done) cs tried = tried
tried_on path (Moved from to done) cs tried = tried
tried_on path (SyncedFolder done) cs tried = tried
tried_on path (Removed name done) cs tried = inr tried

clearing_on : (folder : List ℕ) (names some : List (List ℕ)) (c : Call) (cs : List Call) → IsClearing folder names some cs
    → IsClearing folder names some (c ∷ cs)
clearing_on folder names some c cs k = record {
  since = c ∷ k.since;
  before = k.before;
  is = ap (λ (cs : List Call). c ∷ cs) k.is;
  tried = All-weaker (λ name. IsNewName name → IsTried (folder ++ 47 ∷ name) k.since)
      (λ name. IsNewName name → IsTried (folder ++ 47 ∷ name) (c ∷ k.since))
      (λ name tried new. tried_on (folder ++ 47 ∷ name) c k.since (tried new)) some k.tried;
}

cleared_on : (folder : List ℕ) (c : Call) (cs : List Call) → HasCleared folder cs → HasCleared folder (c ∷ cs)
cleared_on folder c cs k = (k.0, clearing_on folder k.0 k.0 c cs k.1)

-- the names are listed, or not
pub listed : (site : Site) {folder : List ℕ} {names told : List (List ℕ)} {old new : List Call} → folder ≡ site.folder → told ≡ names
    → new ≡ Listed folder (Some told) ∷ old → (base : List Call) → After site base old Idle → Clearing site names [] base new
unfolding after
listed site {folder = folder} {names = names} {old = old} at is_told is base a = record {
  after = after (Listed site.folder (Some names)) (is ∙ ap (λ (told : List (List ℕ)). Listed folder (Some told) ∷ old) is_told
      ∙ ap (λ (f : List ℕ). Listed f (Some names) ∷ old) at) (λ cs r. lists r) a;
  clearing = record {
    since = [];
    before = a.since;
    is = refl;
    tried = All-nil (λ name. IsNewName name → IsTried (site.folder ++ 47 ∷ name) []);
  };
}

-- the next name of a list
pub next_name : {A : Type 0} (f : A → List ℕ) (xs : List A) (i : ℕ) (x : A) (name : List ℕ) → i < length xs → x ≡ get_or xs i x
    → name ≡ f x → map f (take (i + 1) xs) ≡ map f (take i xs) ++ name ∷ []
next_name f xs i x name bound at is =
    map_more f xs i x bound ∙ ap (λ (n : List ℕ). map f (take i xs) ++ n ∷ []) (ap f (sym at) ∙ sym is)

-- one more of them is cleared
pub next_cleared : (site : Site) (names some more : List (List ℕ)) (name : List ℕ) {old mid new : List Call} → more ≡ some ++ name ∷ []
    → ((base : List Call) → After site base old Idle → Clearing site names some base mid) → ClearsOne site name mid new
    → (base : List Call) → After site base old Idle → Clearing site names more base new
next_cleared site names some more name {new = new} is first then base a =
    subst (λ (some : List (List ℕ)). Clearing site names some base new) (sym is) (then names some base (first base a))

-- all of them are cleared
pub all_cleared : {site : Site} {names some : List (List ℕ)} {base now : List Call} → some ≡ names → Clearing site names some base now
    → Tried site 0 base now
all_cleared {site = site} {names = names} is k = record {
  after = k.after;
  cleared = (names, subst (λ (some : List (List ℕ)). IsClearing site.folder names some k.after.since) is k.clearing);
  taken = tt;
}

pub unlisted : {site : Site} {fault : Fault} {folder : List ℕ} {old new : List Call} → fault ≢ faults.Write
    → new ≡ Listed folder None ∷ old → LeavesIdle site fault old new
unfolding after
unlisted {site = site} {fault = fault} {folder = folder} other is base a = record {
  after = after (Listed folder None) is (λ cs r. lists r) a;
  refusal = by_read site.folder fault _ other tt;
}

-- whether there is an access
pub some_mapped : {A B : Type 0} (f : A → B) (o : Option A) (p : Option B) → option_map f o ≡ p → is_some o ≡ is_some p
some_mapped f None p is = ap is_some is
some_mapped f (Some a) p is = ap is_some is

-- one call more, behind just these
after_these : {site : Site} {base old new : List Call} {from to : Stage} (c : Call) → new ≡ c ∷ old → (a : After site base old from)
    → Reaches site.path site.folder site.access (c ∷ a.since) to → After site base new to
after_these c is a reaches = record { since = c ∷ a.since; is = is ∙ ap (λ cs. c ∷ cs) a.is; reaches = reaches }

-- a name that is free, or taken
pub created : {site : Site} {name at : List ℕ} {old new : List Call} {made closed : Bool} → made ≡ true → at ≡ name
    → name ≢ site.path → IsNewBeside site.path name → closed ≡ is_some site.access → new ≡ made_or_taken at closed made ∷ old
    → Makes site old new name
created {name = name} {at = at} {old = old} {closed = closed} is_made is_at other ours is_closed is count base t =
    after_these (Created name closed true) (is ∙ ap (λ (made : Bool). made_or_taken at closed made ∷ old) is_made
    ∙ ap (λ (at : List ℕ). Created at closed true ∷ old) is_at) t.after (makes other ours is_closed refl t.cleared t.after.reaches)

pub missed : {site : Site} {name at : List ℕ} {old new : List Call} {made closed : Bool} → made ≡ false → at ≡ name
    → name ≢ site.path → IsNewBeside site.path name → closed ≡ is_some site.access → new ≡ made_or_taken at closed made ∷ old
    → MakesNew site name old new None
unfolding after_these
missed {site = site} {name = name} {at = at} {old = old} {closed = closed} is_missed is_at other ours is_closed is count path base t =
    record {
      after = after_these (Taken name closed) (is ∙ ap (λ (made : Bool). made_or_taken at closed made ∷ old) is_missed
          ∙ ap (λ (at : List ℕ). Taken at closed ∷ old) is_at) t.after (misses other ours is_closed t.cleared t.after.reaches);
      cleared = cleared_on site.folder (Taken name closed) t.after.since t.cleared;
      taken = (path, t.taken);
    }

-- a file that is not made
pub unmade : {site : Site} {fault : Fault} {name at : List ℕ} {old new : List Call} {closed : Bool} → fault ≢ faults.Read
    → at ≡ name → name ≢ site.path → IsNewBeside site.path name → closed ≡ is_some site.access
    → new ≡ Created at closed false ∷ old → GivesUp site fault old new
unfolding after_these
unmade {site = site} {fault = fault} {name = name} {at = at} {old = old} {closed = closed} kind is_at other ours is_closed is
    count base t = record {
      after = after_these (Created name closed false) (is ∙ ap (λ (at : List ℕ). Created at closed false ∷ old) is_at) t.after
          (fails other ours is_closed t.cleared t.after.reaches);
      refusal = by_write site.folder fault _ kind tt;
    }

-- what a run that was killed has left
pub cleared : {site : Site} (name : List ℕ) {path at : List ℕ} {old new : List Call} {done : Bool} → at ≡ path
    → IsNewBeside site.path path × (path ≢ site.path) → path ≡ site.folder ++ 47 ∷ name → new ≡ Removed at done ∷ old
    → ClearsOne site name old new
unfolding after_these clearing_on
cleared {site = site} name {path = path} {old = old} {done = done} is_at ours here is names some base k =
    let before = k.clearing in
    record {
      after = after_these (Removed path done) (is ∙ ap (λ (at : List ℕ). Removed at done ∷ old) is_at) k.after
          (clears ours.1 ours.0 k.after.reaches);
      clearing = record {
        since = Removed path done ∷ before.since;
        before = before.before;
        is = ap (λ (cs : List Call). Removed path done ∷ cs) before.is;
        tried = All-push (λ name. IsNewName name → IsTried (site.folder ++ 47 ∷ name) (Removed path done ∷ before.since)) some name
            (clearing_on site.folder names some (Removed path done) k.after.since before).tried
            (λ new. inl (sym here));
      };
    }

-- a name that new files have not
pub let_be : {site : Site} {name : List ℕ} {old new : List Call} → (IsNewName name → ⊥) → new ≡ old → ClearsOne site name old new
unfolding remains
let_be {site = site} {name = name} plain is names some base k = record {
  after = remains is base k.after;
  clearing = record {
    since = k.clearing.since;
    before = k.clearing.before;
    is = k.clearing.is;
    tried = All-push (λ name. IsNewName name → IsTried (site.folder ++ 47 ∷ name) k.clearing.since) some name k.clearing.tried
        (λ new. absurd (plain new));
  };
}

-- the access is given, where there is one
pub permitted : {A E : Type 0} (site : Site) {name : List ℕ} {rights : Rights} {old new : List Call} (r : Result A E)
    → Some rights ≡ site.access → new ≡ Permitted name rights (is_ok r) ∷ old
    → OnOk r (Brings site old (new_file site name) new (Beside name true (Some []) false))
permitted site {name = name} {rights = rights} (Ok v) has is = λ base a.
    after (Permitted name rights true) is (λ cs r. permits (sym has) r) a
permitted site (Err e) has is = tt

pub unpermitted : {A : Type 0} (site : Site) {name : List ℕ} {rights : Rights} {old new : List Call} (r : Result A Fault)
    → IfErr r (λ fault. fault ≢ faults.Read) → Some rights ≡ site.access → new ≡ Permitted name rights (is_ok r) ∷ old
    → IfErr r (λ fault. LeavesBeside site name fault old new)
unfolding after
unpermitted site (Ok v) kind has is = tt
unpermitted site {name = name} {rights = rights} (Err fault) kind has is = λ base a. record {
  ready = is_none site.access;
  bytes = Some [];
  durable = false;
  refused = record {
    after = after (Permitted name rights false) is (λ cs r. forbids (sym has) r) a;
    refusal = by_write site.folder fault _ kind tt;
  };
}

none_ready : (access : Option Rights) → None ≡ access → is_none access ≡ true
none_ready access is = ap is_none (sym is)

pub unasked : {site : Site} {name : List ℕ} {old : List Call} → None ≡ site.access
    → Brings site old (new_file site name) old (Beside name true (Some []) false)
unasked {site = site} {name = name} {old = old} none base a =
    subst (λ (ready : Bool). After site base old (Beside name ready (Some []) false)) (none_ready site.access none) a

-- the bytes are written
pub wrote : {site : Site} {name bytes : List ℕ} {old new : List Call} → new ≡ Wrote name bytes true ∷ old
    → Brings site old (Beside name true (Some []) false) new (Beside name true (Some bytes) false)
wrote {name = name} {bytes = bytes} is base a = after (Wrote name bytes true) is (λ cs r. writes r) a

pub unwritten : {site : Site} {name bytes : List ℕ} {fault : Fault} {old mid new : List Call} → fault ≢ faults.Read
    → Brings site old (new_file site name) mid (Beside name true (Some []) false) → new ≡ Wrote name bytes false ∷ mid
    → LeavesBeside site name fault old new
unfolding after
unwritten {site = site} {name = name} {bytes = bytes} {fault = fault} kind first is base a = record {
  ready = true;
  bytes = None;
  durable = false;
  refused = record {
    after = after (Wrote name bytes false) is (λ cs r. spoils r) (first base a);
    refusal = by_write site.folder fault _ kind tt;
  };
}

pub filled : {A E : Type 0} {site : Site} {name bytes : List ℕ} {from : Stage} {old mid new : List Call} (r : Result A E)
    → Brings site old from mid (Beside name true (Some bytes) false) → new ≡ Synced name (is_ok r) ∷ mid
    → OnOk r (Brings site old from new (Beside name true (Some bytes) true))
filled {name = name} (Ok v) first is = λ base a. after (Synced name true) is (λ cs r. syncs r) (first base a)
filled (Err e) first is = tt

pub unfilled : {A : Type 0} {site : Site} {name bytes : List ℕ} {old mid new : List Call} (r : Result A Fault)
    → IfErr r (λ fault. fault ≢ faults.Read) → Brings site old (new_file site name) mid (Beside name true (Some bytes) false)
    → new ≡ Synced name (is_ok r) ∷ mid → IfErr r (λ fault. LeavesBeside site name fault old new)
unfolding after
unfilled (Ok v) kind first is = tt
unfilled {site = site} {name = name} {bytes = bytes} (Err fault) kind first is = λ base a. record {
  ready = true;
  bytes = Some bytes;
  durable = false;
  refused = record {
    after = after (Synced name false) is (λ cs r. syncs r) (first base a);
    refusal = by_write site.folder fault _ kind tt;
  };
}

pub placed : {A E : Type 0} {site : Site} {to name bytes : List ℕ} {from : Stage} {old mid new : List Call} (r : Result A E)
    → to ≡ site.path → Brings site old from mid (Beside name true (Some bytes) true) → new ≡ Moved name to (is_ok r) ∷ mid
    → OnOk r (Brings site old from new (Placed bytes))
placed {site = site} {name = name} {mid = mid} (Ok v) is_to first is = λ base a.
    after (Moved name site.path true) (is ∙ ap (λ (to : List ℕ). Moved name to true ∷ mid) is_to) (λ cs r. places r) (first base a)
placed (Err e) is_to first is = tt

pub unplaced : {A : Type 0} {site : Site} {to name bytes : List ℕ} {old mid new : List Call} (r : Result A Fault)
    → IfErr r (λ fault. fault ≢ faults.Read) → to ≡ site.path
    → Brings site old (new_file site name) mid (Beside name true (Some bytes) true) → new ≡ Moved name to (is_ok r) ∷ mid
    → IfErr r (λ fault. LeavesBeside site name fault old new)
unfolding after
unplaced (Ok v) kind is_to first is = tt
unplaced {site = site} {name = name} {bytes = bytes} {mid = mid} (Err fault) kind is_to first is = λ base a. record {
  ready = true;
  bytes = Some bytes;
  durable = true;
  refused = record {
    after = after (Moved name site.path false) (is ∙ ap (λ (to : List ℕ). Moved name to false ∷ mid) is_to)
        (λ cs r. stays r) (first base a);
    refusal = by_write site.folder fault _ kind tt;
  };
}
