-- What is noted while a file is read.
use Rattle.std.proofs.Common.{◌≡◌, ◌≢◌, inr, refl, ap, ◌∙◌, ℕ, zero, suc, arith, ◌≤◌, List}
use Rattle.std.proofs.Common.{[], ◌∷◌, ◌++◌, length, take, Some, append_assoc, append-nil}
use Rattle.wfolder.specs.Call.{Call, Locked, Checked, Found, Listed, Created, Permitted, Wrote, Synced, Moved, SyncedFolder, Removed}
use Rattle.wfolder.specs.Call.{Began, Taken, Followed}
use Rattle.wfiles.specs.Noting.{read_on}
use Rattle.wfiles.specs.Reading.{MayBegin, ReadsMore, read_more, read_to_end}

-- nothing more
pub reads_none : (cs : List Call) → read_more [] cs ≡ cs
reads_none [] = refl
reads_none (Began name bytes ∷ cs) = ap (λ bs. Began name bs ∷ cs) (append-nil bytes)
reads_none (Locked folder done ∷ cs) = refl
reads_none (Followed path behind ∷ cs) = refl
reads_none (Checked name access ∷ cs) = refl
reads_none (Found name held ∷ cs) = refl
reads_none (Listed folder names ∷ cs) = refl
reads_none (Created name closed done ∷ cs) = refl
reads_none (Taken name closed ∷ cs) = refl
reads_none (Permitted name rights done ∷ cs) = refl
reads_none (Wrote name bytes done ∷ cs) = refl
reads_none (Synced name done ∷ cs) = refl
reads_none (Moved from to done ∷ cs) = refl
reads_none (SyncedFolder done ∷ cs) = refl
reads_none (Removed name done ∷ cs) = refl

-- some bytes, and then the next ones
goes_on : (bytes : List ℕ) (b : ℕ) (block : List ℕ) (cs : List Call) → read_on (b ∷ block) (read_more bytes cs)
    ≡ read_more (bytes ++ b ∷ block) cs
goes_on bytes b block [] = refl
goes_on bytes b block (Began name before ∷ cs) = ap (λ bs. Began name bs ∷ cs) (append_assoc before bytes (b ∷ block))
goes_on bytes b block (Locked folder done ∷ cs) = refl
goes_on bytes b block (Followed path behind ∷ cs) = refl
goes_on bytes b block (Checked name access ∷ cs) = refl
goes_on bytes b block (Found name held ∷ cs) = refl
goes_on bytes b block (Listed folder names ∷ cs) = refl
goes_on bytes b block (Created name closed done ∷ cs) = refl
goes_on bytes b block (Taken name closed ∷ cs) = refl
goes_on bytes b block (Permitted name rights done ∷ cs) = refl
goes_on bytes b block (Wrote name written done ∷ cs) = refl
goes_on bytes b block (Synced name done ∷ cs) = refl
goes_on bytes b block (Moved from to done ∷ cs) = refl
goes_on bytes b block (SyncedFolder done ∷ cs) = refl
goes_on bytes b block (Removed name done ∷ cs) = refl

-- none, at the end
stops : (cs : List Call) → read_on [] cs ≡ read_to_end cs
stops [] = refl
stops (Began name bytes ∷ cs) = refl
stops (Locked folder done ∷ cs) = refl
stops (Followed path behind ∷ cs) = refl
stops (Checked name access ∷ cs) = refl
stops (Found name held ∷ cs) = refl
stops (Listed folder names ∷ cs) = refl
stops (Created name closed done ∷ cs) = refl
stops (Taken name closed ∷ cs) = refl
stops (Permitted name rights done ∷ cs) = refl
stops (Wrote name written done ∷ cs) = refl
stops (Synced name done ∷ cs) = refl
stops (Moved from to done ∷ cs) = refl
stops (SyncedFolder done ∷ cs) = refl
stops (Removed name done ∷ cs) = refl

-- a read that gave some bytes
pub reads_on : (n : ℕ) (block bytes : List ℕ) (old cs new : List Call) → n ≢ 0 → n ≤ length block → cs ≡ read_more bytes old
    → new ≡ read_on (take n block) cs → new ≡ read_more (bytes ++ take n block) old
reads_on zero block bytes old cs new some bound before is = absurd (some refl)
reads_on (suc n) [] bytes old cs new some bound before is = absurd (omega (arith, bound))
reads_on (suc n) (b ∷ block) bytes old cs new some bound before is = is ∙ ap (λ cs. read_on (b ∷ take n block) cs) before
    ∙ goes_on bytes b (take n block) old

pub reads_some : (n : ℕ) (block bytes : List ℕ) (old cs new : List Call) → n ≢ 0 → n ≤ length block
    → cs ≡ read_more bytes old → new ≡ read_on (take n block) cs → ReadsMore old new
reads_some n block bytes old cs new some bound before is = (bytes ++ take n block, reads_on n block bytes old cs new some bound before is)

-- a read that gave none
pub reads_end : (n : ℕ) (block bytes : List ℕ) (old cs new : List Call) → n ≡ 0 → cs ≡ read_more bytes old
    → new ≡ read_on (take n block) cs → new ≡ read_to_end (read_more bytes old)
reads_end n block bytes old cs new none before is = is ∙ ap (λ n. read_on (take n block) cs) none ∙ stops cs ∙ ap read_to_end before

-- a reading that was begun and not ended
pub may_begin : (path : List ℕ) (old begun new : List Call) → begun ≡ Began path [] ∷ old → ReadsMore begun new → MayBegin path old new
may_begin path old begun new is more = inr (more.0, more.1 ∙ ap (read_more more.0) is)

-- one that was read to its end
pub found_whole : (path bytes : List ℕ) (old begun new : List Call) → begun ≡ Began path [] ∷ old
    → new ≡ read_to_end (read_more bytes begun) → new ≡ Found path (Some bytes) ∷ old
found_whole path bytes old begun new is read = read ∙ ap (λ cs. read_to_end (read_more bytes cs)) is
