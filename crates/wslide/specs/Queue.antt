-- What a queue holds, and what keeps it in step with a fold.
use Rattle.std.specs.Prelude.{◌≡◌, ◌≤◌, ◌+◌, ℕ, List, ◌++◌, reverse, length, vec_len, All}
use Rattle.wslide.specs.Laws.{total}
use Rattle.wslide.specs.Stacks.{running}
use Rattle.wslide.specs.declared.queue.FoldQueue.{FoldQueue}
use Rattle.wslide.specs.declared.frames.FrameQueues.{FrameQueues}

-- how many parts it holds
abbrev pub part_count : {P : Type 0} → FoldQueue P → ℕ
part_count q = vec_len q.front + vec_len q.back

-- how many parts it has room for
abbrev pub capacity : {P : Type 0} → FoldQueue P → ℕ
capacity q = q.limit

-- how many joins the parts have still to come, at most one for each part
abbrev pub owed : {P : Type 0} → FoldQueue P → ℕ
owed q = vec_len q.back

-- what it keeps, of single parts and of several, are parts
pub record KeepsParts {P : Type 0} (is_part : P → Type 0) (q : FoldQueue P) : Type 0 where
  pub front : All is_part q.front.items
  pub back : All is_part q.back.items
  pub back_fold : is_part q.back_fold

-- the queue was filled by this fold, and these parts are what it holds, the oldest first
pub record IsFilledBy {P : Type 0} (is_part : P → Type 0) (neutral : P) (joined : P → P
    → P) (held : List P) (q : FoldQueue P) : Type 0 where
  pub kept : KeepsParts is_part q
  -- the older ones, the newest first, of which it keeps folds alone
  pub older : List P
  pub older_parts : All is_part older
  pub front : q.front.items ≡ running joined neutral older
  pub back_fold : q.back_fold ≡ total neutral joined q.back.items
  pub parts : held ≡ reverse older ++ q.back.items
  pub count : length held ≡ part_count q

-- both queues have room for the parts of so many rows
pub record HasRoom {P : Type 0} (rows : ℕ) (q : FrameQueues P) : Type 0 where
  pub before : rows ≤ capacity q.before
  pub behind : rows ≤ capacity q.behind
