-- What falls with a floor.
use Rattle.std.specs.Prelude.{◌≡◌, ◌<◌, ◌+◌, ◌^◌, ℕ, false, not, List, length, map}
use Rattle.std.specs.List.{filter}
use Rattle.wvalues.specs.Names.{NameParts}
use Rattle.wentries.specs.Knowledge.{is_above}
use Rattle.wentries.specs.Blocks.{flat, trimmed}
use Rattle.wentries.specs.Keeping.{kept_in}
use Rattle.wentries.specs.declared.entries.Entry.{Entry}
use Rattle.wentries.specs.declared.fall.Fall.{Fall}

-- how many live names each block has
abbrev pub lives_of : List (List Entry) → List ℕ
lives_of bs = map (λ b. length (kept_in b)) bs

-- the entries without those below the floor
abbrev pub standing : NameParts → List Entry → List Entry
standing n es = filter (λ e. not (is_above e.name n)) es

abbrev pub no_fall : Fall
no_fall = record { entries = 0; whole = false; lives = false }

-- this is what the floor drops of these blocks: where no block goes as a whole, trimming drops all that is below it
pub record IsFall (n : NameParts) (bs : List (List Entry)) (f : Fall) : Type 0 where
  pub entries : length (flat bs) < 2 ^ 64 → length (standing n (flat bs)) + f.entries ≡ length (flat bs)
  pub whole : f.whole ≡ false → flat (map (trimmed n) bs) ≡ standing n (flat bs)
  pub lives : f.lives ≡ false → (f.whole ≡ false) × (lives_of (map (trimmed n) bs) ≡ lives_of bs)
