-- How a subcommand ends.
use Rattle.std.specs.Prelude.{◌≡◌, ◌≢◌, ℕ, Bool, if◌then◌else◌, List, Option, None, Some, option_map}
use Rattle.wsegment.specs.Declaration.{Declaration}
use Rattle.wset.specs.Views.{View}
use Rattle.wexchange.specs.Files.{file_of}
use Rattle.wreplies.specs.Texts.{bytes_of}
use Rattle.wact.specs.declared.acted.Acted.{Acted}

-- refused: the text is printed, with status 1, and there is no new store
abbrev pub IsRefused : Acted → List ℕ → Type 0
IsRefused acted text = (bytes_of acted.output ≡ text) × (acted.status ≡ 1) × (acted.store ≡ None)

-- done: the text is printed, with status 0, and there is no new store
abbrev pub IsAnswered : Acted → List ℕ → Type 0
IsAnswered acted text = (bytes_of acted.output ≡ text) × (acted.status ≡ 0) × (acted.store ≡ None)

-- the text is printed, with status 1 where something is refused and 0 where nothing is, and there is no new store
abbrev pub IsReplied : Acted → List ℕ → Bool → Type 0
IsReplied acted text is_refused = (bytes_of acted.output ≡ text) × (acted.status ≡ (if is_refused then 1 else 0)) × (acted.store ≡ None)

-- the store has these bytes from now on: a new one has them, where the old one has others or is none; or there is no new one, and the
-- old one has them
abbrev pub Becomes : Option (List ℕ) → List ℕ → Option (List ℕ) → Type 0
Becomes old bytes None = old ≡ Some bytes
Becomes old bytes (Some new) = (new ≡ bytes) × (old ≢ Some bytes)

-- done: the text is printed, with status 0, and the store is the file of this view from now on
abbrev pub IsStored : Declaration → View → Option (List ℕ) → Acted → List ℕ → Type 0
IsStored d v old acted text = (bytes_of acted.output ≡ text) × (acted.status ≡ 0)
    × Becomes old (file_of d v) (option_map (λ store. store.items) acted.store)
