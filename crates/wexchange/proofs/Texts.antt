-- What is judged to be a view is one of its texts.
use Rattle.std.proofs.Common.{◌≡◌, ◌⊎◌, inl, inr}
use Rattle.wexchange.specs.Files.{HasRecords, file_of, text_of}
use Rattle.wexchange.specs.Laws.{TextsAlone}
use Rattle.wexchange.specs.declared.version.Version.{Version}
use Rattle.wexchange.specs.declared.version.Version.TheVariants.{One, Two}

pub texts_alone : TextsAlone
texts_alone d v bytes h = by h.version h.may h.bytes_are
  where
    by : (r : Version) → HasRecords r v → bytes ≡ text_of r d v → (bytes ≡ file_of d v) ⊎ (HasRecords One v × (bytes ≡ text_of One d v))
    by One may is = inr (may, is)
    by Two may is = inl is
