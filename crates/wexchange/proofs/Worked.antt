-- A worked file by computation.
use Rattle.std.proofs.Common.{◌≡◌, refl}
use Rattle.std.specs.Prelude.{codes, length}
use Rattle.std.specs.Fmt.{digits}
use Rattle.hex.specs.Hex.{encode_with}
use Rattle.sha2.specs.Sha256.{compress, digest_bytes, first_words, hash_after, rounds, schedule, sha256}
use Rattle.wexchange.specs.Files.{counted, digest_text}
use Rattle.wexchange.specs.Laws.{WorkedFile, one_floor, one_floor_text, sales}
use Rattle.wexchange.specs.declared.version.Version.TheVariants.{Two}

text : counted Two sales one_floor ≡ one_floor_text
unfolding digits
text = refl

length_is : length one_floor_text ≡ 127
length_is = refl

sealed : digest_text one_floor_text ≡ codes "H 012a985389795c603c4646b86314fc1b7d8ba55fba244e5e7f602c369926f8e3\n"
unfolding encode_with first_words schedule rounds compress hash_after digest_bytes sha256
sealed = refl

pub worked_file : WorkedFile
worked_file = record { text = text; length_is = length_is; sealed = sealed }
