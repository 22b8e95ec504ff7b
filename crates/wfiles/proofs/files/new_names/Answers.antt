use Rattle.std.proofs.Common.{◌≡◌, ◌≢◌, ◌<◌, refl, ◌++◌, ◌∷◌, [], get_or, length, map, rules, string_bytes}
use Rattle.wfolder.specs.Names.{IsNewName}
use Rattle.wfiles.specs.Listing.{IsOneOf, Keeps}
use Rattle.wfiles.proofs.Listing.{finds_byte, finds_name}
use Rattle.wfiles.proofs.files.new_names.Goals as goal

pub bytes-preserved-then-byte-ne0 : goal.bytes-preserved-then-byte-ne0
bytes-preserved-then-byte-ne0 c =
    let bound : c.bytes.byte-index < length c.args.names.now = search rules in
    let other : get_or c.args.names.now c.bytes.byte-index 0 ≢ 0 = search rules in
    let is : c.push.new.self.items ≡ c.bytes.name.items ++ get_or c.args.names.now c.bytes.byte-index 0 ∷ [] = search rules in
    finds_byte _ _ _ _ _ _ bound refl other is c.bytes.invariant

pub bytes-preserved : goal.bytes-preserved
bytes-preserved c =
    let bound : c.bytes.byte-index < length c.args.names.now = search rules in
    let none : get_or c.args.names.now c.bytes.byte-index 0 ≡ 0 = search rules in
    let is : c.clear.new.self.items ≡ [] = search rules in
    let kept : Keeps (map string_bytes c.bytes.found.items) (map string_bytes c.push_new.new.found.items) = search rules in
    let one : IsNewName c.bytes.name.items → IsOneOf c.bytes.name.items (map string_bytes c.push_new.new.found.items) = search rules in
    finds_name _ _ _ _ _ _ _ bound refl none is kept one c.bytes.invariant
