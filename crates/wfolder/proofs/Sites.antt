-- A store in its folder, and new files beside it.
use Rattle.std.proofs.Common.{◌≡◌, ◌≢◌, ◌↔◌, ℕ, ◌<◌, ◌≤◌, ◌^◌, arith, Bool, true, List, [], ◌∷◌, ◌++◌, ◌∙◌, IsTrue}
use Rattle.std.proofs.Common.{refl, sym, subst, ap, rules}
use Rattle.std.specs.Fmt.{decimal}
use Rattle.std.specs.List.{list_all}
use Rattle.std.specs.Str.Parse.{AllDigits}
use Rattle.std.proofs.lemmas.Fmt.{decimal_is_IsNumeral}
use Rattle.std.proofs.lemmas.Str.Parse.{digit_from_value}
use Rattle.std.proofs.lemmas.List.{append_cancel_left}
use Rattle.wfolder.specs.Names.{IsNewBeside, IsNewName, IsSited, Site, is_number_byte, numbered_path}

-- a new file in the folder of a store stands beside it
pub new_beside : (site : Site) (name path : List ℕ) → IsSited site → IsNewName name → path ≡ site.folder ++ 47 ∷ name
    → IsNewBeside site.path path
new_beside site name path s new is = record {
  folder = site.folder;
  own = s.name;
  name = name;
  store_is = s.is;
  plain = s.store_name.plain;
  path_is = is;
  new = new;
}

one_name : (a b : List ℕ) → 47 ∷ a ≡ 47 ∷ b → a ≡ b
one_name a b is = search rules

-- and is not the store, whose name is no new one
pub new_is_other : (site : Site) (name path : List ℕ) → IsSited site → IsNewName name → path ≡ site.folder ++ 47 ∷ name
    → path ≢ site.path
new_is_other site name path s new is same =
    s.store_name.kept (subst IsNewName (one_name _ _ (append_cancel_left site.folder _ _ (sym is ∙ same ∙ s.is))) new)

told : (b : Bool) → b ≡ true → IsTrue b
told b is = search rules

-- a path in the folder, whose name was found to be new
pub found_new : (site : Site) (name tested at path : List ℕ) (is_new : Bool) → IsSited site → tested ≡ name → at ≡ site.folder
    → (IsTrue is_new ↔ IsNewName tested) → is_new ≡ true → path ≡ at ++ 47 ∷ name
    → IsNewBeside site.path path × (path ≢ site.path)
found_new site name tested at path is_new s is_tested is_at says is_found is =
    let new = subst IsNewName is_tested (says.0 (told is_new is_found)) in
    let here = is ∙ ap (λ (f : List ℕ). f ++ 47 ∷ name) is_at in
    (new_beside site name path s new here, new_is_other site name path s new here)

-- the name with the number of a try is a new one
digit_byte : (b : ℕ) → 48 ≤ b → b ≤ 57 → is_number_byte b ≡ true
digit_byte b low high = grind arith

digit_bytes : (bytes : List ℕ) → AllDigits 10 bytes → list_all is_number_byte bytes ≡ true
digit_bytes [] digits = refl
digit_bytes (b ∷ bytes) digits =
    let range = digit_from_value b digits.0 in
    rw (digit_byte b range.0 range.1) (digit_bytes bytes digits.1)

pub numbered : (name : List ℕ) (n : ℕ) → n < 2 ^ 32
    → name ≡ 46 ∷ 119 ∷ 115 ∷ 116 ∷ 111 ∷ 114 ∷ 101 ∷ 45 ∷ decimal n → IsNewName name
numbered name n fits is = subst IsNewName (sym is) (record {
  begins = refl;
  numbers = digit_bytes (decimal n) (decimal_is_IsNumeral n (omega (arith, fits))).0.1;
})

pub numbered_at : (folder name path : List ℕ) (n : ℕ) → path ≡ folder ++ 47 ∷ name
    → name ≡ 46 ∷ 119 ∷ 115 ∷ 116 ∷ 111 ∷ 114 ∷ 101 ∷ 45 ∷ decimal n → path ≡ numbered_path folder n
numbered_at folder name path n at is = at ∙ ap (λ (l : List ℕ). folder ++ 47 ∷ l) is
