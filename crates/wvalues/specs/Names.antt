-- A name as its parts, and the order of names.
use Rattle.std.specs.Prelude.{◌≡◌, ℕ, Bool, List, ◌≤◌, ◌<◌, ◌||◌, ◌==◌, length, true, refl}
use Rattle.std.specs.Char.{is_ascii_digit, is_ascii_lowercase}
use Rattle.std.specs.List.{list_all}
use Rattle.std.specs.Ordering.{nat_cmp, then_cmp, on}
use Rattle.std.specs.Cmp.Lexicographic.{slice_cmp, nat_list_cmp_total}
use Rattle.std.specs.Cmp.{IsTotalOrder, nat_cmp_total, on_total, then_total}
use Rattle.std.specs.Coded.{Coded, code_by, coded×, coded_ℕ, coded_list}
use Rattle.std.specs.declared.cmp.Ordering.{Ordering}

-- an origin and a number
pub record NameParts : Type 0 where
  pub origin : List ℕ
  pub number : ℕ

abbrev pub coded_name : Coded NameParts
coded_name = code_by (List ℕ × ℕ) (coded× (coded_list coded_ℕ) coded_ℕ) (λ n. (n.origin, n.number)) (λ p. record {
  origin =
      p.0;
  number = p.1;
}) (λ _. refl)

-- a small letter, a digit, '_' or '-'
abbrev pub is_origin_byte : ℕ → Bool
is_origin_byte b = is_ascii_lowercase b || is_ascii_digit b || (b == 95) || (b == 45)

-- 1 to 32 such bytes
pub record IsOrigin (bytes : List ℕ) : Type 0 where
  pub filled : 0 < length bytes
  pub short : length bytes ≤ 32
  pub spelled : list_all is_origin_byte bytes ≡ true

-- from 1 to 999,999,999
pub record IsSegmentNumber (n : ℕ) : Type 0 where
  pub low : 0 < n
  pub high : n ≤ 999999999

pub record IsName (n : NameParts) : Type 0 where
  pub origin : IsOrigin n.origin
  pub number : IsSegmentNumber n.number

-- by the bytes of the origin, then by number
abbrev pub name_cmp : NameParts → NameParts → Ordering
name_cmp = then_cmp (on (λ n. n.origin) (slice_cmp nat_cmp)) (on (λ n. n.number) nat_cmp)

pub names_total : IsTotalOrder name_cmp
names_total = then_total (on_total (λ n. n.origin) nat_list_cmp_total) (on_total (λ n. n.number) nat_cmp_total)
