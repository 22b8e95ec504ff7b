-- When two values are the same, and what a hash is fed of a value.
use Rattle.std.specs.Prelude.{◌≡◌, Bool, true, false, ◌++◌, nat_eq, refl}
use Rattle.std.specs.Bool.{Decides, one_answer}
use Rattle.std.specs.Cmp.{IsEquivalence, signed_Decides}
use Rattle.std.specs.Cmp.Lexicographic.{pointwise, bytes_decides}
use Rattle.std.specs.Ordering.{int_eq}
use Rattle.std.proofs.Common.{sym, ap}
use Rattle.std.specs.Hash as fed
use Rattle.std.specs.Hash.{HashWrites}
use Rattle.wvalues.specs.Meaning.{Meaning, Null, Int, Text}

-- nulls are the same, numbers of one size, and texts of the same bytes
abbrev pub same_meaning : Meaning → Meaning → Bool
same_meaning Null Null = true
same_meaning Null (Int y) = false
same_meaning Null (Text y) = false
same_meaning (Int x) Null = false
same_meaning (Int x) (Int y) = int_eq x y
same_meaning (Int x) (Text y) = false
same_meaning (Text x) Null = false
same_meaning (Text x) (Int y) = false
same_meaning (Text x) (Text y) = pointwise nat_eq x y

-- the kind, and then what the value holds
abbrev pub meaning_input : Meaning → HashWrites
meaning_input Null = fed.u8 0
meaning_input (Int x) = fed.u8 1 ++ fed.i128 x
meaning_input (Text x) = fed.u8 2 ++ fed.str x

pub meaning_decides : (x y : Meaning) → Decides (same_meaning x y) (x ≡ y)
meaning_decides Null Null = (λ e. refl, λ e. refl)
meaning_decides Null (Int y) = (λ e. cc, λ e. cc)
meaning_decides Null (Text y) = (λ e. cc, λ e. cc)
meaning_decides (Int x) Null = (λ e. cc, λ e. cc)
meaning_decides (Int x) (Int y) = (λ e. ap Int ((signed_Decides x y).0 e), λ e. (signed_Decides x y).1 (cc))
meaning_decides (Int x) (Text y) = (λ e. cc, λ e. cc)
meaning_decides (Text x) Null = (λ e. cc, λ e. cc)
meaning_decides (Text x) (Int y) = (λ e. cc, λ e. cc)
meaning_decides (Text x) (Text y) = (λ e. ap Text ((bytes_decides x y).0 e), λ e. (bytes_decides x y).1 (cc))

pub meaning_equiv : IsEquivalence same_meaning
meaning_equiv = record {
  refl = λ x. (meaning_decides x x).1 refl;
  symm = λ x y. one_answer (same_meaning x y) (same_meaning y x) (meaning_decides x y)
      (λ e. sym ((meaning_decides y x).0 e), λ e. (meaning_decides y x).1 (sym e));
  congr = λ x y z e. ap (λ w. same_meaning w z) ((meaning_decides x y).0 e);
}
