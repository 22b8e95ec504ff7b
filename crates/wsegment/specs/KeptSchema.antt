-- How a schema is kept: the declaration beside the text that spells it.
use Rattle.std.specs.Prelude.{◌≡◌}
use Rattle.std.specs.String.{string_bytes}
use Rattle.wsegment.specs.Declaration.{Declaration, declaration_text}
use Rattle.wsegment.specs.Spelling.{IsDeclaration}
use Rattle.wsegment.specs.declared.schema.Schema.TheInside.{Inside}

abbrev pub declaration_of : Inside → Declaration
declaration_of a = record { table = string_bytes a.declared.value.table; columns = a.declared.value.columns.items }

pub record IsKept (a : Inside) : Type 0 where
  pub text : a.declared.value.text.items ≡ declaration_text (declaration_of a)
  pub declared : IsDeclaration (declaration_of a)
