use Rattle.std.proofs.Common.{◌∙◌, ap, sym}
use Rattle.std.specs.Option.{is_some}
use Rattle.std.specs.Prelude.{Option, ℕ}
use Rattle.std.specs.Str.{bytes_eq}
use Rattle.wsegment.specs.Declaration.{Described}
use Rattle.wsegment.proofs.ListFacts.{position-map}
use Rattle.wsegment.proofs.header.has_field.Goals as goal

pub returns : goal.returns
returns c =
    let found = c.field_of.ensures ∙ sym (position-map (λ (other : Described). bytes_eq other.name c.args.column.now.name)
    (λ other. other.now) c.args.header.now) in
    c.is_some.ensures ∙ ap (λ (field : Option ℕ). is_some field) found
