use Rattle.std.proofs.Common.{◌∙◌, ◌++◌, map, sym, ap}
use Rattle.std.specs.List.{flat_map}
use Rattle.std.specs.Rc.{rc_str_bytes}
use Rattle.std.proofs.lemmas.Simd.{map-map}
use Rattle.wprinted.specs.Printing.{line_text, text_field, values_at}
use Rattle.wprinted.proofs.TextLines.{row_line}
use Rattle.wprinted.proofs.printing.print_rows.Goals as goal

pub returns : goal.returns
returns g c =
    let lines = flat_map row_line (map (values_at c.args.places.now) (g.R.Rows.rows c.args.rows.now)) in
    c.in_ok-push_rows.ensures
    ∙ ap (λ front. front ++ lines) (c.in_ok-push_names.ensures
    ∙ ap (λ front. front ++ line_text (map (λ name. text_field (rc_str_bytes name)) c.args.names.now)) c.new-bytes.ensures.items)
    ∙ ap (λ fields. line_text fields ++ lines) (sym (map-map text_field rc_str_bytes c.args.names.now))
