use Rattle.std.proofs.Common.{◌≡◌, ◌++◌, List, ℕ, OnOk, codes, string_bytes, subst}
use Rattle.wshown.specs.Shown.{shown_text}
use Rattle.wspots.proofs.notes.push_table.Goals as goal

pub returns : goal.returns
returns c = subst (λ (name : List ℕ). OnOk c.push_named.result
    (string_bytes c.push_named.new.text ≡ string_bytes c.args.text.now ++ (codes "the table is " ++ shown_text name)))
    c.table.ensures c.push_named.ensures
