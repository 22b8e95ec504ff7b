use Rattle.std.proofs.Common.{◌≡◌, ◌∙◌, ap, take, string_bytes}
use Rattle.std.proofs.lemmas.List.{take_min}
use Rattle.std.specs.Str.Lossy.{utf8_lossy}
use Rattle.wshown.proofs.values.push_bytes.Goals as goal

pub returns : goal.returns
returns c =
    let value = c.args.value.now in
    let most : take c.min-most.result value ≡ take 244 value = ap (λ n. take n value) c.min-most.ensures ∙ take_min 244 value in
    let shown : string_bytes c.in_ok-shown.shown ≡ utf8_lossy (take 244 value) = c.in_ok-shown.ensures.lossy ∙ ap utf8_lossy most in
    rw (c.as_str.ensures.value, shown) at c.push_text.ensures
