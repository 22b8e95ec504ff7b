use Rattle.std.proofs.Common.{◌≡◌, rules, string_bytes}
use Rattle.wfiles.proofs.Listing.{kept_more, new_is_text, pushed_last}
use Rattle.wfiles.proofs.files.push_new.Goals as goal

pub returns-in_ok-push-in-Ok-clause-kept : goal.returns-in_ok-push-in-Ok-clause-kept
returns-in_ok-push-in-Ok-clause-kept c = kept_more string_bytes _ _ _ c.in_ok-push-in-Ok.ensures.items

pub returns-in_ok-push-in-Ok-clause-pushed : goal.returns-in_ok-push-in-Ok-clause-pushed
returns-in_ok-push-in-Ok-clause-pushed c is_new =
    let named : string_bytes c.in_ok-from_str-in-Ok.field-0 ≡ c.args.name.now = search rules in
    pushed_last string_bytes _ _ _ _ c.in_ok-push-in-Ok.ensures.items named

pub returns-in-Err-clause-pushed : goal.returns-in-Err-clause-pushed
returns-in-Err-clause-pushed c is_new = absurd (c.in-Err.ensures.cases.0 (new_is_text _ is_new))
