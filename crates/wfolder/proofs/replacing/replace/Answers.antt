use Rattle.std.proofs.Common.{string_bytes}
use Rattle.wfolder.proofs.Ends.{gave_up, never_made, went_through}
use Rattle.wfolder.proofs.replacing.replace.Goals as goal

pub returns-in-Err-clause-replaces : goal.returns-in-Err-clause-replaces
returns-in-Err-clause-replaces g c = never_made _ _ c.in-Err.fault _ _ c.requires.locked c.in-Err.ensures.idle

pub returns-in-Err-put-clause-replaces : goal.returns-in-Err-put-clause-replaces
returns-in-Err-put-clause-replaces g c =
    gave_up _ _ (string_bytes c.in-Ok.new) _ _ _ _ _ _ _ _ c.requires.locked c.as_str.ensures.value
    c.as_str-in-Err-put.ensures.value c.in-Ok.ensures.made c.in-Err-put.ensures.left c.remove.ensures.calls

pub returns-clause-replaces : goal.returns-clause-replaces
returns-clause-replaces g c =
    went_through _ _ (string_bytes c.in-Ok.new) _ c.sync_folder.result _ _ _ _ c.requires.locked c.as_str.ensures.value
    c.in-Ok.ensures.made c.in_default.ensures.placed c.sync_folder.ensures.unsynced c.sync_folder.ensures.kind
    c.sync_folder.ensures.calls
