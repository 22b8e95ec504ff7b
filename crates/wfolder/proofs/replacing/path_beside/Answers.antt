use Rattle.wfolder.proofs.Sites.{found_new}
use Rattle.wfolder.proofs.replacing.path_beside.Goals as goal

pub returns-clause-beside : goal.returns-clause-beside
returns-clause-beside c = found_new _ _ _ _ _ _ c.folder.ensures.sited c.as_bytes.ensures.value c.folder.ensures.folder
    c.is_new_name.ensures c.if-not-is_new_name.false c.in_ok-path.ensures
