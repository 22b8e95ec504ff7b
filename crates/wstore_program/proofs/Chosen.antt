-- What a choice is, by the files that it works on and by whether it is an act; and how a script's run ends.
use Rattle.std.proofs.Common.{◌≡◌, refl, ap, sym, ℕ, List, false, true≢false, Option, Some, None, Result, Ok, Err}
use Rattle.std.proofs.Common.{IfOk, IfErr, IfSome, OnOk}
use Rattle.std.specs.Io.KnownBytes.{Appends}
use Rattle.wvalues.specs.Counts.{Counts}
use Rattle.wlines.specs.Pending.{IsSound, IsSoundWriter}
use Rattle.wcommand.specs.declared.choice.Choice.{Choice}
use Rattle.wcommand.specs.declared.choice.Choice.TheVariants as choices
use Rattle.wcommand.specs.declared.choice.Paths.{Paths}
use Rattle.wcommand.specs.Inputs.{is_act, paths_of}
use Rattle.wstore.specs.Runs.{Replies, RepliesBegun}
use Rattle.wstore.specs.Steps.{HasCause}
use Rattle.wstore.specs.declared.script_run.End.{End}
use Rattle.wstore.specs.declared.script_run.RunFault.{RunFault}
use Rattle.wstore_program.specs.Program.{IsScriptRun}

some_is : {A : Type 0} (x y : A) → Some x ≡ Some y → x ≡ y
some_is x y e = cc

none_is_some : {A : Type 0} (x : A) → None ≡ Some x → ⊥
none_is_some x e = cc

-- one that works on no files is the session
pub is_session : (choice : Choice) → paths_of choice ≡ None → choice ≡ choices.Session
is_session choices.Session none = refl
is_session (choices.Take paths origin number csv) none = absurd (none_is_some _ (sym none))
is_session (choices.Retire paths origin number) none = absurd (none_is_some _ (sym none))
is_session (choices.Floor paths origin number) none = absurd (none_is_some _ (sym none))
is_session (choices.Join paths other) none = absurd (none_is_some _ (sym none))
is_session (choices.Feed paths stream) none = absurd (none_is_some _ (sym none))
is_session (choices.List paths) none = absurd (none_is_some _ (sym none))
is_session (choices.Ask paths queries) none = absurd (none_is_some _ (sym none))
is_session (choices.Shell paths) none = absurd (none_is_some _ (sym none))

-- one that works on files and is no act is the shell
pub is_shell : (choice : Choice) (paths : Paths) → paths_of choice ≡ Some paths → is_act choice ≡ false → choice ≡ choices.Shell paths
is_shell choices.Session paths named going = absurd (none_is_some _ named)
is_shell (choices.Take own origin number csv) paths named going = absurd (true≢false going)
is_shell (choices.Retire own origin number) paths named going = absurd (true≢false going)
is_shell (choices.Floor own origin number) paths named going = absurd (true≢false going)
is_shell (choices.Join own other) paths named going = absurd (true≢false going)
is_shell (choices.Feed own stream) paths named going = absurd (true≢false going)
is_shell (choices.List own) paths named going = absurd (true≢false going)
is_shell (choices.Ask own queries) paths named going = absurd (true≢false going)
is_shell (choices.Shell own) paths named going = ap choices.Shell (some_is own paths named)

-- how a script's run ended
pub script_outcome : {I W : Type 0} (left : Option (List ℕ)) (input : Counts I) (old new : Option (List ℕ)) (output : Counts W)
    (end : Result End RunFault)
    → IfOk end (λ e. IfSome left (λ bytes. (written : List ℕ) × Appends old new written × Replies e bytes written))
    → IfErr end (λ fault. IfSome left (λ bytes. (written : List ℕ) × Appends old new written
    × RepliesBegun fault input.reads bytes written))
    → OnOk end (IsSound input × IsSoundWriter output) → IfErr end (λ fault. HasCause fault input output)
    → IsScriptRun left input old new output end
script_outcome left input old new output (Ok end) replies begun sound cause = (replies, sound)
script_outcome left input old new output (Err fault) replies begun sound cause = (begun, cause)
