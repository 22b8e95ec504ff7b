-- The label of a refusal, and a text that begins with it.
use Rattle.std.proofs.Common.{◌≡◌, ◌∙◌, sym, ap, ℕ, ◌++◌, List, Option, Some, None, Result, Ok, Err}
use Rattle.std.specs.Prelude.{IfOk, IfSome}
use Rattle.wshown.specs.Shown.{BeginsWith}
use Rattle.wexplain.specs.Refusals.{BeginsWithLabel, Explains, IsCalled, Refuses}
use Rattle.wexplain.specs.declared.reply.Refusal.{Refusal}
use Rattle.wexplain.specs.declared.reply.Refusal.TheVariants as refusals

-- one label in place of an equal one
begins_with : (a b text : List ℕ) → b ≡ a → BeginsWith a text → BeginsWith b text
begins_with a b text same begins = (begins.0, begins.1 ∙ ap (λ front. front ++ begins.0) (sym same))

begins : (refusal : Refusal) (label text : List ℕ) → IsCalled refusal label → BeginsWithLabel refusal text → BeginsWith label text
begins (refusals.Declaration fault) label text called told = begins_with _ label text called told
begins (refusals.Name fault) label text called told = begins_with _ label text called told
begins (refusals.Segment fault) label text called told = begins_with _ label text called told
begins (refusals.File fault) label text called told = begins_with _ label text called told
begins (refusals.Query fault) label text called told = begins_with _ label text called told
begins refusals.Stream label text called told = begins_with _ label text called told

-- what is told of the refusal of a reply explains it
pub tells : {T E : Type 0} (bytes : T → List ℕ) (r : Result (Option T) E) (reply : List ℕ) (refusal : Refusal) → Refuses reply refusal
    → IfOk r (λ answer. IfSome answer (λ text. BeginsWithLabel refusal (bytes text)))
    → IfOk r (λ answer. IfSome answer (λ text. Explains reply (bytes text)))
tells bytes (Ok (Some text)) reply refusal is told = record {
  line = is.line;
  is = is.is;
  filled = is.filled;
  label = begins refusal _ (bytes text) is.called told;
}
tells bytes (Ok None) reply refusal is told = tt
tells bytes (Err fault) reply refusal is told = tt
