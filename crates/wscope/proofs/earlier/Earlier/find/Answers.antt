use Rattle.std.proofs.Common.{List, ap, sym, ◌∙◌}
use Rattle.wscope.specs.declared.full_window.FullEntry.{FullEntry}
use Rattle.wscope.specs.Indexes.{place_of, up_to}
use Rattle.wscope.specs.Windows.{named_windows, window_named}
use Rattle.wscope.proofs.earlier.Earlier.find.Goals as goal

pub find_in-requires : goal.find_in-requires
find_in-requires c = λ name. c.args.self.index.now.placed name
    ∙ ap (λ (es : List FullEntry). place_of name (named_windows es)) (sym c.as_slice.ensures.value)

pub returns : goal.returns
returns c = c.find_in.ensures ∙ ap (λ (es : List FullEntry). window_named (up_to c.args.self.before (named_windows es))
    c.args.name.now) c.as_slice.ensures.value
