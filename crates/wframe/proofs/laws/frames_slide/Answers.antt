use Rattle.wframe.proofs.LawFacts.{spans_rise}
use Rattle.wframe.proofs.laws.frames_slide.Goals as goal

pub returns : goal.returns
returns c = spans_rise
