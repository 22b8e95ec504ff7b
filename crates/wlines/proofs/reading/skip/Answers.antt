use Rattle.std.proofs.Common.{◌≡◌, ◌+◌, ◌++◌, ◌≤◌, take, length, refl, ap, ◌∙◌, rules, arith, length-append, length-take, length-drop}
use Rattle.wlines.specs.Pending.{left}
use Rattle.wlines.proofs.Held.{piece_taken, some_held}
use Rattle.wlines.proofs.Saying.{says_still}
use Rattle.wlines.proofs.reading.skip.Goals as goal

pub pieces-preserved : goal.pieces-preserved
pieces-preserved g c =
    let t = c.pieces.invariant.taken in
    let a = left g.R.Read.remaining c.args.source.now.held c.args.input.now in
    let d = g.R.Read.remaining c.top_up.new.input.inner in
    let z = left g.R.Read.remaining c.advance.new.self.held c.top_up.new.input in
    let old = c.top_up.new.self.held in
    let handed_is = c.advance.ensures in
    let some = some_held old (c.in_ok-top_up.ensures.more (search rules)) in
    let n = c.min-n.result in
    let within : n ≤ length old = omega (arith, ap length c.held.ensures) in
    let size : length (t.0 ++ take n old) ≡ c.pieces.count + n = omega (arith, t.2, length-append t.0 (take n old), length-take n old) in
    record {
      ready = record {
        used = λ z. absurd (omega (arith, z, some, ap (λ b. b.taken) handed_is, ap length c.held.ensures));
        reader = c.in_ok-top_up.ensures.input;
        writer = c.in_ok-top_up.ensures.output;
      };
      says = says_still _ _ _ c.pieces.invariant.says c.top_up.ensures.says;
      owed = c.top_up.ensures.owed ∙ c.pieces.invariant.owed;
      short = omega arith;
      taken = (
        t.0 ++ take n old,
        piece_taken a (left g.R.Read.remaining c.pieces.source.held c.pieces.input) z d t.0 n old
            c.advance.new.self.held t.1 c.in_ok-top_up.ensures.bytes refl (ap (λ b. b.held) handed_is),
        size,
      );
      falls = omega (arith, ap (λ b. length b.held) handed_is, length-drop n old, c.in_ok-top_up.ensures.falls, c.pieces.invariant.falls);
    }
