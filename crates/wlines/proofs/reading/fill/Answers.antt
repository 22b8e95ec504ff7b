use Rattle.std.proofs.Common.{◌≡◌, ◌+◌, take, length, refl, ap, sym, ◌∙◌, subst, arith, length-append, length-take, length-drop}
use Rattle.std.specs.Io.KnownBytes.{Consumes}
use Rattle.wlines.specs.Pending.{left}
use Rattle.wlines.proofs.Held.{piece_taken}
use Rattle.wlines.proofs.Saying.{says_still}
use Rattle.wlines.proofs.reading.fill.Goals as goal

pub pieces-preserved : goal.pieces-preserved
pieces-preserved g c =
    let m = c.take_piece.ensures.moves in
    let a = left g.R.Read.remaining c.args.source.now.held c.args.input.now in
    let d = g.R.Read.remaining c.top_up.new.input.inner in
    let z = left g.R.Read.remaining c.take_piece.new.source.held c.top_up.new.input in
    let old = c.top_up.new.self.held in
    let moved : length c.take_piece.new.bytes.items + length c.take_piece.new.source.held ≡ length c.pieces.bytes.items + length old =
    omega (
      arith,
      ap length m.kept_is,
      ap length m.held_is,
      length-append c.pieces.bytes.items (take m.n old),
      length-take m.n old,
      length-drop m.n old,
      m.within,
    ) in
    record {
      ready = record {
        used = λ z. absurd (omega (arith, z, c.take_piece.ensures.used));
        reader = c.in_ok-top_up.ensures.input;
        writer = c.in_ok-top_up.ensures.output;
      };
      says = says_still _ _ _ c.pieces.invariant.says c.top_up.ensures.says;
      owed = c.top_up.ensures.owed ∙ c.pieces.invariant.owed;
      room = c.take_piece.ensures.room;
      short = omega (arith, c.take_piece.ensures.within);
      taken = subst (Consumes a z) (sym m.kept_is)
          (piece_taken a (left g.R.Read.remaining c.pieces.source.held c.pieces.input) z d c.pieces.bytes.items m.n old
          c.take_piece.new.source.held c.pieces.invariant.taken c.in_ok-top_up.ensures.bytes refl m.held_is);
      falls = omega (arith, moved, c.in_ok-top_up.ensures.falls, c.pieces.invariant.falls);
    }
