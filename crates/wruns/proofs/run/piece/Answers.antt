use Rattle.std.proofs.Common.{length, get_or, sym, ap, ◌∙◌, arith}
use Rattle.wruns.specs.Cuts.{between}
use Rattle.wruns.proofs.CutFacts.{piece_is, piece_within}
use Rattle.wruns.proofs.run.piece.Goals as goal

pub slice_bounds-result-count : goal.slice_bounds-result-count
slice_bounds-result-count c =
    let h = piece_within c.args.ends.now (length c.args.rows.now) c.args.number c.requires.ends c.requires.number in
    omega (arith, h.0, c.start_of.ensures)

pub slice_bounds-result-start : goal.slice_bounds-result-start
slice_bounds-result-start c =
    let h = piece_within c.args.ends.now (length c.args.rows.now) c.args.number c.requires.ends c.requires.number in
    omega (arith, h.0, c.start_of.ensures)

pub slice_bounds-result-end : goal.slice_bounds-result-end
slice_bounds-result-end c = (piece_within c.args.ends.now (length c.args.rows.now) c.args.number c.requires.ends c.requires.number).1

pub returns : goal.returns
returns c =
    let ends = c.args.ends.now in
    ap (λ k. between k (get_or ends c.args.number 0) c.args.rows.now) c.start_of.ensures
    ∙ sym (piece_is ends c.args.rows.now c.args.number c.requires.number)
