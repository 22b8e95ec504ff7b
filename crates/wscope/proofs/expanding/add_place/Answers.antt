use Rattle.wscope.proofs.Placed.{place_goes, place_stays}
use Rattle.wscope.proofs.expanding.add_place.Goals as goal
use Rattle.std.proofs.Common.{sym, ◌∙◌}

pub returns-then-contains_key : goal.returns-then-contains_key
returns-then-contains_key c = λ ws window en h. place_stays c.args.places.now ws (record {
  name = c.args.name.now;
  window =
      window;
}) (sym c.contains_key.ensures ∙ c.if-contains_key.true) h

pub returns : goal.returns
returns c = λ ws window en h.
    place_goes c.args.places.now c.insert.new.self c.in_ok-key.key ws (record { name = c.args.name.now; window = window })
    c.args.place c.in_ok-key.ensures.ok en (sym c.contains_key.ensures ∙ c.if-contains_key.false) c.in_ok-insert.ensures.updates h
