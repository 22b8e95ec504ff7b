use Rattle.std.proofs.Common.{◌≡◌, ◌∙◌, map, set, ap, inl, inr, rules}
use Rattle.std.proofs.lemmas.List.{map-set}
use Rattle.std.specs.Rc.{rc_str_bytes}
use Rattle.wsegment.proofs.TextFacts.{within}
use Rattle.wsegment.proofs.texts.Texts.shared.Goals as goal
use Rattle.wsegment.proofs.texts.Texts.shared.Goals.{then-is_kept+in_ok-self-inside, else-is_kept}

pub returns-clause-slots : goal.returns-clause-slots
returns-clause-slots c =
    let slot = c.slot_of-slot.result in
    let kept = c.self-2.inside.slots.items in
    let text = c.args.text.now in
    elim c.if-is_kept.branch [
      | then-is_kept+in_ok-self-inside w ↦
          let same : rc_str_bytes w.in_ok-self-inside.field-0 ≡ text = search rules in
          inr (
            slot,
            within rc_str_bytes c.self.inside.slots.items c.self.view_is c.slot_of-slot.ensures (search rules),
            w.self-is ∙ (map-set rc_str_bytes kept slot w.in_ok-self-inside.field-0
                ∙ (ap (set (map rc_str_bytes kept) slot) same ∙ ap (λ texts. set texts slot text) (c.self-2.view_is ∙ c.is_kept.ensures))),
          )
      | else-is_kept w ↦ inl (w.self-is ∙ c.is_kept.ensures)
    ]
