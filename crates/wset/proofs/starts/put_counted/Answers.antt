use Rattle.std.proofs.Common.{◌≡◌, ◌≤◌, ◌<◌, ◌^◌, ◌∙◌, ap, false, rules, arith, length, subst, sym, take}
use Rattle.wentries.specs.Blocks.{flat}
use Rattle.wentries.specs.Entries.{known_entries, AreBelow}
use Rattle.wset.specs.Running.{AreStarts}
use Rattle.wset.proofs.LiveFacts.{kept_starts, same_placed, same_starts}
use Rattle.wset.proofs.starts.put_counted.Goals as goal

pub count_again-requires-clause-few : goal.count_again-requires-clause-few
count_again-requires-clause-few c =
    let few = c.put_in.ensures.few in
    subst (λ bs. length (flat bs) < 2 ^ 64) (sym c.deref-in_default.ensures.value) (omega (arith, few, c.requires.few))

pub count_again-requires-clause-in_range : goal.count_again-requires-clause-in_range
count_again-requires-clause-in_range c =
    let old = c.args.blocks.now.items in
    let new = c.put_in.new.blocks.items in
    let le = subst (λ bs. c.starts_kept-kept.result ≤ length bs) c.deref.ensures.value c.starts_kept-kept.ensures.in_range in
    let grown = λ (some : 0 < c.starts_kept-kept.result). c.put_in.ensures.behind
    (subst (λ bs. AreBelow c.args.name (known_entries (flat bs))) c.deref.ensures.value (c.starts_kept-kept.ensures.kept some)) in
    let facts = kept_starts old new c.reserve.new.self.items c.starts_kept-kept.result (ap length c.reserve.ensures.items
    ∙ c.requires.placed) le grown (subst (AreStarts old) (sym c.reserve.ensures.items) c.requires.starts) in
    subst (λ bs. c.starts_kept-kept.result ≤ length bs) (sym c.deref-in_default.ensures.value) facts.0

pub count_again-requires-clause-starts : goal.count_again-requires-clause-starts
count_again-requires-clause-starts c =
    let old = c.args.blocks.now.items in
    let new = c.put_in.new.blocks.items in
    let le = subst (λ bs. c.starts_kept-kept.result ≤ length bs) c.deref.ensures.value c.starts_kept-kept.ensures.in_range in
    let grown = λ (some : 0 < c.starts_kept-kept.result). c.put_in.ensures.behind
    (subst (λ bs. AreBelow c.args.name (known_entries (flat bs))) c.deref.ensures.value (c.starts_kept-kept.ensures.kept some)) in
    let facts = kept_starts old new c.reserve.new.self.items c.starts_kept-kept.result (ap length c.reserve.ensures.items
    ∙ c.requires.placed) le grown (subst (AreStarts old) (sym c.reserve.ensures.items) c.requires.starts) in
    subst (λ bs. AreStarts bs (take c.starts_kept-kept.result c.reserve.new.self.items)) (sym c.deref-in_default.ensures.value) facts.1

pub count_again-requires-2-clause-few : goal.count_again-requires-2-clause-few
count_again-requires-2-clause-few c =
    let few = c.put_in.ensures.few in
    subst (λ bs. length (flat bs) < 2 ^ 64) (sym c.deref-2.ensures.value) (omega (arith, few, c.requires.few))

pub count_again-requires-2-clause-in_range : goal.count_again-requires-2-clause-in_range
count_again-requires-2-clause-in_range c =
    let old = c.args.blocks.now.items in
    let new = c.put_in.new.blocks.items in
    let le = subst (λ bs. c.starts_kept-kept.result ≤ length bs) c.deref.ensures.value c.starts_kept-kept.ensures.in_range in
    let grown = λ (some : 0 < c.starts_kept-kept.result). c.put_in.ensures.behind
    (subst (λ bs. AreBelow c.args.name (known_entries (flat bs))) c.deref.ensures.value (c.starts_kept-kept.ensures.kept some)) in
    let facts = kept_starts old new c.reserve.new.self.items c.starts_kept-kept.result (ap length c.reserve.ensures.items
    ∙ c.requires.placed) le grown (subst (AreStarts old) (sym c.reserve.ensures.items) c.requires.starts) in
    subst (λ bs. c.starts_kept-kept.result ≤ length bs) (sym c.deref-2.ensures.value) facts.0

pub count_again-requires-2-clause-starts : goal.count_again-requires-2-clause-starts
count_again-requires-2-clause-starts c =
    let old = c.args.blocks.now.items in
    let new = c.put_in.new.blocks.items in
    let le = subst (λ bs. c.starts_kept-kept.result ≤ length bs) c.deref.ensures.value c.starts_kept-kept.ensures.in_range in
    let grown = λ (some : 0 < c.starts_kept-kept.result). c.put_in.ensures.behind
    (subst (λ bs. AreBelow c.args.name (known_entries (flat bs))) c.deref.ensures.value (c.starts_kept-kept.ensures.kept some)) in
    let facts = kept_starts old new c.reserve.new.self.items c.starts_kept-kept.result (ap length c.reserve.ensures.items
    ∙ c.requires.placed) le grown (subst (AreStarts old) (sym c.reserve.ensures.items) c.requires.starts) in
    subst (λ bs. AreStarts bs (take c.starts_kept-kept.result c.reserve.new.self.items)) (sym c.deref-2.ensures.value) facts.1

pub returns-then-not-changes-clause-placed : goal.returns-then-not-changes-clause-placed
returns-then-not-changes-clause-placed c =
    let same : c.in-Ok.changes ≡ false = search rules in
    same_placed c.args.blocks.now.items c.put_in.new.blocks.items c.reserve.new.self.items
    (c.in-Ok.ensures.lives same) (ap length c.reserve.ensures.items ∙ c.requires.placed)

pub returns-then-not-changes-clause-starts : goal.returns-then-not-changes-clause-starts
returns-then-not-changes-clause-starts c =
    let same : c.in-Ok.changes ≡ false = search rules in
    same_starts c.args.blocks.now.items c.put_in.new.blocks.items c.reserve.new.self.items
    (c.in-Ok.ensures.lives same)
    (subst (AreStarts c.args.blocks.now.items) (sym c.reserve.ensures.items) c.requires.starts)
