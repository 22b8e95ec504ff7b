use Rattle.std.proofs.Common.{◌≡◌, IfOk, [], ◌∷◌, length, map, subst, sym, ap, ◌∙◌}
use Rattle.wvalues.specs.Meaning.{Null}
use Rattle.wframe.specs.Places.{places}
use Rattle.wrows.proofs.RowFacts.{same_at}
use Rattle.wgroup.specs.Held.{groups_in}
use Rattle.wgroup.specs.Finer.{IsBase}
use Rattle.wgroup.proofs.MadeFacts.{base_there}
use Rattle.wgroup.proofs.groups.empty_set_groups.Goals as goal

pub returns-in-Some-clause-groups : goal.returns-in-Some-clause-groups
returns-in-Some-clause-groups c =
    let base = base_there c.args.columns.now c.args.set.now c.args.rows.now c.args.found.now c.in-Some.place
    c.base_of-base.result c.requires.seen c.requires.made c.in-Some.ensures.within c.in-Some.ensures.finer
    c.base_of-base.ensures.base in
    let long = ap (λ g. length g.numbers.value.items) c.index-found-base.is ∙ base.2 c.index-found-base.result in
    subst (λ n. IfOk c.all_rows_of_groups.result (λ groups. groups_in groups ≡ record {
      set = [];
      key =
          map (λ c. Null) c.args.columns.now;
      rows = places n;
    } ∷ [])) long c.all_rows_of_groups.ensures.groups

pub returns-in-Some-clause-len : goal.returns-in-Some-clause-len
returns-in-Some-clause-len c =
    let base = base_there c.args.columns.now c.args.set.now c.args.rows.now c.args.found.now c.in-Some.place
    c.base_of-base.result c.requires.seen c.requires.made c.in-Some.ensures.within c.in-Some.ensures.finer
    c.base_of-base.ensures.base in
    let long = ap (λ g. length g.numbers.value.items) c.index-found-base.is ∙ base.2 c.index-found-base.result in
    subst (λ n. IfOk c.all_rows_of_groups.result (λ groups. length groups.numbers.value.items ≡ n)) long c.all_rows_of_groups.ensures.len

pub returns-in-Some-clause-made : goal.returns-in-Some-clause-made
returns-in-Some-clause-made c =
    let base = base_there c.args.columns.now c.args.set.now c.args.rows.now c.args.found.now c.in-Some.place
    c.base_of-base.result c.requires.seen c.requires.made c.in-Some.ensures.within c.in-Some.ensures.finer
    c.base_of-base.ensures.base in
    let g = c.index-found-base.result in
    c.all_rows_of_groups.ensures.made c.args.found.now (record {
      within = base.0;
      is =
          λ d. same_at c.args.found.now c.base_of-base.result d g base.0 ∙ sym c.index-found-base.is;
    })
    (subst IsBase (sym c.index-found-base.is) (base.1 g))
