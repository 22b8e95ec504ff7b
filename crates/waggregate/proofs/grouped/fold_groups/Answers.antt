use Rattle.std.proofs.Common.{ℕ, ◌∙◌, arith}
use Rattle.std.proofs.lemmas.List.Elements.{All-same}
use Rattle.std.proofs.lemmas.Result.{err_from_is_err_and}
use Rattle.wslide.specs.Laws.{rows_fold}
use Rattle.waggregate.specs.Grouped.{rows_of_group}
use Rattle.waggregate.proofs.GroupFacts.{known_length, ordered_parts, answers_column, fault_of_answers, answers_in_order, answers_length}
use Rattle.waggregate.proofs.grouped.fold_groups.Goals as goal

pub parts_in_order-requires : goal.parts_in_order-requires
parts_in_order-requires g c = λ k d h.
    let f = c.args.fold.now in
    let fold_of = λ (k : ℕ). rows_fold (g.F.Fold.neutral f) (g.F.Fold.joined f) (g.F.Fold.part_at f) (rows_of_group c.args.groups.now k) in
    let known = c.deref.ensures.value ∙ c.in_ok-parts.ensures.folds in
    omega (arith, c.requires.ordered k d h, known_length fold_of c.args.count c.deref.result.now known)

pub push_values-requires : goal.push_values-requires
push_values-requires g c =
    let f = c.args.fold.now in
    let fold_of = λ (k : ℕ). rows_fold (g.F.Fold.neutral f) (g.F.Fold.joined f) (g.F.Fold.part_at f) (rows_of_group c.args.groups.now k) in
    let known = c.deref.ensures.value ∙ c.in_ok-parts.ensures.folds in
    let long = known_length fold_of c.args.count c.deref.result.now known in
    let is = g.F.Fold.is_part f in
    All-same is c.deref-2.result.now c.in_ok-ordered.ordered.items c.deref-2.ensures.value
    (ordered_parts is c.deref.result.now c.in_ok-ordered.ordered.items c.args.order.now c.in_ok-ordered.ensures
    (λ k d h. omega (arith, c.requires.ordered k d h, long))
    (All-same is c.deref.result.now c.in_ok-parts.parts.items c.deref.ensures.value c.in_ok-parts.ensures.parts))

pub returns-in_err-push_values-clause-gives : goal.returns-in_err-push_values-clause-gives
returns-in_err-push_values-clause-gives g c =
    let f = c.args.fold.now in
    let fold_of = λ (k : ℕ). rows_fold (g.F.Fold.neutral f) (g.F.Fold.joined f) (g.F.Fold.part_at f) (rows_of_group c.args.groups.now k) in
    let known = c.deref.ensures.value ∙ c.in_ok-parts.ensures.folds in
    let same = answers_in_order (g.F.AnsweringFold.answer f) fold_of c.args.count c.deref.result.now c.in_ok-ordered.ordered.items
    c.deref-2.result.now c.args.order.now known c.in_ok-ordered.ensures c.requires.ordered c.deref-2.ensures.value in
    let p = err_from_is_err_and c.from_residual-in_err-push_values.result c.from_residual-in_err-push_values.ensures.1 in
    rw (p.1, p.2) (fault_of_answers c.in_err-push_values.field-0.0 _ _ same c.in_err-push_values.ensures.gives)

pub returns-clause-gives : goal.returns-clause-gives
returns-clause-gives g c =
    let f = c.args.fold.now in
    let fold_of = λ (k : ℕ). rows_fold (g.F.Fold.neutral f) (g.F.Fold.joined f) (g.F.Fold.part_at f) (rows_of_group c.args.groups.now k) in
    let known = c.deref.ensures.value ∙ c.in_ok-parts.ensures.folds in
    let same = answers_in_order (g.F.AnsweringFold.answer f) fold_of c.args.count c.deref.result.now c.in_ok-ordered.ordered.items
    c.deref-2.result.now c.args.order.now known c.in_ok-ordered.ensures c.requires.ordered c.deref-2.ensures.value in
    answers_column c.in_ok-column.column.items c.push_values.new.column.items _ _ same c.in_ok-column.ensures.items
    c.in_ok-push_values.ensures.gives c.in_ok-push_values.ensures.added

pub returns-clause-len : goal.returns-clause-len
returns-clause-len g c =
    let f = c.args.fold.now in
    let fold_of = λ (k : ℕ). rows_fold (g.F.Fold.neutral f) (g.F.Fold.joined f) (g.F.Fold.part_at f) (rows_of_group c.args.groups.now k) in
    let known = c.deref.ensures.value ∙ c.in_ok-parts.ensures.folds in
    let same = answers_in_order (g.F.AnsweringFold.answer f) fold_of c.args.count c.deref.result.now c.in_ok-ordered.ordered.items
    c.deref-2.result.now c.args.order.now known c.in_ok-ordered.ensures c.requires.ordered c.deref-2.ensures.value in
    answers_length c.in_ok-column.column.items c.push_values.new.column.items _ (λ k. g.F.AnsweringFold.answer f (fold_of k))
    c.args.order.now same c.in_ok-column.ensures.items c.in_ok-push_values.ensures.added
