use Rattle.std.proofs.Common.{◌≡◌, ◌-◌, ◌<◌, ◌≤◌, ltb, length, get_or, sym, ap, ◌∙◌, subst, arith, rules, tests}
use Rattle.std.proofs.lemmas.List.Sorted.{IsPartitionedBy-ltb, IsPartitionPoint-from_clause}
use Rattle.rowstore.specs.declared.entry.Entry.{Entry}
use Rattle.rowstore.specs.Entries.{before, InOrder}
use Rattle.rowstore.proofs.Fronts.{none, before_place, partition_is}
use Rattle.rowstore.proofs.row.Row.before.Goals as goal

pub returns-in-len1-up-clause-value : goal.returns-in-len1-up-clause-value
returns-in-len1-up-clause-value c =
    let es = c.as_slice-entries.result.now in
    let t = c.args.limit in
    let order : InOrder es = subst InOrder (sym c.as_slice-entries.ensures.value) c.self.invariant.order in
    let early : (get_or es (length es - 1) none).span.to < t = omega arith in
    before_place t (length es) es order (omega arith) (omega arith) early (λ h. omega arith)
    ∙ ap (before t) (c.as_slice-entries.ensures.value ∙ c.self.view_is)

pub returns-in-len2-up-clause-value : goal.returns-in-len2-up-clause-value
returns-in-len2-up-clause-value c =
    let es = c.as_slice-entries.result.now in
    let t = c.args.limit in
    let order : InOrder es = subst InOrder (sym c.as_slice-entries.ensures.value) c.self.invariant.order in
    let late : t ≤ (get_or es (length es - 1) none).span.to = omega arith in
    let same : length es - 1 - 1 ≡ length es - 2 = omega arith in
    let early : (get_or es (length es - 1 - 1) none).span.to < t = rw same (omega arith) in
    before_place t (length es - 1) es order (omega arith) (omega arith) early (λ h. late)
    ∙ ap (before t) (c.as_slice-entries.ensures.value ∙ c.self.view_is)

pub returns-in_default-clause-value : goal.returns-in_default-clause-value
returns-in_default-clause-value c =
    let es = c.as_slice-entries.result.now in
    let t = c.args.limit in
    let order : InOrder es = subst InOrder (sym c.as_slice-entries.ensures.value) c.self.invariant.order in
    partition_is t c.partition_point.result es c.partition_point.ensures.bound
    (IsPartitionPoint-from_clause (λ (e : Entry). ltb e.span.to t) es _ c.partition_point.ensures.partitioned (IsPartitionedBy-ltb (λ (e : Entry). e.span.to) es t order) (λ a r f' k. search (rules, tests)))
    ∙ ap (before t) (c.as_slice-entries.ensures.value ∙ c.self.view_is)
