use Rattle.std.proofs.Common.{sym, subst, ◌∙◌, rules}
use Rattle.kit_queue.specs.declared.entry.Entry.{Entry}
use Rattle.kit_queue.specs.Entries.{is_numbered, IsInOrder, AreNumberedApart}
use Rattle.kit_queue.proofs.Waiting.{in_order_without, apart_without}
use Rattle.kit_queue.proofs.Places.{missed, found_at, removed_at, none_removed}
use Rattle.kit_queue.proofs.ts_queue.TsQueueOrder.retract.Goals as goal

pub returns-in_err-at-clause-taken : goal.returns-in_err-at-clause-taken
returns-in_err-at-clause-taken c =
    let none = missed (λ (e : Entry). is_numbered c.args.sender c.args.number e.message) c.args.self.now.waiting.items (sym c.in_err-at.ensures) in
    search rules

pub returns-in_err-at-clause-rest : goal.returns-in_err-at-clause-rest
returns-in_err-at-clause-rest c =
    sym (none_removed c.args.sender c.args.number c.args.self.now.waiting.items (missed (λ (e : Entry). is_numbered c.args.sender c.args.number e.message) c.args.self.now.waiting.items (sym c.in_err-at.ensures)))

pub invariant_of-self-2-clause-in_order : goal.invariant_of-self-2-clause-in_order
invariant_of-self-2-clause-in_order c =
    let es = c.args.self.now.waiting.items in
    let rest = removed_at c.args.sender c.args.number es c.in_ok-at.at c.in_ok-entry.entry c.args.self.now.numbered_apart (sym c.in_ok-at.ensures) in
    subst IsInOrder (rest ∙ sym c.in_ok-entry.ensures.items) (in_order_without c.args.sender c.args.number es c.args.self.now.in_order)

pub invariant_of-self-2-clause-numbered_apart : goal.invariant_of-self-2-clause-numbered_apart
invariant_of-self-2-clause-numbered_apart c =
    let es = c.args.self.now.waiting.items in
    let rest = removed_at c.args.sender c.args.number es c.in_ok-at.at c.in_ok-entry.entry c.args.self.now.numbered_apart (sym c.in_ok-at.ensures) in
    subst AreNumberedApart (rest ∙ sym c.in_ok-entry.ensures.items) (apart_without c.args.sender c.args.number es c.args.self.now.numbered_apart)

pub returns-clause-taken : goal.returns-clause-taken
returns-clause-taken c =
    sym (found_at (λ (e : Entry). is_numbered c.args.sender c.args.number e.message) c.args.self.now.waiting.items c.in_ok-at.at c.in_ok-entry.entry (sym c.in_ok-at.ensures) c.in_ok-entry.ensures.value)

pub returns-clause-rest : goal.returns-clause-rest
returns-clause-rest c =
    c.in_ok-entry.ensures.items ∙ sym (removed_at c.args.sender c.args.number c.args.self.now.waiting.items c.in_ok-at.at c.in_ok-entry.entry c.args.self.now.numbered_apart (sym c.in_ok-at.ensures))
