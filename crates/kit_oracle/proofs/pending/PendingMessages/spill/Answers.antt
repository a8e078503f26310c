use Rattle.std.proofs.Common.{◌<◌, Some, List, ◌++◌, sym, ap, subst, ◌∙◌, arith}
use Rattle.std.specs.List.Sorted.{IsStrictlySortedBy}
use Rattle.std.specs.BTreeMap.{insert_entry}
use Rattle.std.specs.Map.{values_of}
use Rattle.std.specs.VecDeque.{deque_len}
use Rattle.kit_base.specs.declared.message.Message.{Message}
use Rattle.kit_base.specs.Order.{key_cmp}
use Rattle.kit_oracle.specs.declared.pending.Key.{Key}
use Rattle.kit_oracle.specs.Pending.{compare_keys, AreKeyed}
use Rattle.kit_oracle.proofs.Keeping.{insert_keyed}
use Rattle.kit_oracle.proofs.Split.{spilled}
use Rattle.kit_oracle.proofs.pending.PendingMessages.spill.Goals as goal

pub invariant_of-self-in-Some : goal.invariant_of-self-in-Some
invariant_of-self-in-Some c =
    let last = c.in-Some.last.now in
    let near = c.self.inside.near.items in
    let es = c.self.inside.far.entries in
    let keyed = c.self.invariant.0.keyed in
    let entries = c.in_ok-insert.ensures.entries ∙ ap (λ (k : Key). insert_entry compare_keys es k last) c.key_of.ensures in
    let some : 0 < deque_len c.self.inside.near = omega (arith, c.len.ensures, c.if-len-lt-MOST_NEAR.false) in
    let is = c.pop_back.ensures.value last some ∙ ap Some (sym c.in-Some.ensures.lookup) in
    let whole = spilled last near c.pop_back.new.self.items c.pop_back.result es c.pop_back.ensures.items is keyed c.self.invariant.1 in (
      record {
        keyed = subst AreKeyed (sym entries) (insert_keyed last es keyed);
        ordered = c.in_ok-insert.ensures.ordered;
      },
      subst (IsStrictlySortedBy key_cmp) (sym (ap (λ (ys : List Message). c.pop_back.new.self.items ++ ys) (ap values_of entries) ∙ whole)) c.self.invariant.1,
    )

pub returns-in_ok-insert : goal.returns-in_ok-insert
returns-in_ok-insert c =
    let last = c.in-Some.last.now in
    let near = c.self.inside.near.items in
    let es = c.self.inside.far.entries in
    let entries = c.in_ok-insert.ensures.entries ∙ ap (λ (k : Key). insert_entry compare_keys es k last) c.key_of.ensures in
    let some : 0 < deque_len c.self.inside.near = omega (arith, c.len.ensures, c.if-len-lt-MOST_NEAR.false) in
    let is = c.pop_back.ensures.value last some ∙ ap Some (sym c.in-Some.ensures.lookup) in
    let whole = spilled last near c.pop_back.new.self.items c.pop_back.result es c.pop_back.ensures.items is c.self.invariant.0.keyed c.self.invariant.1 in
    ap (λ (ys : List Message). c.pop_back.new.self.items ++ ys) (ap values_of entries) ∙ whole ∙ c.self.view_is
