use Rattle.std.proofs.Common.{◌≡◌, List, ◌++◌, sym, ap, subst, ◌∙◌}
use Rattle.std.specs.List.{AllByRecursion}
use Rattle.std.specs.List.Sorted.{IsStrictlySortedBy}
use Rattle.std.specs.BTreeMap.{values, insert_entry}
use Rattle.std.specs.Map.{values_of}
use Rattle.std.specs.declared.cmp.Ordering.TheVariants.{Less}
use Rattle.kit_base.specs.declared.message.Message.{Message}
use Rattle.kit_base.specs.Order.{key_cmp}
use Rattle.kit_oracle.specs.declared.pending.Key.{Key}
use Rattle.kit_oracle.specs.Pending.{queue_with, compare_keys, key_of, AreKeyed}
use Rattle.kit_oracle.proofs.Keeping.{insert_keyed, insert_enters}
use Rattle.kit_oracle.proofs.Rows.{sorted_first, sorted_with, enters_far}
use Rattle.kit_oracle.proofs.Split.{put_keeps, put_enters, row_before}
use Rattle.kit_oracle.proofs.pending.PendingMessages.insert.Goals as goal

pub put-requires : goal.put-requires
put-requires c = sorted_first c.self.inside.near.items (values c.self.inside.far) c.self.invariant.1

pub invariant_of-self : goal.invariant_of-self
invariant_of-self c =
    let behind = subst (λ (k : Key). AllByRecursion (λ (y : Message). compare_keys k (key_of y) ≡ Less) (values c.self.inside.far)) c.key_of-key.ensures (c.is_near.ensures.near c.if-is_near.true) in
    (c.self.invariant.0, put_keeps c.put.result c.args.message c.self.inside.near.items c.put.new.near.items (values c.self.inside.far) c.put.ensures.ok c.put.ensures.err behind c.self.invariant.1)

pub returns-then-is_near-clause-ok : goal.returns-then-is_near-clause-ok
returns-then-is_near-clause-ok c =
    let behind = subst (λ (k : Key). AllByRecursion (λ (y : Message). compare_keys k (key_of y) ≡ Less) (values c.self.inside.far)) c.key_of-key.ensures (c.is_near.ensures.near c.if-is_near.true) in
    put_enters c.put.result c.args.message c.self.inside.near.items c.put.new.near.items (values c.self.inside.far) c.args.self.now c.put.ensures.ok behind (c.self.view_is ∙ c.spill.ensures)

pub invariant_of-self-2 : goal.invariant_of-self-2
invariant_of-self-2 c =
    let m = c.args.message in
    let es = c.self.inside.far.entries in
    let near = c.self.inside.near.items in
    let entries = c.in_ok-insert.ensures.entries ∙ ap (λ (k : Key). insert_entry compare_keys es k m) c.key_of-key.ensures in
    let before = subst (λ (k : Key). AllByRecursion (λ (x : Message). compare_keys (key_of x) k ≡ Less) near) c.key_of-key.ensures (row_before (λ (x : Message). compare_keys (key_of x) c.key_of-key.result ≡ Less) near (values c.self.inside.far) c.self.invariant.1 (c.is_near.ensures.far c.if-is_near.false)) in
    let whole = enters_far m near (values_of es) before ∙ ap (λ (ys : List Message). near ++ ys) (sym (ap values_of entries ∙ insert_enters m es c.self.invariant.0.keyed)) in (
      record {
        keyed = subst AreKeyed (sym entries) (insert_keyed m es c.self.invariant.0.keyed);
        ordered = c.in_ok-insert.ensures.ordered;
      },
      subst (IsStrictlySortedBy key_cmp) whole (sorted_with m (near ++ values_of es) c.self.invariant.1),
    )

pub returns-clause-ok : goal.returns-clause-ok
returns-clause-ok c =
    let m = c.args.message in
    let es = c.self.inside.far.entries in
    let near = c.self.inside.near.items in
    let entries = c.in_ok-insert.ensures.entries ∙ ap (λ (k : Key). insert_entry compare_keys es k m) c.key_of-key.ensures in
    let before = subst (λ (k : Key). AllByRecursion (λ (x : Message). compare_keys (key_of x) k ≡ Less) near) c.key_of-key.ensures (row_before (λ (x : Message). compare_keys (key_of x) c.key_of-key.result ≡ Less) near (values c.self.inside.far) c.self.invariant.1 (c.is_near.ensures.far c.if-is_near.false)) in
    let whole = enters_far m near (values_of es) before ∙ ap (λ (ys : List Message). near ++ ys) (sym (ap values_of entries ∙ insert_enters m es c.self.invariant.0.keyed)) in
    sym whole ∙ ap (queue_with m) (c.self.view_is ∙ c.spill.ensures)
