use Rattle.std.proofs.Common.{◌≡◌, List, ◌++◌, sym, ap, subst, ◌∙◌}
use Rattle.std.specs.List.Sorted.{IsStrictlySortedBy}
use Rattle.std.specs.BTreeMap.{values, is_at}
use Rattle.std.specs.Map.{values_of}
use Rattle.std.specs.declared.cmp.Ordering.TheVariants.{Less}
use Rattle.kit_base.specs.declared.message.Message.{Message}
use Rattle.kit_base.specs.Order.{key_cmp}
use Rattle.kit_oracle.specs.Pending.{compare_keys, key_of, without_key, AreKeyed}
use Rattle.kit_oracle.proofs.Keeping.{remove_keyed, remove_takes}
use Rattle.kit_oracle.proofs.Rows.{sorted_first, all_behind}
use Rattle.kit_oracle.proofs.Split.{row_before, without_parts, sorted_without, all_before}
use Rattle.kit_oracle.proofs.pending.PendingMessages.remove.Goals as goal

pub take_out-requires : goal.take_out-requires
take_out-requires c = sorted_first c.self.inside.near.items (values c.self.inside.far) c.self.invariant.1

pub invariant_of-self : goal.invariant_of-self
invariant_of-self c =
    let k = c.args.key in
    let near = c.self.inside.near.items in
    let ys = values c.self.inside.far in
    let whole = without_parts k near ys ∙ ap (λ (zs : List Message). zs ++ without_key k.time k.sender k.number ys) (sym c.take_out.ensures) ∙ ap (λ (zs : List Message). c.take_out.new.near.items ++ zs) (all_behind k ys (c.is_near.ensures.near c.if-is_near.true)) in
    (c.self.invariant.0, subst (IsStrictlySortedBy key_cmp) whole (sorted_without k (near ++ ys) c.self.invariant.1))

pub returns-then-is_near : goal.returns-then-is_near
returns-then-is_near c =
    let k = c.args.key in
    let near = c.self.inside.near.items in
    let ys = values c.self.inside.far in
    let whole = without_parts k near ys ∙ ap (λ (zs : List Message). zs ++ without_key k.time k.sender k.number ys) (sym c.take_out.ensures) ∙ ap (λ (zs : List Message). c.take_out.new.near.items ++ zs) (all_behind k ys (c.is_near.ensures.near c.if-is_near.true)) in
    sym whole ∙ ap (without_key k.time k.sender k.number) c.self.view_is

pub invariant_of-self-else-is_near : goal.invariant_of-self-else-is_near
invariant_of-self-else-is_near c =
    let k = c.args.key in
    let near = c.self.inside.near.items in
    let es = c.self.inside.far.entries in
    let by_key = c.self.invariant.0 in
    let left = ap values_of c.remove.ensures.entries ∙ remove_takes k es by_key.keyed by_key.ordered in
    let stay = all_before k near (row_before (λ (x : Message). compare_keys (key_of x) k ≡ Less) near (values_of es) c.self.invariant.1 (c.is_near.ensures.far c.if-is_near.false)) in
    let whole = without_parts k near (values_of es) ∙ ap (λ (zs : List Message). zs ++ without_key k.time k.sender k.number (values_of es)) stay ∙ ap (λ (zs : List Message). near ++ zs) (sym left) in (
      record {
        keyed = subst AreKeyed (sym c.remove.ensures.entries) (remove_keyed (is_at (compare_keys k)) es by_key.keyed);
        ordered = c.remove.ensures.ordered;
      },
      subst (IsStrictlySortedBy key_cmp) whole (sorted_without k (near ++ values_of es) c.self.invariant.1),
    )

pub returns-else-is_near : goal.returns-else-is_near
returns-else-is_near c =
    let k = c.args.key in
    let near = c.self.inside.near.items in
    let es = c.self.inside.far.entries in
    let by_key = c.self.invariant.0 in
    let left = ap values_of c.remove.ensures.entries ∙ remove_takes k es by_key.keyed by_key.ordered in
    let stay = all_before k near (row_before (λ (x : Message). compare_keys (key_of x) k ≡ Less) near (values_of es) c.self.invariant.1 (c.is_near.ensures.far c.if-is_near.false)) in
    let whole = without_parts k near (values_of es) ∙ ap (λ (zs : List Message). zs ++ without_key k.time k.sender k.number (values_of es)) stay ∙ ap (λ (zs : List Message). near ++ zs) (sym left) in
    sym whole ∙ ap (without_key k.time k.sender k.number) c.self.view_is
