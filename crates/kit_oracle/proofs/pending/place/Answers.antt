use Rattle.std.proofs.Common.{arith, rules}
use Rattle.std.proofs.lemmas.List.Sorted.{IsPartitionPoint-from_clause}
use Rattle.std.specs.Ordering.{is_lt}
use Rattle.kit_base.specs.declared.message.Message.{Message}
use Rattle.kit_oracle.specs.Pending.{compare_keys, key_of}
use Rattle.kit_oracle.proofs.Rows.{parted}
use Rattle.kit_oracle.proofs.pending.place.Goals as goal

pub returns : goal.returns
returns c =
    let k = c.args.key in
    let xs = c.args.near.now.items in
    let point = IsPartitionPoint-from_clause (λ (x : Message). is_lt (compare_keys (key_of x) k)) xs c.partition_point.result c.partition_point.ensures.partitioned (parted k xs c.requires) (λ a r q k. search rules) in
    record {
      within = omega (arith, c.partition_point.ensures.bound);
      before = λ j d h. point.0 j d (omega arith) h;
      behind = λ d h. point.1 c.partition_point.result d (omega arith) h;
    }
