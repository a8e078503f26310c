-- the needs of the federates so far
use Rattle.std.proofs.Common.{◌≡◌, ◌<◌, ℕ, [], length, get_or}
use Rattle.kit_oracle.specs.Desks.{desk_at}
use Rattle.kit_oracle.specs.Times.{count_later, count_sent_later}
use Rattle.kit_oracle.proofs.needs.Needs.of.Given as goal

abbrev pub invariant-loop-desk : goal.invariant-loop-desk
invariant-loop-desk l = record {
  times : length l.needs.times.items ≡ l.desk-index;
  most : length l.needs.most.items ≡ l.desk-index;
  counts : (k t : ℕ) → k < l.desk-index → count_later t (get_or l.needs.times.items k []) ≡ count_sent_later l.federation t (desk_at l.desks k).state.sends;
  greatest : (k : ℕ) → k < l.desk-index → get_or l.needs.most.items k 0 ≡ count_sent_later l.federation 0 (desk_at l.desks k).state.sends;
}
