-- A bound stays a bound from one moment to the next.
use Rattle.std.proofs.Common.{inl, inr, ◌+◌, ◌≤◌, min, get_or, arith}
use Rattle.std.proofs.lemmas.List.Elements.{All-contains, Contains-get_or}
use Rattle.kit_base.specs.declared.message.Message.{Message}
use Rattle.kit_parts.specs.Promises.{promise}
use Rattle.kit_parts.specs.Laws.{BoundsCarry}
use Rattle.kit_parts.proofs.Promising.{promises_are_capped_law}

pub bounds_carry_law : BoundsCarry
bounds_carry_law p bound all next transit then_transit waiting then_waiting b sound c = record {
  sound = sound;
  transit_late = λ j i lj li k d within. elim (c.posted j i lj li (get_or (then_transit j i) k d) (Contains-get_or (then_transit j i) k d within)) [
    | inl old ↦ All-contains (λ (m : Message). bound ≤ m.time) (transit j i) (get_or (then_transit j i) k d) (b.transit_late j i lj li) old
    | inr new ↦ (let late = All-contains (λ (m : Message). promise p j (all j) ≤ m.time) (waiting j i) (get_or (then_transit j i) k d) (b.sound.waiting_late j i lj li) new in omega (arith, late, b.promised j lj))
  ];
  promised = λ i lt. elim (c.promised i lt) [
    | inl up ↦ (let u : promise p i (all i) ≤ promise p i (next i) = up in omega (arith, b.promised i lt))
    | inr r ↦ (let late = All-contains (λ (m : Message). bound ≤ m.time) (transit r.0 i) r.1 (b.transit_late r.0 i r.2 lt) r.3 in
        let low : min (promise p i (all i)) (min (r.1.time + 1) (p.end + 1)) ≤ promise p i (next i) = r.4 in
        omega (arith, late, b.promised i lt, promises_are_capped_law p i (all i).waits (all i).received (all i).done))
  ];
}
