use Rattle.std.proofs.Common.{◌≢◌, List, arith, subst}
use Rattle.std.specs.List.{AllPairs}
use Rattle.std.proofs.lemmas.List.{take_all}
use Rattle.kit_rules.specs.declared.table.Group.{Group}
use Rattle.kit_rules.specs.Federation.{IsGroup}
use Rattle.kit_rules.proofs.FirstFaults.{all_next, all_through, pairs_next}
use Rattle.kit_rules.proofs.faults.first_wrong_group.Goals as goal

pub loop-k-preserved : goal.loop-k-preserved
loop-k-preserved c = record {
  each = all_next (IsGroup c.args.federates) c.args.groups.now c.loop-k.k c.index-groups-k.result (omega arith) c.index-groups-k.is c.loop-k.invariant.each c.in_default.ensures.0;
  differ = pairs_next (λ (b : Group). b.name) c.args.groups.now c.loop-k.k c.index-groups-k.result (omega arith) c.index-groups-k.is c.loop-k.invariant.differ c.in_default.ensures.1;
}

pub returns : goal.returns
returns c =
    let P : List Group → Type 0 = λ gs. AllPairs (λ (a b : Group). a.name ≢ b.name) gs in
    record {
      few = c.requires.groups;
      each = all_through (IsGroup c.args.federates) c.args.groups.now c.loop-k.k (omega arith) c.loop-k.invariant.each;
      differ = subst P (take_all c.loop-k.k c.args.groups.now (omega arith)) c.loop-k.invariant.differ;
    }
