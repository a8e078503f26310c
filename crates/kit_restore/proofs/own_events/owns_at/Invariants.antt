-- what is left gives the rest, and the numbers so far rise
use Rattle.std.proofs.Common.{◌≡◌, ◌<◌, [], map}
use Rattle.std.specs.List.{AllPairs}
use Rattle.serde_json.specs.View.{view}
use Rattle.kit_rules.specs.declared.own.Own.{Own}
use Rattle.kit_walk.specs.Reading.{each}
use Rattle.kit_restore.specs.CutWalk.{own_step}
use Rattle.kit_walk.proofs.Rest.{rest}
use Rattle.kit_restore.proofs.own_events.owns_at.Given as goal

abbrev pub invariant-loop-j : goal.invariant-loop-j
invariant-loop-j l = record {
  so_far : rest (own_step l.federation l.i l.now l.next) l.j l.done l.items ≡ each (own_step l.federation l.i l.now l.next) 0 [] (map view l.items);
  rise : AllPairs (λ (a b : Own). a.number < b.number) l.done;
}
