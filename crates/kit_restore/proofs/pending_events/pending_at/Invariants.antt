-- what is left gives the rest; the messages so far rise, and their numbers are noted
use Rattle.std.proofs.Common.{◌≡◌, [], map, IsTrue}
use Rattle.std.specs.List.{AllPairs}
use Rattle.serde_json.specs.View.{view}
use Rattle.kit_base.specs.Order.{is_before}
use Rattle.kit_walk.specs.Reading.{each}
use Rattle.kit_restore.specs.CutWalk.{message_step}
use Rattle.kit_restore.specs.Noted.{AreNoted}
use Rattle.kit_walk.proofs.Rest.{rest}
use Rattle.kit_restore.proofs.pending_events.pending_at.Given as goal

abbrev pub invariant-loop-j : goal.invariant-loop-j
invariant-loop-j l = record {
  so_far : rest (message_step l.federation l.i l.from l.nexts) l.j l.done l.items ≡ each (message_step l.federation l.i l.from l.nexts) 0 [] (map view l.items);
  rise : AllPairs (λ a b. IsTrue (is_before a b)) l.done;
  noted : AreNoted l.seen.masks l.done;
}
