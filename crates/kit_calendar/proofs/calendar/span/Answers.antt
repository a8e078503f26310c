use Rattle.std.proofs.Common.{ℕ}
use Rattle.std.specs.Prelude.{min, max}
use Rattle.kit_queue.specs.declared.entry.Entry.{Entry}
use Rattle.kit_calendar.proofs.Shapes.{folded_more}
use Rattle.kit_calendar.proofs.calendar.span.Goals as goal

pub loop-entry-preserved : goal.loop-entry-preserved
loop-entry-preserved c = record {
  least = folded_more (λ (t : ℕ) (e : Entry). min t e.message.time) c.args.time c.args.entries.now.items c.deref-entry-items.result.now c.loop-entry.entry-index _ c.loop-entry.least c.min-least.result c.deref-entry-items.ensures.value c.loop-entry-test.true c.loop-entry.invariant.least c.min-least.ensures;
  greatest = folded_more (λ (t : ℕ) (e : Entry). max t e.message.time) c.args.time c.args.entries.now.items c.deref-entry-items.result.now c.loop-entry.entry-index _ c.loop-entry.greatest c.max-greatest.result c.deref-entry-items.ensures.value c.loop-entry-test.true c.loop-entry.invariant.greatest c.max-greatest.ensures;
}
