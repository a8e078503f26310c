-- What a federate promises: the least time at which it may still send.
use Rattle.std.specs.Prelude.{ℕ, ◌+◌, nat_lt, min, Bool, true, if◌then◌else◌, List, Option, Some, None, IfSome, ◌<◌}
use Rattle.kit_base.specs.declared.message.Message.{Message}
use Rattle.kit_rules.specs.Parts.{Parts, effective_lookahead}
use Rattle.kit_rules.specs.Simulation.{Seat, Block, seat_due}
use Rattle.kit_parts.specs.Fronts.{seat_after, Standing}

-- the promise below the end: by now while sends wait, and else by the due time, but no further than the end and 1
abbrev pub promise_at : ℕ → ℕ → ℕ → ℕ → Bool → ℕ
promise_at end lookahead now due waits = min (end + 1) ((if waits then now else due) + lookahead)

-- the promise of a federate that has started. Once the end is granted it is past the end
abbrev pub seat_promise : Parts → ℕ → Bool → List Message → Seat → ℕ
seat_promise p i waits received s = if nat_lt s.now p.end then promise_at p.end (effective_lookahead p i) s.now (seat_due p received i s) waits else p.end + 1

-- before the start's rules have run it goes by time 0
abbrev pub promise_after : Parts → ℕ → Bool → List Message → Option (List Block) → ℕ
promise_after p i waits received None = promise_at p.end (effective_lookahead p i) 0 0 true
promise_after p i waits received (Some done) = seat_promise p i waits received (seat_after p i done)

-- the promise of a federate as far as it is
abbrev pub promise : Parts → ℕ → Standing → ℕ
promise p i q = promise_after p i q.waits q.received q.done

-- the time by which a promise goes: 0 before the start, now while sends wait, and else the due time
abbrev pub time_after : Parts → ℕ → Bool → List Message → Option (List Block) → ℕ
time_after p i waits received None = 0
time_after p i waits received (Some done) = if waits then (seat_after p i done).now else seat_due p received i (seat_after p i done)

abbrev pub promise_time : Parts → ℕ → Standing → ℕ
promise_time p i q = time_after p i q.waits q.received q.done

-- the federate was not granted the end
abbrev pub GoesOn : Parts → ℕ → Standing → Type 0
GoesOn p i q = IfSome q.done (λ done. (seat_after p i done).now < p.end)
