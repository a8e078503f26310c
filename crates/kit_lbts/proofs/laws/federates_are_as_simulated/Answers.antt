use Rattle.kit_lbts.proofs.Worlds.{blocks_are_a_front, delivered_was_received, states_are_simulated, outboxes_stand_behind, sends_are_posted, waiting_is_late, queues_are_pending, entries_lie_in_buffers, settled_are_below, orphans_are_retracted, copies_are_in_one_place, messages_are_charged_once, counted_are_letters, half_posted_are_first, ended_are_complete}
use Rattle.kit_lbts.proofs.laws.federates_are_as_simulated.Goals as goal

pub returns-clause-blocks : goal.returns-clause-blocks
returns-clause-blocks c = blocks_are_a_front

pub returns-clause-delivered : goal.returns-clause-delivered
returns-clause-delivered c = delivered_was_received

pub returns-clause-states : goal.returns-clause-states
returns-clause-states c = states_are_simulated

pub returns-clause-outbox : goal.returns-clause-outbox
returns-clause-outbox c = outboxes_stand_behind

pub returns-clause-sends : goal.returns-clause-sends
returns-clause-sends c = sends_are_posted

pub returns-clause-waiting : goal.returns-clause-waiting
returns-clause-waiting c = waiting_is_late

pub returns-clause-queue : goal.returns-clause-queue
returns-clause-queue c = queues_are_pending

pub returns-clause-buffers : goal.returns-clause-buffers
returns-clause-buffers c = entries_lie_in_buffers

pub returns-clause-settled : goal.returns-clause-settled
returns-clause-settled c = settled_are_below

pub returns-clause-orphans : goal.returns-clause-orphans
returns-clause-orphans c = orphans_are_retracted

pub returns-clause-copies : goal.returns-clause-copies
returns-clause-copies c = copies_are_in_one_place

pub returns-clause-charged : goal.returns-clause-charged
returns-clause-charged c = messages_are_charged_once

pub returns-clause-letters : goal.returns-clause-letters
returns-clause-letters c = counted_are_letters

pub returns-clause-half_posted : goal.returns-clause-half_posted
returns-clause-half_posted c = half_posted_are_first

pub returns-clause-complete : goal.returns-clause-complete
returns-clause-complete c = ended_are_complete
