-- what was seen is what the messages so far have, and these differ
use Rattle.std.proofs.Common.{◌≡◌, ℕ, ◌<◌, take, get_or}
use Rattle.std.specs.List.{list_any}
use Rattle.kit_rules.specs.Delivery.{has_bit}
use Rattle.kit_cut.specs.ValidCuts.{NumbersDiffer}
use Rattle.kit_cut.proofs.Seen.{has_number}
use Rattle.kit_base.specs.declared.message.Message.{Message}
use Rattle.kit_cut.proofs.numbers.numbers_differ.Given as goal

abbrev pub invariant-loop-message : goal.invariant-loop-message
invariant-loop-message l = record {
  seen : (number sender : ℕ) → has_bit (get_or l.seen number 0) sender ≡ list_any (has_number number sender) (take l.message-index l.messages);
  differ : (j k : ℕ) (d : Message) → j < k → k < l.message-index → NumbersDiffer (get_or l.messages j d) (get_or l.messages k d);
}
