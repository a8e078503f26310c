-- Which numbers of which senders were seen among messages, by a mask of senders for each number.
use Rattle.std.specs.Prelude.{◌≡◌, ℕ, List, Bool, ◌==◌, ◌&&◌, slice_index}
use Rattle.std.specs.List.{list_any}
use Rattle.kit_base.specs.declared.message.Message.{Message}
use Rattle.kit_rules.specs.Delivery.{has_bit}

-- whether a message has this number of this sender
abbrev pub has_number : ℕ → ℕ → Message → Bool
has_number sender number m = m.sender == sender && m.number == number

-- the masks have the numbers of these messages, and no others
abbrev pub AreNoted : List ℕ → List Message → Type 0
AreNoted masks done = (sender number : ℕ) → has_bit (slice_index masks number) sender ≡ list_any (has_number sender number) done
