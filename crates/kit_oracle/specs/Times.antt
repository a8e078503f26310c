-- Times, and how many of them are later.
use Rattle.std.specs.Prelude.{ℕ, nat_lt, Bool, ◌&&◌, List, count_by}
use Rattle.kit_base.specs.declared.message.Message.{Message}
use Rattle.kit_rules.specs.Parts.{Parts}
use Rattle.kit_rules.specs.Delivery.{is_transported}

-- how many are after t
abbrev pub count_later : ℕ → List ℕ → ℕ
count_later t times = count_by (λ x. nat_lt t x) times

-- whether a message is transported, and timed after t
abbrev pub is_later : Parts → ℕ → Message → Bool
is_later p t m = is_transported p m && nat_lt t m.time

-- how many of these are
abbrev pub count_sent_later : Parts → ℕ → List Message → ℕ
count_sent_later p t ms = count_by (is_later p t) ms
