-- What a federate's own place tells, in any world in which the rule holds.
use Rattle.std.specs.Prelude.{◌≡◌, ◌≢◌, ℕ, ◌+◌, ◌<◌, ◌≤◌, List, All, length, Some, None}
use Rattle.kit_ground.specs.declared.place.Place.{Place}
use Rattle.kit_ground.specs.Memory.{Memory}
use Rattle.kit_ground.specs.Rules.{World}
use Rattle.kit_ground.specs.Steps.{buffer_of}
use Rattle.kit_model.specs.Shares.{FitsWord}
use Rattle.kit_parts.specs.Queues.{due_by_queue}
use Rattle.kit_queue.specs.Entries.{messages_of}
use Rattle.kit_rounds.specs.Ledgers.{last_run}
use Rattle.kit_rules.specs.declared.table.Request.{Request}
use Rattle.kit_rules.specs.Federation.{IsFederation}
use Rattle.kit_lbts.specs.declared.view.Filled.{Filled}
use Rattle.kit_lbts.specs.declared.view.LbtsView.{LbtsView}
use Rattle.kit_lbts.specs.Agreement.{Agrees, agreeing_rule}
use Rattle.kit_lbts.specs.LedgerLaws.{ready_place}
use Rattle.kit_lbts.specs.Letters.{IsSending}
use Rattle.kit_lbts.specs.Progress.{view_when_ready}
use Rattle.kit_lbts.specs.Promises.{next_contribution}
use Rattle.kit_lbts.specs.Seats.{Granting, Holdings, Queue, Receiving, Sends, most_sends}
use Rattle.kit_lbts.specs.Views.{due_of, receipts, time_of}

-- there is a world in which the rule holds and the federate has this place
abbrev pub IsInWorld : Place LbtsView → Type 0
IsInWorld p = (m : Memory) × (places : List (Place LbtsView)) × World agreeing_rule p m places

-- what such a place tells
pub record PlaceTells (p : Place LbtsView) : Type 0 where
  pub federation : IsFederation p.client.federation
  pub there : p.own.number < p.own.federates
  pub federates : p.own.federates ≡ length p.client.federation.federates
  pub buffers : p.own.buffers ≡ p.client.federation.buffers
  pub filled : length p.client.filled ≡ p.own.buffers
  pub half_posted : (k : ℕ) → (buffer_of p.own.stock k).to_post ≢ 0 → p.client.sending ≡ Some k
  pub sending : (k : ℕ) → p.client.sending ≡ Some k → IsSending p k
  pub holdings : Holdings p
  pub queue : Queue p.own.number p
  pub receiving : Receiving p.client
  pub granting : Granting p
  pub sends : Sends p.own.number p
  pub agrees : Agrees p.own.number p.client

abbrev pub PlacesTell : Type 0
PlacesTell = (p : Place LbtsView) → IsInWorld p → PlaceTells p

-- below the end a request is due after the logical time, and not after the end
abbrev pub DuesAreAhead : Type 0
DuesAreAhead = (p : Place LbtsView) → IsInWorld p → p.client.request ≢ None → time_of p.client < p.client.federation.end
    → (time_of p.client < due_of p.client) × (due_of p.client ≤ p.client.federation.end)

-- and it is due by the first of its queue
abbrev pub DuesGoByFirst : Type 0
DuesGoByFirst = (p : Place LbtsView) → IsInWorld p → (r : Request) → p.client.request ≡ Some r → due_of p.client ≡ due_by_queue r (messages_of p.client.queue)

-- it has posted and received so many copies at most
abbrev pub most_copies : ℕ
most_copies = 245760

abbrev pub CopiesAreFew : Type 0
CopiesAreFew = (p : Place LbtsView) → IsInWorld p → (length p.client.posted ≤ most_copies) × (length (receipts p.client) ≤ most_copies)

-- so its next contribution has room in a word, where the numbers suffice for its start
abbrev pub NextSharesFit : Type 0
NextSharesFit = (p : Place LbtsView) → IsInWorld p → length (view_when_ready p.own.number p.client).state.sends ≤ most_sends
    → FitsWord (next_contribution (ready_place p)).share

-- what it received has its own colour or the next one at most
abbrev pub ReceiptsAreNear : Type 0
ReceiptsAreNear = (p : Place LbtsView) → IsInWorld p → All (λ (f : Filled). f.colour ≤ last_run p.client.contributions + 1) (receipts p.client)
