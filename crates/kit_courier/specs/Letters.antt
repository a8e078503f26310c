-- The rule of the letters: what is read was sent to its reader.
use Rattle.std.specs.Prelude.{◌≡◌, ℕ, ◌<◌, List, [], Contains, length, map, slice_index, slice_index_or, Some}
use Rattle.std.specs.Int.{bit_at}
use mathlib.Core.Option.{some}
use lib.ListN.{get_elem?}
use Rattle.kit_ground.specs.declared.address.Address.TheVariants.{Part}
use Rattle.kit_ground.specs.declared.place.SeatBuffers.{SeatBuffers}
use Rattle.kit_ground.specs.declared.place.SeatState.{SeatState}
use Rattle.kit_ground.specs.declared.place.Place.{Place}
use Rattle.kit_ground.specs.Memory.{Memory}
use Rattle.kit_ground.specs.Rules.{stock_of}
use Rattle.kit_ground.specs.Sets.{due}
use Rattle.kit_courier.specs.declared.view.CourierView.{CourierView}
use Rattle.kit_courier.specs.declared.view.Letter.{Letter}
use Rattle.kit_courier.specs.declared.view.Reading.{Reading}
use Rattle.kit_courier.specs.declared.view.Receipt.{Receipt}
use Rattle.kit_courier.specs.declared.view.Sent.{Sent}

-- the letter that lies in the buffer k of i
abbrev pub letter_in : Memory → ℕ → ℕ → Letter
letter_in m i k = record { head = m (Part i k 0); body = m (Part i k 1) }

abbrev pub sent_of : Place CourierView → List Sent
sent_of p = p.client.sent

-- the letters that the federate i sent
abbrev pub sent_by : List (Place CourierView) → ℕ → List Sent
sent_by places i = slice_index_or (map sent_of places) i []

-- among what was sent is this letter, for the federate j
pub record WasSentTo (sent : List Sent) (j : ℕ) (letter : Letter) : Type 0 where
  pub to : ℕ
  pub has : Contains sent (record { to = to; letter = letter })
  pub reader : bit_at to j ≡ 1

-- a seat holds the buffer that it is reading, and read its head
pub record IsReading (m : Memory) (o : SeatState) (r : Reading) : Type 0 where
  pub from : r.from < o.federates
  pub buffer : r.buffer < o.buffers
  pub held : bit_at (slice_index o.stock.holds r.from) r.buffer ≡ 1
  pub head : m (Part r.from r.buffer 0) ≡ r.head

-- what the rule says of the federate j, of n
pub record Corresponds (m : Memory) (stocks : List SeatBuffers) (n : ℕ) (sent : ℕ → List Sent) (j : ℕ) (p : Place CourierView) : Type 0 where
  -- to whomever a buffer is to be posted, was posted, or who holds it, the letter in it was sent
  pub due : (k : ℕ) → k < p.own.buffers → (d : ℕ) → d < n → due m stocks j k d ≡ 1 → WasSentTo p.client.sent d (letter_in m j k)
  pub reading : (r : Reading) → p.client.reading ≡ Some r → IsReading m p.own r
  -- what it read was sent to it
  pub got : (t : Receipt) → Contains p.client.got t → WasSentTo (sent t.from) j t.letter

pub record Letters (m : Memory) (places : List (Place CourierView)) : Type 0 where
  pub each : (j : ℕ) (p : Place CourierView) → get_elem? places j ≡ some p → Corresponds m (map stock_of places) (length places) (sent_by places) j p
