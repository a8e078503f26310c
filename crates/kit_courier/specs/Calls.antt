-- What the calls of this client come to, from the seat's place before to its place after.
use Rattle.std.specs.Prelude.{◌≡◌, ◌≢◌, ℕ, ◌+◌, ◌-◌, ◌*◌, ◌^◌, ◌<◌, ◌≤◌, ◌⊎◌, Bool, false, List, [], ◌∷◌, ◌++◌, None, bit_or, slice_index, slice_index_or}
use Rattle.std.specs.Int.{bit_at}
use Rattle.kit_ground.specs.declared.address.Reg.{Reg}
use Rattle.kit_ground.specs.declared.place.Glance.{Glance}
use Rattle.kit_ground.specs.declared.place.Place.{Place}
use Rattle.kit_ground.specs.Layout.{mail_words}
use Rattle.kit_ground.specs.Memory.{Memory}
use Rattle.kit_ground.specs.Rules.{World}
use Rattle.kit_ground.specs.Steps.{buffer_of, mail_index, mail_mask, reg_index}
use Rattle.kit_courier.specs.declared.view.CourierView.{CourierView}
use Rattle.kit_courier.specs.declared.view.Letter.{Letter}
use Rattle.kit_courier.specs.Couriers.{courier_rule}
use Rattle.kit_ground.specs.Layout.{clock_of}
use Rattle.kit_courier.specs.Letters.{WasSentTo, sent_by}

-- of each own buffer, as much is still to be posted as before
abbrev pub OwesTheSame : Place CourierView → Place CourierView → Type 0
OwesTheSame p q = (k : ℕ) → (buffer_of q.own.stock k).to_post ≡ (buffer_of p.own.stock k).to_post

-- the last look at a register
abbrev pub look_at : Place CourierView → Reg → Glance ℕ
look_at p r = slice_index_or p.own.registers (reg_index r) (record { step = 0; gave = 0 })

-- the last look at the clock of the federate k
abbrev pub last_look : Place CourierView → ℕ → Glance ℕ
last_look p k = look_at p (clock_of k)

-- the clock of each other federate below n was looked at since p, and what was found is known
pub record HasLooked (p : Place CourierView) (n : ℕ) (q : Place CourierView) : Type 0 where
  pub since : (k : ℕ) → k < n → k ≢ p.own.number → p.own.steps < (last_look q k).step
  pub found : (k : ℕ) → k < n → k ≢ p.own.number → (last_look q k).gave ≡ slice_index q.client.known k

-- the least that is known of the clocks below n but for one, or the greatest number where there is no other
pub record IsLeast (known : List ℕ) (n but least : ℕ) : Type 0 where
  pub below : (k : ℕ) → k < n → k ≢ but → least ≤ slice_index known k
  pub found : (least ≡ 2 ^ 64 - 1) ⊎ ((k : ℕ) × (k < n) × (k ≢ but) × (slice_index known k ≡ least))

-- the last look at the count of the own buffer k
abbrev pub last_count : Place CourierView → ℕ → Glance Bool
last_count p k = slice_index_or p.own.counts k (record { step = 0; gave = false })

-- the own buffer k was looked at since p, and was free or not
pub record HasSeen (p : Place CourierView) (k : ℕ) (free : Bool) (q : Place CourierView) : Type 0 where
  pub since : p.own.steps < (last_count q k).step
  pub found : (last_count q k).gave ≡ free

-- where a mail word of `from` stands among all that the seat collects
abbrev pub place_of_mail : Place CourierView → ℕ → ℕ → ℕ
place_of_mail p from word = mail_index (mail_words p.own.buffers) from word

-- the last collect of the mail word that stands there
abbrev pub look_at_mail : Place CourierView → ℕ → Glance ℕ
look_at_mail p a = slice_index_or p.own.mail a (record { step = 0; gave = 0 })

-- what the last collect of this mail word of `from` gave
abbrev pub last_mail : Place CourierView → ℕ → ℕ → ℕ
last_mail p from word = (look_at_mail p (place_of_mail p from word)).gave

-- the buffers of `from` that the seat holds
abbrev pub held_of : Place CourierView → ℕ → ℕ
held_of p from = slice_index p.own.stock.holds from

-- what a call that sends from the own buffer k leaves
pub record SendLeaves (p : Place CourierView) (k : ℕ) (q : Place CourierView) : Type 0 where
  pub looks : q.own.looks ≡ p.own.looks
  pub stops : q.own.stops ≡ p.own.stops
  pub registers : q.own.registers ≡ p.own.registers
  pub counts : (x : ℕ) → x ≢ k → last_count q x ≡ last_count p x
  pub mail : q.own.mail ≡ p.own.mail
  pub stop : q.own.stop ≡ p.own.stop
  pub shown : q.own.shown ≡ p.own.shown
  pub collects : q.own.collects ≡ p.own.collects
  pub buffers : (x : ℕ) → x ≢ k → buffer_of q.own.stock x ≡ buffer_of p.own.stock x
  pub holds : q.own.stock.holds ≡ p.own.stock.holds
  pub known : q.client.known ≡ p.client.known
  pub reading : q.client.reading ≡ p.client.reading
  pub got : q.client.got ≡ p.client.got

-- what a call that collects this mail word of `from` leaves
pub record ReceiveLeaves (p : Place CourierView) (from word : ℕ) (q : Place CourierView) : Type 0 where
  pub looks : q.own.looks ≡ p.own.looks
  pub stops : q.own.stops ≡ p.own.stops
  pub registers : q.own.registers ≡ p.own.registers
  pub counts : q.own.counts ≡ p.own.counts
  pub mail : (a : ℕ) → a ≢ place_of_mail p from word → look_at_mail q a ≡ look_at_mail p a
  pub stop : q.own.stop ≡ p.own.stop
  pub shown : q.own.shown ≡ p.own.shown
  pub collects : (a : ℕ) → a ≢ place_of_mail p from word → slice_index q.own.collects a ≡ slice_index p.own.collects a
  pub buffers : q.own.stock.buffers ≡ p.own.stock.buffers
  pub holds : (i : ℕ) → i ≢ from → held_of q i ≡ held_of p i
  pub known : q.client.known ≡ p.client.known
  pub sent : q.client.sent ≡ p.client.sent

-- what a call that looks at clocks and shows the own one leaves
pub record AdvanceLeaves (p q : Place CourierView) : Type 0 where
  pub stops : q.own.stops ≡ p.own.stops
  pub registers : (r : Reg) → r.slot < 12 → look_at q r ≡ look_at p r
  pub counts : q.own.counts ≡ p.own.counts
  pub mail : q.own.mail ≡ p.own.mail
  pub stop : q.own.stop ≡ p.own.stop
  pub shown : (slot : ℕ) → slot ≢ 12 → slice_index q.own.shown slot ≡ slice_index p.own.shown slot
  pub collects : q.own.collects ≡ p.own.collects
  pub stock : q.own.stock ≡ p.own.stock
  pub known : slice_index q.client.known p.own.number ≡ slice_index p.client.known p.own.number
  pub sent : q.client.sent ≡ p.client.sent
  pub reading : q.client.reading ≡ p.client.reading
  pub got : q.client.got ≡ p.client.got

-- at a step of the seat between p and q there was a world in which the federate `from` had sent it the letter
pub record WasSent (p : Place CourierView) (from : ℕ) (letter : Letter) (q : Place CourierView) : Type 0 where
  pub seat : Place CourierView
  pub number : seat.own.number ≡ p.own.number
  pub since : p.own.steps ≤ seat.own.steps
  pub until : seat.own.steps < q.own.steps
  pub world : (m : Memory) × (places : List (Place CourierView)) × World courier_rule seat m places × WasSentTo (sent_by places from) seat.own.number letter

-- this mail word of `from` was collected once since p
abbrev pub HasCollected : Place CourierView → ℕ → ℕ → Place CourierView → Type 0
HasCollected p from word q = slice_index q.own.collects (place_of_mail p from word) ≡ slice_index p.own.collects (place_of_mail p from word) + 1

-- of the buffers that were posted in this word one is released again, and the others are held
pub record IsEmptied (p : Place CourierView) (from word : ℕ) (q : Place CourierView) : Type 0 where
  pub low : ℕ
  pub posted : bit_at (last_mail q from word) low ≡ 1
  pub lowest : (k : ℕ) → k < low → bit_at (last_mail q from word) k ≡ 0
  pub released : bit_at (held_of q from) (64 * word + low) ≡ 0
  pub others : (k : ℕ) → k ≢ 64 * word + low → bit_at (held_of q from) k ≡ bit_at (bit_or (held_of p from) (mail_mask word (last_mail q from word))) k

-- a letter came
pub record IsReceived (p : Place CourierView) (from word : ℕ) (letter : Letter) (q : Place CourierView) : Type 0 where
  pub steps : q.own.steps ≡ p.own.steps + 4
  pub got : q.client.got ≡ p.client.got ++ record { from = from; letter = letter } ∷ []
  pub reading : q.client.reading ≡ None
  pub sent : WasSent p from letter q
  pub emptied : IsEmptied p from word q

-- no letter was there
pub record IsUnmoved (p : Place CourierView) (from word : ℕ) (q : Place CourierView) : Type 0 where
  pub steps : q.own.steps ≡ p.own.steps + 1
  pub got : q.client.got ≡ p.client.got
  pub reading : q.client.reading ≡ p.client.reading
  pub mail : last_mail q from word ≡ 0
  pub held : held_of q from ≡ held_of p from
