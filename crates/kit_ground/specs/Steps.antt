-- The floor machine: its kinds of step, where each is allowed, which word it is on, and what it does.
use Rattle.std.specs.Prelude.{◌≡◌, ◌≢◌, ℕ, zero, suc, ◌+◌, ◌-◌, ◌*◌, ◌/◌, ◌%◌, ◌^◌, ◌<◌, ◌==◌, Bool, true, false, List, slice_index, slice_index_or, slice_set, bit_or, bit_xor}
use Rattle.std.specs.Int.{bit_at}
use Rattle.std.specs.Int.Count.{ones}
use Rattle.kit_ground.specs.declared.address.Reg.{Reg}
use Rattle.kit_ground.specs.declared.address.Address.{Address}
use Rattle.kit_ground.specs.declared.address.Address.TheVariants.{Register, Stop, Mail, Count, Part}
use Rattle.kit_ground.specs.declared.place.Buffer.{Buffer}
use Rattle.kit_ground.specs.declared.place.Deed.{Deed}
use Rattle.kit_ground.specs.declared.place.Deed.TheVariants.{Looked, Published, Stopped, SawStop, SawFree, Wrote, Charged, PostedTo, Collected, ReadPart, Released}
use Rattle.kit_ground.specs.declared.place.Glance.{Glance}
use Rattle.kit_ground.specs.declared.place.SeatState.{SeatState}
use Rattle.kit_ground.specs.declared.place.Place.{Place}
use Rattle.kit_ground.specs.declared.place.SeatBuffers.{SeatBuffers}
use Rattle.kit_ground.specs.Layout.{mail_words}
use Rattle.kit_ground.specs.Memory.{Memory, with_word}

-- a register of a floor of n federates
abbrev pub IsReg : ℕ → Reg → Type 0
IsReg n r = (r.owner < n) × (r.slot < 13)

-- where a register stands among all, 13 of each federate
abbrev pub reg_index : Reg → ℕ
reg_index r = 13 * r.owner + r.slot

-- a buffer that was never touched
abbrev pub fresh_buffer : Buffer
fresh_buffer = record { free = false; head = 0; body = 0; has_head = false; has_body = false; to_post = 0 }

abbrev pub buffer_of : SeatBuffers → ℕ → Buffer
buffer_of s k = slice_index_or s.buffers k fresh_buffer

abbrev pub with_buffer : ℕ → Buffer → SeatBuffers → SeatBuffers
with_buffer k c s = record s { buffers = slice_set s.buffers k c }

-- the content word that the owner last wrote
abbrev pub part_of : ℕ → Buffer → ℕ
part_of zero c = c.head
part_of (suc _) c = c.body

-- what each step does to a buffer
abbrev pub buffer_after_look : Bool → Buffer → Buffer
buffer_after_look free c = record c { free = free }

abbrev pub buffer_after_write : ℕ → ℕ → Buffer → Buffer
buffer_after_write zero word c = record c { head = word; has_head = true }
buffer_after_write (suc _) word c = record c { body = word; has_body = true }

abbrev pub buffer_after_charge : ℕ → Buffer → Buffer
buffer_after_charge mask c = record c { free = false; has_head = false; has_body = false; to_post = mask }

abbrev pub buffer_after_post : ℕ → Buffer → Buffer
buffer_after_post j c = record c { to_post = bit_xor c.to_post (2 ^ j) }

-- the buffers of i in this mail word, as a mask of all its buffers
abbrev pub mail_mask : ℕ → ℕ → ℕ
mail_mask w mail = mail * 2 ^ (64 * w)

-- the buffers of i in this mail word are held from now on
abbrev pub stock_after_collect : ℕ → ℕ → ℕ → SeatBuffers → SeatBuffers
stock_after_collect i w mail s = record s { holds = slice_set s.holds i (bit_or (slice_index s.holds i) (mail_mask w mail)) }

-- the buffer k of i is held no more
abbrev pub stock_after_release : ℕ → ℕ → SeatBuffers → SeatBuffers
stock_after_release i k s = record s { holds = slice_set s.holds i (bit_xor (slice_index s.holds i) (2 ^ k)) }

abbrev pub stock_after : Deed → SeatBuffers → SeatBuffers
stock_after (SawFree k free) s = with_buffer k (buffer_after_look free (buffer_of s k)) s
stock_after (Wrote k p word) s = with_buffer k (buffer_after_write p word (buffer_of s k)) s
stock_after (Charged k mask) s = with_buffer k (buffer_after_charge mask (buffer_of s k)) s
stock_after (PostedTo k j) s = with_buffer k (buffer_after_post j (buffer_of s k)) s
stock_after (Collected i w mail) s = stock_after_collect i w mail s
stock_after (Released i k) s = stock_after_release i k s
stock_after _ s = s

-- the last looks, after the step of this number
abbrev pub registers_after : Deed → ℕ → List (Glance ℕ) → List (Glance ℕ)
registers_after (Looked r word) step buffer_after_look = slice_set buffer_after_look (reg_index r) (record { step = step; gave = word })
registers_after _ step buffer_after_look = buffer_after_look

abbrev pub counts_after : Deed → ℕ → List (Glance Bool) → List (Glance Bool)
counts_after (SawFree k free) step buffer_after_look = slice_set buffer_after_look k (record { step = step; gave = free })
counts_after _ step buffer_after_look = buffer_after_look

-- where the mail word w of the federate i stands among all, where there are m for each
abbrev pub mail_index : ℕ → ℕ → ℕ → ℕ
mail_index m i w = i * m + w

abbrev pub mail_after : Deed → ℕ → ℕ → List (Glance ℕ) → List (Glance ℕ)
mail_after (Collected i w mail) m step buffer_after_look = slice_set buffer_after_look (mail_index m i w) (record { step = step; gave = mail })
mail_after _ m step buffer_after_look = buffer_after_look

abbrev pub stop_after : Deed → ℕ → Glance Bool → Glance Bool
stop_after (SawStop set) step buffer_after_look = record { step = step; gave = set }
stop_after _ step buffer_after_look = buffer_after_look

abbrev pub shown_after : Deed → List ℕ → List ℕ
shown_after (Published r word) shown = slice_set shown r.slot word
shown_after _ shown = shown

abbrev pub collects_after : Deed → ℕ → List ℕ → List ℕ
collects_after (Collected i w mail) m collects = slice_set collects (mail_index m i w) (slice_index collects (mail_index m i w) + 1)
collects_after _ m collects = collects

abbrev pub looks_after : Deed → ℕ → ℕ
looks_after (Looked r word) looks = looks + 1
looks_after _ looks = looks

abbrev pub stops_after : Deed → ℕ → ℕ
stops_after Stopped stops = stops + 1
stops_after _ stops = stops

-- what a seat knows of itself after a step
abbrev pub own_after : Deed → SeatState → SeatState
own_after deed o = record {
  number = o.number;
  federates = o.federates;
  buffers = o.buffers;
  steps = o.steps + 1;
  looks = looks_after deed o.looks;
  stops = stops_after deed o.stops;
  registers = registers_after deed (o.steps + 1) o.registers;
  counts = counts_after deed (o.steps + 1) o.counts;
  mail = mail_after deed (mail_words o.buffers) (o.steps + 1) o.mail;
  stop = stop_after deed (o.steps + 1) o.stop;
  shown = shown_after deed o.shown;
  collects = collects_after deed (mail_words o.buffers) o.collects;
  stock = stock_after deed o.stock;
}

-- which word a step is on
abbrev pub address_of : SeatState → Deed → Address
address_of o (Looked r word) = Register r
address_of o (Published r word) = Register r
address_of o Stopped = Stop
address_of o (SawStop set) = Stop
address_of o (SawFree k free) = Count o.number k
address_of o (Wrote k p word) = Part o.number k p
address_of o (Charged k mask) = Count o.number k
address_of o (PostedTo k j) = Mail j o.number (k / 64)
address_of o (Collected i w mail) = Mail o.number i w
address_of o (ReadPart i k p word) = Part i k p
address_of o (Released i k) = Count i k

-- what that word becomes where it was `old`
abbrev pub becomes : Deed → ℕ → ℕ
becomes (Published r word) old = word
becomes Stopped old = 1
becomes (Wrote k p word) old = word
becomes (Charged k mask) old = (old + ones mask) % 2 ^ 64
becomes (PostedTo k j) old = bit_or old (2 ^ (k % 64))
becomes (Collected i w mail) old = 0
becomes (Released i k) old = (old + (2 ^ 64 - 1)) % 2 ^ 64
becomes _ old = old

-- the own buffer k was seen free, is not charged since, and both its parts are written
abbrev pub IsChargeable : SeatState → ℕ → Type 0
IsChargeable o k = ((buffer_of o.stock k).free ≡ true) × ((buffer_of o.stock k).has_head ≡ true) × ((buffer_of o.stock k).has_body ≡ true)

-- a set of federates to charge for: not empty, and without the seat itself
abbrev pub IsMask : SeatState → ℕ → Type 0
IsMask o mask = (mask ≢ 0) × (mask < 2 ^ o.federates) × (bit_at mask o.number ≡ 0)

-- where a step is allowed, and what it answers where the word is `old`
abbrev pub Allowed : SeatState → Deed → ℕ → Type 0
Allowed o (Looked r word) old = IsReg o.federates r × (word ≡ old)
Allowed o (Published r word) old = (r.owner ≡ o.number) × (r.slot < 13)
Allowed o Stopped old = Unit {0}
Allowed o (SawStop set) old = set ≡ (old == 1)
Allowed o (SawFree k free) old = (k < o.buffers) × ((buffer_of o.stock k).to_post ≡ 0) × (free ≡ (old == 0))
Allowed o (Wrote k p word) old = (k < o.buffers) × (p < 2) × ((buffer_of o.stock k).free ≡ true)
Allowed o (Charged k mask) old = (k < o.buffers) × IsChargeable o k × IsMask o mask
Allowed o (PostedTo k j) old = (k < o.buffers) × (j < o.federates) × (bit_at (buffer_of o.stock k).to_post j ≡ 1)
Allowed o (Collected i w mail) old = (i < o.federates) × (i ≢ o.number) × (w < mail_words o.buffers) × (mail ≡ old)
Allowed o (ReadPart i k p word) old = (i < o.federates) × (k < o.buffers) × (p < 2) × (bit_at (slice_index o.stock.holds i) k ≡ 1) × (word ≡ old)
Allowed o (Released i k) old = (i < o.federates) × (k < o.buffers) × (bit_at (slice_index o.stock.holds i) k ≡ 1)

-- one step of the floor machine, by a seat that knows this of itself: it is allowed, and one word is stored
pub record IsStep (o : SeatState) (deed : Deed) (m now : Memory) : Type 0 where
  pub allowed : Allowed o deed (m (address_of o deed))
  pub stores : now ≡ with_word m (address_of o deed) (becomes deed (m (address_of o deed)))

-- a buffer that is posted has a mail word
abbrev pub HasMailWord : Deed → Type 0
HasMailWord (PostedTo k j) = k < 1024
HasMailWord _ = Unit {0}

-- what a step did, with the word that it found
abbrev pub with_found : Deed → ℕ → Deed
with_found (Looked r _) found = Looked r found
with_found (SawStop _) found = SawStop (found == 1)
with_found (SawFree k _) found = SawFree k (found == 0)
with_found (Collected i w _) found = Collected i w found
with_found (ReadPart i k p _) found = ReadPart i k p found
with_found deed found = deed

-- the seat of one federate, on one floor
pub record IsSameSeat {V : Type 0} (p q : Place V) : Type 0 where
  pub number : q.own.number ≡ p.own.number
  pub federates : q.own.federates ≡ p.own.federates
  pub buffers : q.own.buffers ≡ p.own.buffers

-- what a seat knows and its client's view, after a step
abbrev pub place_after : {V : Type 0} → (Deed → Place V → V) → Deed → Place V → Place V
place_after next deed p = record { own = own_after deed p.own; client = next deed p }
