-- What a step asks and what it tells, over the memory and the places of all federates.
use Rattle.std.specs.Prelude.{◌≡◌, ℕ, zero, suc, ◌+◌, ◌*◌, ◌<◌, ◌≤◌, false, List, [], ◌∷◌, length, map, replicate, slice_index, slice_set}
use mathlib.Core.Option.{some}
use lib.ListN.{get_elem?}
use Rattle.kit_ground.specs.declared.address.Address.{Address}
use Rattle.kit_ground.specs.declared.address.Address.TheVariants.{Register, Stop}
use Rattle.kit_ground.specs.declared.place.Deed.{Deed}
use Rattle.kit_ground.specs.declared.place.SeatState.{SeatState}
use Rattle.kit_ground.specs.declared.place.Place.{Place}
use Rattle.kit_ground.specs.declared.place.SeatBuffers.{SeatBuffers}
use Rattle.kit_ground.specs.Layout.{mail_words}
use Rattle.kit_ground.specs.Memory.{Memory, with_word}
use Rattle.kit_ground.specs.Sets.{Pool}
use Rattle.kit_ground.specs.Steps.{place_after, becomes, fresh_buffer}

-- what holds of what the seat j, of n with b buffers each, knows of itself
pub record OwnFits (m : Memory) (n b j : ℕ) (o : SeatState) : Type 0 where
  pub number : o.number ≡ j
  pub federates : o.federates ≡ n
  pub buffers : o.buffers ≡ b
  pub registers : length o.registers ≡ 13 * n
  pub counts : length o.counts ≡ b
  pub mail : length o.mail ≡ mail_words b * n
  pub shown : length o.shown ≡ 13
  pub collects : length o.collects ≡ mail_words b * n
  -- its registers show what it last published
  pub shows : (s : ℕ) → s < 13 → m (Register (record { owner = j; slot = s })) ≡ slice_index o.shown s
  -- where it ever set the stop word, that is set
  pub stopped : 0 < o.stops → m Stop ≡ 1

-- what a client's rule asks of the memory and the places of all federates, and what it asks of a guest's place beside them.
-- A guest takes looks alone, so the first does not speak of guests.
pub record Rule (V : Type 0) : Type 1 where
  pub holds : Memory → List (Place V) → Type 0
  pub sees : Memory → List (Place V) → Place V → Type 0

module _ {V : Type 0} where
  abbrev pub stock_of : Place V → SeatBuffers
  stock_of p = p.own.stock

  -- the floor's own rule, of federates with b buffers each
  pub record FloorHolds (b : ℕ) (m : Memory) (places : List (Place V)) : Type 0 where
    pub few : length places ≤ 16
    pub small : b ≤ 1024
    pub each : (j : ℕ) (p : Place V) → get_elem? places j ≡ some p → OwnFits m (length places) b j p.own
    pub pool : Pool m (map stock_of places) (length places) b
    pub stop : m Stop ≤ 1

  -- a world in which the floor's rule and the client's hold, and a federate has the place p
  pub record World (rule : Rule V) (p : Place V) (m : Memory) (places : List (Place V)) : Type 0 where
    pub floor : FloorHolds p.own.buffers m places
    pub client : rule.holds m places
    pub here : get_elem? places p.own.number ≡ some p

  -- the client's rule holds after a step, and each guest that it held of keeps it
  pub record RuleStays (rule : Rule V) (m : Memory) (places : List (Place V)) (now : Memory) (after : List (Place V)) : Type 0 where
    pub client : rule.holds now after
    pub guests : (g : Place V) → rule.sees m places g → rule.sees now after g

  -- so it is in every world, for a step on this address; what the step is may depend on the word that it finds
  abbrev pub Keeps : Rule V → (Deed → Place V → V) → Place V → Address → (ℕ → Deed) → Type 0
  Keeps rule next p a deed = (m : Memory) (places : List (Place V)) → World rule p m places
      → RuleStays rule m places (with_word m a (becomes (deed (m a)) (m a))) (slice_set places p.own.number (place_after next (deed (m a)) p))

  -- there was such a world, and this word was in it
  abbrev pub WasFound : Rule V → Place V → Address → ℕ → Type 0
  WasFound rule p a word = (m : Memory) × (places : List (Place V)) × World rule p m places × (m a ≡ word)

-- what the seat k, of n with b buffers each, knows at first
abbrev pub own_at_first : ℕ → ℕ → ℕ → SeatState
own_at_first n b k = record {
  number = k;
  federates = n;
  buffers = b;
  steps = 0;
  looks = 0;
  stops = 0;
  registers = replicate (13 * n) (record { step = 0; gave = 0 });
  counts = replicate b (record { step = 0; gave = false });
  mail = replicate (mail_words b * n) (record { step = 0; gave = 0 });
  stop = record { step = 0; gave = false };
  shown = replicate 13 0;
  collects = replicate (mail_words b * n) 0;
  stock = record { buffers = replicate b fresh_buffer; holds = replicate n 0 };
}

-- the places at first: m of n, from the seat k on
abbrev pub places_from : {V : Type 0} → (ℕ → V) → ℕ → ℕ → ℕ → ℕ → List (Place V)
places_from first n b k zero = []
places_from first n b k (suc m) = record { own = own_at_first n b k; client = first k } ∷ places_from first n b (k + 1) m

abbrev pub places_at_first : {V : Type 0} → (ℕ → V) → ℕ → ℕ → List (Place V)
places_at_first first n b = places_from first n b 0 n

-- the memory at first
abbrev pub zero_memory : Memory
zero_memory _ = 0
