-- Laws of the floor: where its words stand, and that every step that is allowed keeps what holds of it.
use Rattle.std.specs.Prelude.{◌≡◌, ℕ, ◌+◌, ◌*◌, ◌<◌, ◌≤◌, ◌⊎◌, true, List, length, map, slice_index, slice_set}
use Rattle.std.specs.Int.{bit_at}
use mathlib.Core.Option.{some}
use lib.ListN.{get_elem?}
use Rattle.kit_ground.specs.declared.address.Address.{Address}
use Rattle.kit_ground.specs.declared.address.Address.TheVariants.{Count, Mail, Part}
use Rattle.kit_ground.specs.declared.place.Deed.{Deed}
use Rattle.kit_ground.specs.declared.place.Deed.TheVariants.{Charged}
use Rattle.kit_ground.specs.declared.place.Place.{Place}
use Rattle.kit_ground.specs.declared.place.SeatBuffers.{SeatBuffers}
use Rattle.kit_ground.specs.Layout.{index_of, is_there, memory_of, size_of}
use Rattle.kit_ground.specs.Memory.{Memory, with_word}
use Rattle.kit_ground.specs.Rules.{FloorHolds, Keeps, OwnFits, Rule, World, stock_of}
use Rattle.kit_ground.specs.Sets.{Pool, buffer_at, due, stock_at}
use Rattle.kit_ground.specs.Steps.{Allowed, place_after, address_of, becomes, buffer_of, part_of}
use Rattle.kit_ground.specs.Words.{RuledWords}

-- each word stands on the floor
abbrev pub WordsAreInside : Type 0
WordsAreInside = (n b : ℕ) (a : Address) → is_there n b a ≡ true → index_of n b a < size_of n b

-- words that stand at one place are one word
abbrev pub WordsAreApart : Type 0
WordsAreApart = (n b : ℕ) (a c : Address) → is_there n b a ≡ true → is_there n b c ≡ true → index_of n b a ≡ index_of n b c → a ≡ c

-- a word that is stored in the list is stored in the memory that the list is
abbrev pub WordsAreStored : Type 0
WordsAreStored = (n b : ℕ) (words : List ℕ) (a : Address) (v : ℕ) → is_there n b a ≡ true → length words ≡ size_of n b
    → memory_of n b (slice_set words (index_of n b a) v) ≡ with_word (memory_of n b words) a v

-- who is in a set of a buffer is counted for it
abbrev pub ReadersAreCounted : Type 0
ReadersAreCounted = (m : Memory) (stocks : List SeatBuffers) (n b i k j : ℕ) → Pool m stocks n b → i < n → k < b → j < n → due m stocks i k j ≡ 1 → 0 < m (Count i k)

-- for a buffer that was seen free nobody is in a set
abbrev pub FreeBuffersHaveNobody : Type 0
FreeBuffersHaveNobody = (m : Memory) (stocks : List SeatBuffers) (n b i k j : ℕ) → Pool m stocks n b → i < n → k < b → j < n → (buffer_at m stocks i k).free ≡ true → due m stocks i k j ≡ 0

-- no more federates are counted than there are, so no count wraps
abbrev pub CountsAreSmall : Type 0
CountsAreSmall = (m : Memory) (stocks : List SeatBuffers) (n b i k : ℕ) → Pool m stocks n b → i < n → k < b → m (Count i k) ≤ n

-- who is in a set of a buffer finds in it the words that the owner last wrote
abbrev pub ReadersFindWhatWasWritten : Type 0
ReadersFindWhatWasWritten = (m : Memory) (stocks : List SeatBuffers) (n b i k j x : ℕ) → Pool m stocks n b → i < n → k < b → j < n → x < 2 → due m stocks i k j ≡ 1
    → m (Part i k x) ≡ part_of x (buffer_at m stocks i k)

-- and as long as somebody is in a set of it, its content words stay, whatever step is made that is allowed
abbrev pub WordsStayForReaders : Type 0 → Type 0
WordsStayForReaders V = (b : ℕ) (m : Memory) (places : List (Place V)) (me : ℕ) (p : Place V) (deed : Deed) → FloorHolds b m places → get_elem? places me ≡ some p → Allowed p.own deed (m (address_of p.own deed))
    → (i k j x : ℕ) → i < length places → k < b → j < length places → x < 2 → due m (map stock_of places) i k j ≡ 1
    → with_word m (address_of p.own deed) (becomes deed (m (address_of p.own deed))) (Part i k x) ≡ m (Part i k x)

-- the step of the seat `me` charged its buffer k for the federate j
abbrev pub ChargesFor : ℕ → Deed → ℕ → ℕ → ℕ → Type 0
ChargesFor me (Charged c mask) i k j = (i ≡ me) × (k ≡ c) × (bit_at mask j ≡ 1)
ChargesFor me _ i k j = ⊥

-- who is in a set of a buffer after a step that is allowed was in one before, or the step charged the buffer for it
abbrev pub ReadersWereCharged : Type 0 → Type 0
ReadersWereCharged V = (b : ℕ) (m : Memory) (places : List (Place V)) (me : ℕ) (p : Place V) (next : Deed → Place V → V) (deed : Deed)
    → FloorHolds b m places → get_elem? places me ≡ some p → Allowed p.own deed (m (address_of p.own deed))
    → (i k j : ℕ) → i < length places → k < b → j < length places
    → due (with_word m (address_of p.own deed) (becomes deed (m (address_of p.own deed)))) (map stock_of (slice_set places me (place_after next deed p))) i k j ≡ 1
    → (due m (map stock_of places) i k j ≡ 1) ⊎ ChargesFor me deed i k j

-- where a buffer counts nobody, nobody is in a set of it
abbrev pub UncountedBuffersHaveNobody : Type 0
UncountedBuffersHaveNobody = (m : Memory) (stocks : List SeatBuffers) (n b i k j : ℕ) → Pool m stocks n b → i < n → k < b → j < n → m (Count i k) ≡ 0 → due m stocks i k j ≡ 0

-- where the federate j is in no set of any buffer of i, it holds none of them
abbrev pub NobodyDueHoldsNone : Type 0
NobodyDueHoldsNone = (m : Memory) (stocks : List SeatBuffers) (n b i j : ℕ) → Pool m stocks n b → i < n → j < n → ((k : ℕ) → k < b → due m stocks i k j ≡ 0) → slice_index (stock_at stocks j).holds i ≡ 0

-- where nobody is in a set of a buffer, it is to be posted to nobody
abbrev pub NobodyDueIsOwedNone : Type 0
NobodyDueIsOwedNone = (m : Memory) (stocks : List SeatBuffers) (n b i k : ℕ) → Pool m stocks n b → i < n → k < b → ((j : ℕ) → j < n → due m stocks i k j ≡ 0) → (buffer_at m stocks i k).to_post ≡ 0

-- every step that is allowed keeps the floor's own rule, whatever it makes of the client's view
abbrev pub StepsKeepTheFloor : Type 0 → Type 0
StepsKeepTheFloor V = (b : ℕ) (m : Memory) (places : List (Place V)) (me : ℕ) (p : Place V) (next : Deed → Place V → V) (deed : Deed)
    → FloorHolds b m places → get_elem? places me ≡ some p → Allowed p.own deed (m (address_of p.own deed))
    → FloorHolds b (with_word m (address_of p.own deed) (becomes deed (m (address_of p.own deed)))) (slice_set places me (place_after next deed p))

-- a step that is allowed on a floor of words, with what was found there
pub record IsStepOn {V : Type 0} (rule : Rule V) (b : ℕ) (words : List ℕ) (places : List (Place V)) (me : ℕ) (p : Place V) (a : Address) (deed : Deed) (found : ℕ) : Type 0 where
  pub rules : RuledWords rule b words places
  pub here : get_elem? places me ≡ some p
  pub found_is : found ≡ memory_of (length places) b words a
  pub address_is : a ≡ address_of p.own deed
  pub allowed : Allowed p.own deed found

-- the words after it
abbrev pub words_after_step : {V : Type 0} → ℕ → List ℕ → List (Place V) → Address → Deed → ℕ → List ℕ
words_after_step b words places a deed found = slice_set words (index_of (length places) b a) (becomes deed found)

-- over a list of words: a step that is allowed, and that keeps the client's rule in every world, keeps both rules
abbrev pub StepsKeepBothRules : {V : Type 0} → Rule V → Type 0
StepsKeepBothRules {V} rule = (b : ℕ) (words : List ℕ) (places : List (Place V)) (me : ℕ) (p : Place V) (next : Deed → Place V → V) (a : Address) (deed : ℕ → Deed) (found : ℕ)
    → IsStepOn rule b words places me p a (deed found) found → Keeps rule next p a deed
    → RuledWords rule b (words_after_step b words places a (deed found) found) (slice_set places me (place_after next (deed found) p))

-- and each guest keeps what the rule asks of it
abbrev pub StepsKeepGuests : {V : Type 0} → Rule V → Type 0
StepsKeepGuests {V} rule = (b : ℕ) (words : List ℕ) (places : List (Place V)) (me : ℕ) (p : Place V) (next : Deed → Place V → V) (a : Address) (deed : ℕ → Deed) (found : ℕ)
    → IsStepOn rule b words places me p a (deed found) found → Keeps rule next p a deed
    → (g : Place V) → rule.sees (memory_of (length places) b words) places g
    → rule.sees (memory_of (length places) b (words_after_step b words places a (deed found) found)) (slice_set places me (place_after next (deed found) p)) g

-- what a world tells of the seat that makes a step in it
pub record WorldTells {V : Type 0} (p : Place V) (m : Memory) (places : List (Place V)) : Type 0 where
  pub fits : OwnFits m p.own.federates p.own.buffers p.own.number p.own
  pub number : p.own.number < p.own.federates
  pub few : p.own.federates ≤ 16
  pub small : p.own.buffers ≤ 1024
  pub buffers : length p.own.stock.buffers ≡ p.own.buffers
  pub holds : length p.own.stock.holds ≡ p.own.federates
  -- mail is of buffers that there are
  pub mail : (i word c : ℕ) → i < p.own.federates → bit_at (m (Mail p.own.number i word)) c ≡ 1 → (c < 64) × (64 * word + c < p.own.buffers)
  -- a buffer that the seat holds counts it
  pub counted : (i k : ℕ) → i < p.own.federates → k < p.own.buffers → bit_at (slice_index p.own.stock.holds i) k ≡ 1 → 0 < m (Count i k)
  -- an own buffer that was seen free counts nobody, and its words are those that the seat last wrote
  pub free : (k : ℕ) → k < p.own.buffers → (buffer_of p.own.stock k).free ≡ true → m (Count p.own.number k) ≡ 0
  pub content : (k x : ℕ) → k < p.own.buffers → x < 2 → m (Part p.own.number k x) ≡ part_of x (buffer_of p.own.stock k)

abbrev pub WorldsTell : {V : Type 0} → Rule V → Type 0
WorldsTell {V} rule = (p : Place V) (m : Memory) (places : List (Place V)) → World rule p m places → WorldTells p m places
