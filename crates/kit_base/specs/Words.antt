-- The two words in which a message lies in a buffer.
use Rattle.std.specs.Prelude.{◌≡◌, ◌==◌, ℕ, ◌+◌, ◌*◌, ◌/◌, ◌%◌, ◌^◌, ◌<◌, if◌then◌else◌}
use Rattle.kit_base.specs.declared.message.Kind.{Kind}
use Rattle.kit_base.specs.declared.message.Kind.TheVariants.{Event, Retraction}
use Rattle.kit_base.specs.declared.message.Message.{Message}
use Rattle.kit_base.specs.declared.words.Head.{Head}

-- the kind as a bit
abbrev pub kind_bit : Kind → ℕ
kind_bit Event = 0
kind_bit Retraction = 1

-- the head has the number from bit 0, the kind at bit 16, the group from bit 17, the colour from bit 24
abbrev pub head_word : Message → ℕ → ℕ
head_word m colour = m.number + kind_bit m.kind * 2 ^ 16 + m.group * 2 ^ 17 + colour * 2 ^ 24

-- the body has the value from bit 0, the time from bit 32
abbrev pub body_word : Message → ℕ
body_word m = m.value + m.time * 2 ^ 32

-- what the head of a message tells
abbrev pub head_with : Message → ℕ → Head
head_with m colour = record { number = m.number; kind = m.kind; group = m.group; colour = colour }

-- what a word tells, read as a head
abbrev pub head_of : ℕ → Head
head_of word = record {
  number = word % 2 ^ 16;
  kind = if word / 2 ^ 16 % 2 == 0 then Event else Retraction;
  group = word / 2 ^ 17 % 2 ^ 7;
  colour = word / 2 ^ 24;
}

-- the time and the value that a word tells, read as a body
abbrev pub body_of : ℕ → ℕ × ℕ
body_of word = (word / 2 ^ 32, word % 2 ^ 32)

-- a message whose number and group have room in a head
pub record FitsHead (m : Message) : Type 0 where
  pub number : m.number < 2 ^ 16
  pub group : m.group < 2 ^ 7

-- a head that was packed tells the message's number, kind and group, and the colour
abbrev pub HeadsComeBack : Type 0
HeadsComeBack = (m : Message) (colour : ℕ) → FitsHead m → head_of (head_word m colour) ≡ head_with m colour

-- no other word tells the same
abbrev pub HeadsAreWords : Type 0
HeadsAreWords = (m : Message) (colour word : ℕ) → head_of word ≡ head_with m colour → word ≡ head_word m colour

-- a body that was packed tells the message's time and value
abbrev pub BodiesComeBack : Type 0
BodiesComeBack = (m : Message) → m.value < 2 ^ 32 → body_of (body_word m) ≡ (m.time, m.value)

-- no other word tells the same
abbrev pub BodiesAreWords : Type 0
BodiesAreWords = (m : Message) (word : ℕ) → body_of word ≡ (m.time, m.value) → word ≡ body_word m
