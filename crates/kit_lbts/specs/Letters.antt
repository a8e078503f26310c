-- The rule of the buffers: a buffer that counts a reader has a letter that was written for it.
use Rattle.std.specs.Prelude.{◌≡◌, ◌≢◌, ℕ, ◌<◌, ◌^◌, List, ◌∷◌, length, Some, unwrap_or}
use Rattle.kit_base.specs.declared.message.Message.{Message}
use Rattle.kit_base.specs.Words.{head_word, body_word, FitsHead}
use Rattle.kit_ground.specs.declared.address.Address.TheVariants.{Count, Part}
use Rattle.kit_ground.specs.declared.place.Place.{Place}
use Rattle.kit_ground.specs.Memory.{Memory}
use Rattle.kit_ground.specs.Steps.{buffer_of}
use Rattle.kit_rules.specs.Step.{no_message}
use Rattle.kit_rounds.specs.Ledgers.{last_run}
use Rattle.kit_lbts.specs.declared.view.Filled.{Filled}
use Rattle.kit_lbts.specs.declared.view.LbtsView.{LbtsView}
use Rattle.kit_lbts.specs.Views.{filled_in}

-- the letter that an own buffer was last charged with
abbrev pub letter_in : LbtsView → ℕ → Filled
letter_in v k = unwrap_or (filled_in v k) (record { message = no_message; colour = 0 })

-- the two words of a letter
pub record IsLetter (m : Memory) (owner k : ℕ) (f : Filled) : Type 0 where
  pub head : m (Part owner k 0) ≡ head_word f.message f.colour
  pub body : m (Part owner k 1) ≡ body_word f.message
  pub fits : FitsHead f.message
  pub value : f.message.value < 2 ^ 32
  pub sender : f.message.sender ≡ owner

-- the federate writes letters in its own colour
abbrev pub letter_of : LbtsView → Message → Filled
letter_of v m = record { message = m; colour = last_run v.contributions }

-- the buffer k is charged with the first message of the outbox, and is not posted whole
pub record IsSending (p : Place LbtsView) (k : ℕ) : Type 0 where
  pub first : Message
  pub rest : List Message
  pub within : k < p.own.buffers
  pub outbox : p.client.outbox ≡ first ∷ rest
  pub owed : (buffer_of p.own.stock k).to_post ≢ 0
  pub filled : letter_in p.client k ≡ letter_of p.client first

pub record Letters (m : Memory) (j : ℕ) (p : Place LbtsView) : Type 0 where
  pub sized : length p.client.filled ≡ p.own.buffers
  pub counted : (k : ℕ) → k < p.own.buffers → 0 < m (Count j k) → IsLetter m j k (letter_in p.client k)
  pub sending : (k : ℕ) → p.client.sending ≡ Some k → IsSending p k
  -- nothing of any other buffer is still to be posted
  pub others : (k : ℕ) → (buffer_of p.own.stock k).to_post ≢ 0 → p.client.sending ≡ Some k
