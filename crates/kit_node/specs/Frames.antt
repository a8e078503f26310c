-- What the parts of a turn leave of a seat's place, and what the seat saw when.
use Rattle.std.specs.Prelude.{◌≡◌, ◌≢◌, ℕ, ◌+◌, ◌<◌, ◌≤◌, ◌⊎◌, Bool, false, List, [], ◌∷◌, ◌++◌, All, slice_index_or}
use Rattle.kit_ground.specs.declared.address.Reg.{Reg}
use Rattle.kit_ground.specs.declared.place.Glance.{Glance}
use Rattle.kit_ground.specs.declared.place.Place.{Place}
use Rattle.kit_ground.specs.Layout.{mail_words}
use Rattle.kit_ground.specs.Steps.{mail_index, reg_index}
use Rattle.kit_model.specs.declared.journal.JournalEntry.{JournalEntry}
use Rattle.kit_model.specs.declared.journal.JournalEntry.TheVariants.{Received}
use Rattle.kit_lbts.specs.declared.view.LbtsView.{LbtsView}
use Rattle.kit_lbts.specs.declared.view.Noted.{Noted}

abbrev Seat : Type 0
Seat = Place LbtsView

-- it is the same seat, later or at once, and set no stop word
pub record IsSameSeat (p q : Seat) : Type 0 where
  pub number : q.own.number ≡ p.own.number
  pub federates : q.own.federates ≡ p.own.federates
  pub buffers : q.own.buffers ≡ p.own.buffers
  pub steps : p.own.steps ≤ q.own.steps
  pub stops : q.own.stops ≡ p.own.stops

-- LOOKS. The last look at a word, and that it was made since p
abbrev pub last_stop : Seat → Glance Bool
last_stop q = q.own.stop

abbrev pub last_mail : Seat → ℕ → ℕ → Glance ℕ
last_mail q i w = slice_index_or q.own.mail (mail_index (mail_words q.own.buffers) i w) (record { step = 0; gave = 0 })

abbrev pub last_count : Seat → ℕ → Glance Bool
last_count q k = slice_index_or q.own.counts k (record { step = 0; gave = false })

abbrev pub last_look : Seat → Reg → Glance ℕ
last_look q reg = slice_index_or q.own.registers (reg_index reg) (record { step = 0; gave = 0 })

abbrev pub IsSince : {T : Type 0} → Seat → Glance T → Type 0
IsSince p g = p.own.steps < g.step

-- how often a mail word was collected
abbrev pub collects_at : Seat → ℕ → ℕ → ℕ
collects_at q i w = slice_index_or q.own.collects (mail_index (mail_words q.own.buffers) i w) 0

-- another federate
abbrev pub IsOther : Seat → ℕ → Type 0
IsOther q i = (i < q.own.federates) × (i ≢ q.own.number)

-- JOURNALS. That only receipts were entered
abbrev pub IsReceipt : JournalEntry → Type 0
IsReceipt (Received m) = Unit {0}
IsReceipt _ = ⊥

pub record OnlyReceipts (v u : LbtsView) : Type 0 where
  pub made : List Noted
  pub journal : u.journal ≡ v.journal ++ made
  pub receipts : All (λ (e : Noted). IsReceipt e.entry) made
