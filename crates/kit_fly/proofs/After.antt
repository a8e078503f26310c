-- The world after a step of a seat.
use Rattle.std.proofs.Common.{◌≡◌, ℕ, ◌<◌, refl, arith}
use Rattle.kit_ground.specs.declared.address.Address.TheVariants.{Register}
use Rattle.kit_ground.specs.declared.address.Reg.{Reg}
use Rattle.kit_ground.specs.declared.place.Deed.TheVariants.{Looked, Published}
use Rattle.kit_ground.specs.declared.place.Place.{Place}
use Rattle.kit_ground.specs.Rules.{Keeps, WasFound}
use Rattle.kit_ground.specs.Steps.{IsReg, place_after}
use Rattle.kit_ground.proofs.StepWorlds.{goes_on}
use Rattle.kit_model.specs.Shares.{FitsWord, share_of}
use Rattle.kit_lbts.specs.declared.view.LbtsView.{LbtsView}
use Rattle.kit_lbts.specs.Agreement.{agreeing_rule}
use Rattle.kit_lbts.specs.Progress.{view_after}
use Rattle.kit_lbts.proofs.WithAgreement.{looks_agree}
use Rattle.kit_lbts.specs.SeatLaws.{IsInWorld}

pub look_world : (p : Place LbtsView) (reg : Reg) (word : ℕ) → IsReg p.own.federates reg → WasFound agreeing_rule p (Register reg) word → IsInWorld (place_after view_after (Looked reg word) p)
look_world p reg word there told = goes_on agreeing_rule view_after p (Register reg) (λ found. Looked reg found) word refl (there, refl) (looks_agree p reg) told

pub publish_world : (p : Place LbtsView) (reg : Reg) (word : ℕ) → reg.owner ≡ p.own.number → reg.slot < 13 → Keeps agreeing_rule view_after p (Register reg) (λ _. Published reg word)
    → (found : ℕ) × WasFound agreeing_rule p (Register reg) found → IsInWorld (place_after view_after (Published reg word) p)
publish_world p reg word own slot keeps told = goes_on agreeing_rule view_after p (Register reg) (λ _. Published reg word) told.0 refl (own, slot) keeps told.1

-- what is read has room in a word
pub word_fits : (word : ℕ) → FitsWord (share_of word).0
word_fits word = record { out_fits = omega arith; inn_fits = omega arith; low_fits = omega arith }
