-- What one look comes to.
use Rattle.std.specs.Prelude.{◌≡◌, ℕ, Option, Some, None}
use Rattle.kit_model.specs.declared.share.Share.{Share}
use Rattle.kit_model.specs.Shares.{Shows, share_of}
use Rattle.kit_ground.specs.declared.address.Reg.{Reg}
use Rattle.kit_ground.specs.declared.place.Deed.TheVariants.{Looked}
use Rattle.kit_ground.specs.declared.place.Place.{Place}
use Rattle.kit_ground.specs.Steps.{place_after}
use Rattle.kit_lbts.specs.declared.view.LbtsView.{LbtsView}
use Rattle.kit_lbts.specs.Progress.{view_after}

-- a share where the word shows the round
abbrev pub IsFound : ℕ → ℕ → Option Share → Type 0
IsFound word round (Some share) = Shows word round × (share ≡ (share_of word).0)
IsFound word round None = ¬ Shows word round

-- one look at a register
pub record HasLooked (p : Place LbtsView) (reg : Reg) (round : ℕ) (q : Place LbtsView) (result : Option Share) : Type 0 where
  pub word : ℕ
  pub place : q ≡ place_after view_after (Looked reg word) p
  pub found : IsFound word round result
