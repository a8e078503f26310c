-- The stages of a butterfly, how many registers a federate takes in, and which slot is due then.
use Rattle.std.specs.Prelude.{◌≡◌, ◌≢◌, ℕ, ◌+◌, ◌*◌, ◌^◌, ◌<◌, ◌≤◌, nat_lt, true, if◌then◌else◌, Option, None, Some}
use Rattle.kit_model.specs.Blocks.{stages}
use Rattle.kit_lbts.specs.declared.view.Scheme.TheVariants.{Butterfly}
use Rattle.kit_lbts.specs.Reduction.{shares_needed, publishes, share_stage}

-- s is the exponent of the greatest power of two that is not above n
abbrev pub IsExponent : ℕ → ℕ → Type 0
IsExponent s n = (s ≤ 4) × (2 ^ s ≤ n) × (n < 2 * 2 ^ s)

-- s is how many stages n federates take
abbrev pub AreStagesOf : ℕ → ℕ → Type 0
AreStagesOf s n = s ≡ stages n

-- how many outer federates give their share to x: one or none
abbrev pub folds_of : ℕ → ℕ → ℕ → ℕ
folds_of n s x = if nat_lt (2 ^ s + x) n then 1 else 0

-- how many registers x takes in
abbrev pub registers_among : ℕ → ℕ → ℕ → ℕ
registers_among n s x = if nat_lt x (2 ^ s) then folds_of n s x + s else 1

-- a stage, beside the own share, that x publishes once so many registers are taken in, and not before
pub record IsDue (n x taken stage : ℕ) : Type 0 where
  pub known : stage < 6
  pub other : stage ≢ share_stage
  pub published : publishes Butterfly n x stage ≡ true
  pub now : shares_needed Butterfly n x stage ≡ taken

-- it is the one that is due, or none is
abbrev pub IsDueSlot : ℕ → ℕ → ℕ → Option ℕ → Type 0
IsDueSlot n x taken None = (stage : ℕ) → IsDue n x taken stage → ⊥
IsDueSlot n x taken (Some slot) = IsDue n x taken slot × ((stage : ℕ) → IsDue n x taken stage → stage ≡ slot)
