-- What a poll does: at which registers it looks, and what it answers.
use Rattle.std.specs.Prelude.{◌≡◌, ℕ, ◌+◌, ◌-◌, ◌<◌, ◌≤◌, List, ◌++◌, length, slice_index_or}
use Rattle.kit_model.specs.declared.share.Share.{Share}
use Rattle.kit_model.specs.Shares.{Shows, share_of}
use Rattle.kit_ground.specs.declared.address.Reg.{Reg}
use Rattle.kit_ground.specs.declared.place.Glance.{Glance}
use Rattle.kit_ground.specs.declared.place.Place.{Place}
use Rattle.kit_ground.specs.Memory.{Memory}
use Rattle.kit_ground.specs.Rules.{World}
use Rattle.kit_ground.specs.Steps.{reg_index}
use Rattle.kit_rounds.specs.Rounds.{HasContributed, result_of}
use Rattle.kit_lbts.specs.declared.view.Scheme.{Scheme}
use Rattle.kit_lbts.specs.declared.view.LbtsView.{LbtsView}
use Rattle.kit_lbts.specs.Agreement.{agreeing_rule}
use Rattle.kit_lbts.specs.Progress.{view_after_close}
use Rattle.kit_lbts.specs.Promises.{ledgers_of, result_at, unknown}
use Rattle.kit_fly.specs.declared.reduction.Poll.{Poll}
use Rattle.kit_fly.specs.declared.reduction.Poll.TheVariants.{Result, NotYet}
use Rattle.kit_fly.specs.Rounds.{RoundState, all_registers, register_after}

-- the last look at a register
abbrev pub look_at : Place LbtsView → Reg → Glance ℕ
look_at p reg = slice_index_or p.own.registers (reg_index reg) (record { step = 0; gave = 0 })

-- the last look at the register that is taken in after so many others
abbrev pub look_after : Scheme → RoundState → Place LbtsView → ℕ → Glance ℕ
look_after scheme k q taken = look_at q (register_after scheme k taken)

-- from the state k at the place p to the state k' at q the next registers were taken in, in their order
pub record TakesIn (scheme : Scheme) (k k' : RoundState) (p q : Place LbtsView) : Type 0 where
  pub federates : k'.federates ≡ k.federates
  pub number : k'.number ≡ k.number
  pub round : k'.round ≡ k.round
  -- their shares
  pub shares : List Share
  pub many : k'.taken ≡ k.taken + length shares
  -- the last look at each was made since, after those at the registers before it, and showed the round
  pub since : (l : ℕ) → k.taken ≤ l → l < k'.taken → p.own.steps < (look_after scheme k q l).step
  pub in_order : (l m : ℕ) → k.taken ≤ l → l < m → m < k'.taken → (look_after scheme k q l).step < (look_after scheme k q m).step
  pub shows : (l : ℕ) → k.taken ≤ l → l < k'.taken → Shows (look_after scheme k q l).gave k.round
  pub found : (i : ℕ) → i < length shares → slice_index_or shares i unknown ≡ (share_of (look_after scheme k q (k.taken + i)).gave).0
  -- the view has them, and with all of them the result
  pub view : q.client ≡ view_after_close p.own.federates p.own.number (record p.client { taken = p.client.taken ++ shares })

-- THE ANSWERS. The next register was looked at, after those that were taken in, and did not show the round
pub record IsNotYet (scheme : Scheme) (reg : Reg) (k k' : RoundState) (p q : Place LbtsView) : Type 0 where
  pub more : k'.taken < all_registers scheme k'
  pub next : reg ≡ register_after scheme k' k'.taken
  pub since : p.own.steps < (look_at q reg).step
  pub last : (l : ℕ) → k.taken ≤ l → l < k'.taken → (look_after scheme k q l).step < (look_at q reg).step
  pub unshown : ¬ Shows (look_at q reg).gave k.round

-- in every world in which the seat is at this place, the share is the result of the last round whose result it has,
-- and all have contributed to that
abbrev pub IsRoundResult : Share → Place LbtsView → Type 0
IsRoundResult share q = (m : Memory) (places : List (Place LbtsView)) → World agreeing_rule q m places
    → let last = length q.client.results - 1 in
    (share ≡ result_of (length places) (ledgers_of places) last) × ((i : ℕ) → i < length places → HasContributed (ledgers_of places i) last)

-- all registers are taken in, and the share is the result of the round
pub record IsResult (scheme : Scheme) (share : Share) (k' : RoundState) (q : Place LbtsView) : Type 0 where
  pub all : k'.taken ≡ all_registers scheme k'
  pub results : length q.client.results ≡ length q.client.contributions
  pub last : share ≡ result_at q.client (length q.client.results - 1)
  pub told : IsRoundResult share q

abbrev pub IsAnswer : Scheme → RoundState → RoundState → Place LbtsView → Place LbtsView → Poll → Type 0
IsAnswer scheme k k' p q (NotYet reg) = IsNotYet scheme reg k k' p q
IsAnswer scheme k k' p q (Result share) = IsResult scheme share k' q

-- a look for each register that was taken in, and one more where the answer is a register
abbrev pub one_more : Poll → ℕ
one_more (NotYet reg) = 1
one_more (Result share) = 0

abbrev pub LooksOnce : RoundState → RoundState → Place LbtsView → Place LbtsView → Poll → Type 0
LooksOnce k k' p q answer = q.own.looks + k.taken ≡ p.own.looks + k'.taken + one_more answer

-- what is reached with the registers that were taken in since there were so many
abbrev pub IsNew : RoundState → RoundState → ℕ → Type 0
IsNew k k' many = (k.taken < many) × (many ≤ k'.taken)
