-- What a reduction keeps of its round, and what its seat shows of that.
use Rattle.std.specs.Prelude.{◌≡◌, ◌≢◌, ℕ, ◌+◌, ◌-◌, ◌<◌, ◌≤◌, true, length, slice_index, slice_index_or}
use Rattle.kit_model.specs.declared.share.Share.{Share}
use Rattle.kit_model.specs.Shares.{Shows}
use Rattle.kit_ground.specs.declared.address.Reg.{Reg}
use Rattle.kit_ground.specs.declared.place.Place.{Place}
use Rattle.kit_lbts.specs.declared.view.Scheme.{Scheme}
use Rattle.kit_lbts.specs.declared.view.LbtsView.{LbtsView}
use Rattle.kit_lbts.specs.Progress.{own_share}
use Rattle.kit_lbts.specs.Promises.{result_at}
use Rattle.kit_lbts.specs.Reduction.{share_with_taken, shares_needed, publishes, reg_of, source, sources}

-- of how many federates it is, whose it is, the round that was started last, what is known of that, and how many
-- registers were taken in
pub record RoundState : Type 0 where
  pub federates : ℕ
  pub number : ℕ
  pub round : ℕ
  pub value : Share
  pub taken : ℕ

-- how many registers it takes in
abbrev pub all_registers : Scheme → RoundState → ℕ
all_registers scheme k = length (sources scheme k.federates k.number)

-- the register of a round that x, one of n federates, takes in after so many others
abbrev pub register_in : Scheme → ℕ → ℕ → ℕ → ℕ → Reg
register_in scheme n x round taken = let s = slice_index_or (sources scheme n x) taken (source 0 0) in reg_of s.owner s.stage round

abbrev pub register_after : Scheme → RoundState → ℕ → Reg
register_after scheme k taken = register_in scheme k.federates k.number k.round taken

-- the round is under way: these shares were taken in, and the value is what they come to with the own one
pub record IsUnderWay (scheme : Scheme) (k : RoundState) (p : Place LbtsView) : Type 0 where
  pub results : length p.client.results + 1 ≡ k.round
  pub taken : length p.client.taken ≡ k.taken
  pub value : k.value ≡ share_with_taken scheme k.federates k.number (own_share p.client) p.client.taken

-- the round is closed: the value is its result
pub record IsClosed (k : RoundState) (p : Place LbtsView) : Type 0 where
  pub results : length p.client.results ≡ k.round
  pub value : k.value ≡ result_at p.client (k.round - 1)

-- it keeps what the view of its seat says of a round that was started and not followed by another
pub record FollowsRound (scheme : Scheme) (k : RoundState) (p : Place LbtsView) : Type 0 where
  pub scheme_is : p.client.scheme ≡ scheme
  pub federates : p.own.federates ≡ k.federates
  pub number : p.own.number ≡ k.number
  pub started : 0 < k.round
  pub round : length p.client.contributions ≡ k.round
  pub few : k.taken ≤ all_registers scheme k
  pub under_way : k.taken < all_registers scheme k → IsUnderWay scheme k p
  pub closed : k.taken ≡ all_registers scheme k → IsClosed k p

-- WHAT IS SHOWN. The word of an own slot that stands for a stage of the round
abbrev pub shown_word : RoundState → Place LbtsView → ℕ → ℕ
shown_word k p stage = slice_index p.own.shown (reg_of k.number stage k.round).slot

-- each own slot that is published from the registers taken in shows the round
abbrev pub SlotsShowRound : Scheme → RoundState → Place LbtsView → Type 0
SlotsShowRound scheme k p = (stage : ℕ) → stage < 6 → publishes scheme k.federates k.number stage ≡ true → shares_needed scheme k.federates k.number stage ≤ k.taken
    → Shows (shown_word k p stage) k.round

-- each own slot is as before, but for those that are published once so many registers are taken in
abbrev pub LeavesSlots : Scheme → RoundState → (ℕ → Type 0) → Place LbtsView → Place LbtsView → Type 0
LeavesSlots scheme k IsReached p q = (slot : ℕ) → slot < 13
    → ((stage : ℕ) → stage < 6 → publishes scheme k.federates k.number stage ≡ true → IsReached (shares_needed scheme k.federates k.number stage) → slot ≢ (reg_of k.number stage k.round).slot)
    → slice_index q.own.shown slot ≡ slice_index p.own.shown slot

-- WHAT IS LEFT of what a seat knows of itself: all but its looks and its own slots. Steps are counted
pub record LeavesSeat (p q : Place LbtsView) : Type 0 where
  pub number : q.own.number ≡ p.own.number
  pub federates : q.own.federates ≡ p.own.federates
  pub buffers : q.own.buffers ≡ p.own.buffers
  pub steps : p.own.steps ≤ q.own.steps
  pub stops : q.own.stops ≡ p.own.stops
  pub counts : q.own.counts ≡ p.own.counts
  pub mail : q.own.mail ≡ p.own.mail
  pub stop : q.own.stop ≡ p.own.stop
  pub collects : q.own.collects ≡ p.own.collects
  pub stock : q.own.stock ≡ p.own.stock
