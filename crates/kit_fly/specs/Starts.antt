-- When a round may be started, and what its start leads to.
use Rattle.std.specs.Prelude.{◌≡◌, ℕ, ◌+◌, ◌^◌, ◌<◌, ◌≤◌, [], ◌∷◌, ◌++◌, length, None}
use Rattle.kit_model.specs.declared.share.Share.{Share}
use Rattle.kit_ground.specs.declared.place.Place.{Place}
use Rattle.kit_lbts.specs.declared.view.Scheme.{Scheme}
use Rattle.kit_lbts.specs.declared.view.LbtsView.{LbtsView}
use Rattle.kit_lbts.specs.LedgerLaws.{ready_place}
use Rattle.kit_lbts.specs.Progress.{view_after_close, view_when_ready}
use Rattle.kit_lbts.specs.Promises.{next_contribution}
use Rattle.kit_lbts.specs.PublishLaws.{ShowsLast}
use Rattle.kit_lbts.specs.Seats.{most_sends}
use Rattle.kit_fly.specs.Rounds.{RoundState}

-- the next round may be started with this share
pub record MayStart (scheme : Scheme) (k : RoundState) (round : ℕ) (share : Share) (p : Place LbtsView) : Type 0 where
  -- the reduction is that of the seat
  pub scheme_is : p.client.scheme ≡ scheme
  pub federates : p.own.federates ≡ k.federates
  pub number : p.own.number ≡ k.number
  -- the seat has the result of each round that it contributed to, so none is under way
  pub closed : length p.client.contributions ≡ length p.client.results
  -- each own slot that it publishes of the last of them shows that one
  pub shows : ShowsLast p
  -- no buffer is charged and not posted whole
  pub whole : p.client.sending ≡ None
  -- where the start's rules are still to run, their sends have numbers
  pub numbers : length (view_when_ready p.own.number p.client).state.sends ≤ most_sends
  -- the round is the next one
  pub next : round ≡ length p.client.contributions + 1
  pub small : round < 2 ^ 40
  -- the share is what the seat contributes to it
  pub share_is : share ≡ (next_contribution (ready_place p)).share

-- the view once the next round is started: the start's rules have run, and a federation of one has the result
abbrev pub view_started : Place LbtsView → LbtsView
view_started p =
    let q = ready_place p in
    view_after_close p.own.federates p.own.number (record q.client { contributions = q.client.contributions ++ next_contribution q ∷ []; taken = [] })

-- no register is looked at
pub record LooksNowhere (p q : Place LbtsView) : Type 0 where
  pub looks : q.own.looks ≡ p.own.looks
  pub registers : q.own.registers ≡ p.own.registers
