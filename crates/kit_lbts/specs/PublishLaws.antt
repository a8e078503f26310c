-- The steps on registers, each in the form that a call of the floor asks.
use Rattle.std.specs.Prelude.{◌≡◌, ◌≢◌, ℕ, ◌+◌, ◌-◌, ◌/◌, ◌%◌, ◌^◌, ◌<◌, ◌≤◌, true, All, [], length, slice_index, None}
use Rattle.kit_ground.specs.declared.address.Address.TheVariants.{Register}
use Rattle.kit_ground.specs.declared.place.Deed.TheVariants.{Published}
use Rattle.kit_ground.specs.declared.place.Place.{Place}
use Rattle.kit_ground.specs.Rules.{Keeps, Rule}
use Rattle.kit_model.specs.Shares.{share_word}
use Rattle.kit_queue.specs.declared.entry.Entry.{Entry}
use Rattle.kit_lbts.specs.declared.view.LbtsView.{LbtsView}
use Rattle.kit_lbts.specs.Views.{due_of, time_of}
use Rattle.kit_lbts.specs.Promises.{bound_of, next_contribution, result_at}
use Rattle.kit_lbts.specs.Reduction.{back_stage, shares_needed, published_share, publishes, reg_of, share_stage}
use Rattle.kit_ground.specs.Layout.{clock_of}
use Rattle.kit_lbts.specs.Progress.{view_after_grant, is_under_way, own_share, view_after, view_when_ready}
use Rattle.kit_lbts.specs.LedgerLaws.{ready_place}
use Rattle.kit_lbts.specs.Seats.{most_sends}

-- each own register of the last round that is published shows that round
abbrev pub ShowsLast : Place LbtsView → Type 0
ShowsLast p = (stage : ℕ) → stage < 6 → publishes p.client.scheme p.own.federates p.own.number stage ≡ true
    → let round = length p.client.contributions in
    0 < round → slice_index p.own.shown (reg_of p.own.number stage round).slot / 2 ^ 61 ≡ round % 8

-- the own share is published: a contribution of one that has the result of each round before, has shown all that it
-- publishes of the last one, and has no message half posted
abbrev pub ContributionsKeep : Rule LbtsView → Type 0
ContributionsKeep rule = (p : Place LbtsView) → length p.client.contributions ≡ length p.client.results → ShowsLast p → p.client.sending ≡ None → length (view_when_ready p.own.number p.client).state.sends ≤ most_sends
    → let round = length p.client.contributions + 1 in
    let r = reg_of p.own.number share_stage round in
    Keeps rule view_after p (Register r) (λ _. Published r (share_word (next_contribution (ready_place p)).share round))

-- a value on the way is published: what it needs was taken in
abbrev pub ValuesKeep : Rule LbtsView → Type 0
ValuesKeep rule = (p : Place LbtsView) (stage : ℕ) → stage < share_stage → publishes p.client.scheme p.own.federates p.own.number stage ≡ true
    → is_under_way p.client ≡ true → shares_needed p.client.scheme p.own.federates p.own.number stage ≤ length p.client.taken
    → let round = length p.client.contributions in
    let share = published_share p.client.scheme p.own.federates p.own.number (own_share p.client) p.client.taken stage in
    let r = reg_of p.own.number stage round in
    Keeps rule view_after p (Register r) (λ _. Published r (share_word share round))

-- the result is published for the outer federate, once the round is closed
abbrev pub BacksKeep : Rule LbtsView → Type 0
BacksKeep rule = (p : Place LbtsView) → publishes p.client.scheme p.own.federates p.own.number back_stage ≡ true
    → length p.client.contributions ≡ length p.client.results → 0 < length p.client.results
    → let round = length p.client.contributions in
    let share = result_at p.client (length p.client.results - 1) in
    let r = reg_of p.own.number back_stage round in
    Keeps rule view_after p (Register r) (λ _. Published r (share_word share round))

-- the due time is granted: it is below the known bound, nothing is to be posted, and what is delivered was settled
abbrev pub GrantsKeep : Rule LbtsView → Type 0
GrantsKeep rule = (p : Place LbtsView) → p.client.request ≢ None → p.client.outbox ≡ [] → time_of p.client < p.client.federation.end
    → due_of p.client < bound_of p.client → All (λ (e : Entry). e.message.time ≤ due_of p.client → e.buffer ≡ None) p.client.queue
    → length (view_after_grant p.own.number (due_of p.client) p.client).state.sends ≤ most_sends
    → let r = clock_of p.own.number in Keeps rule view_after p (Register r) (λ _. Published r (due_of p.client))
