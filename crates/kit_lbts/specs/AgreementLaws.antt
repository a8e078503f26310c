-- Laws of agreement: what a floor shows is a moment of a run, at which known bounds are bounds; and each step keeps
-- agreement.
use Rattle.std.specs.Prelude.{◌≡◌, ◌≢◌, ℕ, ◌<◌, ◌≤◌, All, Contains, List, [], ◌∷◌, ◌++◌, length, count_by, None}
use Rattle.kit_ground.specs.declared.address.Address.{Address}
use Rattle.kit_ground.specs.declared.place.Deed.{Deed}
use Rattle.kit_ground.specs.declared.place.Deed.TheVariants.{Published}
use Rattle.kit_ground.specs.declared.place.Place.{Place}
use Rattle.kit_ground.specs.Memory.{Memory}
use Rattle.kit_ground.specs.Rules.{Keeps, WasFound, World, zero_memory, places_at_first}
use Rattle.kit_parts.specs.Cuts.{AreBounded, AreSound}
use Rattle.kit_parts.specs.Fronts.{IsFront, part, seat_after}
use Rattle.kit_parts.specs.OwnLaws.{Spends}
use Rattle.kit_rules.specs.Need.{is_outstanding, need_of}
use Rattle.kit_rules.specs.Simulation.{block, simulation}
use Rattle.kit_queue.specs.declared.entry.Entry.{Entry}
use Rattle.kit_rules.specs.Federation.{IsFederation}
use Rattle.kit_model.specs.Journals.{lines_told}
use Rattle.kit_lbts.specs.declared.lbts.Opening.{Opening}
use Rattle.kit_lbts.specs.declared.view.LbtsView.{LbtsView}
use Rattle.kit_lbts.specs.Views.{messages_delivered, due_of, entries_of, time_of}
use Rattle.kit_lbts.specs.Letters.{letter_in}
use Rattle.kit_lbts.specs.Promises.{bound_of}
use Rattle.kit_lbts.specs.Seats.{most_sends}
use Rattle.kit_lbts.specs.Progress.{due_in, view_after_grant, lbts_first, view_after, view_after_start}
use Rattle.kit_lbts.specs.Rule.{lbts_rule}
use Rattle.kit_lbts.specs.Agreement.{AgreeingRule, Agrees, AllAgree, agreeing_rule, blocks_in, progress_at, transit_at, waiting_at}

-- where all agree, a floor shows a sound moment
abbrev pub MomentsAreSound : Type 0
MomentsAreSound = (p : Place LbtsView) (m : Memory) (places : List (Place LbtsView)) → World lbts_rule p m places → AllAgree places
    → AreSound p.client.federation (progress_at p places) (transit_at m p places) (waiting_at p places)

-- and the bound that a federate knows is a bound then
abbrev pub KnownBoundsBound : Type 0
KnownBoundsBound = (p : Place LbtsView) (m : Memory) (places : List (Place LbtsView)) → World lbts_rule p m places → AllAgree places
    → AreBounded p.client.federation (bound_of p.client) (progress_at p places) (transit_at m p places) (waiting_at p places)

-- a step that changes nothing of which agreement speaks
pub record TellsTheSame (v u : LbtsView) : Type 0 where
  pub federation : u.federation ≡ v.federation
  pub state : u.state ≡ v.state
  pub request : u.request ≡ v.request
  pub lines : (j : ℕ) → lines_told j (entries_of u) ≡ lines_told j (entries_of v)
  pub blocks : (j : ℕ) → blocks_in j u ≡ blocks_in j v
  pub time : time_of u ≡ time_of v
  pub delivered : messages_delivered u ≡ messages_delivered v

-- keeps agreement
abbrev pub AsidesAgree : Type 0
AsidesAgree = (p : Place LbtsView) (a : Address) (deed : ℕ → Deed) → Keeps lbts_rule view_after p a deed
    → ((word : ℕ) → TellsTheSame p.client (view_after (deed word) p)) → Keeps agreeing_rule view_after p a deed

-- so does the start
abbrev pub StartsAgree : Type 0
StartsAgree = (j : ℕ) (v : LbtsView) → v.request ≡ None → entries_of v ≡ [] → Agrees j v → Agrees j (view_after_start j v)

-- whether a step may be a grant
abbrev pub IsNoGrant : Deed → Type 0
IsNoGrant (Published r word) = r.slot ≢ 12
IsNoGrant _ = Unit {0}

-- each step that is no grant keeps agreement, where it keeps the rule
abbrev pub OthersAgree : Type 0
OthersAgree = (p : Place LbtsView) (a : Address) (deed : ℕ → Deed) → ((word : ℕ) → IsNoGrant (deed word))
    → Keeps lbts_rule view_after p a deed → Keeps agreeing_rule view_after p a deed

-- at the opening all agree
abbrev pub OpeningsAgree : Type 0
OpeningsAgree = (o : Opening) → IsFederation o.federation.value
    → AgreeingRule zero_memory (places_at_first (lbts_first o) (length o.federation.value.federates) o.federation.value.buffers)

-- what the rule tells of a place, it tells with agreement
abbrev pub ToldWithAgreement : Type 0
ToldWithAgreement = (p : Place LbtsView) (a : Address) (word : ℕ) → WasFound agreeing_rule p a word → WasFound lbts_rule p a word

-- a federate that was granted the end has made its whole part, and has come to what that leads to
pub record IsComplete (j : ℕ) (v : LbtsView) : Type 0 where
  pub blocks : blocks_in j v ≡ part v.federation j
  pub vars : v.state.vars ≡ (seat_after v.federation j (part v.federation j)).state.vars

-- a federate that may be granted its due time by what it knows
pub record MayBeGranted (p : Place LbtsView) : Type 0 where
  pub started : p.client.request ≢ None
  pub posted : p.client.outbox ≡ []
  pub early : time_of p.client < p.client.federation.end
  pub below : due_of p.client < bound_of p.client
  pub loose : All (λ (e : Entry). e.message.time ≤ due_of p.client → e.buffer ≡ None) p.client.queue

-- its next block is the simulation's next one of its part
abbrev pub NextBlocksAgree : Type 0
NextBlocksAgree = (p : Place LbtsView) → MayBeGranted p → (m : Memory) (places : List (Place LbtsView)) → World agreeing_rule p m places
    → IsFront p.client.federation p.own.number (blocks_in p.own.number p.client ++ block p.own.number (due_of p.client) (due_in (due_of p.client) p.client.queue) ∷ [])

-- where its numbers do not suffice for that, nor do they in the simulation
abbrev pub SpentAtGrants : Type 0
SpentAtGrants = (p : Place LbtsView) → MayBeGranted p → (m : Memory) (places : List (Place LbtsView)) → World agreeing_rule p m places
    → most_sends < length (view_after_grant p.own.number (due_of p.client) p.client).state.sends → Spends p.client.federation p.own.number

-- and so it is with the start
abbrev pub SpentAtStarts : Type 0
SpentAtStarts = (p : Place LbtsView) → p.client.request ≡ None → (m : Memory) (places : List (Place LbtsView)) → World agreeing_rule p m places
    → most_sends < length (view_after_start p.own.number p.client).state.sends → Spends p.client.federation p.own.number

-- what it has outstanding is not more than its need
abbrev pub OutstandingIsNeeded : Type 0
OutstandingIsNeeded = (p : Place LbtsView) → p.client.request ≢ None → (m : Memory) (places : List (Place LbtsView)) → World agreeing_rule p m places
    → count_by (is_outstanding p.client.federation p.own.number (time_of p.client)) p.client.state.sends ≤ need_of p.client.federation p.own.number

-- each own buffer was last charged with a message that is timed after the logical time
abbrev pub PoolIsOutstanding : Place LbtsView → Type 0
PoolIsOutstanding p = (k : ℕ) → k < p.own.buffers → time_of p.client < (letter_in p.client k).message.time

-- a federate has fewer buffers than it needs, and what waits in its outbox is of the simulation
pub record IsShort (p : Place LbtsView) : Type 0 where
  pub needs : p.own.buffers < need_of p.client.federation p.own.number
  pub sent : All (Contains (simulation p.client.federation).messages) p.client.outbox

-- so it is where its outbox waits, and all its buffers have messages that are outstanding
abbrev pub FullPoolsAreShort : Type 0
FullPoolsAreShort = (p : Place LbtsView) → p.client.outbox ≢ [] → p.client.sending ≡ None → PoolIsOutstanding p
    → (m : Memory) (places : List (Place LbtsView)) → World agreeing_rule p m places → IsShort p
