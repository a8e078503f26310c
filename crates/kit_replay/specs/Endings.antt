-- What a replay's end comes from, by the places of the federates on the closing floor.
use Rattle.std.specs.Prelude.{◌≡◌, ◌≢◌, ℕ, ◌<◌, true, List, Contains, Option, None, Some}
use mathlib.Core.Option.{some}
use lib.ListN.{get_elem?}
use Rattle.kit_base.specs.declared.message.Message.{Message}
use Rattle.kit_rules.specs.Parts.{Parts}
use Rattle.kit_rules.specs.Delivery.{is_transported}
use Rattle.kit_rules.specs.Need.{need_of}
use Rattle.kit_rules.specs.Simulation.{simulation}
use Rattle.kit_parts.specs.OwnLaws.{Spends}
use Rattle.kit_ground.specs.declared.place.Place.{Place}
use Rattle.kit_lbts.specs.declared.view.LbtsView.{LbtsView}
use Rattle.kit_node.specs.declared.ends.End.{End}
use Rattle.kit_node.specs.declared.ends.End.TheVariants as ends
use Rattle.kit_node.specs.Mirrors.{IsCalm}
use Rattle.kit_node.specs.Reducing.{HasSpentRounds}
use Rattle.kit_node.specs.Seats.{HasFinished, IsBelowEnd, LacksBuffer, SpendsNumbers}

abbrev pub Seat : Type 0
Seat = Place LbtsView

-- so it is at the place of federate i
pub record HasPlace (A : Seat → Type 0) (places : List Seat) (i : ℕ) : Type 0 where
  pub place : Seat
  pub there : get_elem? places i ≡ some place
  pub holds : A place

-- UNFINISHED: the least federate that was not granted the end
pub record IsLeastBelowEnd (places : List Seat) (f : ℕ) : Type 0 where
  pub below : HasPlace (λ q. IsBelowEnd q.client) places f
  pub least : (i : ℕ) → i < f → HasPlace HasFinished places i

-- NO BUFFER: the federate has fewer buffers than it needs, and the number is that of a transported message that it sends in the simulation
pub record IsShortOf (p : Parts) (f number : ℕ) : Type 0 where
  pub needs : p.buffers < need_of p f
  pub message : Message
  pub sent : Contains (simulation p).messages message
  pub sender : message.sender ≡ f
  pub number_is : message.number ≡ number
  pub transported : is_transported p message ≡ true

-- A NODE THAT ENDED BADLY has its federate below the end, with no copy left unread and no message half posted
pub record HasStopped (q : Seat) : Type 0 where
  pub early : IsBelowEnd q.client
  pub calm : IsCalm q.client

-- which federate's node ended badly: for want of memory it may be any
abbrev pub EndsBadlyAt : End → Option ℕ → Type 0
EndsBadlyAt ends.Done bad = bad ≡ None
EndsBadlyAt (ends.Unfinished f) bad = bad ≡ None
EndsBadlyAt (ends.NoBuffer f number) bad = bad ≡ Some f
EndsBadlyAt (ends.SendsSpent f) bad = bad ≡ Some f
EndsBadlyAt (ends.RoundsSpent f) bad = bad ≡ Some f
EndsBadlyAt ends.NoMemory bad = bad ≢ None

-- THE CAUSE of an end, where nodes take part in so many rounds at most
abbrev pub EndIs : Parts → ℕ → List Seat → End → Type 0
EndIs p limit places ends.Done = (i : ℕ) (q : Seat) → get_elem? places i ≡ some q → HasFinished q
EndIs p limit places (ends.Unfinished f) = IsLeastBelowEnd places f
EndIs p limit places (ends.NoBuffer f number) = HasPlace (LacksBuffer number) places f × IsShortOf p f number
EndIs p limit places (ends.SendsSpent f) = HasPlace SpendsNumbers places f × Spends p f
EndIs p limit places (ends.RoundsSpent f) = HasPlace (HasSpentRounds limit) places f
EndIs p limit places ends.NoMemory = Unit {0}
