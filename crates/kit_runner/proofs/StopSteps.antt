-- The step that sets the stop word, after a node has ended badly: what holds of the node and its seat's place stays.
use Rattle.std.proofs.Common.{◌≡◌, List, Option, Some, refl, sym, subst, ⊎_elim, inl, inr}
use Rattle.std.specs.Prelude.{slice_set}
use Rattle.atomic_table.proofs.Lists.{set_here}
use Rattle.kit_ground.specs.declared.address.Address.TheVariants.{Stop}
use Rattle.kit_ground.specs.declared.place.Deed.TheVariants.{Stopped}
use Rattle.kit_ground.specs.declared.place.Place.{Place}
use Rattle.kit_ground.specs.Memory.{Memory, with_word}
use Rattle.kit_ground.specs.Rules.{World}
use Rattle.kit_ground.specs.Steps.{place_after}
use Rattle.kit_ground.proofs.FloorSteps.{floored_after}
use Rattle.kit_ground.proofs.Lists.{at_inside}
use Rattle.kit_rules.specs.Parts.{Parts}
use Rattle.kit_lbts.specs.declared.view.LbtsView.{LbtsView}
use Rattle.kit_lbts.specs.Agreement.{agreeing_rule}
use Rattle.kit_lbts.specs.AgreementLaws.{MayBeGranted}
use Rattle.kit_lbts.specs.Progress.{view_after}
use Rattle.kit_lbts.specs.SeatLaws.{IsInWorld}
use Rattle.kit_lbts.proofs.WithAgreement.{stops_agree}
use Rattle.kit_node.specs.declared.ends.NodeEnd.{NodeEnd}
use Rattle.kit_node.specs.declared.ends.NodeEnd.TheVariants as node_end
use Rattle.kit_node.specs.declared.node.Node.{Node}
use Rattle.kit_node.specs.Mirrors.{Shown}
use Rattle.kit_node.specs.Seats.{Cause, HasEndedBadly, IsNodeOf, IsSeatOf}

abbrev P : Type 0
P = Place LbtsView

-- the place after the step
abbrev pub stopped_place : P → P
stopped_place p = place_after view_after Stopped p

-- there is a world again in which the seat has its place
module _ (p : P) (m : Memory) (places : List P) (w : World agreeing_rule p m places) where
  pub again : IsInWorld (stopped_place p)
  again = (
    with_word m Stop 1,
    slice_set places p.own.number (stopped_place p),
    record {
      floor = floored_after p.own.buffers m places p.own.number p view_after Stopped w.floor w.here tt;
      client = (stops_agree p m places w).client;
      here = set_here places p.own.number (stopped_place p) (at_inside places p.own.number p w.here);
    },
  )

pub goes_on : (p : P) → IsInWorld p → IsInWorld (stopped_place p)
goes_on p w = again p w.0 w.1 w.2

-- a node that ended badly
module _ {Q R : Type 0} (n : Node Q R) (p : P) where
  may_be : MayBeGranted p → MayBeGranted (stopped_place p)
  may_be may = record { started = may.started; posted = may.posted; early = may.early; below = may.below; loose = may.loose }

  bad : (end : NodeEnd) → HasEndedBadly end n p → Cause n.rounds.limit end (stopped_place p) → HasEndedBadly end n (stopped_place p)
  bad end h cause = record {
    report = record { me = h.report.me; journal = h.report.journal; now = h.report.now; bound = h.report.bound; taken = h.report.taken };
    calm = h.calm;
    early = h.early;
    cause = cause;
  }

  -- where its answer was a bad end
  pub node_stays : (sh : Shown Q R) (end : NodeEnd) → (end ≡ node_end.Finished → ⊥) → IsNodeOf sh (Some end) n p → IsNodeOf sh (Some end) n (stopped_place p)
  node_stays sh node_end.Finished other h = absurd (other refl)
  node_stays sh (node_end.NoBuffer number) other h =
      bad (node_end.NoBuffer number) h (record { started = h.cause.started; waits = h.cause.waits; first = h.cause.first; full = h.cause.full; held_up = h.cause.held_up })
  node_stays sh node_end.SendsSpent other h = bad node_end.SendsSpent h (⊎_elim
      (λ s. inl (record { new = s.new; past = s.past }))
      (λ s. inr (record { may = may_be s.may; past = s.past }))
      h.cause)
  node_stays sh node_end.RoundsSpent other h = bad node_end.RoundsSpent h (record { all = h.cause.all; closed = h.cause.closed; within = h.cause.within })
  node_stays sh node_end.NoMemory other h = bad node_end.NoMemory h tt

  pub seat_stays : (sh : Shown Q R) (federation : Parts) (end : NodeEnd) → n.ended ≡ Some end → (end ≡ node_end.Finished → ⊥)
      → IsSeatOf sh federation n p → IsSeatOf sh federation n (stopped_place p)
  seat_stays sh federation end is other s = record {
    world = goes_on p s.world;
    federation_is = s.federation_is;
    node = subst (λ (o : Option NodeEnd). IsNodeOf sh o n (stopped_place p)) (sym is)
        (node_stays sh end other (subst (λ (o : Option NodeEnd). IsNodeOf sh o n p) is s.node));
  }
