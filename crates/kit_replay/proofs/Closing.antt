-- A stage whose run has ended, with the reports of its nodes, is a replay.
use Rattle.std.proofs.Common.{◌≡◌, ◌≢◌, ℕ, ◌<◌, List, [], length, get_or, Some, Option, IfSome, sym, ap, ◌∙◌, subst, arith}
use mathlib.Core.Option.{some, some-injective}
use lib.ListN.{get_elem?}
use Rattle.kit_ground.specs.declared.place.Place.{Place}
use Rattle.kit_ground.specs.Floors.{RulesHold, memory}
use Rattle.kit_ground.proofs.Lists.{at_inside, at_map_or}
use Rattle.kit_rules.specs.Parts.{Parts}
use Rattle.kit_rules.specs.Simulation.{lines_of}
use Rattle.kit_parts.specs.Fronts.{part, seat_after}
use Rattle.kit_lbts.specs.declared.view.LbtsView.{LbtsView}
use Rattle.kit_model.specs.declared.journal.JournalEntry.{JournalEntry}
use Rattle.kit_lbts.specs.Agreement.{agreeing_rule, blocks_from, blocks_in}
use Rattle.kit_node.specs.declared.ends.End.{End}
use Rattle.kit_node.specs.declared.ends.End.TheVariants as ends
use Rattle.kit_node.specs.declared.node.NodeReport.{NodeReport}
use Rattle.kit_node.specs.Nodes.{end_in}
use Rattle.kit_node.specs.Seats.{HasFinished}
use Rattle.kit_replay.specs.declared.stage.Stage.{Stage}
use Rattle.kit_replay.specs.Endings.{EndIs, EndsBadlyAt, HasPlace, HasStopped}
use Rattle.kit_replay.specs.Replays.{IsDone, IsFloorOf, IsReplay}
use Rattle.kit_replay.specs.Reports.{AreReports, IsWholePart, ReportsPlace, turns_in}
use Rattle.kit_replay.specs.Schedules.{AreTaken, turns_of}
use Rattle.kit_replay.specs.Stages.{AreReported, HasEnded, IsStage, QueueNode}
use Rattle.kit_replay.proofs.Lists.{at_some}
use Rattle.kit_replay.proofs.Quiet.{mail_is_empty, nothing_counted}
use Rattle.kit_replay.proofs.Reporting.{finished, reports_place}

abbrev P : Type 0
P = Place LbtsView

module _ (p : Parts) (limit : ℕ) (taken : List ℕ) (bad : Option ℕ) (s : Stage) (stage : IsStage p limit taken bad s) (ruled : RulesHold agreeing_rule s.floor) where
  node_at : (i : ℕ) (q : P) → get_elem? s.floor.places i ≡ some q → (n : QueueNode) × (get_elem? s.nodes.items i ≡ some n)
  node_at i q at = at_some s.nodes.items i (let lt = at_inside s.floor.places i q at in let a = stage.places in let b = stage.many in omega arith)

  pub place_at : (i : ℕ) (n : QueueNode) → get_elem? s.nodes.items i ≡ some n → (q : P) × (get_elem? s.floor.places i ≡ some q)
  place_at i n at = at_some s.floor.places i (let lt = at_inside s.nodes.items i n at in let a = stage.places in let b = stage.many in omega arith)

  pub numbered : (i : ℕ) (q : P) → get_elem? s.floor.places i ≡ some q → q.own.number ≡ i
  numbered i q at = (ruled.words.floor.each i q at).number

  pub floor_of : IsFloorOf p s.floor
  floor_of = record {
    rules = ruled;
    federation = stage.federation;
    scheme = stage.scheme;
    buffers = stage.buffers;
    many = stage.places;
    each = λ i q at. let n = node_at i q at in (stage.each i n.0 q n.1 at).seat.federation_is;
  }

  pub all_finished : ((i : ℕ) → i < length s.nodes.items → HasEnded s.nodes.items i) → (i : ℕ) (q : P) → get_elem? s.floor.places i ≡ some q → HasFinished q
  all_finished all i q at =
      let n = node_at i q at in
      let h = all i (at_inside s.nodes.items i n.0 n.1) in
      let is : h.node ≡ n.0 = some-injective _ _ (sym h.there ∙ n.1) in
      finished p limit i (turns_of i stage.given) n.0 q (stage.each i n.0 q n.1 at) (ap (λ (x : QueueNode). end_in x) (sym is) ∙ h.end_is)

  module _ (reports : List NodeReport) (reported : AreReported s.nodes.items reports) where
    each_report : (i : ℕ) (q : P) (r : NodeReport) → get_elem? s.floor.places i ≡ some q → get_elem? reports i ≡ some r → ReportsPlace p bad i q r
    each_report i q r at atr =
        let n = node_at i q at in
        reports_place p limit i (turns_of i stage.given) n.0 q (stage.each i n.0 q n.1 at) s.floor ruled at r (reported.each i n.0 r n.1 atr) bad (stage.well i n.0 n.1)

    pub are_reports : AreReports p bad s.floor.places reports
    are_reports = record { many = reported.many ∙ stage.many; each = each_report }

    listed : (i : ℕ) → i < length p.federates → get_or (turns_in reports) i [] ≡ turns_of i stage.given
    listed i lt =
        let r = at_some reports i (let a = reported.many in let b = stage.many in omega arith) in
        let n = at_some s.nodes.items i (let b = stage.many in omega arith) in
        let q = place_at i n.0 n.1 in
        at_map_or (λ (x : NodeReport). x.turns.value) reports i r.0 [] r.1
        ∙ (ap (λ k. k.value) (reported.each i n.0 r.0 n.1 r.1).turns ∙ (stage.each i n.0 q.0 n.1 q.1).listed)

    -- where all were granted the end
    module _ (all : (i : ℕ) (q : P) → get_elem? s.floor.places i ≡ some q → HasFinished q) (good : (i : ℕ) → bad ≢ Some i) where
      whole : (i : ℕ) (r : NodeReport) → get_elem? reports i ≡ some r → IsWholePart p i r
      whole i r atr =
          let n = at_some s.nodes.items i (let lt = at_inside reports i r atr in let a = reported.many in omega arith) in
          let q = place_at i n.0 n.1 in
          let told = each_report i q.0 r q.1 atr in
          let complete = (all i q.0 q.1).complete in
          let number = numbered i q.0 q.1 in
          let federation = (stage.each i n.0 q.0 n.1 q.1).seat.federation_is in
          let blocks : blocks_in i q.0.client ≡ part p i = subst (λ (x : ℕ). blocks_in x q.0.client ≡ part q.0.client.federation x) number complete.blocks ∙ ap (λ (x : Parts). part x i) federation in
          record {
            lines = told.agrees.lines ∙ (ap (λ (es : List JournalEntry). lines_of (blocks_from i [] es)) told.journal ∙ ap lines_of blocks);
            vars = told.vars (good i) ∙ (complete.vars ∙ (λ t. (seat_after (federation t) (number t) (part (federation t) (number t))).state.vars));
          }

      pub is_done : IsDone p reports s.floor
      is_done = record {
        parts = record { many = reported.many ∙ stage.many; each = whole };
        cleared = record {
          counts = λ i k li lk. nothing_counted (memory s.floor) s.floor.places s.floor.buffers ruled.words.floor ruled.words.client all i k (let n = stage.places in omega arith) (let b = stage.buffers in omega arith);
          mail = λ j i w lj li lw. mail_is_empty (memory s.floor) s.floor.places s.floor.buffers ruled.words.floor ruled.words.client all j i w (let n = stage.places in omega arith) (let n = stage.places in omega arith);
        };
      }

    pub replay_of : (schedule : List ℕ) (end : End) → EndsBadlyAt end bad → IfSome bad (HasPlace HasStopped s.floor.places) → AreTaken schedule taken bad → EndIs p limit s.floor.places end
        → (end ≡ ends.Done → IsDone p reports s.floor) → IsReplay p schedule limit end reports s.floor
    replay_of schedule end bad_is stopped entries end_is done = record {
      floor = floor_of;
      bad = bad;
      bad_is = bad_is;
      stopped = stopped;
      taken = taken;
      entries = entries;
      follows = record { given = stage.given; order = stage.order; listed = listed; made = stage.made };
      reports_are = are_reports;
      end_is = end_is;
      done = done;
    }
