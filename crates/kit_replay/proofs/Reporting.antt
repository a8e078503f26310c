-- What the reports of the nodes of a stage tell.
use Rattle.std.proofs.Common.{arith, length, ◌≡◌, ◌≢◌, ℕ, List, Some, None, Option, refl, sym, ap, ◌∙◌, subst}
use Rattle.std.specs.List.{All, Contains}
use Rattle.std.proofs.lemmas.List.Elements.{All-contains}
use Rattle.std.proofs.lemmas.Option.{none-some}
use mathlib.Core.Option.{some}
use lib.ListN.{get_elem?}
use Rattle.kit_base.specs.declared.message.Message.{Message}
use Rattle.kit_ground.specs.declared.place.Place.{Place}
use Rattle.kit_ground.specs.Floors.{RulesHold, memory}
use Rattle.kit_model.specs.declared.journal.JournalEntry.{JournalEntry}
use Rattle.kit_model.specs.declared.journal.JournalEntry.TheVariants.{Received, Delivered, Granted}
use Rattle.kit_model.specs.Journals.{IsLawful, JournalState}
use Rattle.kit_rules.specs.Parts.{Parts}
use Rattle.kit_parts.specs.Fronts.{IsFront}
use Rattle.kit_lbts.specs.declared.view.LbtsView.{LbtsView}
use Rattle.kit_lbts.specs.declared.view.Filled.{Filled}
use Rattle.kit_lbts.specs.declared.view.Noted.{Noted}
use Rattle.kit_lbts.specs.Agreement.{AgreeingRule, agreeing_rule, blocks_in}
use Rattle.kit_lbts.specs.Views.{messages_delivered, delivery_of, entries_of, receipt_of, receipts_in, messages_received}
use Rattle.kit_lbts.proofs.Copies.{contains_map, map_contains}
use Rattle.kit_lbts.proofs.Worlds.{blocks_are_a_front, delivered_was_received, journals_are_lawful}
use Rattle.kit_node.specs.declared.ends.NodeEnd.{NodeEnd}
use Rattle.kit_node.specs.declared.ends.NodeEnd.TheVariants as node_end
use Rattle.kit_node.specs.declared.node.NodeReport.{NodeReport}
use Rattle.kit_node.specs.Mirrors.{IsReportOf}
use Rattle.kit_node.specs.Nodes.{IsReported, end_in}
use Rattle.kit_node.specs.Seats.{HasFinished, IsNodeOf}
use Rattle.kit_replay.specs.Replays.{LbtsFloor}
use Rattle.kit_replay.specs.Reports.{AgreesWithPart, ReportsPlace}
use Rattle.kit_replay.specs.Stages.{IsAtPlace, IsWell, QueueNode, shown}
use Rattle.kit_replay.specs.Schedules.{StepsUntil}
use Rattle.kit_replay.proofs.Found.{found_from, found_into}
use Rattle.kit_replay.proofs.TurnLists.{steps_end}

abbrev P : Type 0
P = Place LbtsView

pub some_is : {A : Type 0} {a b : A} → Some a ≡ Some b → a ≡ b
some_is e = cc

-- what is told of a receipt was received
receipt_is : (e : JournalEntry) (colour : ℕ) (f : Filled) → receipt_of e colour ≡ Some f → e ≡ Received f.message
receipt_is (Received m) colour f e = ap Received (ap (λ (x : Filled). x.message) (some_is e))
receipt_is (Delivered granted m) colour f e = cc
receipt_is (Granted t) colour f e = cc

-- a delivery has its receipt
pub receipts_come : (v : LbtsView) → All (Contains (messages_received v)) (messages_delivered v) → (t : ℕ) (m : Message) → Contains (entries_of v) (Delivered t m) → Contains (entries_of v) (Received m)
receipts_come v all t m c =
    let d : Contains (messages_delivered v) m = found_into delivery_of (entries_of v) (Delivered t m) m refl c in
    let r : Contains (messages_received v) m = All-contains (Contains (messages_received v)) (messages_delivered v) m all d in
    let s = map_contains (λ (f : Filled). f.message) (receipts_in v.journal) m r in
    let u = found_from (λ (e : Noted). receipt_of e.entry e.colour) v.journal s.0 s.1 in
    subst (Contains (entries_of v)) (receipt_is u.0.entry u.0.colour s.0 u.2 ∙ ap Received s.2) (contains_map (λ (e : Noted). e.entry) v.journal u.0 u.1)

-- ---- the node and its place
module _ (p : Parts) (limit i : ℕ) (turns : List ℕ) (n : QueueNode) (q : P) (at : IsAtPlace p limit turns n q) where
  tells : (o : Option NodeEnd) → IsNodeOf shown o n q → IsReportOf n q
  tells None h = record { me = h.mirrors.me; journal = h.mirrors.journal; now = h.mirrors.course.now; bound = h.mirrors.rounds.bound; taken = h.mirrors.rounds.taken }
  tells (Some node_end.Finished) h = record { me = h.mirrors.me; journal = h.mirrors.journal; now = h.mirrors.course.now; bound = h.mirrors.rounds.bound; taken = h.mirrors.rounds.taken }
  tells (Some (node_end.NoBuffer number)) h = h.report
  tells (Some node_end.SendsSpent) h = h.report
  tells (Some node_end.RoundsSpent) h = h.report
  tells (Some node_end.NoMemory) h = h.report

  well_ended : (o : Option NodeEnd) (end : NodeEnd) → IsWell o → o ≡ Some end → end ≡ node_end.Finished
  well_ended None end well is = absurd (none-some end is)
  well_ended (Some e) end well is = sym (some_is is) ∙ well

  state_is : (o : Option NodeEnd) → IsWell o → IsNodeOf shown o n q → n.course.state ≡ q.client.state
  state_is None well h = h.mirrors.course.state
  state_is (Some end) well h = (subst (λ (x : NodeEnd). IsNodeOf shown (Some x) n q) well h).mirrors.course.state

  pub finished : end_in n ≡ Some node_end.Finished → HasFinished q
  finished e = (subst (λ (o : Option NodeEnd). IsNodeOf shown o n q) e at.seat.node).cause

  module _ (f : LbtsFloor) (r : RulesHold agreeing_rule f) (there : get_elem? f.places i ≡ some q) (report : NodeReport) (reported : IsReported n report) (bad : Option ℕ) (well : bad ≢ Some i → IsWell (end_in n)) where
    rule : AgreeingRule (memory f) f.places
    rule = r.words.client

    told : IsReportOf n q
    told = tells n.ended at.seat.node

    journal_is : report.journal.entries ≡ entries_of q.client
    journal_is = ap (λ (j : JournalState). j.entries) reported.journal ∙ told.journal

    agrees : AgreesWithPart p i (entries_of q.client)
    agrees =
        let fronts = blocks_are_a_front (memory f) f.places rule i q there in record {
          front = subst (λ (x : Parts). IsFront x i (blocks_in i q.client)) at.seat.federation_is fronts.1;
          lines = fronts.0;
          came = receipts_come q.client (delivered_was_received (memory f) f.places rule i q there);
        }

    pub reports_place : ReportsPlace p bad i q report
    reports_place = record {
      journal = journal_is;
      bound = reported.bound ∙ told.bound;
      rounds = reported.rounds ∙ told.taken;
      vars = λ good. reported.vars ∙ ap (λ s. s.vars) (state_is n.ended (well good) at.seat.node);
      well = λ good end is. well_ended (end_in n) end (well good) (sym reported.ended ∙ is);
      turns = subst (λ (l : List ℕ). StepsUntil (HasFinished q) l) (sym (ap (λ k. k.value) reported.turns ∙ at.listed)) (steps_end turns at.steps finished);
      few = let a = at.few in let b = reported.rounds ∙ told.taken in let c : length report.turns.value ≡ length turns = ap length (ap (λ k. k.value) reported.turns ∙ at.listed) in omega arith;
      lawful = subst IsLawful (sym journal_is) (journals_are_lawful (memory f) f.places rule i q there);
      agrees = subst (AgreesWithPart p i) (sym journal_is) agrees;
    }
