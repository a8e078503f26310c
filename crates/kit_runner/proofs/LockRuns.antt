-- A stage whose nodes get no further turns, with the reports of its nodes, is a run over one lock.
use Rattle.std.proofs.Common.{◌≡◌, ◌≢◌, ◌≤◌, ℕ, List, [], ◌∷◌, length, map, Option, Some, refl, sym, ap, ◌∙◌, subst, arith}
use Rattle.std.proofs.lemmas.List.{length-map}
use mathlib.Core.Option.{some, some-injective}
use lib.ListN.{get_elem?}
use Rattle.kit_ground.specs.declared.place.Place.{Place}
use Rattle.kit_ground.specs.Floors.{RulesHold, memory}
use Rattle.kit_ground.proofs.Lists.{at_inside}
use Rattle.kit_rules.specs.Parts.{Parts}
use Rattle.kit_lbts.specs.declared.view.LbtsView.{LbtsView}
use Rattle.kit_lbts.specs.Agreement.{agreeing_rule}
use Rattle.kit_node.specs.declared.ends.End.{End}
use Rattle.kit_node.specs.declared.ends.End.TheVariants as ends
use Rattle.kit_node.specs.declared.ends.NodeEnd.{NodeEnd}
use Rattle.kit_node.specs.declared.ends.NodeEnd.TheVariants as node_end
use Rattle.kit_node.specs.declared.node.NodeReport.{NodeReport}
use Rattle.kit_node.specs.Seats.{HasFinished}
use Rattle.kit_replay.specs.Endings.{EndIs}
use Rattle.kit_replay.specs.Replays.{IsCleared, IsFloorOf}
use Rattle.kit_replay.specs.Stages.{AreReported, QueueNode}
use Rattle.kit_replay.proofs.Lists.{at_some}
use Rattle.kit_replay.proofs.Quiet.{mail_is_empty, nothing_counted}
use Rattle.kit_runner.specs.declared.stage.Member.{Member}
use Rattle.kit_runner.specs.declared.stage.Stage.{Stage}
use Rattle.kit_runner.specs.Ends.{EndsWith}
use Rattle.kit_runner.specs.Locks.{HasSetStop, IsLockRun, account_in}
use Rattle.kit_runner.specs.LockStages.{AllHaveEnded, AreNumbered, IsStage, end_of, node_of}
use Rattle.kit_runner.specs.Runs.{IsRun, most_rounds}
use Rattle.kit_runner.proofs.Closing.{IsThrough, at_map, end_of_node, is_run, nodes_are}

abbrev P : Type 0
P = Place LbtsView

ends_same : (members : List Member) → map end_of members ≡ map end_of_node (map node_of members)
ends_same [] = refl
ends_same (x ∷ xs) = ap (λ l. end_of x ∷ l) (ends_same xs)

module _ (p : Parts) (s : Stage) (stage : IsStage p s) where
  abbrev nodes : List QueueNode
  nodes = map node_of s.members.items

  many : length nodes ≡ length p.federates
  many = length-map s.members.items node_of ∙ stage.many

  member_at : (i : ℕ) (n : QueueNode) → get_elem? nodes i ≡ some n → (x : Member) × (get_elem? s.members.items i ≡ some x) × (node_of x ≡ n)
  member_at i n at =
      let x = at_some s.members.items i (let lt = at_inside nodes i n at in let l = length-map s.members.items node_of in omega arith) in
      (x.0, x.1, some-injective _ _ (sym (at_map node_of s.members.items i x.0 x.1) ∙ at))

  pub numbered : AreNumbered s.members.items
  numbered i x at =
      let q = at_some s.floor.places i (let lt = at_inside s.members.items i x at in let m = stage.many in let l = stage.places in omega arith) in
      (stage.each i x q.0 at q.1).number

  pub few : length s.members.items ≤ 16
  few = let m = stage.many in let f = stage.few in omega arith

  module _ (ruled : RulesHold agreeing_rule s.floor) (ended : AllHaveEnded s) where
    through : (i : ℕ) (n : QueueNode) (q : P) → get_elem? nodes i ≡ some n → get_elem? s.floor.places i ≡ some q → IsThrough p i n q
    through i n q atn atq =
        let x = member_at i n atn in
        let h = stage.each i x.0 q x.1 atq in
        subst (λ (k : QueueNode). IsThrough p i k q) x.2 (record {
          number = (ruled.words.floor.each i q atq).number;
          seat = h.seat;
          limit = h.limit;
          stopped = h.stopped (ended i x.0 x.1);
        })

    floor_of : IsFloorOf p s.floor
    floor_of = record {
      rules = ruled;
      federation = stage.federation;
      scheme = stage.scheme;
      buffers = stage.buffers;
      many = stage.places;
      each = λ i q at.
          let n = at_some nodes i (let lt = at_inside s.floor.places i q at in let l = stage.places in let k = many in omega arith) in
          (through i n.0 q n.1 at).seat.federation_is;
    }

    cleared : ((i : ℕ) (q : P) → get_elem? s.floor.places i ≡ some q → HasFinished q) → IsCleared p s.floor
    cleared all = record {
      counts = λ i k li lk. nothing_counted (memory s.floor) s.floor.places s.floor.buffers ruled.words.floor ruled.words.client all i k (let n = stage.places in omega arith) (let b = stage.buffers in omega arith);
      mail = λ j i w lj li lw. mail_is_empty (memory s.floor) s.floor.places s.floor.buffers ruled.words.floor ruled.words.client all j i w (let n = stage.places in omega arith) (let n = stage.places in omega arith);
    }

    module _ (reports : List NodeReport) (reported : AreReported nodes reports) (end : End) (ends_with : EndsWith (map end_of s.members.items) end) where
      ends_are : EndsWith (map end_of_node nodes) end
      ends_are = subst (λ (l : List (Option NodeEnd)). EndsWith l end) (ends_same s.members.items) ends_with

      run : IsRun p end reports (account_in s.floor)
      run = is_run p (account_in s.floor) ruled.words stage.buffers stage.places nodes many through reports reported end ends_are

      nodes_same : run.nodes ≡ map end_of_node nodes
      unfolding run
      nodes_same = nodes_are p (account_in s.floor) ruled.words stage.buffers stage.places nodes many through reports reported end ends_are

      -- a node that ended badly
      told : (i : ℕ) (e : NodeEnd) (q : P) → get_elem? run.nodes i ≡ some (Some e) → e ≢ node_end.Finished → get_elem? s.floor.places i ≡ some q → HasSetStop q
      told i e q at bad atq =
          let n = at_some s.members.items i (let lt = at_inside s.floor.places i q atq in let m = stage.many in let l = stage.places in omega arith) in
          let same : end_of n.0 ≡ Some e = some-injective _ _ (sym (at_map end_of s.members.items i n.0 n.1) ∙ (ap (λ (l : List (Option NodeEnd)). get_elem? l i) (ends_same s.members.items ∙ sym nodes_same) ∙ at)) in
          (stage.each i n.0 q n.1 atq).told e same bad

      pub is_lock_run : IsLockRun p end reports s.floor
      is_lock_run = record {
        floor = floor_of;
        run = run;
        cleared = λ e. cleared (subst (EndIs p most_rounds s.floor.places) e run.cause);
        told = told;
      }
