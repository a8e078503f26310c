-- A new floor with new nodes is a stage at which no turn was given.
use Rattle.std.proofs.Common.{◌≡◌, ℕ, ◌+◌, ◌≤◌, List, [], ◌∷◌, ◌++◌, length, None, refl, sym, ap, ◌∙◌, subst, arith}
use Rattle.std.specs.Prelude.{vec_capacity}
use Rattle.std.proofs.lemmas.List.{length_push}
use mathlib.Core.Option.{some}
use lib.ListN.{get_elem?}
use Rattle.kit_ground.specs.declared.place.Place.{Place}
use Rattle.kit_ground.specs.declared.place.SeatState.{SeatState}
use Rattle.kit_ground.specs.Floors.{RulesHold, memory, new_floor}
use Rattle.kit_ground.specs.Rules.{own_at_first}
use Rattle.kit_ground.proofs.PlainOpening.{ruled_opened}
use Rattle.kit_ground.proofs.Starts.{client_at_first, length_places_from}
use Rattle.kit_ground.proofs.WordSteps as words
use Rattle.kit_rules.specs.Federation.{IsFederation}
use Rattle.kit_rules.specs.Parts.{Parts}
use Rattle.kit_lbts.specs.declared.lbts.Opening.{Opening}
use Rattle.kit_lbts.specs.declared.view.LbtsView.{LbtsView}
use Rattle.kit_lbts.specs.Agreement.{agreeing_rule}
use Rattle.kit_lbts.specs.Progress.{lbts_first}
use Rattle.kit_lbts.proofs.AgreementEnds.{openings_agree}
use Rattle.kit_node.specs.Nodes.{BeginsAs, IsFirstPlace}
use Rattle.kit_replay.specs.declared.stage.Stage.{Stage}
use Rattle.kit_replay.specs.Replays.{LbtsFloor}
use Rattle.kit_replay.specs.Stages.{IsAtPlace, IsNewFloor, IsStage, IsWell, QueueNode, shown}
use Rattle.kit_replay.proofs.Lists.{at_push}
use Rattle.kit_replay.proofs.TurnLists.{no_turns_yet}

abbrev P : Type 0
P = Place LbtsView

-- these are the nodes of the first federates, before any turn
pub record HaveBegun (p : Parts) (rounds count : ℕ) (nodes : List QueueNode) : Type 0 where
  pub many : length nodes ≡ count
  pub each : (i : ℕ) (n : QueueNode) → get_elem? nodes i ≡ some n → BeginsAs shown p i rounds n

pub begun_none : (p : Parts) (rounds : ℕ) → HaveBegun p rounds 0 []
begun_none p rounds = record { many = refl; each = λ i n at. cc }

pub begun_more : (p : Parts) (rounds count : ℕ) (nodes : List QueueNode) (n : QueueNode) → HaveBegun p rounds count nodes → BeginsAs shown p count rounds n
    → HaveBegun p rounds (count + 1) (nodes ++ n ∷ [])
begun_more p rounds count nodes n h begins = record {
  many = let m = h.many in omega (arith, length_push nodes n);
  each = at_push (λ i x. BeginsAs shown p i rounds x) nodes n h.each (subst (λ (i : ℕ). BeginsAs shown p i rounds n) (sym h.many) begins);
}

module _ (p : Parts) (sound : IsFederation p) (f : LbtsFloor) (new : IsNewFloor p f) where
  abbrev o : Opening
  o = f.opening

  abbrev laid : LbtsFloor
  laid = new_floor lbts_first o (length p.federates) p.buffers

  ruled : RulesHold agreeing_rule laid
  ruled =
      let q : Parts = o.federation.value in
      let A : Parts → Type 0 = λ x. RulesHold agreeing_rule (new_floor lbts_first o (length x.federates) x.buffers) in
      let s : IsFederation q = subst IsFederation (sym new.federation) sound in
      subst A new.federation (ruled_opened agreeing_rule lbts_first o (length q.federates) q.buffers s.federates.count.0 s.federates.count.1 s.buffers.1 (openings_agree o s))

  -- the place of a federate on it
  at_first : (i : ℕ) (q : P) → get_elem? laid.places i ≡ some q → (q.client ≡ lbts_first o i) × (q.own ≡ own_at_first (length p.federates) p.buffers i)
  at_first i q at = client_at_first (lbts_first o) (length p.federates) p.buffers i q at

  first_place : (i : ℕ) (q : P) → get_elem? laid.places i ≡ some q → IsFirstPlace o i q
  first_place i q at =
      let is = at_first i q at in
      let r = ruled.words in record {
        own = is.1 ∙ (λ t. own_at_first ((ap (λ (x : SeatState). x.federates) (sym is.1)) t) ((ap (λ (x : SeatState). x.buffers) (sym is.1)) t) i);
        client = is.0;
        world = (memory laid, laid.places, words.world agreeing_rule laid.buffers laid.words laid.places r i q at);
      }

  module _ (rounds : ℕ) (nodes : List QueueNode) (begun : HaveBegun p rounds (length p.federates) nodes) where
    at_place : (i : ℕ) (n : QueueNode) (q : P) → get_elem? nodes i ≡ some n → get_elem? laid.places i ≡ some q → IsAtPlace p rounds [] n q
    at_place i n q atn atq =
        let b = begun.each i n atn in record {
          seat = b.seat o q new.federation new.scheme (first_place i q atq);
          limited = b.limit;
          listed = b.turns;
          steps = no_turns_yet;
          few = let none : length q.client.contributions ≡ 0 = ap (λ (v : LbtsView). length v.contributions) (first_place i q atq).client in omega arith;
        }

    pub opened : (s : Stage) → s.floor ≡ f → s.nodes.items ≡ nodes → length s.nodes.items ≤ vec_capacity s.reports → s.reports.items ≡ [] → IsStage p rounds [] None s
    opened s floor_is nodes_are room none =
        let is : s.floor ≡ laid = floor_is ∙ new.new in record {
          federation = ap (λ (x : LbtsFloor). x.opening.federation.value) floor_is ∙ new.federation;
          scheme = ap (λ (x : LbtsFloor). x.opening.scheme) floor_is ∙ new.scheme;
          buffers = ap (λ (x : LbtsFloor). x.buffers) is;
          places = ap (λ (x : LbtsFloor). length x.places) is ∙ length_places_from (lbts_first o) (length p.federates) p.buffers 0 (length p.federates);
          many = ap length nodes_are ∙ begun.many;
          given = [];
          order = refl;
          made = ap (λ (x : LbtsFloor). x.steps) is;
          each = λ i n q atn atq. at_place i n q (ap (λ (l : List QueueNode). get_elem? l i) (sym nodes_are) ∙ atn) (ap (λ (x : LbtsFloor). get_elem? x.places i) (sym is) ∙ atq);
          well = λ i n at _. subst IsWell (sym (begun.each i n (ap (λ (l : List QueueNode). get_elem? l i) (sym nodes_are) ∙ at)).ended) tt;
          room = room;
          none = none;
        }
