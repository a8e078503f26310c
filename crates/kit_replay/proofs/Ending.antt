-- How a run ends: all of its schedule was taken, or a node ended badly.
use Rattle.std.proofs.Common.{◌≡◌, ◌≢◌, ℕ, List, Some, None, Option, refl, sym, ap, ◌∙◌, subst}
use Rattle.std.proofs.lemmas.Option.{none-some}
use mathlib.Core.Option.{some}
use lib.ListN.{get_elem?}
use Rattle.kit_ground.specs.declared.place.Place.{Place}
use Rattle.kit_ground.specs.Floors.{RulesHold}
use Rattle.kit_rules.specs.Parts.{Parts}
use Rattle.kit_parts.specs.OwnLaws.{Spends}
use Rattle.kit_lbts.specs.declared.view.LbtsView.{LbtsView}
use Rattle.kit_lbts.specs.Agreement.{agreeing_rule}
use Rattle.kit_node.specs.declared.ends.End.{End}
use Rattle.kit_node.specs.declared.ends.End.TheVariants as ends
use Rattle.kit_node.specs.declared.ends.NodeEnd.{NodeEnd}
use Rattle.kit_node.specs.declared.ends.NodeEnd.TheVariants as node_end
use Rattle.kit_node.specs.declared.node.NodeReport.{NodeReport}
use Rattle.kit_node.specs.Nodes.{end_in}
use Rattle.kit_node.specs.Reducing.{HasSpentRounds}
use Rattle.kit_node.specs.Seats.{HasEndedBadly, IsBelowEnd, IsNodeOf}
use Rattle.kit_replay.specs.declared.stage.Stage.{Stage}
use Rattle.kit_replay.specs.Endings.{EndIs, EndsBadlyAt, IsShortOf}
use Rattle.kit_replay.specs.Replays.{IsReplay}
use Rattle.kit_replay.specs.Schedules.{turns_of}
use Rattle.kit_replay.specs.Stages.{AreReported, ClosesWith, EndsWithin, HasEnded, IsAtPlace, IsStage, IsWell, QueueNode, end_by, shown}
use Rattle.kit_replay.proofs.Causes.{is_short, is_spent}
use Rattle.kit_replay.proofs.Closing.{all_finished, is_done, numbered, place_at, replay_of}
use Rattle.kit_replay.proofs.Reporting.{finished, some_is}

abbrev P : Type 0
P = Place LbtsView

-- ---- a node ended badly
module _ (p : Parts) (limit : ℕ) (schedule : List ℕ) (end : End) (s : Stage) (w : EndsWithin p limit schedule end s) (ruled : RulesHold agreeing_rule s.floor) (reports : List NodeReport) (reported : AreReported s.nodes.items reports) where
  abbrev f : ℕ
  f = w.ends.federate

  abbrev node : QueueNode
  node = w.ends.node

  abbrev stage : IsStage p limit w.taken (Some f) s
  stage = w.ends.stage

  here : (q : P) × (get_elem? s.floor.places f ≡ some q)
  here = place_at p limit w.taken (Some f) s stage ruled f node w.ends.there

  at : IsAtPlace p limit (turns_of f stage.given) node here.0
  at = stage.each f node here.0 w.ends.there here.1

  number : here.0.own.number ≡ f
  number = numbered p limit w.taken (Some f) s stage ruled f here.0 here.1

  ended : (e : NodeEnd) → end_in node ≡ Some e → IsNodeOf shown (Some e) node here.0
  ended e is = subst (λ (o : Option NodeEnd). IsNodeOf shown o node here.0) is at.seat.node

  with_end : (e : NodeEnd) → HasEndedBadly e node here.0 → EndsBadlyAt end (Some f) → EndIs p limit s.floor.places end → (end ≢ ends.Done) → IsReplay p schedule limit end reports s.floor
  with_end e bad bad_is end_is not_done = replay_of p limit w.taken (Some f) s stage ruled reports reported schedule end bad_is
      (record { place = here.0; there = here.1; holds = record { early = bad.early; calm = bad.calm } })
      (record { before = w.ends.before; last = w.ends.last; left = w.left; split = w.split })
      end_is (λ is. absurd (not_done is))

  short : (n : ℕ) → HasEndedBadly (node_end.NoBuffer n) node here.0 → IsShortOf p f n
  short n bad =
      subst (λ (x : Parts). IsShortOf x f n) at.seat.federation_is
      (subst (λ (i : ℕ). IsShortOf here.0.client.federation i n) number (is_short n here.0 at.seat.world bad.cause bad.calm))

  spends : HasEndedBadly node_end.SendsSpent node here.0 → Spends p f
  spends bad =
      subst (λ (x : Parts). Spends x f) at.seat.federation_is
      (subst (λ (i : ℕ). Spends here.0.client.federation i) number (is_spent here.0 at.seat.world bad.cause))

  by_end : (o : Option NodeEnd) → end_in node ≡ o → end_by f o ≡ Some end → IsReplay p schedule limit end reports s.floor
  by_end None is made = absurd (none-some end made)
  by_end (Some node_end.Finished) is made = absurd (none-some end made)
  by_end (Some (node_end.NoBuffer n)) is made =
      let bad = ended (node_end.NoBuffer n) is in
      let e : ends.NoBuffer f n ≡ end = some_is made in
      with_end (node_end.NoBuffer n) bad (subst (λ (x : End). EndsBadlyAt x (Some f)) e refl)
      (subst (EndIs p limit s.floor.places) e (record { place = here.0; there = here.1; holds = bad.cause }, short n bad)) (λ d. no_done (e ∙ d))
    where
      no_done : {i k : ℕ} → ends.NoBuffer i k ≡ ends.Done → ⊥
      no_done e = cc
  by_end (Some node_end.SendsSpent) is made =
      let bad = ended node_end.SendsSpent is in
      let e : ends.SendsSpent f ≡ end = some_is made in
      with_end node_end.SendsSpent bad (subst (λ (x : End). EndsBadlyAt x (Some f)) e refl)
      (subst (EndIs p limit s.floor.places) e (record { place = here.0; there = here.1; holds = bad.cause }, spends bad)) (λ d. no_done (e ∙ d))
    where
      no_done : {i : ℕ} → ends.SendsSpent i ≡ ends.Done → ⊥
      no_done e = cc
  by_end (Some node_end.RoundsSpent) is made =
      let bad = ended node_end.RoundsSpent is in
      let e : ends.RoundsSpent f ≡ end = some_is made in
      with_end node_end.RoundsSpent bad (subst (λ (x : End). EndsBadlyAt x (Some f)) e refl)
      (subst (EndIs p limit s.floor.places) e (record { place = here.0; there = here.1; holds = subst (λ (l : ℕ). HasSpentRounds l here.0) at.limited bad.cause })) (λ d. no_done (e ∙ d))
    where
      no_done : {i : ℕ} → ends.RoundsSpent i ≡ ends.Done → ⊥
      no_done e = cc
  by_end (Some node_end.NoMemory) is made =
      let bad = ended node_end.NoMemory is in
      let e : ends.NoMemory ≡ end = some_is made in
      with_end node_end.NoMemory bad (subst (λ (x : End). EndsBadlyAt x (Some f)) e (λ none. none-some f (sym none))) (subst (EndIs p limit s.floor.places) e tt) (λ d. no_done (e ∙ d))
    where
      no_done : ends.NoMemory ≡ ends.Done → ⊥
      no_done e = cc

  pub ends_badly : IsReplay p schedule limit end reports s.floor
  ends_badly = by_end (end_in node) refl w.ends.end_is

-- ---- none did
module _ (p : Parts) (limit : ℕ) (schedule : List ℕ) (s : Stage) (stage : IsStage p limit schedule None s) (ruled : RulesHold agreeing_rule s.floor) (reports : List NodeReport) (reported : AreReported s.nodes.items reports) where
  goes_on : (f : ℕ) (n : QueueNode) (q : P) → IsAtPlace p limit (turns_of f stage.given) n q → (o : Option NodeEnd) → end_in n ≡ o → IsWell o → o ≢ Some node_end.Finished → IsBelowEnd q.client
  goes_on f n q a None is well open_ = (subst (λ (o : Option NodeEnd). IsNodeOf shown o n q) is a.seat.node).early
  goes_on f n q a (Some e) is well open_ = absurd (open_ (ap Some well))

  with_good : (end : End) → EndsBadlyAt end None → EndIs p limit s.floor.places end → (end ≡ ends.Done → Rattle.kit_replay.specs.Replays.IsDone p reports s.floor) → IsReplay p schedule limit end reports s.floor
  with_good end none end_is done = replay_of p limit schedule None s stage ruled reports reported schedule end none tt refl end_is done

  pub closes : (end : End) → ClosesWith s.nodes.items end → IsReplay p schedule limit end reports s.floor
  closes ends.Done c =
      let all = all_finished p limit schedule None s stage ruled c in
      with_good ends.Done refl all (λ _. is_done p limit schedule None s stage ruled reports reported all none-some)
  closes (ends.Unfinished f) c =
      let q = place_at p limit schedule None s stage ruled f c.node c.there in
      let well = stage.well f c.node c.there (none-some f) in
      with_good (ends.Unfinished f) refl
      (record {
        below = record { place = q.0; there = q.1; holds = goes_on f c.node q.0 (stage.each f c.node q.0 c.there q.1) (end_in c.node) refl well c.goes_on };
        least = λ i lt.
            let h : HasEnded s.nodes.items i = c.least i lt in
            let r = place_at p limit schedule None s stage ruled i h.node h.there in
            record { place = r.0; there = r.1; holds = finished p limit i (turns_of i stage.given) h.node r.0 (stage.each i h.node r.0 h.there r.1) h.end_is };
      })
      (λ e. absurd (not_done e))
    where
      not_done : {i : ℕ} → ends.Unfinished i ≡ ends.Done → ⊥
      not_done e = cc
  closes (ends.NoBuffer f number) c = absurd c
  closes (ends.SendsSpent f) c = absurd c
  closes (ends.RoundsSpent f) c = absurd c
  closes ends.NoMemory c = absurd c
