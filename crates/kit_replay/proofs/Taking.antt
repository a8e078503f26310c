-- One turn more: what it does to the node and its place, and to the stage.
use Rattle.std.proofs.Common.{◌≡◌, ◌≢◌, ℕ, ◌-◌, ◌<◌, ◌≤◌, List, [], ◌∷◌, ◌++◌, length, replicate, set, Some, None, Option, Vec, Global, refl, sym, ap, ◌∙◌, subst, arith}
use Rattle.std.specs.Prelude.{vec_capacity}
use Rattle.std.proofs.lemmas.List.{length-set, length_push}
use Rattle.std.proofs.lemmas.Option.{none-some}
use mathlib.Core.Logic.{dite}
use mathlib.Core.Option.{some, some-injective}
use native.Mathlib.Decide.{ℕ_discrete}
use lib.ListN.{get_elem?}
use Rattle.kit_ground.specs.declared.place.Place.{Place}
use Rattle.kit_ground.specs.Coming.{AreSteps}
use Rattle.kit_ground.specs.Floors.{place_of}
use Rattle.kit_ground.proofs.Lists.{at_inside}
use Rattle.kit_ground.proofs.PlainSeats.{seated_at}
use Rattle.kit_rules.specs.Parts.{Parts}
use Rattle.kit_lbts.specs.declared.lbts.Opening.{Opening}
use Rattle.kit_lbts.specs.declared.view.LbtsView.{LbtsView}
use Rattle.kit_lbts.specs.Progress.{lbts_first}
use Rattle.kit_node.specs.declared.ends.End.{End}
use Rattle.kit_node.specs.declared.ends.NodeEnd.{NodeEnd}
use Rattle.kit_node.specs.declared.ends.NodeEnd.TheVariants as node_end
use Rattle.kit_node.specs.declared.ends.Turn.{Turn}
use Rattle.kit_node.specs.declared.node.NodeReport.{NodeReport}
use Rattle.kit_node.specs.Ends as ends
use Rattle.kit_node.specs.Nodes.{end_in, turns_in}
use Rattle.kit_node.specs.Seats.{IsSeatOf}
use Rattle.kit_node.specs.Turns.{IsListed, TurnIs}
use Rattle.kit_replay.specs.declared.stage.Stage.{Stage}
use Rattle.kit_replay.specs.Replays.{LbtsFloor}
use Rattle.kit_replay.specs.Schedules.{GivenTurn, turns_of}
use Rattle.kit_replay.specs.Stages.{IsAtPlace, IsStage, IsWell, QueueNode, TurnsTo, end_by, shown}
use Rattle.kit_replay.proofs.Lists.{at_set_else, at_set_here}
use Rattle.kit_replay.proofs.TurnLists.{entry_nowhere, entry_there, given_more, no_step_more, step_more, steps_more, turn_of, turns_more, turns_same}

abbrev P : Type 0
P = Place LbtsView

-- what came of a turn, of a node with its place
pub record HasComeTo (p : Parts) (answer : Turn) (n n' : QueueNode) (q q' : P) : Type 0 where
  pub seat : IsSeatOf shown p n' q'
  pub turn : TurnIs n.ended answer n n' q q'
  pub listed : IsListed n n' q q'

module _ (p : Parts) (limit : ℕ) (turns : List ℕ) (answer : Turn) (n n' : QueueNode) (q q' : P) (at : IsAtPlace p limit turns n q) (t : HasComeTo p answer n n' q q') where
  abbrev made : ℕ
  made = q'.own.steps - q.own.steps

  listed_now : turns_in n' ≡ turns ++ made ∷ []
  listed_now = t.listed ∙ ap (λ (l : List ℕ). l ++ made ∷ []) at.listed

  by_end : (o : Option NodeEnd) → n.ended ≡ o → IsWell o → TurnIs o answer n n' q q' → IsAtPlace p limit (turns ++ made ∷ []) n' q' × (end_in n' ≡ ends.end_by answer)
  by_end None e well turned = (
    record {
      seat = t.seat;
      limited = turned.limit ∙ at.limited;
      listed = listed_now;
      steps = step_more turns made at.steps (λ f. none-some _ (sym e ∙ f)) (let lt = turned.steps in omega arith);
      few = let a = at.few in let b = turned.rounds in let c = length_push turns made in omega arith;
    },
    turned.ended,
  )
  by_end (Some end) e well had =
      let same : n'.ended ≡ n.ended = ap (λ (x : QueueNode). x.ended) had.node.others in
      let finished : n'.ended ≡ Some node_end.Finished = same ∙ (e ∙ ap Some well) in (
        record {
          seat = t.seat;
          limited = ap (λ (x : QueueNode). x.rounds.limit) had.node.others ∙ at.limited;
          listed = listed_now;
          steps = no_step_more turns made at.steps finished (let s = ap (λ (x : P). x.own.steps) had.place in omega arith);
          few = let a = at.few in let b = ap (λ (x : P). length x.client.contributions) had.place in let c = length_push turns made in omega arith;
        },
        finished ∙ sym (ap ends.end_by (had.answer_is ∙ ap ends.answer_of well)),
      )

  pub at_place : IsWell n.ended → IsAtPlace p limit (turns ++ made ∷ []) n' q'
  at_place well = (by_end n.ended refl well t.turn).0

  pub ended_by : IsWell n.ended → end_in n' ≡ ends.end_by answer
  ended_by well = (by_end n.ended refl well t.turn).1

-- a node with no bad end is well
pub well_without : (f : ℕ) (o : Option NodeEnd) → end_by f o ≡ None → IsWell o
well_without f None e = tt
well_without f (Some node_end.Finished) e = refl
well_without f (Some (node_end.NoBuffer number)) e = absurd (none-some _ (sym e))
well_without f (Some node_end.SendsSpent) e = absurd (none-some _ (sym e))
well_without f (Some node_end.RoundsSpent) e = absurd (none-some _ (sym e))
well_without f (Some node_end.NoMemory) e = absurd (none-some _ (sym e))

-- ---- the stage
module _ (p : Parts) (limit : ℕ) (taken : List ℕ) (s : Stage) (stage : IsStage p limit taken None s) (i : ℕ) where
  -- the federate's number names nobody
  pub nobody_there : length s.nodes.items ≤ i → IsStage p limit (taken ++ i ∷ []) None s
  nobody_there past =
      let le : length p.federates ≤ i = let m = stage.many in omega arith in record {
        federation = stage.federation;
        scheme = stage.scheme;
        buffers = stage.buffers;
        places = stage.places;
        many = stage.many;
        given = stage.given;
        order = stage.order ∙ sym (entry_nowhere (length p.federates) i taken le);
        made = stage.made;
        each = stage.each;
        well = stage.well;
        room = stage.room;
        none = stage.none;
      }

  module _ (n : QueueNode) (atn : get_elem? s.nodes.items i ≡ some n) (seated : LbtsFloor) (seat_is : seated ≡ record s.floor { seated = i }) where
    abbrev q : P
    q = place_of lbts_first seated

    inside : i < length s.floor.places
    inside = let a = at_inside s.nodes.items i n atn in let m = stage.many in let k = stage.places in omega arith

    places_same : seated.places ≡ s.floor.places
    places_same = ap (λ (x : LbtsFloor). x.places) seat_is

    seated_is : seated.seated ≡ i
    seated_is = ap (λ (x : LbtsFloor). x.seated) seat_is

    here : get_elem? s.floor.places i ≡ some q
    here = ap (λ (l : List P). get_elem? l i) (sym places_same) ∙ seated_at lbts_first seated i seated_is (subst (λ (l : List P). i < length l) (sym places_same) inside)

    pub at_first : IsAtPlace p limit (turns_of i stage.given) n q
    at_first = stage.each i n q atn here

    module _ (n' : QueueNode) (h : LbtsFloor) (came : AreSteps lbts_first seated h) (answer : Turn) where
      abbrev q' : P
      q' = place_of lbts_first h

      here_after : get_elem? h.places i ≡ some q'
      here_after = seated_at lbts_first h i (came.seated ∙ seated_is) (let m = came.many in let l = ap length places_same in let k = inside in omega arith)

      abbrev made_now : ℕ
      made_now = q'.own.steps - q.own.steps

      made_is : came.made ≡ made_now
      made_is = let c = came.counted in omega arith

      module _ (t : HasComeTo p answer n n' q q') (s' : Stage) (floor_is : s'.floor ≡ h) (nodes_are : s'.nodes.items ≡ set s.nodes.items i n') (reports_are : s'.reports ≡ s.reports) where
        well_before : IsWell (end_in n)
        well_before = stage.well i n atn (none-some i)

        node_there : get_elem? s'.nodes.items i ≡ some n'
        node_there = ap (λ (l : List QueueNode). get_elem? l i) nodes_are ∙ at_set_here s.nodes.items i n' (at_inside s.nodes.items i n atn)

        place_there : get_elem? s'.floor.places i ≡ some q'
        place_there = ap (λ (f : LbtsFloor). get_elem? f.places i) floor_is ∙ here_after

        node_else : (k : ℕ) → k ≢ i → get_elem? s'.nodes.items k ≡ get_elem? s.nodes.items k
        node_else k other = ap (λ (l : List QueueNode). get_elem? l k) nodes_are ∙ at_set_else s.nodes.items i k n' other

        place_else : (k : ℕ) → k ≢ i → get_elem? s'.floor.places k ≡ get_elem? s.floor.places k
        place_else k other =
            ap (λ (f : LbtsFloor). get_elem? f.places k) floor_is
            ∙ (came.others k (λ same. other (same ∙ seated_is))
            ∙ ap (λ (l : List P). get_elem? l k) places_same)

        abbrev given_now : List GivenTurn
        given_now = stage.given ++ turn_of i made_now ∷ []

        place_now : IsAtPlace p limit (turns_of i given_now) n' q'
        place_now = subst (λ (l : List ℕ). IsAtPlace p limit l n' q') (sym (turns_more stage.given i made_now)) (at_place p limit (turns_of i stage.given) answer n n' q q' at_first t well_before)

        each_now : (k : ℕ) (m : QueueNode) (r : P) → get_elem? s'.nodes.items k ≡ some m → get_elem? s'.floor.places k ≡ some r → IsAtPlace p limit (turns_of k given_now) m r
        each_now k m r atm atr = dite (ℕ_discrete k i)
            (λ same.
            let node_is : n' ≡ m = some-injective _ _ (sym node_there ∙ (ap (λ (x : ℕ). get_elem? s'.nodes.items x) (sym same) ∙ atm)) in
            let place_is : q' ≡ r = some-injective _ _ (sym place_there ∙ (ap (λ (x : ℕ). get_elem? s'.floor.places x) (sym same) ∙ atr)) in
            subst (λ (x : ℕ). IsAtPlace p limit (turns_of x given_now) m r) (sym same)
            (subst (λ (x : P). IsAtPlace p limit (turns_of i given_now) m x) place_is (subst (λ (x : QueueNode). IsAtPlace p limit (turns_of i given_now) x q') node_is place_now)))
            (λ other. subst (λ (l : List ℕ). IsAtPlace p limit l m r) (sym (turns_same stage.given i k made_now other)) (stage.each k m r (sym (node_else k other) ∙ atm) (sym (place_else k other) ∙ atr)))

        pub stage_now : (bad : Option ℕ) → (bad ≢ Some i → IsWell (end_in n')) → IsStage p limit (taken ++ i ∷ []) bad s'
        stage_now bad well = record {
          federation = ap (λ (f : LbtsFloor). f.opening.federation.value) floor_is ∙ (ap (λ (o : Opening). o.federation.value) came.opening ∙ (ap (λ (f : LbtsFloor). f.opening.federation.value) seat_is ∙ stage.federation));
          scheme = ap (λ (f : LbtsFloor). f.opening.scheme) floor_is ∙ (ap (λ (o : Opening). o.scheme) came.opening ∙ (ap (λ (f : LbtsFloor). f.opening.scheme) seat_is ∙ stage.scheme));
          buffers = ap (λ (f : LbtsFloor). f.buffers) floor_is ∙ (came.buffers ∙ (ap (λ (f : LbtsFloor). f.buffers) seat_is ∙ stage.buffers));
          places = ap (λ (f : LbtsFloor). length f.places) floor_is ∙ (came.many ∙ (ap length places_same ∙ stage.places));
          many = ap length nodes_are ∙ (length-set s.nodes.items i n' ∙ stage.many);
          given = given_now;
          order =
              let lt : i < length p.federates = let k = inside in let m = stage.places in omega arith in
              given_more stage.given i made_now ∙ (ap (λ (l : List ℕ). l ++ i ∷ []) stage.order ∙ sym (entry_there (length p.federates) i taken lt));
          made =
              let steps : h.steps ≡ s.floor.steps ++ replicate made_now i = came.steps ∙ (λ x. ap (λ (f : LbtsFloor). f.steps) seat_is x ++ replicate (made_is x) (seated_is x)) in
              ap (λ (f : LbtsFloor). f.steps) floor_is ∙ (steps ∙ (ap (λ (l : List ℕ). l ++ replicate made_now i) stage.made ∙ sym (steps_more stage.given i made_now)));
          each = each_now;
          well = λ k m atm good. dite (ℕ_discrete k i)
              (λ same.
              let node_is : n' ≡ m = some-injective _ _ (sym node_there ∙ (ap (λ (x : ℕ). get_elem? s'.nodes.items x) (sym same) ∙ atm)) in
              subst (λ (x : QueueNode). IsWell (end_in x)) node_is (well (λ e. good (e ∙ ap Some (sym same)))))
              (λ other. stage.well k m (sym (node_else k other) ∙ atm) (none-some k));
          room = let r = stage.room in let l = ap length nodes_are ∙ length-set s.nodes.items i n' in let c = ap vec_capacity reports_are in omega arith;
          none = ap (λ (v : Vec NodeReport Global). v.items) reports_are ∙ stage.none;
        }

        -- with the answer's end
        pub turns_to : (r : Option End) → r ≡ end_by i (ends.end_by answer) → TurnsTo p limit (taken ++ i ∷ []) r s'
        turns_to None is = stage_now None (λ _. well_without i (end_in n') (ap (end_by i) (ended_by p limit (turns_of i stage.given) answer n n' q q' at_first t well_before) ∙ sym is))
        turns_to (Some end) is = record {
          federate = i;
          before = taken;
          last = refl;
          stage = stage_now (Some i) (λ not. absurd (not refl));
          node = n';
          there = node_there;
          end_is = ap (end_by i) (ended_by p limit (turns_of i stage.given) answer n n' q q' at_first t well_before) ∙ sym is;
        }
