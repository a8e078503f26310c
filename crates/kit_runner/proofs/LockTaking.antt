-- One turn more of a federate: what it does to the stage.
use Rattle.std.proofs.Common.{◌≡◌, ◌≢◌, ℕ, zero, suc, ◌<◌, true, false, List, [], ◌∷◌, length, set, Vec, Global, refl, sym, ap, ◌∙◌, subst, arith}
use Rattle.std.specs.Prelude.{vec_capacity}
use Rattle.std.proofs.lemmas.List.{length-set}
use mathlib.Core.Logic.{dite}
use mathlib.Core.Option.{some, some-injective}
use native.Mathlib.Decide.{ℕ_discrete}
use lib.ListN.{get_elem?}
use Rattle.kit_deal.specs.Dealings.{is_last_turn}
use Rattle.kit_ground.specs.declared.place.Place.{Place}
use Rattle.kit_ground.specs.Coming.{AreSteps}
use Rattle.kit_ground.specs.Floors.{place_of}
use Rattle.kit_ground.proofs.Lists.{at_inside}
use Rattle.kit_ground.proofs.PlainSeats.{seated_at}
use Rattle.kit_rules.specs.Parts.{Parts}
use Rattle.kit_lbts.specs.declared.lbts.Opening.{Opening}
use Rattle.kit_lbts.specs.declared.view.LbtsView.{LbtsView}
use Rattle.kit_lbts.specs.Progress.{lbts_first}
use Rattle.kit_node.specs.declared.ends.Turn.{Turn}
use Rattle.kit_node.specs.declared.node.NodeReport.{NodeReport}
use Rattle.kit_replay.specs.Replays.{LbtsFloor}
use Rattle.kit_replay.proofs.Lists.{at_set_else, at_set_here}
use Rattle.kit_runner.specs.declared.stage.Member.{Member}
use Rattle.kit_runner.specs.declared.stage.Stage.{Stage}
use Rattle.kit_runner.specs.Ends.{activity_by}
use Rattle.kit_runner.specs.Halls.{HasPlayed}
use Rattle.kit_runner.specs.LockStages.{HasEnded, IsMemberAt, IsStage, StaysEnded}
use Rattle.kit_runner.proofs.LockPlaying.{plays}

abbrev P : Type 0
P = Place LbtsView

true_false : true ≡ false → ⊥
true_false e = cc

-- a member put back in its place
pub set_same : (l : List Member) (i : ℕ) (x : Member) → get_elem? l i ≡ some x → set l i x ≡ l
set_same [] i x at = refl
set_same (y ∷ ys) zero x at = ap (λ (z : Member). z ∷ ys) (sym (some-injective y x at))
set_same (y ∷ ys) (suc i) x at = ap (λ (l : List Member). y ∷ l) (set_same ys i x at)

pub stage_same : (p : Parts) (s s' : Stage) → s'.floor ≡ s.floor → s'.members.items ≡ s.members.items → s'.reports ≡ s.reports → IsStage p s → IsStage p s'
stage_same p s s' floor_is members_are reports_are stage = record {
  federation = ap (λ (f : LbtsFloor). f.opening.federation.value) floor_is ∙ stage.federation;
  scheme = ap (λ (f : LbtsFloor). f.opening.scheme) floor_is ∙ stage.scheme;
  buffers = ap (λ (f : LbtsFloor). f.buffers) floor_is ∙ stage.buffers;
  places = ap (λ (f : LbtsFloor). length f.places) floor_is ∙ stage.places;
  many = ap length members_are ∙ stage.many;
  few = stage.few;
  each = λ i x q atx atq. stage.each i x q (ap (λ (l : List Member). get_elem? l i) (sym members_are) ∙ atx) (ap (λ (f : LbtsFloor). get_elem? f.places i) (sym floor_is) ∙ atq);
  room = let r = stage.room in let l = ap length members_are in let c = ap vec_capacity reports_are in omega arith;
  none = ap (λ (v : Vec NodeReport Global). v.items) reports_are ∙ stage.none;
}

-- ---- another member in its place
module _ (s s' : Stage) (i : ℕ) (x y : Member) (at : get_elem? s.members.items i ≡ some x) (members_are : s'.members.items ≡ set s.members.items i y) where
  member_there : get_elem? s'.members.items i ≡ some y
  member_there = ap (λ (l : List Member). get_elem? l i) members_are ∙ at_set_here s.members.items i y (at_inside s.members.items i x at)

  member_else : (k : ℕ) → k ≢ i → get_elem? s'.members.items k ≡ get_elem? s.members.items k
  member_else k other = ap (λ (l : List Member). get_elem? l k) members_are ∙ at_set_else s.members.items i k y other

  member_is : (k : ℕ) (z : Member) → k ≡ i → get_elem? s'.members.items k ≡ some z → y ≡ z
  member_is k z same atz = some-injective _ _ (sym member_there ∙ (ap (λ (j : ℕ). get_elem? s'.members.items j) (sym same) ∙ atz))

  pub ended_now : y.has_ended ≡ true → HasEnded s' i
  ended_now e z atz = subst (λ (w : Member). w.has_ended ≡ true) (member_is i z refl atz) e

  -- it had not ended, so those that had are others
  pub stays_now : x.has_ended ≡ false → StaysEnded s s'
  stays_now fresh k had z atz = dite (ℕ_discrete k i)
      (λ same. absurd (true_false (sym (had x (ap (λ (j : ℕ). get_elem? s.members.items j) same ∙ at)) ∙ fresh)))
      (λ other. had z (sym (member_else k other) ∙ atz))

-- ---- a turn of the federate that is seated
module _ (p : Parts) (s : Stage) (stage : IsStage p s) (i : ℕ) (x : Member) (at : get_elem? s.members.items i ≡ some x)
    (seated : LbtsFloor) (seat_is : seated ≡ record s.floor { seated = i }) where
  abbrev q : P
  q = place_of lbts_first seated

  inside : i < length s.floor.places
  inside = let a = at_inside s.members.items i x at in let m = stage.many in let k = stage.places in omega arith

  places_same : seated.places ≡ s.floor.places
  places_same = ap (λ (f : LbtsFloor). f.places) seat_is

  seated_is : seated.seated ≡ i
  seated_is = ap (λ (f : LbtsFloor). f.seated) seat_is

  here : get_elem? s.floor.places i ≡ some q
  here = ap (λ (l : List P). get_elem? l i) (sym places_same) ∙ seated_at lbts_first seated i seated_is (subst (λ (l : List P). i < length l) (sym places_same) inside)

  pub at_first : IsMemberAt p i x q
  at_first = stage.each i x q at here

  module _ (y : Member) (h : LbtsFloor) (came : AreSteps lbts_first seated h) (fresh : x.has_ended ≡ false) (answer : Turn)
      (played : HasPlayed p answer x.node y.node q (place_of lbts_first h)) (ended : y.has_ended ≡ is_last_turn (activity_by answer))
      (s' : Stage) (floor_is : s'.floor ≡ h) (members_are : s'.members.items ≡ set s.members.items i y) (reports_are : s'.reports ≡ s.reports) where
    abbrev q' : P
    q' = place_of lbts_first h

    after : IsMemberAt p i y q'
    after = plays p i x y q q' at_first fresh answer played ended

    here_after : get_elem? h.places i ≡ some q'
    here_after = seated_at lbts_first h i (came.seated ∙ seated_is) (let m = came.many in let l = ap length places_same in let k = inside in omega arith)

    place_there : get_elem? s'.floor.places i ≡ some q'
    place_there = ap (λ (f : LbtsFloor). get_elem? f.places i) floor_is ∙ here_after

    place_else : (k : ℕ) → k ≢ i → get_elem? s'.floor.places k ≡ get_elem? s.floor.places k
    place_else k other =
        ap (λ (f : LbtsFloor). get_elem? f.places k) floor_is
        ∙ (came.others k (λ same. other (same ∙ seated_is))
        ∙ ap (λ (l : List P). get_elem? l k) places_same)

    place_is : (k : ℕ) (r : P) → k ≡ i → get_elem? s'.floor.places k ≡ some r → q' ≡ r
    place_is k r same atr = some-injective _ _ (sym place_there ∙ (ap (λ (j : ℕ). get_elem? s'.floor.places j) (sym same) ∙ atr))

    each_now : (k : ℕ) (z : Member) (r : P) → get_elem? s'.members.items k ≡ some z → get_elem? s'.floor.places k ≡ some r → IsMemberAt p k z r
    each_now k z r atz atr = dite (ℕ_discrete k i)
        (λ same.
        subst (λ (j : ℕ). IsMemberAt p j z r) (sym same)
        (subst (λ (u : P). IsMemberAt p i z u) (place_is k r same atr) (subst (λ (w : Member). IsMemberAt p i w q') (member_is s s' i x y at members_are k z same atz) after)))
        (λ other. stage.each k z r (sym (member_else s s' i x y at members_are k other) ∙ atz) (sym (place_else k other) ∙ atr))

    pub stage_now : IsStage p s'
    stage_now = record {
      federation = ap (λ (f : LbtsFloor). f.opening.federation.value) floor_is ∙ (ap (λ (o : Opening). o.federation.value) came.opening ∙ (ap (λ (f : LbtsFloor). f.opening.federation.value) seat_is ∙ stage.federation));
      scheme = ap (λ (f : LbtsFloor). f.opening.scheme) floor_is ∙ (ap (λ (o : Opening). o.scheme) came.opening ∙ (ap (λ (f : LbtsFloor). f.opening.scheme) seat_is ∙ stage.scheme));
      buffers = ap (λ (f : LbtsFloor). f.buffers) floor_is ∙ (came.buffers ∙ (ap (λ (f : LbtsFloor). f.buffers) seat_is ∙ stage.buffers));
      places = ap (λ (f : LbtsFloor). length f.places) floor_is ∙ (came.many ∙ (ap length places_same ∙ stage.places));
      many = ap length members_are ∙ (length-set s.members.items i y ∙ stage.many);
      few = stage.few;
      each = each_now;
      room = let r = stage.room in let l = ap length members_are ∙ length-set s.members.items i y in let c = ap vec_capacity reports_are in omega arith;
      none = ap (λ (v : Vec NodeReport Global). v.items) reports_are ∙ stage.none;
    }
