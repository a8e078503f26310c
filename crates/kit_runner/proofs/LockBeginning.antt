-- A new floor with new nodes is a stage.
use Rattle.std.proofs.Common.{◌≡◌, ℕ, ◌+◌, ◌≤◌, false, true, List, [], ◌∷◌, ◌++◌, length, None, Some, refl, sym, ap, ◌∙◌, subst, arith}
use Rattle.std.specs.Prelude.{vec_capacity}
use Rattle.std.proofs.lemmas.Bool.{false≢true}
use Rattle.std.proofs.lemmas.List.{length_push}
use mathlib.Core.Option.{some}
use lib.ListN.{get_elem?}
use Rattle.kit_ground.specs.declared.place.Place.{Place}
use Rattle.kit_ground.specs.declared.place.SeatState.{SeatState}
use Rattle.kit_ground.specs.Floors.{RulesHold, memory, new_floor}
use Rattle.kit_ground.specs.Rules.{own_at_first}
use Rattle.kit_ground.proofs.PlainOpening.{ruled_opened}
use Rattle.kit_ground.proofs.Starts.{client_at_first, length_places_from}
use Rattle.kit_ground.proofs.WordSteps as words
use Rattle.kit_rules.specs.Federation.{IsFederation}
use Rattle.kit_rules.specs.Parts.{Parts}
use Rattle.kit_lbts.specs.declared.lbts.Opening.{Opening}
use Rattle.kit_lbts.specs.declared.view.LbtsView.{LbtsView}
use Rattle.kit_lbts.specs.Agreement.{agreeing_rule}
use Rattle.kit_lbts.specs.Progress.{lbts_first}
use Rattle.kit_lbts.proofs.AgreementEnds.{openings_agree}
use Rattle.kit_node.specs.Nodes.{BeginsAs, IsFirstPlace}
use Rattle.kit_replay.specs.Replays.{LbtsFloor}
use Rattle.kit_replay.specs.Stages.{IsNewFloor, shown}
use Rattle.kit_replay.proofs.Lists.{at_push}
use Rattle.kit_runner.specs.declared.stage.Member.{Member}
use Rattle.kit_runner.specs.declared.stage.Stage.{Stage}
use Rattle.kit_runner.specs.LockStages.{IsMemberAt, IsStage}
use Rattle.kit_runner.specs.Runs.{most_rounds}

abbrev P : Type 0
P = Place LbtsView

none_some : {X : Type 0} {x : X} → None ≡ Some x → ⊥
none_some e = cc

-- a member before its first turn
pub record IsNewMember (p : Parts) (i : ℕ) (x : Member) : Type 0 where
  pub begins : BeginsAs shown p i most_rounds x.node
  pub fresh : x.has_ended ≡ false

-- these are the members of the first federates
pub record HaveBegun (p : Parts) (count : ℕ) (members : List Member) : Type 0 where
  pub many : length members ≡ count
  pub each : (i : ℕ) (x : Member) → get_elem? members i ≡ some x → IsNewMember p i x

pub begun_none : (p : Parts) → HaveBegun p 0 []
begun_none p = record { many = refl; each = λ i x at. cc }

pub begun_more : (p : Parts) (count : ℕ) (members : List Member) (x : Member) → HaveBegun p count members → IsNewMember p count x
    → HaveBegun p (count + 1) (members ++ x ∷ [])
begun_more p count members x h new = record {
  many = let m = h.many in omega (arith, length_push members x);
  each = at_push (λ i y. IsNewMember p i y) members x h.each (subst (λ (i : ℕ). IsNewMember p i x) (sym h.many) new);
}

module _ (p : Parts) (sound : IsFederation p) (f : LbtsFloor) (new : IsNewFloor p f) where
  abbrev o : Opening
  o = f.opening

  abbrev laid : LbtsFloor
  laid = new_floor lbts_first o (length p.federates) p.buffers

  ruled : RulesHold agreeing_rule laid
  ruled =
      let q : Parts = o.federation.value in
      let A : Parts → Type 0 = λ x. RulesHold agreeing_rule (new_floor lbts_first o (length x.federates) x.buffers) in
      let s : IsFederation q = subst IsFederation (sym new.federation) sound in
      subst A new.federation (ruled_opened agreeing_rule lbts_first o (length q.federates) q.buffers s.federates.count.0 s.federates.count.1 s.buffers.1 (openings_agree o s))

  first_place : (i : ℕ) (q : P) → get_elem? laid.places i ≡ some q → IsFirstPlace o i q
  first_place i q at =
      let is = client_at_first (lbts_first o) (length p.federates) p.buffers i q at in
      record {
        own = is.1 ∙ (λ t. own_at_first ((ap (λ (x : SeatState). x.federates) (sym is.1)) t) ((ap (λ (x : SeatState). x.buffers) (sym is.1)) t) i);
        client = is.0;
        world = (memory laid, laid.places, words.world agreeing_rule laid.buffers laid.words laid.places ruled.words i q at);
      }

  module _ (members : List Member) (begun : HaveBegun p (length p.federates) members) where
    at_place : (i : ℕ) (x : Member) (q : P) → get_elem? members i ≡ some x → get_elem? laid.places i ≡ some q → IsMemberAt p i x q
    at_place i x q atx atq =
        let b = begun.each i x atx in record {
          number = b.begins.me;
          seat = b.begins.seat o q new.federation new.scheme (first_place i q atq);
          limit = b.begins.limit;
          goes_on = λ _. b.begins.ended;
          stopped = λ e. absurd (false≢true (sym b.fresh ∙ e));
          told = λ e is. absurd (none_some (sym b.begins.ended ∙ is));
        }

    pub opened : (s : Stage) → s.floor ≡ f → s.members.items ≡ members → length s.members.items ≤ vec_capacity s.reports → s.reports.items ≡ [] → IsStage p s
    opened s floor_is members_are room none =
        let is : s.floor ≡ laid = floor_is ∙ new.new in record {
          federation = ap (λ (x : LbtsFloor). x.opening.federation.value) floor_is ∙ new.federation;
          scheme = ap (λ (x : LbtsFloor). x.opening.scheme) floor_is ∙ new.scheme;
          buffers = ap (λ (x : LbtsFloor). x.buffers) is;
          places = ap (λ (x : LbtsFloor). length x.places) is ∙ length_places_from (lbts_first o) (length p.federates) p.buffers 0 (length p.federates);
          many = ap length members_are ∙ begun.many;
          few = sound.federates.count.1;
          each = λ i x q atx atq. at_place i x q (ap (λ (l : List Member). get_elem? l i) (sym members_are) ∙ atx) (ap (λ (y : LbtsFloor). get_elem? y.places i) (sym is) ∙ atq);
          room = room;
          none = none;
        }
