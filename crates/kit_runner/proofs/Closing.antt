-- A run all of whose nodes get no further turns, with the words and places of its floor and the reports of its nodes.
use Rattle.std.proofs.Common.{◌≡◌, ◌≢◌, ℕ, zero, suc, ◌<◌, true, List, [], ◌∷◌, length, map, Option, Some, None, refl, sym, ap, ◌∙◌, subst, arith}
use Rattle.std.specs.List.{All}
use Rattle.std.specs.Prelude.{unwrap_or}
use Rattle.std.proofs.lemmas.List.{length-map}
use Rattle.std.proofs.lemmas.List.Elements.{All-get_or}
use mathlib.Core.Option.{some, some-injective, some-ne-none}
use lib.ListN.{get_elem?}
use Rattle.kit_ground.specs.declared.place.Place.{Place}
use Rattle.kit_ground.specs.Layout.{memory_of}
use Rattle.kit_ground.specs.Memory.{Memory}
use Rattle.kit_ground.specs.Words.{RuledWords}
use Rattle.kit_ground.proofs.Lists.{at_inside}
use Rattle.kit_rules.specs.Parts.{Parts}
use Rattle.kit_rules.specs.Simulation.{lines_of}
use Rattle.kit_parts.specs.Fronts.{IsFront, part, seat_after}
use Rattle.kit_parts.specs.OwnLaws.{Spends}
use Rattle.kit_model.specs.declared.journal.JournalEntry.{JournalEntry}
use Rattle.kit_model.specs.Journals.{IsLawful, JournalState}
use Rattle.kit_lbts.specs.declared.view.LbtsView.{LbtsView}
use Rattle.kit_lbts.specs.Agreement.{AgreeingRule, agreeing_rule, blocks_from, blocks_in}
use Rattle.kit_lbts.specs.SeatLaws.{IsInWorld}
use Rattle.kit_lbts.specs.Views.{entries_of}
use Rattle.kit_lbts.proofs.Worlds.{blocks_are_a_front, delivered_was_received, journals_are_lawful}
use Rattle.kit_node.specs.declared.ends.End.{End}
use Rattle.kit_node.specs.declared.ends.End.TheVariants as ends
use Rattle.kit_node.specs.declared.ends.NodeEnd.{NodeEnd}
use Rattle.kit_node.specs.declared.ends.NodeEnd.TheVariants as node_end
use Rattle.kit_node.specs.declared.node.NodeReport.{NodeReport}
use Rattle.kit_node.specs.Frames.{last_stop}
use Rattle.kit_node.specs.Mirrors.{IsReportOf}
use Rattle.kit_node.specs.Nodes as nodes
use Rattle.kit_node.specs.Nodes.{IsReported, end_in}
use Rattle.kit_node.specs.Seats.{Cause, HasEndedBadly, HasFinished, IsBelowEnd, IsNodeOf, IsSeatOf}
use Rattle.kit_replay.specs.Endings.{EndIs, IsShortOf}
use Rattle.kit_replay.specs.Reports.{AgreesWithPart, AreWholeParts, IsWholePart}
use Rattle.kit_replay.specs.Stages.{AreReported, IsWell, QueueNode, shown}
use Rattle.kit_replay.proofs.Causes.{is_short, is_spent}
use Rattle.kit_replay.proofs.Lists.{at_some, read_at}
use Rattle.kit_replay.proofs.Reporting.{receipts_come}
use Rattle.kit_runner.specs.Ends.{EndsWith, HasFinishedNode, IsLeastNamed, named_end}
use Rattle.kit_runner.specs.Runs.{AreClosed, HasEndedFor, HasEndedSo, IsAccountOf, IsRun, LbtsAccount, ReportsView, most_rounds}

abbrev P : Type 0
P = Place LbtsView

abbrev E : Type 0
E = Option NodeEnd

pub at_map : {A B : Type 0} (f : A → B) (l : List A) (i : ℕ) (a : A) → get_elem? l i ≡ some a → get_elem? (map f l) i ≡ some (f a)
at_map f [] i a at = absurd (some-ne-none a (sym at))
at_map f (x ∷ xs) zero a at = ap (λ y. some (f y)) (some-injective x a at)
at_map f (x ∷ xs) (suc i) a at = at_map f xs i a at

-- ---- how a node ended
abbrev pub end_of_node : QueueNode → E
end_of_node n = end_in n

some_none : {X : Type 0} {x : X} → None ≡ Some x → ⊥
some_none e = cc

abbrev number_at : End → ℕ
number_at (ends.NoBuffer f number) = number
number_at _ = 0

named_buffer : (f number : ℕ) (e : E) → named_end f e ≡ Some (ends.NoBuffer f number) → e ≡ Some (node_end.NoBuffer number)
named_buffer f number None is = absurd (some_none is)
named_buffer f number (Some node_end.Finished) is = absurd (some_none is)
named_buffer f number (Some (node_end.NoBuffer k)) is = ap (λ (o : Option End). Some (node_end.NoBuffer (number_at (unwrap_or o ends.Done)))) is
named_buffer f number (Some node_end.SendsSpent) is = cc
named_buffer f number (Some node_end.RoundsSpent) is = cc
named_buffer f number (Some node_end.NoMemory) is = absurd (some_none is)

named_sends : (f : ℕ) (e : E) → named_end f e ≡ Some (ends.SendsSpent f) → e ≡ Some node_end.SendsSpent
named_sends f None is = absurd (some_none is)
named_sends f (Some node_end.Finished) is = absurd (some_none is)
named_sends f (Some (node_end.NoBuffer k)) is = cc
named_sends f (Some node_end.SendsSpent) is = refl
named_sends f (Some node_end.RoundsSpent) is = cc
named_sends f (Some node_end.NoMemory) is = absurd (some_none is)

named_rounds : (f : ℕ) (e : E) → named_end f e ≡ Some (ends.RoundsSpent f) → e ≡ Some node_end.RoundsSpent
named_rounds f None is = absurd (some_none is)
named_rounds f (Some node_end.Finished) is = absurd (some_none is)
named_rounds f (Some (node_end.NoBuffer k)) is = cc
named_rounds f (Some node_end.SendsSpent) is = cc
named_rounds f (Some node_end.RoundsSpent) is = refl
named_rounds f (Some node_end.NoMemory) is = absurd (some_none is)

named_unfinished : (f : ℕ) (e : E) (end : End) → named_end f e ≡ Some end → e ≢ Some node_end.Finished
named_unfinished f e end is finished = some_none (sym (ap (named_end f) finished) ∙ is)

early_so : (q : P) (e : E) → HasEndedSo e q → e ≢ Some node_end.Finished → IsBelowEnd q.client
early_so q None h other = h.early
early_so q (Some node_end.Finished) h other = absurd (other refl)
early_so q (Some (node_end.NoBuffer number)) h other = h.stopped.early
early_so q (Some node_end.SendsSpent) h other = h.stopped.early
early_so q (Some node_end.RoundsSpent) h other = h.stopped.early
early_so q (Some node_end.NoMemory) h other = h.stopped.early

-- ---- a node and its place
module _ (n : QueueNode) (q : P) where
  pub tells : (o : E) → IsNodeOf shown o n q → IsReportOf n q
  tells None h = record { me = h.mirrors.me; journal = h.mirrors.journal; now = h.mirrors.course.now; bound = h.mirrors.rounds.bound; taken = h.mirrors.rounds.taken }
  tells (Some node_end.Finished) h = record { me = h.mirrors.me; journal = h.mirrors.journal; now = h.mirrors.course.now; bound = h.mirrors.rounds.bound; taken = h.mirrors.rounds.taken }
  tells (Some (node_end.NoBuffer number)) h = h.report
  tells (Some node_end.SendsSpent) h = h.report
  tells (Some node_end.RoundsSpent) h = h.report
  tells (Some node_end.NoMemory) h = h.report

  state_is : (o : E) → IsWell o → IsNodeOf shown o n q → n.course.state ≡ q.client.state
  state_is None well h = h.mirrors.course.state
  state_is (Some end) well h = (subst (λ (x : NodeEnd). IsNodeOf shown (Some x) n q) well h).mirrors.course.state

-- the node of federate i at its place gets no further turns: it has ended, or saw that the run is to stop
pub record IsThrough (p : Parts) (i : ℕ) (n : QueueNode) (q : P) : Type 0 where
  pub number : q.own.number ≡ i
  pub seat : IsSeatOf shown p n q
  pub limit : nodes.most_rounds n ≡ most_rounds
  pub stopped : end_in n ≡ None → (last_stop q).gave ≡ true

module _ (p : Parts) (i : ℕ) (n : QueueNode) (q : P) (h : IsThrough p i n q) where
  ended_for : (end : NodeEnd) → HasEndedBadly end n q → HasEndedFor end q
  ended_for end b = record { stopped = record { early = b.early; calm = b.calm }; cause = subst (λ (l : ℕ). Cause l end q) h.limit b.cause }

  ended_by : (o : E) → end_in n ≡ o → IsNodeOf shown o n q → HasEndedSo o q
  ended_by None e w = record { early = w.early; saw = h.stopped e }
  ended_by (Some node_end.Finished) e w = w.cause
  ended_by (Some (node_end.NoBuffer number)) e w = ended_for (node_end.NoBuffer number) w
  ended_by (Some node_end.SendsSpent) e w = ended_for node_end.SendsSpent w
  ended_by (Some node_end.RoundsSpent) e w = ended_for node_end.RoundsSpent w
  ended_by (Some node_end.NoMemory) e w = ended_for node_end.NoMemory w

  pub ended_so : HasEndedSo (end_in n) q
  ended_so = ended_by (end_in n) refl h.seat.node

-- ---- the account
module _ (p : Parts) (a : LbtsAccount) (rules : RuledWords agreeing_rule a.buffers a.words a.places) (buffers : a.buffers ≡ p.buffers) (places : length a.places ≡ length p.federates)
    (nodes : List QueueNode) (many : length nodes ≡ length p.federates)
    (each : (i : ℕ) (n : QueueNode) (q : P) → get_elem? nodes i ≡ some n → get_elem? a.places i ≡ some q → IsThrough p i n q) where
  abbrev m : Memory
  m = memory_of (length a.places) a.buffers a.words

  rule : AgreeingRule m a.places
  rule = rules.client

  node_at : (i : ℕ) (q : P) → get_elem? a.places i ≡ some q → (n : QueueNode) × (get_elem? nodes i ≡ some n)
  node_at i q at = at_some nodes i (let lt = at_inside a.places i q at in omega arith)

  place_at : (i : ℕ) (n : QueueNode) → get_elem? nodes i ≡ some n → (q : P) × (get_elem? a.places i ≡ some q)
  place_at i n at = at_some a.places i (let lt = at_inside nodes i n at in omega arith)

  account : IsAccountOf p a
  account = record {
    rules = rules;
    buffers = buffers;
    many = places;
    each = λ i q at. let n = node_at i q at in (each i n.0 q n.1 at).seat.federation_is;
  }

  -- the report of a node is of its view
  module _ (i : ℕ) (n : QueueNode) (q : P) (atn : get_elem? nodes i ≡ some n) (atq : get_elem? a.places i ≡ some q) (r : NodeReport) (reported : IsReported n r) where
    told : IsReportOf n q
    told = tells n q (end_in n) (each i n q atn atq).seat.node

    journal_is : r.journal.entries ≡ entries_of q.client
    journal_is = ap (λ (j : JournalState). j.entries) reported.journal ∙ told.journal

    agrees : AgreesWithPart p i (entries_of q.client)
    agrees =
        let fronts = blocks_are_a_front m a.places rule i q atq in record {
          front = subst (λ (f : Parts). IsFront f i (blocks_in i q.client)) (each i n q atn atq).seat.federation_is fronts.1;
          lines = fronts.0;
          came = receipts_come q.client (delivered_was_received m a.places rule i q atq);
        }

    reports_view : ReportsView p (end_in n) i q r
    reports_view = record {
      journal = journal_is;
      bound = reported.bound ∙ told.bound;
      rounds = reported.rounds ∙ told.taken;
      vars = λ well. reported.vars ∙ ap (λ s. s.vars) (state_is n q (end_in n) well (each i n q atn atq).seat.node);
      lawful = subst IsLawful (sym journal_is) (journals_are_lawful m a.places rule i q atq);
      agrees = subst (AgreesWithPart p i) (sym journal_is) agrees;
    }

  -- ---- the reports and the end
  module _ (reports : List NodeReport) (reported : AreReported nodes reports) (end : End) (ends_with : EndsWith (map end_of_node nodes) end) where
    abbrev ended : List E
    ended = map end_of_node nodes

    node_of : (i : ℕ) (e : E) → get_elem? ended i ≡ some e → (n : QueueNode) × (get_elem? nodes i ≡ some n) × (end_in n ≡ e)
    node_of i e at =
        let n = at_some nodes i (let lt = at_inside ended i e at in let l = length-map nodes end_of_node in omega arith) in
        (n.0, n.1, some-injective _ _ (sym (at_map end_of_node nodes i n.0 n.1) ∙ at))

    closed : AreClosed p ended a.places reports
    closed = record {
      all = length-map nodes end_of_node ∙ many;
      many = reported.many ∙ many;
      each = λ i e q r ate atq atr.
          let n = node_of i e ate in
          let so = ended_so p i n.0 q (each i n.0 q n.1 atq) in
          let told = reports_view i n.0 q n.1 atq r (reported.each i n.0 r n.1 atr) in record {
            ended_so = subst (λ (o : E). HasEndedSo o q) n.2 so;
            report = subst (λ (o : E). ReportsView p o i q r) n.2 told;
          };
    }

    -- a federate whose node ended so
    ends_at : (i : ℕ) (e : E) → get_elem? ended i ≡ some e → (q : P) × (get_elem? a.places i ≡ some q) × HasEndedSo e q × IsInWorld q × (q.client.federation ≡ p) × (q.own.number ≡ i)
    ends_at i e at =
        let n = node_of i e at in
        let q = place_at i n.0 n.1 in
        let h = each i n.0 q.0 n.1 q.1 in
        (q.0, q.1, subst (λ (o : E). HasEndedSo o q.0) n.2 (ended_so p i n.0 q.0 h), h.seat.world, h.seat.federation_is, h.number)

    all_finished : All HasFinishedNode ended → (i : ℕ) (q : P) → get_elem? a.places i ≡ some q → HasFinished q
    all_finished all i q at =
        let n = node_at i q at in
        let ate = at_map end_of_node nodes i n.0 n.1 in
        let is : end_in n.0 ≡ Some node_end.Finished = subst HasFinishedNode (read_at ended i (end_in n.0) (end_in n.0) ate) (All-get_or HasFinishedNode ended i (end_in n.0) (at_inside ended i (end_in n.0) ate) all) in
        subst (λ (o : E). HasEndedSo o q) is (ended_so p i n.0 q (each i n.0 q n.1 at))

    short : (f number : ℕ) → IsLeastNamed ended f (ends.NoBuffer f number) → EndIs p most_rounds a.places (ends.NoBuffer f number)
    short f number h =
        let at = ends_at f (Some (node_end.NoBuffer number)) (h.there ∙ ap some (named_buffer f number h.node h.names)) in
        let is = is_short number at.0 at.3 at.2.cause at.2.stopped.calm in (
          record { place = at.0; there = at.1; holds = at.2.cause },
          subst (λ (k : ℕ). IsShortOf p k number) at.5 (subst (λ (g : Parts). IsShortOf g at.0.own.number number) at.4 is),
        )

    spent : (f : ℕ) → IsLeastNamed ended f (ends.SendsSpent f) → EndIs p most_rounds a.places (ends.SendsSpent f)
    spent f h =
        let at = ends_at f (Some node_end.SendsSpent) (h.there ∙ ap some (named_sends f h.node h.names)) in
        let is = is_spent at.0 at.3 at.2.cause in (
          record { place = at.0; there = at.1; holds = at.2.cause },
          subst (λ (k : ℕ). Spends p k) at.5 (subst (λ (g : Parts). Spends g at.0.own.number) at.4 is),
        )

    cause : (end : End) → EndsWith ended end → EndIs p most_rounds a.places end
    cause ends.Done h = all_finished h
    cause (ends.Unfinished f) h = absurd h
    cause (ends.NoBuffer f number) h = short f number h
    cause (ends.SendsSpent f) h = spent f h
    cause (ends.RoundsSpent f) h =
        let at = ends_at f (Some node_end.RoundsSpent) (h.there ∙ ap some (named_rounds f h.node h.names)) in
        record { place = at.0; there = at.1; holds = at.2.cause }
    cause ends.NoMemory h = tt

    -- where all were granted the end, the run is done
    abbrev AllFinished : Type 0
    AllFinished = (i : ℕ) (q : P) → get_elem? a.places i ≡ some q → HasFinished q

    not_all : AllFinished → (i : ℕ) (e : E) → get_elem? ended i ≡ some e → e ≢ Some node_end.Finished → ⊥
    not_all all i e at other =
        let x = ends_at i e at in
        let early = early_so x.0 e x.2 other in
        let granted = (all i x.0 x.1).granted in
        omega arith

    exactly : AllFinished → (end : End) → EndsWith ended end → end ≡ ends.Done
    exactly all ends.Done h = refl
    exactly all (ends.Unfinished f) h = absurd h
    exactly all (ends.NoBuffer f number) h = absurd (not_all all f h.node h.there (named_unfinished f h.node (ends.NoBuffer f number) h.names))
    exactly all (ends.SendsSpent f) h = absurd (not_all all f h.node h.there (named_unfinished f h.node (ends.SendsSpent f) h.names))
    exactly all (ends.RoundsSpent f) h = absurd (not_all all f h.node h.there (named_unfinished f h.node (ends.RoundsSpent f) h.names))
    exactly all ends.NoMemory h = absurd (not_all all h.federate h.node h.there h.unfinished)

    -- and each part is whole
    module _ (all : AllFinished) (well : All HasFinishedNode ended) where
      whole : (i : ℕ) (r : NodeReport) → get_elem? reports i ≡ some r → IsWholePart p i r
      whole i r atr =
          let n = at_some nodes i (let lt = at_inside reports i r atr in let k = reported.many in omega arith) in
          let q = place_at i n.0 n.1 in
          let h = each i n.0 q.0 n.1 q.1 in
          let told = reports_view i n.0 q.0 n.1 q.1 r (reported.each i n.0 r n.1 atr) in
          let ate = at_map end_of_node nodes i n.0 n.1 in
          let is : end_in n.0 ≡ Some node_end.Finished = subst HasFinishedNode (read_at ended i (end_in n.0) (end_in n.0) ate) (All-get_or HasFinishedNode ended i (end_in n.0) (at_inside ended i (end_in n.0) ate) well) in
          let complete = (all i q.0 q.1).complete in
          let federation : q.0.client.federation ≡ p = h.seat.federation_is in
          let blocks : blocks_in i q.0.client ≡ part p i = subst (λ (k : ℕ). blocks_in k q.0.client ≡ part q.0.client.federation k) h.number complete.blocks ∙ ap (λ (g : Parts). part g i) federation in
          record {
            lines = told.agrees.lines ∙ (ap (λ (es : List JournalEntry). lines_of (blocks_from i [] es)) told.journal ∙ ap lines_of blocks);
            vars = told.vars (subst IsWell (sym is) refl) ∙ (complete.vars ∙ (λ t. (seat_after (federation t) (h.number t) (part (federation t) (h.number t))).state.vars));
          }

      whole_parts : AreWholeParts p reports
      whole_parts = record { many = reported.many ∙ many; each = whole }

    pub is_run : IsRun p end reports a
    is_run = record {
      account = account;
      nodes = ended;
      closed = closed;
      end_is = ends_with;
      cause = cause end ends_with;
      done = λ e. let well = subst (EndsWith ended) e ends_with in whole_parts (all_finished well) well;
      exactly = λ all. exactly all end ends_with;
    }

    pub nodes_are : is_run.nodes ≡ ended
    unfolding is_run
    nodes_are = refl
