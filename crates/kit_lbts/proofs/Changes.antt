-- A step of one federate: what its place was, and what the rule needs where the step is none of a register.
use Rattle.std.proofs.Common.{◌≡◌, ◌≢◌, ℕ, zero, suc, ◌+◌, ◌-◌, ◌*◌, ◌%◌, ◌^◌, ◌<◌, ◌≤◌, inl, inr, ◌⊎◌, List, [], length, refl, sym, ap, ◌∙◌, subst, ⊎_elim, length-set, true, false}
use Rattle.std.specs.List.{All}
use Rattle.std.specs.Prelude.{slice_set, slice_index_or}
use mathlib.Core.Logic.{dite}
use mathlib.Core.Option.{some}
use native.Mathlib.Decide.{ℕ_discrete}
use lib.ListN.{get_elem?}
use Rattle.atomic_table.proofs.Lists.{at_set}
use Rattle.kit_ground.specs.declared.address.Address.TheVariants.{Register}
use Rattle.kit_ground.specs.declared.address.Reg.{Reg}
use Rattle.kit_ground.specs.declared.place.Deed.{Deed}
use Rattle.kit_ground.specs.declared.place.Place.{Place}
use Rattle.kit_ground.specs.Memory.{Memory}
use Rattle.kit_ground.specs.Rules.{RuleStays, World}
use Rattle.kit_ground.specs.Steps.{place_after}
use Rattle.kit_ground.proofs.PlaceSteps.{each_after}
use Rattle.kit_model.specs.Blocks.{round_result}
use Rattle.kit_model.specs.declared.share.Share.{Share}
use Rattle.kit_rounds.specs.declared.contribution.Contribution.{Contribution}
use Rattle.kit_rounds.specs.Ledgers.{Ledger, nothing}
use Rattle.kit_rounds.specs.Rounds.{HasContributed, result_of}
use Rattle.kit_lbts.specs.declared.view.Scheme.{Scheme}
use Rattle.kit_lbts.specs.declared.view.LbtsView.{LbtsView}
use Rattle.kit_lbts.specs.Views.{time_of}
use Rattle.kit_lbts.specs.Promises.{ledgers_of, unknown}
use Rattle.kit_lbts.specs.Reduction.{Source, value_at, publishes, reg_of, sources, source}
use Rattle.kit_ground.specs.Layout.{clock_of}
use Rattle.kit_lbts.specs.Registers.{IsKnown, ShowsRound, Registers, Learnt, shares_at, word_at}
use Rattle.kit_lbts.specs.Letters.{Letters}
use Rattle.kit_lbts.specs.Ways.{WayBetween}
use Rattle.kit_lbts.specs.Seats.{Holdings, Queue, Receiving, Granting, Sends}
use Rattle.kit_lbts.specs.Progress.{view_after}
use Rattle.kit_lbts.specs.Rule.{Common, RoundsHold, FederateRule, lbts_rule}
use Rattle.kit_lbts.proofs.RoundSteps.{ledger_after, ledger_before, changed}

abbrev P : Type 0
P = Place LbtsView

-- what was at a place before the federate `me` went from p to q
pub record Was (places : List P) (me : ℕ) (p q : P) (i : ℕ) (r : P) : Type 0 where
  pub before : P
  pub at : get_elem? places i ≡ some before
  pub is : ((i ≡ me) × (before ≡ p) × (r ≡ q)) ⊎ ((i ≢ me) × (before ≡ r))

pub was : (places : List P) (me : ℕ) (p q : P) → get_elem? places me ≡ some p → (i : ℕ) (r : P) → get_elem? (slice_set places me q) i ≡ some r → Was places me p q i r
was places me p q here i r at = ⊎_elim
    (λ (t : (i ≡ me) × (q ≡ r)). record { before = p; at = subst (λ (x : ℕ). get_elem? places x ≡ some p) (sym t.0) here; is = inl (t.0, refl, sym t.1) })
    (λ (t : (i ≢ me) × (get_elem? places i ≡ some r)). record { before = r; at = t.1; is = inr (t.0, refl) })
    (at_set places me i q r at)

-- what did not change of the federate changed of nobody
pub still : {X : Type 0} (c : P → X) (places : List P) (me : ℕ) (p q : P) → c q ≡ c p → (i : ℕ) (r : P) (t : Was places me p q i r) → c r ≡ c t.before
still c places me p q same i r t = ⊎_elim
    (λ (h : (i ≡ me) × (t.before ≡ p) × (r ≡ q)). ap c h.2 ∙ (same ∙ ap c (sym h.1)))
    (λ (h : (i ≢ me) × (t.before ≡ r)). ap c (sym h.1))
    t.is

-- what is said of two places, by whether the first, or the second, is that of the federate
pub ways_from : (places : List P) (me : ℕ) (p q : P) (W : ℕ → ℕ → P → P → Type 0)
    → ((j : ℕ) (s : P) → Was places me p q j s → W me j q s)
    → ((i j : ℕ) (r s : P) → i ≢ me → get_elem? places i ≡ some r → Was places me p q j s → W i j r s)
    → (i j : ℕ) (r s : P) → Was places me p q i r → Was places me p q j s → W i j r s
ways_from places me p q W here other i j r s ti tj = ⊎_elim
    (λ (h : (i ≡ me) × (ti.before ≡ p) × (r ≡ q)). subst (λ (x : ℕ × P). W x.0 j x.1 s) (λ t. (sym h.0 t, sym h.2 t)) (here j s tj))
    (λ (h : (i ≢ me) × (ti.before ≡ r)). other i j r s h.0 (subst (λ (x : P). get_elem? places i ≡ some x) h.1 ti.at) tj)
    ti.is

pub ways_to : (places : List P) (me : ℕ) (p q : P) (W : ℕ → ℕ → P → P → Type 0)
    → ((i : ℕ) (r : P) → Was places me p q i r → W i me r q)
    → ((i j : ℕ) (r s : P) → j ≢ me → get_elem? places j ≡ some s → Was places me p q i r → W i j r s)
    → (i j : ℕ) (r s : P) → Was places me p q i r → Was places me p q j s → W i j r s
ways_to places me p q W here other i j r s ti tj = ⊎_elim
    (λ (h : (j ≡ me) × (tj.before ≡ p) × (s ≡ q)). subst (λ (x : ℕ × P). W i x.0 r x.1) (λ t. (sym h.0 t, sym h.2 t)) (here i r ti))
    (λ (h : (j ≢ me) × (tj.before ≡ s)). other i j r s h.0 (subst (λ (x : P). get_elem? places j ≡ some x) h.1 tj.at) ti)
    tj.is

-- ---- what the rule of registers reads of a view
abbrev pub Said : Type 0
Said = List Contribution × List Share × List Share × Scheme

abbrev pub said : LbtsView → Said
said v = (v.contributions, v.results, v.taken, v.scheme)

-- the rules of registers, over the contributions of all
module _ (n : ℕ) (ledgers after : ℕ → Ledger) (same : (j : ℕ) → (after j).contributions ≡ (ledgers j).contributions) where
  shares_same : (k : ℕ) → shares_at after k ≡ shares_at ledgers k
  shares_same k = λ t j. (slice_index_or (same j t) k nothing).share

  has_still : (j k : ℕ) → HasContributed (ledgers j) k → HasContributed (after j) k
  has_still j k h = subst (λ (cs : List Contribution). k < length cs) (sym (same j)) h

  known_still : (owner stage k : ℕ) (share : Share) → IsKnown n ledgers owner stage k share → IsKnown n after owner stage k share
  known_still owner stage k share h = record { place = h.place; fits = h.fits; is = h.is ∙ ap (λ (f : ℕ → Share). value_at n f owner stage) (sym (shares_same k)); made = λ j lj t. has_still j k (h.made j lj t) }

  shown_still : (owner stage k word : ℕ) → ShowsRound n ledgers owner stage k word → ShowsRound n after owner stage k word
  shown_still owner stage zero word h = h
  shown_still owner stage (suc k) word h = (h.0, h.1, known_still owner stage k h.0 h.2)

  result_still : (k : ℕ) → result_of n after k ≡ result_of n ledgers k
  result_still k = ap (round_result n) (shares_same k)

  registers_still : (m now : Memory) → ((r : Reg) → now (Register r) ≡ m (Register r)) → (j : ℕ) (p q : P)
      → said q.client ≡ said p.client → time_of q.client ≡ time_of p.client → Registers m n ledgers j p → Registers now n after j q
  registers_still m now words j p q same_said time h =
      let Now : Memory → Said → Type 0 = λ x s. (stage : ℕ) → stage < 6 → publishes s.3 n j stage ≡ true
      → ShowsRound n after j stage (length s.0) (word_at x j stage (length s.0)) ⊎ ShowsRound n after j stage (length s.0 - 2) (word_at x j stage (length s.0)) in
      let Before : Memory → Said → Type 0 = λ x s. (stage : ℕ) → stage < 6 → publishes s.3 n j stage ≡ true
      → ShowsRound n after j stage (length s.0 - 1) (word_at x j stage (length s.0 + 1)) in
      let Unused : Said → Type 0 = λ s. (stage round : ℕ) → stage < 6 → publishes s.3 n j stage ≡ false → word_at now j stage round ≡ 0 in
      let c : ℕ = length p.client.contributions in
      let move : (owner stage k round : ℕ) → ShowsRound n ledgers owner stage k (word_at m owner stage round) → ShowsRound n after owner stage k (word_at now owner stage round) =
      λ owner stage k round s. subst (ShowsRound n after owner stage k) (sym (words (record { owner = owner; slot = round % 2 * 6 + stage }))) (shown_still owner stage k (word_at m owner stage round) s) in
      record {
        now = subst (Now now) (sym same_said) (λ stage l t. ⊎_elim
            (λ (s : ShowsRound n ledgers j stage c (word_at m j stage c)). inl (move j stage c c s))
            (λ (s : ShowsRound n ledgers j stage (c - 2) (word_at m j stage c)). inr (move j stage (c - 2) c s))
            (h.now stage l t));
        before = subst (Before now) (sym same_said) (λ stage l t. move j stage (c - 1) (c + 1) (h.before stage l t));
        unused = subst Unused (sym same_said) (λ stage round l t. words (reg_of j stage round) ∙ h.unused stage round l t);
        clock = words (clock_of j) ∙ (h.clock ∙ sym time);
        lows = subst (λ (s : Said). All (λ (c : Contribution). c.share.low < 2 ^ 17) s.0) (sym same_said) h.lows;
      }

  learnt_still : (j : ℕ) (p q : P) → said q.client ≡ said p.client → Learnt n ledgers j p → Learnt n after j q
  learnt_still j p q same_said h =
      let Under : Said → Type 0 = λ s. (length s.0 ≡ length s.1) ⊎ (length s.0 ≡ length s.1 + 1) in
      let Fresh : Said → Type 0 = λ s. length s.0 ≡ length s.1 → s.2 ≡ [] in
      let Few : Said → Type 0 = λ s. length s.2 ≤ length (sources s.3 n j) in
      let Taken : Said → Type 0 = λ s. (l : ℕ) → l < length s.2
      → IsKnown n after (slice_index_or (sources s.3 n j) l (source 0 0)).owner (slice_index_or (sources s.3 n j) l (source 0 0)).stage (length s.1) (slice_index_or s.2 l unknown) in
      let Results : Said → Type 0 = λ s. (k : ℕ) → k < length s.1
      → (slice_index_or s.1 k unknown ≡ result_of n after k) × ((i : ℕ) → i < n → HasContributed (after i) k) in
      record {
        under_way = subst Under (sym same_said) h.under_way;
        fresh = subst Fresh (sym same_said) h.fresh;
        few = subst Few (sym same_said) h.few;
        taken = subst Taken (sym same_said) (λ l ll. let s : Source = slice_index_or (sources p.client.scheme n j) l (source 0 0) in
            known_still s.owner s.stage (length p.client.results) (slice_index_or p.client.taken l unknown) (h.taken l ll));
        results = subst Results (sym same_said) (λ k lk. ((h.results k lk).0 ∙ sym (result_still k), λ i li. has_still i k ((h.results k lk).1 i li)));
      }

-- ---- a federate goes from the place p to q
module _ (p : P) (m : Memory) (places : List P) (w : World lbts_rule p m places) (now : Memory) (q : P) (sized : q.own.buffers ≡ p.own.buffers) where
  abbrev new : List P
  new = slice_set places p.own.number q

  own : FederateRule m places p.own.number p
  own = w.client.each p.own.number p w.here

  -- what a step leaves that is none of a register
  pub record SteadyAt : Type 0 where
    pub words : (r : Reg) → now (Register r) ≡ m (Register r)
    pub federation : q.client.federation ≡ p.client.federation
    pub same : said q.client ≡ said p.client
    pub time : time_of q.client ≡ time_of p.client

  -- and what it has to keep
  pub record ChangedAt : Type 0 where
    pub letters : Letters now p.own.number q
    pub others : (i : ℕ) (r : P) → i ≢ p.own.number → get_elem? places i ≡ some r → Letters now i r
    pub holdings : Holdings q
    pub queue : Queue p.own.number q
    pub heard : Receiving q.client
    pub granting : Granting q
    pub sends : Sends p.own.number q
    pub ways : (i j : ℕ) (r s : P) → Was places p.own.number p q i r → Was places p.own.number p q j s → WayBetween now i j r s
    pub rounds : RoundsHold (slice_set places p.own.number q)

  module _ (steady : SteadyAt) where
    -- nobody's contributions change
    contributions_same : (j : ℕ) → (ledgers_of new j).contributions ≡ (ledgers_of places j).contributions
    contributions_same j = dite (ℕ_discrete j p.own.number)
        (λ same. subst (λ (x : ℕ). (ledgers_of new x).contributions ≡ (ledgers_of places x).contributions) (sym same)
        (ap (λ (l : Ledger). l.contributions) (ledger_after places p.own.number p q w.here)
        ∙ (ap (λ (x : Said). x.0) steady.same ∙ sym (ap (λ (l : Ledger). l.contributions) (ledger_before places p.own.number p q w.here)))))
        (λ other. ap (λ (l : Ledger). l.contributions) ((changed places p.own.number p q w.here).others j other))

    common : Common new
    common = let h = w.client.common in record {
      federation = h.federation;
      scheme = h.scheme;
      sound = h.sound;
      many = length-set places p.own.number q ∙ h.many;
      each = λ j r at.
          let t = was places p.own.number p q w.here j r at in
          let e = h.each j t.before t.at in (
            still (λ (x : P). x.client.federation) places p.own.number p q steady.federation j r t ∙ e.0,
            still (λ (x : P). x.client.scheme) places p.own.number p q (ap (λ (s : Said). s.3) steady.same) j r t ∙ e.1,
            still (λ (x : P). x.own.buffers) places p.own.number p q sized j r t ∙ e.2,
          );
    }

    registers_of : (j : ℕ) (r s : P) → said s.client ≡ said r.client → time_of s.client ≡ time_of r.client → Registers m (length places) (ledgers_of places) j r → Registers now (length new) (ledgers_of new) j s
    registers_of j r s same time h = subst (λ (n : ℕ). Registers now n (ledgers_of new) j s) (sym (length-set places p.own.number q))
        (registers_still (length places) (ledgers_of places) (ledgers_of new) contributions_same m now steady.words j r s same time h)

    learnt_of : (j : ℕ) (r s : P) → said s.client ≡ said r.client → Learnt (length places) (ledgers_of places) j r → Learnt (length new) (ledgers_of new) j s
    learnt_of j r s same h = subst (λ (n : ℕ). Learnt n (ledgers_of new) j s) (sym (length-set places p.own.number q))
        (learnt_still (length places) (ledgers_of places) (ledgers_of new) contributions_same j r s same h)

    pub kept_at : ChangedAt → RuleStays lbts_rule m places now new
    kept_at h = record {
      client = record {
        common = common;
        each = each_after (FederateRule now new) places p.own.number q
            (record {
              registers = registers_of p.own.number p q steady.same steady.time own.registers;
              learnt = learnt_of p.own.number p q steady.same own.learnt;
              letters = h.letters;
              holdings = h.holdings;
              queue = h.queue;
              heard = h.heard;
              granting = h.granting;
              sends = h.sends;
            })
            (λ j r other at.
            let old = w.client.each j r at in
            record {
              registers = registers_of j r r refl refl old.registers;
              learnt = learnt_of j r r refl old.learnt;
              letters = h.others j r other at;
              holdings = old.holdings;
              queue = old.queue;
              heard = old.heard;
              granting = old.granting;
              sends = old.sends;
            });
        ways = λ i j r s ati atj. h.ways i j r s (was places p.own.number p q w.here i r ati) (was places p.own.number p q w.here j s atj);
        rounds = h.rounds;
      };
      guests = λ g sees. tt;
    }

-- ---- and by a step
module _ (p : P) (m : Memory) (places : List P) (w : World lbts_rule p m places) (now : Memory) (deed : Deed) where
  pub mine : FederateRule m places p.own.number p
  mine = w.client.each p.own.number p w.here

  abbrev pub Steady : Type 0
  Steady = SteadyAt p m places w now (place_after view_after deed p) refl

  abbrev pub Changed : Type 0
  Changed = ChangedAt p m places w now (place_after view_after deed p) refl

  pub kept : Steady → Changed → RuleStays lbts_rule m places now (slice_set places p.own.number (place_after view_after deed p))
  kept steady h = kept_at p m places w now (place_after view_after deed p) refl steady h
