-- A federate publishes: the registers of others stay, and contributions last.
use Rattle.std.proofs.Common.{◌≡◌, ◌≢◌, ℕ, zero, suc, ◌+◌, ◌-◌, ◌<◌, ◌≤◌, ◌==◌, ◌&&◌, inl, inr, ⊎_elim, Bool, true, false, cond, List, [], ◌∷◌, ◌++◌, length, refl, sym, ap, ◌∙◌, subst, length-set}
use Rattle.std.specs.Prelude.{slice_set, slice_index_or}
use Rattle.std.proofs.lemmas.Bool.{eqb-true, and_parts}
use mathlib.Core.Logic.{dite}
use mathlib.Core.Option.{some}
use native.Mathlib.Decide.{ℕ_discrete}
use lib.ListN.{get_elem?}
use Rattle.atomic_table.proofs.Lists.{set_again}
use Rattle.kit_ground.specs.declared.address.Address.TheVariants.{Register}
use Rattle.kit_ground.specs.declared.address.Reg.{Reg}
use Rattle.kit_ground.specs.declared.place.Place.{Place}
use Rattle.kit_ground.specs.Memory.{Memory}
use Rattle.kit_ground.specs.Rules.{World}
use Rattle.kit_ground.proofs.PlaceSteps.{each_after}
use Rattle.kit_model.specs.declared.share.Share.{Share}
use Rattle.kit_rounds.specs.declared.contribution.Contribution.{Contribution}
use Rattle.kit_rounds.specs.Ledgers.{Ledger, at_round}
use Rattle.kit_rounds.specs.Rounds.{HasContributed, result_of}
use Rattle.kit_rounds.proofs.Knowing.{contributions_last}
use Rattle.kit_rounds.proofs.Results.{same_result}
use Rattle.kit_lbts.specs.declared.view.LbtsView.{LbtsView}
use Rattle.kit_lbts.specs.Promises.{ledgers_of, unknown}
use Rattle.kit_lbts.specs.Reduction.{Source, share_with_taken, reg_of, source, sources}
use Rattle.kit_ground.specs.Layout.{clock_of}
use Rattle.kit_lbts.specs.Registers.{IsKnown, ShowsRound, Learnt, Registers, word_at}
use Rattle.kit_lbts.specs.Progress.{view_after_close, is_under_way, own_share}
use Rattle.kit_lbts.specs.Rule.{LbtsRule, FederateRule, lbts_rule}
use Rattle.kit_lbts.proofs.Changes.{ChangedAt, still, was}
use Rattle.kit_lbts.proofs.Knowledge.{known_lasts}
use Rattle.kit_lbts.proofs.LookSteps.{closes, way_is}
use Rattle.kit_lbts.proofs.RoundSteps.{changed, ledger_after, ledger_before}

abbrev P : Type 0
P = Place LbtsView

abbrev pub Lasts : (ℕ → Ledger) → (ℕ → Ledger) → Type 0
Lasts ledgers after = (j k : ℕ) → HasContributed (ledgers j) k → HasContributed (after j) k × (at_round (after j) k ≡ at_round (ledgers j) k)

-- what is known, shown and learnt stays so while contributions last
module _ (n : ℕ) (ledgers after : ℕ → Ledger) (last : Lasts ledgers after) where
  pub known_on : (owner stage k : ℕ) (share : Share) → IsKnown n ledgers owner stage k share → IsKnown n after owner stage k share
  known_on owner stage k share h = known_lasts n owner stage k share ledgers after (λ j lt has. last j k has) h

  pub shown_on : (owner stage k word : ℕ) → ShowsRound n ledgers owner stage k word → ShowsRound n after owner stage k word
  shown_on owner stage zero word h = h
  shown_on owner stage (suc k) word h = (h.0, h.1, known_on owner stage k h.0 h.2)

  pub result_on : 1 ≤ n → (k : ℕ) → ((j : ℕ) → j < n → HasContributed (ledgers j) k) → result_of n after k ≡ result_of n ledgers k
  result_on one k full =
      same_result n (λ j. (at_round (after j) k).share) (λ j. (at_round (ledgers j) k).share) one (λ j lt. ap (λ (x : Contribution). x.share) (last j k (full j lt)).1)

  pub registers_on : (m now : Memory) (j : ℕ) (p : P) → ((r : Reg) → r.owner ≡ j → now (Register r) ≡ m (Register r)) → Registers m n ledgers j p → Registers now n after j p
  registers_on m now j p words h =
      let c : ℕ = length p.client.contributions in
      let move : (stage k round : ℕ) → ShowsRound n ledgers j stage k (word_at m j stage round) → ShowsRound n after j stage k (word_at now j stage round) =
      λ stage k round s. subst (ShowsRound n after j stage k) (sym (words (reg_of j stage round) refl)) (shown_on j stage k (word_at m j stage round) s) in
      record {
        now = λ stage l t. ⊎_elim
            (λ (s : ShowsRound n ledgers j stage c (word_at m j stage c)). inl (move stage c c s))
            (λ (s : ShowsRound n ledgers j stage (c - 2) (word_at m j stage c)). inr (move stage (c - 2) c s))
            (h.now stage l t);
        before = λ stage l t. move stage (c - 1) (c + 1) (h.before stage l t);
        unused = λ stage round l t. words (reg_of j stage round) refl ∙ h.unused stage round l t;
        clock = words (clock_of j) refl ∙ h.clock;
        lows = h.lows;
      }

  pub learnt_on : 1 ≤ n → (j : ℕ) (p : P) → Learnt n ledgers j p → Learnt n after j p
  learnt_on one j p h = record {
    under_way = h.under_way;
    fresh = h.fresh;
    few = h.few;
    taken = λ l lt. let s : Source = slice_index_or (sources p.client.scheme n j) l (source 0 0) in
        known_on s.owner s.stage (length p.client.results) (slice_index_or p.client.taken l unknown) (h.taken l lt);
    results = λ k lt. let r = h.results k lt in (r.0 ∙ sym (result_on one k r.1), λ i li. (last i k (r.1 i li)).0);
  }

-- ---- the federate goes from the place p to q
module _ (p : P) (m : Memory) (places : List P) (w : World lbts_rule p m places) (now : Memory) (q : P) (sized : q.own.buffers ≡ p.own.buffers) where
  abbrev new : List P
  new = slice_set places p.own.number q

  pub lasts : (more : List Contribution) → q.client.contributions ≡ p.client.contributions ++ more → Lasts (ledgers_of places) (ledgers_of new)
  lasts more grows j k has = dite (ℕ_discrete j p.own.number)
      (λ same. subst (λ (x : ℕ). HasContributed (ledgers_of new x) k × (at_round (ledgers_of new x) k ≡ at_round (ledgers_of places x) k)) (sym same)
      (contributions_last p.own.number k (ledgers_of places) (ledgers_of new) more
      (ap (λ (l : Ledger). l.contributions) (ledger_after places p.own.number p q w.here) ∙ (grows ∙ ap (λ (l : Ledger). l.contributions ++ more) (sym (ledger_before places p.own.number p q w.here))))
      (subst (λ (x : ℕ). HasContributed (ledgers_of places x) k) same has)))
      (λ other. subst (λ (l : Ledger). HasContributed l k × (at_round l k ≡ at_round (ledgers_of places j) k)) (sym ((changed places p.own.number p q w.here).others j other)) (has, refl))

  -- what a step on an own register has to show
  pub record Grown : Type 0 where
    pub words : (r : Reg) → r.owner ≢ p.own.number → now (Register r) ≡ m (Register r)
    pub federation : q.client.federation ≡ p.client.federation
    pub scheme : q.client.scheme ≡ p.client.scheme
    pub more : List Contribution
    pub grows : q.client.contributions ≡ p.client.contributions ++ more
    pub registers : Registers now (length places) (ledgers_of (slice_set places p.own.number q)) p.own.number q
    pub learnt : Learnt (length places) (ledgers_of (slice_set places p.own.number q)) p.own.number q

  pub published_at : 1 ≤ length places → Grown → ChangedAt p m places w now q sized → LbtsRule now (slice_set places p.own.number q)
  published_at one g h =
      let last : Lasts (ledgers_of places) (ledgers_of new) = lasts g.more g.grows in
      let long = length-set places p.own.number q in
      let as_many : (X : ℕ → Type 0) → X (length places) → X (length new) = λ X x. subst X (sym long) x in
      record {
        common = let c = w.client.common in record {
          federation = c.federation;
          scheme = c.scheme;
          sound = c.sound;
          many = long ∙ c.many;
          each = λ j r at.
              let t = was places p.own.number p q w.here j r at in
              let e = c.each j t.before t.at in (
                still (λ (x : P). x.client.federation) places p.own.number p q g.federation j r t ∙ e.0,
                still (λ (x : P). x.client.scheme) places p.own.number p q g.scheme j r t ∙ e.1,
                still (λ (x : P). x.own.buffers) places p.own.number p q sized j r t ∙ e.2,
              );
        };
        each = each_after (FederateRule now new) places p.own.number q
            (record {
              registers = as_many (λ n. Registers now n (ledgers_of new) p.own.number q) g.registers;
              learnt = as_many (λ n. Learnt n (ledgers_of new) p.own.number q) g.learnt;
              letters = h.letters;
              holdings = h.holdings;
              queue = h.queue;
              heard = h.heard;
              granting = h.granting;
              sends = h.sends;
            })
            (λ j r other at.
            let old = w.client.each j r at in
            record {
              registers = as_many (λ n. Registers now n (ledgers_of new) j r)
                  (registers_on (length places) (ledgers_of places) (ledgers_of new) last m now j r (λ x own. g.words x (λ e. other (sym own ∙ e))) old.registers);
              learnt = as_many (λ n. Learnt n (ledgers_of new) j r) (learnt_on (length places) (ledgers_of places) (ledgers_of new) last one j r old.learnt);
              letters = h.others j r other at;
              holdings = old.holdings;
              queue = old.queue;
              heard = old.heard;
              granting = old.granting;
              sends = old.sends;
            });
        ways = λ i j r s ati atj. h.ways i j r s (was places p.own.number p q w.here i r ati) (was places p.own.number p q w.here j s atj);
        rounds = h.rounds;
      }

-- ---- a round is closed where all places are taken in
module _ (m : Memory) (places : List P) (me : ℕ) (q : P) (at : get_elem? places me ≡ some q) (rule : LbtsRule m places) (few : length places ≤ 16) where
  abbrev v : LbtsView
  v = q.client

  by_test : (b : Bool) → (is_under_way v && length v.taken == length (sources v.scheme (length places) me)) ≡ b
      → LbtsRule m (slice_set places me (record q { client = cond b (record v { results = v.results ++ share_with_taken v.scheme (length places) me (own_share v) v.taken ∷ []; taken = [] }) v }))
  by_test false e = subst (LbtsRule m) (sym (set_again places me q at)) rule
  by_test true e =
      let parts = and_parts (is_under_way v) (length v.taken == length (sources v.scheme (length places) me)) e in
      closes m places me q at rule q.own few (way_is v parts.0) (eqb-true _ _ parts.1)

  pub closed_keeps : q.own.federates ≡ length places → LbtsRule m (slice_set places me (record q { client = view_after_close q.own.federates me q.client }))
  closed_keeps many = subst (λ (n : ℕ). LbtsRule m (slice_set places me (record q { client = view_after_close n me q.client }))) (sym many)
      (by_test (is_under_way v && length v.taken == length (sources v.scheme (length places) me)) refl)
