-- The rule, after a place was replaced by one with the same ledger.
use Rattle.std.proofs.Common.{◌≡◌, ℕ, List, length, map, sym, ap, ◌∙◌, subst₂}
use Rattle.std.specs.Prelude.{slice_set}
use Rattle.std.proofs.lemmas.List.{length-set, map-set, set-get_or}
use mathlib.Core.Option.{some}
use lib.ListN.{get_elem?}
use Rattle.kit_ground.specs.declared.place.Place.{Place}
use Rattle.kit_ground.specs.Memory.{Memory}
use Rattle.kit_ground.proofs.PlaceSteps.{each_after}
use Rattle.kit_rounds.specs.Ledgers.{Ledger, blank, in_list}
use Rattle.kit_rounds.specs.Rule.{RoundRule}
use Rattle.kit_lbts.specs.declared.view.LbtsView.{LbtsView}
use Rattle.kit_lbts.specs.Promises.{ledger_of, ledgers_of}
use Rattle.kit_lbts.specs.Registers.{Registers, Learnt}
use Rattle.kit_lbts.specs.Ways.{WayBetween}
use Rattle.kit_lbts.specs.Rule.{FederateRule, LbtsRule}
use Rattle.kit_lbts.proofs.RoundSteps.{ledger_before}

module _ (m : Memory) (places : List (Place LbtsView)) (j : ℕ) (p q : Place LbtsView) (at : get_elem? places j ≡ some p) (rule : LbtsRule m places) (same : ledger_of q ≡ ledger_of p) where
  abbrev after : List (Place LbtsView)
  after = slice_set places j q

  ledgers_same : ledgers_of after ≡ ledgers_of places
  ledgers_same =
      ap in_list
      (map-set ledger_of places j q ∙ ap (λ l. slice_set (map ledger_of places) j l) (same ∙ sym (ledger_before places j p q at)) ∙ set-get_or (map ledger_of places) j blank)

  as_before : (P : ℕ → (ℕ → Ledger) → Type 0) → P (length places) (ledgers_of places) → P (length after) (ledgers_of after)
  as_before P h = subst₂ P (sym (length-set places j q)) (sym ledgers_same) h

  seated_after : (i : ℕ) (r : Place LbtsView) → FederateRule m places i r → FederateRule m after i r
  seated_after i r h = record {
    registers = as_before (λ n ls. Registers m n ls i r) h.registers;
    learnt = as_before (λ n ls. Learnt n ls i r) h.learnt;
    letters = h.letters;
    holdings = h.holdings;
    queue = h.queue;
    heard = h.heard;
    granting = h.granting;
    sends = h.sends;
  }

  pub replaced : (q.client.federation ≡ p.client.federation) × (q.client.scheme ≡ p.client.scheme) × (q.own.buffers ≡ p.own.buffers)
      → FederateRule m places j q → ((i : ℕ) (r : Place LbtsView) → get_elem? places i ≡ some r → WayBetween m i j r p → WayBetween m i j r q) → ((i : ℕ) (r : Place LbtsView) → WayBetween m j i p r → WayBetween m j i q r)
      → (WayBetween m j j p p → WayBetween m j j q q) → LbtsRule m after
  replaced kept mine into out own = record {
    common = record {
      federation = rule.common.federation;
      scheme = rule.common.scheme;
      sound = rule.common.sound;
      many = length-set places j q ∙ rule.common.many;
      each = each_after (λ i r. (r.client.federation ≡ rule.common.federation) × (r.client.scheme ≡ rule.common.scheme) × (r.own.buffers ≡ rule.common.federation.buffers)) places j q
          (let h = rule.common.each j p at in (kept.0 ∙ h.0, kept.1 ∙ h.1, kept.2 ∙ h.2))
          (λ i r ne there. rule.common.each i r there);
    };
    each = each_after (λ i r. FederateRule m after i r) places j q (seated_after j q mine) (λ i r ne there. seated_after i r (rule.each i r there));
    ways = λ a b x y first second.
        each_after (λ i r. (k : ℕ) (s : Place LbtsView) → get_elem? after k ≡ some s → WayBetween m i k r s) places j q
        (each_after (λ k s. WayBetween m j k q s) places j q (own (rule.ways j j p p at at)) (λ k s ne there. out k s (rule.ways j k p s at there)))
        (λ i r ne here. each_after (λ k s. WayBetween m i k r s) places j q (into i r here (rule.ways i j r p here at)) (λ k s other there. rule.ways i k r s here there))
        a x first b y second;
    rounds = (rule.rounds.0, as_before (λ n ls. RoundRule n ls rule.rounds.0) rule.rounds.1);
  }
