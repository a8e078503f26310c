-- What a look at a register teaches.
use Rattle.std.proofs.Common.{◌≡◌, ◌≢◌, ℕ, zero, suc, ◌+◌, ◌-◌, ◌*◌, ◌/◌, ◌%◌, ◌^◌, ◌<◌, ◌≤◌, inl, inr, ◌⊎◌, true, List, length, get_or, arith, sym, ap, ◌∙◌, subst}
use mathlib.Core.Option.{some}
use lib.ListN.{get_elem?}
use Rattle.kit_ground.specs.declared.address.Address.TheVariants.{Register}
use Rattle.kit_ground.specs.declared.place.Place.{Place}
use Rattle.kit_ground.specs.Memory.{Memory}
use Rattle.kit_ground.proofs.Lists.{at_or, at_inside}
use Rattle.kit_model.specs.declared.share.Share.{Share}
use Rattle.kit_model.specs.Shares.{share_of}
use Rattle.kit_model.proofs.Packing.{shares_come_back_law}
use Rattle.kit_rounds.specs.Ledgers.{Ledger}
use Rattle.kit_lbts.specs.declared.view.LbtsView.{LbtsView}
use Rattle.kit_lbts.specs.Promises.{ledgers_of}
use Rattle.kit_lbts.specs.Reduction.{publishes, sources, source}
use Rattle.kit_lbts.specs.Registers.{word_at, IsKnown, ShowsRound, Registers}
use Rattle.kit_lbts.specs.LookLaws.{Shows, LooksTeach}
use Rattle.kit_lbts.proofs.Places.{sources_are_published}
use Rattle.kit_lbts.proofs.RoundSteps.{ledger_before}

-- a word shows its round modulo 8
pub shown_tag : (n : ℕ) (ledgers : ℕ → Ledger) (owner stage round word : ℕ) → ShowsRound n ledgers owner stage round word → word / 2 ^ 61 ≡ round % 8
shown_tag n ledgers owner stage zero word h = ap (λ w. w / 2 ^ 61) h
shown_tag n ledgers owner stage (suc k) word h =
    ap (λ w. w / 2 ^ 61) h.1 ∙ ap (λ (x : Share × ℕ). x.1) (shares_come_back_law h.0 (suc k) h.2.fits)

-- so it tells the share of that round
shown_share : (n : ℕ) (ledgers : ℕ → Ledger) (owner stage k word : ℕ) → ShowsRound n ledgers owner stage (suc k) word → IsKnown n ledgers owner stage k (share_of word).0
shown_share n ledgers owner stage k word h =
    let is : (share_of word).0 ≡ h.0 = ap (λ w. (share_of w).0) h.1 ∙ ap (λ (x : Share × ℕ). x.0) (shares_come_back_law h.0 (suc k) h.2.fits) in
    subst (IsKnown n ledgers owner stage k) (sym is) h.2

-- it does not show the last round of its parity before
pub not_before : (c : ℕ) → 1 ≤ c → c % 8 ≢ (c - 2) % 8
not_before c one e = omega (arith, e)

module _ (m : Memory) (places : List (Place LbtsView)) (owner stage k : ℕ) (q : Place LbtsView) (at : get_elem? places owner ≡ some q) (shows : Shows m places)
    (does : publishes q.client.scheme (length places) owner stage ≡ true) (known : stage < 6) where
  abbrev n : ℕ
  n = length places

  abbrev ledgers : ℕ → Ledger
  ledgers = ledgers_of places

  registers : Registers m n ledgers owner q
  registers = shows.each owner q at

  -- the word of the round after k others, where its owner has contributed to k, k + 1 or k + 2 rounds
  shown_now : word_at m owner stage (suc k) / 2 ^ 61 ≡ suc k % 8 → length q.client.contributions ≡ suc k → ShowsRound n ledgers owner stage (suc k) (word_at m owner stage (suc k))
  shown_now tag e =
      elim (subst (λ c. ShowsRound n ledgers owner stage c (word_at m owner stage c) ⊎ ShowsRound n ledgers owner stage (c - 2) (word_at m owner stage c)) e (registers.now stage known does)) [
        | inl h ↦ h
        | inr h ↦ absurd (not_before (suc k) (omega arith) (sym tag ∙ shown_tag n ledgers owner stage (suc k - 2) (word_at m owner stage (suc k)) h))
      ]

  shown_behind : word_at m owner stage (suc k) / 2 ^ 61 ≡ suc k % 8 → length q.client.contributions ≡ k → ShowsRound n ledgers owner stage (suc k) (word_at m owner stage (suc k))
  shown_behind tag e =
      let next : k + 1 ≡ suc k = omega arith in
      let two : suc k - 2 ≡ k - 1 = omega arith in
      let h : ShowsRound n ledgers owner stage (k - 1) (word_at m owner stage (suc k)) =
      subst (λ r. ShowsRound n ledgers owner stage (k - 1) (word_at m owner stage r)) next
      (subst (λ c. ShowsRound n ledgers owner stage (c - 1) (word_at m owner stage (c + 1))) e (registers.before stage known does)) in
      absurd (not_before (suc k) (omega arith) (sym tag ∙ shown_tag n ledgers owner stage (k - 1) (word_at m owner stage (suc k)) h ∙ ap (λ r. r % 8) (sym two)))

  shown_ahead : length q.client.contributions ≡ suc (suc k) → ShowsRound n ledgers owner stage (suc k) (word_at m owner stage (suc k))
  shown_ahead e =
      let last : suc (suc k) - 1 ≡ suc k = omega arith in
      let parity : (suc (suc k) + 1) % 2 ≡ suc k % 2 = omega arith in
      let h = subst (λ c. ShowsRound n ledgers owner stage (c - 1) (word_at m owner stage (c + 1))) e (registers.before stage known does) in
      let same : word_at m owner stage (suc (suc k) + 1) ≡ word_at m owner stage (suc k) = ap (λ t. m (Register (record { owner = owner; slot = t * 6 + stage }))) parity in
      subst (λ w. ShowsRound n ledgers owner stage (suc k) w) same (subst (λ r. ShowsRound n ledgers owner stage r (word_at m owner stage (suc (suc k) + 1))) last h)

  -- whoever has contributed to k + 1 rounds, the owner of a place has to k, k + 1 or k + 2
  pub shown : (j : ℕ) (p : Place LbtsView) → get_elem? places j ≡ some p → length p.client.contributions ≡ suc k
      → word_at m owner stage (suc k) / 2 ^ 61 ≡ suc k % 8 → ShowsRound n ledgers owner stage (suc k) (word_at m owner stage (suc k))
  shown j p here mine tag =
      let rounds = shows.rounds.1.rounds in
      let own : length (ledgers j).contributions ≡ suc k = ap (λ (l : Ledger). length l.contributions) (ledger_before places j p p here) ∙ mine in
      let other : length (ledgers owner).contributions ≡ length q.client.contributions = ap (λ (l : Ledger). length l.contributions) (ledger_before places owner q q at) in
      let j_in : j < n = at_inside places j p here in
      let o_in : owner < n = at_inside places owner q at in
      elim (rounds.counted j j_in) [
        | inl a ↦ elim (rounds.counted owner o_in) [
          | inl b ↦ shown_now tag (omega (arith, a, b, own, other))
          | inr b ↦ shown_ahead (omega (arith, a, b, own, other))
        ]
        | inr a ↦ elim (rounds.counted owner o_in) [
          | inl b ↦ shown_behind tag (omega (arith, a, b, own, other))
          | inr b ↦ shown_now tag (omega (arith, a, b, own, other))
        ]
      ]

pub looks_teach : LooksTeach
looks_teach m places j p here shows learnt way more tag =
    let n = length places in
    let k = length p.client.results in
    let s = get_or (sources p.client.scheme n j) (length p.client.taken) (source 0 0) in
    let place = sources_are_published p.client.scheme n j (length p.client.taken) (at_inside places j p here) shows.few more in
    let q = get_or places s.owner p in
    let at = at_or places s.owner p place.0.there in
    let scheme : q.client.scheme ≡ p.client.scheme = (shows.common.each s.owner q at).1 ∙ sym (shows.common.each j p here).1 in
    let does = ap (λ t. publishes t n s.owner s.stage) scheme ∙ place.1 in
    let c : length p.client.contributions ≡ suc k = omega (arith, way) in
    let tagged : word_at m s.owner s.stage (suc k) / 2 ^ 61 ≡ suc k % 8 = subst (λ r. word_at m s.owner s.stage r / 2 ^ 61 ≡ r % 8) c tag in
    let told = shown_share n (ledgers_of places) s.owner s.stage k (word_at m s.owner s.stage (suc k)) (shown m places s.owner s.stage k q at shows does place.0.known j p here c tagged) in
    subst (λ r. IsKnown n (ledgers_of places) s.owner s.stage k (share_of (word_at m s.owner s.stage r)).0) (sym c) told
