-- What is known of a round has room in a word.
use Rattle.std.proofs.Common.{◌≡◌, ℕ, suc, ◌+◌, ◌*◌, ◌-◌, ◌<◌, ◌≤◌, ◌==◌, not, inl, inr, Bool, true, false, cond, List, [], ◌∷◌, fold, length, take, get_or, refl, sym, ap, ◌∙◌, subst, arith, eq-eqb}
use Rattle.std.specs.List.{filter}
use Rattle.std.proofs.lemmas.Bool.{cases_lt, eqb-true}
use Rattle.std.proofs.lemmas.List.{length-map, take_all, get_or-map}
use Rattle.kit_ground.specs.declared.place.Place.{Place}
use Rattle.kit_ground.specs.Memory.{Memory}
use Rattle.kit_ground.specs.Rules.{World}
use Rattle.kit_ground.proofs.Lists.{at_inside, at_or}
use Rattle.kit_model.specs.declared.share.Share.{Share}
use Rattle.kit_model.specs.Blocks.{everybody, stages, width}
use Rattle.kit_model.specs.Shares.{FitsWord, share_sum}
use Rattle.kit_rounds.specs.Ledgers.{Ledger, at_round, nothing}
use Rattle.kit_rounds.specs.Rounds.{HasContributed}
use Rattle.kit_lbts.specs.declared.view.Scheme.{Scheme}
use Rattle.kit_lbts.specs.declared.view.Scheme.TheVariants.{Flat, Butterfly}
use Rattle.kit_lbts.specs.declared.view.LbtsView.{LbtsView}
use Rattle.kit_lbts.specs.Progress.{own_share}
use Rattle.kit_lbts.specs.Promises.{ledgers_of, result_at, unknown}
use Rattle.kit_lbts.specs.Reduction.{Source, back_stage, handed_back, has_outer, shares_needed, published_share, publishes, share_stage, share_with_taken, source, sources}
use Rattle.kit_lbts.specs.Registers.{IsKnown, IsPlace, Learnt, shares_at}
use Rattle.kit_lbts.specs.Rule.{lbts_rule}
use Rattle.kit_lbts.proofs.Fitting.{counts_few, value_fits}
use Rattle.kit_lbts.proofs.Gathering.{few_stages, shift}
use Rattle.kit_lbts.proofs.GrantAgreement.{without_agreement}
use Rattle.kit_lbts.proofs.RoundSteps.{ledger_before}
use Rattle.kit_lbts.proofs.StageFacts.{stage_known}
use Rattle.kit_fly.specs.Rounds.{FollowsRound, RoundState, all_registers}
use Rattle.kit_lbts.specs.SeatLaws.{IsInWorld}
use Rattle.kit_fly.proofs.Slots.{many_values, values_published}
use Rattle.kit_fly.proofs.Sources.{flat_long, inner_is, inner_long, outer_is, outer_long}

abbrev P : Type 0
P = Place LbtsView

-- shares that are joined one by one, of so many copies each
fold_few : (own : Share) (ts : List Share) → ((l : ℕ) → l < length ts → ((get_or ts l unknown).out ≤ 245760) × ((get_or ts l unknown).inn ≤ 245760))
    → ((fold share_sum own ts).out ≤ own.out + length ts * 245760) × ((fold share_sum own ts).inn ≤ own.inn + length ts * 245760) × ((fold share_sum own ts).low ≤ own.low)
fold_few own [] h = (omega arith, omega arith, omega arith)
fold_few own (t ∷ ts) h =
    let r = fold_few (share_sum own t) ts (λ l lt. h (suc l) (omega (arith, lt))) in
    let z = h 0 (omega arith) in
    (omega (arith, r.0, z.0), omega (arith, r.1, z.1), omega (arith, r.2))

module _ (p : P) (m : Memory) (places : List P) (w : World lbts_rule p m places) where
  abbrev n : ℕ
  n = length places

  abbrev j : ℕ
  j = p.own.number

  abbrev ledgers : ℕ → Ledger
  ledgers = ledgers_of places

  many : p.own.federates ≡ length places
  many = (w.floor.each p.own.number p w.here).federates

  inside : p.own.number < length places
  inside = at_inside places p.own.number p w.here

  learnt : Learnt (length places) (ledgers_of places) p.own.number p
  learnt = (w.client.each p.own.number p w.here).learnt

  -- each result
  pub result_fits : (k : ℕ) → k < length p.client.results → FitsWord (result_at p.client k)
  result_fits k lt =
      let r = learnt.results k lt in
      let place : IsPlace n j back_stage = record { there = inside; known = omega arith; inside = λ h. absurd (omega (arith, h)) } in
      subst FitsWord (sym r.0) (value_fits p m places w j back_stage k place (λ i li takes. r.1 i li))

  module _ (way : length p.client.contributions ≡ length p.client.results + 1) where
    abbrev k : ℕ
    k = length p.client.results

    own_is : own_share p.client ≡ shares_at (ledgers_of places) (length p.client.results) p.own.number
    own_is =
        let last : length p.client.contributions - 1 ≡ k = omega (arith, way) in
        ap (λ x. (get_or p.client.contributions x nothing).share) last ∙ sym (ap (λ (l : Ledger). (at_round l k).share) (ledger_before places j p p w.here))

    own_did : HasContributed (ledgers_of places p.own.number) (length p.client.results)
    own_did = let own : length (ledgers j).contributions ≡ k + 1 = ap (λ (l : Ledger). length l.contributions) (ledger_before places j p p w.here) ∙ way in omega (arith, own)

    own_fits : FitsWord (own_share p.client)
    own_fits =
        let place : IsPlace n j share_stage = record { there = inside; known = omega arith; inside = λ h. absurd (omega (arith, h)) } in
        let made : (i : ℕ) → i < n → (i == j) ≡ true → HasContributed (ledgers i) k = λ i li e. subst (λ x. HasContributed (ledgers x) k) (sym (eqb-true i j e)) own_did in
        subst FitsWord (sym own_is) (value_fits p m places w j share_stage k place made)

    -- the share that is taken in at a place of the flat scheme
    flat_few : p.client.scheme ≡ Flat → (l : ℕ) → l < length p.client.taken → ((get_or p.client.taken l unknown).out ≤ 245760) × ((get_or p.client.taken l unknown).inn ≤ 245760)
    flat_few is l lt =
        let ys : List ℕ = filter (λ x. not (x == j)) (everybody n) in
        let known = learnt.taken l lt in
        let short : l < length ys = omega (arith, lt, learnt.few, ap (λ s. length (sources s n j)) is, length-map ys (λ x. source x share_stage)) in
        let y : ℕ = get_or ys l 0 in
        let at : get_or (sources p.client.scheme n j) l (source 0 0) ≡ source y share_stage = ap (λ s. get_or (sources s n j) l (source 0 0)) is ∙ get_or-map (λ x. source x share_stage) ys l 0 (source 0 0) short in
        let told = subst (λ (s : Source). IsKnown n ledgers s.owner s.stage k (get_or p.client.taken l unknown)) at known in
        let there = told.place.there in
        let c = counts_few p m places w y (get_or places y p) (at_or places y p there) k (told.made y there (eq-eqb y y refl)) in
        subst (λ (s : Share). (s.out ≤ 245760) × (s.inn ≤ 245760)) (sym told.is) c

    flat_fits : p.client.scheme ≡ Flat → FitsWord (fold share_sum (own_share p.client) p.client.taken)
    flat_fits is =
        let f = fold_few (own_share p.client) p.client.taken (flat_few is) in
        let own = own_fits in
        let c = counts_few p m places w j p w.here k own_did in
        let short : length p.client.taken + 1 ≤ n = omega (arith, learnt.few, ap (λ s. length (sources s n j)) is, flat_long n j inside) in
        let out = ap (λ (s : Share). s.out) own_is in
        let inn = ap (λ (s : Share). s.inn) own_is in
        record {
          out_fits = omega (arith, f.0, c.0, out, short, w.floor.few);
          inn_fits = omega (arith, f.1, c.1, inn, short, w.floor.few);
          low_fits = omega (arith, f.2, own.low_fits);
        }

    -- within the butterfly
    inner_fits : p.client.scheme ≡ Butterfly → p.own.number < width (length places) → length p.client.taken < length (sources Butterfly (length places) p.own.number) → FitsWord (fold share_sum (own_share p.client) p.client.taken)
    inner_fits is within less =
        let t : ℕ = length p.client.taken in
        let f : ℕ = shift (has_outer n j) in
        let long = inner_long n j within in
        elim (cases_lt t f) [
          | inl before ↦ subst (λ (l : List Share). FitsWord (fold share_sum (own_share p.client) l)) (sym (none_yet (omega (arith, before, one_or_none (has_outer n j))))) own_fits
          | inr after ↦
              let s : ℕ = t - f in
              let last : s < stages n = omega (arith, after, less, long) in
              let early : s < 4 = omega (arith, last, few_stages n (omega (arith, inside)) w.floor.few) in
              let does : publishes p.client.scheme n j s ≡ true = ap (λ c. publishes c n j s) is ∙ values_published n j s early within (inr last) in
              let all : shares_needed p.client.scheme n j s ≡ t = ap (λ c. shares_needed c n j s) is ∙ (many_values n j s (λ e. omega (arith, e, early)) (λ e. omega (arith, e, early)) ∙ omega (arith, after)) in
              let known = stage_known places j p w.here w.floor.few learnt way s early does (omega (arith, all)) (value_fits p m places w) in
              let same : published_share p.client.scheme n j (own_share p.client) p.client.taken s ≡ fold share_sum (own_share p.client) p.client.taken =
              ap (λ x. share_with_taken p.client.scheme n j (own_share p.client) (take x p.client.taken)) all
              ∙ (ap (share_with_taken p.client.scheme n j (own_share p.client)) (take_all t p.client.taken (omega arith))
              ∙ (ap (λ c. share_with_taken c n j (own_share p.client) p.client.taken) is
              ∙ ap (λ b. cond b (handed_back (own_share p.client) p.client.taken) (fold share_sum (own_share p.client) p.client.taken)) (inner_is n j within))) in
              subst FitsWord same known.fits
        ]
      where
        one_or_none : (b : Bool) → shift b ≤ 1
        one_or_none true = omega arith
        one_or_none false = omega arith

        none_yet : length p.client.taken ≡ 0 → p.client.taken ≡ []
        none_yet e = by_list p.client.taken e
          where
            by_list : (l : List Share) → length l ≡ 0 → l ≡ []
            by_list [] h = refl
            by_list (x ∷ xs) h = absurd (omega (arith, h))

    -- what was gathered of the round
    pub gathered_fits : (scheme : Scheme) → p.client.scheme ≡ scheme → length p.client.taken < length (sources scheme (length places) p.own.number)
        → FitsWord (share_with_taken scheme (length places) p.own.number (own_share p.client) p.client.taken)
    gathered_fits Flat is less = flat_fits is
    gathered_fits Butterfly is less = elim (cases_lt j (width n)) [
      | inl within ↦
          subst FitsWord (sym (ap (λ b. cond b (handed_back (own_share p.client) p.client.taken) (fold share_sum (own_share p.client) p.client.taken)) (inner_is n j within))) (inner_fits is within less)
      | inr out ↦
          subst FitsWord (sym (ap (λ b. cond b (handed_back (own_share p.client) p.client.taken) (fold share_sum (own_share p.client) p.client.taken)) (outer_is n j out)))
          (first p.client.taken (omega (arith, less, outer_long n j out)))
    ]
      where
        first : (l : List Share) → length l ≡ 0 → FitsWord (handed_back (own_share p.client) l)
        first [] h = own_fits
        first (x ∷ xs) h = absurd (omega (arith, h))

-- the value that a reduction keeps
pub value_fits_word : (scheme : Scheme) (k : RoundState) (p : P) → FollowsRound scheme k p → IsInWorld p → FitsWord k.value
value_fits_word scheme k p f world =
    let m = world.0 in
    let places = world.1 in
    let w = without_agreement p m places world.2 in
    let many : k.federates ≡ length places = sym f.federates ∙ (w.floor.each p.own.number p w.here).federates in
    let number : k.number ≡ p.own.number = sym f.number in
    elim (cases_lt k.taken (all_registers scheme k)) [
      | inl less ↦
          let u = f.under_way less in
          let value : k.value ≡ share_with_taken scheme (length places) p.own.number (own_share p.client) p.client.taken =
          u.value ∙ (λ i. share_with_taken scheme (many i) (number i) (own_share p.client) p.client.taken) in
          let all : all_registers scheme k ≡ length (sources scheme (length places) p.own.number) = λ i. length (sources scheme (many i) (number i)) in
          subst FitsWord (sym value) (gathered_fits p m places w (omega (arith, u.results, f.round)) scheme f.scheme_is (omega (arith, u.taken, less, all)))
      | inr ge ↦
          let c = f.closed (omega (arith, ge, f.few)) in
          subst FitsWord (sym c.value) (result_fits p m places w (k.round - 1) (omega (arith, c.results, f.started)))
    ]
