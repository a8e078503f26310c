-- What the start of a round leads to.
use Rattle.std.proofs.Common.{◌≡◌, ℕ, ◌+◌, ◌-◌, ◌*◌, ◌%◌, ◌<◌, ◌==◌, inl, inr, Bool, true, false, cond, [], ◌∷◌, ◌++◌, length, get_or, set, refl, sym, ap, subst, ◌∙◌, arith, eq-eqb, get_or-set_other}
use Rattle.std.proofs.lemmas.Bool.{cases_lt, eqb-true, ne_eqb}
use Rattle.std.proofs.lemmas.List.{length-set, length_push, get_or_push}
use Rattle.std.specs.Prelude.{slice_index, Option, Some, None}
use Rattle.kit_ground.specs.declared.address.Address.TheVariants.{Register}
use Rattle.kit_ground.specs.declared.place.Deed.TheVariants.{Published}
use Rattle.kit_ground.specs.declared.place.Place.{Place}
use Rattle.kit_ground.specs.Rules.{Keeps}
use Rattle.kit_ground.specs.Steps.{place_after}
use Rattle.kit_model.specs.declared.share.Share.{Share}
use Rattle.kit_model.specs.Blocks.{width}
use Rattle.kit_model.specs.Shares.{FitsWord, Shows, share_word}
use Rattle.kit_rounds.specs.declared.contribution.Contribution.{Contribution}
use Rattle.kit_rounds.specs.Ledgers.{nothing}
use Rattle.kit_lbts.specs.declared.view.Scheme.{Scheme}
use Rattle.kit_lbts.specs.declared.view.Scheme.TheVariants.{Flat, Butterfly}
use Rattle.kit_lbts.specs.declared.view.LbtsView.{LbtsView}
use Rattle.kit_lbts.specs.Agreement.{agreeing_rule}
use Rattle.kit_lbts.specs.LedgerLaws.{ready_place}
use Rattle.kit_lbts.specs.Progress.{own_share, view_after, view_after_close, view_after_close_if_flat, view_after_contribution, view_after_publish, view_after_start, view_when_ready}
use Rattle.kit_lbts.specs.Promises.{next_contribution, result_at, unknown}
use Rattle.kit_lbts.specs.Reduction.{has_outer, is_outer, reg_of, share_stage, share_with_taken, sources}
use Rattle.kit_lbts.specs.Views.{is_new}
use Rattle.kit_lbts.proofs.Gathering.{shift}
use Rattle.kit_lbts.proofs.SeatFacts.{next_shares_fit}
use Rattle.kit_lbts.proofs.WithAgreement.{contributions_agree}
use Rattle.kit_fly.specs.Rounds.{FollowsRound, LeavesSeat, LeavesSlots, RoundState, SlotsShowRound, all_registers, shown_word}
use Rattle.kit_fly.specs.Starts.{LooksNowhere, MayStart, view_started}
use Rattle.kit_fly.specs.Shows.{HoldsValue, IsPublished, ShowsDue}
use Rattle.kit_fly.specs.Stages.{IsDue, IsDueSlot}
use Rattle.kit_lbts.specs.SeatLaws.{IsInWorld}
use Rattle.kit_fly.proofs.Polls.{left_on, other_slot, own_in, publish_left, shows_due, this_slot, word_shows}
use Rattle.kit_fly.proofs.Slots.{published_is, value_due}
use Rattle.kit_fly.proofs.Sources.{inner_long, outer_long}
use Rattle.kit_fly.proofs.Views.{closes_no_part, closes_whole, under_way_is, view_closed}

abbrev P : Type 0
P = Place LbtsView

-- the state with which a round begins
abbrev pub state_at_start : RoundState → ℕ → Share → RoundState
state_at_start k round share = record { federates = k.federates; number = k.number; round = round; value = share; taken = 0 }

-- the view with the contribution, before anything is closed
abbrev pub opened : P → LbtsView
opened p = let q = ready_place p in record q.client { contributions = q.client.contributions ++ next_contribution q ∷ []; taken = [] }

-- the start's rules leave the rounds
ready_keeps : {A : Type 0} (f : LbtsView → A) (j : ℕ) (v : LbtsView) → f (view_after_start j v) ≡ f v → f (view_when_ready j v) ≡ f v
ready_keeps f j v e = by_case (is_new v.request)
  where
    by_case : (b : Bool) → f (cond b (view_after_start j v) v) ≡ f v
    by_case true = e
    by_case false = refl

none_taken : (scheme : Scheme) (n x : ℕ) (own : Share) → share_with_taken scheme n x own [] ≡ own
none_taken Flat n x own = refl
none_taken Butterfly n x own = by_case (is_outer n x)
  where
    by_case : (b : Bool) → cond b own own ≡ own
    by_case true = refl
    by_case false = refl

abbrev Kept : P → ℕ × ℕ × Share → Type 0
Kept p x = Keeps agreeing_rule view_after p (Register (reg_of x.0 share_stage x.1)) (λ _. Published (reg_of x.0 share_stage x.1) (share_word x.2 x.1))

share_view : (round stage : ℕ) (g u w v : LbtsView) → stage ≡ 4 → let slot = round % 2 * 6 + stage in cond (slot == 12) g (cond (slot % 6 == share_stage) u (cond (slot % 6 == 0) w v)) ≡ u
share_view round stage g u w v four =
    let slot = round % 2 * 6 + stage in
    ap (λ t. cond t g (cond (slot % 6 == share_stage) u (cond (slot % 6 == 0) w v))) (ne_eqb slot 12 (λ e. omega (arith, e, four)))
    ∙ ap (λ t. cond t u (cond (slot % 6 == 0) w v)) (eq-eqb (slot % 6) share_stage (omega (arith, four)))

first_view : (round : ℕ) (g u w v : LbtsView) → let slot = round % 2 * 6 + 0 in cond (slot == 12) g (cond (slot % 6 == share_stage) u (cond (slot % 6 == 0) w v)) ≡ w
first_view round g u w v =
    let slot = round % 2 * 6 + 0 in
    ap (λ t. cond t g (cond (slot % 6 == share_stage) u (cond (slot % 6 == 0) w v))) (ne_eqb slot 12 (λ e. omega (arith, e)))
    ∙ (ap (λ t. cond t u (cond (slot % 6 == 0) w v)) (ne_eqb (slot % 6) share_stage (λ e. omega (arith, e)))
    ∙ ap (λ t. cond t w v) (eq-eqb (slot % 6) 0 (omega arith)))

module _ (scheme : Scheme) (k : RoundState) (round : ℕ) (share : Share) (p : P) (may : MayStart scheme k round share p) where
  abbrev k1 : RoundState
  k1 = state_at_start k round share

  -- the own share may be published
  pub start_kept : Keeps agreeing_rule view_after p (Register (reg_of k.number share_stage round)) (λ _. Published (reg_of k.number share_stage round) (share_word share round))
  start_kept =
      let at : (p.own.number, length p.client.contributions + 1, (next_contribution (ready_place p)).share) ≡ (k.number, round, share) = λ i. (may.number i, sym may.next i, sym may.share_is i) in
      subst (Kept p) at (contributions_agree p may.closed may.shows may.whole may.numbers)

  scheme_opened : (opened p).scheme ≡ scheme
  scheme_opened = ready_keeps (λ (v : LbtsView). v.scheme) p.own.number p.client refl ∙ may.scheme_is

  results_opened : length (opened p).results ≡ length p.client.results
  results_opened = ready_keeps (λ (v : LbtsView). length v.results) p.own.number p.client refl

  contributions_ready : length (ready_place p).client.contributions ≡ length p.client.contributions
  contributions_ready = ready_keeps (λ (v : LbtsView). length v.contributions) p.own.number p.client refl

  contributions_opened : length (opened p).contributions ≡ round
  contributions_opened =
      let a = length_push (ready_place p).client.contributions (next_contribution (ready_place p)) in
      let b = contributions_ready in
      let c = may.next in
      omega (arith, a, b, c)

  own_opened : own_share (opened p) ≡ share
  own_opened =
      let a = contributions_opened in
      let b = contributions_ready in
      let c = may.next in
      let at : length (ready_place p).client.contributions ≡ length (opened p).contributions - 1 = omega (arith, a, b, c) in
      ap (λ (x : Contribution). x.share) (get_or_push (ready_place p).client.contributions (next_contribution (ready_place p)) nothing (length (opened p).contributions - 1) at) ∙ sym may.share_is

  all_opened : length (sources (opened p).scheme p.own.federates p.own.number) ≡ all_registers scheme k
  all_opened = λ i. length (sources (scheme_opened i) (may.federates i) (may.number i))

  results_before : length p.client.results + 1 ≡ round
  results_before = let a = may.closed in let b = may.next in omega (arith, a, b)

  value_opened : share ≡ share_with_taken scheme k.federates k.number (own_share (opened p)) []
  value_opened = sym own_opened ∙ sym (none_taken scheme k.federates k.number (own_share (opened p)))

  -- a place with that view follows the round
  pub follows_opened : (r : P) → r.own.federates ≡ p.own.federates → r.own.number ≡ p.own.number → 0 < all_registers scheme k → r.client ≡ opened p → FollowsRound scheme (state_at_start k round share) r
  follows_opened r federates number some same = record {
    scheme_is = (λ i. (same i).scheme) ∙ scheme_opened;
    federates = federates ∙ may.federates;
    number = number ∙ may.number;
    started = let n = may.next in omega (arith, n);
    round = (λ i. length (same i).contributions) ∙ contributions_opened;
    few = omega arith;
    under_way = λ _. record {
      results = (λ i. length (same i).results + 1) ∙ (ap (λ x. x + 1) results_opened ∙ results_before);
      taken = λ i. length (same i).taken;
      value = value_opened ∙ sym (λ i. share_with_taken scheme k.federates k.number (own_share (same i)) (same i).taken);
    };
    closed = λ e. absurd (omega (arith, e, some));
  }

  follows_closed : (r : P) → r.own.federates ≡ p.own.federates → r.own.number ≡ p.own.number → all_registers scheme k ≡ 0 → r.client ≡ view_started p → FollowsRound scheme (state_at_start k round share) r
  follows_closed r federates number none view =
      let n = p.own.federates in
      let x = p.own.number in
      let v = opened p in
      let way = under_way_is v (let a = contributions_opened in let b = results_opened in let c = results_before in omega (arith, a, b, c)) in
      let same : r.client ≡ view_closed n x v = view ∙ closes_whole n x v way (let a = all_opened in omega (arith, a, none)) in
      let last : Share = share_with_taken v.scheme n x (own_share v) [] in
      let last_is : last ≡ share = (λ i. share_with_taken (scheme_opened i) (may.federates i) (may.number i) (own_share v) []) ∙ sym value_opened in
      let many = length_push v.results last in
      let before = results_before in
      let opened_results = results_opened in
      record {
        scheme_is = (λ i. (same i).scheme) ∙ scheme_opened;
        federates = federates ∙ may.federates;
        number = number ∙ may.number;
        started = let n = may.next in omega (arith, n);
        round = (λ i. length (same i).contributions) ∙ contributions_opened;
        few = omega arith;
        under_way = λ lt. absurd (omega (arith, lt, none));
        closed = λ _. record {
          results = (λ i. length (same i).results) ∙ omega (arith, many, before, opened_results);
          value = sym last_is ∙ (sym (get_or_push v.results last unknown (round - 1) (omega (arith, before, opened_results))) ∙ sym (λ i. result_at (same i) (round - 1)));
        };
      }

  -- where there is nobody else, nothing is to be taken in; otherwise nothing is closed
  pub started_is_opened : 0 < all_registers scheme k → view_started p ≡ opened p
  started_is_opened some = closes_no_part p.own.federates p.own.number (opened p) (λ e. let a = all_opened in omega (arith, a, e, some))

  pub follows_start : (r : P) → r.own.federates ≡ p.own.federates → r.own.number ≡ p.own.number → r.client ≡ view_started p → FollowsRound scheme (state_at_start k round share) r
  follows_start r federates number view = elim (cases_lt 0 (all_registers scheme k)) [
    | inl some ↦ follows_opened r federates number some (view ∙ started_is_opened some)
    | inr none ↦ follows_closed r federates number (omega (arith, none)) view
  ]

  -- ---- the place after the share is published
  abbrev pub shared : P
  shared = place_after view_after (Published (reg_of k.number share_stage round) (share_word share round)) p

  contributes : view_after_publish (reg_of k.number share_stage round) (share_word share round) p ≡ view_after_close_if_flat (opened p).scheme p.own.federates p.own.number (opened p)
  contributes = share_view round 4 _ (view_after_contribution (ready_place p)) _ p.client refl

  pub shared_word : length p.own.shown ≡ 13 → shown_word (state_at_start k round share) (place_after view_after (Published (reg_of k.number share_stage round) (share_word share round)) p) share_stage ≡ share_word share round
  shared_word long = this_slot k1 p (share_word share round) 4 long (omega arith)

-- ---- the flat scheme
module _ (k : RoundState) (round : ℕ) (share : Share) (p : P) (may : MayStart Flat k round share p) where
  pub flat_view : view_after_publish (reg_of k.number share_stage round) (share_word share round) p ≡ view_started p
  flat_view = contributes Flat k round share p may ∙ ap (λ s. view_after_close_if_flat s p.own.federates p.own.number (opened p)) (scheme_opened Flat k round share p may)

  pub flat_slots : FitsWord share → length p.own.shown ≡ 13 → SlotsShowRound Flat (state_at_start k round share) (place_after view_after (Published (reg_of k.number share_stage round) (share_word share round)) p)
  flat_slots fits long stage known does le =
      let four : 4 ≡ stage = sym (eqb-true stage share_stage does) in
      subst (λ s. Shows (shown_word (state_at_start k round share) (shared Flat k round share p may) s) round) four
      (subst (λ w. Shows w round) (sym (shared_word Flat k round share p may long)) (word_shows share round fits))

  pub flat_leaves : LeavesSlots Flat (state_at_start k round share) (λ many. many ≡ 0) p (place_after view_after (Published (reg_of k.number share_stage round) (share_word share round)) p)
  flat_leaves slot lt avoid = get_or-set_other p.own.shown (reg_of k.number share_stage round).slot slot (share_word share round) 0 (avoid 4 (omega arith) refl refl)

-- ---- the butterfly
module _ (k : RoundState) (round : ℕ) (share : Share) (p : P) (may : MayStart Butterfly k round share p) where
  abbrev k2 : RoundState
  k2 = state_at_start k round share

  abbrev q : P
  q = shared Butterfly k round share p may

  q_view : (place_after view_after (Published (reg_of k.number share_stage round) (share_word share round)) p).client ≡ opened p
  q_view = contributes Butterfly k round share p may ∙ ap (λ s. view_after_close_if_flat s p.own.federates p.own.number (opened p)) (scheme_opened Butterfly k round share p may)

  pub start_holds : k.number < k.federates → HoldsValue (state_at_start k round share) (place_after view_after (Published (reg_of k.number share_stage round) (share_word share round)) p)
  start_holds inside = record {
    scheme_is = (λ i. (q_view i).scheme) ∙ scheme_opened Butterfly k round share p may;
    federates = may.federates;
    number = may.number;
    inside = inside;
    started = let n = may.next in omega (arith, n);
    round = (λ i. length (q_view i).contributions) ∙ contributions_opened Butterfly k round share p may;
    value = inl (record {
      under_way = record {
        results = (λ i. length (q_view i).results + 1) ∙ (ap (λ x. x + 1) (results_opened Butterfly k round share p may) ∙ results_before Butterfly k round share p may);
        taken = λ i. length (q_view i).taken;
        value = value_opened Butterfly k round share p may ∙ sym (λ i. share_with_taken Butterfly k.federates k.number (own_share (q_view i)) (q_view i).taken);
      };
      before = λ lt. absurd (omega (arith, lt));
    });
  }

  -- the first stage is due, or there are registers to be taken in
  first_due : (stage : ℕ) → IsDue k.federates k.number 0 stage → stage ≡ 0
  first_due stage due =
      let now = due.now in
      elim (published_is k.federates k.number stage due.other due.published) [ inl v ↦ omega (arith, v.many, now) | inr b ↦ absurd (omega (arith, b.many, now)) ]

  none_due : IsDueSlot k.federates k.number 0 None → 0 < all_registers Butterfly k
  none_due none = elim (cases_lt k.number (width k.federates)) [
    | inl inside ↦ elim (cases_lt 0 (shift (has_outer k.federates k.number))) [
      | inl some ↦ let long = inner_long k.federates k.number inside in omega (arith, long, some)
      | inr alone ↦ let due = value_due k.federates k.number 0 0 (omega arith) inside (inl refl) (omega (arith, alone)) in absurd (none 0 due.0)
    ]
    | inr out ↦ let long = outer_long k.federates k.number out in omega (arith, long)
  ]

  module _ (r : P) (d : ShowsDue (state_at_start k round share) (place_after view_after (Published (reg_of k.number share_stage round) (share_word share round)) p) r) where
    pub start_view : r.client ≡ view_started p
    start_view = by_slot d.stage d.due d.place
      where
        by_slot : (o : Option ℕ) → IsDueSlot k.federates k.number 0 o → IsPublished k2 o q r → r.client ≡ view_started p
        by_slot None none is = (λ i. (is i).client) ∙ (q_view ∙ sym (started_is_opened Butterfly k round share p may (none_due none)))
        by_slot (Some a) due is =
            let first = first_due a due.0 in
            (λ i. (is i).client)
            ∙ (ap (λ x. view_after_publish (reg_of k.number x round) (share_word share round) q) first
            ∙ (first_view round _ _ (view_after_close p.own.federates p.own.number q.client) q.client
            ∙ ap (view_after_close p.own.federates p.own.number) q_view))

    pub start_left : LeavesSeat p r
    start_left = by_slot d.stage d.place
      where
        by_slot : (o : Option ℕ) → IsPublished k2 o q r → LeavesSeat p r
        by_slot None is = subst (LeavesSeat p) (sym is) (publish_left p (reg_of k.number share_stage round) (share_word share round))
        by_slot (Some a) is =
            subst (LeavesSeat p) (sym is)
            (left_on p q (place_after view_after (Published (reg_of k.number a round) (share_word share round)) q)
            (publish_left p (reg_of k.number share_stage round) (share_word share round)) (publish_left q (reg_of k.number a round) (share_word share round)))

    pub start_looks : LooksNowhere p r
    start_looks = by_slot d.stage d.place
      where
        by_slot : (o : Option ℕ) → IsPublished k2 o q r → LooksNowhere p r
        by_slot None is = record { looks = λ i. (is i).own.looks; registers = λ i. (is i).own.registers }
        by_slot (Some a) is = record { looks = λ i. (is i).own.looks; registers = λ i. (is i).own.registers }

    long_then : length p.own.shown ≡ 13 → length (set p.own.shown (reg_of k.number share_stage round).slot (share_word share round)) ≡ 13
    long_then long = length-set p.own.shown (reg_of k.number share_stage round).slot (share_word share round) ∙ long

    pub start_share : length p.own.shown ≡ 13 → shown_word (state_at_start k round share) r share_stage ≡ share_word share round
    start_share long = by_slot d.stage d.due d.place
      where
        by_slot : (o : Option ℕ) → IsDueSlot k.federates k.number 0 o → IsPublished k2 o q r → shown_word k2 r 4 ≡ share_word share round
        by_slot None none is = (λ i. shown_word k2 (is i) 4) ∙ shared_word Butterfly k round share p may long
        by_slot (Some a) due is = (λ i. shown_word k2 (is i) 4) ∙ (other_slot k2 q (share_word share round) a 4 (λ e. due.0.other (sym e)) ∙ shared_word Butterfly k round share p may long)

    pub start_slots : FitsWord share → length p.own.shown ≡ 13 → SlotsShowRound Butterfly (state_at_start k round share) r
    start_slots fits long =
        shows_due k2 q r (long_then long) fits d (subst (λ w. Shows w round) (sym (shared_word Butterfly k round share p may long)) (word_shows share round fits))
        (λ stage known does lt. absurd (omega (arith, lt)))

    pub start_leaves : LeavesSlots Butterfly (state_at_start k round share) (λ many. many ≡ 0) p r
    start_leaves slot lt avoid = by_slot d.stage d.due d.place
      where
        own : get_or (set p.own.shown (reg_of k.number share_stage round).slot (share_word share round)) slot 0 ≡ slice_index p.own.shown slot
        own = get_or-set_other p.own.shown (reg_of k.number share_stage round).slot slot (share_word share round) 0 (avoid 4 (omega arith) refl refl)

        by_slot : (o : Option ℕ) → IsDueSlot k.federates k.number 0 o → IsPublished k2 o q r → slice_index r.own.shown slot ≡ slice_index p.own.shown slot
        by_slot None none is = (λ i. slice_index (is i).own.shown slot) ∙ own
        by_slot (Some a) due is =
            (λ i. slice_index (is i).own.shown slot)
            ∙ (get_or-set_other q.own.shown (reg_of k.number a round).slot slot (share_word share round) 0 (avoid a due.0.known due.0.published due.0.now) ∙ own)

-- ---- what a start comes to
pub record StartsWell (scheme : Scheme) (k : RoundState) (round : ℕ) (share : Share) (p r : P) : Type 0 where
  pub left : LeavesSeat p r
  pub looks : LooksNowhere p r
  pub view : r.client ≡ view_started p
  pub follows : FollowsRound scheme k r
  pub share_is : shown_word k r share_stage ≡ share_word share round
  pub shown : SlotsShowRound scheme k r
  pub slots : LeavesSlots scheme k (λ many. many ≡ 0) p r

pub starting_fits : (scheme : Scheme) (k : RoundState) (round : ℕ) (share : Share) (p : P) → MayStart scheme k round share p → IsInWorld p → FitsWord share
starting_fits scheme k round share p may world = subst FitsWord (sym may.share_is) (next_shares_fit p world may.numbers)

pub flat_start : (k k' : RoundState) (round : ℕ) (share : Share) (p q : P) → MayStart Flat k round share p → IsInWorld p → k' ≡ state_at_start k round share
    → q ≡ place_after view_after (Published (reg_of k.number share_stage round) (share_word share round)) p → StartsWell Flat k' round share p q
flat_start k k' round share p q may world state at =
    let long = (own_in p world).shown in
    let fits = starting_fits Flat k round share p may world in
    let q' : P = place_after view_after (Published (reg_of k.number share_stage round) (share_word share round)) p in
    let done : StartsWell Flat (state_at_start k round share) round share p q' = record {
      left = publish_left p (reg_of k.number share_stage round) (share_word share round);
      looks = record { looks = refl; registers = refl };
      view = flat_view k round share p may;
      follows = follows_start Flat k round share p may q' refl refl (flat_view k round share p may);
      share_is = shared_word Flat k round share p may long;
      shown = flat_slots k round share p may fits long;
      slots = flat_leaves k round share p may;
    } in
    subst (λ (x : RoundState). StartsWell Flat x round share p q) (sym state) (subst (λ (x : P). StartsWell Flat (state_at_start k round share) round share p x) (sym at) done)

pub butterfly_start : (k k' : RoundState) (round : ℕ) (share : Share) (p q r : P) → MayStart Butterfly k round share p → IsInWorld p → k' ≡ state_at_start k round share
    → q ≡ place_after view_after (Published (reg_of k.number share_stage round) (share_word share round)) p → ShowsDue k' q r → StartsWell Butterfly k' round share p r
butterfly_start k k' round share p q r may world state at due =
    let long = (own_in p world).shown in
    let fits = starting_fits Butterfly k round share p may world in
    let d = subst (λ (x : P). ShowsDue (state_at_start k round share) x r) at (subst (λ (x : RoundState). ShowsDue x q r) state due) in
    let left = start_left k round share p may r d in
    let done : StartsWell Butterfly (state_at_start k round share) round share p r = record {
      left = left;
      looks = start_looks k round share p may r d;
      view = start_view k round share p may r d;
      follows = follows_start Butterfly k round share p may r left.federates left.number (start_view k round share p may r d);
      share_is = start_share k round share p may r d long;
      shown = start_slots k round share p may r d fits long;
      slots = start_leaves k round share p may r d;
    } in
    subst (λ (x : RoundState). StartsWell Butterfly x round share p r) (sym state) done
