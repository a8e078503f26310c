-- A look at any register keeps the rule.
use Rattle.std.proofs.Common.{◌≡◌, ℕ, suc, ◌+◌, ◌-◌, ◌/◌, ◌%◌, ◌^◌, ◌<◌, ◌≤◌, ◌==◌, ◌&&◌, nat_lt, inl, inr, Bool, true, false, cond, List, [], ◌∷◌, ◌++◌, length, get_or, Option, Some, None, IfSome, arith, refl, sym, ap, ◌∙◌, subst}
use Rattle.std.specs.Prelude.{slice_set}
use Rattle.std.proofs.lemmas.Bool.{cases_lt, eqb-true, ltb-true, and_parts, false≢true}
use Rattle.std.proofs.lemmas.List.{length-set, set-set, length_push, get_or_push, get_or_append_left}
use Rattle.std.proofs.lemmas.List.Sums.{fold_push}
use Rattle.std.proofs.lemmas.Option.{slice_get_within, get_or_from_slice_get}
use mathlib.Core.Option.{some}
use lib.ListN.{get_elem?}
use Rattle.kit_ground.specs.declared.address.Address.TheVariants.{Register}
use Rattle.kit_ground.specs.declared.address.Reg.{Reg}
use Rattle.kit_ground.specs.declared.place.Deed.TheVariants.{Looked}
use Rattle.kit_ground.specs.declared.place.SeatState.{SeatState}
use Rattle.kit_ground.specs.declared.place.Place.{Place}
use Rattle.kit_ground.specs.Memory.{Memory, with_word}
use Rattle.kit_ground.specs.Steps.{own_after}
use Rattle.kit_ground.specs.Rules.{World}
use Rattle.kit_ground.proofs.Memories.{stored_same}
use Rattle.atomic_table.proofs.Lists.{set_here}
use Rattle.kit_ground.proofs.Lists.{at_inside}
use Rattle.kit_model.specs.declared.share.Share.{Share}
use Rattle.kit_model.specs.Shares.{share_of}
use Rattle.kit_queue.specs.declared.entry.Entry.{Entry}
use Rattle.kit_rounds.specs.Rounds.{HasContributed, result_of, EndsRun}
use Rattle.kit_rounds.specs.Rule.{RoundRule}
use Rattle.kit_rounds.proofs.Closing.{full_rounds_close}
use Rattle.kit_rounds.proofs.Knowing.{bounds_rise}
use Rattle.kit_rounds.proofs.Lists.{weaker}
use Rattle.kit_lbts.specs.declared.view.LbtsView.{LbtsView}
use Rattle.kit_model.specs.Journals.{last_grant}
use Rattle.kit_lbts.specs.Views.{entries_of}
use Rattle.kit_lbts.specs.Promises.{ledgers_of, unknown, bound_in, bound_of}
use Rattle.kit_lbts.specs.Reduction.{Source, source, reg_of, sources, next_source, share_with_taken}
use Rattle.kit_lbts.specs.Registers.{word_at, IsKnown, Learnt}
use Rattle.kit_lbts.specs.Progress.{is_under_way, own_share, view_after_close, shows_next, view_after_look}
use Rattle.kit_lbts.specs.Rule.{FederateRule, RoundsHold, LbtsRule, lbts_rule}
use Rattle.kit_lbts.specs.LookLaws.{Shows}
use Rattle.kit_lbts.specs.StepLaws.{LooksKeep}
use Rattle.kit_lbts.proofs.Looking.{looks_teach}
use Rattle.kit_lbts.proofs.Taught.{all_taught_is_result}
use Rattle.kit_lbts.proofs.Bounds.{Ended, bound_from}
use Rattle.kit_lbts.proofs.Replacing.{replaced}

grant_below : (last : Option ℕ) (a b : ℕ) → a ≤ b → IfSome last (λ t. t < a) → IfSome last (λ t. t < b)
grant_below None a b le h = tt
grant_below (Some t) a b le h = omega (arith, h)

-- a bound is no greater than that of a round more, to which all have contributed
bound_grows : (places : List (Place LbtsView)) (j : ℕ) (results : List Share) (s : Share) → j < length places → RoundsHold places
    → ((k : ℕ) → k < length results → (get_or results k unknown ≡ result_of (length places) (ledgers_of places) k) × ((i : ℕ) → i < length places → HasContributed (ledgers_of places i) k))
    → s ≡ result_of (length places) (ledgers_of places) (length results) → ((i : ℕ) → i < length places → HasContributed (ledgers_of places i) (length results))
    → bound_in results ≤ bound_in (results ++ s ∷ [])
bound_grows places j results s j_in rounds known is all =
    let n = length places in
    let ledgers = ledgers_of places in
    let k = length results in
    let push : bound_in (results ++ s ∷ []) ≡ cond (s.out == s.inn) s.low (bound_in results) = fold_push (λ (bound : ℕ) (t : Share). cond (t.out == t.inn) t.low bound) 0 results s in
    omega (arith, push, step (s.out == s.inn) refl)
  where
    later : (done : ℕ) → RoundRule (length places) (ledgers_of places) done → length results < done → (h : Ended results (bound_in results)) → s.out ≡ s.inn → bound_in results ≤ s.low
    later done rule lt h ended =
        let before = known h.round h.within in
        let first : EndsRun (length places) (ledgers_of places) h.round = subst (λ (t : Share). t.out ≡ t.inn) before.0 h.equal in
        let second : EndsRun (length places) (ledgers_of places) (length results) = subst (λ (t : Share). t.out ≡ t.inn) is ended in
        omega (
          arith,
          h.low,
          ap (λ (t : Share). t.low) before.0,
          ap (λ (t : Share). t.low) is,
          bounds_rise (length places) done h.round (length results) (ledgers_of places) (omega arith) rule h.within lt first second,
        )

    rise : s.out ≡ s.inn → bound_in results ≤ s.low
    rise ended = elim (bound_from 0 results) [
      | inl e ↦ omega (arith, e)
      | inr h ↦ elim (cases_lt (length results) rounds.0) [
        | inl less ↦ later rounds.0 rounds.1 less h ended
        | inr ge ↦
            let same : length results ≡ rounds.0 = elim (rounds.1.rounds.counted j j_in) [ inl e ↦ omega (arith, e, all j j_in, ge) | inr e ↦ omega (arith, e, all j j_in, ge) ] in
            later (suc rounds.0) (full_rounds_close (length places) rounds.0 (ledgers_of places) rounds.1 (subst (λ d. (i : ℕ) → i < length places → HasContributed (ledgers_of places i) d) same all)) (omega (arith, same)) h ended
      ]
    ]

    step : (b : Bool) → (s.out == s.inn) ≡ b → bound_in results ≤ cond (s.out == s.inn) s.low (bound_in results)
    step true e = omega (arith, ap (λ t. cond t s.low (bound_in results)) e, rise (eqb-true s.out s.inn e))
    step false e = omega (arith, ap (λ t. cond t s.low (bound_in results)) e)

-- what a seat knows of itself, but for its looks and its registers, which the rule does not read
abbrev seat_of : SeatState → SeatState → SeatState
seat_of o x = record o { steps = x.steps; looks = x.looks; stops = x.stops; registers = x.registers; counts = x.counts; mail = x.mail; stop = x.stop; shown = x.shown; collects = x.collects }

-- the place of one who has taken in other shares and knows other results
abbrev learning : Place LbtsView → SeatState → List Share → List Share → Place LbtsView
learning p x taken results = record { own = seat_of p.own x; client = record p.client { taken = taken; results = results } }

module _ (m : Memory) (places : List (Place LbtsView)) (j : ℕ) (p : Place LbtsView) (at : get_elem? places j ≡ some p) (rule : LbtsRule m places) (x : SeatState) where
  seated : FederateRule m places j p
  seated = rule.each j p at

  pub learns : (taken results : List Share) → bound_in p.client.results ≤ bound_in results → Learnt (length places) (ledgers_of places) j (learning p x taken results) → LbtsRule m (slice_set places j (learning p x taken results))
  learns taken results le learnt =
      replaced m places j p (learning p x taken results) at rule refl (refl, refl, refl)
      (record {
        registers = let h = seated.registers in record { now = h.now; before = h.before; unused = h.unused; clock = h.clock; lows = h.lows };
        learnt = learnt;
        letters = let h = seated.letters in record { sized = h.sized; counted = h.counted; sending = λ k is. let g = h.sending k is in record { first = g.first; rest = g.rest; within = g.within; outbox = g.outbox; owed = g.owed; filled = g.filled }; others = h.others };
        holdings = let h = seated.holdings in record { each = h.each; in_hand = h.in_hand; queue = h.queue; spent = h.spent };
        queue = let h = seated.queue in record {
          ordered = h.ordered;
          apart = h.apart;
          is = h.is;
          ahead = h.ahead;
          settled = weaker (λ (e : Entry). e.buffer ≡ None → e.message.time < bound_of p.client) (λ (e : Entry). e.buffer ≡ None → e.message.time < bound_in results) p.client.queue (λ e f none. omega (arith, f none, le)) h.settled;
        };
        heard = let h = seated.heard in record { orphans = h.orphans; came = h.came; past = h.past };
        granting = let h = seated.granting in record {
          lawful = h.lawful;
          below = grant_below (last_grant (entries_of p.client)) (bound_of p.client) (bound_in results) le h.below;
          within = h.within;
          wish = h.wish;
          asked = h.asked;
        };
        sends = let h = seated.sends in record { own = h.own; numbered = h.numbered; next = h.next; timed = h.timed; takes_back = h.takes_back; waiting = h.waiting; late = h.late; transported = h.transported; behind = h.behind; once = h.once; each = h.each; receivers = h.receivers; coloured = h.coloured; few = h.few; new = h.new };
      })
      (λ i q there h. record { copies = h.copies; heads = h.heads; lies = h.lies })
      (λ i q h. record { copies = h.copies; heads = h.heads; lies = h.lies })
      (λ h. record { copies = h.copies; heads = h.heads; lies = h.lies })

  -- nothing was learnt
  pub unmoved : LbtsRule m (slice_set places j (learning p x p.client.taken p.client.results))
  unmoved =
      let h = seated.learnt in
      learns p.client.taken p.client.results (omega arith) (record { under_way = h.under_way; fresh = h.fresh; few = h.few; taken = h.taken; results = h.results })

  module _ (few : length places ≤ 16) (way : length p.client.contributions ≡ length p.client.results + 1) where
    -- one share more
    pub one_more : (s : Share) → let l = length p.client.taken in let c = get_or (sources p.client.scheme (length places) j) l (source 0 0) in
        l < length (sources p.client.scheme (length places) j) → IsKnown (length places) (ledgers_of places) c.owner c.stage (length p.client.results) s
        → LbtsRule m (slice_set places j (learning p x (p.client.taken ++ s ∷ []) p.client.results))
    one_more s more known =
        let h = seated.learnt in
        let n = length places in
        let l = length p.client.taken in
        let ss = sources p.client.scheme n j in
        learns (p.client.taken ++ s ∷ []) p.client.results (omega arith) (record {
          under_way = h.under_way;
          fresh = λ e. absurd (omega (arith, e, way));
          few = omega (arith, more, length_push p.client.taken s);
          taken = λ i lt. elim (cases_lt i l) [
            | inl less ↦
                subst (IsKnown n (ledgers_of places) (get_or ss i (source 0 0)).owner (get_or ss i (source 0 0)).stage (length p.client.results))
                (sym (get_or_append_left p.client.taken (s ∷ []) unknown i less)) (h.taken i less)
            | inr ge ↦
                let e : l ≡ i = omega (arith, lt, length_push p.client.taken s) in
                subst (λ k. IsKnown n (ledgers_of places) (get_or ss k (source 0 0)).owner (get_or ss k (source 0 0)).stage (length p.client.results) (get_or (p.client.taken ++ s ∷ []) k unknown)) e
                (subst (IsKnown n (ledgers_of places) (get_or ss l (source 0 0)).owner (get_or ss l (source 0 0)).stage (length p.client.results)) (sym (get_or_push p.client.taken s unknown l refl)) known)
          ];
          results = h.results;
        })

    -- the result
    pub closes : length p.client.taken ≡ length (sources p.client.scheme (length places) j)
        → LbtsRule m (slice_set places j (learning p x [] (p.client.results ++ share_with_taken p.client.scheme (length places) j (own_share p.client) p.client.taken ∷ [])))
    closes all =
        let h = seated.learnt in
        let n = length places in
        let k = length p.client.results in
        let g = share_with_taken p.client.scheme n j (own_share p.client) p.client.taken in
        let told = all_taught_is_result places j p at few rule.rounds h way all in
        learns [] (p.client.results ++ g ∷ []) (bound_grows places j p.client.results g (at_inside places j p at) rule.rounds h.results told.0 told.1) (record {
          under_way = inl (omega (arith, way, length_push p.client.results g));
          fresh = λ e. refl;
          few = omega arith;
          taken = λ i lt. absurd (omega (arith, lt));
          results = λ i lt. elim (cases_lt i k) [
            | inl less ↦ (get_or_append_left p.client.results (g ∷ []) unknown i less ∙ (h.results i less).0, (h.results i less).1)
            | inr ge ↦
                let e : k ≡ i = omega (arith, lt, length_push p.client.results g) in
                subst (λ t. (get_or (p.client.results ++ g ∷ []) t unknown ≡ result_of n (ledgers_of places) t) × ((i : ℕ) → i < n → HasContributed (ledgers_of places i) t)) e
                (get_or_push p.client.results g unknown k refl ∙ told.0, told.1)
          ];
        })

-- a round is under way
pub way_is : (v : LbtsView) → is_under_way v ≡ true → length v.contributions ≡ length v.results + 1
way_is v e =
    let parts = and_parts (length v.results == length v.contributions - 1) (nat_lt 0 (length v.contributions)) e in
    omega (arith, eqb-true (length v.results) (length v.contributions - 1) parts.0, ltb-true 0 (length v.contributions) parts.1)

-- the look was at the next place, and showed the round
pub record IsNext (o : Option Source) (round : ℕ) (r : Reg) (word : ℕ) : Type 0 where
  pub next : Source
  pub is : o ≡ Some next
  pub reg : r ≡ reg_of next.owner next.stage round
  pub tag : word / 2 ^ 61 ≡ round % 8

next_is : (o : Option Source) (round : ℕ) (r : Reg) (word : ℕ) → shows_next o round r word ≡ true → IsNext o round r word
next_is None round r word e = absurd (false≢true e)
next_is (Some s) round r word e =
    let g = reg_of s.owner s.stage round in
    let first = and_parts (r.owner == g.owner && r.slot == g.slot) (word / 2 ^ 61 == round % 8) e in
    let second = and_parts (r.owner == g.owner) (r.slot == g.slot) first.0 in
    record {
      next = s;
      is = refl;
      reg = ap (λ o. record r { owner = o }) (eqb-true r.owner g.owner second.0) ∙ ap (λ t. record g { slot = t }) (eqb-true r.slot g.slot second.1);
      tag = eqb-true (word / 2 ^ 61) (round % 8) first.1;
    }

module _ (p : Place LbtsView) (r : Reg) (m : Memory) (places : List (Place LbtsView)) (w : World lbts_rule p m places) where
  abbrev j : ℕ
  j = p.own.number

  abbrev n : ℕ
  n = length places

  abbrev v : LbtsView
  v = p.client

  abbrev word : ℕ
  word = m (Register r)

  abbrev then : SeatState
  then = own_after (Looked r word) p.own

  abbrev place : LbtsView → Place LbtsView
  place u = record { own = then; client = u }

  abbrev share : Share
  share = (share_of word).0

  abbrev more : LbtsView
  more = record v { taken = v.taken ++ share ∷ [] }

  -- the share is that of the next place
  shared : length v.contributions ≡ length v.results + 1 → IsNext (next_source v.scheme n j (length v.taken)) (length v.contributions) r word
      → let c = get_or (sources v.scheme n j) (length v.taken) (source 0 0) in
      (length v.taken < length (sources v.scheme n j)) × IsKnown n (ledgers_of places) c.owner c.stage (length v.results) share
  shared way h =
      let ss = sources v.scheme n j in
      let l = length v.taken in
      let within : l < length ss = slice_get_within ss l h.next h.is in
      let same : get_or ss l (source 0 0) ≡ h.next = get_or_from_slice_get ss l h.next (source 0 0) h.is in
      let reg : reg_of (get_or ss l (source 0 0)).owner (get_or ss l (source 0 0)).stage (length v.contributions) ≡ r =
      ap (λ (c : Source). reg_of c.owner c.stage (length v.contributions)) same ∙ sym h.reg in
      let found : word_at m (get_or ss l (source 0 0)).owner (get_or ss l (source 0 0)).stage (length v.contributions) ≡ word = ap (λ g. m (Register g)) reg in
      let shows : Shows m places = record { few = w.floor.few; common = w.client.common; each = λ i q there. (w.client.each i q there).registers; rounds = w.client.rounds } in (
        within,
        subst (λ x. IsKnown n (ledgers_of places) (get_or ss l (source 0 0)).owner (get_or ss l (source 0 0)).stage (length v.results) (share_of x).0) found
            (looks_teach m places j p w.here shows (w.client.each j p w.here).learnt way within (ap (λ x. x / 2 ^ 61) found ∙ h.tag)),
      )

  -- with it the round is closed or not
  closed_or_not : length v.contributions ≡ length v.results + 1 → LbtsRule m (slice_set places j (place more)) → (b : Bool)
      → (is_under_way more && length more.taken == length (sources v.scheme n j)) ≡ b
      → LbtsRule m (slice_set places j (place (cond b (record more { results = v.results ++ share_with_taken v.scheme n j (own_share more) more.taken ∷ []; taken = [] }) more)))
  closed_or_not way rule false e = rule
  closed_or_not way rule true e =
      let q = place more in
      let now = slice_set places j q in
      let j_in = at_inside places j p w.here in
      let all : length more.taken ≡ length (sources v.scheme n j) = eqb-true _ _ (and_parts (is_under_way more) (length more.taken == length (sources v.scheme n j)) e).1 in
      let many : length now ≡ n = length-set places j q in
      let here = set_here places j q j_in in
      let f : ℕ → Type 0 = λ k. length more.taken ≡ length (sources v.scheme k j) → LbtsRule m (slice_set now j (learning q then [] (v.results ++ share_with_taken v.scheme k j (own_share more) more.taken ∷ []))) in
      let done = subst f many (closes m now j q here rule then (omega (arith, w.floor.few, many)) way) all in
      subst (LbtsRule m) (set-set places j q (learning q then [] (v.results ++ share_with_taken v.scheme n j (own_share more) more.taken ∷ []))) done

  by_test : (b : Bool) → (is_under_way v && shows_next (next_source v.scheme n j (length v.taken)) (length v.contributions) r word) ≡ b
      → LbtsRule m (slice_set places j (place (cond b (view_after_close n j more) v)))
  by_test false e = unmoved m places j p w.here w.client then
  by_test true e =
      let parts = and_parts (is_under_way v) (shows_next (next_source v.scheme n j (length v.taken)) (length v.contributions) r word) e in
      let way = way_is v parts.0 in
      let h = shared way (next_is (next_source v.scheme n j (length v.taken)) (length v.contributions) r word parts.1) in
      closed_or_not way (one_more m places j p w.here w.client then w.floor.few way share h.0 h.1) (is_under_way more && length more.taken == length (sources v.scheme n j)) refl

  pub look_kept : LbtsRule m (slice_set places j (place (view_after_look r word p)))
  look_kept =
      let many : n ≡ p.own.federates = sym (w.floor.each j p w.here).federates in
      subst
      (λ k. LbtsRule m (slice_set places j (place (cond (is_under_way v && shows_next (next_source v.scheme k j (length v.taken)) (length v.contributions) r word) (view_after_close k j more) v))))
      many (by_test (is_under_way v && shows_next (next_source v.scheme n j (length v.taken)) (length v.contributions) r word) refl)

pub looks_keep : LooksKeep lbts_rule
looks_keep p r m places w = record {
  client =
      let same : m ≡ with_word m (Register r) (m (Register r)) = sym (stored_same m (Register r)) in
      subst (λ x. LbtsRule x (slice_set places p.own.number (record { own = own_after (Looked r (m (Register r))) p.own; client = view_after_look r (m (Register r)) p }))) same (look_kept p r m places w);
  guests = λ g sees. sees;
}
